-- What stands behind each field of a heading.
use Rattle.std.proofs.Common.{◌≡◌, true, ℕ, ◌<◌, ◌^◌, List, [], ◌∷◌, ◌++◌, codes, refl, sym, ◌∙◌, arith, append_assoc}
use Rattle.std.specs.Fmt.{decimal}
use Rattle.std.proofs.lemmas.List.{append-nil}
use Rattle.crq_sim.specs.Names.{is_name}
use Rattle.crq_sim.specs.declared.model.BehaviourName.{BehaviourName}
use Rattle.crq_sim.specs.Kinds.{kind_word}
use Rattle.crq_printer.specs.Texts.{heading_line}
use Rattle.crq_printer.proofs.FieldLaws.{same_field, same_number, name_lacks, kind_lacks, Lacks-from_test}

abbrev pub behind_kind : ℕ → List ℕ → List ℕ
behind_kind count back = decimal count ++ (10 ∷ back)

abbrev pub behind_name : BehaviourName → ℕ → List ℕ → List ℕ
behind_name kind count back = kind_word kind ++ (32 ∷ behind_kind count back)

abbrev pub behind_number : List ℕ → BehaviourName → ℕ → List ℕ → List ℕ
behind_number name kind count back = name ++ (32 ∷ behind_name kind count back)

abbrev pub behind_object : ℕ → List ℕ → BehaviourName → ℕ → List ℕ → List ℕ
behind_object number name kind count back = decimal number ++ (32 ∷ behind_number name kind count back)

heading_spread : (number : ℕ) (name : List ℕ) (kind : BehaviourName) (count : ℕ) (back : List ℕ) → heading_line number name kind count ++ back ≡ codes "object" ++ (32 ∷ behind_object number name kind count back)
heading_spread number name kind count back = simp append_assoc

module _ (number : ℕ) (small : number < 2 ^ 64) (name : List ℕ) (is : is_name name ≡ true) (kind : BehaviourName) (count : ℕ) (back : List ℕ) where
  pub object_read : (text rest : List ℕ) → text ≡ codes "object" ++ (32 ∷ rest) → text ≡ heading_line number name kind count ++ back → rest ≡ behind_object number name kind count back
  object_read text rest parts e =
      let lacks = Lacks-from_test 32 (codes "object") refl in
      (same_field 32 (codes "object") (codes "object") rest (behind_object number name kind count back) lacks lacks (sym parts ∙ e ∙ heading_spread number name kind count back)).1

  pub number_read : (text rest : List ℕ) → text ≡ decimal number ++ (32 ∷ rest) → text ≡ behind_object number name kind count back → rest ≡ behind_number name kind count back
  number_read text rest parts e = (same_number 32 number number rest (behind_number name kind count back) (omega arith) small small (sym parts ∙ e)).1

  pub name_read : (text rest found : List ℕ) → is_name found ≡ true → text ≡ found ++ (32 ∷ rest) → text ≡ behind_number name kind count back → (found ≡ name) × (rest ≡ behind_name kind count back)
  name_read text rest found name_found parts e = same_field 32 found name rest (behind_name kind count back) (name_lacks 32 found (omega arith) name_found) (name_lacks 32 name (omega arith) is) (sym parts ∙ e)

  pub kind_read : (text rest : List ℕ) (found : BehaviourName) → text ≡ kind_word found ++ (32 ∷ rest) → text ≡ behind_name kind count back → rest ≡ behind_kind count back
  kind_read text rest found parts e = (same_field 32 (kind_word found) (kind_word kind) rest (behind_kind count back) (kind_lacks found) (kind_lacks kind) (sym parts ∙ e)).1

-- headings that are the same line say the same count
pub same_count : (number : ℕ) (name name' : List ℕ) (kind kind' : BehaviourName) (count count' : ℕ) → number < 2 ^ 64 → is_name name ≡ true → is_name name' ≡ true → count < 2 ^ 64 → count' < 2 ^ 64
    → heading_line number name kind count ≡ heading_line number name' kind' count' → count ≡ count'
same_count number name name' kind kind' count count' small is is' few few' e =
    let whole = e ∙ sym (append-nil (heading_line number name' kind' count')) in
    let object = object_read number small name' is' kind' count' [] (heading_line number name kind count) (behind_object number name kind count []) refl whole in
    let digits = number_read number small name' is' kind' count' [] (behind_object number name kind count []) (behind_number name kind count []) refl object in
    let names = (name_read number small name' is' kind' count' [] (behind_number name kind count []) (behind_name kind count []) name is refl digits).1 in
    let kinds = kind_read number small name' is' kind' count' [] (behind_name kind count []) (behind_kind count []) kind refl names in
    (same_number 10 count count' [] [] (omega arith) few few' kinds).0
