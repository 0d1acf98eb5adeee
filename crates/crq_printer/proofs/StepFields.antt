-- What stands behind each field of a step's line.
use Rattle.std.proofs.Common.{◌≡◌, ℕ, ◌<◌, ◌≤◌, ◌^◌, List, ◌∷◌, ◌++◌, sym, ◌∙◌, arith, append_assoc}
use Rattle.std.specs.Fmt.{decimal}
use Rattle.crq_sim.specs.declared.traces.Step.{Step}
use Rattle.crq_printer.specs.Texts.{step_line}
use Rattle.crq_printer.specs.Reading.{IsStepOf}
use Rattle.crq_printer.proofs.FieldLaws.{same_number}

abbrev pub behind_count : Step → List ℕ → List ℕ
behind_count s back = decimal s.word ++ (10 ∷ back)

abbrev pub behind_load : Step → List ℕ → List ℕ
behind_load s back = decimal s.count ++ (32 ∷ behind_count s back)

abbrev pub behind_seq : Step → List ℕ → List ℕ
behind_seq s back = decimal s.event.load ++ (32 ∷ behind_load s back)

abbrev pub behind_src : Step → List ℕ → List ℕ
behind_src s back = decimal s.event.seq ++ (32 ∷ behind_seq s back)

abbrev pub behind_time : Step → List ℕ → List ℕ
behind_time s back = decimal s.event.src ++ (32 ∷ behind_src s back)

pub step_spread : (s : Step) (back : List ℕ) → step_line s ++ back ≡ decimal s.event.time ++ (32 ∷ behind_time s back)
step_spread s back = simp append_assoc

module _ (number : ℕ) (s : Step) (back : List ℕ) (is : IsStepOf number s) where
  pub time_read : (text rest : List ℕ) (n most : ℕ) → most < 2 ^ 64 → n ≤ most → text ≡ decimal n ++ 32 ∷ rest → text ≡ step_line s ++ back → rest ≡ behind_time s back
  time_read text rest n most small le parts e = (same_number 32 n s.event.time rest (behind_time s back) (omega arith) (omega arith) (omega (arith, is.time)) (sym parts ∙ e ∙ step_spread s back)).1

  pub src_read : (text rest : List ℕ) (n most : ℕ) → most < 2 ^ 64 → n ≤ most → text ≡ decimal n ++ 32 ∷ rest → text ≡ behind_time s back → rest ≡ behind_src s back
  src_read text rest n most small le parts e = (same_number 32 n s.event.src rest (behind_src s back) (omega arith) (omega arith) (omega (arith, is.src)) (sym parts ∙ e)).1

  pub seq_read : (text rest : List ℕ) (n most : ℕ) → most < 2 ^ 64 → n ≤ most → text ≡ decimal n ++ 32 ∷ rest → text ≡ behind_src s back → rest ≡ behind_seq s back
  seq_read text rest n most small le parts e = (same_number 32 n s.event.seq rest (behind_seq s back) (omega arith) (omega arith) is.seq (sym parts ∙ e)).1

  pub load_read : (text rest : List ℕ) (n most : ℕ) → most < 2 ^ 64 → n ≤ most → text ≡ decimal n ++ 32 ∷ rest → text ≡ behind_seq s back → rest ≡ behind_load s back
  load_read text rest n most small le parts e = (same_number 32 n s.event.load rest (behind_load s back) (omega arith) (omega arith) is.load (sym parts ∙ e)).1

  pub count_read : (text rest : List ℕ) (n most : ℕ) → most < 2 ^ 64 → n ≤ most → text ≡ decimal n ++ 32 ∷ rest → text ≡ behind_load s back → rest ≡ behind_count s back
  count_read text rest n most small le parts e = (same_number 32 n s.count rest (behind_count s back) (omega arith) (omega arith) is.count (sym parts ∙ e)).1
