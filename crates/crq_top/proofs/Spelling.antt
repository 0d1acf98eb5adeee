-- A list of words spells one command at most, and none where its words don't fit.
use Rattle.std.proofs.Common.{◌≡◌, ◌<◌, ◌^◌, ℕ, List, [], ◌∷◌, refl, ap, sym, subst, ◌∙◌, inl, inr, arith}
use Rattle.std.specs.Prelude.{codes, bytes_eq, if◌then◌else◌}
use Rattle.std.specs.Fmt.{decimal}
use Rattle.std.specs.Str.Parse.{digits_value}
use Rattle.std.proofs.lemmas.Fmt.{decimal_is_IsNumeral}
use Rattle.crq_top.specs.declared.forms.Parameter.{Parameter}
use Rattle.crq_top.specs.declared.forms.Verb.{Verb}
use Rattle.crq_top.specs.declared.forms.Verb.TheVariants.{Run, Check, Serial, Gen}
use Rattle.crq_top.specs.Commands.{Asked, run, check, serial, gen, Problem, Request, Asks, AllFit, IsProblemOf, IsFirstProblem, IsInRange, Spells, form_of, name_of, operands_of, verb_of}

-- two numbers with one spelling are the same
decimal_once : (a b : ℕ) → a < 2 ^ 64 → b < 2 ^ 64 → decimal a ≡ decimal b → a ≡ b
decimal_once a b la lb same = sym ((decimal_is_IsNumeral a la).1) ∙ ap (digits_value 10) same ∙ (decimal_is_IsNumeral b lb).1

-- the heads of equal lists, and their rests
head_same : (x y : List ℕ) (xs ys : List (List ℕ)) → x ∷ xs ≡ y ∷ ys → x ≡ y
head_same x y xs ys h = cc

rest_same : (x y : List ℕ) (xs ys : List (List ℕ)) → x ∷ xs ≡ y ∷ ys → xs ≡ ys
rest_same x y xs ys h = cc

-- the command of a name
named : List ℕ → Verb
named word = if bytes_eq word (codes "run") then Run else if bytes_eq word (codes "check") then Check else if bytes_eq word (codes "serial") then Serial else Gen

named_is : (v : Verb) → named (name_of v) ≡ v
unfolding named
named_is Run = refl
named_is Check = refl
named_is Serial = refl
named_is Gen = refl

-- no two commands begin with the same word
same_verb : (v w : Verb) → name_of v ≡ name_of w → v ≡ w
same_verb v w h = sym (named_is v) ∙ ap named h ∙ named_is w

-- words that all fit have nothing that is wrong
pub fit_or_not : (most : ℕ) (ps : List Parameter) (ws : List (List ℕ)) (x : Problem) → AllFit most ps ws → IsProblemOf most ps ws x → ⊥
fit_or_not most [] [] x h k = k
fit_or_not most [] (w ∷ ws) x h k = h
fit_or_not most (p ∷ ps) [] x h k = h
fit_or_not most (p ∷ ps) (w ∷ ws) x h k = elim k [ inl bad ↦ bad.0 h.0 | inr later ↦ fit_or_not most ps ws x h.1 later.1 ]

-- the words of a command in range fit its form
pub operands_fit : (most : ℕ) (a : Asked) → IsInRange most a → AllFit most (form_of (verb_of a)) (operands_of a)
operands_fit most (run model workers rows events) h = (tt, ((workers, h.0, refl), ((rows, h.1, refl), ((events, h.2, refl), tt))))
operands_fit most (check model) h = (tt, tt)
operands_fit most (serial model events) h = (tt, ((events, h, refl), tt))
operands_fit most (gen seed objects population) h = ((seed, (omega arith, omega arith), refl), ((objects, h.1, refl), ((population, (omega arith, h.2), refl), tt)))

-- words with something wrong spell no command
pub spells_none : (most : ℕ) (words : List (List ℕ)) (x : Problem) → IsFirstProblem most words x → (a : Asked) → Spells most words a → ⊥
spells_none most [] x h a k = (let s = k.spelled in cc)
spells_none most (w ∷ ws) x h a k =
    let first : w ≡ name_of (verb_of a) = head_same _ _ _ _ k.spelled in
    let rest : ws ≡ operands_of a = rest_same _ _ _ _ k.spelled in
    elim h [
      | inl none ↦ none.0 (verb_of a) first
      | inr one ↦ (let same : one.0 ≡ verb_of a = same_verb one.0 (verb_of a) (sym one.1 ∙ first) in
          let wrong : IsProblemOf most (form_of (verb_of a)) (operands_of a) x = subst (λ ys. IsProblemOf most (form_of (verb_of a)) ys x) rest (subst (λ v. IsProblemOf most (form_of v) ws x) same one.2) in
          fit_or_not most (form_of (verb_of a)) (operands_of a) x (operands_fit most a k.in_range) wrong)
    ]

same_run : (m n : List ℕ) (v w r s e f : ℕ) → m ≡ n → v ≡ w → r ≡ s → e ≡ f → run m v r e ≡ run n w s f
same_run m n v w r s e f h i k l = cc

same_serial : (m n : List ℕ) (e f : ℕ) → m ≡ n → e ≡ f → serial m e ≡ serial n f
same_serial m n e f h k = cc

same_gen : (s t o p q r : ℕ) → s ≡ t → o ≡ p → q ≡ r → gen s o q ≡ gen t p r
same_gen s t o p q r h k l = cc

-- commands with one name and the same words behind it are the same
same_command : (most : ℕ) (a b : Asked) → most < 2 ^ 64 → verb_of a ≡ verb_of b → operands_of a ≡ operands_of b → IsInRange most a → IsInRange most b → a ≡ b
same_command most (run m v r e) (run n w s f) few verb h ka kb =
    let one = rest_same _ _ _ _ h in
    let two = rest_same _ _ _ _ one in
    let hv = ka.0 in let hr = ka.1 in let he = ka.2 in let kv = kb.0 in let kr = kb.1 in let ke = kb.2 in
    same_run m n v w r s e f (head_same _ _ _ _ h) (decimal_once v w (omega arith) (omega arith) (head_same _ _ _ _ one))
    (decimal_once r s (omega arith) (omega arith) (head_same _ _ _ _ two)) (decimal_once e f (omega arith) (omega arith) (head_same _ _ _ _ (rest_same _ _ _ _ two)))
same_command most (run m v r e) (check n) few verb h ka kb = absurd (cc)
same_command most (run m v r e) (serial n f) few verb h ka kb = absurd (cc)
same_command most (run m v r e) (gen t p q) few verb h ka kb = absurd (cc)
same_command most (check m) (run n w s f) few verb h ka kb = absurd (cc)
same_command most (check m) (check n) few verb h ka kb = ap check (head_same _ _ _ _ h)
same_command most (check m) (serial n f) few verb h ka kb = absurd (cc)
same_command most (check m) (gen t p q) few verb h ka kb = absurd (cc)
same_command most (serial m e) (run n w s f) few verb h ka kb = absurd (cc)
same_command most (serial m e) (check n) few verb h ka kb = absurd (cc)
same_command most (serial m e) (serial n f) few verb h ka kb =
    same_serial m n e f (head_same _ _ _ _ h) (decimal_once e f (omega arith) (omega arith) (head_same _ _ _ _ (rest_same _ _ _ _ h)))
same_command most (serial m e) (gen t p q) few verb h ka kb = absurd (cc)
same_command most (gen s o p) (run n w r f) few verb h ka kb = absurd (cc)
same_command most (gen s o p) (check n) few verb h ka kb = absurd (cc)
same_command most (gen s o p) (serial n f) few verb h ka kb = absurd (cc)
same_command most (gen s o p) (gen t q r) few verb h ka kb =
    let one = rest_same _ _ _ _ h in
    let two = rest_same _ _ _ _ one in
    let ho = ka.1 in let ko = kb.1 in let hp = ka.2 in let kp = kb.2 in
    same_gen s t o q p r (decimal_once s t ka.0 kb.0 (head_same _ _ _ _ h)) (decimal_once o q (omega arith) (omega arith) (head_same _ _ _ _ one)) (decimal_once p r (omega arith) (omega arith) (head_same _ _ _ _ two))

pub one_spelled : (most : ℕ) (words : List (List ℕ)) (a b : Asked) → most < 2 ^ 64 → Spells most words a → Spells most words b → a ≡ b
one_spelled most words a b few h k =
    let same = sym h.spelled ∙ k.spelled in
    same_command most a b few (same_verb (verb_of a) (verb_of b) (head_same _ _ _ _ same)) (rest_same _ _ _ _ same) h.in_range k.in_range

-- so a request is for one command at most
pub one_asked : (q : Request) (a b : Asked) → q.most < 2 ^ 64 → Asks q a → Asks q b → a ≡ b
one_asked q a b few h k = one_spelled q.most q.words a b few h.spells k.spells
