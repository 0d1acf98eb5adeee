-- Steps that are read one after another.
use Rattle.std.proofs.Common.{◌≡◌, ℕ, ◌+◌, ◌<◌, ◌≤◌, List, [], ◌∷◌, ◌++◌, map, length, refl, sym, ap, ◌∙◌, arith, append_assoc, length-append}
use Rattle.std.specs.Prelude.{All}
use Rattle.std.specs.Fmt.{decimal}
use Rattle.std.specs.List.{concat}
use Rattle.std.proofs.lemmas.List.{map_push}
use Rattle.std.proofs.lemmas.List.Elements.{All-nil, All-push}
use Rattle.crq_sim.specs.declared.traces.Step.{Step}
use Rattle.crq_printer.specs.Texts.{line, step_line}
use Rattle.crq_printer.specs.Reading.{IsStepOf}
use Rattle.crq_printer.specs.Parts.{NoStep, IsStepWrong}
use Rattle.crq_printer.proofs.StepLines.{concat_push}

-- so many steps were read from the text, and this is left of it
pub record AreRead (number taken : ℕ) (text rest : List ℕ) (steps : List Step) : Type 0 where
  pub count : length steps ≡ taken
  pub all : All (IsStepOf number) steps
  pub parts : text ≡ concat (map step_line steps) ++ rest
  pub room : taken + length rest ≤ length text

pub none_read : (number : ℕ) (text : List ℕ) → AreRead number 0 text text []
none_read number text = record { count = refl; all = All-nil (IsStepOf number); parts = refl; room = omega arith }

step_long : (s : Step) (back : List ℕ) → length back < length (step_line s ++ back)
step_long s back = omega (arith, length-append (step_line s) back, length-append (decimal s.event.time) (32 ∷ line (decimal s.event.src ∷ decimal s.event.seq ∷ decimal s.event.load ∷ decimal s.count ∷ decimal s.word ∷ [])))

pub step_read : (number taken : ℕ) (text rest behind : List ℕ) (steps : List Step) (s : Step) → AreRead number taken text rest steps → IsStepOf number s → rest ≡ step_line s ++ behind → AreRead number (taken + 1) text behind (steps ++ s ∷ [])
step_read number taken text rest behind steps s before is parts =
    let lines = map step_line steps in
    let joined : concat (map step_line (steps ++ s ∷ [])) ≡ concat lines ++ step_line s = ap concat (map_push step_line steps s) ∙ concat_push lines (step_line s) in
    record {
      count = omega (arith, length-append steps (s ∷ []), before.count);
      all = All-push (IsStepOf number) steps s before.all is;
      parts = before.parts ∙ ap (λ (bs : List ℕ). concat lines ++ bs) parts ∙ sym (append_assoc (concat lines) (step_line s) behind) ∙ ap (λ (bs : List ℕ). bs ++ behind) (sym joined);
      room = omega (arith, before.room, step_long s behind, ap length parts);
    }

pub step_missing : (number taken count line : ℕ) (text rest : List ℕ) (steps : List Step) → AreRead number taken text rest steps → taken < count → NoStep number rest → IsStepWrong number count text line (line + taken)
step_missing number taken count line text rest steps before fewer none = record {
  read = steps;
  rest = rest;
  steps = before.all;
  fewer = omega (arith, before.count);
  parts = before.parts;
  none = none;
  place = omega (arith, before.count);
}
