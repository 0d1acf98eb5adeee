use Rattle.std.proofs.Common.{◌≡◌, List, ℕ, ◌++◌, ◌∷◌, sym, ◌∙◌}
use Rattle.crq_sim.specs.declared.model.BehaviourName.{BehaviourName}
use Rattle.crq_sim.specs.Kinds.{kind_word}
use Rattle.crq_printer.proofs.FieldLaws.{same_field, kind_lacks, if_none}
use Rattle.crq_printer.proofs.parts.read_kind.Goals as goal

pub returns-in_err-kind-clause-none : goal.returns-in_err-kind-clause-none
returns-in_err-kind-clause-none c =
    if_none _ ((kind : BehaviourName) (back : List ℕ) → c.args.text.now ≡ kind_word kind ++ (32 ∷ back) → ⊥)
    (λ kind back e. c.in_err-kind.ensures.none kind (same_field 32 c.in_ok-word.word.now (kind_word kind) c.in_ok-word.rest.now back c.in_ok-word.ensures.first (kind_lacks kind) (sym c.in_ok-word.ensures.parts ∙ e)).0)
