use Rattle.crq_base.specs.declared.kinds.StepKind.TheVariants.{Claim}
use Rattle.crq_rule.specs.Kinds.{claims}
use Rattle.crq_rule.specs.Moves.{TellsRoom}
use Rattle.crq_rows.proofs.steps.claim_step.Given as goal

abbrev pub ghosts-store_seated : goal.ghosts-store_seated
ghosts-store_seated a = record { kind = Claim; change = λ _. claims a._said.now.0; tells = TellsRoom }
