use Rattle.crq_base.specs.declared.kinds.StepKind.TheVariants.{Write}
use Rattle.crq_rule.specs.ListKinds.{writes}
use Rattle.crq_rule.specs.Moves.{quiet}
use Rattle.crq_rows.proofs.steps.write_step.Given as goal

abbrev pub ghosts-store_as : goal.ghosts-store_as
ghosts-store_as a = record { kind = Write; change = λ w. writes a._said.now.0 a._said.now.1 w; tells = quiet }
