use Rattle.crq_base.specs.declared.kinds.StepKind.TheVariants.{Look}
use Rattle.crq_rule.specs.Kinds.{looks}
use Rattle.crq_rule.specs.Moves.{quiet}
use Rattle.crq_rows.proofs.steps.look_step.Given as goal

abbrev pub ghosts-load_as : goal.ghosts-load_as
ghosts-load_as a = record { kind = Look; change = looks a._said.now; tells = quiet }
