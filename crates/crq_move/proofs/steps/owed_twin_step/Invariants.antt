use Rattle.crq_base.specs.declared.kinds.StepKind.TheVariants.{TwinLoad}
use Rattle.crq_rule.specs.CopyKinds.{finds_twin}
use Rattle.crq_rule.specs.Moves.{TellsTwin}
use Rattle.crq_move.proofs.steps.owed_twin_step.Given as goal

abbrev pub ghosts-load_as : goal.ghosts-load_as
ghosts-load_as a = record { kind = TwinLoad; change = finds_twin a._said.now; tells = TellsTwin }
