use Rattle.crq_base.specs.declared.kinds.StepKind.TheVariants.{Tick}
use Rattle.crq_rule.specs.Kinds.{ticks}
use Rattle.crq_rule.specs.Moves.{TellsEpoch}
use Rattle.crq_rows.proofs.steps.tick_step.Given as goal

abbrev pub ghosts-exchange_as : goal.ghosts-exchange_as
ghosts-exchange_as a = record { kind = Tick; change = ticks a._said.now; tells = TellsEpoch }
