use Rattle.crq_base.specs.declared.kinds.StepKind.TheVariants.{Announce}
use Rattle.crq_rule.specs.Moves.{FoundAnnounce}
use Rattle.crq_move.proofs.steps.announce_step.Given as goal

abbrev pub ghosts-exchange_turning : goal.ghosts-exchange_turning
ghosts-exchange_turning a = record { kind = Announce; turns = FoundAnnounce a._said.now.0 a._said.now.1 a._said.now.2 }
