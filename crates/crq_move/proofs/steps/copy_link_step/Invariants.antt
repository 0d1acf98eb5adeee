use Rattle.crq_base.specs.declared.kinds.StepKind.TheVariants.{Walk}
use Rattle.crq_rule.specs.Moves.{FoundCopy}
use Rattle.crq_move.proofs.steps.copy_link_step.Given as goal

abbrev pub ghosts-load_seated : goal.ghosts-load_seated
ghosts-load_seated a = record { kind = Walk; turns = FoundCopy a._said.now }
