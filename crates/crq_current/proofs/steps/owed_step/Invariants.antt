use Rattle.crq_base.specs.declared.kinds.StepKind.TheVariants.{SettleLoad}
use Rattle.crq_rule.specs.Moves.{FoundOwed}
use Rattle.crq_current.proofs.steps.owed_step.Given as goal

abbrev pub ghosts-load_seated : goal.ghosts-load_seated
ghosts-load_seated a = record { kind = SettleLoad; turns = FoundOwed a._said.now }
