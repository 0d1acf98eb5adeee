use Rattle.crq_base.specs.declared.kinds.StepKind.TheVariants.{Copy}
use Rattle.crq_base.specs.Words.{link_word}
use Rattle.crq_rule.specs.Moves.{wins, quiet}
use Rattle.crq_list.specs.Swaps.{owes_copy}
use Rattle.crq_list.proofs.steps.copy_step.Given as goal

abbrev pub ghosts-exchange_seated : goal.ghosts-exchange_seated
ghosts-exchange_seated a = record { kind = Copy; change = wins (link_word a._said.now.0) (owes_copy a._said.now.1); tells = quiet }
