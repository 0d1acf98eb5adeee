use Rattle.crq_base.specs.declared.kinds.StepKind.TheVariants.{Pop}
use Rattle.crq_base.specs.Words.{link_word}
use Rattle.crq_rule.specs.ListKinds.{cuts}
use Rattle.crq_rule.specs.Moves.{wins, quiet}
use Rattle.crq_move.proofs.steps.pop_step.Given as goal

abbrev pub ghosts-exchange_as : goal.ghosts-exchange_as
ghosts-exchange_as a = record { kind = Pop; change = wins (link_word a._said.now.1) (cuts a._said.now.1.row); tells = quiet }
