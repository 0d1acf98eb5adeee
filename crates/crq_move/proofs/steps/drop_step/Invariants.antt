use Rattle.std.proofs.Common.{None}
use Rattle.crq_base.specs.declared.kinds.StepKind.TheVariants.{Discard}
use Rattle.crq_base.specs.Words.{link_word}
use Rattle.crq_rule.specs.CopyKinds.{discards, lost_name}
use Rattle.crq_rule.specs.Moves.{wins, quiet}
use Rattle.crq_move.proofs.steps.drop_step.Given as goal

abbrev pub ghosts-exchange_seated : goal.ghosts-exchange_seated
ghosts-exchange_seated a = record { kind = Discard; change = wins (link_word a._said.now.1) (discards a._said.now.0.copy a._said.now.1 (lost_name a._said.now.0) None); tells = quiet }
