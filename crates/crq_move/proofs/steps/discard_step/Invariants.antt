use Rattle.std.proofs.Common.{None}
use Rattle.crq_base.specs.declared.kinds.StepKind.TheVariants.{Discard}
use Rattle.crq_base.specs.Words.{link_word}
use Rattle.crq_rule.specs.CopyKinds.{discards, front_name}
use Rattle.crq_rule.specs.Moves.{wins, quiet}
use Rattle.crq_move.proofs.steps.discard_step.Given as goal

abbrev pub ghosts-exchange_seated : goal.ghosts-exchange_seated
ghosts-exchange_seated a = let s = a._said.now in record { kind = Discard; change = wins (link_word s.3) (discards s.1 s.3 (front_name s.0 s.1 s.2 s.3) None); tells = quiet }
