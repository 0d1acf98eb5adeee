use Rattle.crq_base.specs.declared.kinds.StepKind.TheVariants.{FreezeHead}
use Rattle.crq_base.specs.Words.{link_word}
use Rattle.crq_rule.specs.MoveKinds.{leaves_head, frozen_link}
use Rattle.crq_rule.specs.Moves.{wins, quiet}
use Rattle.crq_move.proofs.steps.freeze_head_step.Given as goal

abbrev pub ghosts-exchange_as : goal.ghosts-exchange_as
ghosts-exchange_as a = record { kind = FreezeHead; change = wins (link_word a._said.now.2) (leaves_head a._said.now.1 (frozen_link a._said.now.2)); tells = quiet }
