use Rattle.crq_base.specs.Words.{IsControl}
use Rattle.crq_move_trials.specs.Moving.{MayHelp}
use Rattle.crq_move_trials.specs.Looking.{IsLooker}
use Rattle.crq_move_trials.proofs.tests.moving.run.Given as goal

abbrev pub invariant-loop : goal.invariant-loop
invariant-loop l = (MayHelp l.scene.table l.scene.first × MayHelp l.scene.table l.scene.second) × (MayHelp l.scene.table l.scene.third × MayHelp l.scene.table l.scene.fourth) × (IsLooker l.scene.table l.scene.looker × IsControl l.scene.control)
