use Rattle.crq_move_trials.proofs.Looking.{come_first}
use Rattle.crq_move_trials.proofs.tests.moved.first.Goals as goal

pub returns-clause-come : goal.returns-clause-come
returns-clause-come c = come_first c.args.table.now c.args.pass.now c.head_step.new.pass _ c.head_step.result c.head_step.ensures
