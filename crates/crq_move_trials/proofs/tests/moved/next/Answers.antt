use Rattle.crq_move_trials.proofs.Looking.{come_next}
use Rattle.crq_move_trials.proofs.tests.moved.next.Goals as goal

pub returns-clause-come : goal.returns-clause-come
returns-clause-come c = come_next c.args.table.now c.args.pass.now c.row_step.new.pass c.args.row c.row_step.result c.row_step.ensures
