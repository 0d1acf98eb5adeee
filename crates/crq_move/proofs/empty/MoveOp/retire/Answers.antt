use Rattle.crq_move.proofs.LeavingLaws.{retire_told}
use Rattle.crq_move.proofs.empty.MoveOp.retire.Goals as goal

pub returns : goal.returns
returns c n x at = retire_told n c.args.table.now x c.args.self.now c.args.pass.now at c.args.row c.args.epoch c.requires.state c.retire_step.new.pass c.requires.room c.retire_step.ensures
