use Rattle.crq_move.proofs.LeavingLaws.{tag_told}
use Rattle.crq_move.proofs.empty.MoveOp.tag.Goals as goal

pub returns : goal.returns
returns c n x at = tag_told n c.args.table.now x c.args.self.now c.args.pass.now at c.args.row c.requires.state c.epoch_step-epoch.new.pass c.epoch_step-epoch.result c.epoch_step-epoch.ensures.stepped c.requires.room
