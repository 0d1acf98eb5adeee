use Rattle.crq_move.proofs.PinningLaws.{pin_set}
use Rattle.crq_move.proofs.pin.PinOp.set.Goals as goal

pub returns : goal.returns
returns c n x is = pin_set n c.args.table.now x c.args.self.now c.args.pass.now c.pin_step.new.pass is c.args.epoch c.args.pin c.requires.state c.pin_step.ensures
