use Rattle.crq_move.proofs.PinningLaws.{pin_older, pin_later}
use Rattle.crq_move.proofs.pin.PinOp.load_pin.Goals as goal

pub returns-then-pin-self : goal.returns-then-pin-self
returns-then-pin-self c n x is = pin_older n c.args.table.now x c.args.self.now c.args.pass.now c.pin_load_step-pin.new.pass is c.args.epoch c.pin_load_step-pin.result c.requires.state c.pin_load_step-pin.ensures c.if-pin-self.true

pub returns : goal.returns
returns c n x is = pin_later n c.args.table.now x c.args.self.now c.args.pass.now c.pin_load_step-pin.new.pass is c.args.epoch c.pin_load_step-pin.result c.requires.state c.pin_load_step-pin.ensures c.if-pin-self.false c.if-pin-self-2.false
