use Rattle.crq_move.proofs.FinishingLaws.{current_passed}
use Rattle.crq_move.proofs.finish.FinishOp.pass.Goals as goal

pub returns : goal.returns
returns c n x is = current_passed n c.args.table.now x c.args.self.now c.args.pass.now c.pass_step.new.pass is c.args.pin c.args.current c.requires.state c.pass_step.ensures
