use Rattle.crq_move.proofs.FinishingLaws.{table_opened}
use Rattle.crq_move.proofs.finish.FinishOp.open.Goals as goal

pub returns : goal.returns
returns c n x is = table_opened n c.args.table.now x c.args.self.now c.args.pass.now c.finish_step.new.pass is c.args.pin c.args.current c.requires.state c.finish_step.ensures
