use Rattle.std.proofs.Common.{sym, ◌∙◌}
use Rattle.crq_move.proofs.FinishingLaws.{control_still}
use Rattle.crq_move.proofs.finish.FinishOp.load_control.Goals as goal

pub returns-then-pack : goal.returns-then-pack
returns-then-pack c n x is = let s = c.control_step-control in control_still n c.args.table.now x c.args.self.now c.args.pass.now s.new.pass is c.args.pin c.args.current c.requires.state s.result s.ensures (sym c.pack.ensures ∙ c.if-pack.true ∙ c.pack-2.ensures)
