use Rattle.crq_move.proofs.BindingLaws.{copy_dead, copy_stands}
use Rattle.crq_move.proofs.bind.BindOp.copy_link.Goals as goal

pub returns-in-Del : goal.returns-in-Del
returns-in-Del c n x at = let s = c.copy_link_step-link in copy_dead n c.args.table.now c.args.self.now c.args.pass.now s.new.pass at c.requires.state s.result s.ensures c.in-Del.is

pub returns-in_default : goal.returns-in_default
returns-in_default c n x at = let s = c.copy_link_step-link in copy_stands n c.args.table.now c.args.self.now c.args.pass.now s.new.pass at c.requires.state s.result s.ensures c.in_default.not-Del
