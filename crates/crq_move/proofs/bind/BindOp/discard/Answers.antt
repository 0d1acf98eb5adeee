use Rattle.std.proofs.Common.{subst}
use Rattle.std.specs.Prelude.{None, cond}
use Rattle.crq_base.specs.declared.kinds.StepKind.TheVariants.{Discard}
use Rattle.crq_base.specs.Words.{link_word}
use Rattle.crq_rule.specs.Places.{index, link}
use Rattle.crq_rule.specs.CopyKinds.{dead_link, lost_name, discards}
use Rattle.crq_move.specs.Names.{names_lost}
use Rattle.crq_move.specs.Steps.{WordLeft}
use Rattle.crq_move.proofs.BindingLaws.{drop_won, drop_lost}
use Rattle.crq_move.proofs.bind.BindOp.discard.Goals as goal

pub returns-then-drop_step : goal.returns-then-drop_step
returns-then-drop_step c n x at = let table = c.args.table.now in let old = c.args.pass.now in let d = c.args.self.now.debt in let m = c.args.link in let s = c.drop_step in
    let left = subst (λ b. WordLeft Discard table old s.new.pass (index table.start.layout (link d.copy)) (link_word m) (link_word (dead_link m)) (discards d.copy m (lost_name d) None) (cond b (names_lost (lost_name d) None old.debts) old.debts) b) c.if-drop_step.true s.ensures in
    drop_won n table c.args.self.now old s.new.pass at m c.requires.state left

pub returns : goal.returns
returns c n x at = let table = c.args.table.now in let old = c.args.pass.now in let d = c.args.self.now.debt in let m = c.args.link in let s = c.drop_step in
    let left = subst (λ b. WordLeft Discard table old s.new.pass (index table.start.layout (link d.copy)) (link_word m) (link_word (dead_link m)) (discards d.copy m (lost_name d) None) (cond b (names_lost (lost_name d) None old.debts) old.debts) b) c.if-drop_step.false s.ensures in
    drop_lost n table c.args.self.now old s.new.pass at m c.requires.state left
