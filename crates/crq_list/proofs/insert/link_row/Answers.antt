use Rattle.std.proofs.Common.{sym, subst}
use Rattle.crq_rule.specs.declared.debts.CopyDebt.{CopyDebt}
use Rattle.crq_rows.specs.Passes.{caller}
use Rattle.crq_list.specs.declared.parts.Progress.{Progress}
use Rattle.crq_list.specs.declared.insert.InsertEnd.{InsertEnd}
use Rattle.crq_list.specs.declared.insert.InsertState.{InsertState}
use Rattle.crq_list.specs.declared.insert.InsertState.TheVariants.{Linking}
use Rattle.crq_list.specs.Spots.{cell}
use Rattle.crq_list.specs.Swaps.{MayOweCopy, CopySwapped}
use Rattle.crq_list.specs.Inserting.{InsertStepped}
use Rattle.crq_list.proofs.InsertLaws.{may_link, may_copy, links_told, copies_told}
use Rattle.crq_list.proofs.insert.link_row.Goals as goal

pub link_step-linked-requires-clause-may : goal.link_step-linked-requires-clause-may
link_step-linked-requires-clause-may c = let op = c.requires.op in (op.1, may_link op.0 c.args.table.now op.1 c.args.op.now c.args.before c.args.pass.now c.requires.of op.2 c.in-None.is)

pub copy_step-linked-requires-clause-may : goal.copy_step-linked-requires-clause-may
copy_step-linked-requires-clause-may c = let op = c.requires.op in subst (λ (d : CopyDebt). MayOweCopy (cell c.args.before.spot) c.args.before.link d (caller c.args.table.now c.args.pass.now)) (sym c.debt-debt.ensures)
    (may_copy op.0 c.args.table.now op.1 c.args.op.now c.args.before c.args.pass.now c.requires.of op.2 c.in-Some.of c.in-Some.is)

pub returns-in-None : goal.returns-in-None
returns-in-None c n x i = let table = c.args.table.now in let op = c.args.op.now in let b = c.args.before in let old = c.args.pass.now in let new = c.link_step-linked.new.pass in
    subst (λ (z : InsertState × Progress InsertEnd). InsertStepped n table x (record op { state = Linking b }) (record op { state = z.0 }) old new z.1) (sym c.after_link.ensures)
    (links_told n table x op old new b c.link_step-linked.result c.requires.of c.in-None.is (c.link_step-linked.ensures x (may_link n table x op b old c.requires.of i c.in-None.is)) i)

pub returns-in-Some : goal.returns-in-Some
returns-in-Some c n x i = let table = c.args.table.now in let op = c.args.op.now in let b = c.args.before in let old = c.args.pass.now in let new = c.copy_step-linked.new.pass in
    subst (λ (z : InsertState × Progress InsertEnd). InsertStepped n table x (record op { state = Linking b }) (record op { state = z.0 }) old new z.1) (sym c.after_link-in-Some.ensures)
    (copies_told n table x op old new b c.copy_step-linked.result c.in-Some.of c.requires.of c.in-Some.is (subst (λ (d : CopyDebt). CopySwapped table old new (cell b.spot) b.link d c.copy_step-linked.result) c.debt-debt.ensures c.copy_step-linked.ensures) i)
