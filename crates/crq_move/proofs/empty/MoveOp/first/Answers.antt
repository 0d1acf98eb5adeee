use Rattle.std.proofs.Common.{sym, subst}
use Rattle.crq_list.specs.declared.parts.Progress.TheVariants.{More}
use Rattle.crq_move.specs.declared.empty.MoveState.{MoveState}
use Rattle.crq_move.specs.Emptying.{EmptyStepped}
use Rattle.crq_move.proofs.RowLaws.{may_first, first_told}
use Rattle.crq_move.proofs.empty.MoveOp.first.Goals as goal

pub row_step-link-requires-clause-on : goal.row_step-link-requires-clause-on
row_step-link-requires-clause-on c = let o = c.requires.op in may_first o.0 c.args.table.now o.1 c.args.self.now c.args.pass.now o.2 c.args.head c.requires.state

pub returns : goal.returns
returns c n x at = let op = c.args.self.now in let s = c.row_step-link in let told = first_told n c.args.table.now x op c.args.pass.now at s.new.pass c.args.head s.result c.requires.state s.ensures c.requires.room in
    subst (λ (z : MoveState). EmptyStepped n c.args.table.now x op (record op { state = z }) c.args.pass.now s.new.pass More) (sym c.after_first-self.ensures) told
