use Rattle.std.proofs.Common.{false, refl, subst}
use Rattle.crq_list.specs.declared.parts.Progress.{Progress}
use Rattle.crq_list.specs.declared.parts.Progress.TheVariants.{More}
use Rattle.crq_list.specs.declared.insert.InsertOp.{InsertOp}
use Rattle.crq_list.specs.declared.insert.InsertEnd.{InsertEnd}
use Rattle.crq_list.specs.declared.insert.InsertState.{InsertState}
use Rattle.crq_list.specs.declared.insert.InsertState.TheVariants.{Writing}
use Rattle.crq_list.specs.Inserting.{InsertStepped, insert_exchanges}
use Rattle.crq_list.proofs.Stretching.{one_more, the_last, fell}
use Rattle.crq_list.proofs.insert.write_words.Goals as goal

pub write_word-told-requires-clause-of : goal.write_word-told-requires-clause-of
write_word-told-requires-clause-of c = c.loop-next.invariant.0

pub write_word-told-requires-clause-op : goal.write_word-told-requires-clause-op
write_word-told-requires-clause-op c = let o = c.requires.op in (o.0, o.1, (c.loop-next.invariant.1 o.0 o.1 o.2).0)

pub returns-in_default : goal.returns-in_default
returns-in_default c n x at = let g = c.loop-next.invariant.1 n x at in the_last InsertOp (Progress InsertEnd) (InsertStepped n c.args.table.now x) insert_exchanges More _ _ _ _ _ _ _ g.1 (c.write_word-told.ensures n x g.0)

pub returns-in_default-2 : goal.returns-in_default-2
returns-in_default-2 c n x at = let g = c.loop-next.invariant.1 n x at in the_last InsertOp (Progress InsertEnd) (InsertStepped n c.args.table.now x) insert_exchanges More _ _ _ _ _ _ _ g.1 (c.write_word-told.ensures n x g.0)

pub loop-next-smaller : goal.loop-next-smaller
loop-next-smaller c = let o = c.requires.op in let g = c.loop-next.invariant.1 o.0 o.1 o.2 in let now = c.in-Writing-More in
    let step = subst (λ (z : InsertState × Progress InsertEnd). InsertStepped o.0 c.args.table.now o.1 (record c.args.op.now { state = Writing c.loop-next.place }) (record c.args.op.now { state = z.0 }) c.loop-next.pass c.write_word-told.new.pass z.1) (λ i. (now.is-0 i, now.is-1 i)) (c.write_word-told.ensures o.0 o.1 g.0) in
    fell false _ _ refl step.answers.4

pub loop-next-preserved : goal.loop-next-preserved
loop-next-preserved c = let o = c.requires.op in let g = c.loop-next.invariant in let now = c.in-Writing-More in (
  (c.write_word-told.ensures o.0 o.1 (g.1 o.0 o.1 o.2).0).is,
  λ n x at. let here = g.1 n x at in
      let step = subst (λ (z : InsertState × Progress InsertEnd). InsertStepped n c.args.table.now x (record c.args.op.now { state = Writing c.loop-next.place }) (record c.args.op.now { state = z.0 }) c.loop-next.pass c.write_word-told.new.pass z.1) (λ i. (now.is-0 i, now.is-1 i)) (c.write_word-told.ensures n x here.0) in
      (step.answers.0, one_more InsertOp (Progress InsertEnd) (InsertStepped n c.args.table.now x) insert_exchanges More _ _ _ _ _ _ here.1 step refl),
)
