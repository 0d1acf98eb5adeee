use Rattle.std.proofs.Common.{false, refl, subst}
use Rattle.crq_list.specs.declared.parts.Progress.{Progress}
use Rattle.crq_list.specs.declared.parts.Progress.TheVariants.{More}
use Rattle.crq_list.specs.declared.take.TakeOp.{TakeOp}
use Rattle.crq_list.specs.declared.take.MarkEnd.{MarkEnd}
use Rattle.crq_list.specs.declared.take.TakeState.{TakeState}
use Rattle.crq_list.specs.declared.take.TakeState.TheVariants.{Walking}
use Rattle.crq_list.specs.Taking.{TakeStepped, take_exchanges}
use Rattle.crq_list.proofs.Stretching.{one_more, the_last, fell}
use Rattle.crq_list.proofs.take.TakeOp.walk_rows.Goals as goal

pub walk_in-told-requires-clause-of : goal.walk_in-told-requires-clause-of
walk_in-told-requires-clause-of c = c.loop-next.invariant.0

pub walk_in-told-requires-clause-op : goal.walk_in-told-requires-clause-op
walk_in-told-requires-clause-op c = let o = c.requires.op in (o.0, o.1, (c.loop-next.invariant.1 o.0 o.1 o.2).0)

pub returns-in_default : goal.returns-in_default
returns-in_default c n x at = let g = c.loop-next.invariant.1 n x at in the_last TakeOp (Progress MarkEnd) (TakeStepped n c.args.table.now x) take_exchanges More _ _ _ _ _ _ _ g.1 (c.walk_in-told.ensures n x g.0)

pub returns-in_default-2 : goal.returns-in_default-2
returns-in_default-2 c n x at = let g = c.loop-next.invariant.1 n x at in the_last TakeOp (Progress MarkEnd) (TakeStepped n c.args.table.now x) take_exchanges More _ _ _ _ _ _ _ g.1 (c.walk_in-told.ensures n x g.0)

pub loop-next-smaller : goal.loop-next-smaller
loop-next-smaller c = let o = c.requires.op in let g = c.loop-next.invariant.1 o.0 o.1 o.2 in let now = c.in-Walking-More in
    let step = subst (λ (z : TakeState × Progress MarkEnd). TakeStepped o.0 c.args.table.now o.1 (record c.args.self.now { state = Walking c.loop-next.row c.loop-next.named }) (record c.args.self.now { state = z.0 }) c.loop-next.pass c.walk_in-told.new.pass z.1) (λ i. (now.is-0 i, now.is-1 i)) (c.walk_in-told.ensures o.0 o.1 g.0) in
    fell false _ _ refl step.answers.4

pub loop-next-preserved : goal.loop-next-preserved
loop-next-preserved c = let o = c.requires.op in let g = c.loop-next.invariant in let now = c.in-Walking-More in (
  (c.walk_in-told.ensures o.0 o.1 (g.1 o.0 o.1 o.2).0).is,
  λ n x at. let here = g.1 n x at in
      let step = subst (λ (z : TakeState × Progress MarkEnd). TakeStepped n c.args.table.now x (record c.args.self.now { state = Walking c.loop-next.row c.loop-next.named }) (record c.args.self.now { state = z.0 }) c.loop-next.pass c.walk_in-told.new.pass z.1) (λ i. (now.is-0 i, now.is-1 i)) (c.walk_in-told.ensures n x here.0) in
      (step.answers.0, one_more TakeOp (Progress MarkEnd) (TakeStepped n c.args.table.now x) take_exchanges More _ _ _ _ _ _ here.1 step refl),
)
