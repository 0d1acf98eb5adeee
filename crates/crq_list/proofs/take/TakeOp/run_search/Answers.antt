use Rattle.std.proofs.Common.{ap, ◌∙◌, sym, subst}
use Rattle.crq_list.specs.declared.parts.Progress.{Progress}
use Rattle.crq_list.specs.declared.parts.Progress.TheVariants.{More}
use Rattle.crq_list.specs.declared.take.MarkEnd.{MarkEnd}
use Rattle.crq_list.specs.declared.take.TakeOp.{TakeOp}
use Rattle.crq_list.specs.Stretches.{ends}
use Rattle.crq_list.specs.Taking.{TakeStepped, take_exchanges}
use Rattle.crq_list.proofs.Stretching.{none_yet, one_more, the_last, fell}
use Rattle.crq_list.proofs.take.TakeOp.run_search.Goals as goal

pub returns-then-exchanges : goal.returns-then-exchanges
returns-then-exchanges c n x t = ends _ _ _ _ _ (c.step-answer.ensures n x t)

pub loop-op-init : goal.loop-op-init
loop-op-init c = (c.requires.of, c.requires.free, sym c.exchanges.ensures ∙ c.if-exchanges.false, λ n x t. (t, none_yet TakeOp (Progress MarkEnd) (TakeStepped n c.args.table.now x) take_exchanges More c.args.self c.args.pass.now))

pub step-answer-requires-in-loop-op-clause-of : goal.step-answer-requires-in-loop-op-clause-of
step-answer-requires-in-loop-op-clause-of c = c.loop-op.invariant.0

pub step-answer-requires-in-loop-op-clause-free : goal.step-answer-requires-in-loop-op-clause-free
step-answer-requires-in-loop-op-clause-free c = c.loop-op.invariant.1

pub step-answer-requires-in-loop-op-clause-op : goal.step-answer-requires-in-loop-op-clause-op
step-answer-requires-in-loop-op-clause-op c = let o = c.requires.op in (o.0, o.1, (c.loop-op.invariant.3 o.0 o.1 o.2).0)

pub returns-in_default : goal.returns-in_default
returns-in_default c n x at = let g = c.loop-op.invariant.3 n x at in the_last TakeOp (Progress MarkEnd) (TakeStepped n c.args.table.now x) take_exchanges More _ _ _ _ _ _ _ g.1 (c.step-answer-in-loop-op.ensures n x g.0)

pub returns-then-exchanges-2 : goal.returns-then-exchanges-2
returns-then-exchanges-2 c n x at = let g = c.loop-op.invariant.3 n x at in the_last TakeOp (Progress MarkEnd) (TakeStepped n c.args.table.now x) take_exchanges More _ _ _ _ _ _ _ g.1 (c.step-answer-in-loop-op.ensures n x g.0)

pub loop-op-smaller : goal.loop-op-smaller
loop-op-smaller c = let o = c.requires.op in let g = c.loop-op.invariant.3 o.0 o.1 o.2 in
    let step = subst (TakeStepped o.0 c.args.table.now o.1 c.loop-op.op c.step-answer-in-loop-op.new.self c.loop-op.pass c.step-answer-in-loop-op.new.pass) c.in-More.is (c.step-answer-in-loop-op.ensures o.0 o.1 g.0) in
    fell (take_exchanges c.loop-op.op) _ _ c.loop-op.invariant.2 step.answers.4

pub loop-op-preserved : goal.loop-op-preserved
loop-op-preserved c = let o = c.requires.op in let table = c.args.table.now in let plain = sym c.exchanges-in-loop-op.ensures ∙ c.if-exchanges-2.false in
    let first = subst (TakeStepped o.0 table o.1 c.loop-op.op c.step-answer-in-loop-op.new.self c.loop-op.pass c.step-answer-in-loop-op.new.pass) c.in-More.is (c.step-answer-in-loop-op.ensures o.0 o.1 (c.loop-op.invariant.3 o.0 o.1 o.2).0) in (
      first.is,
      ap (λ d. d.cut) first.answers.3 ∙ c.loop-op.invariant.1,
      plain,
      λ n x at. let here = c.loop-op.invariant.3 n x at in
          let step = subst (TakeStepped n table x c.loop-op.op c.step-answer-in-loop-op.new.self c.loop-op.pass c.step-answer-in-loop-op.new.pass) c.in-More.is (c.step-answer-in-loop-op.ensures n x here.0) in
          (step.answers.0, one_more TakeOp (Progress MarkEnd) (TakeStepped n table x) take_exchanges More _ _ _ _ _ _ here.1 step plain),
    )
