use Rattle.std.proofs.Common.{refl, sym, ◌∙◌, subst, arith}
use Rattle.std.proofs.lemmas.Bool.{false≢true}
use Rattle.crq_queue.proofs.RecoverRuns.{RecoverGoes, recover_begins, recover_goes, recover_ends, recover_spent}
use Rattle.crq_queue.proofs.runs.recover_within.Goals as goal
use Rattle.crq_queue.proofs.runs.recover_within.Goals.{then-not-exchanges, else-not-exchanges+then-pass-budget}

pub loop-op-init : goal.loop-op-init
loop-op-init c n may = let t = c.args.table.now in let p = c.args.pass.now in subst (λ op. RecoverGoes t n c.args.budget op p p) (sym c.new-op.ensures) (recover_begins t n c.args.budget p c.requires.of c.requires.off may)

pub step-requires-clause-of : goal.step-requires-clause-of
step-requires-clause-of c = (c.loop-op.invariant 0 (record { counted = omega arith; within = c.requires.within; low = omega arith })).kept.ran.is

pub step-requires-clause-op : goal.step-requires-clause-op
step-requires-clause-op c = (c.loop-op.invariant 0 (record { counted = omega arith; within = c.requires.within; low = omega arith })).at

pub loop-op-preserved : goal.loop-op-preserved
loop-op-preserved c n may = let l = c.loop-op in recover_goes c.args.table.now n c.args.budget c.args.pass.now may.low l.op _ l.pass _ (l.invariant n may)
    (λ swaps. elim c.if-not-exchanges.branch [ then-not-exchanges w ↦ absurd (false≢true (sym w.if-not-exchanges.true ∙ (c.exchanges.ensures ∙ swaps))) | else-not-exchanges+then-pass-budget w ↦ w.if-pass-budget.true ])
    c.in-More.ensures

pub loop-op-smaller : goal.loop-op-smaller
loop-op-smaller c = c.in-More.ensures.facts.shrinks refl

pub returns-in_default : goal.returns-in_default
returns-in_default c n may = let l = c.loop-op in recover_ends c.args.table.now n c.args.budget c.args.pass.now may.low l.op _ l.pass _ (l.invariant n may)
    (λ swaps. elim c.if-not-exchanges.branch [ then-not-exchanges w ↦ absurd (false≢true (sym w.if-not-exchanges.true ∙ (c.exchanges.ensures ∙ swaps))) | else-not-exchanges+then-pass-budget w ↦ w.if-pass-budget.true ])
    _ c.in_default.not-More c.step.ensures

pub returns : goal.returns
returns c n may = let l = c.loop-op in recover_spent c.args.table.now n c.args.budget c.args.pass.now l.op l.pass _ (l.invariant n may) (sym c.exchanges.ensures ∙ c.if-not-exchanges.false) c.if-pass-budget.false
