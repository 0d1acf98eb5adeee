use Rattle.std.proofs.Common.{sym, ap, ◌∙◌, arith}
use Rattle.std.proofs.lemmas.Bool.{false≢true}
use Rattle.crq_queue.proofs.RunLoops.{take_begins, take_spent}
use Rattle.crq_queue.proofs.RunStretches.{take_runs_on, take_runs_out}
use Rattle.crq_queue.proofs.runs.take_within.Goals as goal
use Rattle.crq_queue.proofs.runs.take_within.Goals.{then-not-exchanges, else-not-exchanges+then-pass-budget}

pub loop-op-init : goal.loop-op-init
loop-op-init c n x begun = take_begins c.args.table.now n c.args.budget x c.args.op c.args.pass.now (omega arith) c.requires.of c.requires.within begun

pub run-requires-clause-of : goal.run-requires-clause-of
run-requires-clause-of c = let o = c.requires.op in (c.loop-op.invariant o.0 o.1 o.2).ran.is

pub run-requires-clause-free : goal.run-requires-clause-free
run-requires-clause-free c = let o = c.requires.op in ap (λ d. d.cut) (c.loop-op.invariant o.0 o.1 o.2).debts ∙ c.requires.free

pub run-requires-clause-op : goal.run-requires-clause-op
run-requires-clause-op c = let o = c.requires.op in (o.0, o.1, (c.loop-op.invariant o.0 o.1 o.2).at)

pub loop-op-preserved : goal.loop-op-preserved
loop-op-preserved c n x begun = let l = c.loop-op in let g = l.invariant n x begun in
    (take_runs_on c.args.table.now n c.args.budget x c.args.op c.args.pass.now (omega arith) l.op _ l.pass _ g
    (λ swaps. elim c.if-not-exchanges.branch [ then-not-exchanges w ↦ absurd (false≢true (sym w.if-not-exchanges.true ∙ (c.exchanges.ensures ∙ swaps))) | else-not-exchanges+then-pass-budget w ↦ w.if-pass-budget.true ])
    (c.in-More.ensures n x g.at)).0

pub loop-op-smaller : goal.loop-op-smaller
loop-op-smaller c = let o = c.requires.op in let n = o.0 in let x = o.1 in let l = c.loop-op in let g = l.invariant n x o.2 in
    (take_runs_on c.args.table.now n c.args.budget x c.args.op c.args.pass.now (omega arith) l.op _ l.pass _ g
    (λ swaps. elim c.if-not-exchanges.branch [ then-not-exchanges w ↦ absurd (false≢true (sym w.if-not-exchanges.true ∙ (c.exchanges.ensures ∙ swaps))) | else-not-exchanges+then-pass-budget w ↦ w.if-pass-budget.true ])
    (c.in-More.ensures n x g.at)).1

pub returns-in-Done : goal.returns-in-Done
returns-in-Done c n x begun = let l = c.loop-op in let g = l.invariant n x begun in let a = c.in-Done in
    take_runs_out c.args.table.now n c.args.budget x c.args.op c.args.pass.now (omega arith) c.requires.still l.op _ l.pass _ a.end g
    (λ swaps. elim c.if-not-exchanges.branch [ then-not-exchanges w ↦ absurd (false≢true (sym w.if-not-exchanges.true ∙ (c.exchanges.ensures ∙ swaps))) | else-not-exchanges+then-pass-budget w ↦ w.if-pass-budget.true ])
    (a.ensures n x g.at)

pub returns : goal.returns
returns c n x begun = let l = c.loop-op in take_spent c.args.table.now n c.args.budget x c.args.op c.args.pass.now (omega arith) l.op l.pass _ (l.invariant n x begun) (sym c.exchanges.ensures ∙ c.if-not-exchanges.false) c.if-pass-budget.false
