use Rattle.std.proofs.Common.{sym, ◌∙◌, subst, arith}
use Rattle.std.proofs.lemmas.Bool.{false≢true}
use Rattle.crq_list.specs.declared.parts.Progress.TheVariants.{Done}
use Rattle.crq_list.specs.Cutting.{CutStretch}
use Rattle.crq_queue.proofs.RunLoops.{cut_begins, cut_spent}
use Rattle.crq_queue.proofs.RunStretches.{cut_runs_on, cut_runs_out, cut_unfrozen}
use Rattle.crq_queue.proofs.runs.cut_within.Goals as goal
use Rattle.crq_queue.proofs.runs.cut_within.Goals.{then-not-exchanges, else-not-exchanges+then-pass-budget}

pub loop-op-init : goal.loop-op-init
loop-op-init c n x begun = cut_begins c.args.table.now n c.args.budget x c.args.op c.args.pass.now (omega arith) c.requires.still c.requires.of c.requires.within begun

pub run-requires-clause-of : goal.run-requires-clause-of
run-requires-clause-of c = let o = c.requires.op in (c.loop-op.invariant o.0 o.1 o.2).ran.is

pub run-requires-clause-op : goal.run-requires-clause-op
run-requires-clause-op c = let o = c.requires.op in (o.0, o.1, (c.loop-op.invariant o.0 o.1 o.2).at)

pub loop-op-preserved : goal.loop-op-preserved
loop-op-preserved c n x begun = let l = c.loop-op in let g = l.invariant n x begun in
    (cut_runs_on c.args.table.now n c.args.budget x c.args.op c.args.pass.now (omega arith) c.requires.still l.op _ l.pass _ g
    (λ swaps. elim c.if-not-exchanges.branch [ then-not-exchanges w ↦ absurd (false≢true (sym w.if-not-exchanges.true ∙ (c.exchanges.ensures ∙ swaps))) | else-not-exchanges+then-pass-budget w ↦ w.if-pass-budget.true ])
    (c.in-More.ensures n x g.at)).0

pub loop-op-smaller : goal.loop-op-smaller
loop-op-smaller c = let o = c.requires.op in let n = o.0 in let x = o.1 in let l = c.loop-op in let g = l.invariant n x o.2 in
    (cut_runs_on c.args.table.now n c.args.budget x c.args.op c.args.pass.now (omega arith) c.requires.still l.op _ l.pass _ g
    (λ swaps. elim c.if-not-exchanges.branch [ then-not-exchanges w ↦ absurd (false≢true (sym w.if-not-exchanges.true ∙ (c.exchanges.ensures ∙ swaps))) | else-not-exchanges+then-pass-budget w ↦ w.if-pass-budget.true ])
    (c.in-More.ensures n x g.at)).1

pub returns-in-Done-Clean : goal.returns-in-Done-Clean
returns-in-Done-Clean c n x begun = let l = c.loop-op in let g = l.invariant n x begun in let a = c.in-Done-Clean in
    cut_runs_out c.args.table.now n c.args.budget x c.args.op c.args.pass.now (omega arith) c.requires.still l.op _ l.pass _ g
    (λ swaps. elim c.if-not-exchanges.branch [ then-not-exchanges w ↦ absurd (false≢true (sym w.if-not-exchanges.true ∙ (c.exchanges.ensures ∙ swaps))) | else-not-exchanges+then-pass-budget w ↦ w.if-pass-budget.true ])
    (subst (λ end. CutStretch n c.args.table.now x l.op c.run.new.self l.pass c.run.new.pass (Done end)) a.field-0-is (a.ensures n x g.at))

pub returns : goal.returns
returns c n x begun = let l = c.loop-op in cut_spent c.args.table.now n c.args.budget x c.args.op c.args.pass.now (omega arith) c.requires.still l.op l.pass _ (l.invariant n x begun) (sym c.exchanges.ensures ∙ c.if-not-exchanges.false) c.if-pass-budget.false

pub unreachable-requires : goal.unreachable-requires
unreachable-requires c = let o = c.requires.op in let l = c.loop-op in let a = c.in-Done-Frozen in
    cut_unfrozen o.0 c.args.table.now o.1 l.op c.run.new.self l.pass c.run.new.pass c.requires.still (subst (λ end. CutStretch o.0 c.args.table.now o.1 l.op c.run.new.self l.pass c.run.new.pass (Done end)) a.field-0-is (a.ensures o.0 o.1 (l.invariant o.0 o.1 o.2).at))
