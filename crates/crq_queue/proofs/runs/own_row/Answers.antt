use Rattle.std.proofs.Common.{sym, subst}
use Rattle.crq_rows.specs.Passes.{caller}
use Rattle.crq_rows.specs.Owning.{IsOwning}
use Rattle.crq_queue.specs.Runs.{Looked}
use Rattle.crq_queue.proofs.RecoverRuns.{looks_from_more, own_begins, own_more, own_row, own_empty, own_at}
use Rattle.crq_queue.proofs.runs.own_row.Goals as goal

pub loop-row-init : goal.loop-row-init
loop-row-init c = (c.requires.of, subst (λ op. IsOwning c.args.table.now.start.layout op (caller c.args.table.now c.args.pass.now)) (sym c.new-op.ensures) tt, λ n budget may. own_begins c.requires.of may, λ last answer r. subst (λ op. Looked c.args.table.now op c.args.pass.now last answer) c.new-op.ensures r)

pub loop-row-preserved : goal.loop-row-preserved
loop-row-preserved c = let l = c.loop-row in let s = c.in-More.ensures in
    (s.is, own_at c.args.table.now l.op _ l.pass _ s, λ n budget may. own_more c.args.table.now n budget c.args.pass.now may.low l.op _ l.pass _ (l.invariant.2 n budget may) s, looks_from_more c.args.table.now l.op _ c.args.pass.now l.pass _ l.invariant.3 s)

pub returns-in-Row : goal.returns-in-Row
returns-in-Row c n budget may = let l = c.loop-row in own_row c.args.table.now n budget c.args.pass.now may.low l.op _ l.pass _ (l.invariant.2 n budget may) c.in-Row.row c.in-Row.ensures

pub returns-in-Empty : goal.returns-in-Empty
returns-in-Empty c n budget may = let l = c.loop-row in own_empty c.args.table.now n budget c.args.pass.now may.low l.op _ l.pass _ (l.invariant.2 n budget may) l.invariant.3 c.in-Empty.ensures
