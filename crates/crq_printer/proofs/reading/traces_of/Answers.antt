use Rattle.std.proofs.Common.{◌+◌, length, sym, ◌∙◌, arith}
use Rattle.crq_printer.proofs.FaultLaws.{start_wrong}
use Rattle.crq_printer.proofs.ReadingLaws.{is_nothing, is_something, object_done, many_wrong, part_wrong, more_wrong, all_done}
use Rattle.crq_printer.proofs.SameTexts.{same_texts}
use Rattle.crq_printer.proofs.reading.traces_of.Goals as goal

pub returns-in_default-clause-fault : goal.returns-in_default-clause-fault
returns-in_default-clause-fault c = start_wrong c.args.text.now c.in_default.ensures.none

pub returns-then-is_empty-clause-text : goal.returns-then-is_empty-clause-text
returns-then-is_empty-clause-text c =
    let l = c.loop-behind in
    rw c.from_vec.ensures (all_done c.args.text.now l.rest.now l.traces.items l.total l.line (1 + length l.traces.items) l.invariant (omega arith) c.in-Some-skip_end.behind.now c.in-Some-skip_end.ensures.parts (is_nothing c.in-Some-skip_end.behind.now c.if-is_empty.ensures))

pub returns-then-is_empty-clause-only : goal.returns-then-is_empty-clause-only
returns-then-is_empty-clause-only c =
    let l = c.loop-behind in
    let text = all_done c.args.text.now l.rest.now l.traces.items l.total l.line (1 + length l.traces.items) l.invariant (omega arith) c.in-Some-skip_end.behind.now c.in-Some-skip_end.ensures.parts (is_nothing c.in-Some-skip_end.behind.now c.if-is_empty.ensures) in
    λ ts is e. c.from_vec.ensures ∙ same_texts l.traces.items ts l.invariant.readable is (text ∙ sym e)

pub returns-in-Some-skip_end-clause-fault : goal.returns-in-Some-skip_end-clause-fault
returns-in-Some-skip_end-clause-fault c =
    let l = c.loop-behind in
    more_wrong c.args.text.now l.rest.now l.traces.items l.total l.line (1 + length l.traces.items) l.invariant (omega arith) c.in-Some-skip_end.behind.now c.in-Some-skip_end.ensures.parts (is_something c.in-Some-skip_end.behind.now c.if-is_empty.ensures)

pub returns-then-len-ge-MOST_OBJECTS-clause-fault : goal.returns-then-len-ge-MOST_OBJECTS-clause-fault
returns-then-len-ge-MOST_OBJECTS-clause-fault c =
    let l = c.loop-behind in
    many_wrong c.args.text.now l.rest.now l.traces.items l.total l.line (1 + length l.traces.items) l.invariant (omega arith) c.in_default-skip_end.ensures.none (omega (arith, l.traces.ok.0))

pub returns-in-Err-clause-fault : goal.returns-in-Err-clause-fault
returns-in-Err-clause-fault c =
    let l = c.loop-behind in
    part_wrong c.args.text.now l.rest.now l.traces.items l.total l.line _ l.invariant (omega (arith, l.traces.ok.0)) c.in-Err.fault (omega (arith, l.traces.ok.0)) c.in_default-skip_end.ensures.none c.in-Err.ensures.fault

pub loop-behind-preserved : goal.loop-behind-preserved
loop-behind-preserved c =
    let l = c.loop-behind in
    rw (c.push.ensures.items, c.if-is_err.ensures.negation, c.len-count.ensures) (object_done c.args.text.now l.rest.now l.traces.items l.total l.line _ l.invariant (omega (arith, l.traces.ok.0)) c.in-Ok.read.0 c.in-Ok.read.1.now (omega (arith, l.traces.ok.0)) c.in-Ok.ensures.object c.in-Ok.ensures.parts)
