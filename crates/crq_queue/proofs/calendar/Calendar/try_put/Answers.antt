use Rattle.std.proofs.Common.{ap, ◌∙◌, sym, Some, arith}
use Rattle.std.proofs.lemmas.Result.{err_from_is_err_and}
use Rattle.crq_queue.proofs.CallEnds.{put_without_epoch, put_refused, row_found, still_found, still_nothing, still_permit, still_fresh, put_late, event_put, put_settled, put_owed}
use Rattle.crq_queue.proofs.calendar.Calendar.try_put.Goals as goal

pub returns-then-current_step-ge-EPOCHS_END : goal.returns-then-current_step-ge-EPOCHS_END
returns-then-current_step-ge-EPOCHS_END c = let high = c.if-current_step-ge-EPOCHS_END.true in put_without_epoch c.args.pass.now c.ranges.budget.fits c.in-Ok.ensures c.current_step.ensures c.args.event.now (omega arith)

pub returns-in_err-row : goal.returns-in_err-row
returns-in_err-row c = let room = c.if-current_step-ge-EPOCHS_END.false in let p = err_from_is_err_and c.from_residual.result c.from_residual.ensures.1 in
    rw (p.1, p.2) (put_refused c.args.pass.now c.ranges.budget.fits c.in-Ok.ensures c.current_step.ensures (omega arith) c.args.event.now c.in_err-row.field-0.0 c.in_err-row.ensures)

pub insert-requires : goal.insert-requires
insert-requires c = let room = c.if-current_step-ge-EPOCHS_END.false in let old = c.args.pass.now in let low = c.ranges.budget.fits in let b = c.in-Ok.ensures in let v = c.current_step.ensures in let find = c.in_ok-row.ensures in let f = row_found old low b v (omega arith) find in record {
  rests = f.rests;
  control = still_found old low b v (omega arith) find;
  settled = (still_nothing old low b v (omega arith) find).0;
  permit = still_permit old low b v (omega arith) find;
  held = f.answers;
  fresh = still_fresh old low b v (omega arith) find c.args.event.now c.requires.fresh;
  within = f.ran.within;
}

pub settle_event-requires : goal.settle_event-requires
settle_event-requires c = let room = c.if-current_step-ge-EPOCHS_END.false in let i = event_put c.args.pass.now c.ranges.budget.fits c.in-Ok.ensures c.current_step.ensures (omega arith) c.in_ok-row.ensures c.args.event.now c.insert.new.pass c.in-Ok-insert.ensures in
    record { rests = i.1; owes = i.2 ∙ ap Some (sym c.debt_of.ensures); within = i.0.within }

pub returns-in-Ok-settle_event : goal.returns-in-Ok-settle_event
returns-in-Ok-settle_event c = let room = c.if-current_step-ge-EPOCHS_END.false in
    put_settled c.args.pass.now c.ranges.budget.fits c.in-Ok.ensures c.current_step.ensures (omega arith) c.in_ok-row.ensures c.args.event.now c.insert.new.pass c.in-Ok-insert.ensures c.debt_of.result c.debt_of.ensures c.in-Ok-settle_event.ensures

pub returns-in-Err-settle_event : goal.returns-in-Err-settle_event
returns-in-Err-settle_event c = let room = c.if-current_step-ge-EPOCHS_END.false in
    put_owed c.args.pass.now c.ranges.budget.fits c.in-Ok.ensures c.current_step.ensures (omega arith) c.in_ok-row.ensures c.args.event.now c.insert.new.pass c.in-Ok-insert.ensures c.debt_of.result c.debt_of.ensures c.in-Err-settle_event.ensures

pub returns-in-Err : goal.returns-in-Err
returns-in-Err c = let room = c.if-current_step-ge-EPOCHS_END.false in put_late c.args.pass.now c.ranges.budget.fits c.in-Ok.ensures c.current_step.ensures (omega arith) c.in_ok-row.ensures c.args.event.now c.insert.new.pass c.in-Err.ensures
