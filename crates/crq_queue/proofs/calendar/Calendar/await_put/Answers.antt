use Rattle.std.proofs.Common.{sym, ◌∙◌}
use Rattle.crq_queue.proofs.Waits.{trying_none, still_fresh, put_ended, put_again, put_short}
use Rattle.crq_queue.specs.Waits.{PutTries}
use Rattle.crq_queue.proofs.calendar.Calendar.await_put.Goals as goal

pub loop-init : goal.loop-init
loop-init g c = trying_none (PutTries c.args.self.now.table c.args.event.now) c.requires.rests

pub try_put-requires-clause-fresh : goal.try_put-requires-clause-fresh
try_put-requires-clause-fresh g c = still_fresh c.args.self.now.table c.args.pass.now c.loop.pass c.args.event.now c.loop.invariant.begun c.requires.fresh

pub returns-in-Ok-clause-tried : goal.returns-in-Ok-clause-tried
returns-in-Ok-clause-tried g c = (put_ended c.args.event.now c.loop.invariant c.in-Ok.field-0 c.in-Ok.ensures).0

pub returns-in-Ok-clause-left : goal.returns-in-Ok-clause-left
returns-in-Ok-clause-left g c = (put_ended c.args.event.now c.loop.invariant c.in-Ok.field-0 c.in-Ok.ensures).1

pub returns-in-Ok-clause-rests : goal.returns-in-Ok-clause-rests
returns-in-Ok-clause-rests g c = (put_ended c.args.event.now c.loop.invariant c.in-Ok.field-0 c.in-Ok.ensures).2

pub returns-in-Some-short_after-clause-tried : goal.returns-in-Some-short_after-clause-tried
returns-in-Some-short_after-clause-tried g c = (put_short c.args.event.now c.loop.invariant c.in-Err.refusal c.in-Some-short_after.short (sym c.short_after.ensures ∙ c.in-Some-short_after.is) c.in-Err.ensures).0

pub returns-in-Some-short_after-clause-left : goal.returns-in-Some-short_after-clause-left
returns-in-Some-short_after-clause-left g c = (put_short c.args.event.now c.loop.invariant c.in-Err.refusal c.in-Some-short_after.short (sym c.short_after.ensures ∙ c.in-Some-short_after.is) c.in-Err.ensures).1

pub returns-in-Some-short_after-clause-rests : goal.returns-in-Some-short_after-clause-rests
returns-in-Some-short_after-clause-rests g c = (put_short c.args.event.now c.loop.invariant c.in-Err.refusal c.in-Some-short_after.short (sym c.short_after.ensures ∙ c.in-Some-short_after.is) c.in-Err.ensures).2

pub loop-preserved : goal.loop-preserved
loop-preserved g c = put_again c.args.event.now c.loop.invariant c.in-Err.refusal (sym c.short_after.ensures ∙ c.in_default.is) c.in-Err.ensures
