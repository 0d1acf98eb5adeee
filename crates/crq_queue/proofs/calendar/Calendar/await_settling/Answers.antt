use Rattle.std.proofs.Common.{sym, ◌∙◌}
use Rattle.crq_queue.proofs.Waits.{settling_none, settle_ended, settle_again, none_after}
use Rattle.crq_queue.proofs.calendar.Calendar.await_settling.Goals as goal

pub loop-init : goal.loop-init
loop-init g c = settling_none c.requires.rests

pub returns-in-Ok-clause-tried : goal.returns-in-Ok-clause-tried
returns-in-Ok-clause-tried g c = (settle_ended c.loop.invariant c.in-Ok.ensures.answers c.in-Ok.ensures.idle).0

pub returns-in-Ok-clause-added : goal.returns-in-Ok-clause-added
returns-in-Ok-clause-added g c = (settle_ended c.loop.invariant c.in-Ok.ensures.answers c.in-Ok.ensures.idle).1

pub returns-in-Ok-clause-idle : goal.returns-in-Ok-clause-idle
returns-in-Ok-clause-idle g c = (settle_ended c.loop.invariant c.in-Ok.ensures.answers c.in-Ok.ensures.idle).2

pub loop-preserved : goal.loop-preserved
loop-preserved g c = settle_again c.loop.invariant c.in-Err.refusal (none_after c.in-Err.refusal c.short_after.result c.short_after.ensures (sym c.is_some.ensures ∙ c.if-is_some.false)) c.in-Err.ensures.answers
