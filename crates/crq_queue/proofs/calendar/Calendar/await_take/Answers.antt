use Rattle.std.proofs.Common.{sym, ◌∙◌}
use Rattle.crq_queue.proofs.Waits.{trying_none, take_ended, take_again, take_short}
use Rattle.crq_queue.specs.Waits.{TakeTries}
use Rattle.crq_queue.proofs.calendar.Calendar.await_take.Goals as goal

pub loop-init : goal.loop-init
loop-init g c = trying_none (TakeTries c.args.self.now.table c.args.limit) c.requires.rests

pub returns-in-Ok-clause-tried : goal.returns-in-Ok-clause-tried
returns-in-Ok-clause-tried g c = (take_ended c.args.limit c.loop.invariant c.in-Ok.end c.in-Ok.ensures).0

pub returns-in-Ok-clause-added : goal.returns-in-Ok-clause-added
returns-in-Ok-clause-added g c = (take_ended c.args.limit c.loop.invariant c.in-Ok.end c.in-Ok.ensures).1

pub returns-in-Ok-clause-rests : goal.returns-in-Ok-clause-rests
returns-in-Ok-clause-rests g c = (take_ended c.args.limit c.loop.invariant c.in-Ok.end c.in-Ok.ensures).2

pub returns-in-Ok-clause-settled : goal.returns-in-Ok-clause-settled
returns-in-Ok-clause-settled g c = (take_ended c.args.limit c.loop.invariant c.in-Ok.end c.in-Ok.ensures).3

pub returns-in-Some-short_after : goal.returns-in-Some-short_after
returns-in-Some-short_after g c = absurd (take_short c.args.limit c.loop.invariant c.in-Err.refusal c.in-Some-short_after.short (sym c.short_after.ensures ∙ c.in-Some-short_after.is) c.in-Err.ensures)

pub loop-preserved : goal.loop-preserved
loop-preserved g c = take_again c.args.limit c.loop.invariant c.in-Err.refusal (sym c.short_after.ensures ∙ c.in_default.is) c.in-Err.ensures
