use Rattle.crq_queue.proofs.Wholes.{whole_all, whole_silent}
use Rattle.crq_queue.proofs.Dealings.{deal_rests, deal_made}
use Rattle.crq_queue.proofs.calendar.Calendar.deal.Goals as goal

pub span_step-requires-clause-all : goal.span_step-requires-clause-all
span_step-requires-clause-all c = whole_all _ c.args.whole c.requires.whole

pub span_step-requires-clause-silent : goal.span_step-requires-clause-silent
span_step-requires-clause-silent c = whole_silent _ c.args.whole c.requires.whole

pub wake_all-requires : goal.wake_all-requires
wake_all-requires c = let e = c.span_step.ensures in deal_rests _ c.args.whole _ _ c.requires.whole e.spanned e.same.0

pub returns-clause-resting : goal.returns-clause-resting
returns-clause-resting c = (deal_made _ c.args.whole _ _ c.requires.whole c.span_step.ensures.spanned _ c.wake_all.ensures).0

pub returns-clause-dealt : goal.returns-clause-dealt
returns-clause-dealt c = (deal_made _ c.args.whole _ _ c.requires.whole c.span_step.ensures.spanned _ c.wake_all.ensures).1
