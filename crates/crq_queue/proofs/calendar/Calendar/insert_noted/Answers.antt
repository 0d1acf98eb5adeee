use Rattle.std.proofs.lemmas.Result.{err_from_is_err_and}
use Rattle.crq_queue.proofs.RunLoops.{put_agrees}
use Rattle.crq_queue.proofs.CallStages.{event_noted, not_noted}
use Rattle.crq_queue.proofs.calendar.Calendar.insert_noted.Goals as goal

pub returns-in_err-insert_within : goal.returns-in_err-insert_within
returns-in_err-insert_within c = λ n x begun owes. let p = err_from_is_err_and c.from_residual.result c.from_residual.ensures.1 in rw (p.1) (not_noted owes (put_agrees c.args.self.now.still c.requires.of begun) (c.in_err-insert_within.ensures n x begun))

pub returns : goal.returns
returns c = λ n x begun owes. event_noted owes (c.in_ok-insert_within.ensures n x begun)
