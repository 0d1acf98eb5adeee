use Rattle.std.proofs.lemmas.Result.{err_from_is_err_and}
use Rattle.crq_queue.proofs.CallOps.{cut_finished, cut_unfinished}
use Rattle.crq_queue.proofs.calendar.Calendar.cut_owed.Goals as goal

pub cut_within-requires-clause-op : goal.cut_within-requires-clause-op
cut_within-requires-clause-op c = let o = c.requires.owed in (o.0, o.1, o.2.0)

pub returns-in_err-cut_within : goal.returns-in_err-cut_within
returns-in_err-cut_within c = λ n x may owed. let p = err_from_is_err_and c.from_residual.result c.from_residual.ensures.1 in rw (p.1) (cut_unfinished c.args.self.now.still c.requires.of owed (c.in_err-cut_within.ensures n x owed.0))

pub returns : goal.returns
returns c = λ n x may owed. cut_finished c.args.self.now.still c.requires.of owed (c.in_ok-cut_within.ensures n x owed.0)
