use Rattle.std.proofs.Common.{rules}
use Rattle.crq_trials.proofs.Puts.{may_put}
use Rattle.crq_trials.proofs.tests.set.put_new.Goals as goal

pub put-requires-clause-may : goal.put-requires-clause-may
put-requires-clause-may g c =
    let all = c.is_new.ensures (search rules) in
    may_put c.args.pass.now.entries.items c.args.pass.now.dealt c.args.pass.now.span c.args.set.now.rows c.args.event (rw c.seen.ensures at all)
