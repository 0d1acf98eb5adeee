use Rattle.crq_set.proofs.PlainLaws.{order_put, fresh_new}
use Rattle.crq_set.proofs.plain_set.PlainSetEventSet.put.Goals as goal

pub returns-clause-of : goal.returns-clause-of
returns-clause-of g c =
    let new = fresh_new c.args.pass.now.entries.items c.args.pass.now.dealt c.args.pass.now.span c.args.self.now.rows c.args.event.now c.requires.may in
    rw (c.push_reserved-3.ensures.items, c.push_reserved-2.ensures.items, c.push_reserved.ensures.items, c.reserve.ensures.items, c.in-Ok.ensures.keys) (order_put _ _ _ _ c.requires.of new)
