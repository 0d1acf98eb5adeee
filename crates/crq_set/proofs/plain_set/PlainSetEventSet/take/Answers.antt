use Rattle.crq_set.proofs.PlainLaws.{order_take, order_miss}
use Rattle.crq_set.proofs.plain_set.PlainSetEventSet.take.Goals as goal

pub returns-in-Some-clause-of : goal.returns-in-Some-clause-of
returns-in-Some-clause-of g c =
    rw (c.push_reserved-in-Some.ensures.items, c.push_reserved.ensures.items, c.reserve.ensures.items) (order_take _ _ _ _ _ c.in-Some.ensures.first c.in-Some.ensures.least c.requires.of)

pub returns-in-None-clause-of : goal.returns-in-None-clause-of
returns-in-None-clause-of g c =
    rw (c.push_reserved-in-None.ensures.items, c.push_reserved.ensures.items, c.reserve.ensures.items, c.in-None.ensures.stay) (order_miss _ _ _ _ c.in-None.ensures.none c.requires.of)
