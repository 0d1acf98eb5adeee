use Rattle.std.proofs.Common.{sym, ◌∙◌, arith}
use Rattle.crq_hold.proofs.Teaming.{resting_home, lone_resting, place_rests}
use Rattle.crq_hold.proofs.Regrouping.{none_of}
use Rattle.crq_hold.proofs.tests.cuts_are_owed.Goals as goal

pub gather-whole-requires : goal.gather-whole-requires
gather-whole-requires g c = let e = c.in_ok-queue.ensures in let t = c.take.ensures in let p = c.put.ensures in
    lone_resting _ _ _ c.take.new.self e.one.0 ((t.counts p.counts.on.worker).on.number ∙ (p.counts.on.number ∙ e.one.1)) (record { rests = t.rests; settled = none_of _ (sym c.is_some.ensures ∙ c.if-is_some.false) }) e.free.0 c.lower.ensures

pub lift-pass-requires : goal.lift-pass-requires
lift-pass-requires g c = resting_home _ _ 1 c.deal-places.ensures.resting c.in_ok-queue.ensures.one.0 0 (omega arith)

pub try_settle-requires-clause-rests : goal.try_settle-requires-clause-rests
try_settle-requires-clause-rests g c = (place_rests _ _ c.deal-places.ensures.resting 0 _ c.lift-pass.ensures.was).1.rests
