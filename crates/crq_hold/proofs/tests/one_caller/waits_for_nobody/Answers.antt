use Rattle.std.proofs.Common.{sym, ◌∙◌, subst, arith}
use Rattle.crq_queue.specs.Wholes.{IsResting}
use Rattle.crq_hold.proofs.tests.one_caller.waits_for_nobody.Goals as goal

pub lift-pass-requires : goal.lift-pass-requires
lift-pass-requires g c = let r = c.deal-passes.ensures.resting.each 0 (let one = c.in_ok-calendar.ensures.size.0 in omega arith) in (r.0, r.1)

pub put-requires-clause-rests : goal.put-requires-clause-rests
put-requires-clause-rests g c = let r = c.deal-passes.ensures.resting.each 0 (let one = c.in_ok-calendar.ensures.size.0 in omega arith) in
    subst (λ pass. IsResting c.in_ok-calendar.calendar.table pass) (let same = sym r.1 ∙ c.lift-pass.ensures.was in cc) r.3.rests
