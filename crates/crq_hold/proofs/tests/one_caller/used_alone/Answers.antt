use Rattle.crq_hold.proofs.OneCaller.{empty_one, lowered_one}
use Rattle.crq_hold.proofs.tests.one_caller.used_alone.Goals as goal

pub gather-whole-requires-clause-there : goal.gather-whole-requires-clause-there
gather-whole-requires-clause-there g c =
    let one = c.in-Ok.ensures.setup.callers in
    let empty = empty_one (g.M.Set.EventSet.setup c.in-Ok.set).workers (g.M.Set.EventSet.history c.in-Ok.whole) (g.M.Set.EventSet.places c.deal-passes.result) (g.M.Set.EventSet.places c.lift-pass.new.passes)
    one c.deal-passes.ensures.deals c.lift-pass.ensures.lifted in
    lowered_one (g.M.Set.EventSet.setup c.in-Ok.set).workers (g.M.Set.EventSet.places c.lift-pass.new.passes) (g.M.Set.EventSet.places c.lower.new.passes) (g.M.Set.EventSet.view c.put_and_take.new.pass)
    one empty c.in_ok-ends.ensures.number c.lower.ensures.lowered
