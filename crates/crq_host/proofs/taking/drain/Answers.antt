use Rattle.std.proofs.Common.{◌≡◌, ◌∙◌, ◌++◌, sym, ap, subst, length, arith}
use Rattle.crq_set.specs.Gathered.{AreThere, Gathers}
use Rattle.crq_host.specs.Workers.{AreTakenBy, TellsShort, shorts_of, views_of}
use Rattle.crq_host.proofs.Crews.{shorts_count, none_short}
use Rattle.crq_host.proofs.Phasing.{drain_ends, deals_there}
use Rattle.crq_host.proofs.Rounds.{all_have, have_passes, takers_there, takers_each, takers_numbered, taken_by, shorts_same, one_since}
use Rattle.crq_host.proofs.taking.drain.Goals as goal

pub lift_all-requires-clause-there : goal.lift_all-requires-clause-there
lift_all-requires-clause-there g c κs within = subst (λ n. AreThere n (g.S.EventSet.places c.deal-passes.result)) (sym c.requires.count) (deals_there _ _ _ _ c.deal-passes.ensures.deals)

pub take_by_all-requires-clause-passes : goal.take_by_all-requires-clause-passes
take_by_all-requires-clause-passes g c κs within = all_have g.S.EventSet.view _ _ _ _ _ _ c.deal-passes.ensures.deals c.lift_all.ensures.views c.lift_all.ensures.passes

pub lower_all-requires-clause-passes : goal.lower_all-requires-clause-passes
lower_all-requires-clause-passes g c κs within = have_passes _ _ c.take_by_all.ensures.passes

pub lower_all-requires-clause-numbers : goal.lower_all-requires-clause-numbers
lower_all-requires-clause-numbers g c κs within =
    takers_numbered g.S.EventSet.view _ _ _ _ _ _ _ _ c.deal-passes.ensures.deals c.lift_all.ensures.views (let n = c.requires.count in omega arith) (omega arith) c.take_by_all.ensures.took

pub gather-requires-clause-there : goal.gather-requires-clause-there
gather-requires-clause-there g c =
    subst (AreThere (g.S.EventSet.setup c.args.set.now).workers) (sym c.lower_all.ensures.places)
    (takers_there g.S.EventSet.view _ _ _ _ _ _ _ _ c.deal-passes.ensures.deals c.lift_all.ensures.views (let n = c.requires.count in omega arith) (omega arith) c.take_by_all.ensures.took)

pub returns-clause-drained : goal.returns-clause-drained
returns-clause-drained g c =
    let view = g.S.EventSet.view in
    let n = (g.S.EventSet.setup c.args.set.now).workers in
    let history = g.S.EventSet.history c.gather.result in
    let later = c.take_by_all.new.workers in
    let took = c.take_by_all.ensures.took in
    let many : length c.lift_all.new.workers ≡ n = (let k = c.requires.count in omega arith) in
    let still : length later ≡ length c.lift_all.new.workers = omega arith in
    let g2 = subst (λ ps. Gathers n ps history) c.lower_all.ensures.places c.gather.ensures.gathers in
    let there = takers_there view _ _ _ _ _ _ _ later c.deal-passes.ensures.deals c.lift_all.ensures.views many still took in
    let each = takers_each view _ _ _ _ _ _ _ later c.deal-passes.ensures.deals c.lift_all.ensures.views many still took in
    let tells = subst (λ xs. TellsShort xs c.first_short.result) (shorts_same _ later c.lower_all.ensures.rest) c.first_short.ensures in
    drain_ends _ c.args.edge (g.S.EventSet.history c.args.whole) n (views_of view later) history there g2 (let t = c.requires.team.0 in omega arith) c.requires.calm c.requires.tables (shorts_of later) (shorts_count later ∙ still ∙ many) each c.first_short.result tells

pub returns-clause-taken : goal.returns-clause-taken
returns-clause-taken g c = λ since is.
    let view = g.S.EventSet.view in
    let n = (g.S.EventSet.setup c.args.set.now).workers in
    let history = g.S.EventSet.history c.gather.result in
    let later = c.take_by_all.new.workers in
    let took = c.take_by_all.ensures.took in
    let many : length c.lift_all.new.workers ≡ n = (let k = c.requires.count in omega arith) in
    let still : length later ≡ length c.lift_all.new.workers = omega arith in
    let g2 = subst (λ ps. Gathers n ps history) c.lower_all.ensures.places c.gather.ensures.gathers in
    let there = takers_there view _ _ _ _ _ _ _ later c.deal-passes.ensures.deals c.lift_all.ensures.views many still took in
    let v = there 0 (let t = c.requires.team.0 in omega arith) in
    let each = takers_each view _ _ _ _ _ _ _ later c.deal-passes.ensures.deals c.lift_all.ensures.views many still took in
    let on = (g2.each 0 v.0 v.1).extends ∙ ap (λ d. d ++ g2.since) (each 0 v.0 v.1).2.dealt in
    subst (AreTakenBy c.args.workers.now c.lower_all.new.workers) (one_since history (g.S.EventSet.history c.args.whole) g2.since since on is)
    (taken_by view _ _ _ _ _ _ _ later c.deal-passes.ensures.deals c.lift_all.ensures.views many still took c.args.workers.now c.lower_all.new.workers history g2 c.lift_all.ensures.rest c.lower_all.ensures.rest)

pub returns-clause-fine : goal.returns-clause-fine
returns-clause-fine g c = none_short c.lower_all.new.workers c.first_short.result c.first_short.ensures
