use Rattle.std.proofs.Common.{◌≡◌, ◌∙◌, sym, subst, length, arith}
use Rattle.std.proofs.lemmas.List.{length-map}
use Rattle.crq_set.specs.Gathered.{AreThere, Gathers}
use Rattle.crq_host.specs.declared.worker.Worker.{Worker}
use Rattle.crq_host.specs.Phases.{PutsEnd}
use Rattle.crq_host.specs.Workers.{TellsShort, shorts_of, views_of}
use Rattle.crq_host.proofs.Crews.{shorts_count}
use Rattle.crq_host.proofs.Phasing.{deals_there}
use Rattle.crq_host.proofs.PutLaws.{put_ends, flat_mapped}
use Rattle.crq_host.proofs.Rounds.{have_passes, shorts_same}
use Rattle.crq_host.proofs.PutRounds.{all_may, putters_there, putters_each, putters_numbered, kept_by, dues_of}
use Rattle.crq_host.proofs.putting.put_all.Goals as goal

pub lift_all-requires-clause-there : goal.lift_all-requires-clause-there
lift_all-requires-clause-there g c κs within = subst (λ n. AreThere n (g.S.EventSet.places c.deal-passes.result)) (sym c.requires.count) (deals_there _ _ _ _ c.deal-passes.ensures.deals)

pub put_by_all-requires-clause-passes : goal.put_by_all-requires-clause-passes
put_by_all-requires-clause-passes g c κs within =
    all_may g.S.EventSet.view _ (g.S.EventSet.setup c.args.set.now) (g.S.EventSet.history c.args.whole) c.args.span _ c.args.workers.now _ c.deal-passes.ensures.deals c.lift_all.ensures.views c.lift_all.ensures.passes c.lift_all.ensures.rest c.requires.due

pub lower_all-requires-clause-passes : goal.lower_all-requires-clause-passes
lower_all-requires-clause-passes g c κs within = have_passes _ _ c.put_by_all.ensures.passes

pub lower_all-requires-clause-numbers : goal.lower_all-requires-clause-numbers
lower_all-requires-clause-numbers g c κs within =
    putters_numbered g.S.EventSet.view _ _ _ _ _ _ _ c.deal-passes.ensures.deals c.lift_all.ensures.views (let n = c.requires.count in omega arith) (omega arith) c.put_by_all.ensures.put

pub gather-requires-clause-there : goal.gather-requires-clause-there
gather-requires-clause-there g c =
    subst (AreThere (g.S.EventSet.setup c.args.set.now).workers) (sym c.lower_all.ensures.places)
    (putters_there g.S.EventSet.view _ _ _ _ _ _ _ c.deal-passes.ensures.deals c.lift_all.ensures.views (let n = c.requires.count in omega arith) (omega arith) c.put_by_all.ensures.put)

pub returns-clause-put : goal.returns-clause-put
returns-clause-put g c =
    let view = g.S.EventSet.view in
    let setup = g.S.EventSet.setup c.args.set.now in
    let n = setup.workers in
    let h = g.S.EventSet.history c.args.whole in
    let history = g.S.EventSet.history c.gather.result in
    let before = c.args.workers.now in
    let later = c.put_by_all.new.workers in
    let put = c.put_by_all.ensures.put in
    let many : length c.lift_all.new.workers ≡ n = (let k = c.requires.count in omega arith) in
    let still : length later ≡ length c.lift_all.new.workers = omega arith in
    let g2 = subst (λ ps. Gathers n ps history) c.lower_all.ensures.places c.gather.ensures.gathers in
    let there = putters_there view _ _ _ _ _ _ later c.deal-passes.ensures.deals c.lift_all.ensures.views many still put in
    let each = putters_each view _ _ _ _ _ _ later c.deal-passes.ensures.deals c.lift_all.ensures.views many still put before c.lift_all.ensures.rest in
    let tells = subst (λ xs. TellsShort xs c.first_short.result) (shorts_same _ later c.lower_all.ensures.rest) c.first_short.ensures in
    subst (λ es. PutsEnd setup es h history c.first_short.result) (flat_mapped (λ (w : Worker _). w.due.items) before)
    (put_ends setup h n (views_of view later) history there g2 (let t = c.requires.team.0 in omega arith) c.requires.tables (dues_of before) (shorts_of later) (length-map before (λ (w : Worker _). w.due.items) ∙ c.requires.count) (shorts_count later ∙ still ∙ many) each c.first_short.result tells)

pub returns-clause-kept : goal.returns-clause-kept
returns-clause-kept g c =
    kept_by g.S.EventSet.view _ _ _ _ _ _ _ c.deal-passes.ensures.deals c.lift_all.ensures.views (let n = c.requires.count in omega arith) (omega arith) c.put_by_all.ensures.put c.args.workers.now c.lower_all.new.workers c.lift_all.ensures.rest c.lower_all.ensures.rest
