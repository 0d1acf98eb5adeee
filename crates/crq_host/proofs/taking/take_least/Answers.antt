use Rattle.std.proofs.Common.{◌∙◌, ap, sym, subst, set, slice_get, Some, None, arith}
use Rattle.crq_host.specs.Phases.{LeastEnds}
use Rattle.crq_host.proofs.Places.{get-set_same}
use Rattle.crq_host.proofs.Phasing.{one_called, least_ends, take_stays, dealt_at}
use Rattle.crq_host.proofs.taking.take_least.Goals as goal

pub lower-requires-clause-empty : goal.lower-requires-clause-empty
lower-requires-clause-empty g c =
    let view = g.S.EventSet.view in
    let places = g.S.EventSet.places in
    let d = c.deal-passes.ensures.deals in
    let old = dealt_at _ _ _ (places c.deal-passes.result) 0 (view c.lift-pass.result) d (omega (arith, c.requires.workers)) c.lift-pass.ensures.was in
    let stays = take_stays (g.S.EventSet.setup c.args.set.now) _ _ _ c.take-answer.result c.take-answer.ensures.takes c.take-answer.ensures.gave_up in
    ap (λ i. slice_get (places c.lift-pass.new.passes) i) (stays.0 ∙ old.number) ∙ ap (λ ps. slice_get ps 0) c.lift-pass.ensures.lifted ∙ get-set_same (places c.deal-passes.result) 0 None (let n = d.count in let w = c.requires.workers in omega arith)

pub gather-requires-clause-there : goal.gather-requires-clause-there
gather-requires-clause-there g c =
    let view = g.S.EventSet.view in
    let places = g.S.EventSet.places in
    let d = c.deal-passes.ensures.deals in
    let old = dealt_at _ _ _ (places c.deal-passes.result) 0 (view c.lift-pass.result) d (omega (arith, c.requires.workers)) c.lift-pass.ensures.was in
    let stays = take_stays (g.S.EventSet.setup c.args.set.now) _ _ _ c.take-answer.result c.take-answer.ensures.takes c.take-answer.ensures.gave_up in
    let next = c.lower.ensures.lowered ∙ ap (λ ps. set ps (view c.take-answer.new.pass).number (Some (view c.take-answer.new.pass))) c.lift-pass.ensures.lifted in
    (one_called _ _ _ (places c.deal-passes.result) (view c.take-answer.new.pass) (omega (arith, c.requires.workers)) d (stays.0 ∙ old.number) (stays.1 ∙ old.dealt) (places c.lower.new.passes) next).0

pub returns-clause-least : goal.returns-clause-least
returns-clause-least g c =
    let view = g.S.EventSet.view in
    let places = g.S.EventSet.places in
    let d = c.deal-passes.ensures.deals in
    let old = dealt_at _ _ _ (places c.deal-passes.result) 0 (view c.lift-pass.result) d (omega (arith, c.requires.workers)) c.lift-pass.ensures.was in
    let stays = take_stays (g.S.EventSet.setup c.args.set.now) _ _ _ c.take-answer.result c.take-answer.ensures.takes c.take-answer.ensures.gave_up in
    let next = c.lower.ensures.lowered ∙ ap (λ ps. set ps (view c.take-answer.new.pass).number (Some (view c.take-answer.new.pass))) c.lift-pass.ensures.lifted in
    let one = one_called _ _ _ (places c.deal-passes.result) (view c.take-answer.new.pass) (omega (arith, c.requires.workers)) d (stays.0 ∙ old.number) (stays.1 ∙ old.dealt) (places c.lower.new.passes) next in
    subst (LeastEnds (g.S.EventSet.setup c.args.set.now) (g.S.EventSet.history c.args.whole) (g.S.EventSet.history c.gather.result)) (sym c.found_in.ensures)
    (least_ends _ _ _ _ _ (places c.lower.new.passes) (g.S.EventSet.history c.gather.result) one.0 c.gather.ensures.gathers (omega (arith, c.requires.workers)) c.requires.calm c.requires.tables _ _ old one.1 c.requires.times c.take-answer.result c.take-answer.ensures.takes c.take-answer.ensures.gave_up)
