use Rattle.std.proofs.Common.{◌∷◌, [], ◌∙◌, sym, ap, subst, arith}
use Rattle.std.specs.Prelude.{slice_get, slice_set}
use Rattle.crq_base.specs.declared.event.Event.{Event}
use Rattle.crq_rule.specs.declared.pass.Seating.TheVariants.{Here}
use Rattle.crq_rows.proofs.Slots.{get_else}
use Rattle.crq_queue.proofs.Gathers.{pass_at}
use Rattle.crq_rows.specs.Passes.{caller}
use Rattle.crq_first_queue.specs.Deeds.{EndsEmpty, HasPlayed}
use Rattle.crq_first_queue.proofs.Passing.{both, still_new, put_other, first_new, second_there, still_wide, first_free, second_free, first_back, second_back, both_rest, HasPut, has_put, have_played}
use Rattle.crq_first_queue.proofs.run.Goals as goal

pub lift-first-requires : goal.lift-first-requires
lift-first-requires g c = let two = c.in-Ok.ensures.size.0 in let a = c.deal-passes.ensures.resting.each 0 (omega arith) in (a.0, a.1)

pub lift-second-requires : goal.lift-second-requires
lift-second-requires g c = let two = c.in-Ok.ensures.size.0 in let a = c.deal-passes.ensures.resting.each 1 (omega arith) in (a.0, second_there _ _ c.lift-first.new.self.places.items c.lift-first.ensures.now ∙ a.1)

pub put-requires-clause-rests : goal.put-requires-clause-rests
put-requires-clause-rests g c = let two = c.in-Ok.ensures.size.0 in (pass_at _ _ c.deal-passes.ensures.resting 0 _ (omega arith) c.lift-first.ensures.was).1

pub put-requires-2-clause-new : goal.put-requires-2-clause-new
put-requires-2-clause-new g c = let two = c.in-Ok.ensures.size.0 in let one_is = ap (λ (e : Event). e.seq) c.event.ensures in let two_is = ap (λ (e : Event). e.seq) c.event-2.ensures in
    still_new c.event-2.result c.put.ensures (put_other c.put.result c.event.result c.event-2.result (λ q. absurd (omega arith)))
    (first_new _ _ _ c.deal-passes.ensures.resting c.deal-passes.ensures.dealt 0 _ (omega arith) c.lift-first.ensures.was c.in-Ok.ensures.empty c.event-2.result (ap (λ (e : Event). e.src) c.event-2.ensures))

pub put-requires-3-clause-rests : goal.put-requires-3-clause-rests
put-requires-3-clause-rests g c = let two = c.in-Ok.ensures.size.0 in (pass_at _ _ c.deal-passes.ensures.resting 1 _ (omega arith) (sym (second_there _ _ c.lift-first.new.self.places.items c.lift-first.ensures.now) ∙ c.lift-second.ensures.was)).1

pub put-requires-3-clause-new : goal.put-requires-3-clause-new
put-requires-3-clause-new g c = let two = c.in-Ok.ensures.size.0 in
    first_new _ _ _ c.deal-passes.ensures.resting c.deal-passes.ensures.dealt 1 _ (omega arith) (sym (second_there _ _ c.lift-first.new.self.places.items c.lift-first.ensures.now) ∙ c.lift-second.ensures.was) c.in-Ok.ensures.empty c.event-3.result (ap (λ (e : Event). e.src) c.event-3.ensures)

pub put-requires-4-clause-new : goal.put-requires-4-clause-new
put-requires-4-clause-new g c = let two = c.in-Ok.ensures.size.0 in let one_is = ap (λ (e : Event). e.seq) c.event-3.ensures in let two_is = ap (λ (e : Event). e.seq) c.event-4.ensures in
    still_new c.event-4.result c.put-3.ensures (put_other c.put-3.result c.event-3.result c.event-4.result (λ q. absurd (omega arith)))
    (first_new _ _ _ c.deal-passes.ensures.resting c.deal-passes.ensures.dealt 1 _ (omega arith) (sym (second_there _ _ c.lift-first.new.self.places.items c.lift-first.ensures.now) ∙ c.lift-second.ensures.was) c.in-Ok.ensures.empty c.event-4.result (ap (λ (e : Event). e.src) c.event-4.ensures))

pub lower-requires : goal.lower-requires
lower-requires g c = let two = c.in-Ok.ensures.size.0 in let all = c.deal-passes.ensures.resting in
    let number = c.print.ensures.did.number ∙ (c.put-2.ensures.number ∙ (c.put.ensures.number ∙ (pass_at _ _ all 0 _ (omega arith) c.lift-first.ensures.was).0)) in
    ap (slice_get c.lift-second.new.self.places.items) number ∙ first_free _ _ _ c.lift-first.ensures.now c.lift-second.ensures.now (all.wide ∙ two)

pub lower-requires-2 : goal.lower-requires-2
lower-requires-2 g c = let two = c.in-Ok.ensures.size.0 in let all = c.deal-passes.ensures.resting in
    let first = c.print.ensures.did.number ∙ (c.put-2.ensures.number ∙ (c.put.ensures.number ∙ (pass_at _ _ all 0 _ (omega arith) c.lift-first.ensures.was).0)) in
    let second = c.put-4.ensures.number ∙ (c.put-3.ensures.number ∙ (pass_at _ _ all 1 _ (omega arith) (sym (second_there _ _ c.lift-first.new.self.places.items c.lift-first.ensures.now) ∙ c.lift-second.ensures.was)).0) in
    ap (slice_get c.lower.new.self.places.items) second ∙ (ap (λ ps. slice_get ps 1) c.lower.ensures ∙ (get_else c.lift-second.new.self.places.items c.print.new.pass.number 1 (Here c.print.new.pass) (λ o. absurd (omega arith))
    ∙ second_free _ _ _ c.lift-first.ensures.now c.lift-second.ensures.now (all.wide ∙ two)))

pub gather-whole-requires : goal.gather-whole-requires
gather-whole-requires g c = let two = c.in-Ok.ensures.size.0 in let all = c.deal-passes.ensures.resting in
    let first = c.print.ensures.did.number ∙ (c.put-2.ensures.number ∙ (c.put.ensures.number ∙ (pass_at _ _ all 0 _ (omega arith) c.lift-first.ensures.was).0)) in
    let second = c.put-4.ensures.number ∙ (c.put-3.ensures.number ∙ (pass_at _ _ all 1 _ (omega arith) (sym (second_there _ _ c.lift-first.new.self.places.items c.lift-first.ensures.now) ∙ c.lift-second.ensures.was)).0) in
    both_rest _ c.lift-second.new.self.places.items _ c.print.new.pass c.put-4.new.pass two (still_wide _ _ _ c.lift-first.ensures.now c.lift-second.ensures.now (all.wide ∙ two)) first second
    (c.lower-2.ensures ∙ ap (λ ps. slice_set ps c.put-4.new.pass.number (Here c.put-4.new.pass)) c.lower.ensures) c.print.ensures.did.rests c.put-4.ensures.rests

pub returns : goal.returns
returns g c = let two = c.in-Ok.ensures.size.0 in let all = c.deal-passes.ensures.resting in let dealt = c.deal-passes.ensures.dealt in let empty = c.in-Ok.ensures.empty in let table = c.in-Ok.calendar.table in
    let first_at = c.lift-first.ensures.was in let second_at = sym (second_there _ _ c.lift-first.new.self.places.items c.lift-first.ensures.now) ∙ c.lift-second.ensures.was in
    let before = c.put-2.ensures.number ∙ (c.put.ensures.number ∙ (pass_at _ _ all 0 _ (omega arith) first_at).0) in let first = c.print.ensures.did.number ∙ before in
    let second = c.put-4.ensures.number ∙ (c.put-3.ensures.number ∙ (pass_at _ _ all 1 _ (omega arith) second_at).0) in
    let wide = still_wide _ _ _ c.lift-first.ensures.now c.lift-second.ensures.now (all.wide ∙ two) in
    let now = c.lower-2.ensures ∙ ap (λ ps. slice_set ps c.put-4.new.pass.number (Here c.put-4.new.pass)) c.lower.ensures in
    let first_put = has_put _ _ _ 0 _ _ _ dealt first_at empty (both c.in_ok-put.ensures (both c.in_ok-put-2.ensures c.in_ok-print.ensures.did)) in
    let second_put = has_put _ _ _ 1 _ _ _ dealt second_at empty (both c.in_ok-put-3.ensures c.in_ok-put-4.ensures) in
    subst HasPlayed (sym c.close.ensures) (have_played _ _ _ c.gather-whole.ensures.history c.print.new.pass c.put-4.new.pass two
    (first_back table c.lift-second.new.self.places.items _ c.print.new.pass c.put-4.new.pass two wide first second now)
    (second_back table c.lift-second.new.self.places.items _ c.print.new.pass c.put-4.new.pass two wide first second now)
    (subst (HasPut table c.print.new.pass) (λ i. c.event.ensures i ∷ c.event-2.ensures i ∷ []) first_put)
    (subst (HasPut table c.put-4.new.pass) (λ i. c.event-3.ensures i ∷ c.event-4.ensures i ∷ []) second_put)
    (subst (λ n. EndsEmpty n 100 (caller table c.print.new.pass).own) before c.in_ok-print.ensures.all))
