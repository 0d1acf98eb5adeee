use Rattle.std.proofs.Common.{◌∙◌, sym, refl, subst}
use Rattle.std.proofs.lemmas.Option.{slice_get_within}
use Rattle.crq_hold.specs.Teams.{AreNew, HasHeld}
use Rattle.crq_hold.proofs.Teaming.{lowered_resting, written_settled}
use Rattle.crq_hold.proofs.Totals.{written_went, history_held}
use Rattle.crq_hold.proofs.hold.run.Goals as goal

pub lower_all-requires-clause-order : goal.lower_all-requires-clause-order
lower_all-requires-clause-order g c = (written_went _ _ _ c.in_ok-queue.workers.items (sym c.as_mut_slice.ensures.len ∙ sym c.work-holds.auto.workers) c.work-holds.ensures.went).workers.order

pub gather-whole-requires : goal.gather-whole-requires
gather-whole-requires g c = let e = c.in_ok-queue.ensures in let all = (written_went _ _ _ c.in_ok-queue.workers.items (sym c.as_mut_slice.ensures.len ∙ sym c.work-holds.auto.workers) c.work-holds.ensures.went).workers in
    lowered_resting _ _ _ _ all (written_settled _ _ c.in_ok-queue.workers.items (sym c.as_mut_slice.ensures.len ∙ sym c.work-holds.auto.workers) c.work-holds.ensures.settled) (e.free.0 ∙ (sym e.count ∙ (e.workers.count ∙ sym all.count))) c.lower_all.ensures

pub returns-clause-history : goal.returns-clause-history
returns-clause-history g c = let went = written_went _ _ _ c.in_ok-queue.workers.items (sym c.as_mut_slice.ensures.len ∙ sym c.work-holds.auto.workers) c.work-holds.ensures.went in
    subst (λ h. HasHeld h c.args.job.now.pending c.work-holds.result.0) (sym c.close-closed.ensures)
    (history_held _ _ _ _ _ _ _ (subst (AreNew c.in_ok-queue.queue.table) (sym c.as_mut_slice.ensures.value) c.in_ok-queue.ensures.new) went (λ k w e. c.lower_all.ensures.each k w (slice_get_within _ k w e) e) c.gather-whole.ensures.history _ _ refl refl)
