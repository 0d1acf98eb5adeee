use Rattle.std.proofs.Common.{slice_get, ◌∙◌, ap, refl}
use Rattle.std.proofs.lemmas.Option.{slice_get_within}
use Rattle.crq_hold.proofs.Teaming.{resting_home, lowered_resting}
use Rattle.crq_hold.proofs.Regrouping.{again_workers}
use Rattle.crq_hold.proofs.tests.phases.regroup.Goals as goal

pub gather-whole-requires : goal.gather-whole-requires
gather-whole-requires c = let r = c.requires in lowered_resting _ _ _ _ r.workers r.settled r.free.0 c.lower_all.ensures

pub lift_all-requires : goal.lift_all-requires
lift_all-requires c = resting_home _ _ _ c.deal-places.ensures.resting refl

pub returns-clause-workers : goal.returns-clause-workers
returns-clause-workers c = let lower = c.lower_all.ensures in let deal = c.deal-places.ensures in
    again_workers _ _ _ _ _ c.requires.workers (λ k w e. lower.each k w (slice_get_within _ k w e) e) c.gather-whole.ensures.history (λ k w e. c.unused-next.ensures k w (ap (λ ws. slice_get ws k) c.as_slice.ensures.value ∙ e))
    _ _ _ _ deal.resting deal.dealt c.in_ok-workers.ensures refl
