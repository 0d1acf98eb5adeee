use Rattle.std.proofs.Common.{rules, ◌≡◌, subst, sym}
use Rattle.std.proofs.lemmas.List.Elements.{All-same}
use Rattle.std.proofs.lemmas.List.Sorted.{All-permutation, answers_always}
use Rattle.std.specs.Ordering.{is_lt}
use Rattle.crq_base.specs.declared.event.Event.{Event}
use Rattle.crq_sim.specs.Models.{IsObject}
use Rattle.crq_windows.proofs.ArrangedLemmas.{object_ranks, distinct_from_apart, distinct_after}
use Rattle.crq_windows.specs.Arranged.{object_cmp, IsArranged, AreDistinct}
use Rattle.crq_windows.proofs.grouping.group_by_object.Goals as goal

pub groups_of-requires-clause-known : goal.groups_of-requires-clause-known
groups_of-requires-clause-known c =
    All-same (λ (e : Event). IsObject c.args.objects e.dst) _ _ c.as_slice.ensures.value
    (All-permutation (λ (e : Event). IsObject c.args.objects e.dst) _ _ c.sort_unstable_by.ensures.permutation c.requires.known)

pub groups_of-requires-clause-distinct : goal.groups_of-requires-clause-distinct
groups_of-requires-clause-distinct c =
    subst AreDistinct (sym c.as_slice.ensures.value) (distinct_after _ _ c.sort_unstable_by.ensures.permutation (distinct_from_apart _ c.requires.apart))

pub groups_of-requires-clause-arranged : goal.groups_of-requires-clause-arranged
groups_of-requires-clause-arranged c =
    subst IsArranged (sym c.as_slice.ensures.value) (c.sort_unstable_by.ensures.sorted _ object_ranks
    (answers_always _ (λ a r. is_lt r ≡ is_lt (object_cmp a.0.now a.1.0.now)) _ (λ f a r f' k. search rules)))
