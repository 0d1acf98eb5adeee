use Rattle.std.proofs.Common.{length, ◌-◌, ◌≡◌, ◌<◌, ◌≤◌, get_or}
use Rattle.crq_base.specs.declared.event.Event.{Event}
use Rattle.crq_windows.proofs.grouping.group_end.Given as goal

abbrev pub invariant-loop-upto : goal.invariant-loop-upto
invariant-loop-upto l =
    (l.fn.from < l.upto) × (l.upto ≤ length l.events)
    × ((d : Event) → (get_or l.events (l.upto - 1) d).dst ≡ l.object) × ((d : Event) → (get_or l.events l.fn.from d).dst ≡ l.object)

abbrev pub decreases-loop-upto : goal.decreases-loop-upto
decreases-loop-upto l = length l.events - l.upto
