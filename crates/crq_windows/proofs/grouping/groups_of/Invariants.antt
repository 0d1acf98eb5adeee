use Rattle.std.proofs.Common.{length, ◌-◌}
use Rattle.crq_windows.proofs.GroupLemmas.{AreGroupsTo}
use Rattle.crq_windows.proofs.grouping.groups_of.Given as goal

abbrev pub invariant-loop-from : goal.invariant-loop-from
invariant-loop-from l = AreGroupsTo l.objects l.events l.from l.groups.items

abbrev pub decreases-loop-from : goal.decreases-loop-from
decreases-loop-from l = length l.events - l.from
