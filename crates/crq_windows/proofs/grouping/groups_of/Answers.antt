use Rattle.std.proofs.Common.{rules, List, subst, sym}
use Rattle.crq_windows.specs.declared.group.Group.{Group}
use Rattle.crq_windows.specs.Groups.{AreGroups}
use Rattle.crq_windows.proofs.GroupLemmas.{any_event, groups_step, all_groups}
use Rattle.crq_windows.proofs.grouping.groups_of.Goals as goal

pub loop-from-preserved : goal.loop-from-preserved
loop-from-preserved c =
    let found = c.group_end-upto.ensures in
    groups_step c.args.objects c.args.events.now c.loop-from.from c.group_end-upto.result any_event c.loop-from.groups.items c.push.new.self.items
    (record { known = c.requires.known; distinct = c.requires.distinct; arranged = c.requires.arranged }) c.loop-from.invariant c.loop-from-test.true
    found.after found.within found.last found.next (search rules)

pub returns : goal.returns
returns c =
    record { groups = subst (λ (gs : List Group). AreGroups c.args.objects c.args.events.now gs) (sym c.from_vec.ensures) (all_groups c.args.objects c.args.events.now c.loop-from.from c.loop-from.groups.items c.loop-from-test.false c.loop-from.invariant) }
