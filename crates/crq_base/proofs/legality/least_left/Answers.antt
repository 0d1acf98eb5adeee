use Rattle.std.proofs.Common.{subst, sym, ◌+◌, take}
use Rattle.crq_base.specs.declared.entry.Entry.TheVariants.{Begin}
use Rattle.crq_base.proofs.Leasts.{IsLeastOf, least_next, least_skip}
use Rattle.crq_base.proofs.legality.least_left.Goals as goal
use Rattle.crq_base.proofs.legality.least_left.Goals.{in-Some, in_default}

pub loop-entry-preserved : goal.loop-entry-preserved
loop-entry-preserved c =
    elim c.match-left_by.branch [
      | in-Some w ↦ subst (IsLeastOf (take (c.loop-entry.entry-index + 1) c.args.front.now) c.args.history.now c.args.bound) (sym w.least-is)
          (least_next c.args.front.now c.args.history.now c.args.bound c.loop-entry.entry-index (Begin 0) c.loop-entry.least w.in-Some.event w.first_of.result c.loop-entry-test.true w.in-Some.ensures w.first_of.ensures c.loop-entry.invariant)
      | in_default w ↦ subst (IsLeastOf (take (c.loop-entry.entry-index + 1) c.args.front.now) c.args.history.now c.args.bound) (sym w.least-is)
          (least_skip c.args.front.now c.args.history.now c.args.bound c.loop-entry.entry-index (Begin 0) c.loop-entry.least c.loop-entry-test.true w.in_default.ensures c.loop-entry.invariant)
    ]
