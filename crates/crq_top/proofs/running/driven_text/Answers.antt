use Rattle.std.proofs.Common.{subst, sym}
use Rattle.crq_top.specs.Runs.{LeavesText}
use Rattle.crq_top.proofs.Drives.{driven_leaves}
use Rattle.crq_top.proofs.running.driven_text.Goals as goal

pub returns-in-Ok-trace_text-clause-ok : goal.returns-in-Ok-trace_text-clause-ok
returns-in-Ok-trace_text-clause-ok g c = subst (LeavesText _ _ _ _) (sym c.in-Ok-trace_text.ensures) (driven_leaves _ _ _ _ _ c.in-Ok.ensures.drives)
