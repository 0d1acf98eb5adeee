use Rattle.std.proofs.Common.{◌∙◌, sym, subst}
use Rattle.crq_hold.specs.Teams.{AreFree}
use Rattle.crq_hold.proofs.tests.phases.is_legal.Goals as goal

pub loop-round-init : goal.loop-round-init
loop-round-init g c = let e = c.in_ok-queue.ensures in (e.workers, e.free.0 ∙ sym e.count, subst (λ n. AreFree n c.in_ok-queue.places.places.items) (sym e.count) e.free.1)
