use Rattle.crq_hold.proofs.tests.scarcity.a_guard_keeps_the_epoch.Goals as goal

pub enter-requires : goal.enter-requires
enter-requires g c = (c.in_ok-queue.ensures.other _ c.in-Some.is).rests
