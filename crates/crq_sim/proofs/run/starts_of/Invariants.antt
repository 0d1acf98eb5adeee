use Rattle.crq_sim.proofs.StartLemmas.{Started}
use Rattle.crq_sim.proofs.run.starts_of.Given as goal

abbrev pub invariant-loop-start : goal.invariant-loop-start
invariant-loop-start l = Started l.until l.starts l.start-index l.seq l.events.items
