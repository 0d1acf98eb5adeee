use Rattle.std.proofs.Common.{◌∙◌, sym}
use Rattle.crq_sim.proofs.ScheduleLemmas.{scheduled_none}
use Rattle.crq_sim.proofs.reaction.act.Goals as goal

pub returns-in-Sink-clause-sends : goal.returns-in-Sink-clause-sends
returns-in-Sink-clause-sends c = rw c.in-Sink.is (c.none.ensures ∙ sym (scheduled_none _ _ _))
