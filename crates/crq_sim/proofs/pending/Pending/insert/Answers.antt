use Rattle.std.proofs.Common.{◌∙◌, ap}
use Rattle.crq_sim.specs.EventLists.{with_event}
use Rattle.crq_sim.proofs.HeapLemmas.{listed_pushed}
use Rattle.crq_sim.proofs.pending.Pending.insert.Goals as goal

pub returns : goal.returns
returns c = listed_pushed _ _ _ c.in_ok-push.ensures.permutation ∙ ap (with_event c.args.event) c.self.view_is
