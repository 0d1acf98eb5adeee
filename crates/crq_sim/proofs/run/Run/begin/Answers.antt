use Rattle.std.proofs.Common.{◌∙◌, ap, []}
use Rattle.crq_sim.specs.EventLists.{with_events}
use Rattle.crq_sim.specs.Runs.{after_events}
use Rattle.crq_sim.proofs.run.Run.begin.Goals as goal

pub returns-clause-shows : goal.returns-clause-shows
unfolding after_events
returns-clause-shows c = record {
  states = c.in_ok-states_before.ensures;
  pending = c.in_ok-insert_each.ensures ∙ (ap (λ pending. with_events c.as_slice.result.now pending) c.new-pending.ensures ∙ ap (λ es. with_events es []) (c.as_slice.ensures.value ∙ c.in_ok-starts.ensures));
  log = c.new.ensures.items;
}
