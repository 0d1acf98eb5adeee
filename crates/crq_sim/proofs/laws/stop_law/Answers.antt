use Rattle.crq_sim.proofs.WindowFacts.{one_stop, more_events, few_rows, never_stops}
use Rattle.crq_sim.proofs.laws.stop_law.Goals as goal

pub returns-clause-one : goal.returns-clause-one
returns-clause-one c = one_stop

pub returns-clause-events : goal.returns-clause-events
returns-clause-events c = more_events

pub returns-clause-rows : goal.returns-clause-rows
returns-clause-rows c = few_rows

pub returns-clause-never : goal.returns-clause-never
returns-clause-never c = never_stops
