use Rattle.crq_sim.proofs.ExampleWindows.{pair_ends, pair_over, pair_pending, pair_peak, three_ends, three_peak, three_stop, three_goes}
use Rattle.crq_sim.proofs.laws.example_law.Goals as goal

pub returns-clause-pair_ends : goal.returns-clause-pair_ends
returns-clause-pair_ends c = (pair_ends, pair_over)

pub returns-clause-pair_pending : goal.returns-clause-pair_pending
returns-clause-pair_pending c = pair_pending

pub returns-clause-pair_peak : goal.returns-clause-pair_peak
returns-clause-pair_peak c = pair_peak

pub returns-clause-three_ends : goal.returns-clause-three_ends
returns-clause-three_ends c = three_ends

pub returns-clause-three_peak : goal.returns-clause-three_peak
returns-clause-three_peak c = three_peak

pub returns-clause-three_stop : goal.returns-clause-three_stop
returns-clause-three_stop c = three_stop

pub returns-clause-three_goes : goal.returns-clause-three_goes
returns-clause-three_goes c = three_goes
