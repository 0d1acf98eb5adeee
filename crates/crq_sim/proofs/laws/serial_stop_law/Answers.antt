use Rattle.crq_sim.proofs.WindowFacts.{serial_stop, stop_serial}
use Rattle.crq_sim.proofs.laws.serial_stop_law.Goals as goal

pub returns-clause-stops : goal.returns-clause-stops
returns-clause-stops c = serial_stop

pub returns-clause-in_window : goal.returns-clause-in_window
returns-clause-in_window c = stop_serial
