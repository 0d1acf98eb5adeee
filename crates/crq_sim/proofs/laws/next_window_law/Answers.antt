use Rattle.crq_sim.proofs.NextWindow.{next_window}
use Rattle.crq_sim.proofs.laws.next_window_law.Goals as goal

pub returns : goal.returns
returns c = next_window
