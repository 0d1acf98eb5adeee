use Rattle.crq_sim.proofs.KeyLemmas.{sent_late, some_sender, run_apart}
use Rattle.crq_sim.proofs.laws.run_law.Goals as goal

pub returns-clause-late : goal.returns-clause-late
returns-clause-late c = sent_late

pub returns-clause-sent : goal.returns-clause-sent
returns-clause-sent c = some_sender

pub returns-clause-apart : goal.returns-clause-apart
returns-clause-apart c = run_apart
