use Rattle.crq_sim.proofs.Sound.{word_after, after_count, after_sent, few_sends}
use Rattle.crq_sim.proofs.laws.reaction_law.Goals as goal

pub returns-clause-word : goal.returns-clause-word
returns-clause-word c = word_after

pub returns-clause-count : goal.returns-clause-count
returns-clause-count c = after_count

pub returns-clause-sent : goal.returns-clause-sent
returns-clause-sent c = after_sent

pub returns-clause-few : goal.returns-clause-few
returns-clause-few c = few_sends
