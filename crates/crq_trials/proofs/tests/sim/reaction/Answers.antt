use Rattle.crq_trials.proofs.Models.{word_known}
use Rattle.crq_trials.proofs.tests.sim.reaction.Goals as goal

pub react-sends-requires-clause-word : goal.react-sends-requires-clause-word
react-sends-requires-clause-word c = word_known _ _ c.requires.word
