use Rattle.crq_base.proofs.WordLaws.{link_one, current_one, control_one, pin_one, stamp_one}
use Rattle.crq_base.proofs.words.word_law.Goals as goal

pub returns-clause-links : goal.returns-clause-links
returns-clause-links c = link_one

pub returns-clause-currents : goal.returns-clause-currents
returns-clause-currents c = current_one

pub returns-clause-controls : goal.returns-clause-controls
returns-clause-controls c = control_one

pub returns-clause-pins : goal.returns-clause-pins
returns-clause-pins c = pin_one

pub returns-clause-stamps : goal.returns-clause-stamps
returns-clause-stamps c = stamp_one
