use Rattle.crq_base.proofs.WordLaws.{link_spelling, current_spelling, control_spelling, pin_spelling, stamp_spelling}
use Rattle.crq_base.proofs.words.spelling_law.Goals as goal

pub returns-clause-links : goal.returns-clause-links
returns-clause-links c = link_spelling

pub returns-clause-currents : goal.returns-clause-currents
returns-clause-currents c = current_spelling

pub returns-clause-controls : goal.returns-clause-controls
returns-clause-controls c = control_spelling

pub returns-clause-pins : goal.returns-clause-pins
returns-clause-pins c = pin_spelling

pub returns-clause-stamps : goal.returns-clause-stamps
returns-clause-stamps c = stamp_spelling
