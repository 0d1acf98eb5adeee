use Rattle.crq_hold.proofs.Stopping.{viewed_sight, takes_here}
use Rattle.crq_hold.proofs.tests.stopping.take_here.Goals as goal

pub returns-clause-at : goal.returns-clause-at
returns-clause-at c = (takes_here c.current_step-current.ensures c.requires.inside c.new.result _ c.requires.began c.requires.free c.requires.one c.new.ensures).0

pub returns-clause-place : goal.returns-clause-place
returns-clause-place c = (takes_here c.current_step-current.ensures c.requires.inside c.new.result _ c.requires.began c.requires.free c.requires.one c.new.ensures).1

pub returns-clause-sees : goal.returns-clause-sees
returns-clause-sees c = viewed_sight c.current_step-current.ensures c.requires.inside
