use Rattle.std.proofs.Common.{inr}
use Rattle.crq_top.proofs.performing.tell.Goals as goal

pub returns-in-Err : goal.returns-in-Err
returns-in-Err g c = inr c.say-in-Err.ensures
