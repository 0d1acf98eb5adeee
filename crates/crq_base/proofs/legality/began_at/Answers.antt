use Rattle.std.proofs.Common.{arith}
use Rattle.crq_base.proofs.Searches.{last_told}
use Rattle.crq_base.proofs.legality.began_at.Goals as goal

pub returns : goal.returns
returns c = last_told c.args.caller c.args.history.now c.loop-place.place c.loop-place.last (omega arith) (omega arith) c.loop-place.invariant
