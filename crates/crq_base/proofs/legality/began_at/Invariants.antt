use Rattle.crq_base.proofs.Searches.{IsLastBegin}
use Rattle.crq_base.proofs.legality.began_at.Given as goal

abbrev pub invariant-loop-place : goal.invariant-loop-place
invariant-loop-place l = IsLastBegin l.caller l.history l.place l.last
