use Rattle.crq_rows.proofs.Wakings.{Waking}
use Rattle.crq_rows.proofs.dealing.wake_all.Given as goal

abbrev pub invariant-loop-number : goal.invariant-loop-number
invariant-loop-number l = Waking l.table l.fn.seat l.fn.places.items l.passes.places.items l.left l.number
