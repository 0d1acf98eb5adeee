use Rattle.crq_host.specs.declared.worker.Changed.{Changed}
use Rattle.crq_host.proofs.MergeLaws.{set_next}
use Rattle.crq_host.proofs.merging.set_states.Goals as goal

-- some change
abbrev no_change : Changed
no_change = record { object = 0; state = record { count = 0; word = 0; sent = 0 } }

pub loop-change-preserved : goal.loop-change-preserved
loop-change-preserved c = set_next c.args.changed.now c.loop-change.change-index no_change _ _ c.loop-change-test.true (c.requires c.loop-change.change-index no_change c.loop-change-test.true) c.loop-change.invariant
