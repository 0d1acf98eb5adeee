use Rattle.std.proofs.Common.{subst}
use Rattle.crq_host.specs.Shares.{Begun, RanShare}
use Rattle.crq_host.proofs.running.run_groups.Goals as goal

pub returns-clause-ran : goal.returns-clause-ran
returns-clause-ran g c = λ i d lt.
    let b : Begun = record { model = c.args.model.now; states = c.args.states.now; events = c.args.events.now; groups = c.args.groups.now } in
    let e = (c.for_each_mut.ensures i d lt).1 in
    subst (RanShare b _ i) e.left e.call.1
