use Rattle.std.proofs.Common.{arith}
use Rattle.crq_host.proofs.MergeLaws.{given}
use Rattle.crq_host.proofs.merging.give.Goals as goal

pub returns-clause-due : goal.returns-clause-due
returns-clause-due g c =
    given c.args.workers.now c.min-owner.result c.args.span c.args.event _ c.index-workers-owner.result
    (let k = c.min-owner.ensures in let s = c.requires.some in omega arith) c.min-owner.ensures c.in_ok-push.ensures.items
