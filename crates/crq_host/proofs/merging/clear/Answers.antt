use Rattle.std.proofs.Common.{arith, length, ◌<◌}
use Rattle.crq_host.proofs.MergeLaws.{cleared_next, cleared_all}
use Rattle.crq_host.proofs.merging.clear.Goals as goal

pub loop-i-preserved : goal.loop-i-preserved
loop-i-preserved g c =
    let lt : c.loop-i.i < length c.loop-i.workers = (let k = c.loop-i.invariant.count in let t = c.loop-i-test.true in omega arith) in
    cleared_next c.loop-i.i c.args.workers.now c.loop-i.workers c.clear_lists.new.worker c.index-workers-i.result lt c.loop-i.invariant c.clear_lists.ensures

pub returns : goal.returns
returns g c = cleared_all c.loop-i.i c.args.workers.now c.loop-i.workers c.loop-i-test.false c.loop-i.invariant
