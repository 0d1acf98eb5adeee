use Rattle.crq_host.proofs.Drivings.{blank_more, many_more}
use Rattle.crq_host.proofs.course.blank_workers.Goals as goal

pub loop-number-preserved : goal.loop-number-preserved
loop-number-preserved g c =
    let kept = c.loop-number.invariant in
    record {
      many = many_more c.loop-number.workers.items c.push.new.self.items c.blank_worker.result c.loop-number._number kept.many c.in_ok-push.ensures.items;
      blank = blank_more c.loop-number.workers.items c.push.new.self.items c.blank_worker.result c.blank_worker.ensures kept.blank c.in_ok-push.ensures.items;
    }
