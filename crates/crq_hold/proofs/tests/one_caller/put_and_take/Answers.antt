use Rattle.std.proofs.Common.{arith}
use Rattle.crq_hold.proofs.OneCaller.{put_second}
use Rattle.crq_hold.proofs.tests.one_caller.put_and_take.Goals as goal

pub put-requires-2-clause-may : goal.put-requires-2-clause-may
put-requires-2-clause-may g c =
    put_second (g.S.EventSet.setup c.args.set.now) (g.S.EventSet.view c.args.pass.now) (g.S.EventSet.view c.put.new.pass) c.event.result c.event-2.result c.requires.one c.requires.dealt c.in_ok-put.ensures.puts
    (λ same. let first = c.event.ensures in let second = c.event-2.ensures in omega arith)
