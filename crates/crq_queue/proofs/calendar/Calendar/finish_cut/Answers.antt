use Rattle.std.proofs.Common.{arith}
use Rattle.crq_queue.proofs.CallOps.{may_cut_owed}
use Rattle.crq_queue.proofs.calendar.Calendar.finish_cut.Goals as goal

pub cut_owed-requires-clause-owed : goal.cut_owed-requires-clause-owed
cut_owed-requires-clause-owed c = let d = c.in-Some in (0, c.args.control.now, may_cut_owed c.requires.of c.requires.inside c.new-cut.result c.list_of-list.result d.debt (omega arith) c.list_of-list.ensures c.new-cut.ensures d.is c.requires.one)

pub returns : goal.returns
returns c = λ n may. let d = c.in-Some in c.cut_owed.ensures n c.args.control.now may (may_cut_owed c.requires.of c.requires.inside c.new-cut.result c.list_of-list.result d.debt may.counted c.list_of-list.ensures c.new-cut.ensures d.is c.requires.one)
