use Rattle.std.proofs.Common.{arith}
use Rattle.std.proofs.lemmas.Result.{err_from_is_err_and}
use Rattle.crq_hold.proofs.Working.{went_none, next_fresh, put_done, put_refused}
use Rattle.crq_hold.proofs.worker.Worker.put.Goals as goal

pub returns-then-self-clause-counts : goal.returns-then-self-clause-counts
returns-then-self-clause-counts c = went_none _ c.args.self.now c.requires.worker

pub returns-then-self-clause-answers : goal.returns-then-self-clause-answers
returns-then-self-clause-answers c = λ below. absurd (omega arith)

pub try_put-requires-clause-fresh : goal.try_put-requires-clause-fresh
try_put-requires-clause-fresh c = next_fresh _ c.args.self.now c.requires.worker c.args.time c.args.load

pub returns-in_err-end-clause-counts : goal.returns-in_err-end-clause-counts
returns-in_err-end-clause-counts c = let p = err_from_is_err_and c.from_residual.result c.from_residual.ensures.1 in rw (p.1) (put_refused _ c.args.self.now c.requires.worker _ _ _ _ c.in_err-end.ensures)

pub returns-clause-counts : goal.returns-clause-counts
returns-clause-counts c = put_done _ c.args.self.now c.requires.worker _ _ c.args.time c.args.load c.in_ok-end.end c.in_ok-end.ensures
