use Rattle.std.proofs.Common.{arith}
use Rattle.std.proofs.lemmas.Result.{err_from_is_err_and}
use Rattle.crq_hold.specs.Workers.{next_event}
use Rattle.crq_hold.proofs.Working.{went_none, next_fresh}
use Rattle.crq_hold.proofs.Waiting.{put_waited, put_short}
use Rattle.crq_hold.proofs.worker.Worker.put_waiting.Goals as goal

pub returns-then-self-clause-counts : goal.returns-then-self-clause-counts
returns-then-self-clause-counts g c = went_none _ c.args.self.now c.requires

pub returns-then-self-clause-added : goal.returns-then-self-clause-added
returns-then-self-clause-added g c = λ below. absurd (omega arith)

pub put-requires-clause-fresh : goal.put-requires-clause-fresh
put-requires-clause-fresh g c = next_fresh _ c.args.self.now c.requires c.args.time c.args.load

pub returns-in_err-end-clause-counts : goal.returns-in_err-end-clause-counts
returns-in_err-end-clause-counts g c = let p = err_from_is_err_and c.from_residual.result c.from_residual.ensures.1 in rw (p.1) (put_short _ c.args.self.now c.requires _ (next_event c.args.self.now c.args.time c.args.load) _ c.in_err-end.ensures.added)

pub returns-clause-counts : goal.returns-clause-counts
returns-clause-counts g c = put_waited _ c.args.self.now c.requires _ c.args.time c.args.load c.in_ok-end.ensures.added
