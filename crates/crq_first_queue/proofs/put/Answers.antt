use Rattle.crq_first_queue.proofs.Passing.{put_done, put_refused}
use Rattle.crq_first_queue.proofs.put.Goals as goal

pub returns-in-Ok : goal.returns-in-Ok
returns-in-Ok g c = put_done c.requires.rests c.in-Ok.ensures.nothing c.args.event.now c.in-Ok.ensures.added

pub returns-in-Err : goal.returns-in-Err
returns-in-Err g c = put_refused c.requires.rests c.in-Err.ensures.nothing c.args.event.now _ c.in-Err.ensures.added
