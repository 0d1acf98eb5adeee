use Rattle.std.proofs.Common.{Ok}
use Rattle.crq_first_queue.proofs.Passing.{nothing, both, take_did, missed_last}
use Rattle.crq_first_queue.proofs.print.Goals as goal

pub loop-init : goal.loop-init
loop-init g c = nothing c.requires

pub take-requires : goal.take-requires
take-requires g c = record { rests = c.loop.invariant.rests.rests }

pub loop-preserved : goal.loop-preserved
loop-preserved g c = both c.loop.invariant (take_did c.loop.invariant.rests c.in-Ok-Taken.ensures.nothing 100 (Ok c.in-Ok-Taken.field-0) c.in-Ok-Taken.ensures.added)

pub returns-in-Ok-Missed-clause-did : goal.returns-in-Ok-Missed-clause-did
returns-in-Ok-Missed-clause-did g c = both c.loop.invariant (take_did c.loop.invariant.rests c.in-Ok-Missed.ensures.nothing 100 (Ok c.in-Ok-Missed.field-0) c.in-Ok-Missed.ensures.added)

pub returns-in-Ok-Missed-clause-all : goal.returns-in-Ok-Missed-clause-all
returns-in-Ok-Missed-clause-all g c = missed_last _ c.in-Ok-Missed.ensures.nothing c.loop.invariant 100 c.in-Ok-Missed.field-0 c.in-Ok-Missed.field-0-is c.in-Ok-Missed.ensures.added

pub returns-in_err-tell-in-Ok-Taken-clause-did : goal.returns-in_err-tell-in-Ok-Taken-clause-did
returns-in_err-tell-in-Ok-Taken-clause-did g c = both c.loop.invariant (take_did c.loop.invariant.rests c.in-Ok-Taken.ensures.nothing 100 (Ok c.in-Ok-Taken.field-0) c.in-Ok-Taken.ensures.added)
