use Rattle.std.proofs.Common.{ap, ◌∙◌}
use Rattle.crq_hold.proofs.Stopping.{take_ended_inside}
use Rattle.crq_hold.proofs.tests.stopping.mark.Goals as goal

pub loop-preserved : goal.loop-preserved
loop-preserved c = let l = c.loop.invariant in let s = c.in-More.ensures 0 _ l.1 in (s.is, s.answers.0, ap (λ d. d.cut) s.answers.3 ∙ l.2)

pub returns-in-Done-Marked-clause-of : goal.returns-in-Done-Marked-clause-of
returns-in-Done-Marked-clause-of c = (c.in-Done-Marked.ensures 0 _ c.loop.invariant.1).is

pub returns-in-Done-Marked-clause-inside : goal.returns-in-Done-Marked-clause-inside
returns-in-Done-Marked-clause-inside c = let l = c.loop.invariant in take_ended_inside _ l.1 (c.in-Done-Marked.ensures 0 _ l.1)

pub returns-in-Done : goal.returns-in-Done
returns-in-Done c = let l = c.loop.invariant in let s = c.in-Done.ensures 0 _ l.1 in record { of = s.is; inside = take_ended_inside _ l.1 s }
