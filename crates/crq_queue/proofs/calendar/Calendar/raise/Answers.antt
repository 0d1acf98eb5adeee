use Rattle.std.proofs.Common.{ap, arith, rules}
use Rattle.crq_base.specs.declared.words.Current.{Current}
use Rattle.crq_queue.proofs.Raises.{raise_late, raise_done, raise_failed}
use Rattle.crq_queue.proofs.calendar.Calendar.raise.Goals as goal

pub returns-then-pass-budget : goal.returns-then-pass-budget
returns-then-pass-budget c n may known = let fits = c.next_position.type_inv in let is = ap (λ (z : Current). z.tick) c.in-Some.ensures in raise_late c.requires.walked c.args.raises c.requires.of (search rules) c.requires.within c.if-pass-budget.true known

pub returns-then-raise_step : goal.returns-then-raise_step
returns-then-raise_step c n may known = let room = c.if-pass-budget.false in raise_done c.requires.walked c.raise_step.ensures may (omega arith) known c.requires.few c.if-raise_step.true

pub returns-else-raise_step : goal.returns-else-raise_step
returns-else-raise_step c n may known = let room = c.if-pass-budget.false in raise_failed c.requires.walked c.raise_step.ensures may (omega arith) known c.requires.few c.if-raise_step.false
