use Rattle.crq_queue.specs.declared.calendar.Whole.{Whole}
use Rattle.crq_queue.proofs.Wholes.{opening_whole, opening_empty}
use Rattle.crq_queue.proofs.calendar.Calendar.make.Goals as goal

pub returns-clause-whole : goal.returns-clause-whole
returns-clause-whole c = let whole : Whole = record { seat = c.in_ok-table.field-0.seat; places = c.in_ok-table.field-0.places } in opening_whole _ _ whole (c.in_ok-table.ensures)

pub returns-clause-empty : goal.returns-clause-empty
returns-clause-empty c = let whole : Whole = record { seat = c.in_ok-table.field-0.seat; places = c.in_ok-table.field-0.places } in opening_empty _ _ whole (c.in_ok-table.ensures)
