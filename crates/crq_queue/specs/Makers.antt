-- What a maker of calendars keeps.
use Rattle.std.specs.Prelude.{ℕ, List, map}
use Rattle.std.proofs.Common.{zero-le, suc-le-suc, le_refl}
use Rattle.crq_base.specs.declared.limits.TheConstants.{MOST_WORKERS}
use Rattle.crq_base.specs.declared.entry.Entry.{Entry}
use Rattle.crq_base.specs.Sizes.{IsTeam}
use Rattle.crq_queue.specs.declared.maker.CalendarMaker.{CalendarMaker}
use Rattle.crq_queue.specs.Wholes.{last_history}

-- the histories of the calendars that it closed, in order
abbrev pub closed_histories : CalendarMaker → List (List Entry)
closed_histories maker = map last_history maker.closed.items

-- for how many more it has room
abbrev pub room : CalendarMaker → ℕ
room maker = maker.free

-- a calendar may have up to this many callers
pub most_is_a_team : IsTeam MOST_WORKERS
most_is_a_team = (suc-le-suc zero-le, le_refl MOST_WORKERS)
