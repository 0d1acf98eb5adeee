-- All workers of a calendar, and the places that their passes came from.
use Rattle.std.specs.Prelude.{◌≡◌, ℕ, ◌+◌, ◌<◌, ◌≤◌, Option, List, [], ◌∷◌, length, Some, slice_get}
use Rattle.std.specs.List.{filter_map}
use Rattle.crq_base.specs.declared.event.Event.{Event}
use Rattle.crq_base.specs.declared.entry.Entry.{Entry}
use Rattle.crq_base.specs.Histories.{puts, outs, put_of, taken_of, IsLegal}
use Rattle.crq_rule.specs.declared.pass.Pass.{Pass}
use Rattle.crq_rule.specs.declared.pass.Table.{Table}
use Rattle.crq_rule.specs.declared.pass.Seating.{Seating}
use Rattle.crq_rule.specs.declared.pass.Seating.TheVariants.{Here, Lifted}
use Rattle.crq_rows.specs.Passes.{caller}
use Rattle.crq_hold.specs.declared.worker.Worker.{Worker}
use Rattle.crq_hold.specs.Workers.{IsWorker, IsSettled, PutAndTook}

-- each of n callers' passes is in its place
abbrev pub AreAtHome : ℕ → List Seating → Type 0
AreAtHome n places = (k : ℕ) → k < n → ((pass : Pass) × (slice_get places k ≡ Some (Here pass)))

-- the n places are free
abbrev pub AreFree : ℕ → List Seating → Type 0
AreFree n places = (k : ℕ) → k < n → slice_get places k ≡ Some Lifted

-- the passes below n were taken out of these places, each for a worker whose next event has this number
pub record AreLifted (next : ℕ) (start now : List Seating) (workers : List Worker) (n : ℕ) : Type 0 where
  pub wide : length now ≡ length start
  pub count : length workers ≡ n
  pub each : (k : ℕ) (w : Worker) → slice_get workers k ≡ Some w → (slice_get start k ≡ Some (Here w.pass)) × (w.next ≡ next)
  pub gone : AreFree n now
  pub left : (k : ℕ) → n ≤ k → slice_get now k ≡ slice_get start k

-- each worker has the number of its place
abbrev pub AreInOrder : List Worker → Type 0
AreInOrder workers = (k : ℕ) (w : Worker) → slice_get workers k ≡ Some w → w.pass.number ≡ k

-- the passes of the workers below n were put back in these places
pub record AreLowered (start now : List Seating) (workers : List Worker) (n : ℕ) : Type 0 where
  pub wide : length now ≡ length start
  pub each : (k : ℕ) (w : Worker) → k < n → slice_get workers k ≡ Some w → slice_get now k ≡ Some (Here w.pass)
  pub left : (k : ℕ) → n ≤ k → slice_get now k ≡ slice_get start k

-- they are the workers of all callers of the table
pub record AreWorkers (table : Table) (workers : List Worker) : Type 0 where
  pub count : length workers ≡ table.start.layout.workers
  pub order : AreInOrder workers
  pub each : (k : ℕ) (w : Worker) → slice_get workers k ≡ Some w → IsWorker table w

-- and none of their passes owes an event, as gathering asks
abbrev pub AreSettled : List Worker → Type 0
AreSettled workers = (k : ℕ) (w : Worker) → slice_get workers k ≡ Some w → IsSettled w

-- each worker made so many holds: it took and put as many events, and counts that
pub record AllHeld (table : Table) (old new : List Worker) (holds : ℕ) : Type 0 where
  pub count : length new ≡ length old
  pub each : (k : ℕ) (v w : Worker) → slice_get old k ≡ Some v → slice_get new k ≡ Some w → PutAndTook table v w holds holds × (w.holds ≡ holds)

-- how many holds all of them made
abbrev pub total_holds : List Worker → ℕ
total_holds [] = 0
total_holds (w ∷ ws) = w.holds + total_holds ws

-- each worker's pass was dealt after no entry, and none has made one since
abbrev pub AreNew : Table → List Worker → Type 0
AreNew table workers = (k : ℕ) (w : Worker) → slice_get workers k ≡ Some w → ((caller table w.pass).deal.history ≡ []) × ((caller table w.pass).own ≡ [])

-- how many events of one kind, as those that were put, stand in the entries that all of them made since their passes were dealt
abbrev pub total_of : (Entry → Option Event) → Table → List Worker → ℕ
total_of event_of table [] = 0
total_of event_of table (w ∷ ws) = length (filter_map event_of (caller table w.pass).own) + total_of event_of table ws

-- all went on with their passes, and by their entries put and took so many events more, all together
pub record AllWent (table : Table) (old new : List Worker) (put taken : ℕ) : Type 0 where
  pub workers : AreWorkers table new
  pub count : length new ≡ length old
  pub deals : (k : ℕ) (v w : Worker) → slice_get old k ≡ Some v → slice_get new k ≡ Some w → (caller table w.pass).deal ≡ (caller table v.pass).deal
  pub puts_more : total_of put_of table new ≡ total_of put_of table old + put
  pub takes_more : total_of taken_of table new ≡ total_of taken_of table old + taken

-- a legal history of so many pending events and holds: each was put, each hold took one and put one, and in the end as many were taken as were put
pub record HasHeld (history : List Entry) (pending holds : ℕ) : Type 0 where
  pub legal : IsLegal history
  pub put : length (puts history) ≡ pending + holds
  pub taken : length (outs history) ≡ pending + holds
