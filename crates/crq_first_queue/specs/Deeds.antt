-- Which events a caller may put, what it did, and what comes of all calls.
use Rattle.std.specs.Prelude.{◌≡◌, ℕ, ◌<◌, List, [], ◌∷◌, ◌++◌, Result, Ok, Err}
use Rattle.crq_base.specs.declared.event.Event.{Event}
use Rattle.crq_base.specs.declared.entry.Entry.{Entry}
use Rattle.crq_base.specs.declared.entry.Entry.TheVariants.{Begin, Miss}
use Rattle.crq_base.specs.Entries.{caller_of}
use Rattle.crq_base.specs.Histories.{puts, own as own_of, IsLegal}
use Rattle.crq_base.specs.Lists.{In}
use Rattle.crq_base.specs.Sources.{IsFresh}
use Rattle.crq_rule.specs.declared.pass.Pass.{Pass}
use Rattle.crq_rule.specs.declared.pass.Table.{Table}
use Rattle.crq_rows.specs.Passes.{caller}
use Rattle.crq_queue.specs.Wholes.{MayGather}
use Rattle.crq_first_queue.specs.declared.Trouble.{Trouble}

-- the event for object 1 with this source, number and time
abbrev pub named : ℕ → ℕ → ℕ → Event
named src seq time = record { time = time; src = src; seq = seq; dst = 1; load = 0 }

-- the event is of a source of the caller's, and the caller has seen no other put with that source and number
abbrev pub IsNew : Table → Pass → Event → Type 0
IsNew table pass e = let p = caller table pass in IsFresh table.start.layout.workers p.deal.history p.own p.deal.span pass.number e

-- the pass went on, rests again and owes no event: by the entries that it added to the history it put these events
pub record Did (table : Table) (old new : Pass) (put : List Event) : Type 0 where
  pub rests : MayGather table new
  pub number : new.number ≡ old.number
  pub deal : (caller table new).deal ≡ (caller table old).deal
  pub since : List Entry
  pub own : (caller table new).own ≡ (caller table old).own ++ since
  pub puts_are : puts since ≡ put

-- the events that were put, by what a call answered
abbrev pub if_put : Result (Unit {0}) Trouble → Event → List Event
if_put (Ok u) e = e ∷ []
if_put (Err t) e = []

-- the caller's last entries are those of a take that found nothing below the limit
abbrev pub EndsEmpty : ℕ → ℕ → List Entry → Type 0
EndsEmpty caller limit entries = (before : List Entry) × (entries ≡ before ++ Begin caller ∷ Miss caller limit ∷ [])

-- The history of all calls is legal. Each of the two callers put its two events, in this order, and nobody else made a call; and the first one took until there was nothing below tick 100
pub record HasPlayed (history : List Entry) : Type 0 where
  pub legal : IsLegal history
  pub first : puts (own_of 0 history) ≡ named 0 0 7 ∷ named 0 1 2 ∷ []
  pub second : puts (own_of 1 history) ≡ named 1 0 3 ∷ named 1 1 7 ∷ []
  pub callers : (e : Entry) → In e history → caller_of e < 2
  pub all : EndsEmpty 0 100 (own_of 0 history)
