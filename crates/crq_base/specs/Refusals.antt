-- The events that a refusal for want of rows counts.
use Rattle.std.specs.Prelude.{◌≡◌, ℕ, List, ◌∷◌, ◌++◌, Contains}
use Rattle.crq_base.specs.declared.event.Event.{Event}
use Rattle.crq_base.specs.declared.entry.Entry.{Entry}
use Rattle.crq_base.specs.declared.entry.Entry.TheVariants.{Begin}
use Rattle.crq_base.specs.Histories.{puts, outs}
use Rattle.crq_base.specs.Lists.{In, IsOnce}

-- the events are different, were put, and none was taken before any Begin of the caller k
pub record AreCounted (history : List Entry) (k : ℕ) (events : List Event) : Type 0 where
  pub once : IsOnce events
  pub put : (e : Event) → In e events → Contains (puts history) e
  pub kept : (e : Event) (front back : List Entry) → In e events → history ≡ front ++ Begin k ∷ back → Contains (outs front) e → ⊥
