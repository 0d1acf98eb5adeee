-- Where a run in windows stands, as the history of its set tells it.
use Rattle.std.specs.Prelude.{◌≡◌, ◌↔◌, ℕ, ◌+◌, ◌≤◌, List, ◌++◌, length, Contains}
use Rattle.crq_base.specs.declared.event.Event.{Event}
use Rattle.crq_base.specs.declared.entry.Entry.{Entry}
use Rattle.crq_base.specs.Histories.{puts, outs, IsPending, table_count}
use Rattle.crq_sim.specs.Models.{ModelData}
use Rattle.crq_sim.specs.Runs.{events_sent, scheduled_starts, beginning, simulation_at}
use Rattle.crq_sim.specs.EventLists.{IsHead}
use Rattle.crq_sim.specs.WindowRuns.{AreBelow, AreFrom, RunsWindow}
use Rattle.crq_sim.specs.Windows.{EndsWindow, IsWindowEnd, HasMoreEvents, HasFewRows}
use Rattle.crq_host.specs.Histories.{AreTakesOf, IsRunTo, IsCalm}
use Rattle.crq_host.specs.Drives.{Caps}

-- the starts of a model, and what the first n events of its run sent
abbrev pub sent_within : ModelData → ℕ → List Event
sent_within m n = scheduled_starts m.until 0 m.starts ++ events_sent m (beginning m) n

-- The run stands after window k, which ended after n events in all: the history is that of the run so far, its puts are just what the run sent, and just what is pending in the run is pending in the set
pub record StandsAfter (m : ModelData) (k n : ℕ) (history : List Entry) : Type 0 where
  pub end : IsWindowEnd m (beginning m) k n
  pub run : IsRunTo m k history
  pub calm : IsCalm history
  pub tables : table_count history ≡ 0
  pub taken : (e : Event) → Contains (outs history) e → Contains (puts history) e
  pub put : (e : Event) → Contains (puts history) e ↔ Contains (sent_within m n) e
  pub pending : (e : Event) → IsPending history e ↔ Contains (simulation_at m n).pending e

-- of a window that begins there: the first event, the events below the edge and the rest of what is pending, and the entries that took those events
pub record TakesWindow (m : ModelData) (n : ℕ) (history drained : List Entry) (first : Event) (below rest : List Event) : Type 0 where
  pub head : IsHead first (simulation_at m n).pending
  pub parts : (simulation_at m n).pending ≡ below ++ rest
  pub ends : EndsWindow m (simulation_at m n) (length below)
  pub low : AreBelow (first.time + m.lookahead) below
  pub high : AreFrom (first.time + m.lookahead) rest
  pub runs : RunsWindow m (first.time + m.lookahead) (simulation_at m n) below rest
  pub since : List Entry
  pub extends : drained ≡ history ++ since
  pub takes : AreTakesOf below since

-- nothing stops the run up to window k
pub record PassesTo (m : ModelData) (caps : Caps) (k : ℕ) : Type 0 where
  pub events : (j : ℕ) → j ≤ k → HasMoreEvents m (beginning m) caps.events j → ⊥
  pub rows : (j p : ℕ) → j ≤ k → HasFewRows m (beginning m) caps.rows j p → ⊥
