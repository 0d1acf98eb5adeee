-- The history of a set in which a model was run in windows: the puts of the starts, then of each window its takes and the puts of what its events sent. Between two callers of one phase there is no order.
use Rattle.std.specs.Prelude.{◌≡◌, ◌↔◌, ℕ, zero, suc, List, [], ◌++◌, Contains}
use Rattle.crq_base.specs.declared.event.Event.{Event}
use Rattle.crq_base.specs.declared.entry.Entry.{Entry}
use Rattle.crq_base.specs.Histories.{puts, settleds, outs, IsLegal, table_count}
use Rattle.crq_base.specs.Lists.{IsOnce}
use Rattle.crq_sim.specs.Models.{ModelData}
use Rattle.crq_sim.specs.Runs.{beginning}
use Rattle.crq_sim.specs.Windows.{WindowData, IsWindow}

-- the first list has each event of the second one once, and no other. As no two events of a run share a key, it is the second one in some order
pub record AreJust (es fs : List Event) : Type 0 where
  pub once : IsOnce es
  pub members : (e : Event) → Contains es e ↔ Contains fs e

-- entries that take just these events, put none and open no table
pub record AreTakesOf (events : List Event) (entries : List Entry) : Type 0 where
  pub takes : AreJust (outs entries) events
  pub puts_none : puts entries ≡ []
  pub tables_none : table_count entries ≡ 0

-- entries that put just these events, take none and open no table
pub record ArePutsOf (events : List Event) (entries : List Entry) : Type 0 where
  pub puts_them : AreJust (puts entries) events
  pub takes_none : outs entries ≡ []
  pub tables_none : table_count entries ≡ 0

-- the history is that of the model's run to the end of window k
abbrev pub IsRunTo : ModelData → ℕ → List Entry → Type 0
IsRunTo m zero history = (x : WindowData) × IsWindow m (beginning m) zero x × ArePutsOf x.sends history
IsRunTo m (suc k) history = (before taken put : List Entry) × (x : WindowData) × IsRunTo m k before × IsWindow m (beginning m) (suc k) x
    × (history ≡ before ++ (taken ++ put)) × AreTakesOf x.events taken × ArePutsOf x.sends put

-- the history is that of the model's run as far as the takes of window k, which isn't window 0
abbrev pub IsRunToTakes : ModelData → ℕ → List Entry → Type 0
IsRunToTakes m zero history = ⊥
IsRunToTakes m (suc k) history = (before taken : List Entry) × (x : WindowData) × IsRunTo m k before × IsWindow m (beginning m) (suc k) x
    × (history ≡ before ++ taken) × AreTakesOf x.events taken

-- a history of a set at which nobody is at work: it is legal, and each event that was put is settled
pub record IsCalm (history : List Entry) : Type 0 where
  pub legal : IsLegal history
  pub settled : (e : Event) → Contains (puts history) e → Contains (settleds history) e
