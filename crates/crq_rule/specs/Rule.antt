-- The rule of the table: its words and views stand for a core state that meets the invariant.
use Rattle.std.specs.Prelude.{◌≡◌, ◌≢◌, ℕ, zero, suc, ◌+◌, ◌*◌, ◌<◌, List, [], ◌∷◌, ◌++◌, None, false}
use mathlib.Core.Option.{some}
use lib.ListN.{get_elem?}
use Rattle.atomic_table.specs.Table.{State}
use Rattle.crq_rule.specs.declared.layout.Start.{Start}
use Rattle.crq_rule.specs.declared.view.Guard.TheVariants.{Off}
use Rattle.crq_rule.specs.declared.view.Caller.{Caller}
use Rattle.crq_rule.specs.declared.view.View.{View}
use Rattle.crq_rule.specs.Places.{Shows}
use Rattle.crq_rule.specs.Core.{Core, caller_of}
use Rattle.crq_rule.specs.Invariant.{Inv}
use Rattle.crq_rule.specs.Kinds.{nowhere, new_tick}

pub record IsWords (key : Start) (c : Core) (ws : List ℕ) : Type 0 where
  pub start : c.start ≡ key
  pub shows : Shows key.layout c.words ws

-- the seat i carries the part p
pub record Carries (c : Core) (seat : ℕ → ℕ) (i : ℕ) (p : Caller) : Type 0 where
  pub inside : p.number < c.start.layout.workers
  pub mine : seat p.number ≡ i
  pub is : p ≡ caller_of c p.number

-- words and views stand for a core state. Each caller is carried by one seat; a seat that was joined into another carries none
pub record Stands (key : Start) (s : State (Unit {0}) View) : Type 0 where
  pub core : Core
  pub seat : ℕ → ℕ
  pub words : IsWords key core s.words
  pub views : (i k : ℕ) (v : View) (p : Caller) → get_elem? s.views i ≡ some v → get_elem? v.parts k ≡ some p → Carries core seat i p
  pub kept : Inv core

-- the rows after r, n of them
abbrev pub rows_from : ℕ → ℕ → List ℕ
rows_from r zero = []
rows_from r (suc n) = (r + 1) ∷ rows_from (r + 1) n

-- the caller j at the start
abbrev pub fresh : Start → ℕ → Caller
fresh key j = record {
  number = j;
  start = key;
  deal = record { history = []; span = 1 };
  own = [];
  made = [];
  epochs = [];
  guard = Off;
  tick = new_tick 0;
  hand = rows_from (j * key.layout.home) key.layout.home;
  ripening = [];
  cut = None;
  base = None;
  debts = record { settle = None; copy = None; cut = None; second_cut = None };
  permit = false;
  position = nowhere;
  found = record { control = None; current = None };
  written = [];
  sight = None;
  walk = None;
  help = None;
  sweep = None;
  clean = [];
  refused = [];
  told = record { tables = 0; settled = 0 };
}

-- the callers j to j + n - 1
abbrev pub fresh_from : Start → ℕ → ℕ → List Caller
fresh_from key j zero = []
fresh_from key j (suc n) = fresh key j ∷ fresh_from key (j + 1) n

abbrev pub first_view : Start → View
first_view key = record { parts = fresh_from key 0 key.layout.workers }

-- Splitting and joining seats

abbrev pub joined : View → View → View
joined v w = record v { parts = v.parts ++ w.parts }

abbrev pub spent : View
spent = record { parts = [] }

abbrev pub first_of : List Caller → List Caller
first_of [] = []
first_of (p ∷ ps) = p ∷ []

abbrev pub rest_of : List Caller → List Caller
rest_of [] = []
rest_of (p ∷ ps) = ps

abbrev pub head_view : View → View
head_view v = record v { parts = first_of v.parts }

abbrev pub tail_view : View → View
tail_view v = record v { parts = rest_of v.parts }

-- the first part of a view is of another caller than the rest
abbrev pub IsFirstApart : View → Type 0
IsFirstApart v = (k : ℕ) (p q : Caller) → get_elem? (first_of v.parts) 0 ≡ some p → get_elem? (rest_of v.parts) k ≡ some q → q.number ≢ p.number
