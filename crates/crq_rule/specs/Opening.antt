-- A new table: its words, and the core state that they stand for.
use Rattle.std.specs.Prelude.{◌≡◌, ℕ, ◌+◌, ◌-◌, ◌*◌, ◌/◌, ◌^◌, ◌<◌, ◌≤◌, ◌&&◌, cond, nat_lt, nat_le, List, [], Some, None, false, slice_get, length}
use Rattle.std.specs.VecDeque.{deque_capacity}
use Rattle.crq_base.specs.declared.words.Link.{Link}
use Rattle.crq_base.specs.declared.words.Mark.TheVariants.{Val, Mov}
use Rattle.crq_rule.specs.declared.debts.Debts.{Debts}
use Rattle.crq_rule.specs.declared.layout.Layout.{Layout}
use Rattle.crq_rule.specs.declared.layout.Start.{Start}
use Rattle.crq_rule.specs.declared.pass.Rest.{Rest}
use Rattle.crq_rule.specs.declared.pass.Seating.{Seating}
use Rattle.crq_rule.specs.declared.pass.Seating.TheVariants.{Resting}
use Rattle.atomic_table.specs.declared.shared.Seat.{Seat}
use Rattle.crq_rule.specs.declared.pass.Table.{Table}
use Rattle.crq_rule.specs.declared.view.View.{View}
use Rattle.crq_rule.specs.Places.{Words}
use Rattle.crq_rule.specs.Ranks.{first_head_of, shape_of}
use Rattle.crq_rule.specs.Core.{Core, in_hand}
use Rattle.crq_rule.specs.Rule.{fresh, first_view, rows_from}

abbrev pub open_head : ℕ → Link
open_head g = record { generation = g; row = 0; mark = Val }

abbrev pub shut_head : Link
shut_head = record { generation = 0; row = 0; mark = Mov }

-- a new table has 2 ^ 3 lists
abbrev pub opening_log : ℕ
opening_log = 3

-- the head q of a table that was opened in generation g
abbrev pub opening_head : ℕ → ℕ → Link
opening_head g q = cond (nat_le (first_head_of g) q && nat_lt q (first_head_of g + 2 ^ opening_log)) (open_head g) shut_head

abbrev pub opening_words : Start → Words
opening_words s = record {
  epoch = s.first.guard;
  announced = λ _. 0;
  control = record { generation = s.first.generation; moving = false; log = opening_log; shift = 0; new_log = 0; new_shift = 0 };
  current = record { epoch = s.first.epoch; tick = 0 };
  pin = record { generation = 0; epoch = 0 };
  head = opening_head s.first.generation;
  link = λ _. record { generation = 0; row = 0; mark = Val };
  stamp = λ _. 0;
  twin = λ _. 0;
  event = λ _. record { time = 0; src = 0; seq = 0; dst = 0; load = 0 };
}

-- the same where the heads from q on are still 0
abbrev pub headed : Start → ℕ → Words
headed s q = record (opening_words s) { head = λ k. cond (nat_lt k q) (opening_head s.first.generation k) (record { generation = 0; row = 0; mark = Val }) }

-- where a row has its home
abbrev pub home_of : Layout → ℕ → ℕ
home_of l r = (r - 1) / l.home

abbrev pub opening_core : Start → Core
opening_core s = record {
  start = s;
  words = opening_words s;
  history = [];
  deal = (fresh s 0).deal;
  shape = λ _. shape_of (opening_words s).control;
  chain = λ _. [];
  holding = λ r. in_hand (home_of s.layout r);
  begun = λ _. 0;
  read = λ _. 0;
  own = λ j. (fresh s j).own;
  made = λ j. (fresh s j).made;
  epochs = λ j. (fresh s j).epochs;
  guard = λ j. (fresh s j).guard;
  tick = λ j. (fresh s j).tick;
  hand = λ j. (fresh s j).hand;
  ripening = λ j. (fresh s j).ripening;
  cut = λ j. (fresh s j).cut;
  base = λ j. (fresh s j).base;
  settling = λ _. None;
  copying = λ _. None;
  named = λ _. record { first = None; second = None };
  permit = λ j. (fresh s j).permit;
  rows = λ _. [];
  old = λ _. None;
  found = λ j. (fresh s j).found;
  written = λ j. (fresh s j).written;
  sight = λ _. None;
  walk = λ _. None;
  help = λ j. (fresh s j).help;
  sweep = λ j. (fresh s j).sweep;
  clean = λ j. (fresh s j).clean;
  refused = λ j. (fresh s j).refused;
  told = λ j. (fresh s j).told;
}

abbrev pub no_debts : Debts
no_debts = record { settle = None; copy = None; cut = None; second_cut = None }

-- the caller j rests with all its home rows free, and room for no more
pub record IsFresh (l : Layout) (j : ℕ) (rest : Rest) : Type 0 where
  pub free : rest.free.items ≡ rows_from (j * l.home) l.home
  pub room : l.home ≤ deque_capacity rest.free
  pub debts : rest.debts ≡ no_debts

-- the callers below n rest so
pub record AreFresh (l : Layout) (n : ℕ) (places : List Seating) : Type 0 where
  pub wide : length places ≡ n
  pub each : (j : ℕ) → j < n → ((rest : Rest) × (slice_get places j ≡ Some (Resting rest)) × IsFresh l j rest)

-- all callers rest, and the seat carries what each of them knows at the start
pub record IsOpening (start : Start) (table : Table) (seat : Seat (Unit {0}) View) (places : List Seating) : Type 0 where
  pub of : table.start ≡ start
  pub seated : seat.table_id ≡ table.inner.shared.table_id
  pub me : seat.me ≡ (first_view start, [])
  pub resting : AreFresh start.layout start.layout.workers places
