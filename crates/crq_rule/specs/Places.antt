-- The words of the table, and the place of each.
use Rattle.std.specs.Prelude.{◌≡◌, ℕ, ◌+◌, ◌*◌, ◌^◌, ◌<◌, ◌≤◌, List, length, slice_index}
use Rattle.crq_base.specs.declared.event.Event.{Event}
use Rattle.crq_base.specs.declared.words.Link.{Link}
use Rattle.crq_base.specs.declared.words.Control.{Control}
use Rattle.crq_base.specs.declared.words.Current.{Current}
use Rattle.crq_base.specs.declared.words.Pin.{Pin}
use Rattle.crq_base.specs.Words.{link_word, control_word, current_word, pin_word}
use Rattle.crq_rule.specs.declared.layout.Layout.{Layout}
use Rattle.crq_rule.specs.Widths.{width}

-- What the words say. Announcements and stamps are kept as their words: 0 is 'out' or 'kept', and 1 + e the epoch or tag e. Heads are numbered over both banks, rows from 1
pub record Words : Type 0 where
  pub epoch : ℕ
  pub announced : ℕ → ℕ
  pub control : Control
  pub current : Current
  pub pin : Pin
  pub head : ℕ → Link
  pub link : ℕ → Link
  pub stamp : ℕ → ℕ
  pub twin : ℕ → ℕ
  pub event : ℕ → Event

pub data Place : Type 0 where
  spare : Place
  between : ℕ → ℕ → Place
  epoch : Place
  announced : ℕ → Place
  control : Place
  current : Place
  pin : Place
  head : ℕ → Place
  link : ℕ → Place
  stamp : ℕ → Place
  twin : ℕ → Place
  time : ℕ → Place
  source : ℕ → Place
  sequence : ℕ → Place
  load : ℕ → Place

-- the words that callers write often stand 16 apart, with unused words between
abbrev pub index : Layout → Place → ℕ
index l spare = 0
index l (between k i) = 16 * k + i
index l epoch = 16
index l (announced j) = 16 * (2 + j)
index l control = 16 * (2 + l.workers)
index l current = 16 * (3 + l.workers)
index l pin = 16 * (4 + l.workers)
index l (head q) = 16 * (5 + l.workers) + q
index l (link r) = 65609 + 16 * l.workers + 7 * r
index l (stamp r) = 65610 + 16 * l.workers + 7 * r
index l (twin r) = 65611 + 16 * l.workers + 7 * r
index l (time r) = 65612 + 16 * l.workers + 7 * r
index l (source r) = 65613 + 16 * l.workers + 7 * r
index l (sequence r) = 65614 + 16 * l.workers + 7 * r
index l (load r) = 65615 + 16 * l.workers + 7 * r

abbrev pub IsRow : Layout → ℕ → Type 0
IsRow l r = (0 < r) × (r ≤ l.all)

-- the row r has its home with the caller j
abbrev pub IsHomeRow : Layout → ℕ → ℕ → Type 0
IsHomeRow l j r = (j * l.home < r) × (r ≤ j * l.home + l.home)

abbrev pub IsHead : ℕ → Type 0
IsHead q = q < 65536

abbrev pub IsPlace : Layout → Place → Type 0
IsPlace l spare = Unit {0}
IsPlace l (between k i) = (k < 5 + l.workers) × (0 < i) × (i < 16)
IsPlace l epoch = Unit {0}
IsPlace l (announced j) = j < l.workers
IsPlace l control = Unit {0}
IsPlace l current = Unit {0}
IsPlace l pin = Unit {0}
IsPlace l (head q) = IsHead q
IsPlace l (link r) = IsRow l r
IsPlace l (stamp r) = IsRow l r
IsPlace l (twin r) = IsRow l r
IsPlace l (time r) = IsRow l r
IsPlace l (source r) = IsRow l r
IsPlace l (sequence r) = IsRow l r
IsPlace l (load r) = IsRow l r

-- the word at each place
abbrev pub word_of : Words → Place → ℕ
word_of w spare = 0
word_of w (between k i) = 0
word_of w epoch = w.epoch
word_of w (announced j) = w.announced j
word_of w control = control_word w.control
word_of w current = current_word w.current
word_of w pin = pin_word w.pin
word_of w (head q) = link_word (w.head q)
word_of w (link r) = link_word (w.link r)
word_of w (stamp r) = w.stamp r
word_of w (twin r) = w.twin r
word_of w (time r) = (w.event r).time * 2 ^ 32 + (w.event r).dst
word_of w (source r) = (w.event r).src
word_of w (sequence r) = (w.event r).seq
word_of w (load r) = (w.event r).load

-- the list has these words at their places
pub record Shows (l : Layout) (w : Words) (ws : List ℕ) : Type 0 where
  pub wide : length ws ≡ width l
  pub each : (p : Place) → IsPlace l p → slice_index ws (index l p) ≡ word_of w p
