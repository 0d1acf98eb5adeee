-- The words of the shared table as sums of their fields, the values that have a word, and the numbers that are such words.
use Rattle.std.specs.Prelude.{◌≡◌, ℕ, ◌+◌, ◌*◌, ◌/◌, ◌%◌, ◌^◌, ◌<◌, ◌≤◌, Bool, true, false}
use Rattle.crq_base.specs.declared.words.Mark.{Mark}
use Rattle.crq_base.specs.declared.words.Mark.TheVariants.{Val, Inv, Mov, Del}
use Rattle.crq_base.specs.declared.words.Link.{Link}
use Rattle.crq_base.specs.declared.words.Current.{Current}
use Rattle.crq_base.specs.declared.words.Control.{Control}
use Rattle.crq_base.specs.declared.words.Pin.{Pin}
use Rattle.crq_base.specs.declared.words.Stamp.{Stamp}
use Rattle.crq_base.specs.declared.words.Stamp.TheVariants.{Kept, Retired}

abbrev pub mark_number : Mark → ℕ
mark_number Val = 0
mark_number Inv = 1
mark_number Mov = 2
mark_number Del = 3

-- a flag as one bit
abbrev pub flag_number : Bool → ℕ
flag_number false = 0
flag_number true = 1

-- the fields keep to their bits
pub record IsLink (link : Link) : Type 0 where
  pub generation : link.generation < 2 ^ 30
  pub row : link.row < 2 ^ 24

-- the mark from bit 0, the row from bit 2, the generation from bit 26
unfoldable pub link_word : Link → ℕ
link_word link = link.generation * 2 ^ 26 + link.row * 2 ^ 2 + mark_number link.mark

abbrev pub IsLinkWord : ℕ → Type 0
IsLinkWord word = word < 2 ^ 56

pub record IsCurrent (current : Current) : Type 0 where
  pub epoch : current.epoch < 2 ^ 32
  pub tick : current.tick < 2 ^ 32

-- the tick from bit 0, the epoch from bit 32
unfoldable pub current_word : Current → ℕ
current_word current = current.epoch * 2 ^ 32 + current.tick

-- each word of 64 bits
abbrev pub IsCurrentWord : ℕ → Type 0
IsCurrentWord word = word < 2 ^ 64

-- the fields keep to their bits, and a steady table has no next one
pub record IsControl (control : Control) : Type 0 where
  pub generation : control.generation < 2 ^ 30
  pub log : control.log < 2 ^ 4
  pub shift : control.shift < 2 ^ 5
  pub new_log : control.new_log < 2 ^ 4
  pub new_shift : control.new_shift < 2 ^ 5
  pub steady_log : control.moving ≡ false → control.new_log ≡ 0
  pub steady_shift : control.moving ≡ false → control.new_shift ≡ 0

-- new shift from bit 0, new log from 5, shift from 9, log from 14, moving at 18, generation from 19
unfoldable pub control_word : Control → ℕ
control_word control =
    control.generation * 2 ^ 19 + flag_number control.moving * 2 ^ 18 + control.log * 2 ^ 14 + control.shift * 2 ^ 9
    + control.new_log * 2 ^ 5 + control.new_shift

-- of 49 bits, and where bit 18 is off, so are the 9 bits of the next table
pub record IsControlWord (word : ℕ) : Type 0 where
  pub below : word < 2 ^ 49
  pub steady : word / 2 ^ 18 % 2 ≡ 0 → word % 2 ^ 9 ≡ 0

pub record IsPin (pin : Pin) : Type 0 where
  pub generation : pin.generation < 2 ^ 30
  pub epoch : pin.epoch < 2 ^ 32

-- the epoch from bit 0, the generation from bit 32
unfoldable pub pin_word : Pin → ℕ
pin_word pin = pin.generation * 2 ^ 32 + pin.epoch

abbrev pub IsPinWord : ℕ → Type 0
IsPinWord word = word < 2 ^ 62

-- no tag is above the last epoch
abbrev pub IsStamp : Stamp → Type 0
IsStamp Kept = Unit {0}
IsStamp (Retired tag) = tag ≤ 2 ^ 62

unfoldable pub stamp_word : Stamp → ℕ
stamp_word Kept = 0
stamp_word (Retired tag) = 1 + tag

abbrev pub IsStampWord : ℕ → Type 0
IsStampWord word = word ≤ 1 + 2 ^ 62
