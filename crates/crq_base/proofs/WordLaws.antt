-- Packed words: each word of a kind has one value, and each value within its bits has a word of that kind.
use Rattle.std.proofs.Common.{◌≡◌, ◌↔◌, ℕ, ◌+◌, ◌/◌, ◌%◌, ◌^◌, ◌<◌, ◌≤◌, Bool, true, false, nat_eq, not, zero, suc, refl, ap, sym, ◌∙◌, subst, arith}
use Rattle.std.proofs.lemmas.Bool.{eqb-true, not-false}
use Rattle.std.specs.Int.{from_bool}
use Rattle.crq_base.specs.declared.words.Mark.{Mark}
use Rattle.crq_base.specs.declared.words.Mark.TheVariants.{Val, Inv, Mov, Del}
use Rattle.crq_base.specs.declared.words.Link.{Link}
use Rattle.crq_base.specs.declared.words.Current.{Current}
use Rattle.crq_base.specs.declared.words.Control.{Control}
use Rattle.crq_base.specs.declared.words.Pin.{Pin}
use Rattle.crq_base.specs.declared.words.Stamp.{Stamp}
use Rattle.crq_base.specs.declared.words.Stamp.TheVariants.{Kept, Retired}
use Rattle.crq_base.specs.Words.{mark_number, flag_number, link_word, current_word, control_word, pin_word, stamp_word, IsLink, IsCurrent, IsControl, IsPin, IsStamp, IsLinkWord, IsCurrentWord, IsControlWord, IsPinWord, IsStampWord}

pub mark_below : (mark : Mark) → mark_number mark < 4
mark_below Val = omega arith
mark_below Inv = omega arith
mark_below Mov = omega arith
mark_below Del = omega arith

pub mark_one : (a b : Mark) → mark_number a ≡ mark_number b → a ≡ b
mark_one Val Val e = refl
mark_one Inv Inv e = refl
mark_one Mov Mov e = refl
mark_one Del Del e = refl
mark_one a b e = absurd (omega arith)

pub link_below : (link : Link) → IsLink link → IsLinkWord (link_word link)
unfolding link_word
link_below link h = let m = mark_below link.mark in omega arith

pub link_one : (a b : Link) → IsLink a → IsLink b → link_word a ≡ link_word b → a ≡ b
unfolding link_word
link_one a b h k e =
    let m = mark_below a.mark in let n = mark_below b.mark in
    let generations : a.generation ≡ b.generation = omega arith in
    let rows : a.row ≡ b.row = omega arith in
    let marks : mark_number a.mark ≡ mark_number b.mark = omega arith in
    λ i. record { generation = generations i; row = rows i; mark = mark_one a.mark b.mark marks i }

-- the link that `unpack` makes of a word
pub link_read : (word : ℕ) (mark : Mark) → IsLinkWord word → mark_number mark ≡ word % 4 → let link : Link = record { generation = word / 2 ^ 26; row = word / 2 ^ 2 % 2 ^ 24; mark = mark } in IsLink link × (link_word link ≡ word)
unfolding link_word
link_read word mark h e = (record { generation = omega arith; row = omega arith }, omega arith)

mark_of : (n : ℕ) → n < 4 → (mark : Mark) × (mark_number mark ≡ n)
mark_of zero h = (Val, refl)
mark_of (suc zero) h = (Inv, refl)
mark_of (suc (suc zero)) h = (Mov, refl)
mark_of (suc (suc (suc n))) h = (Del, omega arith)

pub link_spelling : (word : ℕ) → IsLinkWord word ↔ ((link : Link) × IsLink link × (link_word link ≡ word))
link_spelling word = (
  λ h. let m : (mark : Mark) × (mark_number mark ≡ word % 4) = mark_of (word % 4) (omega arith) in
      let r = link_read word m.0 h m.1 in (_, r.0, r.1),
  λ s. subst IsLinkWord s.2 (link_below s.0 s.1),
)

pub current_below : (current : Current) → IsCurrent current → IsCurrentWord (current_word current)
unfolding current_word
current_below current h = omega arith

pub current_one : (a b : Current) → IsCurrent a → IsCurrent b → current_word a ≡ current_word b → a ≡ b
unfolding current_word
current_one a b h k e =
    let epochs : a.epoch ≡ b.epoch = omega arith in
    let ticks : a.tick ≡ b.tick = omega arith in
    λ i. record { epoch = epochs i; tick = ticks i }

-- the position that `unpack` makes of a word
pub current_read : (word : ℕ) → IsCurrentWord word → let current : Current = record { epoch = word / 2 ^ 32; tick = word % 2 ^ 32 } in IsCurrent current × (current_word current ≡ word)
unfolding current_word
current_read word h = (record { epoch = omega arith; tick = omega arith }, omega arith)

pub current_spelling : (word : ℕ) → IsCurrentWord word ↔ ((current : Current) × IsCurrent current × (current_word current ≡ word))
current_spelling word = (
  λ h. let r = current_read word h in (_, r.0, r.1),
  λ s. subst IsCurrentWord s.2 (current_below s.0 s.1),
)

pub pin_below : (pin : Pin) → IsPin pin → IsPinWord (pin_word pin)
unfolding pin_word
pin_below pin h = omega arith

pub pin_one : (a b : Pin) → IsPin a → IsPin b → pin_word a ≡ pin_word b → a ≡ b
unfolding pin_word
pin_one a b h k e =
    let generations : a.generation ≡ b.generation = omega arith in
    let epochs : a.epoch ≡ b.epoch = omega arith in
    λ i. record { generation = generations i; epoch = epochs i }

-- the pin that `unpack` makes of a word
pub pin_read : (word : ℕ) → IsPinWord word → let pin : Pin = record { generation = word / 2 ^ 32; epoch = word % 2 ^ 32 } in IsPin pin × (pin_word pin ≡ word)
unfolding pin_word
pin_read word h = (record { generation = omega arith; epoch = omega arith }, omega arith)

pub pin_spelling : (word : ℕ) → IsPinWord word ↔ ((pin : Pin) × IsPin pin × (pin_word pin ≡ word))
pin_spelling word = (
  λ h. let r = pin_read word h in (_, r.0, r.1),
  λ s. subst IsPinWord s.2 (pin_below s.0 s.1),
)

pub flag_below : (flag : Bool) → flag_number flag < 2
flag_below false = omega arith
flag_below true = omega arith

-- a flag as the number that a conversion makes of it
pub flag_byte : (flag : Bool) → from_bool flag ≡ flag_number flag
flag_byte false = refl
flag_byte true = refl

flag_one : (a b : Bool) → flag_number a ≡ flag_number b → a ≡ b
flag_one false false e = refl
flag_one true true e = refl
flag_one a b e = absurd (omega arith)

flag_off : (flag : Bool) → flag_number flag ≡ 0 → flag ≡ false
flag_off false e = refl
flag_off true e = absurd (omega arith)

off_flag : (flag : Bool) → flag ≡ false → flag_number flag ≡ 0
off_flag flag e = rw e refl

pub control_below : (control : Control) → IsControl control → IsControlWord (control_word control)
unfolding control_word
control_below control h =
    let f = flag_below control.moving in
    record {
      below = omega arith;
      steady = λ e. (
          let off : flag_number control.moving ≡ 0 = omega arith in
          let steady = flag_off control.moving off in
          let log = h.steady_log steady in let shift = h.steady_shift steady in omega arith);
    }

pub control_one : (a b : Control) → IsControl a → IsControl b → control_word a ≡ control_word b → a ≡ b
unfolding control_word
control_one a b h k e =
    let f = flag_below a.moving in let g = flag_below b.moving in
    let generations : a.generation ≡ b.generation = omega arith in
    let flags : flag_number a.moving ≡ flag_number b.moving = omega arith in
    let logs : a.log ≡ b.log = omega arith in
    let shifts : a.shift ≡ b.shift = omega arith in
    let new_logs : a.new_log ≡ b.new_log = omega arith in
    let new_shifts : a.new_shift ≡ b.new_shift = omega arith in
    λ i. record {
      generation = generations i;
      moving = flag_one a.moving b.moving flags i;
      log = logs i;
      shift = shifts i;
      new_log = new_logs i;
      new_shift = new_shifts i;
    }

-- the control value that `unpack` makes of a word
pub control_read : (word : ℕ) (moving : Bool) → IsControlWord word → flag_number moving ≡ word / 2 ^ 18 % 2 → let control : Control = record { generation = word / 2 ^ 19; moving = moving; log = word / 2 ^ 14 % 16; shift = word / 2 ^ 9 % 32; new_log = word / 2 ^ 5 % 16; new_shift = word % 32 } in IsControl control × (control_word control ≡ word)
unfolding control_word
control_read word moving h e = (
  record {
    generation = omega arith;
    log = omega arith;
    shift = omega arith;
    new_log = omega arith;
    new_shift = omega arith;
    steady_log = λ m. (let off = off_flag moving m in let z = h.steady (omega arith) in omega arith);
    steady_shift = λ m. (let off = off_flag moving m in let z = h.steady (omega arith) in omega arith);
  },
  omega arith,
)

flag_of : (n : ℕ) → n < 2 → (flag : Bool) × (flag_number flag ≡ n)
flag_of zero h = (false, refl)
flag_of (suc n) h = (true, omega arith)

-- a test of a bit gives the bit
pub bit_flag : (n : ℕ) → n < 2 → flag_number (nat_eq n 1) ≡ n
bit_flag zero h = refl
bit_flag (suc zero) h = refl
bit_flag (suc (suc n)) h = absurd (omega arith)

-- the test of the next table's bits
pub off_zero : (n : ℕ) (on : Bool) → on ≡ false → on ≡ not (nat_eq n 0) → n ≡ 0
off_zero n on off e = eqb-true n 0 (not-false (nat_eq n 0) (sym e ∙ off))

pub control_spelling : (word : ℕ) → IsControlWord word ↔ ((control : Control) × IsControl control × (control_word control ≡ word))
control_spelling word = (
  λ h. let f : (flag : Bool) × (flag_number flag ≡ word / 2 ^ 18 % 2) = flag_of (word / 2 ^ 18 % 2) (omega arith) in
      let r = control_read word f.0 h f.1 in (_, r.0, r.1),
  λ s. subst IsControlWord s.2 (control_below s.0 s.1),
)

pub stamp_below : (stamp : Stamp) → IsStamp stamp → IsStampWord (stamp_word stamp)
unfolding stamp_word
stamp_below Kept h = omega arith
stamp_below (Retired tag) h = omega arith

pub stamp_one : (a b : Stamp) → IsStamp a → IsStamp b → stamp_word a ≡ stamp_word b → a ≡ b
unfolding stamp_word
stamp_one Kept Kept h k e = refl
stamp_one (Retired s) (Retired t) h k e = ap Retired (omega arith)
stamp_one a b h k e = absurd (omega arith)

-- the word of a tag
pub tag_read : (word tag : ℕ) → word ≡ 1 + tag → tag ≤ 2 ^ 62 → IsStamp (Retired tag) × (stamp_word (Retired tag) ≡ word)
unfolding stamp_word
tag_read word tag e h = (h, sym e)

pub kept_read : (word : ℕ) → word ≡ 0 → IsStamp Kept × (stamp_word Kept ≡ word)
unfolding stamp_word
kept_read word e = (tt, sym e)

pub stamp_spelling : (word : ℕ) → IsStampWord word ↔ ((stamp : Stamp) × IsStamp stamp × (stamp_word stamp ≡ word))
stamp_spelling word = (stamp_at word, λ s. subst IsStampWord s.2 (stamp_below s.0 s.1)) where
  stamp_at : (w : ℕ) → IsStampWord w → (stamp : Stamp) × IsStamp stamp × (stamp_word stamp ≡ w)
  stamp_at zero h = let r = kept_read 0 refl in (Kept, r.0, r.1)
  stamp_at (suc n) h = let r = tag_read (suc n) n (omega arith) (omega arith) in (Retired n, r.0, r.1)
