-- A new table stands for a core state that meets the invariant.
use Rattle.std.proofs.Common.{◌≡◌, ◌≢◌, ℕ, zero, suc, ◌+◌, ◌-◌, ◌*◌, ◌^◌, ◌<◌, ◌≤◌, cond, ◌&&◌, Bool, true, false, ltb, leb, List, [], ◌∷◌, ◌++◌, length, set, replicate, Some, None, sym, refl, ap, ◌∙◌, subst, arith}
use Rattle.std.proofs.Math.Nat.{div-mul-le_self, lt-div-mul-add, div-lt_iff_lt-mul}
use Rattle.std.proofs.lemmas.Bool.{lt-ltb, le-ltb, ltb-true, ltb-false}
use Rattle.std.proofs.lemmas.List.{length-replicate, get_or-replicate, length-append}
use Rattle.std.specs.Prelude.{slice_get}
use mathlib.Core.Option.{some, some-injective, some-ne-none}
use mathlib.Core.Logic.{dite}
use native.Mathlib.Decide.{ℕ_discrete}
use lib.ListN.{get_elem?}
use Rattle.atomic_table.specs.Table.{opening}
use Rattle.crq_base.specs.declared.words.Link.{Link}
use Rattle.crq_base.specs.declared.words.Control.{Control}
use Rattle.crq_base.specs.declared.words.Current.{Current}
use Rattle.crq_base.specs.declared.words.Mark.TheVariants.{Val}
use Rattle.crq_base.specs.Words.{link_word, control_word, current_word, pin_word, IsLink}
use Rattle.crq_base.specs.Starts.{IsFirst}
use Rattle.crq_base.specs.Lists.{In}
use Rattle.crq_rule.specs.declared.layout.Layout.{Layout}
use Rattle.crq_rule.specs.declared.layout.Start.{Start}
use Rattle.crq_rule.specs.declared.pass.Rest.{Rest}
use Rattle.crq_rule.specs.declared.pass.Seating.{Seating}
use Rattle.crq_rule.specs.declared.pass.Seating.TheVariants.{Resting}
use Rattle.crq_rule.specs.declared.view.Help.{Help}
use Rattle.crq_rule.specs.declared.view.Caller.{Caller}
use Rattle.crq_rule.specs.declared.view.View.{View}
use Rattle.crq_rule.specs.Widths.{width}
use Rattle.crq_rule.specs.Places.{Words, Place, spare, between, epoch, control, current, head, index, IsPlace, IsRow, IsHomeRow, word_of, Shows}
use Rattle.crq_rule.specs.Core.{in_hand}
use Rattle.crq_rule.specs.Parts.{Holders}
use Rattle.crq_rule.specs.Invariant.{Inv}
use Rattle.crq_rule.specs.Rule.{Carries, Stands, fresh, fresh_from, first_view, rows_from}
use Rattle.crq_rule.specs.Ranks.{first_head_of}
use Rattle.crq_rule.specs.Opening.{opening_log, opening_words, opening_head, open_head, shut_head, headed, opening_core, home_of, IsFresh, AreFresh}
use Rattle.crq_rule.proofs.Placing.{shows_set, within, epoch_set, control_set, current_set}
use Rattle.crq_rule.proofs.PartLaws.{one_home, sort, of_whom}
use Rattle.crq_rule.proofs.HolderLaws.{none_some}
use Rattle.crq_rule.proofs.Counting.{rows_in, in_rows, rows_once}
use Rattle.crq_rule.proofs.Pendings.{none_counted}
use Rattle.crq_rule.proofs.ScarceLaws.{none_base}
use Rattle.crq_rule.proofs.SweepLaws.{none_sweep}
use Rattle.crq_rule.proofs.BoundLaws.{permits_none}
use Rattle.crq_rule.proofs.ListOpening.{off_on, opening_control, opening_sizes, opening_dues, opening_steady, opening_heads, opening_sorted, opening_marks, opening_standing, opening_copying, opening_lanes, opening_writing, opening_naming, opening_carriers, opening_told, opening_settling, opening_walkers, opening_ahead, opening_copies, opening_rooms, opening_bare, opening_unlinked, no_sight, no_settle, opening_ends}

-- Words

abbrev zero_link : Link
zero_link = record { generation = 0; row = 0; mark = Val }

same_head : (s : Start) (q : ℕ) (p : Place) → p ≢ head q → word_of (headed s (q + 1)) p ≡ word_of (headed s q) p
same_head s q (head k) ne = let apart : k ≢ q = λ e. ne (ap head e) in ap (λ b. link_word (cond b (opening_head s.first.generation k) zero_link)) (same apart (ltb k q) refl)
  where
    same : k ≢ q → (b : Bool) → ltb k q ≡ b → ltb k (q + 1) ≡ ltb k q
    same apart true e = let l : k < q = ltb-true k q e in lt-ltb k (q + 1) (omega arith) ∙ sym e
    same apart false e = let l : q ≤ k = ltb-false k q e in le-ltb k (q + 1) (omega arith) ∙ sym e
same_head s q p ne = refl

-- the next head is set
pub head_next : (s : Start) (q : ℕ) (ws : List ℕ) → q < 65536 → Shows s.layout (headed s q) ws → Shows s.layout (headed s (q + 1)) (set ws (index s.layout (head q)) (link_word (opening_head s.first.generation q)))
head_next s q ws b = shows_set s.layout (headed s q) (headed s (q + 1)) ws (head q) (link_word (opening_head s.first.generation q)) b
    (ap (λ b. link_word (cond b (opening_head s.first.generation q) zero_link)) (lt-ltb q (q + 1) (omega arith))) (same_head s q)

all_heads : (s : Start) (p : Place) → IsPlace s.layout p → word_of (headed s 65536) p ≡ word_of (opening_words s) p
all_heads s (head k) b = ap (λ t. link_word (cond t (opening_head s.first.generation k) zero_link)) (lt-ltb k 65536 b)
all_heads s p b = refl

-- all heads are set
pub headed_all : (s : Start) (ws : List ℕ) → Shows s.layout (headed s 65536) ws → Shows s.layout (opening_words s) ws
headed_all s ws old = record { wide = old.wide; each = λ p b. old.each p b ∙ all_heads s p b }

abbrev zero_control : Control
zero_control = record { generation = 0; moving = false; log = 0; shift = 0; new_log = 0; new_shift = 0 }

abbrev unset : Start → Words
unset s = record (opening_words s) { epoch = 0; control = zero_control; current = record { epoch = 0; tick = 0 }; head = λ _. zero_link }

all_zero : (s : Start) (p : Place) → word_of (unset s) p ≡ 0
unfolding control_word current_word pin_word link_word
all_zero s spare = refl
all_zero s (between k i) = refl
all_zero s p = refl

no_heads : (s : Start) (p : Place) → word_of (record (opening_words s) { head = λ _. zero_link }) p ≡ word_of (headed s 0) p
no_heads s (head k) = ap (λ t. link_word (cond t (opening_head s.first.generation k) zero_link)) (sym (le-ltb k 0 (omega arith)))
no_heads s p = refl

-- the words but for the heads
pub before_heads : (s : Start) → Shows s.layout (headed s 0)
    (set (set (set (replicate (width s.layout) 0) (index s.layout epoch) s.first.guard) (index s.layout control) (control_word (opening_words s).control)) (index s.layout current) (current_word (opening_words s).current))
before_heads s = let l = s.layout in let w = unset s in
    let w' : Words = record w { epoch = s.first.guard } in
    let w'' : Words = record w' { control = (opening_words s).control } in
    let zeros : Shows l w (replicate (width l) 0) = record { wide = length-replicate (width l) 0; each = λ p b. get_or-replicate (width l) (index l p) 0 0 (within l p b) ∙ sym (all_zero s p) } in
    let old = current_set l w'' _ (opening_words s).current (control_set l w' _ (opening_words s).control (epoch_set l w _ s.first.guard zeros)) in
    record { wide = old.wide; each = λ p b. old.each p b ∙ no_heads s p }

-- Rows

-- one row more
pub rows_next : (a n : ℕ) → rows_from a n ++ (a + n + 1) ∷ [] ≡ rows_from a (n + 1)
rows_next a zero = ap (λ x. x ∷ []) (omega arith)
rows_next a (suc n) = ap (λ xs. (a + 1) ∷ xs) (ap (λ x. rows_from (a + 1) n ++ x ∷ []) (omega arith) ∙ (rows_next (a + 1) n)) ∙ ap (rows_from a) (let e : suc (n + 1) ≡ suc n + 1 = omega arith in e)

home_row : (l : Layout) (r : ℕ) → 0 < r → IsHomeRow l (home_of l r) r
home_row l r above = let h = l.home_is in let s = l.some_rows in
    (omega (arith, div-mul-le_self (r - 1) l.home), omega (arith, lt-div-mul-add {a = r - 1} {b = l.home} (omega arith)))

home_below : (l : Layout) (r : ℕ) → IsRow l r → home_of l r < l.workers
home_below l r b = let h = l.home_is in let s = l.some_rows in let all = l.all_is in let lo = b.0 in let hi = b.1 in
    (div-lt_iff_lt-mul {k = l.home} {x = r - 1} {y = l.workers} (omega arith)).1 (omega arith)

opening_holders : (s : Start) → Holders s.layout (opening_core s).hand (opening_core s).cut (opening_core s).chain (opening_core s).holding
opening_holders s = let l = s.layout in record {
  once = λ j _. rows_once (j * l.home) l.home;
  held = λ j r _ i. let h = rows_in (j * l.home) l.home r i in (h, ap in_hand (one_home l (home_of l r) j r (home_row l r (let lo = h.0 in omega arith)) h));
  of_hand = λ j r b is. let e : home_of l r ≡ j = ap of_whom is in let h = home_row l r b.0 in
      subst (λ z. (z < l.workers) × In r (rows_from (z * l.home) l.home)) e (home_below l r b, in_rows (home_of l r * l.home) l.home r h.0 h.1);
  in_chain = λ q r _ i. absurd i;
  of_chain = λ q r _ is. absurd (let z : 0 ≡ 1 = ap sort is in omega arith);
  is_cut = λ j x _ is. absurd (none_some x is);
  of_cut = λ j r _ is. absurd (let z : 0 ≡ 2 = ap sort is in omega arith);
}

pub none_current : (x : Current) → None ≡ Some x → ⊥
none_current x e = cc

pub none_control : (x : Control) → None ≡ Some x → ⊥
none_control x e = cc

pub opening_link : (g q : ℕ) → g < 2 ^ 30 → IsLink (opening_head g q)
opening_link g q b = either_way (leb (first_head_of g) q && ltb q (first_head_of g + 2 ^ opening_log))
  where
    either_way : (t : Bool) → IsLink (cond t (open_head g) shut_head)
    either_way true = record { generation = b; row = omega arith }
    either_way false = record { generation = omega arith; row = omega arith }

pub none_help : (h : Help) → None ≡ Some h → ⊥
none_help h e = cc

-- the core state of a new table meets the invariant
pub opening_inv : (s : Start) → IsFirst s.first → Inv (opening_core s)
opening_inv s first = let top = first.upto in let low = first.epoch in record {
  spelled = record {
    is_control = opening_control s first;
    is_current = record { epoch = omega arith; tick = omega arith };
    is_pin = record { generation = omega arith; epoch = omega arith };
    heads = λ q _. opening_link s.first.generation q (omega arith);
    links = λ r _. record { generation = omega arith; row = omega arith };
    twins = λ r _. omega arith;
    events = λ r _. record { time = omega arith; dst = omega arith; src = omega arith; seq = omega arith; load = omega arith };
  };
  reading = record {
    limit = first.guard;
    read = λ j e _ i. absurd i;
    loaded = λ j _. omega arith;
    scanned = λ j k a _ i. absurd i;
    tags = λ j t x _ is _. absurd (none_some x is);
  };
  finds = record { controls = λ j x _ is. absurd (none_control x is); currents = λ j x _ is. absurd (none_current x is); sights = λ j x _ is. absurd (no_sight x is); views = λ j s _ is. absurd (no_sight s is) };
  guards = record { each = λ _ _. refl; passed = λ k j a _ _ i _. tt };
  holders = opening_holders s;
  cutting = record { on = λ j x _ is. absurd (none_some x is); tags = λ j t g x _ is _ _. absurd (none_some x is) };
  stamps = record { shown = λ _ _. refl; tag = λ r t _ is. absurd (let z : 0 ≡ 3 = ap sort is in omega arith); ripe = λ j r t _ i. absurd i };
  chains = record { leads = λ q _. heads_empty (leb (first_head_of s.first.generation) q && ltb q (first_head_of s.first.generation + 2 ^ opening_log)); twins = λ q r _ i. absurd i };
  cover = record { free = λ k g r j v _. off_on g v.on; tags = λ k g r t v _. absurd (off_on g v.on); resting = λ _ _ _. refl };
  sizes = opening_sizes s first;
  dues = opening_dues s first;
  steady = opening_steady s first;
  heads = opening_heads s first;
  sorted = opening_sorted s first;
  marks = opening_marks s first;
  standing = opening_standing s first;
  copying = opening_copying s first;
  lanes = opening_lanes s first;
  writing = opening_writing s first;
  naming = opening_naming s first;
  carriers = opening_carriers s first;
  told = opening_told s first;
  settling = opening_settling s first;
  numbers = record { tables = λ _ _. omega arith; raising = λ _ _. omega arith };
  bounds = record { tables = omega arith; opened = omega arith; left = (let low = first.epoch in let none = permits_none s.layout.workers in omega arith); entries = omega arith; owed = λ k d _ is. absurd (no_settle d is) };
  walkers = opening_walkers s first;
  ahead = opening_ahead s first;
  scarce = record { each = λ k b _ is. absurd (none_base b is) };
  refusals = record { each = λ k _. none_counted [] k };
  swept = record { left = λ k r s _ is. absurd (none_sweep s is); clean_is = λ k q r _ i. absurd i };
  helps = record { finds = λ k h _ is. absurd (none_help h is); passed = λ k h _ is. absurd (none_help h is) };
  copies = opening_copies s first;
  rooms = opening_rooms s first;
  bare = opening_bare s first;
  unlinked = opening_unlinked s first;
  ends = opening_ends s first;
}
  where
    heads_empty : (t : Bool) → (cond t (open_head s.first.generation) shut_head).row ≡ 0
    heads_empty true = refl
    heads_empty false = refl

-- Views

pub fresh_at : (s : Start) (j n k : ℕ) (p : Caller) → get_elem? (fresh_from s j n) k ≡ some p → (k < n) × (p ≡ fresh s (j + k))
fresh_at s j zero k p e = absurd (some-ne-none p (sym e))
fresh_at s j (suc n) zero p e = (omega arith, sym (some-injective (fresh s j) p e) ∙ ap (fresh s) (omega arith))
fresh_at s j (suc n) (suc k) p e = let r = fresh_at s (j + 1) n k p e in let l = r.0 in (omega arith, r.1 ∙ ap (fresh s) (omega arith))

-- the table at the start
pub opens : (s : Start) (ws : List ℕ) → IsFirst s.first → Shows s.layout (opening_words s) ws → Stands s (opening {S = Unit {0}} {V = View} ws [] (first_view s))
opens s ws first shows = record { core = opening_core s; seat = λ _. 0; words = record { start = refl; shows = shows }; views = only; kept = opening_inv s first }
  where
    only : (i k : ℕ) (v : View) (p : Caller) → get_elem? (first_view s ∷ []) i ≡ some v → get_elem? v.parts k ≡ some p → Carries (opening_core s) (λ _. 0) i p
    only zero k v p e f = let is = some-injective (first_view s) v e in
        (let r = fresh_at s 0 s.layout.workers k p (ap (λ (v : View). get_elem? v.parts k) is ∙ f) in let l = r.0 in let n : p.number ≡ k = ap (λ (p : Caller). p.number) r.1 ∙ (omega arith) in
        record { inside = omega arith; mine = refl; is = r.1 ∙ ap (fresh s) (let z : 0 + k ≡ p.number = omega arith in z) })
    only (suc i) k v p e f = absurd (some-ne-none v (sym e))

-- Places

pub at_snoc : (l : Layout) (n : ℕ) (places : List Seating) (rest : Rest) → AreFresh l n places → IsFresh l n rest → AreFresh l (n + 1) (places ++ Resting rest ∷ [])
at_snoc l n places rest old new = record {
  wide = length-append places (Resting rest ∷ []) ∙ (let w = old.wide in omega arith);
  each = λ j b. dite (ℕ_discrete j n)
      (λ e. (rest, last places j (e ∙ sym old.wide), subst (λ z. IsFresh l z rest) (sym e) new))
      (λ ne. let r = old.each j (omega arith) in (r.0, earlier places j r.0 r.1, r.2));
}
  where
    last : (xs : List Seating) (j : ℕ) → j ≡ length xs → slice_get (xs ++ Resting rest ∷ []) j ≡ Some (Resting rest)
    last [] zero e = refl
    last [] (suc j) e = absurd (omega arith)
    last (x ∷ xs) zero e = absurd (omega arith)
    last (x ∷ xs) (suc j) e = last xs j (omega arith)

    earlier : (xs : List Seating) (j : ℕ) (r : Rest) → slice_get xs j ≡ Some (Resting r) → slice_get (xs ++ Resting rest ∷ []) j ≡ Some (Resting r)
    earlier [] j r e = absurd (cc)
    earlier (x ∷ xs) zero r e = e
    earlier (x ∷ xs) (suc j) r e = earlier xs j r e
