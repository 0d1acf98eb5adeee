-- The heads of a table, and the order of candidates.
use Rattle.std.proofs.Common.{◌≡◌, inl, inr, ⊎_elim, ℕ, ◌+◌, ◌-◌, ◌*◌, ◌%◌, ◌^◌, ◌<◌, ◌≤◌, Bool, true, false, cond, ltb, List, [], ◌∷◌, Option, Some, None, sym, refl, ap, ◌∙◌, arith, eq-eqb, ne_eqb}
use Rattle.std.proofs.lemmas.Nat.{pow_pos, pow_below}
use Rattle.std.proofs.lemmas.Bool.{lt-ltb, le-ltb, ltb-true, ltb-false}
use Rattle.std.proofs.Math.Nat.{pow-le-pow_right, one-mul, mod-eq_of_lt, mod-lt}
use mathlib.Core.Logic.{dite}
use native.Mathlib.Decide.{ℕ_discrete}
use Rattle.crq_base.specs.declared.event.Event.{Event}
use Rattle.crq_base.specs.declared.words.Control.{Control}
use Rattle.crq_base.specs.Words.{IsControl}
use Rattle.crq_rule.specs.declared.view.Stand.{Stand}
use Rattle.crq_rule.specs.declared.view.Walk.{Walk}
use Rattle.crq_rule.specs.Places.{IsHead}
use Rattle.crq_rule.specs.Parts.{IsEvent}
use Rattle.crq_rule.specs.Ranks.{rank, shape_of, first_head_of, head_for, IsOpen}
use Rattle.crq_rule.specs.ListKinds.{StandsOn, IsLastHead, lesser, stood_at, best_of}
use Rattle.crq_list.specs.declared.parts.Place.{Place}
use Rattle.crq_list.specs.declared.parts.Place.TheVariants.{Bucket, Search}
use Rattle.crq_list.specs.declared.take.Candidate.{Candidate}
use Rattle.crq_list.specs.Taking.{head_at, last_head, row_of, lesser_of}

-- Heads

few_lists : (x : Control) → IsControl x → 2 ^ x.log ≤ 2 ^ 15
few_lists x is = let log = is.log in pow-le-pow_right {n = 2} (omega arith) {i = x.log} {j = 15} (omega arith)

-- what 32 bits give of a power
pub one_shifted : (n : ℕ) → n < 2 ^ 5 → 1 * 2 ^ n % 2 ^ 32 ≡ 2 ^ n
one_shifted n low = ap (λ m. m % 2 ^ 32) (one-mul (2 ^ n)) ∙ mod-eq_of_lt (pow_below n 32 (omega arith))

-- the head of a bucket, as shifts of 32 bits give it
pub bucket_head : (x : Control) (b : ℕ) → IsControl x → x.generation % 2 * 32768 + b % (1 * 2 ^ x.log % 2 ^ 32) ≡ head_for x.generation (shape_of x) b
unfolding head_for
bucket_head x b is = ap (λ m. x.generation % 2 * 32768 + b % m) (one_shifted x.log (let low = is.log in omega arith))

open_at : (x : Control) (m : ℕ) → IsControl x → m < 2 ^ x.log → IsHead (first_head_of x.generation + m) × IsOpen x (first_head_of x.generation + m)
open_at x m is low = let few = few_lists x is in (omega arith, (omega arith, omega arith))

-- the head of a bucket, and so that of an event, is one of the table
pub head_open : (x : Control) (b : ℕ) → IsControl x → IsHead (head_for x.generation (shape_of x) b) × IsOpen x (head_for x.generation (shape_of x) b)
unfolding head_for
head_open x b is = open_at x (b % 2 ^ x.log) is (mod-lt b (pow_pos x.log))

-- and so is that at which a take begins
pub place_open : (x : Control) (place : Place) → IsControl x → IsHead (head_at x place) × IsOpen x (head_at x place)
place_open x (Bucket b) is = head_open x b is
place_open x Search is = let some = pow_pos x.log in (omega arith, (omega arith, omega arith))

pub is_last : (x : Control) (q : ℕ) → q ≡ last_head x → IsLastHead x q
is_last x q at = let some = pow_pos x.log in omega arith

-- behind a head that isn't the last one there is another
pub next_open : (x : Control) (q : ℕ) → IsControl x → IsHead q → IsOpen x q → (q ≡ last_head x → ⊥) → IsHead (q + 1) × IsOpen x (q + 1)
next_open x q is head opened other = let some = pow_pos x.log in let few = few_lists x is in let low = opened.0 in let high = opened.1 in
    let ne : ¬ (q ≡ first_head_of x.generation + (2 ^ x.log - 1)) = other in (omega arith, (omega arith, omega arith))

-- The order of candidates

-- an earlier time has a lower rank, and so on
pub rank_time : (e f : Event) (r s : ℕ) → IsEvent e → r < 2 ^ 24 → e.time < f.time → rank e r < rank f s
unfolding rank
rank_time e f r s is low less = let a = is.src in let b = is.seq in omega arith

pub rank_source : (e f : Event) (r s : ℕ) → IsEvent e → r < 2 ^ 24 → e.time ≡ f.time → e.src < f.src → rank e r < rank f s
unfolding rank
rank_source e f r s is low same less = let b = is.seq in omega arith

pub rank_number : (e f : Event) (r s : ℕ) → r < 2 ^ 24 → e.time ≡ f.time → e.src ≡ f.src → e.seq < f.seq → rank e r < rank f s
unfolding rank
rank_number e f r s low same src less = omega arith

pub rank_rows : (e f : Event) (r s : ℕ) → e.time ≡ f.time → e.src ≡ f.src → e.seq ≡ f.seq → (r < s → rank e r < rank f s) × (s ≤ r → rank f s ≤ rank e r)
unfolding rank
rank_rows e f r s same src seq = (λ less. omega arith, λ low. omega arith)

-- the row on which the caller stands with the event
pub stood_is : (ss : List Stand) (r : ℕ) (f : Event) → ((g : Event) → StandsOn ss r g → g ≡ f) → StandsOn ss r f → stood_at r ss ≡ Some (r, f)
stood_is [] r f one on = absurd on.1
stood_is (s ∷ ss) r f one on = dite (ℕ_discrete s.row r)
    (λ e. ap (λ b. cond b (Some (r, s.event)) (stood_at r ss)) (eq-eqb s.row r e) ∙ ap (λ g. Some (r, g)) (one s.event (s, inl refl, e, refl)))
    (λ ne. ap (λ b. cond b (Some (r, s.event)) (stood_at r ss)) (ne_eqb s.row r ne)
    ∙ stood_is ss r f (λ g h. one g (h.0, inr h.1, h.2, h.3)) (on.0, ⊎_elim (λ (e : on.0 ≡ s). absurd (ne (ap (λ (z : Stand). z.row) (sym e) ∙ on.2))) (λ i. i) on.1, on.2, on.3))

-- the lesser candidate has the lesser row
lesser_row : (best : Option Candidate) (c : Candidate) → lesser (row_of best) (Some (c.row, c.event)) ≡ row_of (Some (lesser_of best c))
lesser_row None c = refl
lesser_row (Some a) c = go (ltb (rank c.event c.row) (rank a.event a.row))
  where
    go : (b : Bool) → cond b (Some (c.row, c.event)) (Some (a.row, a.event)) ≡ row_of (Some (cond b c a))
    go true = refl
    go false = refl

lesser_none : (o : Option (ℕ × Event)) → lesser o None ≡ o
lesser_none None = refl
lesser_none (Some t) = refl

-- the least row of a walk that is at the end of its list, and of one that stands at a row
pub best_at_end : (w : Walk) (ss : List Stand) (best : Option Candidate) → w.at ≡ 0 → w.least ≡ row_of best → best_of w ss ≡ row_of best
best_at_end w ss best end least = ap (λ b. lesser w.least (cond b None (stood_at w.at ss))) (eq-eqb w.at 0 end) ∙ (lesser_none w.least ∙ least)

pub best_at_row : (w : Walk) (ss : List Stand) (best : Option Candidate) (c : Candidate) → w.at ≡ c.row → 0 < c.row → w.least ≡ row_of best → ((g : Event) → StandsOn ss c.row g → g ≡ c.event) → StandsOn ss c.row c.event
    → best_of w ss ≡ row_of (Some (lesser_of best c))
best_at_row w ss best c at some least one on = ap (λ b. lesser w.least (cond b None (stood_at w.at ss))) (ne_eqb w.at 0 (omega arith))
    ∙ ((λ i. lesser (least i) ((ap (λ r. stood_at r ss) at ∙ stood_is ss c.row c.event one on) i)) ∙ lesser_row best c)

-- what holds of both holds of the lesser
pub lesser_holds : (best : Option Candidate) (c : Candidate) (Holds : Candidate → Type 0) → ((a : Candidate) → best ≡ Some a → Holds a) → Holds c → Holds (lesser_of best c)
lesser_holds None c Holds first second = second
lesser_holds (Some a) c Holds first second = go (ltb (rank c.event c.row) (rank a.event a.row))
  where
    go : (b : Bool) → Holds (cond b c a)
    go true = second
    go false = first a refl

-- a test that decides another one
pub same_test : (a b r s : ℕ) → (a < b → r < s) → (b ≤ a → s ≤ r) → ltb a b ≡ ltb r s
same_test a b r s less more = go (ltb a b) refl
  where
    go : (t : Bool) → ltb a b ≡ t → t ≡ ltb r s
    go true e = sym (lt-ltb r s (less (ltb-true a b e)))
    go false e = sym (le-ltb r s (more (ltb-false a b e)))
