-- How the parts on the shortage of rows stay, what a recovery knows at its first load, and the count of a refusal.
use Rattle.std.proofs.Common.{◌≡◌, ◌≢◌, ◌⊎◌, ⊎_elim, inl, inr, Bool, true, false, cond, eqb, leb, ◌&&◌, ℕ, zero, suc, ◌+◌, ◌*◌, ◌<◌, ◌≤◌, List, [], ◌∷◌, ◌++◌, length, Option, Some, None, sym, refl, ap, ◌∙◌, subst, arith, le_refl, eq-eqb}
use mathlib.Core.Logic.{dite}
use native.Mathlib.Decide.{ℕ_discrete}
use Rattle.std.proofs.lemmas.Bool.{false≢true, leb-true, le-leb, eqb-true, cond_both}
use Rattle.std.proofs.lemmas.List.{length-append, take-append-le, take_all}
use Rattle.crq_base.specs.declared.event.Event.{Event}
use Rattle.crq_base.specs.declared.entry.Entry.{Entry}
use Rattle.crq_base.specs.declared.entry.Entry.TheVariants.{Begin}
use Rattle.crq_base.specs.declared.words.Mark.{Mark}
use Rattle.crq_base.specs.declared.words.Mark.TheVariants.{Val, Inv as Invalid, Mov, Del}
use Rattle.crq_base.specs.Lists.{In}
use Rattle.crq_base.specs.Refusals.{AreCounted}
use Rattle.crq_rule.specs.declared.debts.CutDebt.{CutDebt}
use Rattle.crq_rule.specs.declared.debts.CopyDebt.{CopyDebt}
use Rattle.crq_rule.specs.declared.layout.Layout.{Layout}
use Rattle.crq_rule.specs.declared.view.Guard.{Guard}
use Rattle.crq_rule.specs.declared.view.Guard.TheVariants.{Off, Entering, On}
use Rattle.crq_rule.specs.declared.view.Base.{Base}
use Rattle.crq_rule.specs.Lists.{put}
use Rattle.crq_rule.specs.Places.{IsRow, IsHomeRow}
use Rattle.crq_rule.specs.Core.{Core, DeadNames, caller_of, Holding, in_hand, listed, cut_by, retired}
use Rattle.crq_rule.specs.Parts.{GuardIs, OnSince, IsOn, stamp_of}
use Rattle.crq_rule.specs.HistoryParts.{IsLive}
use Rattle.crq_rule.specs.ScarceParts.{pending, IsLate, IsScarce, slots, IsBase, Scarce, Refusals}
use Rattle.crq_rule.specs.Invariant.{rows_of_core, Inv}
use Rattle.crq_rule.specs.Copies.{IsBound, IsCopying}
use Rattle.crq_rule.specs.Helping.{is_mov}
use Rattle.crq_rule.specs.ListKinds.{is_val}
use Rattle.crq_rule.specs.Kinds.{new_base, has_risen, is_late_word, looked_base, refused_after, base_looked, FoundNoRow}
use Rattle.crq_rule.specs.Rule.{rows_from}
use Rattle.crq_rule.proofs.Puts.{put_all}
use Rattle.crq_rule.specs.HistoryParts.{IsCarrying}
use Rattle.crq_rule.proofs.HeadLaws.{val_carries, bare_carries}
use Rattle.crq_rule.proofs.CopyLaws.{listed_out}
use Rattle.crq_rule.proofs.PartLaws.{home_is_row, one_home}
use Rattle.crq_rule.proofs.Counting.{within_list, rows_in, rows_once, rows_long}
use Rattle.crq_rule.proofs.Pendings.{both, and_of, either_of, pending_in, in_pending, counted_grown, pending_counted}

pub none_base : (b : Base) → None ≡ Some b → ⊥
none_base b e = cc

pub some_base : (a b : Base) → Some a ≡ Some b → a ≡ b
some_base a b e = cc

-- a guard that is on found at least the epoch before the present one
pub since_low : (e a x : ℕ) (g : Guard) → GuardIs e a g → x + 2 ≤ e → OnSince (x + 1) g
since_low e a x Off is low = tt
since_low e a x (Entering y) is low = tt
since_low e a x (On y) is low = let h = is.3 in omega arith

-- What a step leaves of late rows: no home row of the caller k comes to be late, and one that was looked at stays in hand or late
pub record Lasts (l : Layout) (epoch : ℕ) (guard guard' : ℕ → Guard) (holding holding' : ℕ → Holding) (k : ℕ) : Type 0 where
  pub shrinks : (r g : ℕ) → IsHomeRow l k r → IsLate guard' g (holding' r) → IsLate guard g (holding r)
  pub stays : (r g : ℕ) → IsHomeRow l k r → g + 3 ≤ epoch → (holding r ≡ in_hand k) ⊎ IsLate guard g (holding r) → (holding' r ≡ in_hand k) ⊎ IsLate guard' g (holding' r)

pub base_lasts : (l : Layout) (epoch epoch' : ℕ) (history : List Entry) (guard guard' : ℕ → Guard) (holding holding' : ℕ → Holding) (k : ℕ) (b : Base) → epoch ≤ epoch' → Lasts l epoch guard guard' holding holding' k
    → IsBase l epoch history guard holding k b → IsBase l epoch' history guard' holding' k b
base_lasts l epoch epoch' history guard guard' holding holding' k b up h old = record {
  placed = old.placed;
  events = old.events;
  counted = old.counted;
  early = let low = old.early in omega arith;
  late = record { rows = old.late.rows; few = old.late.few; all = λ r home is. old.late.all r home (h.shrinks r b.epoch home is) };
  looked = λ r home low. h.stays r b.epoch home (old.third (let lo = home.0 in omega arith)) (old.looked r home low);
  third = λ some. let t = old.third some in omega arith;
}

pub base_grown : (l : Layout) (epoch : ℕ) (history more : List Entry) (guard : ℕ → Guard) (holding : ℕ → Holding) (k : ℕ) (b : Base) → (In (Begin k) more → ⊥)
    → IsBase l epoch history guard holding k b → IsBase l epoch (history ++ more) guard holding k b
base_grown l epoch history more guard holding k b none old = record {
  placed = let low = old.placed in let wide = length-append history more in omega arith;
  events = old.events ∙ ap pending (sym (take-append-le b.place history more old.placed));
  counted = counted_grown history more k b.events none old.counted;
  early = old.early;
  late = old.late;
  looked = old.looked;
  third = old.third;
}

-- Each caller's base

module _ (l : Layout) (epoch epoch' : ℕ) (history history' : List Entry) (base : ℕ → Option Base) (guard guard' : ℕ → Guard) (holding holding' : ℕ → Holding) where
  -- the caller j has another base
  pub scarce_put : (j : ℕ) (o : Option Base) → ((b : Base) → j < l.workers → o ≡ Some b → IsBase l epoch' history' guard' holding' j b)
      → ((k : ℕ) (b : Base) → k < l.workers → k ≢ j → IsBase l epoch history guard holding k b → IsBase l epoch' history' guard' holding' k b)
      → Scarce l epoch history base guard holding → Scarce l epoch' history' (put base j o) guard' holding'
  scarce_put j o new others old = record { each = λ k b. put_all base j o (λ k o. k < l.workers → o ≡ Some b → IsBase l epoch' history' guard' holding' k b) (new b) (λ k ne inside is. others k b inside ne (old.each k b inside is)) k }

-- the caller j has none any more
pub scarce_drop : (l : Layout) (epoch : ℕ) (history history' : List Entry) (base : ℕ → Option Base) (guard : ℕ → Guard) (holding holding' : ℕ → Holding) (j : ℕ)
    → ((k : ℕ) (b : Base) → k < l.workers → k ≢ j → IsBase l epoch history guard holding k b → IsBase l epoch history' guard holding' k b) → Scarce l epoch history base guard holding → Scarce l epoch history' (put base j None) guard holding'
scarce_drop l epoch history history' base guard holding holding' j others old = scarce_put l epoch epoch history history' base guard guard holding holding' j None (λ b _ e. absurd (none_base b e)) others old

pub scarce_lasts : (l : Layout) (epoch epoch' : ℕ) (history : List Entry) (base : ℕ → Option Base) (guard guard' : ℕ → Guard) (holding holding' : ℕ → Holding) → epoch ≤ epoch' → ((k : ℕ) → k < l.workers → Lasts l epoch guard guard' holding holding' k)
    → Scarce l epoch history base guard holding → Scarce l epoch' history base guard' holding'
scarce_lasts l epoch epoch' history base guard guard' holding holding' up h old = record { each = λ k b inside is. base_lasts l epoch epoch' history guard guard' holding holding' k b up (h k inside) (old.each k b inside is) }

pub scarce_grown : (l : Layout) (epoch : ℕ) (history more : List Entry) (base : ℕ → Option Base) (guard : ℕ → Guard) (holding : ℕ → Holding) → ((k : ℕ) → In (Begin k) more → ⊥)
    → Scarce l epoch history base guard holding → Scarce l epoch (history ++ more) base guard holding
scarce_grown l epoch history more base guard holding none old = record { each = λ k b inside is. base_grown l epoch history more guard holding k b (none k) (old.each k b inside is) }

pub refusals_grown : (n : ℕ) (history more : List Entry) (refused : ℕ → List Event) → ((k : ℕ) → In (Begin k) more → ⊥) → Refusals n history refused → Refusals n (history ++ more) refused
refusals_grown n history more refused none old = record { each = λ k inside. counted_grown history more k (refused k) (none k) (old.each k inside) }

-- the caller j has other events of a refusal
pub refusals_put : (n : ℕ) (history history' : List Entry) (refused : ℕ → List Event) (j : ℕ) (es : List Event) → (j < n → AreCounted history' j es) → ((k : ℕ) → k ≢ j → AreCounted history k (refused k) → AreCounted history' k (refused k))
    → Refusals n history refused → Refusals n history' (put refused j es)
refusals_put n history history' refused j es new others old = record { each = put_all refused j es (λ k es. k < n → AreCounted history' k es) new (λ k ne inside. others k ne (old.each k inside)) }

-- Guards

-- the caller j, whose guard isn't on and that therefore has no cut row, changes it
pub lasts_guard : (l : Layout) (epoch : ℕ) (guard : ℕ → Guard) (holding : ℕ → Holding) (j : ℕ) (gd : Guard) (k : ℕ) → k < l.workers
    → ((r g : ℕ) → IsRow l r → holding r ≡ cut_by j → OnSince (g + 1) gd → OnSince (g + 1) (guard j)) → ((g : ℕ) → g + 3 ≤ epoch → OnSince (g + 1) (guard j) → OnSince (g + 1) gd)
    → Lasts l epoch guard (put guard j gd) holding holding k
lasts_guard l epoch guard holding j gd k inside before after = record {
  shrinks = λ r g home. was r g (home_is_row l k r inside home) (holding r) refl;
  stays = λ r g home low. ⊎_elim inl (λ is. inr (now g low (holding r) is));
}
  where
    was : (r g : ℕ) → IsRow l r → (h : Holding) → holding r ≡ h → IsLate (put guard j gd) g h → IsLate guard g h
    was r g row (in_hand i) at is = is
    was r g row (listed q) at is = is
    was r g row (cut_by i) at is = put_all guard j gd (λ i x. holding r ≡ cut_by i → OnSince (g + 1) x → OnSince (g + 1) (guard i)) (before r g row) (λ _ _ _ h. h) i at is
    was r g row (retired t) at is = is

    now : (g : ℕ) → g + 3 ≤ epoch → (h : Holding) → IsLate guard g h → IsLate (put guard j gd) g h
    now g low (in_hand i) is = is
    now g low (listed q) is = is
    now g low (cut_by i) is = put_all guard j gd (λ i x. OnSince (g + 1) (guard i) → OnSince (g + 1) x) (after g low) (λ _ _ h. h) i is
    now g low (retired t) is = is

-- the row s has another holder
pub lasts_held : (l : Layout) (epoch : ℕ) (guard : ℕ → Guard) (holding : ℕ → Holding) (s : ℕ) (h : Holding) (k : ℕ) → ((g : ℕ) → IsHomeRow l k s → IsLate guard g h → IsLate guard g (holding s))
    → ((g : ℕ) → IsHomeRow l k s → g + 3 ≤ epoch → (holding s ≡ in_hand k) ⊎ IsLate guard g (holding s) → (h ≡ in_hand k) ⊎ IsLate guard g h) → Lasts l epoch guard guard holding (put holding s h) k
lasts_held l epoch guard holding s h k before after = record {
  shrinks = λ r g. put_all holding s h (λ r x. IsHomeRow l k r → IsLate guard g x → IsLate guard g (holding r)) (before g) (λ _ _ _ is. is) r;
  stays = λ r g. put_all holding s h (λ r x. IsHomeRow l k r → g + 3 ≤ epoch → (holding r ≡ in_hand k) ⊎ IsLate guard g (holding r) → (x ≡ in_hand k) ⊎ IsLate guard g x) (after g) (λ _ _ _ _ is. is) r;
}

-- The count at the first load of a recovery

row_owed : Option CutDebt → ℕ
row_owed None = 0
row_owed (Some d) = d.row

-- the second slot of a caller: its second dead row, or else the copy that it has to bind
second_owed : Option CutDebt → Option CopyDebt → ℕ
second_owed (Some d) copy = d.row
second_owed None (Some d) = d.copy
second_owed None None = 0

-- the rows in the slots of the callers below n
owed_rows : (ℕ → DeadNames) → (ℕ → Option CopyDebt) → ℕ → List ℕ
owed_rows names copying zero = []
owed_rows names copying (suc n) = row_owed (names n).first ∷ second_owed (names n).second (copying n) ∷ owed_rows names copying n

owed_length : (names : ℕ → DeadNames) (copying : ℕ → Option CopyDebt) (n : ℕ) → length (owed_rows names copying n) ≡ 2 * n
unfolding owed_rows
owed_length names copying zero = refl
owed_length names copying (suc n) = let r = owed_length names copying n in omega arith

in_owed : (names : ℕ → DeadNames) (copying : ℕ → Option CopyDebt) (n k r : ℕ) → k < n → (row_owed (names k).first ≡ r) ⊎ (second_owed (names k).second (copying k) ≡ r) → In r (owed_rows names copying n)
unfolding owed_rows
in_owed names copying zero k r b is = absurd (omega arith)
in_owed names copying (suc n) k r b is = dite (ℕ_discrete k n)
    (λ (e : k ≡ n). ⊎_elim (λ q. inl (sym q ∙ ap (λ k. row_owed (names k).first) e)) (λ q. inr (inl (sym q ∙ ap (λ k. second_owed (names k).second (copying k)) e))) is)
    (λ ne. inr (inr (in_owed names copying n k r (omega arith) is)))

first_row : (o : Option CutDebt) (d : CutDebt) → o ≡ Some d → row_owed o ≡ d.row
unfolding row_owed
first_row o d is = ap row_owed is

second_row : (o : Option CutDebt) (copy : Option CopyDebt) (d : CutDebt) → o ≡ Some d → second_owed o copy ≡ d.row
unfolding second_owed
second_row o copy d is = ap (λ o. second_owed o copy) is

copy_row : (o : Option CutDebt) (copy : Option CopyDebt) (d : CopyDebt) → o ≡ None → copy ≡ Some d → second_owed o copy ≡ d.copy
unfolding second_owed
copy_row o copy d none is = λ i. second_owed (none i) (is i)

-- the rows that carry these events, and their second rows
carrying : (ℕ → ℕ) → (es : List Event) → ((e : Event) → In e es → ℕ) → List ℕ
carrying twin [] at = []
carrying twin (e ∷ es) at = at e (inl refl) ∷ twin (at e (inl refl)) ∷ carrying twin es (λ x i. at x (inr i))

carrying_length : (twin : ℕ → ℕ) (es : List Event) (at : (e : Event) → In e es → ℕ) → length (carrying twin es at) ≡ 2 * length es
unfolding carrying
carrying_length twin [] at = refl
carrying_length twin (e ∷ es) at = let r = carrying_length twin es (λ x i. at x (inr i)) in omega arith

in_carrying : (twin : ℕ → ℕ) (es : List Event) (at : (e : Event) → In e es → ℕ) (r : ℕ) (e : Event) → In e es → ((x : Event) (i : In x es) → e ≡ x → at x i ≡ r) → In r (carrying twin es at)
unfolding carrying
in_carrying twin [] at r e i is = i
in_carrying twin (x ∷ es) at r e i is = ⊎_elim (λ (q : e ≡ x). inl (sym (is x (inl refl) q))) (λ t. inr (inr (in_carrying twin es (λ x i. at x (inr i)) r e t (λ x i. is x (inr i))))) i

in_second : (twin : ℕ → ℕ) (es : List Event) (at : (e : Event) → In e es → ℕ) (r : ℕ) (e : Event) → In e es → ((x : Event) (i : In x es) → e ≡ x → twin (at x i) ≡ r) → In r (carrying twin es at)
unfolding carrying
in_second twin [] at r e i is = i
in_second twin (x ∷ es) at r e i is = ⊎_elim (λ (q : e ≡ x). inr (inl (sym (is x (inl refl) q)))) (λ t. inr (inr (in_second twin es (λ x i. at x (inr i)) r e t (λ x i. is x (inr i))))) i

-- the row below n that passes a test, if there is one
found_row : (ℕ → Bool) → ℕ → ℕ
found_row test zero = 0
found_row test (suc n) = cond (test n) n (found_row test n)

found_low : (test : ℕ → Bool) (n : ℕ) → found_row test (suc n) ≤ n
unfolding found_row
found_low test zero = cond_both (test 0) 0 0 (λ z. z ≤ 0) (λ _. omega arith) (λ _. omega arith)
found_low test (suc n) = cond_both (test (suc n)) (suc n) (found_row test (suc n)) (λ z. z ≤ suc n) (λ _. omega arith) (λ _. let low = found_low test n in omega arith)

-- where a row passes, one that passes is found
found_passes : (test : ℕ → Bool) (n r : ℕ) → r < n → test r ≡ true → test (found_row test n) ≡ true
unfolding found_row
found_passes test zero r low is = absurd (omega arith)
found_passes test (suc n) r low is = cond_both (test n) n (found_row test n) (λ z. test z ≡ true) (λ yes. yes)
    (λ no. found_passes test n r (dite (ℕ_discrete r n) (λ (e : r ≡ n). absurd (false≢true (sym no ∙ (ap test (sym e) ∙ is)))) (λ ne. omega arith)) is)

-- the row o is frozen and listed, and has the twin t
is_listed : Holding → Bool
is_listed (in_hand j) = false
is_listed (listed q) = true
is_listed (cut_by j) = false
is_listed (retired t) = false

listed_is : (h : Holding) → is_listed h ≡ true → (q : ℕ) × (h ≡ listed q)
unfolding is_listed
listed_is (in_hand j) e = absurd (false≢true e)
listed_is (listed q) e = (q, refl)
listed_is (cut_by j) e = absurd (false≢true e)
listed_is (retired t) e = absurd (false≢true e)

is_listed_so : (h : Holding) (q : ℕ) → h ≡ listed q → is_listed h ≡ true
unfolding is_listed
is_listed_so h q e = ap is_listed e

mov_is : (m : Mark) → is_mov m ≡ true → m ≡ Mov
mov_is Val e = absurd (false≢true e)
mov_is Invalid e = absurd (false≢true e)
mov_is Mov e = refl
mov_is Del e = absurd (false≢true e)

abbrev has_copy : Core → ℕ → ℕ → Bool
has_copy c t o = leb 1 o && (eqb (c.words.twin o) t && (is_mov (c.words.link o).mark && is_listed (c.holding o)))

-- the second row of the event that the row r carries: its copy, or the row of which it is the copy
abbrev mate : Core → ℕ → ℕ
mate c r = cond (is_val (c.words.link r).mark) (found_row (has_copy c r) (suc c.start.layout.all)) (c.words.twin r)

-- the row that carries a pending event
abbrev carrier : (c : Core) → Inv c → (e : Event) → In e (pending c.history) → ℕ
carrier c inv e i = (inv.carriers.carried e (in_pending c.history e i)).0

-- In any state no more home rows are late for the present epoch than there are slots
pub slots_hold : (c : Core) (k : ℕ) → k < c.start.layout.workers → Inv c → IsScarce c.start.layout c.guard c.holding k c.words.epoch (slots c.start.layout (pending c.history))
slots_hold c k b inv = record {
  rows = carrying (mate c) (pending c.history) (carrier c inv) ++ owed_rows c.named c.copying c.start.layout.workers;
  few = let one = length-append (carrying (mate c) (pending c.history) (carrier c inv)) (owed_rows c.named c.copying c.start.layout.workers) in let two = carrying_length (mate c) (pending c.history) (carrier c inv) in let three = owed_length c.named c.copying c.start.layout.workers in omega arith;
  all = λ r home late. let row = home_is_row c.start.layout k r b home in has_slot r row (c.holding r) refl late;
}
  where
    in_front : (xs ys : List ℕ) (r : ℕ) → In r xs → In r (xs ++ ys)
    in_front [] ys r i = absurd i
    in_front (x ∷ xs) ys r i = ⊎_elim inl (λ t. inr (in_front xs ys r t)) i

    in_back : (xs ys : List ℕ) (r : ℕ) → In r ys → In r (xs ++ ys)
    in_back [] ys r i = i
    in_back (x ∷ xs) ys r i = inr (in_back xs ys r i)

    has_carrier : (r q : ℕ) → IsRow c.start.layout r → c.holding r ≡ listed q → IsCarrying (c.words.link r).mark (c.words.twin r) (c.words.link (c.words.twin r)).mark → In r (carrying (mate c) (pending c.history) (carrier c inv))
    has_carrier r q row is carries = let live : IsLive c.start.layout c.words.link c.words.twin c.holding r = (row, (q, is), carries) in
        in_carrying (mate c) (pending c.history) (carrier c inv) r (c.words.event r) (pending_in c.history (c.words.event r) (inv.carriers.pending r live))
        (λ x i same. let t = inv.carriers.carried x (in_pending c.history x i) in inv.carriers.one t.0 r t.1 live (t.2 ∙ sym same))

    has_mate : (r o q : ℕ) → IsRow c.start.layout o → c.holding o ≡ listed q → IsCarrying (c.words.link o).mark (c.words.twin o) (c.words.link (c.words.twin o)).mark → mate c o ≡ r → In r (carrying (mate c) (pending c.history) (carrier c inv))
    has_mate r o q row is carries second = let live : IsLive c.start.layout c.words.link c.words.twin c.holding o = (row, (q, is), carries) in
        in_second (mate c) (pending c.history) (carrier c inv) r (c.words.event o) (pending_in c.history (c.words.event o) (inv.carriers.pending o live))
        (λ x i same. let t = inv.carriers.carried x (in_pending c.history x i) in ap (mate c) (inv.carriers.one t.0 o t.1 live (t.2 ∙ sym same)) ∙ second)

    -- a frozen row whose copy isn't valid yet
    moving_carries : (o t : ℕ) → (c.words.link o).mark ≡ Mov → c.words.twin o ≡ t → (c.words.link t).mark ≡ Invalid → IsCarrying (c.words.link o).mark (c.words.twin o) (c.words.link (c.words.twin o)).mark
    moving_carries o t frozen twin copy = subst (λ m. IsCarrying m (c.words.twin o) (c.words.link (c.words.twin o)).mark) (sym frozen) (inr (ap (λ z. (c.words.link z).mark) twin ∙ copy))

    -- its copy is its second row, and it is that of a valid one
    copy_mate : (o t : ℕ) → (c.words.link o).mark ≡ Mov → c.words.twin o ≡ t → mate c o ≡ t
    copy_mate o t frozen twin = ap (λ m. cond (is_val m) (found_row (has_copy c o) (suc c.start.layout.all)) (c.words.twin o)) frozen ∙ twin

    passes : (o t : ℕ) → IsBound (rows_of_core c) o t → has_copy c t o ≡ true
    passes o t b = and_of _ _ (le-leb 1 o b.row.0) (and_of _ _ (eq-eqb (c.words.twin o) t b.twin_is) (and_of _ _ (ap is_mov b.frozen) (is_listed_so (c.holding o) b.listed_is.0 b.listed_is.1)))

    bound_by : (o t : ℕ) → o ≤ c.start.layout.all → 0 < t → has_copy c t o ≡ true → IsBound (rows_of_core c) o t
    bound_by o t high some is = let one = both (leb 1 o) _ is in let two = both (eqb (c.words.twin o) t) _ one.1 in let three = both (is_mov (c.words.link o).mark) _ two.1 in record {
      row = (leb-true 1 o one.0, high);
      listed_is = listed_is (c.holding o) three.1;
      frozen = mov_is (c.words.link o).mark three.0;
      twin_is = eqb-true (c.words.twin o) t two.0;
      some = some;
    }

    old_mate : (o t : ℕ) → IsBound (rows_of_core c) o t → (c.words.link t).mark ≡ Val → mate c t ≡ o
    old_mate o t b val = let high = b.row.1 in ap (λ m. cond (is_val m) (found_row (has_copy c t) (suc c.start.layout.all)) (c.words.twin t)) val
        ∙ inv.copies.one (found_row (has_copy c t) (suc c.start.layout.all)) o t (bound_by _ t (found_low (has_copy c t) c.start.layout.all) b.some (found_passes (has_copy c t) (suc c.start.layout.all) o (omega arith) (passes o t b))) b

    owed_slot : (r : ℕ) → In r (owed_rows c.named c.copying c.start.layout.workers) → In r (carrying (mate c) (pending c.history) (carrier c inv) ++ owed_rows c.named c.copying c.start.layout.workers)
    owed_slot r i = in_back (carrying (mate c) (pending c.history) (carrier c inv)) _ r i

    listed_slot : (r q : ℕ) → IsRow c.start.layout r → c.holding r ≡ listed q → (m : Mark) → (c.words.link r).mark ≡ m → In r (carrying (mate c) (pending c.history) (carrier c inv) ++ owed_rows c.named c.copying c.start.layout.workers)
    listed_slot r q row is Val val = in_front _ _ r (has_carrier r q row is (val_carries (c.words.link r).mark (c.words.twin r) (c.words.link (c.words.twin r)).mark val))
    listed_slot r q row is Del del = let n = inv.naming.named r q row is del in owed_slot r (in_owed c.named c.copying c.start.layout.workers n.0 r n.1
        (⊎_elim (λ x. inl (first_row (c.named n.0).first n.2.0 x ∙ n.2.2.row)) (λ x. inr (second_row (c.named n.0).second (c.copying n.0) n.2.0 x ∙ n.2.2.row)) n.2.1))
    listed_slot r q row is Mov frozen = dite (ℕ_discrete (c.words.twin r) 0)
        (λ none. in_front _ _ r (has_carrier r q row is (bare_carries (c.words.link r).mark (c.words.twin r) (c.words.link (c.words.twin r)).mark frozen none)))
        (λ ne. let b : IsBound (rows_of_core c) r (c.words.twin r) = record { row = row; listed_is = (q, is); frozen = frozen; twin_is = refl; some = omega arith } in let t = c.words.twin r in let copy = inv.copies.bound r t b in ⊎_elim
        (λ (i : (c.words.link t).mark ≡ Invalid). in_front _ _ r (has_carrier r q row is (moving_carries r t frozen refl i)))
        (λ (v : (c.words.link t).mark ≡ Val). in_front _ _ r (has_mate r t copy.listed_is.0 copy.row copy.listed_is.1 (val_carries (c.words.link t).mark (c.words.twin t) (c.words.link (c.words.twin t)).mark v) (old_mate r t b v)))
        copy.mark)
    listed_slot r q row is Invalid invalid = ⊎_elim
        (λ (h : (o : ℕ) × IsBound (rows_of_core c) o r). let b = h.1 in in_front _ _ r (has_mate r h.0 b.listed_is.0 b.row b.listed_is.1 (moving_carries h.0 r b.frozen b.twin_is invalid) (copy_mate h.0 r b.frozen b.twin_is)))
        (λ (h : IsCopying (rows_of_core c) r). owed_slot r (in_owed c.named c.copying c.start.layout.workers h.who r h.inside
        (inr (copy_row (c.named h.who).second (c.copying h.who) h.owed (inv.rooms.room h.who h.owed h.inside h.debt) h.debt ∙ h.copy))))
        (inv.copies.owned r row (listed_out c.holding r (q, is)) invalid)

    has_slot : (r : ℕ) → IsRow c.start.layout r → (h : Holding) → c.holding r ≡ h → IsLate c.guard c.words.epoch h → In r (carrying (mate c) (pending c.history) (carrier c inv) ++ owed_rows c.named c.copying c.start.layout.workers)
    has_slot r row (in_hand i) is late = absurd late
    has_slot r row (listed q) is late = listed_slot r q row is (c.words.link r).mark refl
    has_slot r row (cut_by i) is late = let o = inv.holders.of_cut i r row is in absurd (not_later (c.guard i) (inv.cutting.on i o.1.0 o.0 o.1.1) (inv.guards.each i o.0) late)
      where
        not_later : (g : Guard) → IsOn g → GuardIs c.words.epoch (c.words.announced i) g → OnSince (c.words.epoch + 1) g → ⊥
        not_later Off on is late = on
        not_later (Entering x) on is late = on
        not_later (On x) on is late = let low = is.2 in omega arith
    has_slot r row (retired t) is late = let low = inv.stamps.tag r t row is in absurd (omega arith)

-- a recovery begins
pub base_begun : (c : Core) (j : ℕ) → j < c.start.layout.workers → Inv c → IsBase c.start.layout c.words.epoch c.history c.guard c.holding j (new_base (length c.history) (pending c.history) c.words.epoch)
base_begun c j b inv = record {
  placed = le_refl (length c.history);
  events = ap pending (sym (take_all (length c.history) c.history (le_refl (length c.history))));
  counted = pending_counted c.history j inv.told.legal;
  early = le_refl c.words.epoch;
  late = slots_hold c j b inv;
  looked = λ r home low. let lo = home.0 in absurd (omega arith);
  third = λ some. absurd (omega arith);
}

-- A look

risen : (g e : ℕ) (es : List ℕ) → ((x : ℕ) → In x es → x ≤ e) → has_risen g es ≡ true → g + 3 ≤ e
risen g e [] low is = absurd (false≢true is)
risen g e (x ∷ es) low is = ⊎_elim (λ t. let h = leb-true (g + 3) x t in let l = low x (inl refl) in omega arith) (λ t. risen g e es (λ x i. low x (inr i)) t) (either_of (leb (g + 3) x) (has_risen g es) is)

late_word : (g w : ℕ) → is_late_word g w ≡ true → (w ≡ 0) ⊎ (g + 3 ≤ w)
late_word g w is = ⊎_elim (λ t. inl (eqb-true w 0 t)) (λ t. inr (leb-true (g + 3) w t)) (either_of (eqb w 0) (leb (g + 3) w) is)

module _ (c : Core) (j : ℕ) (b : j < c.start.layout.workers) (inv : Inv c) where
  -- a home row whose stamp isn't ripe is in hand or late
  seen_late : (r g : ℕ) → IsHomeRow c.start.layout j r → g + 3 ≤ c.words.epoch → is_late_word g (c.words.stamp r) ≡ true → (c.holding r ≡ in_hand j) ⊎ IsLate c.guard g (c.holding r)
  seen_late r g home low word = subst (λ h. (h ≡ in_hand j) ⊎ IsLate c.guard g h) refl (by (c.holding r) refl)
    where
      row : IsRow c.start.layout r
      row = home_is_row c.start.layout j r b home

      by : (h : Holding) → c.holding r ≡ h → (h ≡ in_hand j) ⊎ IsLate c.guard g h
      by (in_hand i) is = let o = inv.holders.of_hand i r row is in inl (ap in_hand (one_home c.start.layout i j r (inv.holders.held i r o.0 o.1).0 home))
      by (listed q) is = inr tt
      by (cut_by i) is = let o = inv.holders.of_cut i r row is in inr (since_low c.words.epoch (c.words.announced i) g (c.guard i) (inv.guards.each i o.0) (omega arith))
      by (retired t) is = let stamp : c.words.stamp r ≡ t + 1 = inv.stamps.shown r row ∙ ap stamp_of is in ⊎_elim (λ (z : c.words.stamp r ≡ 0). absurd (omega arith)) (λ h. inr (omega arith)) (late_word g (c.words.stamp r) word)

  base_counts : (r : ℕ) (x : Base) → IsHomeRow c.start.layout j r → IsBase c.start.layout c.words.epoch c.history c.guard c.holding j x → (t : Bool)
      → (eqb r (j * c.start.layout.home + 1 + x.looked) && (is_late_word x.epoch (c.words.stamp r) && has_risen x.epoch (c.epochs j)) ≡ t)
      → IsBase c.start.layout c.words.epoch c.history c.guard c.holding j (record x { looked = cond t (x.looked + 1) x.looked })
  base_counts r x home old false is = old
  base_counts r x home old true is = let p = both (eqb r (j * c.start.layout.home + 1 + x.looked)) (is_late_word x.epoch (c.words.stamp r) && has_risen x.epoch (c.epochs j)) is in let at = eqb-true r (j * c.start.layout.home + 1 + x.looked) p.0 in
      let q = both (is_late_word x.epoch (c.words.stamp r)) (has_risen x.epoch (c.epochs j)) p.1 in let rose = risen x.epoch c.words.epoch (c.epochs j) (λ e i. inv.reading.read j e b i) q.1 in record {
        placed = old.placed;
        events = old.events;
        counted = old.counted;
        early = old.early;
        late = old.late;
        looked = λ s at_home low. dite (ℕ_discrete s r)
            (λ (e : s ≡ r). subst (λ z. (c.holding z ≡ in_hand j) ⊎ IsLate c.guard x.epoch (c.holding z)) (sym e) (seen_late r x.epoch home rose q.0))
            (λ ne. old.looked s at_home (omega arith));
        third = λ _. rose;
      }

  pub base_after : (r : ℕ) (x : Base) → IsHomeRow c.start.layout j r → base_looked c j r ≡ Some x → IsBase c.start.layout c.words.epoch c.history c.guard c.holding j x
  base_after r x home is = by (c.base j) refl is
    where
      by : (o : Option Base) → c.base j ≡ o → looked_base (j * c.start.layout.home + 1) r (c.words.stamp r) (c.epochs j) o ≡ Some x → IsBase c.start.layout c.words.epoch c.history c.guard c.holding j x
      by None at is = absurd (none_base x is)
      by (Some y) at is = subst (IsBase c.start.layout c.words.epoch c.history c.guard c.holding j) (some_base _ x is) (base_counts r y home (inv.scarce.each j y b at) _ refl)

  pub refused_counted : (r : ℕ) → IsHomeRow c.start.layout j r → AreCounted c.history j (refused_after c.start.layout.home (c.hand j) (base_looked c j r) (c.refused j))
  refused_counted r home = by (c.hand j) (base_looked c j r) refl
    where
      chosen : (x : Base) → IsBase c.start.layout c.words.epoch c.history c.guard c.holding j x → (t : Bool) → AreCounted c.history j (cond t x.events (c.refused j))
      chosen x is true = is.counted
      chosen x is false = inv.refusals.each j b

      by : (hand : List ℕ) (o : Option Base) → base_looked c j r ≡ o → AreCounted c.history j (refused_after c.start.layout.home hand o (c.refused j))
      by [] (Some x) is = chosen x (base_after r x home is) (eqb x.looked c.start.layout.home)
      by [] None is = inv.refusals.each j b
      by (y ∷ ys) o is = inv.refusals.each j b

-- The count of a refusal

-- a caller that has no row in hand, and that found none of its home rows ripe since its recovery began, counts events for half its rows
pub rows_counted : (c : Core) (k : ℕ) (x : Base) → k < c.start.layout.workers → FoundNoRow (caller_of c k) x → Inv c → c.start.layout.rows ≤ 2 * length x.events
rows_counted c k x b vain inv = let l = c.start.layout in let old = inv.scarce.each k x b vain.0 in let all = vain.2 in
    let count = within_list (rows_from (k * l.home) l.home) old.late.rows (rows_once (k * l.home) l.home) (λ r i. let home = rows_in (k * l.home) l.home r i in
    old.late.all r home (⊎_elim (λ (held : c.holding r ≡ in_hand k). absurd (subst (In r) vain.1 (inv.holders.of_hand k r (home_is_row l k r b home) held).1)) (λ late. late) (old.looked r home (let hi = home.1 in omega arith)))) in
    let few = old.late.few in let long = rows_long (k * l.home) l.home in let h = l.home_is in omega arith
