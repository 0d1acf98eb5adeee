-- Permits are counted, and how the parts on counts stay: what is left of current's epochs, and what callers were told.
use Rattle.std.proofs.Common.{cond, ◌≡◌, ◌==◌, ◌&&◌, eq-eqb, ℕ, zero, suc, ◌+◌, ◌-◌, ◌^◌, ◌<◌, ◌≤◌, nat_lt, Bool, true, false, List, [], ◌∷◌, ◌++◌, length, Option, Some, None, sym, refl, ap, ◌∙◌, subst, arith}
use Rattle.std.specs.Prelude.{filter}
use Rattle.std.proofs.Math.Nat.{max-le}
use Rattle.std.proofs.lemmas.Bool.{false≢true, cond_both, eqb-true, lt-ltb, ltb-true}
use Rattle.std.proofs.lemmas.List.{length-append}
use Rattle.std.proofs.lemmas.List.Elements.{filter-append}
use mathlib.Core.Logic.{dite}
use native.Mathlib.Decide.{ℕ_discrete}
use Rattle.crq_base.specs.declared.event.Event.{Event}
use Rattle.crq_base.specs.declared.entry.Entry.{Entry}
use Rattle.crq_base.specs.declared.entry.Entry.TheVariants.{Settled}
use Rattle.crq_base.specs.declared.words.Control.{Control}
use Rattle.crq_base.specs.declared.words.Current.{Current}
use Rattle.crq_base.specs.declared.words.Pin.{Pin}
use Rattle.crq_base.specs.Histories.{is_table, is_raising, table_count, raising_count}
use Rattle.crq_base.specs.Words.{flag_number}
use Rattle.crq_rule.specs.declared.debts.SettleDebt.{SettleDebt}
use Rattle.crq_rule.specs.declared.layout.Start.{Start}
use Rattle.crq_rule.specs.declared.view.Told.{Told}
use Rattle.crq_rule.specs.Lists.{put}
use Rattle.crq_rule.specs.Bounds.{permits, is_passed, coming, Bounds}
use Rattle.crq_rule.specs.HistoryParts.{Numbers}
use Rattle.crq_rule.specs.CurrentKinds.{permit_after, told_after}
use Rattle.crq_rule.proofs.Puts.{put_here, put_else, put_all}

both_true : (a b : Bool) → a && b ≡ true → (a ≡ true) × (b ≡ true)
both_true true b is = (refl, is)
both_true false b is = absurd (false≢true is)

none_debt : (d : SettleDebt) → None ≡ Some d → ⊥
none_debt d e = cc

flag_low : (b : Bool) → flag_number b ≤ 1
flag_low true = omega arith
flag_low false = omega arith

permits_low : (f : ℕ → Bool) (n : ℕ) → permits f n ≤ n
permits_low f zero = omega arith
permits_low f (suc n) = let one = flag_low (f n) in let rest = permits_low f n in omega arith

permits_same : (f g : ℕ → Bool) (n : ℕ) → ((k : ℕ) → k < n → g k ≡ f k) → permits g n ≡ permits f n
permits_same f g zero same = refl
permits_same f g (suc n) same = λ i. flag_number (same n (omega arith) i) + permits_same f g n (λ k b. same k (omega arith)) i

-- none has a permit
pub permits_none : (n : ℕ) → permits (λ _. false) n ≡ 0
permits_none zero = refl
permits_none (suc n) = let rest = permits_none n in omega arith

-- one that had a permit has none
pub permits_drop : (f : ℕ → Bool) (j n : ℕ) → j < n → f j ≡ true → permits (put f j false) n + 1 ≡ permits f n
permits_drop f j zero b has = absurd (omega arith)
permits_drop f j (suc n) b has = dite (ℕ_discrete n j)
    (λ is. let here : flag_number (put f j false n) ≡ 0 = ap (λ k. flag_number (put f j false k)) is ∙ ap flag_number (put_here f j false) in let was : flag_number (f n) ≡ 1 = ap (λ k. flag_number (f k)) is ∙ ap flag_number has in
    let rest = permits_same f (put f j false) n (λ k low. put_else f j false k (λ e. absurd (omega arith))) in omega arith)
    (λ ne. let here = ap flag_number (put_else f j false n ne) in let rest = permits_drop f j n (omega arith) has in omega arith)

-- a permit isn't lost by a load
permit_kept : (y : Current) (b : Bool) → b ≡ true → permit_after y b ≡ true
permit_kept y b has = cond_both (nat_lt y.epoch (2 ^ 32 - 64)) true b (λ z. z ≡ true) (λ _. refl) (λ _. has)

-- What is still to come of a move

pub coming_low : (control : Control) (current : Current) (pin : Pin) → coming control current pin ≤ 1
coming_low control current pin = cond_both control.moving (cond (is_passed control current pin) 0 1) 0 (λ n. n ≤ 1)
    (λ _. cond_both (is_passed control current pin) 0 1 (λ n. n ≤ 1) (λ _. omega arith) (λ _. omega arith)) (λ _. omega arith)

-- nothing where control is steady
pub coming_steady : (control : Control) (current : Current) (pin : Pin) → control.moving ≡ false → coming control current pin ≡ 0
coming_steady control current pin steady = ap (λ b. cond b (cond (is_passed control current pin) 0 1) 0) steady

-- nothing where current is past the pin of the next table
pub coming_past : (control : Control) (current : Current) (pin : Pin) → pin.generation ≡ control.generation + 1 → pin.epoch < current.epoch → coming control current pin ≡ 0
coming_past control current pin next past = (λ i. cond control.moving (cond (eq-eqb pin.generation (control.generation + 1) next i && lt-ltb pin.epoch current.epoch past i) 0 1) 0)
    ∙ cond_both control.moving 0 0 (λ n. n ≡ 0) (λ _. refl) (λ _. refl)

-- and one where control moves and current isn't past it
pub coming_yet : (control : Control) (current : Current) (pin : Pin) → control.moving ≡ true → (pin.generation ≡ control.generation + 1 → pin.epoch < current.epoch → ⊥) → coming control current pin ≡ 1
coming_yet control current pin moves yet = ap (λ b. cond b (cond (is_passed control current pin) 0 1) 0) moves ∙ cond_both (is_passed control current pin) 0 1 (λ n. n ≡ 1) (λ is. absurd (passed_not is)) (λ _. refl)
  where
    passed_not : is_passed control current pin ≡ true → ⊥
    passed_not is = let a = both_true (pin.generation == control.generation + 1) (nat_lt pin.epoch current.epoch) is in yet (eqb-true pin.generation (control.generation + 1) a.0) (ltb-true pin.epoch current.epoch a.1)

-- the less, the higher current's epoch is
pub coming_less : (control : Control) (current next : Current) (pin : Pin) → current.epoch ≤ next.epoch → coming control next pin ≤ coming control current pin
coming_less control current next pin high = by_move control.moving refl
  where
    still : is_passed control current pin ≡ true → coming control next pin ≡ 0
    still is = let a = both_true (pin.generation == control.generation + 1) (nat_lt pin.epoch current.epoch) is in
        coming_past control next pin (eqb-true pin.generation (control.generation + 1) a.0) (let low = ltb-true pin.epoch current.epoch a.1 in omega arith)

    by_pin : (t : Bool) → is_passed control current pin ≡ t → control.moving ≡ true → coming control next pin ≤ coming control current pin
    by_pin true is moves = let none = still is in omega arith
    by_pin false is moves = let one : coming control current pin ≡ 1 = (λ i. cond (moves i) (cond (is i) 0 1) 0) in let low = coming_low control next pin in omega arith

    by_move : (m : Bool) → control.moving ≡ m → coming control next pin ≤ coming control current pin
    by_move true moves = by_pin (is_passed control current pin) refl moves
    by_move false steady = let none = coming_steady control next pin steady in omega arith

-- Counts of entries

pub count_more : (test : Entry → Bool) (h more : List Entry) → length (filter test (h ++ more)) ≡ length (filter test h) + length (filter test more)
count_more test h more = ap length (filter-append test h more) ∙ length-append (filter test h) (filter test more)

-- entries are added
pub numbers_grown : (n : ℕ) (history : List Entry) (told : ℕ → Told) (more : List Entry) → Numbers n history told → Numbers n (history ++ more) told
numbers_grown n history told more old = record {
  tables = λ k b. let low = old.tables k b in let parts = count_more is_table history more in omega arith;
  raising = λ k b. let low = old.raising k b in let parts = count_more is_raising history more in omega arith;
}

module _ (start : Start) (control : Control) (current : Current) (pin : Pin) (history : List Entry) (settling : ℕ → Option SettleDebt) (permit : ℕ → Bool) where
  -- current is loaded, which tells how far its epoch rose
  pub numbers_loaded : (j : ℕ) (told : ℕ → Told) → Bounds start control current pin history settling permit → Numbers start.layout.workers history told
      → Numbers start.layout.workers history (put told j (told_after start current (told j)))
  numbers_loaded j told bounds old = record {
    tables = put_all told j (told_after start current (told j)) (λ k t. k < start.layout.workers → t.tables ≤ table_count history) (old.tables j) (λ k _. old.tables k);
    raising = put_all told j (told_after start current (told j)) (λ k t. k < start.layout.workers → t.settled ≤ raising_count history)
        (λ b. max-le {a = current.epoch - start.first.epoch} {b = (told j).settled} {k = raising_count history} (let top = bounds.entries in omega arith) (old.raising j b)) (λ k _. old.raising k);
  }

  -- and gives a permit where enough epochs are left
  pub bounds_loaded : (j : ℕ) → Bounds start control current pin history settling permit → Bounds start control current pin history settling (put permit j (permit_after current (permit j)))
  bounds_loaded j old = record {
    tables = old.tables;
    opened = old.opened;
    left = cond_both (nat_lt current.epoch (2 ^ 32 - 64)) true (permit j) (λ b. current.epoch + (permits (put permit j b) start.layout.workers + coming control current pin) ≤ 2 ^ 32 - 48)
        (λ low. let less = ltb-true current.epoch (2 ^ 32 - 64) low in let most = permits_low (put permit j true) start.layout.workers in let few = start.layout.few.1 in let one = coming_low control current pin in omega arith)
        (λ _. subst (λ z. current.epoch + (z + coming control current pin) ≤ 2 ^ 32 - 48) (sym (permits_same permit (put permit j (permit j)) start.layout.workers (λ k _. put_all permit j (permit j) (λ k b. b ≡ permit k) refl (λ _ _. refl) k))) old.left);
    entries = old.entries;
    owed = λ k d. put_all permit j (permit_after current (permit j)) (λ k b. k < start.layout.workers → settling k ≡ Some d → b ≡ true) (λ b is. permit_kept current (permit j) (old.owed j d b is)) (λ k _. old.owed k d) k;
  }

  -- entries are added that make no table
  pub bounds_grown : (more : List Entry) → table_count more ≡ 0 → Bounds start control current pin history settling permit → Bounds start control current pin (history ++ more) settling permit
  bounds_grown more none old = record { tables = old.tables; opened = (let was = old.opened in let parts = count_more is_table history more in omega arith); left = old.left; entries = (let low = old.entries in let parts = count_more is_raising history more in omega arith); owed = old.owed }

  -- an event isn't owed any more
  pub bounds_less : (j : ℕ) → Bounds start control current pin history settling permit → Bounds start control current pin history (put settling j None) permit
  bounds_less j old = record {
    tables = old.tables;
    opened = old.opened;
    left = old.left;
    entries = old.entries;
    owed = λ k d b. put_all settling j None (λ k o. k < start.layout.workers → o ≡ Some d → permit k ≡ true) (λ _ e. absurd (none_debt d e)) (λ k _. old.owed k d) k b;
  }

  -- one is owed by a caller that has a permit
  pub bounds_owed : (j : ℕ) (d : SettleDebt) → permit j ≡ true → Bounds start control current pin history settling permit → Bounds start control current pin history (put settling j (Some d)) permit
  bounds_owed j d has old = record {
    tables = old.tables;
    opened = old.opened;
    left = old.left;
    entries = old.entries;
    owed = λ k f b. put_all settling j (Some d) (λ k o. k < start.layout.workers → o ≡ Some f → permit k ≡ true) (λ _ _. has) (λ k _. old.owed k f) k b;
  }

  -- current's epoch rises by a permit, for an event that is settled so
  pub bounds_used : (j : ℕ) (next : Current) (e : Event) → j < start.layout.workers → permit j ≡ true → next.epoch ≡ current.epoch + 1 → Bounds start control current pin history settling permit
      → Bounds start control next pin (history ++ Settled j e ∷ []) (put settling j None) (put permit j false)
  bounds_used j next e b has rises old = record {
    tables = old.tables;
    opened = (let was = old.opened in let parts : table_count (history ++ Settled j e ∷ []) ≡ table_count history = (let two = count_more is_table history (Settled j e ∷ []) in omega arith) in omega arith);
    left = (let low = old.left in let one = permits_drop permit j start.layout.workers b has in let less = coming_less control current next pin (omega arith) in omega arith);
    entries = (let low = old.entries in let less = coming_less control current next pin (omega arith) in let parts : raising_count (history ++ Settled j e ∷ []) ≡ raising_count history + 1 = count_more is_raising history (Settled j e ∷ []) in omega arith);
    owed = λ k d. put_all settling j None (λ k o. k < start.layout.workers → o ≡ Some d → put permit j false k ≡ true) (λ _ n. absurd (none_debt d n)) (λ k ne c is. put_else permit j false k ne ∙ old.owed k d c is) k;
  }

  -- an epoch is left for a permit
  pub permitted : (j : ℕ) → j < start.layout.workers → permit j ≡ true → Bounds start control current pin history settling permit → current.epoch < 2 ^ 32 - 48
  permitted j b has old = let low = old.left in let one = permits_drop permit j start.layout.workers b has in omega arith

  -- current moves on within its epoch, or to a later one that was still to come
  pub bounds_current : (next : Current) → current.epoch ≤ next.epoch → next.epoch + coming control next pin ≤ current.epoch + coming control current pin → Bounds start control current pin history settling permit → Bounds start control next pin history settling permit
  bounds_current next high most old = record {
    tables = old.tables;
    opened = old.opened;
    left = (let low = old.left in omega arith);
    entries = (let low = old.entries in omega arith);
    owed = old.owed;
  }

  -- the pin is set while what is still to come was so before
  pub bounds_pinned : (pin' : Pin) → coming control current pin ≡ 1 → Bounds start control current pin history settling permit → Bounds start control current pin' history settling permit
  bounds_pinned pin' one old = let low = coming_low control current pin' in record {
    tables = old.tables;
    opened = old.opened;
    left = (let top = old.left in omega arith);
    entries = (let top = old.entries in omega arith);
    owed = old.owed;
  }
