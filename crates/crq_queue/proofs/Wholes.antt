-- The parts of a whole, and what rests of each caller.
use Rattle.std.proofs.Common.{◌≡◌, inl, ℕ, zero, suc, ◌+◌, ◌<◌, List, [], ◌∷◌, ◌++◌, map, length, sym, refl, ap, ◌∙◌, subst, arith, Some}
use Rattle.std.specs.Prelude.{slice_get}
use mathlib.Core.Option.{some, some-injective, some-ne-none}
use lib.ListN.{get_elem?}
use Rattle.crq_base.specs.declared.entry.Entry.{Entry}
use Rattle.crq_rule.specs.declared.debts.Debts.{Debts}
use Rattle.crq_rule.specs.declared.layout.Start.{Start}
use Rattle.crq_rule.specs.declared.pass.Rest.{Rest}
use Rattle.crq_rule.specs.declared.pass.Table.{Table}
use Rattle.crq_rule.specs.declared.pass.Seating.TheVariants.{Resting}
use Rattle.crq_rule.specs.declared.view.Caller.{Caller}
use Rattle.crq_rule.specs.Deals.{HasAll, IsSilent}
use Rattle.crq_rule.specs.Opening.{IsFresh, IsOpening, no_debts}
use Rattle.crq_rule.specs.Rule.{fresh, fresh_from}
use Rattle.crq_rows.specs.Passes.{IsOwed}
use Rattle.crq_rows.proofs.Deals.{fresh_lawful}
use Rattle.crq_queue.specs.declared.calendar.Whole.{Whole}
use Rattle.crq_queue.specs.Wholes.{IsWhole, Rests, dealt, history_of}

module _ {A : Type 0} where
  pub within : (xs : List A) (k : ℕ) (a : A) → get_elem? xs k ≡ some a → k < length xs
  within [] k a e = absurd (some-ne-none a (sym e))
  within (x ∷ xs) zero a e = omega arith
  within (x ∷ xs) (suc k) a e = let r = within xs k a e in omega arith

  pub at_last : (xs : List A) (a : A) → get_elem? (xs ++ a ∷ []) (length xs) ≡ some a
  at_last [] a = refl
  at_last (x ∷ xs) a = at_last xs a

  pub at_before : (xs ys : List A) (k : ℕ) (a : A) → get_elem? xs k ≡ some a → get_elem? (xs ++ ys) k ≡ some a
  at_before [] ys k a e = absurd (some-ne-none a (sym e))
  at_before (x ∷ xs) ys zero a e = e
  at_before (x ∷ xs) ys (suc k) a e = at_before xs ys k a e

pub place_within : {A : Type 0} (xs : List A) (k : ℕ) (a : A) → slice_get xs k ≡ Some a → k < length xs
place_within [] k a e = absurd (cc)
place_within (x ∷ xs) zero a e = omega arith
place_within (x ∷ xs) (suc k) a e = let r = place_within xs k a e in omega arith

-- A part that was changed as all are, and what it was

pub map_at : (f : Caller → Caller) (ps : List Caller) (k : ℕ) (p : Caller) → get_elem? ps k ≡ some p → get_elem? (map f ps) k ≡ some (f p)
map_at f [] k p e = absurd (some-ne-none p (sym e))
map_at f (q ∷ ps) zero p e = ap (λ z. some (f z)) (some-injective q p e)
map_at f (q ∷ ps) (suc k) p e = map_at f ps k p e

pub mapped_at : (f : Caller → Caller) (ps : List Caller) (k : ℕ) (q : Caller) → get_elem? (map f ps) k ≡ some q → ((p : Caller) × (get_elem? ps k ≡ some p) × (f p ≡ q))
mapped_at f [] k q e = absurd (some-ne-none q (sym e))
mapped_at f (p ∷ ps) zero q e = (p, refl, some-injective (f p) q e)
mapped_at f (p ∷ ps) (suc k) q e = mapped_at f ps k q e

-- A whole carries all callers, and none has made an entry

module _ (table : Table) (whole : Whole) (w : IsWhole table whole) where
  pub whole_at : (k : ℕ) (p : Caller) → get_elem? whole.seat.me.0.parts k ≡ some p → ((rest : Rest) × (slice_get whole.places.items k ≡ Some (Resting rest)) × Rests table (history_of whole) k p rest)
  whole_at k p at = let r = w.each k (subst (λ n. k < n) w.parts (within whole.seat.me.0.parts k p at)) in
      (r.1, r.3, subst (λ q. Rests table (history_of whole) k q r.1) (some-injective r.0 p (sym r.2 ∙ at)) r.4)

  pub whole_all : HasAll table.start.layout.workers whole.seat.me.0
  whole_all j b = let r = w.each j b in (j, r.0, r.2, r.4.number)

  pub whole_silent : IsSilent whole.seat.me.0
  whole_silent k p at = (whole_at k p at).2.own

-- A new calendar

length-fresh : (s : Start) (j n : ℕ) → length (fresh_from s j n) ≡ n
length-fresh s j zero = refl
length-fresh s j (suc n) = let r = length-fresh s (j + 1) n in omega arith

fresh_there : (s : Start) (j n k : ℕ) → k < n → get_elem? (fresh_from s j n) k ≡ some (fresh s (j + k))
fresh_there s j zero k b = absurd (omega arith)
fresh_there s j (suc n) zero b = ap (λ z. some (fresh s z)) (omega arith)
fresh_there s j (suc n) (suc k) b = fresh_there s (j + 1) n k (omega arith) ∙ ap (λ z. some (fresh s z)) (omega arith)

fresh_dealt : (s : Start) (j n : ℕ) → dealt (fresh_from s j n) ≡ []
fresh_dealt s j zero = refl
fresh_dealt s j (suc n) = refl

fresh_rests : (table : Table) (history : List Entry) (k : ℕ) (rest : Rest) → history ≡ [] → k < table.start.layout.workers → IsFresh table.start.layout k rest → Rests table history k (fresh table.start k) rest
fresh_rests table history k rest none b new = record {
  number = refl;
  start = refl;
  lawful = fresh_lawful table.start k b;
  deal = sym none;
  own = refl;
  guard = refl;
  cut = refl;
  free = new.free;
  room = new.room;
  debts = subst (λ d. IsOwed d no_debts) (sym new.debts) record { settle = inl refl; copy = refl; names = inl (inl refl) };
  settle = ap (λ (d : Debts). d.settle) new.debts;
  settled = refl;
  told = refl;
  copy = ap (λ (d : Debts). d.copy) new.debts;
  second_cut = ap (λ (d : Debts). d.second_cut) new.debts;
}

module _ (start : Start) (table : Table) (whole : Whole) (o : IsOpening start table whole.seat whole.places.items) where
  at_start : IsOpening table.start table whole.seat whole.places.items
  at_start = subst (λ s. IsOpening s table whole.seat whole.places.items) (sym o.of) o

  pub opening_empty : history_of whole ≡ []
  opening_empty = ap (λ m. dealt m.0.parts) o.me ∙ fresh_dealt start 0 start.layout.workers

  pub opening_whole : IsWhole table whole
  opening_whole = let n : ℕ = table.start.layout.workers in let parts : whole.seat.me.0.parts ≡ fresh_from table.start 0 n = ap (λ m. m.0.parts) at_start.me in record {
    seated = o.seated;
    bare = ap (λ m. m.1) o.me;
    parts = ap length parts ∙ length-fresh table.start 0 n;
    wide = at_start.resting.wide;
    each = λ k b. let r = at_start.resting.each k b in let is : 0 + k ≡ k = omega arith in
        (fresh table.start k, r.0, ap (λ ps. get_elem? ps k) parts ∙ (fresh_there table.start 0 n k b ∙ ap (λ z. some (fresh table.start z)) is), r.1, fresh_rests table (history_of whole) k r.0 opening_empty b r.2);
  }
