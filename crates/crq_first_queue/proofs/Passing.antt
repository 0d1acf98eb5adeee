-- What the calls leave of a pass, and passes that are put back in their places.
use Rattle.std.proofs.Common.{◌≡◌, inl, inr, ⊎_elim, ℕ, ◌-◌, ◌<◌, min, List, [], ◌∷◌, ◌++◌, length, set, length-set, Option, Some, None, Result, Ok, Err, refl, sym, ap, ◌∙◌, subst, arith}
use Rattle.std.specs.Prelude.{slice_get}
use Rattle.std.specs.List.{cons_option}
use Rattle.std.proofs.lemmas.List.{append-nil, append_assoc}
use Rattle.std.proofs.lemmas.List.Elements.{filter_map-append}
use Rattle.std.proofs.Math.Nat.{div-one, min-eq_left}
use mathlib.Core.Logic.{dite}
use native.Mathlib.Decide.{ℕ_discrete}
use Rattle.crq_base.specs.declared.event.Event.{Event}
use Rattle.crq_base.specs.declared.entry.Entry.{Entry}
use Rattle.crq_base.specs.declared.entry.Entry.TheVariants.{Begin, Put, Take, Miss, Settled}
use Rattle.crq_base.specs.declared.answers.TakeEnd.{TakeEnd}
use Rattle.crq_base.specs.declared.answers.TakeEnd.TheVariants.{Taken, Missed}
use Rattle.crq_base.specs.declared.answers.Short.{Short}
use Rattle.crq_base.specs.declared.answers.Short.TheVariants.{Rows as NoRows, Epochs as NoEpochs, Memory}
use Rattle.crq_base.specs.Entries.{caller_of}
use Rattle.crq_base.specs.Histories.{puts, put_of, own as own_of}
use Rattle.crq_base.specs.Lists.{In}
use Rattle.crq_base.specs.Sources.{owner_of}
use Rattle.crq_rule.specs.declared.pass.Pass.{Pass}
use Rattle.crq_rule.specs.declared.pass.Table.{Table}
use Rattle.crq_rule.specs.declared.pass.Seating.{Seating}
use Rattle.crq_rule.specs.declared.pass.Seating.TheVariants.{Here, Lifted}
use Rattle.crq_rule.proofs.HistoryLaws.{in_append}
use Rattle.crq_rows.specs.Passes.{caller}
use Rattle.crq_rows.proofs.Slots.{get_here, get_else}
use Rattle.crq_queue.specs.declared.calendar.Whole.{Whole}
use Rattle.crq_queue.specs.Wholes.{MayGather, AreResting, AreDealt, IsGathered, history_of}
use Rattle.crq_set.specs.Answers.{AreBegins}
use Rattle.crq_queue.specs.Calls.{OwesNothing}
use Rattle.crq_queue.specs.Waits.{AddsBegun, PutAdded, TakeAdded}
use Rattle.crq_queue.proofs.Waits.{settles_none}
use Rattle.crq_first_queue.specs.declared.Trouble.{Trouble}
use Rattle.crq_first_queue.specs.Deeds.{IsNew, Did, EndsEmpty, HasPlayed, named, if_put}

-- nothing done
pub nothing : {table : Table} {pass : Pass} → MayGather table pass → Did table pass pass []
nothing {table} {pass} rests = record { rests = rests; number = refl; deal = refl; since = []; own = sym (append-nil (caller table pass).own); puts_are = refl }

-- one thing after another
pub both : {table : Table} {a b c : Pass} {put put' : List Event} → Did table a b put → Did table b c put' → Did table a c (put ++ put')
both {table} {a} x y = record {
  rests = y.rests;
  number = y.number ∙ x.number;
  deal = y.deal ∙ x.deal;
  since = x.since ++ y.since;
  own = y.own ∙ (ap (λ es. es ++ y.since) x.own ∙ append_assoc (caller table a).own x.since y.since);
  puts_are = filter_map-append put_of x.since y.since ∙ (λ i. x.puts_are i ++ y.puts_are i);
}

-- Begins put nothing
puts_begun : (k : ℕ) (begins entries : List Entry) → AreBegins k begins → puts (begins ++ entries) ≡ puts entries
puts_begun k [] entries are = refl
puts_begun k (x ∷ xs) entries are = ap (λ y. cons_option (put_of y) (puts (xs ++ entries))) are.0 ∙ puts_begun k xs entries are.1

-- a call that waits, of a pass that owes no event, and owes nothing afterwards
module _ {table : Table} {old new : Pass} (rests : MayGather table old) (nothing_owed : OwesNothing new) where
  -- no event was to be settled first
  began : (entries : List Entry) (a : AddsBegun table old new entries) → (caller table new).own ≡ (caller table old).own ++ (a.0 ++ (Begin old.number ∷ entries))
  began entries a = a.2.own ∙ ap (λ es. (caller table old).own ++ (es ++ (a.0 ++ (Begin old.number ∷ entries)))) (settles_none old rests.settled)

  did : (entries : List Entry) → AddsBegun table old new entries → Did table old new (puts entries)
  did entries a = record {
    rests = record { rests = a.2.rests; settled = nothing_owed.0 };
    number = a.2.number;
    deal = a.2.deal;
    since = a.0 ++ Begin old.number ∷ entries;
    own = began entries a;
    puts_are = puts_begun old.number a.0 (Begin old.number ∷ entries) a.1;
  }

  pub put_done : (e : Event) → PutAdded table e old new (Ok tt) → Did table old new (e ∷ [])
  put_done e a = did (Put old.number e ∷ Settled old.number e ∷ []) a

  pub put_refused : (e : Event) (short : Short) → PutAdded table e old new (Err short) → Did table old new []
  put_refused e NoRows a = did [] a.0
  put_refused e NoEpochs a = did [] a.0
  put_refused e Memory a = absurd a

  pub take_did : (limit : ℕ) (r : Result TakeEnd Short) → TakeAdded table limit old new r → Did table old new []
  take_did limit (Ok (Taken e route)) a = did (Take old.number e ∷ []) a.0
  take_did limit (Ok Missed) a = did (Miss old.number limit ∷ []) a
  take_did limit (Err short) a = absurd a

  pub take_missed : (limit : ℕ) → TakeAdded table limit old new (Ok Missed) → EndsEmpty old.number limit (caller table new).own
  take_missed limit a = ((caller table old).own ++ a.0, began (Miss old.number limit ∷ []) a ∙ sym (append_assoc (caller table old).own a.0 (Begin old.number ∷ Miss old.number limit ∷ [])))

-- a take that found nothing, after calls that put nothing
pub missed_last : {table : Table} {first old : Pass} (new : Pass) → OwesNothing new → Did table first old [] → (limit : ℕ) (end : TakeEnd) → end ≡ Missed → TakeAdded table limit old new (Ok end) → EndsEmpty first.number limit (caller table new).own
missed_last {table} {first} {old} new owed x limit end is a = subst (λ n. EndsEmpty n limit (caller table new).own) x.number (take_missed x.rests owed limit (subst (λ end. TakeAdded table limit old new (Ok end)) is a))

-- an entry that puts an event makes it one of those that were put
later : (o : Option Event) (f : Event) (fs : List Event) → In f fs → In f (cons_option o fs)
later None f fs i = i
later (Some e) f fs i = inr i

put_within : (k : ℕ) (f : Event) (es : List Entry) → In (Put k f) es → In f (puts es)
put_within k f [] i = absurd i
put_within k f (x ∷ es) i = ⊎_elim (λ z. subst (λ y. In f (cons_option (put_of y) (puts es))) z (inl refl)) (λ t. later (put_of x) f (puts es) (put_within k f es t)) i

-- a new event is still new, where only others were put
pub still_new : {table : Table} {old new : Pass} {put : List Event} (e : Event) → Did table old new put → ((f : Event) → In f put → f.src ≡ e.src → f.seq ≡ e.seq → ⊥) → IsNew table old e → IsNew table new e
still_new {table} {old} {new} {put} e x others fresh = (
  ap (λ d. owner_of table.start.layout.workers d.span e.src) x.deal ∙ (fresh.0 ∙ sym x.number),
  λ k f seen same_src same_seq. ⊎_elim
      (λ i. fresh.1 k f (inl (subst (λ d. In (Put k f) d.history) x.deal i)) same_src same_seq)
      (λ i. ⊎_elim (λ i. fresh.1 k f (inr i) same_src same_seq) (λ i. others f (subst (In f) x.puts_are (put_within k f x.since i)) same_src same_seq)
      (in_append (caller table old).own x.since (Put k f) (subst (In (Put k f)) x.own i))) seen,
)

-- of two events with different numbers
pub put_other : (r : Result (Unit {0}) Trouble) (e e' : Event) → (e.seq ≡ e'.seq → ⊥) → (f : Event) → In f (if_put r e) → f.src ≡ e'.src → f.seq ≡ e'.seq → ⊥
put_other (Ok u) e e' differ f i same_src same_seq = ⊎_elim (λ z. differ (sym (ap (λ (e : Event). e.seq) z) ∙ same_seq)) (λ n. absurd n) i
put_other (Err t) e e' differ f i same_src same_seq = absurd i

-- Passes that were dealt after an empty history

none_in : {P : Type 0} (es : List Entry) (e : Entry) → es ≡ [] → In e es → P
none_in es e is i = absurd (subst (In e) is i)

module _ (table : Table) (whole : Whole) (places : List Seating) (all : AreResting table places) (dealt : AreDealt table whole 1 places) (k : ℕ) (pass : Pass) (b : k < table.start.layout.workers) (at : slice_get places k ≡ Some (Here pass)) where
  -- each event of its source is new
  pub first_new : history_of whole ≡ [] → (e : Event) → e.src ≡ k → IsNew table pass e
  first_new empty e src = let d = dealt.each k pass at in let n : ℕ = table.start.layout.workers in let m : ℕ = n - 1 in (
    ap (λ d. owner_of n d.span e.src) d.deal ∙ (ap (λ x. min x m) (div-one e.src) ∙ (min-eq_left (omega arith) ∙ (src ∙ sym d.number))),
    λ j f i same_src same_seq. ⊎_elim (none_in _ _ (ap (λ d. d.history) d.deal ∙ empty)) (none_in _ _ d.own) i,
  )

-- two passes that were taken out
module _ (start mid now : List Seating) (first : mid ≡ set start 0 Lifted) where
  pub second_there : slice_get mid 1 ≡ slice_get start 1
  second_there = ap (λ ps. slice_get ps 1) first ∙ get_else start 0 1 Lifted (λ o. absurd (omega arith))

  module _ (second : now ≡ set mid 1 Lifted) (wide : length start ≡ 2) where
    mid_wide : length mid ≡ 2
    mid_wide = ap length first ∙ (length-set start 0 Lifted ∙ wide)

    pub still_wide : length now ≡ 2
    still_wide = ap length second ∙ (length-set mid 1 Lifted ∙ mid_wide)

    pub first_free : slice_get now 0 ≡ Some Lifted
    first_free = ap (λ ps. slice_get ps 0) second ∙ (get_else mid 1 0 Lifted (λ o. absurd (omega arith)) ∙ (ap (λ ps. slice_get ps 0) first ∙ get_here start 0 Lifted (omega arith)))

    pub second_free : slice_get now 1 ≡ Some Lifted
    second_free = let w = mid_wide in ap (λ ps. slice_get ps 1) second ∙ get_here mid 1 Lifted (omega arith)

-- two passes that were put back
module _ (table : Table) (start now : List Seating) (first second : Pass) (two : table.start.layout.workers ≡ 2) (wide : length start ≡ 2) (zero_is : first.number ≡ 0) (one_is : second.number ≡ 1)
    (is : now ≡ set (set start first.number (Here first)) second.number (Here second)) where
  set_now : now ≡ set (set start 0 (Here first)) 1 (Here second)
  set_now = is ∙ (λ i. set (set start (zero_is i) (Here first)) (one_is i) (Here second))

  pub first_back : slice_get now 0 ≡ Some (Here first)
  first_back = ap (λ ps. slice_get ps 0) set_now ∙ (get_else (set start 0 (Here first)) 1 0 (Here second) (λ o. absurd (omega arith)) ∙ get_here start 0 (Here first) (omega arith))

  pub second_back : slice_get now 1 ≡ Some (Here second)
  second_back = let mid = length-set start 0 (Here first) in ap (λ ps. slice_get ps 1) set_now ∙ get_here (set start 0 (Here first)) 1 (Here second) (omega arith)

  pub both_rest : MayGather table first → MayGather table second → AreResting table now
  both_rest rests_first rests_second = record {
    wide = ap length set_now ∙ (length-set (set start 0 (Here first)) 1 (Here second) ∙ (length-set start 0 (Here first) ∙ (wide ∙ sym two)));
    each = λ k b. dite (ℕ_discrete k 0)
        (λ z. (first, ap (slice_get now) z ∙ first_back, zero_is ∙ sym z, rests_first))
        (λ n. let one : k ≡ 1 = omega arith in (second, ap (slice_get now) one ∙ second_back, one_is ∙ sym one, rests_second));
  }

-- a caller whose pass was dealt after an empty history, and the events that it put since
pub record HasPut (table : Table) (pass : Pass) (put : List Event) : Type 0 where
  pub new : (caller table pass).deal.history ≡ []
  pub puts_are : puts (caller table pass).own ≡ put

pub has_put : (table : Table) (whole : Whole) (places : List Seating) (k : ℕ) (old now : Pass) (put : List Event) → AreDealt table whole 1 places → slice_get places k ≡ Some (Here old) → history_of whole ≡ [] → Did table old now put → HasPut table now put
has_put table whole places k old now put dealt at empty x = let d = dealt.each k old at in record {
  new = ap (λ d. d.history) (x.deal ∙ d.deal) ∙ empty;
  puts_are = ap puts (x.own ∙ ap (λ es. es ++ x.since) d.own) ∙ x.puts_are;
}

-- what both made is one legal history
module _ (table : Table) (places : List Seating) (whole : Whole) (gathered : IsGathered table places whole) where
  part_of : (k : ℕ) (pass : Pass) → slice_get places k ≡ Some (Here pass) → (caller table pass).deal.history ≡ [] → (history_of whole ≡ gathered.since) × (own_of k (history_of whole) ≡ (caller table pass).own)
  part_of k pass at new = let e = gathered.each k pass at in let all = e.0 ∙ ap (λ h. h ++ gathered.since) new in (all, ap (own_of k) all ∙ e.1)

  pub have_played : (first second : Pass) → table.start.layout.workers ≡ 2 → slice_get places 0 ≡ Some (Here first) → slice_get places 1 ≡ Some (Here second)
      → HasPut table first (named 0 0 7 ∷ named 0 1 2 ∷ []) → HasPut table second (named 1 0 3 ∷ named 1 1 7 ∷ []) → EndsEmpty 0 100 (caller table first).own → HasPlayed (history_of whole)
  have_played first second two first_at second_at first_put second_put ends =
      let one = part_of 0 first first_at first_put.new in let other = part_of 1 second second_at second_put.new in record {
        legal = gathered.legal;
        first = ap puts one.1 ∙ first_put.puts_are;
        second = ap puts other.1 ∙ second_put.puts_are;
        callers = λ e i. subst (λ n. caller_of e < n) two (gathered.inside e (subst (In e) one.0 i));
        all = (ends.0, one.1 ∙ ends.1);
      }
