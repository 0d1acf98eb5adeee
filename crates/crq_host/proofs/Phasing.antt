-- From what each pass did in a phase to what the phase did.
use Rattle.std.proofs.Common.{◌≡◌, ◌≢◌, ℕ, ◌+◌, ◌<◌, inl, inr, List, [], ◌∷◌, ◌++◌, length, refl, sym, ap, ◌∙◌, subst, append_assoc, append-nil, eqb, eq-eqb, Option, Some, None, Result, Ok, Err, slice_get, set, length-set, arith}
use Rattle.std.specs.Prelude.{IfSome, IfOk, IfErr}
use Rattle.std.specs.List.{Contains}
use Rattle.std.proofs.lemmas.Bool.{cases_eq}
use Rattle.std.proofs.lemmas.Option.{same_Some, slice_get_within}
use Rattle.crq_base.specs.declared.event.Event.{Event}
use Rattle.crq_base.specs.declared.entry.Entry.{Entry}
use Rattle.crq_base.specs.declared.entry.Entry.TheVariants.{Begin, Take, Miss}
use Rattle.crq_base.specs.declared.answers.Short.{Short}
use Rattle.crq_base.specs.declared.answers.Short.TheVariants.{Rows, Epochs, Memory}
use Rattle.crq_base.specs.declared.answers.TakeEnd.{TakeEnd}
use Rattle.crq_base.specs.declared.answers.TakeEnd.TheVariants.{Taken, Missed}
use Rattle.crq_base.specs.Entries.{caller_of}
use Rattle.crq_base.specs.Histories.{outs, own, IsPending, IsEarlier, MayFollow, IsLegalAfter, table_count}
use Rattle.crq_base.specs.Lists.{In}
use Rattle.crq_base.proofs.HistoryLaws.{outs-append, legal_back}
use Rattle.crq_base.proofs.Elements.{in_right}
use Rattle.crq_set.specs.Views.{PassView, Setup}
use Rattle.crq_set.specs.Answers.{Adds, AreBegins, Takes, TakeGaveUp}
use Rattle.crq_set.specs.Gathered.{AreThere, Gathers, IsDealt, Deals}
use Rattle.crq_host.specs.Histories.{IsCalm}
use Rattle.crq_host.specs.Phases.{GoesOn, TakesShort, LeastEnds, DrainEnds}
use Rattle.crq_host.specs.Workers.{AllAre, IsTaking, StopsTakes, EndsMissed, Took, TellsShort, found_in, LacksRowsSince}
use Rattle.crq_host.proofs.Places.{get-set_same, get-set_other}
use Rattle.crq_host.proofs.Elements.{in_filter, filter_kept}
use Rattle.crq_host.proofs.Adding.{all_begun, all_none, all_more, begins_all, outs_begun, lacks_since}
use Rattle.crq_host.proofs.Pendings.{IsAfter, gathered_after, gathered_all, lacks_before, tables-append, takings_put_none, takings_open_none}
use Rattle.crq_host.proofs.DrainLaws.{drains, takes_pending, all_taken, settled_before}

-- what a pass did that was dealt the history h, and the worker whose it is stopped for this reason
pub record PlaceTook (setup : Setup) (limit : ℕ) (h : List Entry) (k : ℕ) (v : PassView) (short : Option Short) : Type 0 where
  pub dealt : v.dealt ≡ h
  pub number : v.number ≡ k
  pub steps : AllAre (IsTaking limit) v.own
  pub missed : short ≡ None → EndsMissed k limit v.own
  pub why : IfSome short (StopsTakes setup v v.own)

pub place_took : (setup : Setup) (limit : ℕ) (h : List Entry) (span k : ℕ) (old new : PassView) (events : List Event) (short : Option Short) → IsDealt h span k old → Took setup limit old new events short
    → PlaceTook setup limit h k new short × (outs new.own ≡ events)
place_took setup limit h span k old new events short d t =
    let own_is : new.own ≡ t.entries = t.adds.own ∙ ap (λ o. o ++ t.entries) d.own in (
      record {
        dealt = t.adds.dealt ∙ d.dealt;
        number = t.adds.number ∙ d.number;
        steps = subst (λ xs. AllAre (IsTaking limit) xs) (sym own_is) t.steps;
        missed = (λ no. (let m = t.missed no in (m.0, own_is ∙ m.1 ∙ ap (λ n. m.0 ++ (Begin n ∷ Miss n limit ∷ [])) d.number)));
        why = subst (λ xs. IfSome short (StopsTakes setup new xs)) (sym own_is) t.why;
      },
      ap outs own_is ∙ t.takes,
    )

pub goes_on : (h history since : List Entry) → IsAfter h history since → table_count since ≡ 0 → GoesOn h history since
goes_on h history since a none = record { extends = a.extends; calm = a.calm; tables = none }

-- where nothing opened a table there still is none
pub no_table : (h history since : List Entry) → IsAfter h history since → table_count h ≡ 0 → table_count since ≡ 0 → table_count history ≡ 0
no_table h history since a before none = ap table_count a.extends ∙ tables-append h since ∙ (let t : table_count h + table_count since ≡ 0 = omega arith in t)

-- the drain of all workers
module _ (setup : Setup) (limit : ℕ) (h : List Entry) (n : ℕ) (places : List (Option PassView)) (history : List Entry) (there : AreThere n places) (g : Gathers n places history)
    (some : 0 < n) (calm : IsCalm h) (none : table_count h ≡ 0) (shorts : List (Option Short)) (wide : length shorts ≡ n)
    (each : (k : ℕ) (v : PassView) → slice_get places k ≡ Some (Some v) → (short : Option Short) × (slice_get shorts k ≡ Some short) × PlaceTook setup limit h k v short) where
  pub drain_after : IsAfter h history g.since
  drain_after = gathered_after n places h history there g some (λ k v at. (each k v at).2.dealt)

  pub drain_all : AllAre (IsTaking limit) g.since
  drain_all = gathered_all n places h history there g (IsTaking limit) (λ k v at. (each k v at).2.steps)

  drain_on : GoesOn h history g.since
  drain_on = goes_on h history g.since drain_after (takings_open_none limit g.since drain_all)

  stops : (k : ℕ) (v : PassView) → slice_get places k ≡ Some (Some v) → (short : Short) → StopsTakes setup v v.own short → TakesShort setup h short
  stops k v at Rows why =
      lacks_before setup h history g.since k v drain_after (no_table h history g.since drain_after none (takings_open_none limit g.since drain_all)) (g.each k v at) (each k v at).2.number why (takings_put_none limit g.since drain_all)
  stops k v at Epochs why = absurd why
  stops k v at Memory why = tt

  pub drain_ends : (result : Result (Unit {0}) Short) → TellsShort shorts result → DrainEnds setup limit h history result
  drain_ends (Ok u) tells =
      let v = there 0 some in
      let p = each 0 v.0 v.1 in
      let m = p.2.missed (tells 0 p.0 p.1) in
      (g.since, drain_on, drains limit 0 h g.since drain_all drain_after.legal calm.settled (m.0, (g.each 0 v.0 v.1).own ∙ m.1))
  drain_ends (Err short) tells =
      let k = tells.0 in
      let v = there k (let lt = slice_get_within shorts k (Some short) tells.1 in omega arith) in
      let p = each k v.0 v.1 in
      let is : p.0 ≡ Some short = same_Some _ _ (sym p.1 ∙ tells.1) in
      (g.since, drain_on, stops k v.0 v.1 short (subst (λ s. IfSome s (StopsTakes setup v.0 v.0.own)) is p.2.why))

-- where all entries are one caller's, its own ones are all
pub all_own : (k : ℕ) (xs : List Entry) → ((x : Entry) → In x xs → caller_of x ≡ k) → own k xs ≡ xs
all_own k [] all = refl
all_own k (x ∷ xs) all = filter_kept (λ y. eqb (caller_of y) k) x xs (eq-eqb (caller_of x) k (all x (inl refl))) ∙ ap (λ zs. x ∷ zs) (all_own k xs (λ y i. all y (inr i)))

-- the places where pass 0 alone made a call
pub record OneCalled (h : List Entry) (places : List (Option PassView)) (v : PassView) : Type 0 where
  pub first : slice_get places 0 ≡ Some (Some v)
  pub dealt : (k : ℕ) (w : PassView) → slice_get places k ≡ Some (Some w) → w.dealt ≡ h
  pub others : (k : ℕ) (w : PassView) → slice_get places k ≡ Some (Some w) → k ≢ 0 → w.own ≡ []

pub one_called : (h : List Entry) (n span : ℕ) (places : List (Option PassView)) (v : PassView) → 0 < n → Deals n h span places → v.number ≡ 0 → v.dealt ≡ h
    → (next : List (Option PassView)) → next ≡ set (set places 0 None) v.number (Some v) → AreThere n next × OneCalled h next v
one_called h n span places v some d zeroth dealt next is =
    let place : List (Option PassView) → (k : ℕ) → Option (Option PassView) = λ ps k. slice_get ps k in
    let now : (next ≡ set (set places 0 None) 0 (Some v)) = is ∙ ap (λ i. set (set places 0 None) i (Some v)) zeroth in
    let wide : 0 < length (set places 0 None) = (let c = d.count in let s = length-set places 0 None in omega arith) in
    let here : slice_get next 0 ≡ Some (Some v) = ap (λ ps. slice_get ps 0) now ∙ get-set_same (set places 0 None) 0 (Some v) wide in
    let there : (k : ℕ) → k ≢ 0 → slice_get next k ≡ slice_get places k = λ k ne. ap (λ ps. slice_get ps k) now ∙ get-set_other (set places 0 None) 0 k (Some v) ne ∙ get-set_other places 0 k None ne in
    let other : (k : ℕ) (w : PassView) → slice_get next k ≡ Some (Some w) → k ≢ 0 → IsDealt h span k w = λ k w at ne.
    (let atp : slice_get places k ≡ Some (Some w) = sym (there k ne) ∙ at in
    let lt = slice_get_within places k (Some w) atp in
    let u = d.each k (let c = d.count in omega arith) in
    subst (IsDealt h span k) (same_Some _ _ (same_Some _ _ (sym u.1 ∙ atp))) u.2) in (
      (λ k lt. elim (cases_eq k 0) [
        | inl e ↦ (v, ap (λ i. slice_get next i) e ∙ here)
        | inr e ↦ (let u = d.each k lt in (u.0, there k e ∙ u.1))
      ]),
      record {
        first = here;
        dealt = (λ k w at. elim (cases_eq k 0) [
          | inl e ↦ (let same : v ≡ w = same_Some _ _ (same_Some _ _ (sym here ∙ sym (ap (λ i. slice_get next i) e) ∙ at)) in sym (ap (λ (x : PassView). x.dealt) same) ∙ dealt)
          | inr e ↦ (other k w at e).dealt
        ]);
        others = (λ k w at ne. (other k w at ne).own);
      },
    )

-- the one take of pass 0
module _ (setup : Setup) (limit : ℕ) (h : List Entry) (n span : ℕ) (places : List (Option PassView)) (history : List Entry) (there : AreThere n places) (g : Gathers n places history)
    (some : 0 < n) (calm : IsCalm h) (none : table_count h ≡ 0) (old new : PassView) (dealt : IsDealt h span 0 old) (one : OneCalled h places new) where
  least_after : IsAfter h history g.since
  least_after = gathered_after n places h history there g some one.dealt

  by_first : (x : Entry) → In x g.since → caller_of x ≡ 0
  by_first x i = elim (cases_eq (caller_of x) 0) [
    | inl e ↦ e
    | inr e ↦ (let v = there (caller_of x) (g.inside x i) in
        let mine : own (caller_of x) g.since ≡ [] = (g.each (caller_of x) v.0 v.1).own ∙ one.others (caller_of x) v.0 v.1 e in
        absurd (subst (In x) mine (in_filter (λ y. eqb (caller_of y) (caller_of x)) x g.since (eq-eqb (caller_of x) (caller_of x) refl) i)))
  ]

  since_is : (entries : List Entry) → Adds old new entries → g.since ≡ entries
  since_is entries adds = sym (all_own 0 g.since by_first) ∙ (g.each 0 new one.first).own ∙ adds.own ∙ ap (λ o. o ++ entries) dealt.own

  least_on : (entries : List Entry) → g.since ≡ entries → AllAre (IsTaking limit) entries → GoesOn h history g.since × AllAre (IsTaking limit) g.since
  least_on entries is all =
      let steps : AllAre (IsTaking limit) g.since = subst (λ xs. AllAre (IsTaking limit) xs) (sym is) all in
      (goes_on h history g.since least_after (takings_open_none limit g.since steps), steps)

  -- no pending event is before the one that was taken
  is_least : (begins : List Entry) (e : Event) → AreBegins 0 begins → g.since ≡ begins ++ (Begin 0 ∷ Take 0 e ∷ []) → (f : Event) → IsPending h f → IsEarlier f e → ⊥
  is_least begins e are is f pending earlier =
      let front : List Entry = begins ++ Begin 0 ∷ [] in
      let cut : g.since ≡ front ++ (Take 0 e ∷ []) = is ∙ sym (append_assoc begins (Begin 0 ∷ []) (Take 0 e ∷ [])) in
      let rest = legal_back h front (Take 0 e ∷ []) (subst (IsLegalAfter h) cut least_after.legal) in
      let may : MayFollow (h ++ front) (Take 0 e) = rest.0 in
      let began : (own 0 front ≡ [] → ⊥) = λ no. absurd (subst (In (Begin 0)) no (in_filter (λ y. eqb (caller_of y) 0) (Begin 0) front refl (in_right (Begin 0) begins (Begin 0 ∷ []) (inl refl)))) in
      let taken_none : outs (h ++ front) ≡ outs h = outs-append h front ∙ ap (λ zs. outs h ++ zs) (outs_begun 0 [] begins [] are) ∙ append-nil (outs h) in
      may.2.2 f (settled_before 0 h front may.2.0 f may.2.1 began (calm.settled f pending.put)) (λ out. pending.kept (subst (λ es. Contains es f) taken_none out)) earlier

  pub least_ends : ((e : Event) → IsPending h e → e.time < limit) → (answer : Result TakeEnd Short)
      → IfOk answer (Takes old new limit) → IfErr answer (TakeGaveUp setup old new) → LeastEnds setup h history (found_in answer)
  least_ends below (Ok (Taken e route)) takes gave =
      let t = takes in
      let begins : List Entry = t.1.0 in
      let are : AreBegins 0 begins = subst (λ m. AreBegins m begins) dealt.number t.1.1 in
      let is : g.since ≡ begins ++ (Begin 0 ∷ Take 0 e ∷ []) = since_is _ t.1.2 ∙ ap (λ m. begins ++ (Begin m ∷ Take m e ∷ [])) dealt.number in
      let on = least_on _ is (all_begun (IsTaking limit) 0 [] begins (Take 0 e ∷ []) (λ c. tt) are (all_none (IsTaking limit)) (all_more (IsTaking limit) (Take 0 e) [] t.0 (all_none (IsTaking limit)))) in
      let out : outs g.since ≡ e ∷ [] = ap outs is ∙ outs_begun 0 [] begins (Take 0 e ∷ []) are in
      (g.since, on.0, (takings_put_none limit g.since on.1, out, (takes_pending limit h g.since on.1 least_after.legal e (subst (In e) (sym out) (inl refl))).0, is_least begins e are is))
  least_ends below (Ok Missed) takes gave =
      let t = takes in
      let begins : List Entry = t.0 in
      let are : AreBegins 0 begins = subst (λ m. AreBegins m begins) dealt.number t.1 in
      let is : g.since ≡ begins ++ (Begin 0 ∷ Miss 0 limit ∷ []) = since_is _ t.2 ∙ ap (λ m. begins ++ (Begin m ∷ Miss m limit ∷ [])) dealt.number in
      let on = least_on _ is (all_begun (IsTaking limit) 0 [] begins (Miss 0 limit ∷ []) (λ c. tt) are (all_none (IsTaking limit)) (all_more (IsTaking limit) (Miss 0 limit) [] tt (all_none (IsTaking limit)))) in
      let out : outs g.since ≡ [] = ap outs is ∙ outs_begun 0 [] begins (Miss 0 limit ∷ []) are in
      let ends : EndsMissed 0 limit (own 0 g.since) = (begins, all_own 0 g.since by_first ∙ is) in (
        g.since,
        on.0,
        (
          takings_put_none limit g.since on.1,
          out,
          (λ e pending.
              (let at : Contains [] e = subst (λ es. Contains es e) out (all_taken limit 0 h g.since least_after.legal ends e (calm.settled e pending.put) pending.kept (below e pending)) in
              absurd (let lt = at.1 in omega arith))),
        ),
      )
  least_ends below (Err Rows) takes gave =
      let t = gave in
      let is : g.since ≡ t.0 = since_is t.0 t.2 in
      let on = least_on t.0 is (begins_all (IsTaking limit) old.number t.0 tt t.1) in
      let own_is : new.own ≡ t.0 = sym (g.each 0 new one.first).own ∙ all_own 0 g.since by_first ∙ is in
      let lacks = subst (λ xs. LacksRowsSince setup new xs) (sym own_is) (lacks_since setup old new [] t) in
      (g.since, on.0, lacks_before setup h history g.since 0 new least_after (no_table h history g.since least_after none on.0.tables) (g.each 0 new one.first) (t.2.number ∙ dealt.number) lacks (takings_put_none limit g.since on.1))
  least_ends below (Err Epochs) takes gave = absurd gave
  least_ends below (Err Memory) takes gave =
      let same = gave in
      let own_is : own 0 g.since ≡ [] = (g.each 0 new one.first).own ∙ ap (λ (v : PassView). v.own) same ∙ dealt.own in
      let is : g.since ≡ [] = sym (all_own 0 g.since by_first) ∙ own_is in
      (g.since, (least_on [] is (all_none (IsTaking limit))).0, tt)

-- a take leaves the pass its number and what was dealt to it
pub take_stays : (setup : Setup) (limit : ℕ) (old new : PassView) (answer : Result TakeEnd Short) → IfOk answer (Takes old new limit) → IfErr answer (TakeGaveUp setup old new) → (new.number ≡ old.number) × (new.dealt ≡ old.dealt)
take_stays setup limit old new (Ok (Taken e route)) takes gave = (takes.1.2.number, takes.1.2.dealt)
take_stays setup limit old new (Ok Missed) takes gave = (takes.2.number, takes.2.dealt)
take_stays setup limit old new (Err Rows) takes gave = (gave.2.number, gave.2.dealt)
take_stays setup limit old new (Err Epochs) takes gave = absurd gave
take_stays setup limit old new (Err Memory) takes gave = (ap (λ (v : PassView). v.number) gave, ap (λ (v : PassView). v.dealt) gave)

-- the pass that was lifted out of the first place was dealt the history
pub dealt_at : (n : ℕ) (h : List Entry) (span : ℕ) (places : List (Option PassView)) (k : ℕ) (v : PassView) → Deals n h span places → k < n → slice_get places k ≡ Some (Some v) → IsDealt h span k v
dealt_at n h span places k v d lt at = let u = d.each k lt in subst (IsDealt h span k) (same_Some _ _ (same_Some _ _ (sym u.1 ∙ at))) u.2

pub deals_there : (n : ℕ) (h : List Entry) (span : ℕ) (places : List (Option PassView)) → Deals n h span places → AreThere n places
deals_there n h span places d k lt = let u = d.each k lt in (u.0, u.1)
