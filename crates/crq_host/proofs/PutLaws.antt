-- From what each pass put in a phase to what the phase put.
use Rattle.std.proofs.Common.{◌≡◌, ℕ, zero, suc, ◌<◌, inl, inr, List, [], ◌∷◌, ◌++◌, length, map, refl, sym, ap, ◌∙◌, subst, append-nil, eqb, eq-eqb, Option, Some, None, Result, Ok, Err, slice_get, arith}
use Rattle.std.specs.Prelude.{IfSome, flat_map}
use Rattle.std.specs.List.{Contains}
use Rattle.std.proofs.lemmas.List.Elements.{Contains-append_right}
use Rattle.std.proofs.lemmas.Option.{same_Some, slice_get_within}
use Rattle.crq_base.specs.declared.event.Event.{Event}
use Rattle.crq_base.specs.declared.entry.Entry.{Entry}
use Rattle.crq_base.specs.declared.entry.Entry.TheVariants.{Begin, Put, Settled, Take, Miss, Table}
use Rattle.crq_base.specs.declared.answers.Short.{Short}
use Rattle.crq_base.specs.declared.answers.Short.TheVariants.{Rows, Epochs, Memory}
use Rattle.crq_base.specs.Entries.{caller_of}
use Rattle.crq_base.specs.Histories.{put_of, puts, IsLegalAfter, table_count}
use Rattle.crq_base.specs.Lists.{In, IsOnce}
use Rattle.crq_base.proofs.HistoryLaws.{puts-append}
use Rattle.crq_base.proofs.Elements.{in_contains, contains_in, in_left, in_right, in_cases}
use Rattle.crq_set.specs.Views.{PassView, Setup}
use Rattle.crq_set.specs.Gathered.{AreThere, Gathers, IsDealt}
use Rattle.crq_host.specs.Phases.{GoesOn, PutsShort, PutsEnd}
use Rattle.crq_host.specs.Workers.{AllAre, IsPutting, StopsPuts, PutInTurn, TellsShort}
use Rattle.crq_host.proofs.Elements.{in_filter, in_filter_map, filter_map_in}
use Rattle.crq_host.proofs.Pendings.{IsAfter, gathered_after, gathered_all, gathered_in, lacks_after, puttings_take_none, puttings_open_none}
use Rattle.crq_host.proofs.Phasing.{goes_on, no_table}

-- what is put wasn't put before, and is put once
put_fresh : (h xs : List Entry) → AllAre IsPutting xs → IsLegalAfter h xs → (e : Event) → In e (puts xs) → Contains (puts h) e → ⊥
put_fresh h [] all legal e at was = at
put_fresh h (Begin c ∷ xs) all legal e at was = put_fresh (h ++ Begin c ∷ []) xs (λ x i. all x (inr i)) legal.1 e at (subst (λ es. Contains es e) (sym (puts-append h (Begin c ∷ []) ∙ append-nil (puts h))) was)
put_fresh h (Settled c f ∷ xs) all legal e at was = put_fresh (h ++ Settled c f ∷ []) xs (λ x i. all x (inr i)) legal.1 e at (subst (λ es. Contains es e) (sym (puts-append h (Settled c f ∷ []) ∙ append-nil (puts h))) was)
put_fresh h (Put c f ∷ xs) all legal e (inl same) was = legal.0 (subst (Contains (puts h)) same was)
put_fresh h (Put c f ∷ xs) all legal e (inr at) was =
    put_fresh (h ++ Put c f ∷ []) xs (λ x i. all x (inr i)) legal.1 e at (subst (λ es. Contains es e) (sym (puts-append h (Put c f ∷ []))) (in_contains e (puts h ++ f ∷ []) (in_left e (puts h) (f ∷ []) (contains_in e (puts h) was))))
put_fresh h (Take c f ∷ xs) all legal e at was = absurd (all (Take c f) (inl refl))
put_fresh h (Miss c l ∷ xs) all legal e at was = absurd (all (Miss c l) (inl refl))
put_fresh h (Table c l s ∷ xs) all legal e at was = absurd (all (Table c l s) (inl refl))

pub put_once : (h xs : List Entry) → AllAre IsPutting xs → IsLegalAfter h xs → IsOnce (puts xs)
put_once h [] all legal = tt
put_once h (Begin c ∷ xs) all legal = put_once (h ++ Begin c ∷ []) xs (λ x i. all x (inr i)) legal.1
put_once h (Settled c f ∷ xs) all legal = put_once (h ++ Settled c f ∷ []) xs (λ x i. all x (inr i)) legal.1
put_once h (Put c f ∷ xs) all legal =
    let now : Contains (puts (h ++ Put c f ∷ [])) f = subst (λ es. Contains es f) (sym (puts-append h (Put c f ∷ []))) (Contains-append_right (puts h) (f ∷ []) f (0, omega arith, refl)) in
    ((λ again. put_fresh (h ++ Put c f ∷ []) xs (λ x i. all x (inr i)) legal.1 f again now), put_once (h ++ Put c f ∷ []) xs (λ x i. all x (inr i)) legal.1)
put_once h (Take c f ∷ xs) all legal = absurd (all (Take c f) (inl refl))
put_once h (Miss c l ∷ xs) all legal = absurd (all (Miss c l) (inl refl))
put_once h (Table c l s ∷ xs) all legal = absurd (all (Table c l s) (inl refl))

-- the elements of joined lists
pub in_flat : {X : Type 0} (x : X) (xss : List (List X)) → In x (flat_map (λ xs. xs) xss) → (k : ℕ) × (xs : List X) × (slice_get xss k ≡ Some xs) × In x xs
in_flat x [] h = absurd h
in_flat x (xs ∷ xss) h = elim (in_cases x xs (flat_map (λ ys. ys) xss) h) [
  | inl a ↦ (0, xs, refl, a)
  | inr b ↦ (let r = in_flat x xss b in (suc r.0, r.1, r.2, r.3))
]

pub flat_in : {X : Type 0} (x : X) (xss : List (List X)) (k : ℕ) (xs : List X) → slice_get xss k ≡ Some xs → In x xs → In x (flat_map (λ ys. ys) xss)
flat_in x [] k xs e h = absurd (cc)
flat_in x (ys ∷ xss) zero xs e h = in_left x ys (flat_map (λ zs. zs) xss) (let same : ys ≡ xs = cc in subst (In x) (sym same) h)
flat_in x (ys ∷ xss) (suc k) xs e h = in_right x ys (flat_map (λ zs. zs) xss) (flat_in x xss k xs e h)

pub flat_mapped : {X Y : Type 0} (f : X → List Y) (xs : List X) → flat_map (λ ys. ys) (map f xs) ≡ flat_map f xs
flat_mapped f [] = refl
flat_mapped f (x ∷ xs) = ap (λ ys. f x ++ ys) (flat_mapped f xs)

-- what a pass did that was dealt the history h, to whose worker these events were due
pub record PlacePut (setup : Setup) (h : List Entry) (k : ℕ) (v : PassView) (due : List Event) (short : Option Short) : Type 0 where
  pub dealt : v.dealt ≡ h
  pub number : v.number ≡ k
  pub steps : AllAre IsPutting v.own
  pub left : List Event
  pub first : due ≡ puts v.own ++ left
  pub all : short ≡ None → left ≡ []
  pub why : IfSome short (StopsPuts setup v v.own)

pub place_put : (setup : Setup) (h : List Entry) (span k : ℕ) (old new : PassView) (due : List Event) (short : Option Short) → IsDealt h span k old → PutInTurn setup old new due short → PlacePut setup h k new due short
place_put setup h span k old new due short d t =
    let own_is : new.own ≡ t.entries = t.adds.own ∙ ap (λ o. o ++ t.entries) d.own in record {
      dealt = t.adds.dealt ∙ d.dealt;
      number = t.adds.number ∙ d.number;
      steps = subst (λ xs. AllAre IsPutting xs) (sym own_is) t.steps;
      left = t.left;
      first = t.first ∙ ap (λ xs. puts xs ++ t.left) (sym own_is);
      all = t.all;
      why = subst (λ xs. IfSome short (StopsPuts setup new xs)) (sym own_is) t.why;
    }

-- the puts of all workers
module _ (setup : Setup) (h : List Entry) (n : ℕ) (places : List (Option PassView)) (history : List Entry) (there : AreThere n places) (g : Gathers n places history)
    (some : 0 < n) (none : table_count h ≡ 0) (dues : List (List Event)) (shorts : List (Option Short)) (many : length dues ≡ n) (wide : length shorts ≡ n)
    (each : (k : ℕ) (v : PassView) → slice_get places k ≡ Some (Some v) → (due : List Event) × (short : Option Short) × (slice_get dues k ≡ Some due) × (slice_get shorts k ≡ Some short) × PlacePut setup h k v due short) where
  put_after : IsAfter h history g.since
  put_after = gathered_after n places h history there g some (λ k v at. (each k v at).4.dealt)

  put_steps : AllAre IsPutting g.since
  put_steps = gathered_all n places h history there g IsPutting (λ k v at. (each k v at).4.steps)

  put_on : GoesOn h history g.since
  put_on = goes_on h history g.since put_after (puttings_open_none g.since put_steps)

  put_was_due : (e : Event) → Contains (puts g.since) e → Contains (flat_map (λ es. es) dues) e
  put_was_due e at =
      let x = in_filter_map put_of e g.since (contains_in e (puts g.since) at) in
      let k : ℕ = caller_of x.0 in
      let v = there k (g.inside x.0 x.1) in
      let p = each k v.0 v.1 in
      let mine : In x.0 v.0.own = subst (In x.0) (g.each k v.0 v.1).own (in_filter (λ y. eqb (caller_of y) k) x.0 g.since (eq-eqb k k refl) x.1) in
      let due : In e p.0 = subst (In e) (sym p.4.first) (in_left e (puts v.0.own) p.4.left (filter_map_in put_of e x.0 v.0.own mine x.2)) in
      in_contains e (flat_map (λ es. es) dues) (flat_in e dues k p.0 p.2 due)

  due_was_put : TellsShort shorts (Ok tt) → (e : Event) → Contains (flat_map (λ es. es) dues) e → Contains (puts g.since) e
  due_was_put tells e at =
      let d = in_flat e dues (contains_in e (flat_map (λ es. es) dues) at) in
      let v = there d.0 (let lt = slice_get_within dues d.0 d.1 d.2 in omega arith) in
      let p = each d.0 v.0 v.1 in
      let same : d.1 ≡ p.0 = same_Some _ _ (sym d.2 ∙ p.2) in
      let whole : p.0 ≡ puts v.0.own = p.4.first ∙ ap (λ es. puts v.0.own ++ es) (p.4.all (tells d.0 p.1 p.3)) ∙ append-nil (puts v.0.own) in
      let x = in_filter_map put_of e v.0.own (subst (In e) (same ∙ whole) d.3) in
      in_contains e (puts g.since) (filter_map_in put_of e x.0 g.since (gathered_in n places h history there g d.0 v.0 x.0 v.1 x.1) x.2)

  put_stops : (k : ℕ) (v : PassView) → slice_get places k ≡ Some (Some v) → (short : Short) → StopsPuts setup v v.own short → PutsShort setup history short
  put_stops k v at Rows why =
      lacks_after setup h history g.since k v put_after (no_table h history g.since put_after none (puttings_open_none g.since put_steps)) (g.each k v at) (each k v at).4.number why (puttings_take_none g.since put_steps)
  put_stops k v at Epochs why = let told = (g.each k v at).settled in omega arith
  put_stops k v at Memory why = tt

  pub put_ends : (result : Result (Unit {0}) Short) → TellsShort shorts result → PutsEnd setup (flat_map (λ es. es) dues) h history result
  put_ends (Ok u) tells = (
    g.since,
    put_on,
    record {
      puts_them = record {
        once = put_once h g.since put_steps put_after.legal;
        members = (λ e. (put_was_due e, due_was_put tells e));
      };
      takes_none = puttings_take_none g.since put_steps;
      tables_none = puttings_open_none g.since put_steps;
    },
  )
  put_ends (Err short) tells =
      let k = tells.0 in
      let v = there k (let lt = slice_get_within shorts k (Some short) tells.1 in omega arith) in
      let p = each k v.0 v.1 in
      let is : p.1 ≡ Some short = same_Some _ _ (sym p.3 ∙ tells.1) in
      (g.since, put_on, puttings_take_none g.since put_steps, put_was_due, put_stops k v.0 v.1 short (subst (λ s. IfSome s (StopsPuts setup v.0 v.0.own)) is p.4.why))
