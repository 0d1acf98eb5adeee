-- A round of puts.
use Rattle.std.proofs.Common.{◌≡◌, ℕ, ◌<◌, List, [], ◌∷◌, length, map, refl, sym, ap, ◌∙◌, subst, Option, Some, None, slice_get, get_or, arith}
use Rattle.std.specs.Prelude.{IfSome, IsSomeAnd, option_map}
use Rattle.std.specs.List.{All}
use Rattle.std.proofs.lemmas.List.{length-map}
use Rattle.std.proofs.lemmas.Option.{same_Some, slice_get_within, slice_get-get_or}
use Rattle.crq_base.specs.declared.event.Event.{Event}
use Rattle.crq_base.specs.declared.entry.Entry.{Entry}
use Rattle.crq_base.specs.declared.answers.Short.{Short}
use Rattle.crq_set.specs.Views.{PassView, Setup}
use Rattle.crq_set.specs.Gathered.{AreThere, IsDealt, Deals}
use Rattle.crq_host.specs.declared.worker.Worker.{Worker}
use Rattle.crq_host.specs.Workers.{without_pass, HavePasses, AreNumbered, views_of, shorts_of, WorkerPut, MayPutAll, IsDue, AreKept}
use Rattle.crq_host.proofs.Places.{element, get-map, map_places}
use Rattle.crq_host.proofs.Puts.{may_put_due}
use Rattle.crq_host.proofs.PutLaws.{PlacePut, place_put}
use Rattle.crq_host.proofs.Rounds.{HadHas, AtPlace, all_there, place_at, is_mapped, same_length}

module _ {P : Type 0} where
  abbrev pub dues_of : List (Worker P) → List (List Event)
  dues_of workers = map (λ (w : Worker P). w.due.items) workers

  pub dues_same : (xs ys : List (Worker P)) → map (without_pass {P = P}) xs ≡ map (without_pass {P = P}) ys → dues_of xs ≡ dues_of ys
  dues_same xs ys e = sym (again xs) ∙ ap (map (λ (w : Worker P). w.due.items)) e ∙ again ys
    where
      again : (xs : List (Worker P)) → map (λ (w : Worker P). w.due.items) (map (without_pass {P = P}) xs) ≡ dues_of xs
      again [] = refl
      again (x ∷ xs) = ap (λ zs. x.due.items ∷ zs) (again xs)

  some_both : (Is : P → Type 0) (May : P → Type 0) (o : Option P) (p : P) → o ≡ Some p → IfSome o Is → May p → IsSomeAnd o (λ q. Is q × May q)
  some_both Is May None p e h m = absurd (cc)
  some_both Is May (Some q) p e h m = (h, (let same : p ≡ q = cc in subst May same m))

  -- after the passes were dealt and lifted each worker has one that may put what is due to it
  pub all_may : (view : P → PassView) (Is : P → Type 0) (setup : Setup) (h : List Entry) (span : ℕ) (dealt : List (Option PassView)) (before workers : List (Worker P)) → Deals setup.workers h span dealt → views_of view workers ≡ dealt → HavePasses Is workers
      → map (without_pass {P = P}) workers ≡ map (without_pass {P = P}) before → ((k : ℕ) (w : Worker P) → slice_get before k ≡ Some w → IsDue setup.workers span h k w.due.items)
      → All (λ (w : Worker P). IsSomeAnd w.pass (λ p. Is p × MayPutAll setup (view p) w.due.items)) workers
  all_may view Is setup h span dealt before workers d lifted have start due k w lt =
      let a : Worker P = get_or workers k w in
      let at : slice_get workers k ≡ Some a = slice_get-get_or workers k w lt in
      let many = same_length workers before start in
      let b = element before k (omega arith) in
      let same = map_places (without_pass {P = P}) workers before k a b.0 start at b.1 in
      let wide = length-map workers (λ (w : Worker P). option_map view w.pass) in
      let in_range : k < setup.workers = (let l = ap length lifted in let c = d.count in omega arith) in
      let v = d.each k in_range in
      let is : option_map view a.pass ≡ Some v.0 = same_Some _ _ (sym (get-map (λ (w : Worker P). option_map view w.pass) workers k a at) ∙ ap (λ ps. slice_get ps k) lifted ∙ v.1) in
      let p = is_mapped view a.pass v.0 is in
      let viewed : view p.0 ≡ v.0 = same_Some _ _ (ap (λ o. option_map view o) (sym p.1) ∙ is) in
      let mine : IsDue setup.workers span h k a.due.items = subst (λ es. IsDue setup.workers span h k es) (sym (ap (λ (w : Worker P). w.due.items) same)) (due k b.0 b.1) in
      some_both Is (λ q. MayPutAll setup (view q) a.due.items) a.pass p.0 p.1 (have k a at) (may_put_due setup span h k (view p.0) a.due.items (subst (IsDealt h span k) (sym viewed) v.2) mine)

pub put_passes : {P : Type 0} (view : P → PassView) (setup : Setup) (a b : Worker P) → WorkerPut view setup a b → HadHas a b
put_passes view setup a b t = record { before = t.before; after = t.after; had = t.had; has = t.has }

-- the workers that put what was due to them
module _ {P : Type 0} (view : P → PassView) (setup : Setup) (n : ℕ) (h : List Entry) (span : ℕ) (dealt : List (Option PassView)) (first later : List (Worker P)) (d : Deals n h span dealt) (lifted : views_of view first ≡ dealt)
    (many : length first ≡ n) (still : length later ≡ length first)
    (each : (i : ℕ) (w : Worker P) → i < length first → WorkerPut view setup (get_or first i w) (get_or later i w)) where
  abbrev Stood : ℕ → PassView → Type 0
  Stood k v = AtPlace view n h span dealt first later d lifted many still (WorkerPut view setup) (put_passes view setup) each k v

  stood : (k : ℕ) (v : PassView) → slice_get (views_of view later) k ≡ Some (Some v) → Stood k v
  stood = place_at view n h span dealt first later d lifted many still (WorkerPut view setup) (put_passes view setup) each

  pub putters_there : AreThere n (views_of view later)
  putters_there = all_there view n h span dealt first later d lifted many still (WorkerPut view setup) (put_passes view setup) each

  put_by : (k : ℕ) (v : PassView) (s : Stood k v) → PlacePut setup h k v s.a.due.items s.b.short
  unfolding put_passes
  put_by k v s = subst (λ x. PlacePut setup h k x s.a.due.items s.b.short) (sym s.is) (place_put setup h span k (view s.did.before) (view s.did.after) s.a.due.items s.b.short s.dealt_to s.did.put)

  pub putters_each : (before : List (Worker P)) → map (without_pass {P = P}) first ≡ map (without_pass {P = P}) before → (k : ℕ) (v : PassView) → slice_get (views_of view later) k ≡ Some (Some v)
      → (due : List Event) × (short : Option Short) × (slice_get (dues_of before) k ≡ Some due) × (slice_get (shorts_of later) k ≡ Some short) × PlacePut setup h k v due short
  putters_each before start k v at =
      let s = stood k v at in
      (s.a.due.items, s.b.short, sym (ap (λ ds. slice_get ds k) (dues_same first before start)) ∙ get-map (λ (w : Worker P). w.due.items) first k s.a s.at_first, get-map (λ (w : Worker P). w.short) later k s.b s.at_later, put_by k v s)

  pub putters_numbered : AreNumbered (views_of view later)
  putters_numbered k v at = (putters_each first refl k v at).4.number

  -- the workers keep the rest
  pub kept_by : (before after : List (Worker P)) → map (without_pass {P = P}) first ≡ map (without_pass {P = P}) before → map (without_pass {P = P}) after ≡ map (without_pass {P = P}) later → AreKept before after
  kept_by before after start end =
      let many_before = same_length first before start in
      let many_after = same_length after later end in
      record {
        count = omega arith;
        each = (λ k a b at_a at_b.
            (let v = putters_there k (let lt = slice_get_within before k a at_a in omega arith) in
            let s = stood k v.0 v.1 in
            let e = map_places (without_pass {P = P}) first before k s.a a start s.at_first at_a in
            let f = map_places (without_pass {P = P}) after later k b s.b end at_b s.at_later in
            let kept = s.did.rest in (
              ap (λ (w : Worker P). w.taken) f ∙ s.did.taken ∙ ap (λ (w : Worker P). w.taken) e,
              record {
                changed = ap (λ (w : Worker P). w.changed) f ∙ kept.changed ∙ ap (λ (w : Worker P). w.changed) e;
                steps = ap (λ (w : Worker P). w.steps) f ∙ kept.steps ∙ ap (λ (w : Worker P). w.steps) e;
                sends = ap (λ (w : Worker P). w.sends) f ∙ kept.sends ∙ ap (λ (w : Worker P). w.sends) e;
                due = ap (λ (w : Worker P). w.due) f ∙ kept.due ∙ ap (λ (w : Worker P). w.due) e;
              },
            )));
      }
