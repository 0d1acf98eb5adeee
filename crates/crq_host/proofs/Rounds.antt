-- A round: passes are dealt, lifted to the workers, used by them, and gathered again.
use Rattle.std.proofs.Common.{◌≡◌, ℕ, ◌<◌, List, [], ◌∷◌, ◌++◌, length, map, refl, sym, ap, ◌∙◌, subst, eqb, eq-eqb, Option, Some, None, slice_get, get_or, arith}
use Rattle.std.specs.Prelude.{option_map, IfSome, IsSomeAnd}
use Rattle.std.specs.List.{All}
use Rattle.std.proofs.lemmas.List.{length-map, append_cancel_left}
use Rattle.std.proofs.lemmas.Option.{same_Some, slice_get_within, slice_get-get_or, get_or_from_slice_get}
use Rattle.crq_base.specs.declared.entry.Entry.{Entry}
use Rattle.crq_base.specs.declared.answers.Short.{Short}
use Rattle.crq_base.specs.Entries.{caller_of}
use Rattle.crq_base.specs.Histories.{taken_of, outs, own}
use Rattle.crq_base.proofs.Elements.{in_contains, contains_in}
use Rattle.crq_set.specs.Views.{PassView, Setup}
use Rattle.crq_set.specs.Gathered.{AreThere, Gathers, IsDealt, Deals}
use Rattle.crq_host.specs.declared.worker.Worker.{Worker}
use Rattle.crq_host.specs.Workers.{without_pass, HavePasses, AreNumbered, views_of, shorts_of, WorkerTook, AreTakenBy}
use Rattle.crq_host.proofs.Places.{element, get-map, map_places}
use Rattle.crq_host.proofs.Elements.{in_filter, filter_in, in_filter_map, filter_map_in}
use Rattle.crq_host.proofs.Phasing.{PlaceTook, place_took, dealt_at}

pub is_mapped : {X Y : Type 0} (f : X → Y) (o : Option X) (y : Y) → option_map f o ≡ Some y → (x : X) × (o ≡ Some x)
is_mapped f None y e = absurd (cc)
is_mapped f (Some x) y e = (x, refl)

module _ {P : Type 0} where
  -- a worker's pass before and after its calls
  pub record HadHas (a b : Worker P) : Type 0 where
    pub before : P
    pub after : P
    pub had : a.pass ≡ Some before
    pub has : b.pass ≡ Some after

  pub have_passes : (Is : P → Type 0) (workers : List (Worker P)) → All (λ (w : Worker P). IfSome w.pass Is) workers → HavePasses Is workers
  have_passes Is workers all k w at = subst (λ (x : Worker P). IfSome x.pass Is) (get_or_from_slice_get workers k w w at) (all k w (slice_get_within workers k w at))

  some_and : (Is : P → Type 0) (o : Option P) (p : P) → o ≡ Some p → IfSome o Is → IsSomeAnd o Is
  some_and Is None p e h = absurd (cc)
  some_and Is (Some q) p e h = h

  -- after the passes were dealt and lifted each worker has one
  pub all_have : (view : P → PassView) (Is : P → Type 0) (n : ℕ) (h : List Entry) (span : ℕ) (dealt : List (Option PassView)) (workers : List (Worker P)) → Deals n h span dealt → views_of view workers ≡ dealt → HavePasses Is workers
      → All (λ (w : Worker P). IsSomeAnd w.pass Is) workers
  all_have view Is n h span dealt workers d lifted have k w lt =
      let at = slice_get-get_or workers k w lt in
      let wide = length-map workers (λ (w : Worker P). option_map view w.pass) in
      let v = d.each k (let a = ap length lifted in let b = d.count in omega arith) in
      let is : option_map view (get_or workers k w).pass ≡ Some v.0 = same_Some _ _ (sym (get-map (λ (w : Worker P). option_map view w.pass) workers k (get_or workers k w) at) ∙ ap (λ ps. slice_get ps k) lifted ∙ v.1) in
      let p = is_mapped view (get_or workers k w).pass v.0 is in
      some_and Is (get_or workers k w).pass p.0 p.1 (have k (get_or workers k w) at)

  pub shorts_same : (xs ys : List (Worker P)) → map (without_pass {P = P}) xs ≡ map (without_pass {P = P}) ys → shorts_of xs ≡ shorts_of ys
  shorts_same xs ys e = sym (again xs) ∙ ap (map (λ (w : Worker P). w.short)) e ∙ again ys
    where
      again : (xs : List (Worker P)) → map (λ (w : Worker P). w.short) (map (without_pass {P = P}) xs) ≡ shorts_of xs
      again [] = refl
      again (x ∷ xs) = ap (λ zs. x.short ∷ zs) (again xs)

  pub same_length : (xs ys : List (Worker P)) → map (without_pass {P = P}) xs ≡ map (without_pass {P = P}) ys → length xs ≡ length ys
  same_length xs ys e = sym (length-map xs (without_pass {P = P})) ∙ ap length e ∙ length-map ys (without_pass {P = P})

-- what each worker did, where it stood
module _ {P : Type 0} (view : P → PassView) (n : ℕ) (h : List Entry) (span : ℕ) (dealt : List (Option PassView)) (first later : List (Worker P)) (d : Deals n h span dealt) (lifted : views_of view first ≡ dealt)
    (many : length first ≡ n) (still : length later ≡ length first) (Did : Worker P → Worker P → Type 0) (passes : (a b : Worker P) → Did a b → HadHas a b)
    (each : (i : ℕ) (w : Worker P) → i < length first → Did (get_or first i w) (get_or later i w)) where
  pub record AtPlace (k : ℕ) (v : PassView) : Type 0 where
    pub a : Worker P
    pub b : Worker P
    pub at_first : slice_get first k ≡ Some a
    pub at_later : slice_get later k ≡ Some b
    pub did : Did a b
    pub dealt_to : IsDealt h span k (view (passes a b did).before)
    pub is : v ≡ view (passes a b did).after

  pub worker_at : (k : ℕ) → k < n → (v : PassView) × (slice_get (views_of view later) k ≡ Some (Some v)) × AtPlace k v
  worker_at k lt =
      let a = element first k (omega arith) in
      let b = element later k (omega arith) in
      let did : Did a.0 b.0 = subst (λ x. Did x b.0) (get_or_from_slice_get first k a.0 a.0 a.1) (subst (λ y. Did (get_or first k a.0) y) (get_or_from_slice_get later k b.0 a.0 b.1) (each k a.0 (omega arith))) in
      let p = passes a.0 b.0 did in
      let was : slice_get dealt k ≡ Some (Some (view p.before)) = sym (ap (λ ps. slice_get ps k) lifted) ∙ get-map (λ (w : Worker P). option_map view w.pass) first k a.0 a.1 ∙ ap (λ o. Some (option_map view o)) p.had in
      let now : slice_get (views_of view later) k ≡ Some (Some (view p.after)) = get-map (λ (w : Worker P). option_map view w.pass) later k b.0 b.1 ∙ ap (λ o. Some (option_map view o)) p.has in
      (view p.after, now, record { a = a.0; b = b.0; at_first = a.1; at_later = b.1; did = did; dealt_to = dealt_at n h span dealt k (view p.before) d lt was; is = refl })

  pub all_there : AreThere n (views_of view later)
  all_there k lt = let r = worker_at k lt in (r.0, r.1)

  pub place_at : (k : ℕ) (v : PassView) → slice_get (views_of view later) k ≡ Some (Some v) → AtPlace k v
  place_at k v at =
      let wide = length-map later (λ (w : Worker P). option_map view w.pass) in
      let r = worker_at k (let lt = slice_get_within (views_of view later) k (Some v) at in omega arith) in
      let same : v ≡ r.0 = same_Some _ _ (same_Some _ _ (sym at ∙ r.1)) in
      record { a = r.2.a; b = r.2.b; at_first = r.2.at_first; at_later = r.2.at_later; did = r.2.did; dealt_to = r.2.dealt_to; is = same ∙ r.2.is }

pub took_passes : {P : Type 0} (view : P → PassView) (setup : Setup) (limit : ℕ) (a b : Worker P) → WorkerTook view setup limit a b → HadHas a b
took_passes view setup limit a b t = record { before = t.before; after = t.after; had = t.had; has = t.has }

-- the workers that took what is below a limit
module _ {P : Type 0} (view : P → PassView) (setup : Setup) (limit n : ℕ) (h : List Entry) (span : ℕ) (dealt : List (Option PassView)) (first later : List (Worker P)) (d : Deals n h span dealt) (lifted : views_of view first ≡ dealt)
    (many : length first ≡ n) (still : length later ≡ length first)
    (each : (i : ℕ) (w : Worker P) → i < length first → WorkerTook view setup limit (get_or first i w) (get_or later i w)) where
  abbrev Stood : ℕ → PassView → Type 0
  Stood k v = AtPlace view n h span dealt first later d lifted many still (WorkerTook view setup limit) (took_passes view setup limit) each k v

  stood : (k : ℕ) (v : PassView) → slice_get (views_of view later) k ≡ Some (Some v) → Stood k v
  stood = place_at view n h span dealt first later d lifted many still (WorkerTook view setup limit) (took_passes view setup limit) each

  pub takers_there : AreThere n (views_of view later)
  takers_there = all_there view n h span dealt first later d lifted many still (WorkerTook view setup limit) (took_passes view setup limit) each

  -- what a worker's pass took, and what the pass is now
  took_of : (k : ℕ) (v : PassView) (s : Stood k v) → PlaceTook setup limit h k v s.b.short × (outs v.own ≡ s.did.events)
  unfolding took_passes
  took_of k v s = subst (λ x. PlaceTook setup limit h k x s.b.short × (outs x.own ≡ s.did.events)) (sym s.is) (place_took setup limit h span k (view s.did.before) (view s.did.after) s.did.events s.b.short s.dealt_to s.did.took)

  pub takers_each : (k : ℕ) (v : PassView) → slice_get (views_of view later) k ≡ Some (Some v) → (short : Option Short) × (slice_get (shorts_of later) k ≡ Some short) × PlaceTook setup limit h k v short
  takers_each k v at = let s = stood k v at in (s.b.short, get-map (λ (w : Worker P). w.short) later k s.b s.at_later, (took_of k v s).0)

  pub takers_numbered : AreNumbered (views_of view later)
  takers_numbered k v at = (takers_each k v at).2.number

  -- whose takes the events are
  pub taken_by : (before after : List (Worker P)) (history : List Entry) (g : Gathers n (views_of view later) history) → map (without_pass {P = P}) first ≡ map (without_pass {P = P}) before → map (without_pass {P = P}) after ≡ map (without_pass {P = P}) later
      → AreTakenBy before after g.since
  taken_by before after history g start end =
      let many_before = same_length first before start in
      let many_after = same_length after later end in
      record {
        count = omega arith;
        each = (λ k a b at_a at_b.
            (let v = takers_there k (let lt = slice_get_within before k a at_a in omega arith) in
            let s = stood k v.0 v.1 in
            let e = map_places (without_pass {P = P}) first before k s.a a start s.at_first at_a in
            let f = map_places (without_pass {P = P}) after later k b s.b end at_b s.at_later in
            let events : s.did.events ≡ outs (own k g.since) = sym (took_of k v.0 s).1 ∙ ap outs (sym (g.each k v.0 v.1).own) in
            let kept = s.did.rest in (
              ap (λ (w : Worker P). w.taken.items) f ∙ s.did.taken ∙ ap (λ (w : Worker P). w.taken.items ++ s.did.events) e ∙ ap (λ es. a.taken.items ++ es) events,
              record {
                changed = ap (λ (w : Worker P). w.changed) f ∙ kept.changed ∙ ap (λ (w : Worker P). w.changed) e;
                steps = ap (λ (w : Worker P). w.steps) f ∙ kept.steps ∙ ap (λ (w : Worker P). w.steps) e;
                sends = ap (λ (w : Worker P). w.sends) f ∙ kept.sends ∙ ap (λ (w : Worker P). w.sends) e;
                due = ap (λ (w : Worker P). w.due) f ∙ kept.due ∙ ap (λ (w : Worker P). w.due) e;
              },
            )));
        all = (λ e. (
          (λ at. (let x = in_filter_map taken_of e g.since (contains_in e (outs g.since) at) in
              let k : ℕ = caller_of x.0 in
              let lt : k < n = g.inside x.0 x.1 in
              (k, omega arith, in_contains e (outs (own k g.since)) (filter_map_in taken_of e x.0 (own k g.since) (in_filter (λ y. eqb (caller_of y) k) x.0 g.since (eq-eqb k k refl) x.1) x.2)))),
          (λ at. (let x = in_filter_map taken_of e (own at.0 g.since) (contains_in e (outs (own at.0 g.since)) at.2) in
              in_contains e (outs g.since) (filter_map_in taken_of e x.0 g.since (filter_in (λ y. eqb (caller_of y) at.0) x.0 g.since x.1) x.2))),
        ));
      }

-- what a history goes on by is determined
pub one_since : (history h xs ys : List Entry) → history ≡ h ++ xs → history ≡ h ++ ys → xs ≡ ys
one_since history h xs ys a b = append_cancel_left h xs ys (sym a ∙ b)
