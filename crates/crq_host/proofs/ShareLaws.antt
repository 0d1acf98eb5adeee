-- Each group is in one worker's share, so all shares together make of each object what its own events do.
use Rattle.std.proofs.Common.{◌≡◌, ◌≢◌, ◌⊎◌, ℕ, zero, suc, ◌-◌, ◌<◌, ◌≤◌, List, [], ◌∷◌, ◌++◌, length, map, get_or, cond, Bool, true, false, nat_eq, refl, sym, ap, ◌∙◌, subst, arith, append-nil, inl, inr, Contains, All, None}
use Rattle.std.specs.Prelude.{filter, flat_map}
use Rattle.std.specs.List.{AllByRecursion}
use Rattle.std.proofs.lemmas.Bool.{cases_eq}
use Rattle.std.proofs.lemmas.Bool.Decides.{nat_tests}
use Rattle.std.proofs.lemmas.List.{nil_from_length}
use Rattle.std.proofs.lemmas.List.Elements.{All-from_recursion, filter-append, All-weaker, All-map, All-contains, Contains-get_or, Contains-append_left, Contains-append_right, Contains-append_cases}
use Rattle.crq_base.specs.declared.event.Event.{Event}
use Rattle.crq_base.specs.Lists.{IsOnce}
use Rattle.crq_sim.specs.declared.reaction.ObjectState.{ObjectState}
use Rattle.crq_sim.specs.declared.traces.Step.{Step}
use Rattle.crq_sim.specs.Models.{ModelData, IsModel, IsObject}
use Rattle.crq_sim.specs.Reactions.{state_after}
use Rattle.crq_sim.specs.Runs.{state_of, steps_of, step_of}
use Rattle.crq_sim.specs.WindowRuns.{object_after, object_steps, object_sends, events_of, IsSentAt}
use Rattle.crq_sim.proofs.EventListLemmas.{All-weaker as weaker}
use Rattle.crq_sim.proofs.Members.{none_in, into_cons, from_cons}
use Rattle.crq_windows.specs.declared.group.Group.{Group}
use Rattle.crq_windows.specs.Groups.{IsGroup, AreRising, group_events}
use Rattle.crq_host.specs.declared.worker.Changed.{Changed}
use Rattle.crq_host.specs.declared.worker.Worker.{Worker}
use Rattle.crq_host.proofs.MergeLaws.{some_worker}
use Rattle.crq_host.proofs.OnceLaws.{sends_later, sends_once, own_apart, once_by_source}
use Rattle.crq_host.specs.Shares.{Begun, CanRunAll, IsRun, IsReady, AreChanges, AreSet, AreEach, AreDue, KeepsOthers, KeepsButDue, KeepsPass, RanGroups, RanShare, WindowRan, WindowDone, owned_by, all_changed, all_steps, all_sends, changed_by, group_steps, group_sends, every}

told : (b : Bool) → (b ≡ true) ⊎ (b ≡ false)
told true = inl refl
told false = inr refl

-- every n-th element of a list whose elements all are so
every_in : {A : Type 0} (n k : ℕ) (xs : List A) (x : A) → Contains (every n k xs) x → Contains xs x
every_in n k [] x h = h
every_in n zero (y ∷ xs) x h = elim (from_cons y x (every n (n - 1) xs) h) [ inl same ↦ into_cons y x xs (inl same) | inr at ↦ into_cons y x xs (inr (every_in n (n - 1) xs x at)) ]
every_in n (suc k) (y ∷ xs) x h = into_cons y x xs (inr (every_in n k xs x h))

every_all : {A : Type 0} (Q : A → Type 0) (n k : ℕ) (xs : List A) → AllByRecursion Q xs → AllByRecursion Q (every n k xs)
every_all Q n k [] all = tt
every_all Q n zero (x ∷ xs) all = (all.0, every_all Q n (n - 1) xs all.1)
every_all Q n (suc k) (x ∷ xs) all = every_all Q n k xs all.1

-- each element is in some share
in_share : {A : Type 0} (n : ℕ) (xs : List A) (x : A) → 0 < n → Contains xs x → (i : ℕ) × (i < n) × Contains (every n i xs) x
in_share n [] x some h = absurd (none_in x h)
in_share n (y ∷ xs) x some h =
    elim (from_cons y x xs h) [
      | inl same ↦ (0, some, into_cons y x (every n (n - 1) xs) (inl same))
      | inr at ↦ (let s = in_share n xs x some at in
          elim (cases_eq s.0 (n - 1)) [
            | inl last ↦ (0, some, into_cons y x (every n (n - 1) xs) (inr (subst (λ k. Contains (every n k xs) x) last s.2)))
            | inr apart ↦ (suc s.0, (let lt = s.1 in omega arith), s.2)
          ])
    ]

module _ {A : Type 0} (q : A → Bool) where
  -- what a filter leaves of the rest
  tail_none : (x : A) (xs : List A) → filter q (x ∷ xs) ≡ [] → (q x ≡ false) × (filter q xs ≡ [])
  tail_none x xs h =
      elim (told (q x)) [
        | inl yes' ↦ (let e : x ∷ filter q xs ≡ [] = subst (λ b. cond b (x ∷ filter q xs) (filter q xs) ≡ []) yes' h in let n = ap length e in absurd (omega arith))
        | inr no' ↦ (no', subst (λ b. cond b (x ∷ filter q xs) (filter q xs) ≡ []) no' h)
      ]

  none_kept : (n k : ℕ) (xs : List A) → filter q xs ≡ [] → filter q (every n k xs) ≡ []
  none_kept n k [] h = refl
  none_kept n zero (x ∷ xs) h = (let t = tail_none x xs h in rw t.0 (none_kept n (n - 1) xs t.1))
  none_kept n (suc k) (x ∷ xs) h = none_kept n k xs (tail_none x xs h).1

  -- one share has all that the filter leaves, and the others have none of it
  record OneShare (n : ℕ) (xs : List A) : Type 0 where
    share : ℕ
    below : share < n
    whole : filter q (every n share xs) ≡ filter q xs
    others : (j : ℕ) → j < n → j ≢ share → filter q (every n j xs) ≡ []

  first_others : (n : ℕ) (x : A) (xs : List A) → filter q xs ≡ [] → (j : ℕ) → j ≢ 0 → filter q (every n j (x ∷ xs)) ≡ []
  first_others n x xs none zero ne = absurd (ne refl)
  first_others n x xs none (suc j) ne = none_kept n j xs none

  last_others : (n : ℕ) (x : A) (xs : List A) (s : OneShare n xs) → s.share ≡ n - 1 → (j : ℕ) → j < n → j ≢ 0 → filter q (every n j (x ∷ xs)) ≡ []
  last_others n x xs s last zero lt ne = absurd (ne refl)
  last_others n x xs s last (suc j) lt ne = s.others j (omega arith) (omega arith)

  next_others : (n : ℕ) (x : A) (xs : List A) (s : OneShare n xs) → q x ≡ false → s.share ≢ n - 1 → (j : ℕ) → j < n → j ≢ suc s.share → filter q (every n j (x ∷ xs)) ≡ []
  next_others n x xs s out apart zero lt ne = rw out (s.others (n - 1) (omega arith) (λ e. apart (sym e)))
  next_others n x xs s out apart (suc j) lt ne = s.others j (omega arith) (λ e. ne (ap suc e))

  one_later : (n : ℕ) (x : A) (xs : List A) → 0 < n → q x ≡ false → OneShare n xs → OneShare n (x ∷ xs)
  one_later n x xs some out s =
      elim (cases_eq s.share (n - 1)) [
        | inl last ↦ record {
          share = 0;
          below = some;
          whole = rw out (ap (λ k. filter q (every n k xs)) (sym last) ∙ s.whole);
          others = last_others n x xs s last;
        }
        | inr apart ↦ record {
          share = suc s.share;
          below = (let lt = s.below in omega arith);
          whole = rw out s.whole;
          others = next_others n x xs s out apart;
        }
      ]

  one_share : (n : ℕ) (xs : List A) → 0 < n → length (filter q xs) ≤ 1 → OneShare n xs
  one_share n [] some few = record { share = 0; below = some; whole = refl; others = (λ j lt ne. refl) }
  one_share n (x ∷ xs) some few =
      elim (told (q x)) [
        | inl yes' ↦ (let f : length (x ∷ filter q xs) ≤ 1 = subst (λ b. length (cond b (x ∷ filter q xs) (filter q xs)) ≤ 1) yes' few in
            let none : filter q xs ≡ [] = nil_from_length (filter q xs) (omega arith) in
            record {
              share = 0;
              below = some;
              whole = rw yes' (ap (λ ys. x ∷ ys) (none_kept n (n - 1) xs none ∙ sym none));
              others = (λ j lt ne. first_others n x xs none j ne);
            })
        | inr no' ↦ (let f : length (filter q xs) ≤ 1 = subst (λ b. length (cond b (x ∷ filter q xs) (filter q xs)) ≤ 1) no' few in one_later n x xs some no' (one_share n xs some f))
      ]

-- lists of lists
filter_flat : {A B : Type 0} (p : B → Bool) (f : A → List B) (xs : List A) → filter p (flat_map f xs) ≡ flat_map (λ x. filter p (f x)) xs
filter_flat p f [] = refl
filter_flat p f (x ∷ xs) = filter-append p (f x) (flat_map f xs) ∙ ap (λ ys. filter p (f x) ++ ys) (filter_flat p f xs)

flat_none : {A B : Type 0} (f : A → List B) (xs : List A) → ((j : ℕ) (d : A) → j < length xs → f (get_or xs j d) ≡ []) → flat_map f xs ≡ []
flat_none f [] h = refl
flat_none f (x ∷ xs) h = ap (λ ys. ys ++ flat_map f xs) (h 0 x (omega arith)) ∙ flat_none f xs (λ j d lt. h (suc j) d (omega arith))

flat_one : {A B : Type 0} (f : A → List B) (xs : List A) (i : ℕ) (d : A) → i < length xs → ((j : ℕ) (e : A) → j < length xs → j ≢ i → f (get_or xs j e) ≡ []) → flat_map f xs ≡ f (get_or xs i d)
flat_one f [] i d lt h = absurd (omega arith)
flat_one f (x ∷ xs) zero d lt h = ap (λ ys. f x ++ ys) (flat_none f xs (λ j e le. h (suc j) e (omega arith) (omega arith))) ∙ append-nil (f x)
flat_one f (x ∷ xs) (suc i) d lt h =
    ap (λ ys. ys ++ flat_map f xs) (h 0 x (omega arith) (omega arith)) ∙ flat_one f xs i d (omega arith) (λ j e le ne. h (suc j) e (omega arith) (omega arith))

in_flat : {A B : Type 0} (f : A → List B) (xs : List A) (y : B) → Contains (flat_map f xs) y → (x : A) × Contains xs x × Contains (f x) y
in_flat f [] y h = absurd (none_in y h)
in_flat f (x ∷ xs) y h =
    elim (Contains-append_cases (f x) (flat_map f xs) y h) [
      | inl here ↦ (x, into_cons x x xs (inl refl), here)
      | inr later ↦ (let k = in_flat f xs y later in (k.0, into_cons x k.0 xs (inr k.1), k.2))
    ]

into_flat : {A B : Type 0} (f : A → List B) (xs : List A) (x : A) (y : B) → Contains xs x → Contains (f x) y → Contains (flat_map f xs) y
into_flat f [] x y at h = absurd (none_in x at)
into_flat f (z ∷ xs) x y at h =
    elim (from_cons z x xs at) [
      | inl same ↦ Contains-append_left (f z) (flat_map f xs) y (subst (λ w. Contains (f w) y) (sym same) h)
      | inr later ↦ Contains-append_right (f z) (flat_map f xs) y (into_flat f xs x y later h)
    ]

in_map : {A B : Type 0} (f : A → B) (xs : List A) (y : B) → Contains (map f xs) y → (x : A) × Contains xs x × (f x ≡ y)
in_map f [] y h = absurd (none_in y h)
in_map f (x ∷ xs) y h =
    elim (from_cons (f x) y (map f xs) h) [
      | inl same ↦ (x, into_cons x x xs (inl refl), same)
      | inr later ↦ (let k = in_map f xs y later in (k.0, into_cons x k.0 xs (inr k.1), k.2))
    ]

into_map : {A B : Type 0} (f : A → B) (xs : List A) (x : A) → Contains xs x → Contains (map f xs) (f x)
into_map f [] x h = absurd (none_in x h)
into_map f (z ∷ xs) x h = elim (from_cons z x xs h) [ inl same ↦ into_cons (f z) (f x) (map f xs) (inl (ap f same)) | inr later ↦ into_cons (f z) (f x) (map f xs) (inr (into_map f xs x later)) ]

-- the groups of one object: none, or one

none_above : (o : ℕ) (gs : List Group) → AllByRecursion (λ (h : Group). o < h.object) gs → filter (λ (g : Group). nat_eq g.object o) gs ≡ []
none_above o [] all = refl
none_above o (g ∷ gs) all = (let t : nat_eq g.object o ≡ false = (let lt = all.0 in grind (arith, nat_tests)) in rw t (none_above o gs all.1))

abbrev pub HasGroup : ℕ → List Group → Type 0
HasGroup o gs = (g : Group) × Contains gs g × (g.object ≡ o) × (filter (λ (h : Group). nat_eq h.object o) gs ≡ g ∷ [])

abbrev pub HasNone : ℕ → List Group → Type 0
HasNone o gs = ((g : Group) → Contains gs g → g.object ≡ o → ⊥) × (filter (λ (h : Group). nat_eq h.object o) gs ≡ [])

pub found : (o : ℕ) (gs : List Group) → AreRising gs → HasGroup o gs ⊎ HasNone o gs
found o [] rising = inr ((λ g at is. none_in g at), refl)
found o (g ∷ gs) rising =
    elim (cases_eq g.object o) [
      | inl same ↦ (let t : nat_eq g.object o ≡ true = grind (arith, nat_tests) in
          inl (g, into_cons g g gs (inl refl), same, rw t (ap (λ hs. g ∷ hs) (none_above o gs (subst (λ k. AllByRecursion (λ (h : Group). k < h.object) gs) same rising.0)))))
      | inr apart ↦ (let t : nat_eq g.object o ≡ false = grind (arith, nat_tests) in
          elim (found o gs rising.1) [
            | inl r ↦ inl (r.0, into_cons g r.0 gs (inr r.1), r.2, rw t r.3)
            | inr r ↦ inr ((λ h at is. elim (from_cons g h gs at) [ inl here ↦ apart (ap (λ (x : Group). x.object) here ∙ is) | inr later ↦ r.0 h later is ]), rw t r.1)
          ])
    ]

none_of : (o : ℕ) (es : List Event) → ((e : Event) → Contains es e → e.dst ≡ o → ⊥) → events_of o es ≡ []
none_of o [] h = refl
none_of o (e ∷ es) h =
    elim (cases_eq e.dst o) [
      | inl same ↦ absurd (h e (into_cons e e es (inl refl)) same)
      | inr apart ↦ (let t : nat_eq e.dst o ≡ false = grind (arith, nat_tests) in rw t (none_of o es (λ f at is. h f (into_cons e f es (inr at)) is)))
    ]

few_found : (o : ℕ) (gs : List Group) → AreRising gs → length (filter (λ (h : Group). nat_eq h.object o) gs) ≤ 1
few_found o gs rising = few (found o gs rising)
  where
    few : HasGroup o gs ⊎ HasNone o gs → length (filter (λ (h : Group). nat_eq h.object o) gs) ≤ 1
    few (inl r) = (let n = ap length r.3 in omega arith)
    few (inr r) = (let n = ap length r.1 in omega arith)

-- a list that is made group by group, of which a test keeps what the groups of one object made
picked : {B : Type 0} (f : Group → List B) (b : Bool) (g : Group) (gs : List Group) → cond b (f g) [] ++ flat_map f gs ≡ flat_map f (cond b (g ∷ gs) gs)
picked f true g gs = refl
picked f false g gs = refl

by_groups : {B : Type 0} (p : B → Bool) (o : ℕ) (f : Group → List B) (gs : List Group) → AllByRecursion (λ (g : Group). filter p (f g) ≡ cond (nat_eq g.object o) (f g) []) gs
    → filter p (flat_map f gs) ≡ flat_map f (filter (λ (h : Group). nat_eq h.object o) gs)
by_groups p o f [] all = refl
by_groups p o f (g ∷ gs) all =
    filter-append p (f g) (flat_map f gs) ∙ ap (λ ys. ys ++ filter p (flat_map f gs)) all.0 ∙ ap (λ ys. cond (nat_eq g.object o) (f g) [] ++ ys) (by_groups p o f gs all.1)
    ∙ picked f (nat_eq g.object o) g (filter (λ (h : Group). nat_eq h.object o) gs)

by_workers : {A B : Type 0} (F : A → List B) (p : B → Bool) (o : ℕ) (f : Group → List B) (gs : List Group) (ws : List A) → 0 < length ws
    → ((i : ℕ) (d : A) → i < length ws → F (get_or ws i d) ≡ flat_map f (every (length ws) i gs)) → AllByRecursion (λ (g : Group). filter p (f g) ≡ cond (nat_eq g.object o) (f g) []) gs
    → length (filter (λ (h : Group). nat_eq h.object o) gs) ≤ 1 → filter p (flat_map F ws) ≡ flat_map f (filter (λ (h : Group). nat_eq h.object o) gs)
by_workers F p o f gs [] some each all few = absurd (omega arith)
by_workers {A} F p o f gs (w ∷ ws) some each all few =
    let q : Group → Bool = λ (h : Group). nat_eq h.object o in
    let n : ℕ = length (w ∷ ws) in
    let s = one_share q n gs some few in
    let part : (i : ℕ) (d : A) → i < n → filter p (F (get_or (w ∷ ws) i d)) ≡ flat_map f (filter q (every n i gs)) =
    λ i d lt. ap (filter p) (each i d lt) ∙ by_groups p o f (every n i gs) (every_all (λ (g : Group). filter p (f g) ≡ cond (nat_eq g.object o) (f g) []) n i gs all) in
    filter_flat p F (w ∷ ws) ∙ flat_one (λ x. filter p (F x)) (w ∷ ws) s.share w s.below (λ j e lt ne. part j e lt ∙ ap (flat_map f) (s.others j lt ne))
    ∙ part s.share w s.below ∙ ap (flat_map f) s.whole

-- the steps of an object are its own
mine_all : (o : ℕ) (es : List Event) → AllByRecursion (λ (e : Event). e.dst ≡ o) (events_of o es)
mine_all o [] = tt
mine_all o (e ∷ es) =
    elim (cases_eq e.dst o) [
      | inl same ↦ (let t : nat_eq e.dst o ≡ true = grind (arith, nat_tests) in rw t (same, mine_all o es))
      | inr apart ↦ (let t : nat_eq e.dst o ≡ false = grind (arith, nat_tests) in rw t (mine_all o es))
    ]

steps_all : (m : ModelData) (a o : ℕ) (s : ObjectState) (es : List Event) → AllByRecursion (λ (e : Event). e.dst ≡ a) es → nat_eq a o ≡ true → steps_of o (object_steps m a s es) ≡ object_steps m a s es
unfolding object_steps
steps_all m a o s [] all t = refl
steps_all m a o s (e ∷ es) all t =
    let x : nat_eq e.dst o ≡ true = ap (λ k. nat_eq k o) all.0 ∙ t in
    rw x (ap (λ ys. step_of e (state_after m a s e) ∷ ys) (steps_all m a o (state_after m a s e) es all.1 t))

steps_none : (m : ModelData) (a o : ℕ) (s : ObjectState) (es : List Event) → AllByRecursion (λ (e : Event). e.dst ≡ a) es → nat_eq a o ≡ false → steps_of o (object_steps m a s es) ≡ []
unfolding object_steps
steps_none m a o s [] all t = refl
steps_none m a o s (e ∷ es) all t =
    let x : nat_eq e.dst o ≡ false = ap (λ k. nat_eq k o) all.0 ∙ t in
    rw x (steps_none m a o (state_after m a s e) es all.1 t)

steps_apart : (m : ModelData) (a o : ℕ) (s : ObjectState) (es : List Event) → AllByRecursion (λ (e : Event). e.dst ≡ a) es
    → steps_of o (object_steps m a s es) ≡ cond (nat_eq a o) (object_steps m a s es) []
steps_apart m a o s es all = elim (told (nat_eq a o)) [ inl t ↦ rw t (steps_all m a o s es all t) | inr t ↦ rw t (steps_none m a o s es all t) ]

-- each step is at the object of its event
step_dst : (m : ModelData) (a : ℕ) (s : ObjectState) (es : List Event) → AllByRecursion (λ (e : Event). e.dst ≡ a) es → (x : Step) → Contains (object_steps m a s es) x → x.event.dst ≡ a
unfolding object_steps
step_dst m a s [] all x at = absurd (none_in x at)
step_dst m a s (e ∷ es) all x at =
    elim (from_cons (step_of e (state_after m a s e)) x (object_steps m a (state_after m a s e) es) at) [
      | inl same ↦ ap (λ (z : Step). z.event.dst) (sym same) ∙ all.0
      | inr later ↦ step_dst m a (state_after m a s e) es all.1 x later
    ]

pub is_group : (b : Begun) (g : Group) → CanRunAll b → Contains b.groups g → IsGroup (length b.model.objects) b.events g
is_group b g can at = All-contains (IsGroup (length b.model.objects) b.events) b.groups g (All-from_recursion (IsGroup (length b.model.objects) b.events) b.groups can.by_objects.each) at

group_steps_apart : (b : Begun) (o : ℕ) (gs : List Group) → AllByRecursion (IsGroup (length b.model.objects) b.events) gs
    → AllByRecursion (λ (g : Group). steps_of o (group_steps b g) ≡ cond (nat_eq g.object o) (group_steps b g) []) gs
group_steps_apart b o [] all = tt
group_steps_apart b o (g ∷ gs) all = (
  steps_apart b.model g.object o (state_of b.states g.object) (group_events b.events g) (subst (λ es. AllByRecursion (λ (e : Event). e.dst ≡ g.object) es) (sym all.0.just) (mine_all g.object b.events)),
  group_steps_apart b o gs all.1,
)

group_sends_apart : (b : Begun) (o : ℕ) (gs : List Group) → IsModel b.model → AllByRecursion (IsGroup (length b.model.objects) b.events) gs
    → AllByRecursion (λ (g : Group). filter (λ (e : Event). nat_eq e.src o) (group_sends b g) ≡ cond (nat_eq g.object o) (group_sends b g) []) gs
group_sends_apart b o [] is all = tt
group_sends_apart b o (g ∷ gs) is all =
    let s : ObjectState = state_of b.states g.object in (
      own_apart g.object o (group_sends b g)
          (weaker (λ (f : Event). (f.src ≡ g.object) × (s.sent ≤ f.seq)) (λ (f : Event). f.src ≡ g.object) (λ f k. k.0) (group_sends b g) (sends_later b.model g.object s (group_events b.events g) is all.0.object)),
      group_sends_apart b o gs is all.1,
    )

-- an object without a group has no events
pub none_here : (b : Begun) (o : ℕ) → CanRunAll b → ((g : Group) → Contains b.groups g → g.object ≡ o → ⊥) → events_of o b.events ≡ []
none_here b o can none = none_of o b.events (λ e at is. (let g = can.by_objects.all e at in none g.0 g.1 (g.2 ∙ is)))

-- what the groups of an object made is what its events make
whole_object : {B : Type 0} (b : Begun) (o : ℕ) (h : ℕ → List Event → List B) → CanRunAll b → ((k : ℕ) → h k [] ≡ [])
    → flat_map (λ (g : Group). h g.object (group_events b.events g)) (filter (λ (g : Group). nat_eq g.object o) b.groups) ≡ h o (events_of o b.events)
whole_object {B} b o h can nil = whole (found o b.groups can.by_objects.rising)
  where
    f : Group → List B
    f g = h g.object (group_events b.events g)

    whole : HasGroup o b.groups ⊎ HasNone o b.groups → flat_map (λ (g : Group). h g.object (group_events b.events g)) (filter (λ (g : Group). nat_eq g.object o) b.groups) ≡ h o (events_of o b.events)
    whole (inl r) =
        ap (flat_map (λ (g : Group). h g.object (group_events b.events g))) r.3 ∙ append-nil (h r.0.object (group_events b.events r.0))
        ∙ ap (h r.0.object) (is_group b r.0 can r.1).just ∙ ap (λ k. h k (events_of k b.events)) r.2
    whole (inr r) = ap (flat_map (λ (g : Group). h g.object (group_events b.events g))) r.1 ∙ sym (ap (h o) (none_here b o can r.0) ∙ nil o)

no_steps : (m : ModelData) (o : ℕ) (s : ObjectState) → object_steps m o s [] ≡ []
unfolding object_steps
no_steps m o s = refl

no_sends : (m : ModelData) (o : ℕ) (s : ObjectState) → object_sends m o s [] ≡ []
unfolding object_sends
no_sends m o s = refl

stays : (m : ModelData) (o : ℕ) (s : ObjectState) → object_after m o s [] ≡ s
unfolding object_after
stays m o s = refl

module _ {P : Type 0} (b : Begun) (states : List ObjectState) (ws : List (Worker P)) (run : IsRun b states ws) where
  all_steps_of : (o : ℕ) → steps_of o (all_steps ws) ≡ object_steps b.model o (state_of b.states o) (events_of o b.events)
  all_steps_of o =
      by_workers (λ (w : Worker P). w.steps.items) (λ (s : Step). nat_eq s.event.dst o) o (group_steps b) b.groups ws run.some (λ i d lt. (run.ran i d lt).steps_made)
      (group_steps_apart b o b.groups run.can.by_objects.each) (few_found o b.groups run.can.by_objects.rising)
      ∙ whole_object b o (λ k es. object_steps b.model k (state_of b.states k) es) run.can (λ k. no_steps b.model k (state_of b.states k))

  changed_from : (c : Changed) → Contains (all_changed ws) c → (g : Group) × Contains b.groups g × (changed_by b g ≡ c)
  changed_from c h =
      let w = in_flat (λ (x : Worker P). x.changed.items) ws c h in
      let k : ℕ = w.1.0 in
      let here : Contains (get_or ws k w.0).changed.items c = subst (λ (x : Worker P). Contains x.changed.items c) (sym w.1.2) w.2 in
      let g = in_map (changed_by b) (every (length ws) k b.groups) c (subst (λ cs. Contains cs c) (run.ran k w.0 w.1.1).states_after here) in
      (g.0, every_in (length ws) k b.groups g.0 g.1, g.2)

  changed_into : (g : Group) → Contains b.groups g → Contains (all_changed ws) (changed_by b g)
  changed_into g at =
      let s = in_share (length ws) b.groups g run.some at in
      let d = some_worker ws s.0 s.1 in
      into_flat (λ (x : Worker P). x.changed.items) ws (get_or ws s.0 d) (changed_by b g) (Contains-get_or ws s.0 d s.1)
      (subst (λ cs. Contains cs (changed_by b g)) (sym (run.ran s.0 d s.1).states_after) (into_map (changed_by b) (every (length ws) s.0 b.groups) g s.2))

  sends_from : (x : Event) → Contains (all_sends ws) x → (g : Group) × Contains b.groups g × Contains (group_sends b g) x
  sends_from x h =
      let w = in_flat (λ (v : Worker P). v.sends.items) ws x h in
      let k : ℕ = w.1.0 in
      let here : Contains (get_or ws k w.0).sends.items x = subst (λ (v : Worker P). Contains v.sends.items x) (sym w.1.2) w.2 in
      let g = in_flat (group_sends b) (every (length ws) k b.groups) x (subst (λ es. Contains es x) (run.ran k w.0 w.1.1).sent here) in
      (g.0, every_in (length ws) k b.groups g.0 g.1, g.2)

  sends_into : (x : Event) (g : Group) → Contains b.groups g → Contains (group_sends b g) x → Contains (all_sends ws) x
  sends_into x g at h =
      let s = in_share (length ws) b.groups g run.some at in
      let d = some_worker ws s.0 s.1 in
      into_flat (λ (v : Worker P). v.sends.items) ws (get_or ws s.0 d) x (Contains-get_or ws s.0 d s.1)
      (subst (λ es. Contains es x) (sym (run.ran s.0 d s.1).sent) (into_flat (group_sends b) (every (length ws) s.0 b.groups) g x s.2 h))

  sent_to : (x : Event) → Contains (all_sends ws) x → IsSentAt b.model b.states b.events x
  sent_to x h =
      let g = sends_from x h in
      let is = is_group b g.0 run.can g.1 in
      (g.0.object, subst (λ n. IsObject n g.0.object) (sym run.can.many) is.object, subst (λ es. Contains (object_sends b.model g.0.object (state_of b.states g.0.object) es) x) is.just g.2)

  sent_from : (x : Event) → IsSentAt b.model b.states b.events x → Contains (all_sends ws) x
  sent_from x h = from (found h.0 b.groups run.can.by_objects.rising)
    where
      from : HasGroup h.0 b.groups ⊎ HasNone h.0 b.groups → Contains (all_sends ws) x
      from (inl r) =
          sends_into x r.0 r.1 (subst (λ es. Contains (object_sends b.model r.0.object (state_of b.states r.0.object) es) x) (sym (is_group b r.0 run.can r.1).just)
          (subst (λ k. Contains (object_sends b.model k (state_of b.states k) (events_of k b.events)) x) (sym r.2) h.2))
      from (inr r) = absurd (none_in x (subst (λ es. Contains es x) (ap (object_sends b.model h.0 (state_of b.states h.0)) (none_here b h.0 run.can r.0) ∙ no_sends b.model h.0 (state_of b.states h.0)) h.2))

  steps_there : (x : Step) → Contains (all_steps ws) x → IsObject (length b.states) x.event.dst
  steps_there x h =
      let w = in_flat (λ (v : Worker P). v.steps.items) ws x h in
      let k : ℕ = w.1.0 in
      let here : Contains (get_or ws k w.0).steps.items x = subst (λ (v : Worker P). Contains v.steps.items x) (sym w.1.2) w.2 in
      let g = in_flat (group_steps b) (every (length ws) k b.groups) x (subst (λ ss. Contains ss x) (run.ran k w.0 w.1.1).steps_made here) in
      let is = is_group b g.0 run.can (every_in (length ws) k b.groups g.0 g.1) in
      let own = step_dst b.model g.0.object (state_of b.states g.0.object) (group_events b.events g.0) (subst (λ es. AllByRecursion (λ (e : Event). e.dst ≡ g.0.object) es) (sym is.just) (mine_all g.0.object b.events)) x g.2 in
      subst (λ n. IsObject n x.event.dst) (sym run.can.many) (subst (IsObject (length b.model.objects)) (sym own) is.object)

  sent_once : IsModel b.model → IsOnce (all_sends ws)
  sent_once is =
      once_by_source (all_sends ws) (λ o.
      let source : filter (λ (e : Event). nat_eq e.src o) (all_sends ws) ≡ object_sends b.model o (state_of b.states o) (events_of o b.events) =
      by_workers (λ (w : Worker P). w.sends.items) (λ (e : Event). nat_eq e.src o) o (group_sends b) b.groups ws run.some (λ i d lt. (run.ran i d lt).sent)
      (group_sends_apart b o b.groups is run.can.by_objects.each) (few_found o b.groups run.can.by_objects.rising)
      ∙ whole_object b o (λ k es. object_sends b.model k (state_of b.states k) es) run.can (λ k. no_sends b.model k (state_of b.states k)) in
      elim (found o b.groups run.can.by_objects.rising) [
        | inl r ↦ (let there : IsObject (length b.model.objects) o = subst (IsObject (length b.model.objects)) r.2 (is_group b r.0 run.can r.1).object in
            subst IsOnce (sym source) (sends_once b.model o (state_of b.states o) (events_of o b.events) is there))
        | inr r ↦ (let none : filter (λ (e : Event). nat_eq e.src o) (all_sends ws) ≡ [] =
            source ∙ ap (object_sends b.model o (state_of b.states o)) (none_here b o run.can r.0) ∙ no_sends b.model o (state_of b.states o) in
            subst IsOnce (sym none) tt)
      ])

  -- the state of an object that was set or not
  state_made : (new : List ObjectState) → AreSet (all_changed ws) b.states new → (o : ℕ) → IsObject (length b.states) o → state_of new o ≡ object_after b.model o (state_of b.states o) (events_of o b.events)
  state_made new set o at =
      elim (set.each o at) [
        | inl to ↦ (let g = changed_from to.0 to.1 in
            let o_is : g.0.object ≡ o = ap (λ (c : Changed). c.object) g.2 ∙ to.2 in
            sym to.3 ∙ sym (ap (λ (c : Changed). c.state) g.2) ∙ ap (object_after b.model g.0.object (state_of b.states g.0.object)) (is_group b g.0 run.can g.1).just
            ∙ ap (λ k. object_after b.model k (state_of b.states k) (events_of k b.events)) o_is)
        | inr un ↦ un.0 ∙ sym (ap (object_after b.model o (state_of b.states o)) (none_here b o run.can (λ g in' is. un.1 (changed_by b g) (changed_into g in') is)) ∙ stays b.model o (state_of b.states o))
      ]

  pub merged : (new : List ObjectState) (old log : List Step) → AreSet (all_changed ws) states new → log ≡ old ++ all_steps ws → WindowRan b new old log (all_sends ws)
  merged new old log set_ logged =
      let set' : AreSet (all_changed ws) b.states new = subst (λ (xs : List ObjectState). AreSet (all_changed ws) xs new) (sym run.begun) set_ in
      record {
        count = set'.count;
        states_after = state_made new set';
        steps_made = (λ o at. ap (steps_of o) logged ∙ filter-append (λ (s : Step). nat_eq s.event.dst o) old (all_steps ws) ∙ ap (λ ss. steps_of o old ++ ss) (all_steps_of o));
        sent = (λ x. (sent_to x, sent_from x));
        once = sent_once;
        there = (λ x at. elim (Contains-append_cases old (all_steps ws) x (subst (λ ss. Contains ss x) logged at)) [ inl before ↦ inl before | inr now ↦ inr (steps_there x now) ]);
      }

  pub changes_there : (k : ℕ) (d : Worker P) → k < length ws → AreChanges (length states) (get_or ws k d).changed.items
  changes_there k d lt =
      let many : length b.model.objects ≡ length states = sym run.can.many ∙ ap length run.begun in
      let here = every_all (IsGroup (length b.model.objects) b.events) (length ws) k b.groups run.can.by_objects.each in
      let objects = All-weaker (IsGroup (length b.model.objects) b.events) (λ (g : Group). IsObject (length states) g.object) (λ g is. subst (λ n. IsObject n g.object) many is.object)
      (every (length ws) k b.groups) (All-from_recursion (IsGroup (length b.model.objects) b.events) (every (length ws) k b.groups) here) in
      subst (AreChanges (length states)) (sym (run.ran k d lt).states_after) (All-map (λ (c : Changed). IsObject (length states) c.object) (changed_by b) (every (length ws) k b.groups) objects)

-- all workers ran their shares where none is short
pub run_is : {P : Type 0} (b : Begun) (states : List ObjectState) (old new : List (Worker P)) → states ≡ b.states → 0 < length old → length new ≡ length old → CanRunAll b
    → ((i : ℕ) (d : Worker P) → i < length new → (get_or new i d).short ≡ None) → ((i : ℕ) (d : Worker P) → i < length old → RanShare (record b { states = states }) (length old) i (get_or new i d))
    → IsRun b b.states new
run_is {P} b states old new is some count can none ran =
    let here : (i : ℕ) (d : Worker P) → i < length old → RanShare b (length old) i (get_or new i d) =
    subst (λ (xs : List ObjectState). (i : ℕ) (d : Worker P) → i < length old → RanShare (record b { states = xs }) (length old) i (get_or new i d)) is ran in
    record {
      begun = refl;
      can = can;
      some = omega arith;
      ran = (λ i d lt. subst (λ n. (let w = get_or new i d in RanGroups b (every n i b.groups) w.changed.items w.steps.items w.sends.items)) (sym count) (here i d (omega arith) (none i d lt)));
    }

-- the window was run, and its sends were shared out
pub window_done : {P : Type 0} (b : Begun) (span : ℕ) (states : List ObjectState) (before log : List Step) (old mid new : List (Worker P)) → length mid ≡ length old → All IsReady old
    → ((i : ℕ) (d : Worker P) → i < length old → KeepsOthers (get_or old i d) (get_or mid i d)) → WindowRan b states before log (all_sends mid)
    → AreEach KeepsButDue mid new → AreDue span (all_sends mid) mid new → WindowDone b span states before log new
window_done b span states before log old mid new count ready others ran kept due = record {
  sends = all_sends mid;
  ran = ran;
  due = (λ k d lt.
      let below : k < length mid = (let n = kept.count in omega arith) in
      let there : k < length old = omega arith in
      let none : (get_or mid k d).due.items ≡ [] = ap (λ v. v.items) (others k d there).2 ∙ (ready k d there).1 in
      due k d below ∙ ap (λ xs. xs ++ owned_by (length mid) span k (all_sends mid)) none ∙ ap (λ n. owned_by n span k (all_sends mid)) (sym kept.count));
}

-- the passes and what was taken stay
pub passes_run : {P : Type 0} (old mid : List (Worker P)) → length mid ≡ length old → ((i : ℕ) (d : Worker P) → i < length old → KeepsOthers (get_or old i d) (get_or mid i d)) → AreEach KeepsPass old mid
passes_run old mid count others = record { count = count; each = (λ i d lt. ((others i d lt).0, (others i d lt).1)) }

pub passes_all : {P : Type 0} (old mid new : List (Worker P)) → AreEach KeepsPass old mid → AreEach KeepsButDue mid new → AreEach KeepsPass old new
passes_all old mid new kept due = record {
  count = due.count ∙ kept.count;
  each = (λ i d lt. (let k = due.each i d (let n = kept.count in omega arith) in (k.pass ∙ (kept.each i d lt).0, k.taken ∙ (kept.each i d lt).1)));
}
