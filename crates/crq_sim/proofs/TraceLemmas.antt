-- Traces, and one more step.
use Rattle.std.proofs.Common.{◌≡◌, ◌≢◌, ℕ, zero, suc, ◌+◌, ◌-◌, ◌<◌, ◌≤◌, List, [], ◌∷◌, ◌++◌, length, get_or, set, take, cond, Bool, true, false, nat_eq, filter, refl, arith, ap, sym, ◌∙◌}
use Rattle.std.proofs.lemmas.Bool.Decides.{nat_tests}
use Rattle.std.proofs.lemmas.List.{take_more}
use Rattle.crq_sim.specs.declared.model.Object.{Object}
use Rattle.crq_sim.specs.declared.traces.ObjectTrace.{ObjectTrace}
use Rattle.crq_sim.specs.declared.traces.Step.{Step}
use Rattle.crq_sim.specs.Models.{IsObject}
use Rattle.crq_sim.specs.Kinds.{kind_of}
use Rattle.crq_sim.specs.Runs.{steps_of, traces_from, traces_of}
use Rattle.crq_sim.specs.Shown.{with_step}

pub filter_push_in : {X : Type 0} (p : X → Bool) (xs : List X) (x : X) → p x ≡ true → filter p (xs ++ x ∷ []) ≡ filter p xs ++ x ∷ []
filter_push_in p [] x h = rw h refl
filter_push_in {X} p (y ∷ xs) x h =
    let ih = filter_push_in p xs x h in
    let A : List X = filter p (xs ++ x ∷ []) in
    elim (p y) as (λ b. cond b (y ∷ A) A ≡ cond b (y ∷ filter p xs) (filter p xs) ++ x ∷ []) [ true ↦ ap (λ ys. y ∷ ys) ih | false ↦ ih ]

pub filter_push_out : {X : Type 0} (p : X → Bool) (xs : List X) (x : X) → p x ≡ false → filter p (xs ++ x ∷ []) ≡ filter p xs
filter_push_out p [] x h = rw h refl
filter_push_out {X} p (y ∷ xs) x h =
    let ih = filter_push_out p xs x h in
    let A : List X = filter p (xs ++ x ∷ []) in
    elim (p y) as (λ b. cond b (y ∷ A) A ≡ cond b (y ∷ filter p xs) (filter p xs)) [ true ↦ ap (λ ys. y ∷ ys) ih | false ↦ ih ]

steps_here : (o : ℕ) (log : List Step) (s : Step) → s.event.dst ≡ o → steps_of o (log ++ s ∷ []) ≡ steps_of o log ++ s ∷ []
steps_here o log s h = filter_push_in (λ (x : Step). nat_eq x.event.dst o) log s (let t : nat_eq s.event.dst o ≡ true = grind (arith, nat_tests) in t)

steps_elsewhere : (o : ℕ) (log : List Step) (s : Step) → s.event.dst ≢ o → steps_of o (log ++ s ∷ []) ≡ steps_of o log
steps_elsewhere o log s h = filter_push_out (λ (x : Step). nat_eq x.event.dst o) log s (let t : nat_eq s.event.dst o ≡ false = grind (arith, nat_tests) in t)

-- the traces of objects after the step's
traces_after : (k : ℕ) (objects : List Object) (log : List Step) (s : Step) → s.event.dst < k → traces_from k objects (log ++ s ∷ []) ≡ traces_from k objects log
traces_after k [] log s lt = refl
traces_after k (o ∷ os) log s lt =
    let ne : s.event.dst ≢ k = omega arith in
    let head = steps_elsewhere k log s ne in
    let tail = traces_after (k + 1) os log s (omega arith) in
    λ i. record { name = o.name; behaviour = kind_of o.behaviour; steps = head i } ∷ tail i

-- one more step in the traces of objects from k on
traces_with : (k : ℕ) (objects : List Object) (log : List Step) (s : Step) (j : ℕ) (d : ObjectTrace) → s.event.dst ≡ k + j → j < length objects
    → traces_from k objects (log ++ s ∷ []) ≡ set (traces_from k objects log) j (let t = get_or (traces_from k objects log) j d in record t { steps = t.steps ++ s ∷ [] })
traces_with k [] log s j d at lt = absurd (omega arith)
traces_with k (o ∷ os) log s zero d at lt =
    let here : s.event.dst ≡ k = omega arith in
    let head = steps_here k log s here in
    let tail = traces_after (k + 1) os log s (omega arith) in
    λ i. record { name = o.name; behaviour = kind_of o.behaviour; steps = head i } ∷ tail i
traces_with k (o ∷ os) log s (suc j) d at lt =
    let ne : s.event.dst ≢ k = omega arith in
    let head = steps_elsewhere k log s ne in
    let tail = traces_with (k + 1) os log s j d (omega arith) (omega arith) in
    λ i. record { name = o.name; behaviour = kind_of o.behaviour; steps = head i } ∷ tail i

pub length-traces : (k : ℕ) (objects : List Object) (log : List Step) → length (traces_from k objects log) ≡ length objects
length-traces k [] log = refl
length-traces k (o ∷ os) log = ap suc (length-traces (k + 1) os log)

-- the object's trace has the step, and the others are as they were
pub traces_step : (objects : List Object) (log : List Step) (s : Step) (traces : List ObjectTrace) (d : ObjectTrace) → 0 < s.event.dst → s.event.dst ≤ length objects
    → traces ≡ traces_of objects log → with_step traces (get_or traces (s.event.dst - 1) d) s ≡ traces_of objects (log ++ s ∷ [])
traces_step objects log s traces d po le is =
    ap (λ (ts : List ObjectTrace). with_step ts (get_or ts (s.event.dst - 1) d) s) is ∙ sym (traces_with 1 objects log s (s.event.dst - 1) d (omega arith) (omega arith))

traces_append : (k : ℕ) (xs : List Object) (o : Object) (log : List Step) → traces_from k (xs ++ o ∷ []) log ≡ traces_from k xs log ++ record { name = o.name; behaviour = kind_of o.behaviour; steps = steps_of (k + length xs) log } ∷ []
traces_append k [] o log = ap (λ n. record { name = o.name; behaviour = kind_of o.behaviour; steps = steps_of n log } ∷ []) (let z : k ≡ k + 0 = omega arith in z)
traces_append k (x ∷ xs) o log =
    let tail = traces_append (k + 1) xs o log in
    let n : k + 1 + length xs ≡ k + length (x ∷ xs) = omega arith in
    ap (λ ts. record { name = x.name; behaviour = kind_of x.behaviour; steps = steps_of k log } ∷ ts) (tail ∙ ap (λ z. traces_from (k + 1) xs log ++ record { name = o.name; behaviour = kind_of o.behaviour; steps = steps_of z log } ∷ []) n)

-- one more object without steps
pub trace_pushed : (objects : List Object) (i : ℕ) (o : Object) → i < length objects → o ≡ get_or objects i o
    → traces_of (take i objects) [] ++ record { name = o.name; behaviour = kind_of o.behaviour; steps = [] } ∷ [] ≡ traces_of (take (i + 1) objects) []
trace_pushed objects i o lt is =
    sym (traces_append 1 (take i objects) o []) ∙ sym (ap (λ xs. traces_of xs []) (take_more objects i o lt ∙ ap (λ x. take i objects ++ x ∷ []) (sym is)))

-- the next step goes into the trace of its object
pub step_gathered : (objects : List Object) (log : List Step) (i : ℕ) (e : Step) (traces : List ObjectTrace) (d : ObjectTrace) → i < length log
    → IsObject (length objects) (get_or log i e).event.dst → traces ≡ traces_of objects (take i log)
    → with_step traces (get_or traces ((get_or log i e).event.dst - 1) d) (get_or log i e) ≡ traces_of objects (take (i + 1) log)
step_gathered objects log i e traces d lt there is =
    traces_step objects (take i log) (get_or log i e) traces d there.0 there.1 is ∙ ap (traces_of objects) (sym (take_more log i e lt))
