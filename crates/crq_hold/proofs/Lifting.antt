-- Passes taken out of their places and put back, one after another.
use Rattle.std.proofs.Common.{◌≡◌, ◌⊎◌, inl, inr, ⊎_elim, ℕ, zero, suc, ◌+◌, ◌<◌, List, [], ◌∷◌, ◌++◌, length, set, Some, sym, refl, ap, ◌∙◌, arith, length-set, length-append, get_or}
use Rattle.std.specs.Prelude.{slice_get}
use Rattle.std.proofs.lemmas.Option.{slice_get_within, slice_get-get_or}
use mathlib.Core.Logic.{dite}
use native.Mathlib.Decide.{ℕ_discrete}
use Rattle.crq_rule.specs.declared.pass.Pass.{Pass}
use Rattle.crq_rule.specs.declared.pass.Seating.{Seating}
use Rattle.crq_rule.specs.declared.pass.Seating.TheVariants.{Here, Lifted}
use Rattle.crq_rows.proofs.Slots.{get_here, get_else}
use Rattle.crq_hold.specs.declared.worker.Worker.{Worker}
use Rattle.crq_hold.specs.Teams.{AreAtHome, AreFree, AreInOrder, AreLifted, AreLowered}

-- an element of a list to which one was pushed
pub get_pushed : {A : Type 0} (xs : List A) (x y : A) (k : ℕ) → slice_get (xs ++ x ∷ []) k ≡ Some y → (slice_get xs k ≡ Some y) ⊎ ((k ≡ length xs) × (y ≡ x))
get_pushed [] x y zero e = inr (refl, cc)
get_pushed [] x y (suc k) e = inl e
get_pushed (z ∷ xs) x y zero e = inl e
get_pushed (z ∷ xs) x y (suc k) e = ⊎_elim inl (λ r. inr (ap suc r.0, r.1)) (get_pushed xs x y k e)

module _ (next : ℕ) (start now : List Seating) (workers : List Worker) (n : ℕ) (l : AreLifted next start now workers n) where
  pub lifted_next : (callers : ℕ) → AreAtHome callers start → n < callers → ((pass : Pass) × (slice_get now n ≡ Some (Here pass)))
  lifted_next callers home b = let h = home n b in (h.0, l.left n (omega arith) ∙ h.1)

  pub lifted_more : (now' : List Seating) (workers' : List Worker) (pass : Pass) → slice_get now n ≡ Some (Here pass) → now' ≡ set now n Lifted → workers' ≡ workers ++ record { pass = pass; next = next; holds = 0 } ∷ []
      → AreLifted next start now' workers' (n + 1)
  lifted_more now' workers' pass was e f = let new : Worker = record { pass = pass; next = next; holds = 0 } in record {
    wide = ap length e ∙ (length-set now n Lifted ∙ l.wide);
    count = let a = ap length f ∙ length-append workers (new ∷ []) in let b = l.count in omega arith;
    each = λ k w at. ⊎_elim (l.each k w) (λ r. let is : k ≡ n = r.0 ∙ l.count in
        (sym (l.left k (omega arith)) ∙ (ap (slice_get now) is ∙ (was ∙ ap (λ (w : Worker). Some (Here w.pass)) (sym r.1))), ap (λ (w : Worker). w.next) r.1))
        (get_pushed workers new w k (ap (λ ws. slice_get ws k) (sym f) ∙ at));
    gone = λ k b. ap (λ ps. slice_get ps k) e ∙ dite (ℕ_discrete k n)
        (λ is. ap (slice_get (set now n Lifted)) is ∙ get_here now n Lifted (slice_get_within now n _ was))
        (λ ne. get_else now n k Lifted ne ∙ l.gone k (omega arith));
    left = λ k b. ap (λ ps. slice_get ps k) e ∙ (get_else now n k Lifted (λ is. absurd (omega arith)) ∙ l.left k (omega arith));
  }

-- the n-th worker, w, is the next one whose pass is put back
module _ (start now : List Seating) (workers : List Worker) (n : ℕ) (l : AreLowered start now workers n) (order : AreInOrder workers) (w : Worker) (b : n < length workers) (is : w ≡ get_or workers n w) where
  next_worker : slice_get workers n ≡ Some w
  next_worker = slice_get-get_or workers n w b ∙ ap Some (sym is)

  next_number : w.pass.number ≡ n
  next_number = order n w next_worker

  pub lowered_next : AreFree (length workers) start → slice_get now w.pass.number ≡ Some Lifted
  lowered_next free = ap (slice_get now) next_number ∙ (l.left n (omega arith) ∙ free n b)

  pub lowered_more : AreFree (length workers) start → (now' : List Seating) (m : ℕ) → m ≡ n + 1 → now' ≡ set now w.pass.number (Here w.pass) → AreLowered start now' workers m
  lowered_more free now' m up f = let e : now' ≡ set now n (Here w.pass) = f ∙ ap (λ k. set now k (Here w.pass)) next_number in record {
    wide = ap length e ∙ (length-set now n (Here w.pass) ∙ l.wide);
    each = λ k v c at. ap (λ ps. slice_get ps k) e ∙ dite (ℕ_discrete k n)
        (λ z. let same : v ≡ w = some_same v w (sym at ∙ (ap (slice_get workers) z ∙ next_worker)) in
        ap (slice_get (set now n (Here w.pass))) z ∙ (get_here now n (Here w.pass) (slice_get_within now n _ (l.left n (omega arith) ∙ free n b)) ∙ ap (λ (v : Worker). Some (Here v.pass)) (sym same)))
        (λ ne. get_else now n k (Here w.pass) ne ∙ l.each k v (omega arith) at);
    left = λ k b. ap (λ ps. slice_get ps k) e ∙ (get_else now n k (Here w.pass) (λ z. absurd (omega arith)) ∙ l.left k (omega arith));
  }
    where
      some_same : (v w : Worker) → Some v ≡ Some w → v ≡ w
      some_same v w e = cc
