-- What the loops over workers leave: states that are set, steps that are added, and events that are given out.
use Rattle.std.proofs.Common.{◌≡◌, ◌≢◌, ℕ, ◌+◌, ◌-◌, ◌<◌, ◌≤◌, List, [], ◌∷◌, ◌++◌, length, take, set, get_or, true, false, nat_eq, refl, sym, ap, ◌∙◌, subst, arith, append_assoc, append-nil, inl, inr, get_or-set_same, get_or-set_other}
use Rattle.std.specs.Prelude.{flat_map}
use Rattle.std.proofs.lemmas.Bool.{cases_eq}
use Rattle.std.proofs.lemmas.Bool.Decides.{nat_tests}
use Rattle.std.proofs.lemmas.List.{length-set, take_more, flat_map_more, get_or_default}
use Rattle.std.proofs.lemmas.List.Elements.{filter-append, Contains-push, Contains-push_cases, Contains-append_left, Contains-append_right, Contains-append_cases}
use Rattle.crq_base.specs.declared.event.Event.{Event}
use Rattle.crq_base.specs.Sources.{owner_of}
use Rattle.crq_sim.specs.declared.reaction.ObjectState.{ObjectState}
use Rattle.crq_sim.specs.Models.{IsObject}
use Rattle.crq_sim.specs.Runs.{state_of}
use Rattle.crq_sim.proofs.Members.{none_in}
use Rattle.crq_host.specs.declared.worker.Changed.{Changed}
use Rattle.crq_host.specs.declared.worker.Worker.{Worker}
use Rattle.crq_host.specs.Shares.{AreSet, AreEach, AreDue, KeepsButDue, IsCleared, all_changed, all_sends, owned_by}

abbrev no_state : ObjectState
no_state = record { count = 0; word = 0; sent = 0 }

-- one element's list more
pub flat_next : {A B : Type 0} (f : A → List B) (xs : List A) (i : ℕ) (d : A) → i < length xs → flat_map f (take (i + 1) xs) ≡ flat_map f (take i xs) ++ f (get_or xs i d)
flat_next f xs i d lt = ap (flat_map f) (take_more xs i d lt) ∙ sym (flat_map_more f [] (take i xs) (get_or xs i d))

pub set_none : (old : List ObjectState) → AreSet [] old old
set_none old = record { count = refl; each = (λ o at. inr (refl, (λ c in' is. none_in c in'))) }

set_one : (cs : List Changed) (c : Changed) (old now : List ObjectState) → IsObject (length old) c.object → AreSet cs old now → AreSet (cs ++ c ∷ []) old (set now (c.object - 1) c.state)
set_one cs c old now there h =
    let lt : c.object - 1 < length now = (let k = h.count in omega arith) in
    record {
      count = length-set now (c.object - 1) c.state ∙ h.count;
      each = (λ o at.
          elim (cases_eq o c.object) [
            | inl same ↦ inl (c, Contains-push cs c, sym same, sym (ap (λ k. state_of (set now (c.object - 1) c.state) k) same ∙ get_or-set_same now (c.object - 1) c.state no_state lt))
            | inr apart ↦ (let ne : o - 1 ≢ c.object - 1 = omega arith in
                let keeps : state_of (set now (c.object - 1) c.state) o ≡ state_of now o = get_or-set_other now (c.object - 1) (o - 1) c.state no_state ne in
                elim (h.each o at) [
                  | inl to ↦ inl (to.0, Contains-append_left cs (c ∷ []) to.0 to.1, to.2, to.3 ∙ sym keeps)
                  | inr un ↦ inr (keeps ∙ un.0, (λ x in' is. elim (Contains-push_cases cs c x in') [ inl a ↦ un.1 x a is | inr b ↦ apart (sym is ∙ ap (λ (y : Changed). y.object) (sym b)) ]))
                ])
          ]);
    }

pub set_next : (cs : List Changed) (i : ℕ) (d : Changed) (old now : List ObjectState) → i < length cs → IsObject (length old) (get_or cs i d).object → AreSet (take i cs) old now
    → AreSet (take (i + 1) cs) old (set now ((get_or cs i d).object - 1) (get_or cs i d).state)
set_next cs i d old now lt there h =
    subst (λ xs. AreSet xs old (set now ((get_or cs i d).object - 1) (get_or cs i d).state)) (sym (take_more cs i d lt)) (set_one (take i cs) (get_or cs i d) old now there h)

set_both : (cs ds : List Changed) (old mid new : List ObjectState) → AreSet cs old mid → AreSet ds mid new → AreSet (cs ++ ds) old new
set_both cs ds old mid new a b = record {
  count = b.count ∙ a.count;
  each = (λ o at.
      elim (b.each o (subst (λ n. IsObject n o) (sym a.count) at)) [
        | inl to ↦ inl (to.0, Contains-append_right cs ds to.0 to.1, to.2, to.3)
        | inr un ↦ (elim (a.each o at) [
          | inl to ↦ inl (to.0, Contains-append_left cs ds to.0 to.1, to.2, to.3 ∙ sym un.0)
          | inr none ↦ inr (un.0 ∙ none.0, (λ x in' is. elim (Contains-append_cases cs ds x in') [ inl p ↦ none.1 x p is | inr q ↦ un.1 x q is ]))
        ])
      ]);
}

pub set_more : {P : Type 0} (ws : List (Worker P)) (i : ℕ) (d : Worker P) (old mid new : List ObjectState) → i < length ws → AreSet (all_changed (take i ws)) old mid → AreSet (get_or ws i d).changed.items mid new
    → AreSet (all_changed (take (i + 1) ws)) old new
set_more ws i d old mid new lt a b =
    subst (λ cs. AreSet cs old new) (sym (flat_next (λ (w : Worker _). w.changed.items) ws i d lt)) (set_both (all_changed (take i ws)) (get_or ws i d).changed.items old mid new a b)

-- an event is given to its owner
pub given : {P : Type 0} (ws : List (Worker P)) (at span : ℕ) (e : Event) (w c : Worker P) → at < length ws → at ≡ owner_of (length ws) span e.src → w.due.items ≡ (get_or ws at c).due.items ++ e ∷ []
    → AreDue span (e ∷ []) ws (set ws at w)
given ws at span e w c lt is due k d below =
    elim (cases_eq k at) [
      | inl same ↦ (let t : nat_eq (owner_of (length ws) span e.src) k ≡ true = (let z : owner_of (length ws) span e.src ≡ k = sym is ∙ sym same in grind (arith, nat_tests)) in
          rw t (ap (λ j. (get_or (set ws at w) j d).due.items) same ∙ ap (λ (x : Worker _). x.due.items) (get_or-set_same ws at w d lt) ∙ due
          ∙ ap (λ (x : Worker _). x.due.items ++ e ∷ []) (get_or_default ws at c d lt) ∙ ap (λ j. (get_or ws j d).due.items ++ e ∷ []) (sym same)))
      | inr apart ↦ (let t : nat_eq (owner_of (length ws) span e.src) k ≡ false = (let z : owner_of (length ws) span e.src ≢ k = (λ q. apart (sym q ∙ sym is)) in grind (arith, nat_tests)) in
          rw t (ap (λ (x : Worker _). x.due.items) (get_or-set_other ws at k w d apart) ∙ sym (append-nil (get_or ws k d).due.items)))
    ]

keeps_both : {P : Type 0} (a b c : Worker P) → KeepsButDue a b → KeepsButDue b c → KeepsButDue a c
keeps_both a b c h k = record { pass = k.pass ∙ h.pass; taken = k.taken ∙ h.taken; changed = k.changed ∙ h.changed; steps = k.steps ∙ h.steps; sends = k.sends ∙ h.sends; short = k.short ∙ h.short }

pub kept_none : {P : Type 0} (ws : List (Worker P)) → AreEach KeepsButDue ws ws
kept_none ws = record { count = refl; each = (λ i d lt. record { pass = refl; taken = refl; changed = refl; steps = refl; sends = refl; short = refl }) }

pub kept_both : {P : Type 0} (old mid new : List (Worker P)) → AreEach KeepsButDue old mid → AreEach KeepsButDue mid new → AreEach KeepsButDue old new
kept_both old mid new a b = record {
  count = b.count ∙ a.count;
  each = (λ i d lt. keeps_both (get_or old i d) (get_or mid i d) (get_or new i d) (a.each i d lt) (b.each i d (let k = a.count in omega arith)));
}

pub due_none : {P : Type 0} (span : ℕ) (ws : List (Worker P)) → AreDue span [] ws ws
due_none span ws k d lt = sym (append-nil (get_or ws k d).due.items)

pub due_both : {P : Type 0} (span : ℕ) (es fs : List Event) (old mid new : List (Worker P)) → length mid ≡ length old → AreDue span es old mid → AreDue span fs mid new → AreDue span (es ++ fs) old new
due_both span es fs old mid new count a b k d lt =
    b k d (omega arith) ∙ ap (λ xs. xs ++ owned_by (length mid) span k fs) (a k d lt)
    ∙ ap (λ n. ((get_or old k d).due.items ++ owned_by (length old) span k es) ++ owned_by n span k fs) count
    ∙ append_assoc (get_or old k d).due.items (owned_by (length old) span k es) (owned_by (length old) span k fs)
    ∙ ap (λ xs. (get_or old k d).due.items ++ xs) (sym (filter-append (λ (e : Event). nat_eq (owner_of (length old) span e.src) k) es fs))

-- where the giving out of one worker's sends stands
pub record Giving {P : Type 0} (span from at : ℕ) (old now : List (Worker P)) : Type 0 where
  pub kept : AreEach KeepsButDue old now
  pub due : (d : Worker P) → AreDue span (take at (get_or old from d).sends.items) old now

pub giving_none : {P : Type 0} (span from : ℕ) (ws : List (Worker P)) → Giving span from 0 ws ws
giving_none span from ws = record { kept = kept_none ws; due = (λ d. due_none span ws) }

pub sends_kept : {P : Type 0} (span from at : ℕ) (old now : List (Worker P)) (d : Worker P) → from < length old → Giving span from at old now → (get_or now from d).sends ≡ (get_or old from d).sends
sends_kept span from at old now d lt h = (h.kept.each from d lt).sends

pub giving_next : {P : Type 0} (span from at : ℕ) (old now new : List (Worker P)) (c : Worker P) (x : Event) → from < length old → at < length (get_or now from c).sends.items → Giving span from at old now
    → AreEach KeepsButDue now new → AreDue span (get_or (get_or now from c).sends.items at x ∷ []) now new → Giving span from (at + 1) old new
giving_next span from at old now new c x there lt h kept due = record {
  kept = kept_both old now new h.kept kept;
  due = (λ d.
      let same : (get_or now from c).sends.items ≡ (get_or old from d).sends.items =
      ap (λ v. v.items) ((h.kept.each from c there).sends) ∙ ap (λ (w : Worker _). w.sends.items) (get_or_default old from c d there) in
      let e = get_or (get_or now from c).sends.items at x in
      let all : take (at + 1) (get_or old from d).sends.items ≡ take at (get_or old from d).sends.items ++ e ∷ [] =
      ap (take (at + 1)) (sym same) ∙ take_more (get_or now from c).sends.items at x lt ∙ ap (λ es. take at es ++ e ∷ []) same in
      subst (λ es. AreDue span es old new) (sym all) (due_both span (take at (get_or old from d).sends.items) (e ∷ []) old now new h.kept.count (h.due d) due));
}

-- and that of the sends of all workers
pub record GivingAll {P : Type 0} (span from : ℕ) (old now : List (Worker P)) : Type 0 where
  pub kept : AreEach KeepsButDue old now
  pub due : AreDue span (all_sends (take from old)) old now

pub giving_all_none : {P : Type 0} (span : ℕ) (ws : List (Worker P)) → GivingAll span 0 ws ws
giving_all_none span ws = record { kept = kept_none ws; due = due_none span ws }

-- a worker, where there is one
pub some_worker : {P : Type 0} (ws : List (Worker P)) (i : ℕ) → i < length ws → Worker P
some_worker [] i lt = absurd (omega arith)
some_worker (w ∷ ws) i lt = w

pub giving_all_next : {P : Type 0} (span from : ℕ) (old now new : List (Worker P)) → from < length old → GivingAll span from old now → AreEach KeepsButDue now new
    → ((d : Worker P) → AreDue span (get_or now from d).sends.items now new) → GivingAll span (from + 1) old new
giving_all_next span from old now new lt h kept due =
    let d = some_worker old from lt in
    let same : (get_or now from d).sends.items ≡ (get_or old from d).sends.items = ap (λ v. v.items) ((h.kept.each from d lt).sends) in
    record {
      kept = kept_both old now new h.kept kept;
      due = subst (λ es. AreDue span es old new) (sym (flat_next (λ (w : Worker _). w.sends.items) old from d lt))
          (due_both span (all_sends (take from old)) (get_or old from d).sends.items old now new h.kept.count h.due (subst (λ es. AreDue span es now new) same (due d)));
    }

-- the first so many workers are cleared
pub record ClearedTo {P : Type 0} (n : ℕ) (old now : List (Worker P)) : Type 0 where
  pub count : length now ≡ length old
  pub done : (k : ℕ) (d : Worker P) → k < n → k < length old → IsCleared (get_or old k d) (get_or now k d)
  pub left : (k : ℕ) (d : Worker P) → n ≤ k → get_or now k d ≡ get_or old k d

pub cleared_none : {P : Type 0} (ws : List (Worker P)) → ClearedTo 0 ws ws
cleared_none ws = record { count = refl; done = (λ k d lt. absurd (omega arith)); left = (λ k d le. refl) }

pub cleared_next : {P : Type 0} (n : ℕ) (old now : List (Worker P)) (w c : Worker P) → n < length now → ClearedTo n old now → IsCleared (get_or now n c) w → ClearedTo (n + 1) old (set now n w)
cleared_next n old now w c lt h is = record {
  count = length-set now n w ∙ h.count;
  done = (λ k d le below.
      elim (cases_eq k n) [
        | inl same ↦ (let clear : IsCleared (get_or old n d) w = subst (λ x. IsCleared x w) (h.left n c (omega arith) ∙ get_or_default old n c d (let z = h.count in omega arith)) is in
            subst (λ j. IsCleared (get_or old j d) (get_or (set now n w) j d)) (sym same) (subst (IsCleared (get_or old n d)) (sym (get_or-set_same now n w d lt)) clear))
        | inr apart ↦ subst (IsCleared (get_or old k d)) (sym (get_or-set_other now n k w d apart)) (h.done k d (omega arith) below)
      ]);
  left = (λ k d le. get_or-set_other now n k w d (omega arith) ∙ h.left k d (omega arith));
}

pub cleared_all : {P : Type 0} (n : ℕ) (old now : List (Worker P)) → length old ≤ n → ClearedTo n old now → AreEach IsCleared old now
cleared_all n old now le h = record { count = h.count; each = (λ k d lt. h.done k d (omega arith) lt) }
