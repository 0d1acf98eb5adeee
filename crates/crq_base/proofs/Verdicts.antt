-- What an entry may follow, and what is wrong with one that may not.
use Rattle.std.proofs.Common.{◌≡◌, ◌≢◌, ℕ, zero, suc, ◌+◌, ◌<◌, ◌⊎◌, ⊎_elim, inl, inr, Option, Some, None, List, [], ◌∷◌, MatchOption, length, take, drop, get_or, sym, ap, subst, arith}
use Rattle.std.specs.List.{Contains}
use Rattle.std.proofs.Math.Decide.{ℕ_discrete}
use Rattle.std.proofs.Math.Logic.{dite}
use Rattle.std.proofs.lemmas.List.{take_more, take-append-drop}
use Rattle.crq_base.specs.declared.event.Event.{Event}
use Rattle.crq_base.specs.declared.entry.Entry.{Entry}
use Rattle.crq_base.specs.declared.entry.Entry.TheVariants.{Begin, Put, Settled, Take, Miss, Table}
use Rattle.crq_base.specs.declared.legality.Fault.{Fault}
use Rattle.crq_base.specs.declared.legality.Fault.TheVariants.{PutTwice, NotPut, SettledTwice, TakenTwice, NoBegin, Passed}
use Rattle.crq_base.specs.declared.legality.Bound.TheVariants.{Key, Time}
use Rattle.crq_base.specs.Histories.{puts, settleds, outs, Began, MayFollow, IsLegal}
use Rattle.crq_base.specs.Faults.{IsLeft, IsUnfound, IsWrong}
use Rattle.crq_base.proofs.HistoryLaws.{began_one, legal_more, more_legal, legal_front}

event_or : (a b : Event) → (a ≡ b) ⊎ (a ≢ b)
event_or a b =
    dite (ℕ_discrete a.time b.time) (λ t. dite (ℕ_discrete a.src b.src) (λ s. dite (ℕ_discrete a.seq b.seq) (λ n. dite (ℕ_discrete a.dst b.dst) (λ d. dite (ℕ_discrete a.load b.load)
    (λ l. inl (λ i. record { time = t i; src = s i; seq = n i; dst = d i; load = l i }))
    (λ ne. inr (λ e. ne (ap (λ (x : Event). x.load) e))))
    (λ ne. inr (λ e. ne (ap (λ (x : Event). x.dst) e))))
    (λ ne. inr (λ e. ne (ap (λ (x : Event). x.seq) e))))
    (λ ne. inr (λ e. ne (ap (λ (x : Event). x.src) e))))
    (λ ne. inr (λ e. ne (ap (λ (x : Event). x.time) e)))

-- a list has an event or lacks it
pub contains_or : (xs : List Event) (e : Event) → Contains xs e ⊎ (Contains xs e → ⊥)
contains_or [] e = inr (λ h. let k = h.1 in absurd (omega arith))
contains_or (x ∷ xs) e = ⊎_elim (λ q. inl (0, omega arith, q))
    (λ ne. ⊎_elim (λ h. inl (suc h.0, (let k = h.1 in omega arith), h.2)) (λ none. inr (neither x xs e ne none)) (contains_or xs e))
    (event_or x e)
  where
    neither : (x : Event) (xs : List Event) (e : Event) → x ≢ e → (Contains xs e → ⊥) → Contains (x ∷ xs) e → ⊥
    neither x xs e ne none (zero, k, q) = ne q
    neither x xs e ne none (suc n, k, q) = none (n, omega arith, q)

-- the end of a take, from what its search says
pub take_end : (h : List Entry) (c : ℕ) (e : Event) (fault : Option Fault) → Contains (puts h) e → (Contains (outs h) e → ⊥)
    → MatchOption fault ((front : List Entry) × Began c h front × ((f : Event) → IsLeft front h (Key e) f → ⊥)) (λ x. IsUnfound h c (Key e) x)
    → MatchOption fault (MayFollow h (Take c e)) (λ x. IsWrong h (Take c e) x)
take_end h c e None p k r = (p, k, (r.0, r.1, λ f s t b. r.2 f (record { settled = s; kept = t; below = b })))
take_end h c e (Some NoBegin) p k r = (p, k, r)
take_end h c e (Some (Passed f)) p k r = (p, k, r)
take_end h c e (Some PutTwice) p k r = absurd r
take_end h c e (Some NotPut) p k r = absurd r
take_end h c e (Some SettledTwice) p k r = absurd r
take_end h c e (Some TakenTwice) p k r = absurd r

-- and the end of a miss
pub miss_end : (h : List Entry) (c limit : ℕ) (fault : Option Fault)
    → MatchOption fault ((front : List Entry) × Began c h front × ((f : Event) → IsLeft front h (Time limit) f → ⊥)) (λ x. IsUnfound h c (Time limit) x)
    → MatchOption fault (MayFollow h (Miss c limit)) (λ x. IsWrong h (Miss c limit) x)
miss_end h c limit None r = (r.0, r.1, λ f s b. ⊎_elim (λ t. t) (λ k. absurd (r.2 f (record { settled = s; kept = k; below = b }))) (contains_or (outs h) f))
miss_end h c limit (Some fault) r = r

-- an entry that has a fault may not follow
pub wrong_not : (h : List Entry) (x : Entry) (fault : Fault) → IsWrong h x fault → MayFollow h x → ⊥
wrong_not h (Put c e) PutTwice w m = m w
wrong_not h (Settled c e) NotPut w m = w m.0
wrong_not h (Settled c e) SettledTwice w m = m.1 w.1
wrong_not h (Take c e) NotPut w m = w m.0
wrong_not h (Take c e) TakenTwice w m = m.1 w.1
wrong_not h (Take c e) NoBegin w m = w.2 m.2.0 m.2.1
wrong_not h (Take c e) (Passed f) w m = let u = w.2 in let l = u.2.left in
    m.2.2 f (subst (λ z. Contains (settleds z) f) (began_one c h u.0 m.2.0 u.1 m.2.1) l.settled) l.kept l.below
wrong_not h (Miss c limit) NoBegin w m = w m.0 m.1
wrong_not h (Miss c limit) (Passed f) w m = let l = w.2.left in
    l.kept (m.2 f (subst (λ z. Contains (settleds z) f) (began_one c h w.0 m.0 w.1 m.1) l.settled) l.below)
wrong_not h (Begin c) fault w m = w
wrong_not h (Table c log shift) fault w m = w
wrong_not h (Put c e) fault w m = absurd w
wrong_not h (Settled c e) fault w m = absurd w
wrong_not h (Take c e) fault w m = absurd w.2
wrong_not h (Miss c limit) fault w m = absurd w

-- an entry of a legal history is legal after those before it
pub legal_at : (h : List Entry) (i : ℕ) (d : Entry) → i < length h → IsLegal h → MayFollow (take i h) (get_or h i d)
legal_at h i d lt l = more_legal (take i h) (get_or h i d)
    (subst IsLegal (take_more h i d lt) (legal_front [] (take (i + 1) h) (drop (i + 1) h) (subst IsLegal (sym (take-append-drop (i + 1) h)) l)))

pub legal_next : (h : List Entry) (i : ℕ) (d : Entry) → i < length h → IsLegal (take i h) → MayFollow (take i h) (get_or h i d) → IsLegal (take (i + 1) h)
legal_next h i d lt l m = subst IsLegal (sym (take_more h i d lt)) (legal_more (take i h) (get_or h i d) l m)
