-- What is scheduled of what an object would send.
use Rattle.std.proofs.Common.{◌≡◌, ℕ, ◌+◌, ◌<◌, ◌≤◌, List, [], ◌∷◌, ◌++◌, length, map, take, get_or, refl, arith, ap, sym, ◌∙◌, inl, inr}
use Rattle.std.proofs.lemmas.Bool.Decides.{leb_tells}
use Rattle.std.proofs.lemmas.List.{take_more, map-append, length-map, length-take}
use Rattle.crq_base.specs.declared.event.Event.{Event}
use Rattle.crq_sim.specs.declared.sends.Post.{Post}
use Rattle.crq_sim.specs.Reactions.{scheduled}

abbrev pub event_of : Post → ℕ → ℕ → Event
event_of p src seq = record { time = p.time; src = src; seq = seq; dst = p.dst; load = p.load }

pub scheduled_due : (until src sent : ℕ) (p : Post) (ps : List Post) → p.time ≤ until → scheduled until src sent (p ∷ ps) ≡ event_of p src sent ∷ scheduled until src (sent + 1) ps
unfolding scheduled
scheduled_due until src sent p ps le = elim (leb_tells p.time until) [ inl at ↦ rw at.0 refl | inr past ↦ absurd (omega arith) ]

pub scheduled_past : (until src sent : ℕ) (p : Post) (ps : List Post) → until < p.time → scheduled until src sent (p ∷ ps) ≡ scheduled until src sent ps
unfolding scheduled
scheduled_past until src sent p ps lt = elim (leb_tells p.time until) [ inl at ↦ absurd (omega arith) | inr past ↦ rw past.0 refl ]

pub scheduled_none : (until src sent : ℕ) → scheduled until src sent [] ≡ []
unfolding scheduled
scheduled_none until src sent = refl

-- no more than would be sent
pub length-scheduled : (until src sent : ℕ) (ps : List Post) → length (scheduled until src sent ps) ≤ length ps
length-scheduled until src sent [] = rw (scheduled_none until src sent) (omega arith)
length-scheduled until src sent (p ∷ ps) =
    elim (leb_tells p.time until) [
      | inl at ↦ rw (scheduled_due until src sent p ps at.1) (let h = length-scheduled until src (sent + 1) ps in omega arith)
      | inr past ↦ rw (scheduled_past until src sent p ps past.1) (let h = length-scheduled until src sent ps in omega arith)
    ]

-- the posts one after another
pub scheduled_more : (until src sent : ℕ) (ps : List Post) (p : Post)
    → scheduled until src sent (ps ++ p ∷ []) ≡ scheduled until src sent ps ++ scheduled until src (sent + length (scheduled until src sent ps)) (p ∷ [])
scheduled_more until src sent [] p = rw (scheduled_none until src sent) (ap (λ n. scheduled until src n (p ∷ [])) (let k : sent ≡ sent + 0 = omega arith in k))
scheduled_more until src sent (q ∷ ps) p =
    elim (leb_tells q.time until) [
      | inl at ↦ (let h = scheduled_more until src (sent + 1) ps p in
          let rest : List Event = scheduled until src (sent + 1) ps in
          let n : sent + 1 + length rest ≡ sent + length (event_of q src sent ∷ rest) = omega arith in
          rw (scheduled_due until src sent q (ps ++ p ∷ []) at.1, scheduled_due until src sent q ps at.1)
          (ap (λ es. event_of q src sent ∷ es) (h ∙ ap (λ m. rest ++ scheduled until src m (p ∷ [])) n)))
      | inr past ↦ rw (scheduled_past until src sent q (ps ++ p ∷ []) past.1, scheduled_past until src sent q ps past.1) (scheduled_more until src sent ps p)
    ]

-- one more target
pub sent_next : (until src sent : ℕ) (post : ℕ → Post) (targets : List ℕ) (i d : ℕ) (sends now : List Event) → i < length targets
    → (sends ≡ scheduled until src sent (map post (take i targets))) × (length sends ≤ i)
    → now ≡ sends ++ scheduled until src (sent + length sends) (post (get_or targets i d) ∷ [])
    → (now ≡ scheduled until src sent (map post (take (i + 1) targets))) × (length now ≤ i + 1)
sent_next until src sent post targets i d sends now lt h is =
    let p : Post = post (get_or targets i d) in
    let front : List Post = map post (take i targets) in
    let split : map post (take (i + 1) targets) ≡ front ++ p ∷ [] = ap (map post) (take_more targets i d lt) ∙ map-append post (take i targets) (get_or targets i d ∷ []) in
    let same : now ≡ scheduled until src sent (map post (take (i + 1) targets)) =
    is ∙ ap (λ (es : List Event). es ++ scheduled until src (sent + length es) (p ∷ [])) h.0 ∙ sym (scheduled_more until src sent front p) ∙ ap (scheduled until src sent) (sym split) in (
      same,
      (let all = length-scheduled until src sent (map post (take (i + 1) targets)) in
          let e : length now ≡ length (scheduled until src sent (map post (take (i + 1) targets))) = ap length same in
          let k : length (map post (take (i + 1) targets)) ≡ length (take (i + 1) targets) = length-map (take (i + 1) targets) post in
          let t = length-take (i + 1) targets in omega arith),
    )
