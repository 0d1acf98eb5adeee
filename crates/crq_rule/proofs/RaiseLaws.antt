-- A take that moves current on to the next bucket keeps the invariant, and passes no settled event.
use Rattle.std.proofs.Common.{◌≡◌, ⊎_elim, inl, inr, ℕ, ◌+◌, ◌<◌, ◌≤◌, take, drop, None, sym, ap, ◌∙◌, subst, le_refl, arith}
use Rattle.std.specs.List.{Contains}
use Rattle.crq_base.specs.declared.event.Event.{Event}
use Rattle.crq_base.specs.declared.words.Control.{Control}
use Rattle.crq_base.specs.declared.words.Current.{Current}
use Rattle.crq_base.specs.Histories.{put_of, puts, settleds, outs}
use Rattle.crq_rule.specs.declared.view.Sight.{Sight}
use Rattle.crq_rule.specs.Lists.{put}
use Rattle.crq_rule.specs.Core.{Core, caller_of}
use Rattle.crq_rule.specs.Parts.{NotAfter}
use Rattle.crq_rule.specs.Ranks.{bucket, head_for, shape_of}
use Rattle.crq_rule.specs.Bounds.{Bounds}
use Rattle.crq_rule.specs.Ahead.{Ahead}
use Rattle.crq_rule.specs.HistoryParts.{IsSought}
use Rattle.crq_rule.specs.CurrentKinds.{next_position, raised, MayRaise}
use Rattle.crq_rule.specs.Invariant.{present_of, takes_of, Inv}
use Rattle.crq_rule.proofs.Prefixes.{take_or_drop}
use Rattle.crq_rule.proofs.BoundLaws.{bounds_current}
use Rattle.crq_rule.proofs.EndLaws.{ends_current, walks_end}
use Rattle.crq_rule.proofs.BucketLaws.{tick_low, bucket_rises, next_tick}
use Rattle.crq_rule.proofs.Frames.{frame_current}
use Rattle.crq_rule.proofs.HeadLaws.{below_or_not}
use Rattle.crq_rule.proofs.HistoryLaws.{settled_put}
use Rattle.crq_rule.proofs.SearchLaws.{own_walk, walk_beyond, past_none}
use Rattle.crq_rule.proofs.WalkerLaws.{walkers_current, walkers_rest}

-- what isn't after current isn't after the next bucket
still_before : (x : Control) (a y : Current) → NotAfter a y → NotAfter a (next_position x y)
still_before x a y low = ⊎_elim inl (λ same. let later = next_tick (shape_of x) y.tick in let high = same.1 in inr (same.0, omega arith)) low

-- nor is it the next bucket
raised_new : (x : Control) (a y : Current) → NotAfter a y → a ≡ next_position x y → ⊥
raised_new x a y low is = let epoch = ap (λ (z : Current). z.epoch) is in let tick = ap (λ (z : Current). z.tick) is in let later = next_tick (shape_of x) y.tick in ⊎_elim (λ l. omega arith) (λ s. let high = s.1 in omega arith) low

-- an event that was put before the take read its table, and isn't out, isn't of the bucket that was walked
none_left : (c : Core) → Inv c → (j : ℕ) (x : Control) (y : Current) → j < c.start.layout.workers → MayRaise x y (caller_of c j) → (e : Event) → Contains (puts (take (c.read j) c.history)) e → (Contains (outs c.history) e → ⊥)
    → bucket (shape_of x) e.time ≡ bucket (shape_of x) y.tick → ⊥
none_left c inv j x y b may e read kept same = let w = may.walks.0 in let u = bucket (shape_of x) y.tick in let s : Sight = record { table = x; current = y } in
    let high : bucket (shape_of x) e.time ≤ u = omega arith in let at = (own_walk c inv j s w b may.sight may.walks.1).of u may.walks.2 in
    let beyond = walk_beyond c inv j s w e b may.sight may.walks.1 (ap (head_for x.generation (shape_of x)) same ∙ sym at.1) (subst (λ o. IsSought o (bucket (shape_of x) e.time)) (sym may.walks.2) high) read kept in
    past_none c inv j u (shape_of x) w e b may.walks.3 beyond high

-- the table that the take saw is open, since current is what it was then
seen_now : (c : Core) → Inv c → (j : ℕ) (x : Control) (y : Current) → j < c.start.layout.workers → MayRaise x y (caller_of c j) → c.words.current ≡ y → x.generation ≡ c.words.control.generation
seen_now c inv j x y b may is = let s : Sight = record { table = x; current = y } in let low = (inv.finds.sights j s b may.sight).0.low in ⊎_elim
    (λ (past : x.generation < c.words.control.generation). let before = inv.ends.older j may.walks.0 s b may.walks.1 may.sight past in let same = ap (λ (z : Current). z.epoch) is in absurd (omega arith))
    (λ (now : c.words.control.generation ≤ x.generation). omega arith) (below_or_not x.generation c.words.control.generation)

-- what was put since the take read its table, and is settled, is of a later bucket
later_since : (c : Core) → Inv c → (j : ℕ) (x : Control) (y : Current) → j < c.start.layout.workers → MayRaise x y (caller_of c j) → c.words.current ≡ y → (e : Event) → Contains (puts (drop (c.read j) c.history)) e → Contains (settleds c.history) e
    → bucket (shape_of x) y.tick < bucket (shape_of x) e.time
later_since c inv j x y b may is e put settled = let s : Sight = record { table = x; current = y } in
    (inv.walkers.seen j s b may.sight).ahead (sym is) (seen_now c inv j x y b may is) e put settled

raise_ahead : (c : Core) (j : ℕ) (x : Control) (y : Current) → Inv c → j < c.start.layout.workers → MayRaise x y (caller_of c j) → c.words.current ≡ y → Ahead c.history (next_position x y)
raise_ahead c j x y inv b may is = record {
  each = λ e settled kept. tick_low (shape_of x) (bucket (shape_of x) y.tick + 1) e.time (⊎_elim
      (λ (before : Contains (puts (take (c.read j) c.history)) e).
      let low = bucket_rises (shape_of x) y.tick e.time (subst (λ (z : Current). z.tick ≤ e.time) is (inv.ahead.each e settled kept)) in
      let no : ¬ (bucket (shape_of x) e.time ≡ bucket (shape_of x) y.tick) = none_left c inv j x y b may e before kept in omega arith)
      (λ (later : Contains (puts (drop (c.read j) c.history)) e). let high = later_since c inv j x y b may is e later settled in omega arith)
      (take_or_drop put_of (c.read j) c.history e (settled_put c.history inv.told.legal e settled)));
}

pub raise_keeps : (c : Core) (j : ℕ) (x : Control) (y : Current) → j < c.start.layout.workers → MayRaise x y (caller_of c j) → c.words.current ≡ y → Inv c → Inv (raised c j x y)
raise_keeps c j x y b may is inv = frame_current c (next_position x y) c.permit (put c.walk j None) inv
    record {
      is_control = inv.spelled.is_control;
      is_current = record { epoch = (let low = inv.spelled.is_current.epoch in let same = ap (λ (z : Current). z.epoch) is in omega arith); tick = may.room };
      is_pin = inv.spelled.is_pin;
      heads = inv.spelled.heads;
      links = inv.spelled.links;
      twins = inv.spelled.twins;
      events = inv.spelled.events;
    }
    record {
      controls = inv.finds.controls;
      currents = λ k a b found. still_before x a y (subst (NotAfter a) is (inv.finds.currents k a b found));
      sights = inv.finds.sights;
      views = λ k s b sees. still_before x s.current y (subst (NotAfter s.current) is (inv.finds.views k s b sees));
    }
    (walkers_rest (record (present_of c) { current = next_position x y }) (takes_of c) _ _ j (walkers_current (present_of c) (takes_of c) _ _ c.words.control.generation (next_position x y)
    (λ k s b sees same. absurd (raised_new x s.current y (subst (NotAfter s.current) is (inv.finds.views k s b sees)) same)) inv.walkers))
    (raise_ahead c j x y inv b may is)
    (subst (λ (z : Current). Bounds c.start c.words.control (next_position x z) c.words.pin c.history c.settling c.permit) is (bounds_current _ _ _ _ _ _ _ (next_position x c.words.current) (le_refl _) (le_refl _) inv.bounds))
    (ends_current c inv (next_position x y) (put c.walk j None) (let same = ap (λ (z : Current). z.epoch) is in omega arith) (walks_end c inv j))
