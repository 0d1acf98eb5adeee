-- A caller that settles an event which it owes keeps the invariant.
use Rattle.std.proofs.Common.{◌≡◌, ◌≢◌, ⊎_elim, inl, Bool, true, false, ℕ, ◌+◌, ◌<◌, ◌≤◌, List, [], ◌∷◌, ◌++◌, drop, Option, Some, None, sym, refl, ap, ◌∙◌, subst, arith, le_refl}
use Rattle.std.proofs.lemmas.Bool.{ltb-true, ltb-false}
use Rattle.std.proofs.lemmas.Option.{same_Some}
use Rattle.std.specs.List.{Contains}
use mathlib.Core.Logic.{dite}
use native.Mathlib.Decide.{ℕ_discrete}
use Rattle.crq_base.specs.declared.event.Event.{Event}
use Rattle.crq_base.specs.declared.entry.Entry.{Entry}
use Rattle.crq_base.specs.declared.entry.Entry.TheVariants.{Begin, Put, Settled}
use Rattle.crq_base.specs.declared.words.Current.{Current}
use Rattle.crq_base.specs.Histories.{put_of, settled_of, taken_of, puts, settleds, MayFollow}
use Rattle.crq_base.specs.Lists.{In}
use Rattle.crq_base.proofs.Elements.{in_left, in_contains}
use Rattle.crq_rule.specs.declared.debts.SettleDebt.{SettleDebt}
use Rattle.crq_rule.specs.declared.view.Sight.{Sight}
use Rattle.crq_rule.specs.Lists.{put}
use Rattle.crq_rule.specs.Core.{Core, caller_of}
use Rattle.crq_rule.specs.Parts.{NotAfter, Spelled, Finds}
use Rattle.crq_rule.specs.Ranks.{Shape, bucket, shape_of}
use Rattle.crq_rule.specs.Ahead.{Ahead}
use Rattle.crq_rule.specs.HistoryParts.{Settling, Present, Walkers}
use Rattle.crq_rule.specs.Bounds.{Bounds}
use Rattle.crq_rule.specs.Ending.{Ends}
use Rattle.crq_rule.specs.CurrentKinds.{owed_shape, lies_ahead, owed_position, event_settled, settled_back, MaySettle}
use Rattle.crq_rule.specs.Invariant.{present_of, takes_of, ending_of, Inv}
use Rattle.crq_rule.proofs.Puts.{put_else, put_all}
use Rattle.crq_rule.proofs.Prefixes.{of_front, of_back, of_both, in_drop}
use Rattle.crq_rule.proofs.Pendings.{puts_apart}
use Rattle.crq_rule.proofs.BoundLaws.{numbers_grown, bounds_grown, bounds_less, bounds_used, permitted}
use Rattle.crq_rule.proofs.BucketLaws.{tick_low, bucket_rises, same_bucket}
use Rattle.crq_rule.proofs.CopyLaws.{unlinked_grown}
use Rattle.crq_rule.proofs.Frames.{frame_moved}
use Rattle.crq_rule.proofs.EndLaws.{ends_current, same_walks}
use Rattle.crq_rule.proofs.AheadLaws.{ahead_more}
use Rattle.crq_rule.proofs.CallLaws.{carriers_same}
use Rattle.crq_rule.proofs.HistoryLaws.{only, told_other}
use Rattle.crq_rule.proofs.WalkerLaws.{AllAhead, walkers_more, walkers_current, walkers_owing}
use Rattle.crq_rule.proofs.ScarceLaws.{scarce_grown, refusals_grown}
use Rattle.crq_rule.proofs.SweepLaws.{swept_grown}

none_debt : (d : SettleDebt) → None ≡ Some d → ⊥
none_debt d e = cc

settled_begin : (j k : ℕ) (e : Event) → Settled j e ≡ Begin k → ⊥
settled_begin j k e q = cc

no_begin : (j k : ℕ) (e : Event) → In (Begin k) (Settled j e ∷ []) → ⊥
no_begin j k e i = ⊎_elim (λ (q : Begin k ≡ Settled j e). settled_begin j k e (sym q)) (λ n. n) i

nothing : {e : Event} → Contains [] e → ⊥
nothing h = let k = h.1 in absurd (omega arith)

-- what is owed still was owed, by another caller
still_owed : (settling : ℕ → Option SettleDebt) (j k : ℕ) (f : SettleDebt) → put settling j None k ≡ Some f → (settling k ≡ Some f) × (k ≢ j)
still_owed settling j k f = put_all settling j None (λ k o. o ≡ Some f → (settling k ≡ Some f) × (k ≢ j)) (λ n. absurd (none_debt f n)) (λ k ne is. (is, ne)) k

-- one event that was owed is settled
settling_less : (n : ℕ) (history : List Entry) (settling : ℕ → Option SettleDebt) (j : ℕ) (d : SettleDebt) → j < n → settling j ≡ Some d → Settling n history settling → Settling n (history ++ Settled j d.event ∷ []) (put settling j None)
settling_less n history settling j d b owes old = record {
  owed = λ k f c is. let was = still_owed settling j k f is in let o = old.owed k f c was.0 in (
    in_left (Put k f.event) history (Settled j d.event ∷ []) o.0,
    λ s. ⊎_elim o.1 (λ new. was.1 (old.lone k j f d c b was.0 owes (only d.event f.event new))) (of_both settled_of history (Settled j d.event ∷ []) f.event s),
  );
  unsettled = λ e put left. ⊎_elim
      (λ was. let o = old.unsettled e was (λ s. left (of_front settled_of history (Settled j d.event ∷ []) e s)) in
      let ne : o.0 ≢ j = λ same. left (of_back settled_of history (Settled j d.event ∷ []) e (settled_here (ap (λ (f : SettleDebt). f.event) (same_Some d o.2.0 (sym owes ∙ (ap settling (sym same) ∙ o.2.1))) ∙ o.2.2))) in
      (o.0, o.1, (o.2.0, put_else settling j None o.0 ne ∙ o.2.1, o.2.2)))
      (λ new. absurd (nothing new)) (of_both put_of history (Settled j d.event ∷ []) e put);
  lone = λ i k f g a c is other same. old.lone i k f g a c (still_owed settling j i f is).0 (still_owed settling j k g other).0 same;
}
  where
    settled_here : {e : Event} → d.event ≡ e → Contains (settleds (Settled j d.event ∷ [])) e
    settled_here same = (0, omega arith, same)

-- that the event may be settled
settled_legal : (c : Core) (j : ℕ) (d : SettleDebt) → j < c.start.layout.workers → c.settling j ≡ Some d → Inv c → MayFollow c.history (Settled j d.event)
settled_legal c j d b owes inv = let o = inv.settling.owed j d b owes in (in_contains (Put j d.event) c.history o.0, o.1)

-- No settled event is behind current

-- an event that lies ahead of current isn't before it
ahead_time : (d : SettleDebt) (y : Current) → lies_ahead d y ≡ true → y.tick ≤ d.event.time
ahead_time d y is = let less = ltb-true (bucket (owed_shape d) y.tick) (bucket (owed_shape d) d.event.time) is in
    let no : ¬ (d.event.time < y.tick) = λ (l : d.event.time < y.tick). let r = bucket_rises (owed_shape d) d.event.time y.tick (omega arith) in omega arith in omega arith

-- where an event isn't ahead, current goes to its bucket, and so not on
back_low : (d : SettleDebt) (y : Current) → lies_ahead d y ≡ false → (owed_position d y).tick ≤ y.tick
back_low d y is = tick_low (owed_shape d) (bucket (owed_shape d) d.event.time) y.tick (let low = ltb-false (bucket (owed_shape d) y.tick) (bucket (owed_shape d) d.event.time) is in omega arith)

settle_ahead : (history : List Entry) (j : ℕ) (d : SettleDebt) (y current : Current) → lies_ahead d y ≡ false → current ≡ y → Ahead history current → Ahead (history ++ Settled j d.event ∷ []) (owed_position d y)
settle_ahead history j d y current behind is old = record {
  each = λ e settled kept. ⊎_elim
      (λ was. let far = old.each e was (λ o. kept (of_front taken_of history (Settled j d.event ∷ []) e o)) in let low = back_low d y behind in let same = ap (λ (z : Current). z.tick) is in omega arith)
      (λ new. let same = ap (λ (z : Event). z.time) (only d.event e new) in let low = tick_low (owed_shape d) (bucket (owed_shape d) d.event.time) d.event.time (le_refl _) in omega arith)
      (of_both settled_of history (Settled j d.event ∷ []) e settled);
}

-- What takes see

-- what isn't after current isn't where current is moved back to
moved_new : (d : SettleDebt) (a y : Current) → NotAfter a y → a ≡ owed_position d y → ⊥
moved_new d a y low is = let same = ap (λ (z : Current). z.epoch) is in ⊎_elim (λ l. omega arith) (λ s. let e = s.0 in omega arith) low

module _ (c : Core) (j : ℕ) (d : SettleDebt) (b : j < c.start.layout.workers) (owes : c.settling j ≡ Some d) (inv : Inv c) where
  -- an event that lies ahead is of a later bucket of the open table, if it was put since a take read that: it isn't owed to an older one
  settled_later : lies_ahead d c.words.current ≡ true → (k : ℕ) (s : Sight) → k < c.start.layout.workers → c.sight k ≡ Some s → s.current ≡ c.words.current → s.table.generation ≡ c.words.control.generation
      → Contains (puts (drop (c.read k) c.history)) d.event → bucket (shape_of s.table) s.current.tick < bucket (shape_of s.table) d.event.time
  settled_later is k s e sees same table since = let due = inv.dues.settles j d b owes in dite (ℕ_discrete d.generation c.words.control.generation)
      (λ (now : d.generation ≡ c.words.control.generation).
      let width : (owed_shape d).shift ≡ (shape_of s.table).shift = due.shift ∙ (ap (λ g. (c.shape g).shift) (now ∙ sym table) ∙ ap (λ (z : Shape). z.shift) (inv.finds.sights k s e sees).0.size) in
      let less = ltb-true (bucket (owed_shape d) c.words.current.tick) (bucket (owed_shape d) d.event.time) is in
      let at = ap (λ (z : Current). bucket (shape_of s.table) z.tick) same ∙ sym (same_bucket (owed_shape d) (shape_of s.table) c.words.current.tick width) in
      let to = same_bucket (owed_shape d) (shape_of s.table) d.event.time width in omega arith)
      (λ ne. let low = due.generation in let less : d.generation < s.table.generation = omega arith in
      absurd (puts_apart (c.read k) c.history d.event inv.told.legal ((inv.walkers.seen k s e sees).owed j d b owes less) since))

  -- so all that was put since and is settled is of a later one
  settled_all : lies_ahead d c.words.current ≡ true → AllAhead (record (present_of c) { history = c.history ++ Settled j d.event ∷ [] }) (takes_of c)
  settled_all is k s e sees same table f put settled = let more : List Entry = Settled j d.event ∷ [] in let v = inv.walkers.seen k s e sees in
      let since : Contains (puts (drop (c.read k) c.history)) f = ⊎_elim (λ i. i) (λ n. absurd (nothing n)) (in_drop put_of (c.read k) c.history more f v.after.1 put) in ⊎_elim
      (λ was. v.ahead same table f since was)
      (λ new. let here : f ≡ d.event = only d.event f new in subst (λ (z : Event). bucket (shape_of s.table) s.current.tick < bucket (shape_of s.table) z.time) (sym here)
      (settled_later is k s e sees same table (subst (Contains (puts (drop (c.read k) c.history))) here since)))
      (of_both settled_of c.history more f settled)

  -- the event isn't owed any more
  owed_less : (now : Present) → now.workers ≡ c.start.layout.workers → now.settling ≡ c.settling → Walkers now (takes_of c) c.words.link c.words.event → Walkers (record now { settling = put c.settling j None }) (takes_of c) c.words.link c.words.event
  owed_less now n same old = walkers_owing now _ _ _ (put c.settling j None) (λ i f _ is. inl (ap (λ g. g i) same ∙ (still_owed c.settling j i f is).0)) old

  walkers_settled : lies_ahead d c.words.current ≡ true → Walkers (present_of (event_settled c j d)) (takes_of c) c.words.link c.words.event
  walkers_settled is = owed_less (record (present_of c) { history = c.history ++ Settled j d.event ∷ [] }) refl refl (walkers_more (present_of c) _ _ _ (Settled j d.event ∷ []) (settled_all is) inv.walkers)

  -- where current moves back no take saw it there
  walkers_back : Walkers (record (present_of (event_settled c j d)) { current = owed_position d c.words.current }) (takes_of c) c.words.link c.words.event
  walkers_back = let y = owed_position d c.words.current in let none : (k : ℕ) (s : Sight) → k < c.start.layout.workers → c.sight k ≡ Some s → s.current ≡ y → ⊥ = λ k s e sees. moved_new d s.current c.words.current (inv.finds.views k s e sees) in
      owed_less (record (present_of c) { current = y; history = c.history ++ Settled j d.event ∷ [] }) refl refl
      (walkers_more (record (present_of c) { current = y }) _ _ _ (Settled j d.event ∷ []) (λ k s e sees same. absurd (none k s e sees same))
      (walkers_current (present_of c) _ _ _ c.words.control.generation y (λ k s e sees same. absurd (none k s e sees same)) inv.walkers))

-- The invariant

module _ (c : Core) (j : ℕ) (d : SettleDebt) (b : j < c.start.layout.workers) (owes : c.settling j ≡ Some d) (inv : Inv c) where
  -- the history and what is known of it, wherever current is then, and whatever permits there are
  settled_inv : (current : Current) (permit : ℕ → Bool)
      → Spelled c.start.layout c.words.control current c.words.pin c.words.head c.words.link c.words.twin c.words.event
      → Finds c.start c.words.control c.shape current c.found c.sight
      → Walkers (record (present_of (event_settled c j d)) { current = current }) (takes_of c) c.words.link c.words.event
      → Ahead (c.history ++ Settled j d.event ∷ []) current
      → Bounds c.start c.words.control current c.words.pin (c.history ++ Settled j d.event ∷ []) (put c.settling j None) permit
      → Ends (record (ending_of c) { current = current })
      → Inv (record (event_settled c j d) { words = record c.words { current = current }; permit = permit })
  settled_inv current permit spelled finds walkers ahead bounds ends = let x : Entry = Settled j d.event in frame_moved c (record (event_settled c j d) { permit = permit }) current inv spelled finds
      record { settles = λ k f b is. inv.dues.settles k f b (still_owed c.settling j k f is).0; copies = inv.dues.copies; named = inv.dues.named }
      inv.steady
      (carriers_same _ _ x _ _ _ _ refl refl inv.carriers)
      (told_other _ _ _ _ _ j x b (settled_legal c j d b owes inv) refl refl (λ k. settled_begin j k d.event) inv.told)
      (numbers_grown _ _ _ (x ∷ []) inv.numbers)
      (settling_less _ _ _ j d b owes inv.settling)
      walkers
      ahead
      (scarce_grown _ _ _ _ _ _ _ (λ k. no_begin j k d.event) inv.scarce)
      (refusals_grown _ _ _ _ (λ k. no_begin j k d.event) inv.refusals)
      (swept_grown _ _ _ _ _ _ _ (λ k. no_begin j k d.event) inv.swept)
      bounds
      inv.helps
      (unlinked_grown _ _ _ (x ∷ []) (λ k. no_begin j k d.event) inv.unlinked)
      ends

-- current isn't behind the event
pub settled_keeps : (c : Core) (j : ℕ) (d : SettleDebt) → j < c.start.layout.workers → c.settling j ≡ Some d → lies_ahead d c.words.current ≡ true → Inv c → Inv (event_settled c j d)
settled_keeps c j d b owes is inv = settled_inv c j d b owes inv c.words.current c.permit inv.spelled inv.finds (walkers_settled c j d b owes inv is)
    (ahead_more c.history (Settled j d.event ∷ []) c.words.current (λ e new. let low = ahead_time d c.words.current is in let same = ap (λ (z : Event). z.time) (only d.event e new) in omega arith) inv.ahead)
    (bounds_less _ _ _ _ _ _ _ j (bounds_grown _ _ _ _ _ _ _ (Settled j d.event ∷ []) refl inv.bounds))
    inv.ends

-- the epoch rises, so what isn't after current isn't after that
still_before : (d : SettleDebt) (a y : Current) → NotAfter a y → NotAfter a (owed_position d y)
still_before d a y low = ⊎_elim (λ l. inl (omega arith)) (λ same. let e = same.0 in inl (omega arith)) low

-- current moves back
pub settle_keeps : (c : Core) (j : ℕ) (d : SettleDebt) (y : Current) → j < c.start.layout.workers → MaySettle d y (caller_of c j) → c.words.current ≡ y → Inv c → Inv (settled_back c j d y)
settle_keeps c j d y b may is inv = settled_inv c j d b may.owes inv (owed_position d y) (put c.permit j false)
    record {
      is_control = inv.spelled.is_control;
      is_current = record { epoch = (let left = permitted _ _ _ _ _ _ _ j b may.permit inv.bounds in let same = ap (λ (z : Current). z.epoch) is in omega arith); tick = (let low = tick_low (owed_shape d) (bucket (owed_shape d) d.event.time) d.event.time (le_refl _) in let top = may.time in omega arith) };
      is_pin = inv.spelled.is_pin;
      heads = inv.spelled.heads;
      links = inv.spelled.links;
      twins = inv.spelled.twins;
      events = inv.spelled.events;
    }
    record {
      controls = inv.finds.controls;
      currents = λ k a b found. still_before d a y (subst (NotAfter a) is (inv.finds.currents k a b found));
      sights = inv.finds.sights;
      views = λ k s b sees. still_before d s.current y (subst (NotAfter s.current) is (inv.finds.views k s b sees));
    }
    (subst (λ z. Walkers (record (present_of (event_settled c j d)) { current = owed_position d z }) (takes_of c) c.words.link c.words.event) is (walkers_back c j d b may.owes inv))
    (settle_ahead c.history j d y c.words.current may.behind is inv.ahead)
    (bounds_used _ _ _ _ _ _ _ j (owed_position d y) d.event b may.permit (ap (λ (z : Current). z.epoch + 1) (sym is)) inv.bounds)
    (ends_current c inv (owed_position d y) c.walk (let same = ap (λ (z : Current). z.epoch) is in omega arith) (same_walks c inv))
