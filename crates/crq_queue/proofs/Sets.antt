-- What the calls of a calendar say of it as a set.
use Rattle.std.proofs.Common.{◌≡◌, ◌⊎◌, ⊎_elim, inl, inr, ℕ, zero, suc, ◌<◌, ◌≤◌, ◌*◌, List, [], ◌∷◌, ◌++◌, length, Option, Some, None, Result, Ok, Err, refl, sym, ap, ◌∙◌, subst, arith, length-set}
use Rattle.std.proofs.lemmas.List.{length-map}
use Rattle.std.specs.Prelude.{slice_get, slice_set, IfOk, IfErr, OnOk}
use Rattle.crq_base.specs.declared.event.Event.{Event}
use Rattle.crq_base.specs.declared.entry.Entry.{Entry}
use Rattle.crq_base.specs.declared.entry.Entry.TheVariants.{Begin, Put, Settled, Take, Miss}
use Rattle.crq_base.specs.declared.answers.TakeEnd.{TakeEnd}
use Rattle.crq_base.specs.declared.answers.TakeEnd.TheVariants.{Taken, Missed}
use Rattle.crq_base.specs.declared.answers.Short.{Short}
use Rattle.crq_base.specs.declared.answers.Short.TheVariants.{Rows, Epochs, Memory}
use Rattle.crq_rule.specs.declared.pass.Pass.{Pass}
use Rattle.crq_rule.specs.declared.pass.Table.{Table}
use Rattle.crq_rule.specs.declared.pass.Seating.{Seating}
use Rattle.crq_rule.specs.declared.pass.Seating.TheVariants.{Here, Resting, Lifted}
use Rattle.crq_rows.specs.Passes.{caller, IsPassOf}
use Rattle.crq_set.specs.Views.{PassView, MayPut}
use Rattle.crq_set.specs.Answers.{Adds as AddsIn, AddsBegun as AddsBegunIn, LacksEpochs as LacksEpochsIn, Puts, Takes, PutGaveUp, TakeGaveUp}
use Rattle.crq_set.specs.Gathered.{AreThere, StandsIn, Gathers, IsDealt as IsDealtIn, Deals}
use Rattle.crq_queue.specs.declared.calendar.Whole.{Whole}
use Rattle.crq_queue.specs.Sets.{setup_of, first_view, pass_view, place_view, place_views, IsPlaced, ArePlaced}
use Rattle.crq_queue.specs.Waits.{MayPut as MayPutBy, Adds, AddsBegun, PutAdded, TakeAdded}
use Rattle.crq_queue.specs.Wholes.{MayGather, AreResting, IsGathered, AreDealt, history_of}
use Rattle.crq_queue.proofs.Gathers.{pass_at}
use Rattle.crq_queue.proofs.Waits.{begins_snoc, settles_none}
use Rattle.crq_queue.proofs.Wholes.{place_within}

-- what the pass's caller knows
abbrev view_by : Table → Pass → PassView
view_by table pass = record (first_view (caller table pass ∷ [])) { number = pass.number }

-- it is what is known of the pass
view_is : (table : Table) (pass : Pass) → IsPassOf table pass → pass_view pass ≡ view_by table pass
view_is table pass is = ap (λ ps. record (first_view ps) { number = pass.number }) is.sits.one

pub may_put : (table : Table) (pass : Pass) (e : Event) → IsPassOf table pass → MayPut (setup_of table) (pass_view pass) e → MayPutBy table pass e
may_put table pass e is may = subst (λ v. MayPut (setup_of table) v e) (view_is table pass is) may

-- Calls

module _ (table : Table) (old new : Pass) (may : MayGather table old) where
  adds_in : (entries : List Entry) → Adds table old new entries → AddsIn (pass_view old) (pass_view new) entries
  adds_in entries adds =
      let p : PassView = view_by table old in let q : PassView = view_by table new in
      let both : AddsIn p q entries = record { number = adds.number; span = ap (λ d. d.span) adds.deal; dealt = ap (λ d. d.history) adds.deal; own = adds.own; tables = adds.told.tables; settled = adds.told.settled } in
      subst (λ v. AddsIn v (pass_view new) entries) (sym (view_is table old may.rests.is)) (subst (λ v. AddsIn p v entries) (sym (view_is table new adds.rests.is)) both)

  -- it owed no event, so a call adds no other Settled
  begun_in : (entries : List Entry) → AddsBegun table old new entries → AddsBegunIn (pass_view old) (pass_view new) entries
  begun_in entries added = let more : List Entry = added.0 ++ (Begin old.number ∷ entries) in
      (added.0, added.1, adds_in more (subst (λ es. Adds table old new (es ++ more)) (settles_none old may.settled) added.2))

  pub put_puts : (e : Event) (result : Result (Unit {0}) Short) → PutAdded table e old new result → OnOk result (Puts (pass_view old) (pass_view new) e)
  put_puts e (Ok u) added = begun_in (Put old.number e ∷ Settled old.number e ∷ []) added
  put_puts e (Err short) added = tt

  not_none : (entries : List Entry) (x : Entry) → entries ++ x ∷ [] ≡ [] → ⊥
  not_none [] x is = cc
  not_none (y ∷ entries) x is = cc

  -- a put that gave up had begun in its last try
  pub put_gives_up : (e : Event) (result : Result (Unit {0}) Short) → PutAdded table e old new result → IfErr result (PutGaveUp (setup_of table) (pass_view old) (pass_view new))
  put_gives_up e (Ok u) added = tt
  put_gives_up e (Err Rows) added =
      let begun = begun_in [] added.0 in let counts = added.1 in (
        begun.0 ++ Begin old.number ∷ [],
        begins_snoc old.number begun.0 begun.1,
        begun.2,
        λ none. absurd (not_none begun.0 (Begin old.number) none),
        subst (λ v. table.start.layout.rows ≤ 2 * length v.refused) (sym (view_is table new added.0.2.rests.is)) counts.3,
      )
  put_gives_up e (Err Epochs) added =
      let begun = begun_in [] added.0 in (
        (begun.0 ++ Begin old.number ∷ [], begins_snoc old.number begun.0 begun.1, begun.2),
        subst (λ v. LacksEpochsIn (setup_of table) v) (sym (view_is table new added.0.2.rests.is)) added.1,
      )
  put_gives_up e (Err Memory) added = absurd added

  pub take_takes : (limit : ℕ) (result : Result TakeEnd Short) → TakeAdded table limit old new result → IfOk result (Takes (pass_view old) (pass_view new) limit)
  take_takes limit (Ok (Taken e route)) added = (added.1, begun_in (Take old.number e ∷ []) added.0)
  take_takes limit (Ok Missed) added = begun_in (Miss old.number limit ∷ []) added
  take_takes limit (Err short) added = absurd added

  pub take_gives_up : (limit : ℕ) (result : Result TakeEnd Short) → TakeAdded table limit old new result → IfErr result (TakeGaveUp (setup_of table) (pass_view old) (pass_view new))
  take_gives_up limit (Ok end) added = tt
  take_gives_up limit (Err short) added = absurd added

-- Places

pub view_at : (places : List Seating) (k : ℕ) (place : Seating) → slice_get places k ≡ Some place → slice_get (place_views places) k ≡ Some (place_view place)
view_at [] k place e = absurd (cc)
view_at (x ∷ xs) zero place e = ap (λ p. Some (place_view p)) (let same : x ≡ place = cc in same)
view_at (x ∷ xs) (suc k) place e = view_at xs k place e

-- what is known of a place is known of what is there
pub viewed_at : (places : List Seating) (k : ℕ) (v : Option PassView) → slice_get (place_views places) k ≡ Some v → ((place : Seating) × (slice_get places k ≡ Some place) × (place_view place ≡ v))
viewed_at [] k v e = absurd (cc)
viewed_at (x ∷ xs) zero v e = (x, refl, (cc))
viewed_at (x ∷ xs) (suc k) v e = viewed_at xs k v e

set_views : (places : List Seating) (k : ℕ) (place : Seating) → place_views (slice_set places k place) ≡ slice_set (place_views places) k (place_view place)
set_views [] k place = refl
set_views (x ∷ xs) zero place = refl
set_views (x ∷ xs) (suc k) place = ap (λ vs. place_view x ∷ vs) (set_views xs k place)

set_at : (places : List Seating) (j k : ℕ) (there here : Seating) → slice_get (slice_set places j there) k ≡ Some here → ((k ≡ j) × (here ≡ there)) ⊎ (slice_get places k ≡ Some here)
set_at [] j k there here e = inr e
set_at (x ∷ xs) zero zero there here e = inl (refl, (cc))
set_at (x ∷ xs) zero (suc k) there here e = inr e
set_at (x ∷ xs) (suc j) zero there here e = inr e
set_at (x ∷ xs) (suc j) (suc k) there here e = ⊎_elim (λ s. inl (ap suc s.0, s.1)) inr (set_at xs j k there here e)

-- where a pass is known, it is there
here : (place : Seating) (v : PassView) → place_view place ≡ Some v → ((pass : Pass) × (place ≡ Here pass) × (pass_view pass ≡ v))
here (Here pass) v is = (pass, refl, (cc))
here (Resting rest) v is = absurd (cc)
here Lifted v is = absurd (cc)

pub pass_there : (places : List Seating) (k : ℕ) (v : PassView) → slice_get (place_views places) k ≡ Some (Some v) → ((pass : Pass) × (slice_get places k ≡ Some (Here pass)) × (pass_view pass ≡ v))
pass_there places k v e = let at = viewed_at places k (Some v) e in let h = here at.0 v at.2 in (h.0, at.1 ∙ ap (λ p. Some p) h.1, h.2)

module _ (table : Table) (places : List Seating) (placed : ArePlaced table places) where
  -- a place where no pass is known is free, since no caller rests there
  free : (k : ℕ) (place : Seating) → IsPlaced table k place → place_view place ≡ None → place ≡ Lifted
  free k (Here pass) is none = absurd (cc)
  free k (Resting rest) is none = absurd is
  free k Lifted is none = refl

  pub is_free : (k : ℕ) → slice_get (place_views places) k ≡ Some None → slice_get places k ≡ Some Lifted
  is_free k e = let at = viewed_at places k None e in at.1 ∙ ap (λ p. Some p) (free k at.0 (placed.each k at.0 at.1) at.2)

  pub all_rest : AreThere table.start.layout.workers (place_views places) → AreResting table places
  all_rest there = record { wide = placed.wide; each = λ k below. let t = there k below in let at = pass_there places k t.0 t.1 in let r = placed.each k (Here at.0) at.1 in (at.0, at.1, r.0, r.1) }

  pub set_placed : (j : ℕ) (place : Seating) → IsPlaced table j place → ArePlaced table (slice_set places j place)
  set_placed j place is = record {
    wide = length-set places j place ∙ placed.wide;
    each = λ k p e. ⊎_elim (λ (s : (k ≡ j) × (p ≡ place)). subst (λ q. IsPlaced table k q) (sym s.1) (subst (λ i. IsPlaced table i place) (sym s.0) is)) (placed.each k p) (set_at places j k place p e);
  }

-- Gathering and dealing

pub gathers : (table : Table) (places : List Seating) (whole : Whole) → AreResting table places → IsGathered table places whole → Gathers table.start.layout.workers (place_views places) (history_of whole)
gathers table places whole all g = record { legal = g.legal; settled = g.settled; since = g.since; inside = g.inside; each = each }
  where
    each : (k : ℕ) (v : PassView) → slice_get (place_views places) k ≡ Some (Some v) → StandsIn (history_of whole) g.since k v
    each k v e =
        let at = pass_there places k v e in let pass : Pass = at.0 in
        let below : k < table.start.layout.workers = (let w = all.wide in let b = place_within places k (Here pass) at.1 in omega arith) in
        let rests = (pass_at table places all k pass below at.1).1.rests in let own = g.each k pass at.1 in
        let known : StandsIn (history_of whole) g.since k (view_by table pass) = record { extends = own.0; own = own.1; refused = g.refused k pass at.1; tables = g.tables k pass at.1; settled = g.raising k pass at.1 } in
        subst (StandsIn (history_of whole) g.since k) (sym (view_is table pass rests.is) ∙ at.2) known

pub deals : (table : Table) (whole : Whole) (span : ℕ) (places : List Seating) → AreResting table places → AreDealt table whole span places → Deals table.start.layout.workers (history_of whole) span (place_views places)
deals table whole span places all dealt = record { count = length-map places place_view ∙ all.wide; each = each }
  where
    each : (k : ℕ) → k < table.start.layout.workers → (v : PassView) × (slice_get (place_views places) k ≡ Some (Some v)) × IsDealtIn (history_of whole) span k v
    each k below =
        let r = all.each k below in let pass : Pass = r.0 in let d = dealt.each k pass r.1 in
        let known : IsDealtIn (history_of whole) span k (view_by table pass) =
        record { number = d.number; sources = ap (λ x. x.span) d.deal; dealt = ap (λ x. x.history) d.deal; own = d.own; tables = ap (λ t. t.tables) d.told; settled = ap (λ t. t.settled) d.told } in
        (pass_view pass, view_at places k (Here pass) r.1, subst (IsDealtIn (history_of whole) span k) (sym (view_is table pass r.3.rests.is)) known)

pub rest_placed : (table : Table) (places : List Seating) → AreResting table places → ArePlaced table places
rest_placed table places all = record { wide = all.wide; each = each }
  where
    each : (k : ℕ) (place : Seating) → slice_get places k ≡ Some place → IsPlaced table k place
    each k place e =
        let below : k < table.start.layout.workers = (let w = all.wide in let b = place_within places k place e in omega arith) in
        let r = all.each k below in let same : place ≡ Here r.0 = (let at = r.1 in cc) in
        subst (IsPlaced table k) (sym same) (r.2, r.3)

-- Lifting and lowering

module _ (table : Table) (old new : List Seating) (placed : ArePlaced table old) where
  pub lift_placed : (k : ℕ) → new ≡ slice_set old k Lifted → ArePlaced table new
  lift_placed k now = subst (ArePlaced table) (sym now) (set_placed table old placed k Lifted tt)

  pub lower_placed : (pass : Pass) → MayGather table pass → new ≡ slice_set old pass.number (Here pass) → ArePlaced table new
  lower_placed pass may now = subst (ArePlaced table) (sym now) (set_placed table old placed pass.number (Here pass) (refl, may))

pub views_set : (old new : List Seating) (k : ℕ) (place : Seating) → new ≡ slice_set old k place → place_views new ≡ slice_set (place_views old) k (place_view place)
views_set old new k place now = ap place_views now ∙ set_views old k place
