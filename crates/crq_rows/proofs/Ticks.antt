-- What each step of an attempt to raise the epoch tells.
use Rattle.std.proofs.Common.{◌≡◌, ◌≢◌, ◌⊎◌, ⊎_elim, inl, inr, ℕ, ◌+◌, ◌<◌, ◌≤◌, ◌^◌, List, ◌∷◌, Option, Some, None, cond, eqb, sym, refl, ap, ◌∙◌, subst, arith, length, true, false, eq-eqb, ne_eqb}
use Rattle.std.proofs.lemmas.Bool.{false≢true}
use mathlib.Core.Logic.{dite}
use native.Mathlib.Decide.{ℕ_discrete}
use Rattle.crq_base.specs.declared.holder.Holder.{Holder}
use Rattle.crq_base.specs.declared.holder.Holder.TheVariants.{Seat, Last}
use Rattle.crq_base.specs.declared.kinds.StepKind.TheVariants.{EpochLoad, Scan, Tick}
use Rattle.crq_rule.specs.declared.layout.Layout.{Layout}
use Rattle.crq_rule.specs.declared.view.Guard.TheVariants.{Off}
use Rattle.crq_rule.specs.declared.view.Made.{Made}
use Rattle.crq_rule.specs.declared.view.Caller.{Caller}
use Rattle.crq_rule.specs.declared.pass.Pass.{Pass}
use Rattle.crq_rule.specs.declared.pass.Table.{Table}
use Rattle.crq_rule.specs.Places.{index, epoch, announced}
use Rattle.crq_rule.specs.declared.view.Base.{Base}
use Rattle.crq_base.specs.declared.event.Event.{Event}
use Rattle.crq_rule.specs.Kinds.{makes, loads_based, new_base, scans, ticks, HasScanned, tagged}
use Rattle.crq_rule.specs.Moves.{TellsEpoch}
use Rattle.crq_rule.specs.Parts.{LetsRise}
use Rattle.crq_rows.specs.declared.tick.TickOp.{TickOp}
use Rattle.crq_rows.specs.declared.tick.TickOp.TheVariants.{Load, Scanning, Passed}
use Rattle.crq_rows.specs.declared.tick.Tick.{Tick as Reply}
use Rattle.crq_rows.specs.declared.tick.Tick.TheVariants.{More, Moved, Held}
use Rattle.crq_rows.specs.Passes.{caller, Stepped, Exchanged, load_made, step_made, announcement_word}
use Rattle.crq_rows.specs.Known.{is_exchange, turns_after}
use Rattle.crq_rows.specs.Ticking.{IsTicking, HasRisen, TickBase, TickBased, HasScannedTo, TickMakes, tick_exchanges, tick_left, KnowsEpoch, TickAnswer, TickFacts, TickStepped, FindsEpoch}
use Rattle.crq_rows.proofs.Knowing.{longer, known_else, found_known}

-- the answers that end it
moved_no_more : (g : ℕ) → Moved g ≡ More → ⊥
moved_no_more g e = cc

held_no_more : (h : Holder) → Held h ≡ More → ⊥
held_no_more h e = cc

-- what is known is of steps made
pub known_made : (n : ℕ) (l : Layout) (op : TickOp) (p : Caller) → KnowsEpoch n l op p → n ≤ length p.made
known_made n l Load p k = k
known_made n l (Scanning e next) p k = k.0
known_made n l (Passed e) p k = k

module _ (table : Table) (moved : ℕ) (op op' : TickOp) (old new : Pass) (result : Reply) where
  abbrev Facts : Caller → Type 0
  Facts q = TickFacts table.start.layout moved op op' (caller table old) q result

  facts_at : (q : Caller) → caller table new ≡ q → (facts : Facts q) → new.turns ≡ turns_after (is_exchange facts.made.kind) old.turns → (facts : Facts (caller table new)) × (new.turns ≡ turns_after (is_exchange facts.made.kind) old.turns)
  facts_at q part facts turns = subst (λ q. (facts : Facts q) × (new.turns ≡ turns_after (is_exchange facts.made.kind) old.turns)) (sym part) (facts, turns)

  -- one step of a kind that is no exchange, with what it tells of the caller after it
  pub tick_stepped : (m : Made) (f : Caller → Caller) → Stepped table old new m f → tick_exchanges table.start.layout op ≡ false → TickFacts table.start.layout moved op op' (caller table old) (makes m (f (caller table old))) result → TickStepped table moved op op' old new result
  tick_stepped m f s loads facts = let same = ap (λ (p : Pass). p.turns) s.same in
      let h = facts_at (makes m (f (caller table old))) s.part facts (same ∙ ap (λ b. turns_after b old.turns) (sym (facts.exchanges ∙ loads))) in
      record { is = s.is; same = s.same ∙ (λ i. record old { seat = new.seat; turns = sym same i }); facts = h.0; turns = h.1 }

  -- one that is an exchange
  pub tick_exchanged : (m : Made) (f : Caller → Caller) → Exchanged table old new m f → tick_exchanges table.start.layout op ≡ true → TickFacts table.start.layout moved op op' (caller table old) (makes m (f (caller table old))) result → TickStepped table moved op op' old new result
  tick_exchanged m f s swaps facts = let h = facts_at (makes m (f (caller table old))) s.part facts (s.turns ∙ ap (λ b. turns_after b old.turns) (sym (facts.exchanges ∙ swaps))) in
      record { is = s.is; same = s.same; facts = h.0; turns = h.1 }

-- an announcement that is out
pub out_word : (o : Option ℕ) → ((x : ℕ) → o ≡ Some x → ⊥) → announcement_word o ≡ 0
out_word None none = refl
out_word (Some x) none = absurd (none x refl)

-- a load of the epoch, that an answer follows
module _ (l : Layout) (moved : ℕ) (p : Caller) (base : Option Base) (r : ℕ) where
  abbrev after_load : Caller
  after_load = makes (load_made EpochLoad (index l epoch) r) (loads_based base r p)

  load_facts : (op op' : TickOp) (result : Reply) → TickMakes l op (load_made EpochLoad (index l epoch) r) → TickAnswer op op' l (load_made EpochLoad (index l epoch) r) p after_load result → tick_exchanges l op ≡ false
      → ((n : ℕ) → KnowsEpoch n l op p → KnowsEpoch n l op' after_load) → (result ≡ More → tick_left l op' < tick_left l op)
      → (TickBase moved op p → TickBased moved op' after_load result) → TickFacts l moved op op' p after_load result
  load_facts op op' result made answer loads knows shrinks based = record {
    made = load_made EpochLoad (index l epoch) r;
    one = refl;
    makes = made;
    stays = refl;
    grows = λ e i. inr i;
    uncut = λ none. ap (tagged r) none;
    answer = answer;
    exchanges = sym loads;
    expects = λ n k swaps. absurd (false≢true swaps);
    knows = knows;
    shrinks = shrinks;
    based = based;
  }

  -- the epoch that was loaded is the last one there is
  pub last_loaded : r ≡ 2 ^ 62 → TickFacts l moved Load Load p after_load (Held Last)
  last_loaded is = load_facts Load Load (Held Last) (refl, refl) is refl (λ n k. longer n p.made (load_made EpochLoad (index l epoch) r) k) (λ e. absurd (held_no_more Last e)) (λ _. tt)

  pub first_loaded : (next : ℕ) → IsTicking l (Scanning r next) after_load → (TickBase moved Load p → HasRisen moved r after_load) → TickFacts l moved Load (Scanning r next) p after_load More
  first_loaded next op based = let m : Made = load_made EpochLoad (index l epoch) r in
      load_facts Load (Scanning r next) More (refl, refl) op refl (λ n k. (longer n p.made m k, found_known n p.made m (index l epoch) k refl refl)) (λ e. omega arith) based

  -- where the recovery began with this load, and where it goes on
  pub load_based : (moved ≡ 0 → (place : ℕ) × (events : List Event) × (base ≡ Some (new_base place events r))) → ((moved ≡ 0 → ⊥) → base ≡ p.base) → TellsEpoch r p → TickBase moved Load p → HasRisen moved r after_load
  load_based begins goes_on told was = dite (ℕ_discrete moved 0)
      (λ (z : moved ≡ 0). let n = begins z in (new_base n.0 n.1 r, n.2, refl, omega arith))
      (λ ne. let h = was (omega arith) in let low = told.read h.0 h.1 in let rose = h.2.3 in (h.2.0, goes_on ne ∙ h.2.1, h.2.2, omega arith))

  -- the next caller to scan, where none was scanned yet
  pub first_scan : (next : ℕ) → p.guard ≡ Off → r ≤ 2 ^ 62 → r ≢ 2 ^ 62 → p.number < l.workers → next ≢ p.number → (next ≡ 0) ⊎ ((0 ≡ p.number) × (next ≡ 0 + 1)) → IsTicking l (Scanning r next) after_load
  first_scan next off low ne b other skips = (
    off,
    omega arith,
    inl refl,
    refl,
    ⊎_elim (λ e. omega arith) (λ t. let e = t.0 in let f = t.1 in omega arith) skips,
    other,
    λ k less apart. absurd (⊎_elim (λ (e : next ≡ 0). omega arith) (λ (t : (0 ≡ p.number) × (next ≡ 0 + 1)). let e = t.0 in let f = t.1 in apart (omega arith)) skips),
  )

  -- the epoch has moved past the one that was loaded
  pub moved_past : (e : ℕ) → base ≡ p.base → IsTicking l (Passed e) p → TellsEpoch r p → TickFacts l moved (Passed e) Load p after_load (Moved r)
  moved_past e same op told = let a = op.2 in let low = told.scanned a.0 a.1 a.2 in let high = a.3 in
      load_facts (Passed e) Load (Moved r) (refl, refl) (e, refl, op.1, omega arith, inl refl, inl refl) refl (λ n k. longer n p.made (load_made EpochLoad (index l epoch) r) k) (λ e. absurd (moved_no_more r e))
      (λ was. let rose = was.3 in (was.0, same ∙ was.1, was.2, omega arith))

module _ (l : Layout) (moved : ℕ) (p : Caller) (e next w : ℕ) where
  abbrev after_scan : Caller
  after_scan = makes (load_made Scan (index l (announced next)) w) (scans next w p)

  pub no_last : next < l.workers → tick_exchanges l (Scanning e next) ≡ false
  no_last b = ne_eqb next l.workers (λ is. omega arith)

  scan_facts : (op' : TickOp) (result : Reply) → next < l.workers → TickAnswer (Scanning e next) op' l (load_made Scan (index l (announced next)) w) p after_scan result
      → ((n : ℕ) → KnowsEpoch n l (Scanning e next) p → KnowsEpoch n l op' after_scan) → (result ≡ More → tick_left l op' < tick_left l (Scanning e next))
      → (HasRisen moved e p → TickBased moved op' after_scan result) → TickFacts l moved (Scanning e next) op' p after_scan result
  scan_facts op' result b answer knows shrinks based = record {
    made = load_made Scan (index l (announced next)) w;
    one = refl;
    makes = inl (b, refl, refl);
    stays = refl;
    grows = λ e i. i;
    uncut = λ none. none;
    answer = answer;
    exchanges = sym (no_last b);
    expects = λ n k swaps. absurd (false≢true swaps);
    knows = knows;
    shrinks = shrinks;
    based = based;
  }

  -- the caller was found below the epoch, and holds it
  pub held_facts : (a : ℕ) → next < l.workers → IsTicking l (Scanning e next) p → w ≡ a + 1 → a < e → TickFacts l moved (Scanning e next) Load p after_scan (Held (Seat next a))
  held_facts a b op is below = scan_facts Load (Held (Seat next a)) b (op.5, inl (λ i. (next, sym is i)), subst (λ z. a < z) (sym op.3) below) (λ n k. longer n p.made (load_made Scan (index l (announced next)) w) k.0) (λ e. absurd (held_no_more (Seat next a) e)) (λ _. tt)

  -- it was found above it
  pub passed_facts : (a : ℕ) → next < l.workers → IsTicking l (Scanning e next) p → w ≡ a + 1 → e < a → TickFacts l moved (Scanning e next) (Passed e) p after_scan More
  passed_facts a b op is above = scan_facts (Passed e) More b (op.0, op.2, (next, w, inl refl, omega arith)) (λ n k. longer n p.made (load_made Scan (index l (announced next)) w) k.0) (λ e. omega arith) (λ was. was)

  -- it was found out or at the epoch, and the scan goes on
  pub next_scan : (after : ℕ) → next < l.workers → p.number < l.workers → IsTicking l (Scanning e next) p → LetsRise e w → after ≢ p.number → (after ≡ next + 1) ⊎ ((next + 1 ≡ p.number) × (after ≡ next + 1 + 1)) → TickFacts l moved (Scanning e next) (Scanning e after) p after_scan More
  next_scan after b in_ op lets other skips = let m : Made = load_made Scan (index l (announced next)) w in
      let beyond : next < after = ⊎_elim (λ (f : after ≡ next + 1). omega arith) (λ (t : (next + 1 ≡ p.number) × (after ≡ next + 1 + 1)). let f = t.1 in omega arith) skips in
      scan_facts (Scanning e after) More b (op.0, op.1, op.2, op.3, ⊎_elim (λ f. omega arith) (λ t. let f = t.0 in let g = t.1 in omega arith) skips, other, all)
      (λ n k. (longer n p.made m k.0, known_else n p.made m (index l epoch) k.0 (λ is. omega arith) ∙ k.1)) (λ e. omega arith) (λ was. was)
    where
      all : HasScannedTo after p.number e ((next, w) ∷ p.tick.found)
      all k less apart = dite (ℕ_discrete k next)
          (λ (f : k ≡ next). (w, inl (λ i. (f i, w)), lets))
          (λ (ne : k ≢ next). let h = op.6 k (⊎_elim (λ (f : after ≡ next + 1). omega arith) (λ (t : (next + 1 ≡ p.number) × (after ≡ next + 1 + 1)). let f = t.0 in let g = t.1 in omega arith) skips) apart in (h.0, inr h.1, h.2))

-- after the last scan
pub has_scanned : (l : Layout) (p : Caller) (e next : ℕ) → next ≡ l.workers → IsTicking l (Scanning e next) p → HasScanned l.workers p.number p.tick
has_scanned l p e next last op k b ne = let h = op.6 k (omega arith) ne in (h.0, h.1, subst (λ z. LetsRise z h.0) (sym op.3) h.2)

module _ (l : Layout) (moved : ℕ) (p : Caller) (e next r : ℕ) where
  abbrev after_tick : Caller
  after_tick = makes (step_made Tick (index l epoch) e (e + 1) r) (ticks e r p)

  pub at_last : next ≡ l.workers → tick_exchanges l (Scanning e next) ≡ true
  at_last last = eq-eqb next l.workers last

  tick_facts : (g : ℕ) → next ≡ l.workers → IsTicking l (Scanning e next) p → cond (eqb r e) (e + 1) r ≡ g → e < g → FindsEpoch (step_made Tick (index l epoch) e (e + 1) r) g → TickFacts l moved (Scanning e next) Load p after_tick (Moved g)
  tick_facts g last op is above finds = record {
    made = step_made Tick (index l epoch) e (e + 1) r;
    one = refl;
    makes = inr (last, refl, refl, refl, refl);
    stays = refl;
    grows = λ e i. inr i;
    uncut = λ none. none;
    answer = (e, refl, op.2, above, inl (sym is), finds);
    exchanges = sym (at_last last);
    expects = λ n k swaps. (k.1, λ same. omega arith);
    knows = λ n k. longer n p.made (step_made Tick (index l epoch) e (e + 1) r) k.0;
    shrinks = λ e. absurd (moved_no_more g e);
    based = λ was. let rose = was.3 in (was.0, was.1, was.2, omega arith);
  }

  -- the exchange was made
  pub made_facts : next ≡ l.workers → IsTicking l (Scanning e next) p → r ≡ e → TickFacts l moved (Scanning e next) Load p after_tick (Moved (e + 1))
  made_facts last op is = tick_facts (e + 1) last op (ap (λ b. cond b (e + 1) r) (eq-eqb r e is)) (omega arith) (inr (refl, is, refl))

  -- another epoch was found
  pub found_facts : next ≡ l.workers → IsTicking l (Scanning e next) p → TellsEpoch r p → r ≢ e → TickFacts l moved (Scanning e next) Load p after_tick (Moved r)
  found_facts last op told ne = let low = told.read e op.2 in tick_facts r last op (ap (λ b. cond b (e + 1) r) (ne_eqb r e ne)) (omega arith) (inl refl)

-- the guard of an attempt is off, and stays so
pub ticking_off : (l : Layout) (op : TickOp) (p : Caller) → IsTicking l op p → p.guard ≡ Off
ticking_off l Load p op = op
ticking_off l (Scanning e next) p op = op.0
ticking_off l (Passed e) p op = op.0

pub stays_off : (table : Table) (moved : ℕ) (op op' : TickOp) (old new : Pass) (result : Reply) → TickStepped table moved op op' old new result → IsTicking table.start.layout op (caller table old) → (caller table new).guard ≡ Off
stays_off table moved op op' old new result s is = ap (λ (q : Caller). q.guard) s.facts.stays ∙ ticking_off table.start.layout op (caller table old) is
