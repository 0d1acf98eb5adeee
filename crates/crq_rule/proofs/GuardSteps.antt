-- What a step function asks of each kind on guards and epochs.
use Rattle.std.proofs.Common.{[], ◌≡◌, ℕ, ◌+◌, ◌^◌, ◌<◌, List, ◌∷◌, length, Option, Some, None, cond, get_or, set, eqb, sym, refl, ap, ◌∙◌, subst, arith, eq-eqb, ne_eqb}
use mathlib.Core.Logic.{dite}
use native.Mathlib.Decide.{ℕ_discrete}
use lib.Seq.{set-get_or}
use prog.Atomic.{either}
use Rattle.crq_base.specs.declared.kinds.StepKind.TheVariants.{EpochLoad, Enter, Confirm, Leave, Scan, Tick as TickKind}
use Rattle.crq_base.specs.Lists.{In}
use Rattle.crq_rule.specs.declared.layout.Start.{Start}
use Rattle.crq_rule.specs.declared.view.Guard.TheVariants.{Off, Entering, On}
use Rattle.crq_rule.specs.declared.view.Tick.{Tick}
use Rattle.crq_rule.specs.declared.view.Caller.{Caller}
use Rattle.crq_rule.specs.Places.{index, epoch, announced, Shows}
use Rattle.crq_rule.specs.Core.{Core, caller_of}
use Rattle.crq_rule.specs.Invariant.{Inv}
use Rattle.crq_rule.specs.declared.view.Base.{Base}
use Rattle.crq_rule.specs.ScarceParts.{pending}
use Rattle.crq_rule.specs.Kinds.{loads_epoch, loads_based, new_base, enters, confirms, leaves, scans, ticks, tagged, new_tick, HasScanned}
use Rattle.crq_rule.specs.Rule.{IsWords}
use Rattle.crq_rule.specs.Moves.{Moves, MovesBy, quiet, TellsEpoch, BeginsRecovery, TellsLow, word_after}
use Rattle.crq_rule.proofs.Puts.{put_here}
use Rattle.crq_rule.proofs.Placing.{epoch_set, announced_set}
use Rattle.crq_rule.specs.Steps.{After, epoch_load, recovery_load, enter, confirm, leave, scan, tick, tick_fails}

-- a load changes no word
pub same_words : (key : Start) (c c' : Core) (ws : List ℕ) (w : ℕ) → c'.start ≡ c.start → c'.words ≡ c.words → IsWords key c ws → IsWords key c' (set ws w (get_or ws w 0))
same_words key c c' ws w start same old = record {
  start = start ∙ old.start;
  shows = subst (Shows key.layout c'.words) (sym (set-get_or ws w 0)) (subst (λ z. Shows key.layout z ws) (sym same) old.shows);
}

module _ (key : Start) (p : Caller) where
  abbrev j : ℕ
  j = p.number

  told : (c : Core) (ws : List ℕ) → Inv c → IsWords key c ws → j < c.start.layout.workers → p ≡ caller_of c j → TellsEpoch (get_or ws (index key.layout epoch) 0) p
  told c ws inv words b is = let at = words.shows.each epoch tt in subst (λ (z : ℕ × Caller). TellsEpoch z.0 z.1) (λ i. (sym at i, sym is i)) record {
    limit = inv.reading.limit;
    read = λ e. inv.reading.read j e b;
    scanned = λ k a. inv.reading.scanned j k a b;
  }

  pub load_moves : Moves EpochLoad key p (index key.layout epoch) (λ n. n) loads_epoch TellsEpoch
  load_moves c ws inv words b is = let e = c.words.epoch in let at = words.shows.each epoch tt in (
    epoch_load,
    refl,
    tt,
    same_words key c (After epoch_load c j) ws (index key.layout epoch) refl refl words,
    (λ i. loads_epoch (at i) (is i))
        ∙ (λ i. record (caller_of c j) { epochs = sym (put_here c.epochs j (e ∷ c.epochs j)) i; tick = sym (put_here c.tick j (new_tick e)) i; cut = sym (put_here c.cut j (tagged e (c.cut j))) i }),
    told c ws inv words b is,
  )

  pub recovery_moves : MovesBy EpochLoad key p (index key.layout epoch) (λ n. n) BeginsRecovery
  recovery_moves c ws inv words b is = let e = c.words.epoch in let at = words.shows.each epoch tt in let base : Option Base = Some (new_base (length c.history) (pending c.history) e) in (
    recovery_load,
    refl,
    tt,
    same_words key c (After recovery_load c j) ws (index key.layout epoch) refl refl words,
    record {
      place = length c.history;
      events = pending c.history;
      after = (λ i. loads_based (Some (new_base (length c.history) (pending c.history) (at i))) (at i) (is i))
          ∙ (λ i. record (caller_of c j) { epochs = sym (put_here c.epochs j (e ∷ c.epochs j)) i; tick = sym (put_here c.tick j (new_tick e)) i; cut = sym (put_here c.cut j (tagged e (c.cut j))) i; base = sym (put_here c.base j base) i });
      told = told c ws inv words b is;
    },
  )

  pub enter_moves : (e : ℕ) → p.guard ≡ Off → In e p.epochs → Moves Enter key p (index key.layout (announced j)) (λ _. word_after e) (λ _. enters e) (λ _. TellsLow e 0)
  enter_moves e off read c ws inv words b is = let in' : In e (c.epochs j) = subst (λ (q : Caller). In e q.epochs) is read in let low = inv.reading.read j e b in' in let top = inv.reading.limit in
      let word : e + 1 ≡ word_after e = omega arith in (
        enter e,
        refl,
        (ap (λ (q : Caller). q.guard) (sym is) ∙ off, in'),
        record {
          start = words.start;
          shows = subst (λ a. Shows key.layout (After (enter e) c j).words (set ws (index key.layout (announced j)) a)) word
              (announced_set key.layout c.words ws j (e + 1) (subst (λ (z : Start). j < z.layout.workers) words.start b) words.shows);
        },
        ap (enters e) is ∙ (λ i. record (caller_of c j) { guard = sym (put_here c.guard j (Entering e)) i }),
        omega arith,
      )

  pub confirm_moves : (x : ℕ) → p.guard ≡ Entering x → Moves Confirm key p (index key.layout epoch) (λ n. n) confirms TellsEpoch
  confirm_moves x entering c ws inv words b is = let e = c.words.epoch in let at = words.shows.each epoch tt in (
    confirm,
    refl,
    (x, ap (λ (q : Caller). q.guard) (sym is) ∙ entering),
    same_words key c (After confirm c j) ws (index key.layout epoch) refl refl words,
    (λ i. confirms (at i) (is i)) ∙ (λ i. record (caller_of c j) { epochs = sym (put_here c.epochs j (e ∷ c.epochs j)) i; guard = sym (put_here c.guard j (On e)) i }),
    told c ws inv words b is,
  )

  pub leave_moves : p.cut ≡ None → p.debts.copy ≡ None → Moves Leave key p (index key.layout (announced j)) (λ _. 0) (λ _. leaves) quiet
  leave_moves uncut none c ws inv words b is = (
    leave,
    refl,
    (ap (λ (q : Caller). q.cut) (sym is) ∙ uncut, ap (λ (q : Caller). q.debts.copy) (sym is) ∙ none),
    record { start = words.start; shows = announced_set key.layout c.words ws j 0 (subst (λ (z : Start). j < z.layout.workers) words.start b) words.shows },
    ap leaves is ∙ (λ i. record (caller_of c j) { guard = sym (put_here c.guard j Off) i; position = record { rows = sym (put_here c.rows j []) i; old = sym (put_here c.old j None) i }; walk = sym (put_here c.walk j None) i }),
    tt,
  )

  pub scan_moves : (k : ℕ) → k < key.layout.workers → Moves Scan key p (index key.layout (announced k)) (λ n. n) (scans k) quiet
  scan_moves k inside c ws inv words b is = let at = words.shows.each (announced k) inside in let t : Tick = record { loaded = (c.tick j).loaded; found = (k, c.words.announced k) ∷ (c.tick j).found } in (
    scan k,
    refl,
    subst (λ (z : Start). k < z.layout.workers) (sym words.start) inside,
    same_words key c (After (scan k) c j) ws (index key.layout (announced k)) refl refl words,
    (λ i. scans k (at i) (is i)) ∙ (λ i. record (caller_of c j) { tick = sym (put_here c.tick j t) i }),
    tt,
  )

  pub tick_moves : (x : ℕ) → x < 2 ^ 62 → p.tick.loaded ≡ x → p.guard ≡ Off → HasScanned key.layout.workers j p.tick → Moves TickKind key p (index key.layout epoch) (λ n. either (eqb n x) (x + 1) n) (ticks x) TellsEpoch
  tick_moves x limit loaded off all c ws inv words b is = let w = index key.layout epoch in let at = words.shows.each epoch tt in dite (ℕ_discrete (get_or ws w 0) x)
      (λ hit. let c' : Core = After (tick x) c j in let b' = eq-eqb (get_or ws w 0) x hit in (
        tick x,
        refl,
        (
          sym at ∙ hit,
          limit,
          ap (λ (q : Caller). q.tick.loaded) (sym is) ∙ loaded,
          ap (λ (q : Caller). q.guard) (sym is) ∙ off,
          subst (λ (z : Start × Caller). HasScanned z.0.layout.workers j z.1.tick) (λ i. (sym words.start i, is i)) all,
        ),
        record { start = words.start; shows = subst (λ t. Shows key.layout c'.words (set ws w (either t (x + 1) (get_or ws w 0)))) (sym b') (epoch_set key.layout c.words ws (x + 1) words.shows) },
        (λ i. record (is i) { epochs = cond (b' i) (x + 1) (get_or ws w 0) ∷ (is i).epochs; tick = new_tick 0 })
            ∙ (λ i. record (caller_of c j) { epochs = sym (put_here c.epochs j ((x + 1) ∷ c.epochs j)) i; tick = sym (put_here c.tick j (new_tick 0)) i }),
        told c ws inv words b is,
      ))
      (λ miss. let c' : Core = After (tick_fails x) c j in let b' = ne_eqb (get_or ws w 0) x miss in let e = c.words.epoch in (
        tick_fails x,
        refl,
        tt,
        subst (λ t. IsWords key c' (set ws w (either t (x + 1) (get_or ws w 0)))) (sym b') (same_words key c c' ws w refl refl words),
        (λ i. record (is i) { epochs = cond (b' i) (x + 1) (get_or ws w 0) ∷ (is i).epochs; tick = new_tick 0 }) ∙ (λ i. record (caller_of c j) { epochs = at i ∷ c.epochs j; tick = new_tick 0 })
            ∙ (λ i. record (caller_of c j) { epochs = sym (put_here c.epochs j (e ∷ c.epochs j)) i; tick = sym (put_here c.tick j (new_tick 0)) i }),
        told c ws inv words b is,
      ))
