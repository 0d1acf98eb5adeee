-- What a step function asks of each kind on current.
use Rattle.std.proofs.Common.{◌≡◌, ◌++◌, [], ◌∷◌, ap, cond, get_or, set, true, false, Bool, ℕ, ◌∙◌, None, Some, eqb, sym, refl, subst}
use mathlib.Core.Logic.{dite}
use native.Mathlib.Decide.{ℕ_discrete}
use prog.Atomic.{either}
use Rattle.crq_base.specs.declared.kinds.StepKind.TheVariants.{CurrentLoad, SettleLoad, Settle, Raise}
use Rattle.crq_base.specs.declared.entry.Entry.TheVariants.{Settled}
use Rattle.crq_rule.specs.declared.debts.SettleDebt.{SettleDebt}
use Rattle.crq_base.specs.declared.words.Control.{Control}
use Rattle.crq_base.specs.declared.words.Current.{Current}
use Rattle.crq_base.specs.Words.{IsCurrent, current_word}
use Rattle.crq_base.proofs.WordLaws.{current_one}
use Rattle.crq_rule.specs.declared.layout.Start.{Start}
use Rattle.crq_rule.specs.declared.view.Caller.{Caller}
use Rattle.crq_rule.specs.Places.{index, current}
use Rattle.crq_rule.specs.Core.{Core, caller_of, owed_by}
use Rattle.crq_rule.specs.CurrentKinds.{sight_on, next_position, raises, lies_ahead, permit_after, told_after, settles, settles_back, loads_current, loads_owed, owed_position, MayView, MayRaise, MaySettle}
use Rattle.crq_rule.specs.Steps.{Kind, current_load, raise, raise_fails, settle_now, settle_later, settle, settle_fails, May, kind_of, After}
use Rattle.crq_rule.specs.Moves.{MovesBy, By, FoundCurrent, FoundOwed, wins, quiet}
use Rattle.crq_rule.specs.Rule.{IsWords}
use Rattle.crq_rule.proofs.Puts.{put_here}
use Rattle.crq_rule.proofs.GuardSteps.{same_words}
use Rattle.crq_rule.proofs.ListSteps.{words_after, won, lost}

module _ (key : Start) (p : Caller) where
  abbrev j : ℕ
  j = p.number

  pub current_moves : (walks : Bool) → MayView p.own p.found.control walks → MovesBy CurrentLoad key p (index key.layout current) (λ w. w) (FoundCurrent walks)
  current_moves walks may c ws inv words b is = let at = words.shows.each current tt in (
    current_load walks,
    refl,
    subst (λ (q : Caller). MayView q.own q.found.control walks) is may,
    same_words key c (After (current_load walks) c j) ws (index key.layout current) refl refl words,
    subst (λ (z : ℕ × Caller). FoundCurrent walks z.0 z.1 (caller_of (After (current_load walks) c j) j)) (λ i. (sym at i, sym is i)) record {
      current = c.words.current;
      is_current = inv.spelled.is_current;
      word = refl;
      after = λ i. record (caller_of c j) {
        found = sym (put_here c.found j (record (c.found j) { current = Some c.words.current })) i;
        permit = sym (put_here c.permit j (permit_after c.words.current (c.permit j))) i;
        told = sym (put_here c.told j (told_after c.start c.words.current (c.told j))) i;
        sight = sym (put_here c.sight j (sight_on walks (c.found j).control c.words.current)) i;
        walk = sym (put_here c.walk j None) i;
      };
      later = λ x found. inv.finds.currents j x b found;
      seen = λ s sees. inv.finds.views j s b sees;
    },
  )

  pub raise_moves : (x : Control) (y : Current) → IsCurrent y → MayRaise x y p
      → MovesBy Raise key p (index key.layout current) (λ w. either (eqb w (current_word y)) (current_word (next_position x y)) w) (By (wins (current_word y) raises) quiet)
  raise_moves x y bits may c ws inv words b is = let w = index key.layout current in let new = current_word (next_position x y) in
      let may' : MayRaise x y (caller_of c j) = subst (MayRaise x y) is may in let at = words.shows.each current tt in
      dite (ℕ_discrete (get_or ws w 0) (current_word y))
      (λ hit. let found : c.words.current ≡ y = current_one c.words.current y inv.spelled.is_current bits (sym at ∙ hit) in
      won key p Raise (raise x y) w (current_word y) new raises refl c ws (may', found) is hit
      (words_after key (raise x y) c j ws new tt refl words)
      (λ i. record (caller_of c j) { walk = sym (put_here c.walk j None) i }))
      (λ apart. lost key p Raise raise_fails w (current_word y) new raises refl (λ _. tt) (λ _. refl) c ws words is apart)

  -- what the caller knows once the event is settled
  settled_so : (c : Core) (d : SettleDebt) → settles d (caller_of c j) ≡ caller_of (After (settle_now d) c j) j
  settled_so c d = λ i. record (caller_of c j) { own = sym (put_here c.own j (c.own j ++ Settled j d.event ∷ [])) i; debts = owed_by (sym (put_here c.settling j None) i) (c.copying j) (c.named j) }

  loaded_so : (c : Core) → loads_current false c.words.current (caller_of c j) ≡ caller_of (After (current_load false) c j) j
  loaded_so c = λ i. record (caller_of c j) {
    found = sym (put_here c.found j (record (c.found j) { current = Some c.words.current })) i;
    permit = sym (put_here c.permit j (permit_after c.words.current (c.permit j))) i;
    told = sym (put_here c.told j (told_after c.start c.words.current (c.told j))) i;
    sight = sym (put_here c.sight j None) i;
    walk = sym (put_here c.walk j None) i;
  }

  pub owed_moves : (d : SettleDebt) → p.debts.settle ≡ Some d → MovesBy SettleLoad key p (index key.layout current) (λ w. w) (FoundOwed d)
  owed_moves d owes c ws inv words b is = by (lies_ahead d c.words.current) refl
    where
      may : c.settling j ≡ Some d
      may = ap (λ (q : Caller). q.debts.settle) (sym is) ∙ owes

      found : (k : Kind) → loads_owed d c.words.current (caller_of c j) ≡ caller_of (After k c j) j → FoundOwed d (get_or ws (index key.layout current) 0) p (caller_of (After k c j) j)
      found k after = let at = words.shows.each current tt in subst (λ (z : ℕ × Caller). FoundOwed d z.0 z.1 (caller_of (After k c j) j)) (λ i. (sym at i, sym is i)) record {
        current = c.words.current;
        is_current = inv.spelled.is_current;
        word = refl;
        after = after;
        later = λ x found. inv.finds.currents j x b found;
      }

      by : (t : Bool) → lies_ahead d c.words.current ≡ t
          → (k : Kind) × (kind_of k ≡ SettleLoad) × May k c j × IsWords key (After k c j) (set ws (index key.layout current) (get_or ws (index key.layout current) 0)) × FoundOwed d (get_or ws (index key.layout current) 0) p (caller_of (After k c j) j)
      by true t = (
        settle_now d,
        refl,
        (may, t),
        same_words key c (After (settle_now d) c j) ws (index key.layout current) refl refl words,
        found (settle_now d) (ap (λ z. cond z (settles d (caller_of c j)) (loads_current false c.words.current (caller_of c j))) t ∙ settled_so c d),
      )
      by false t = (
        settle_later d,
        refl,
        (may, t),
        same_words key c (After (settle_later d) c j) ws (index key.layout current) refl refl words,
        found (settle_later d) (ap (λ z. cond z (settles d (caller_of c j)) (loads_current false c.words.current (caller_of c j))) t ∙ loaded_so c),
      )

  pub settle_moves : (d : SettleDebt) (y : Current) → IsCurrent y → MaySettle d y p
      → MovesBy Settle key p (index key.layout current) (λ w. either (eqb w (current_word y)) (current_word (owed_position d y)) w) (By (wins (current_word y) (settles_back d)) quiet)
  settle_moves d y bits may c ws inv words b is = let w = index key.layout current in let new = current_word (owed_position d y) in
      let may' : MaySettle d y (caller_of c j) = subst (MaySettle d y) is may in let at = words.shows.each current tt in
      dite (ℕ_discrete (get_or ws w 0) (current_word y))
      (λ hit. let found : c.words.current ≡ y = current_one c.words.current y inv.spelled.is_current bits (sym at ∙ hit) in
      won key p Settle (settle d y) w (current_word y) new (settles_back d) refl c ws (may', found) is hit
      (words_after key (settle d y) c j ws new tt refl words)
      (λ i. record (settled_so c d i) { permit = sym (put_here c.permit j false) i }))
      (λ apart. lost key p Settle settle_fails w (current_word y) new (settles_back d) refl (λ _. tt) (λ _. refl) c ws words is apart)
