-- What a step function asks of each kind that ends a move.
use Rattle.std.proofs.Common.{◌≡◌, ℕ, None, Some, get_or, sym, refl, ◌∙◌, subst}
use mathlib.Core.Logic.{dite}
use native.Mathlib.Decide.{ℕ_discrete}
use prog.Atomic.{either}
use Rattle.std.proofs.Common.{eqb}
use Rattle.crq_base.specs.declared.kinds.StepKind.TheVariants.{CurrentLoad, PinLoad, Pin as PinStep, Pass, Finish}
use Rattle.crq_base.specs.declared.words.Control.{Control}
use Rattle.crq_base.specs.declared.words.Current.{Current}
use Rattle.crq_base.specs.declared.words.Pin.{Pin}
use Rattle.crq_base.specs.Words.{IsControl, IsCurrent, IsPin, control_word, current_word, pin_word}
use Rattle.crq_base.proofs.WordLaws.{control_one, current_one, pin_one}
use Rattle.crq_rule.specs.declared.layout.Start.{Start}
use Rattle.crq_rule.specs.declared.view.Help.{Help}
use Rattle.crq_rule.specs.declared.view.Caller.{Caller}
use Rattle.crq_rule.specs.Places.{index, control, current, pin as pin_place}
use Rattle.crq_rule.specs.Core.{Core, caller_of}
use Rattle.crq_rule.specs.CurrentKinds.{permit_after, told_after}
use Rattle.crq_rule.specs.PinKinds.{epoch_known, loads_for_pin, pin_known, pin_of, passed_from, opened_from, MayLoadForPin, MayPin, MayPass, MayFinish}
use Rattle.crq_rule.specs.Steps.{load_for_pin, pin_load, pin, pin_fails, pass, pass_fails, finish, finish_fails, After}
use Rattle.crq_rule.specs.Moves.{MovesBy, By, FoundForPin, FoundPin, wins, quiet}
use Rattle.crq_rule.proofs.Puts.{put_here}
use Rattle.crq_rule.proofs.GuardSteps.{same_words}
use Rattle.crq_rule.proofs.ListSteps.{words_after, won, lost}

module _ (key : Start) (p : Caller) where
  abbrev j : ℕ
  j = p.number

  -- what the caller knows once it has loaded current for the pin
  for_pin_so : (c : Core) (x : Control) (h : Help) → loads_for_pin c.words.current (caller_of c j) ≡ caller_of (After (load_for_pin x h) c j) j
  for_pin_so c x h = λ i. record (caller_of c j) {
    found = sym (put_here c.found j (record (c.found j) { current = Some c.words.current })) i;
    permit = sym (put_here c.permit j (permit_after c.words.current (c.permit j))) i;
    told = sym (put_here c.told j (told_after c.start c.words.current (c.told j))) i;
    sight = sym (put_here c.sight j None) i;
    walk = sym (put_here c.walk j None) i;
    help = sym (put_here c.help j (epoch_known c.words.current (c.help j))) i;
  }

  pub for_pin_moves : (x : Control) (h : Help) → MayLoadForPin x h p → MovesBy CurrentLoad key p (index key.layout current) (λ w. w) FoundForPin
  for_pin_moves x h may c ws inv words b is = let w = index key.layout current in let at = words.shows.each current tt in (
    load_for_pin x h,
    refl,
    subst (MayLoadForPin x h) is may,
    same_words key c (After (load_for_pin x h) c j) ws w refl refl words,
    subst (λ (z : ℕ × Caller). FoundForPin z.0 z.1 (caller_of (After (load_for_pin x h) c j) j)) (λ i. (sym at i, sym is i)) record {
      current = c.words.current;
      is_current = inv.spelled.is_current;
      word = refl;
      after = for_pin_so c x h;
      later = λ x found. inv.finds.currents j x b found;
    },
  )

  pub pin_load_moves : MovesBy PinLoad key p (index key.layout pin_place) (λ w. w) FoundPin
  pin_load_moves c ws inv words b is = let w = index key.layout pin_place in let at = words.shows.each pin_place tt in (
    pin_load,
    refl,
    tt,
    same_words key c (After pin_load c j) ws w refl refl words,
    subst (λ (z : ℕ × Caller). FoundPin z.0 z.1 (caller_of (After pin_load c j) j)) (λ i. (sym at i, sym is i)) record {
      pin = c.words.pin;
      is_pin = inv.spelled.is_pin;
      word = refl;
      after = λ i. record (caller_of c j) { help = sym (put_here c.help j (pin_known c.words.pin (c.help j))) i };
    },
  )

  -- The three exchanges tell their caller nothing but whether they took place

  pub pin_moves : (x : Control) (h : Help) (m : ℕ) (n : Pin) → IsPin n → MayPin x h m n p
      → MovesBy PinStep key p (index key.layout pin_place) (λ w. either (eqb w (pin_word n)) (pin_word (pin_of x m)) w) (By (wins (pin_word n) (λ q. q)) quiet)
  pin_moves x h m n bits may c ws inv words b is = let w = index key.layout pin_place in let new = pin_word (pin_of x m) in
      let may' : MayPin x h m n (caller_of c j) = subst (MayPin x h m n) is may in let at = words.shows.each pin_place tt in
      dite (ℕ_discrete (get_or ws w 0) (pin_word n))
      (λ hit. let found : c.words.pin ≡ n = pin_one c.words.pin n inv.spelled.is_pin bits (sym at ∙ hit) in
      won key p PinStep (pin x h m n) w (pin_word n) new (λ q. q) refl c ws (may', found) is hit (words_after key (pin x h m n) c j ws new tt refl words) refl)
      (λ apart. lost key p PinStep pin_fails w (pin_word n) new (λ q. q) refl (λ _. tt) (λ _. refl) c ws words is apart)

  pub pass_moves : (x : Control) (h : Help) (n : Pin) (y : Current) → IsCurrent y → MayPass x h n y p
      → MovesBy Pass key p (index key.layout current) (λ w. either (eqb w (current_word y)) (current_word (passed_from y)) w) (By (wins (current_word y) (λ q. q)) quiet)
  pass_moves x h n y bits may c ws inv words b is = let w = index key.layout current in let new = current_word (passed_from y) in
      let may' : MayPass x h n y (caller_of c j) = subst (MayPass x h n y) is may in let at = words.shows.each current tt in
      dite (ℕ_discrete (get_or ws w 0) (current_word y))
      (λ hit. let found : c.words.current ≡ y = current_one c.words.current y inv.spelled.is_current bits (sym at ∙ hit) in
      won key p Pass (pass x h n y) w (current_word y) new (λ q. q) refl c ws (may', found) is hit (words_after key (pass x h n y) c j ws new tt refl words) refl)
      (λ apart. lost key p Pass pass_fails w (current_word y) new (λ q. q) refl (λ _. tt) (λ _. refl) c ws words is apart)

  pub finish_moves : (x : Control) (h : Help) (n : Pin) (y : Current) → IsControl x → MayFinish x h n y p
      → MovesBy Finish key p (index key.layout control) (λ w. either (eqb w (control_word x)) (control_word (opened_from x)) w) (By (wins (control_word x) (λ q. q)) quiet)
  finish_moves x h n y bits may c ws inv words b is = let w = index key.layout control in let new = control_word (opened_from x) in
      let may' : MayFinish x h n y (caller_of c j) = subst (MayFinish x h n y) is may in let at = words.shows.each control tt in
      dite (ℕ_discrete (get_or ws w 0) (control_word x))
      (λ hit. let found : c.words.control ≡ x = control_one c.words.control x inv.spelled.is_control bits (sym at ∙ hit) in
      won key p Finish (finish x h n y) w (control_word x) new (λ q. q) refl c ws (may', found) is hit (words_after key (finish x h n y) c j ws new tt refl words) refl)
      (λ apart. lost key p Finish finish_fails w (control_word x) new (λ q. q) refl (λ _. tt) (λ _. refl) c ws words is apart)
