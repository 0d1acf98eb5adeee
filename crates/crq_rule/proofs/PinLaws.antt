-- Loads of current for the pin, and steps on the pin, keep the invariant, and so does the step that leads current past it.
use Rattle.std.proofs.Common.{◌≡◌, ⊎_elim, inl, true, false, ◌==◌, ℕ, ◌+◌, ◌^◌, ◌<◌, ◌≤◌, Option, Some, None, sym, refl, ap, ◌∙◌, subst, le_refl, arith}
use Rattle.std.proofs.lemmas.Bool.{eqb-true, cond_both}
use Rattle.std.proofs.lemmas.Option.{same_Some, none-some}
use Rattle.crq_base.specs.declared.words.Link.{Link}
use Rattle.crq_base.specs.declared.words.Mark.TheVariants.{Mov}
use Rattle.crq_base.specs.declared.words.Control.{Control}
use Rattle.crq_base.specs.declared.words.Current.{Current}
use Rattle.crq_base.specs.declared.words.Pin.{Pin}
use Rattle.crq_base.specs.Words.{flag_number}
use Rattle.crq_rule.specs.declared.view.Found.{Found}
use Rattle.crq_rule.specs.declared.view.Help.{Help}
use Rattle.crq_rule.specs.Lists.{put}
use Rattle.crq_rule.specs.Places.{IsHead}
use Rattle.crq_rule.specs.Core.{Core, caller_of}
use Rattle.crq_rule.specs.Parts.{NotAfter}
use Rattle.crq_rule.specs.Ranks.{Shape, first_head_of}
use Rattle.crq_rule.specs.ListParts.{IsOldHead}
use Rattle.crq_rule.specs.Helping.{Helps}
use Rattle.crq_rule.specs.Ending.{IsSealed, IsPinOf}
use Rattle.crq_rule.specs.Bounds.{coming}
use Rattle.crq_rule.specs.CurrentKinds.{current_loaded}
use Rattle.crq_rule.specs.PinKinds.{epoch_known, loaded_for_pin, pin_found, pin_known, pin_loaded, pin_of, pinned_by, passed_from, passed_by, IsHelper, MayLoadForPin, MayPin, MayPass}
use Rattle.crq_rule.specs.Invariant.{present_of, takes_of, ending_of, Inv}
use Rattle.crq_rule.proofs.Puts.{put_all}
use Rattle.crq_rule.proofs.HelpLaws.{head_woven}
use Rattle.crq_rule.proofs.WalkerLaws.{walkers_current}
use Rattle.crq_rule.proofs.BoundLaws.{coming_past, coming_yet, bounds_current, bounds_pinned}
use Rattle.crq_rule.proofs.EndLaws.{IsEnding, ending_is, ends_helped, ends_current, same_walks}
use Rattle.crq_rule.proofs.Frames.{frame_current}
use Rattle.crq_rule.proofs.MoveFrames.{frame_heads, frame_pin}
use Rattle.crq_rule.proofs.CurrentLaws.{current_keeps}

-- A helper that comes to know more has passed the same heads

abbrev HasPassedAs : Option Help → Help → Type 0
HasPassedAs o h = (g : Help) × (o ≡ Some g) × (h.generation ≡ g.generation) × (h.prepared ≡ g.prepared) × (h.frozen ≡ g.frozen) × (h.emptied ≡ g.emptied)

helps_same : (n : ℕ) (control : Control) (head : ℕ → Link) (found : ℕ → Found) (help help' : ℕ → Option Help) → ((k : ℕ) (h : Help) → k < n → help' k ≡ Some h → HasPassedAs (help k) h) → Helps n control head found help → Helps n control head found help'
helps_same n control head found help help' same old = record {
  finds = λ k h b is. let s = same k h b is in let f = old.finds k s.0 b s.1 in (
    f.0,
    f.1,
    record {
      moving = f.2.moving;
      same = s.2 ∙ f.2.same;
      prepared = (let e = s.3 in let low = f.2.prepared in omega arith);
      frozen = (let e = s.4 in let low = f.2.frozen in omega arith);
      emptied = (let e = s.5 in let low = f.2.emptied in omega arith);
    },
  );
  passed = λ k h b is now. let s = same k h b is in let p = old.passed k s.0 b s.1 (sym s.2 ∙ now) in record {
    prepared = λ i low. p.prepared i (let e = s.3 in omega arith);
    frozen = λ i low. p.frozen i (let e = s.4 in omega arith);
    emptied = λ i low. p.emptied i (let e = s.5 in omega arith);
  };
}

epoch_so : (y : Current) (o : Option Help) (h : Help) → epoch_known y o ≡ Some h → (g : Help) × (o ≡ Some g) × (record g { epoch = Some y.epoch } ≡ h)
epoch_so y None h is = absurd (none-some h is)
epoch_so y (Some g) h is = (g, refl, same_Some (record g { epoch = Some y.epoch }) h is)

pin_so : (n : Pin) (o : Option Help) (h : Help) → pin_known n o ≡ Some h → (g : Help) × (o ≡ Some g) × (pin_found n g ≡ h)
pin_so n None h is = absurd (none-some h is)
pin_so n (Some g) h is = (g, refl, same_Some (pin_found n g) h is)

-- What a helper knows of the open table

module _ (c : Core) (inv : Inv c) (j : ℕ) (b : j < c.start.layout.workers) where
  -- its move is that of the control word that it found
  pub helper_of : (x : Control) (h : Help) → IsHelper x h (caller_of c j) → h.generation ≡ x.generation
  helper_of x h is = let f = inv.helps.finds j h b is.helps in f.2.same ∙ ap (λ (y : Control). y.generation) (same_Some f.0 x (sym f.1 ∙ is.control))

  -- and where that is of the open table, it is the present word
  pub helper_now : (x : Control) (h : Help) → IsHelper x h (caller_of c j) → x.generation ≡ c.words.control.generation → x ≡ c.words.control
  helper_now x h is = (inv.finds.controls j x b is.control).same is.moving

  -- all heads of the open table are frozen, where a helper of its move has passed them so
  pub all_frozen : (x : Control) (h : Help) → IsHelper x h (caller_of c j) → h.frozen ≡ 2 ^ x.log → h.generation ≡ c.words.control.generation → (q : ℕ) → IsHead q → IsOldHead c.words.control c.shape q → (c.words.head q).mark ≡ Mov
  all_frozen x h is all now q head o = let word = helper_now x h is (sym (helper_of x h is) ∙ now) in
      let passed = inv.helps.passed j h b is.helps now in
      let every : h.frozen ≡ 2 ^ c.words.control.log = all ∙ ap (λ (y : Control). 2 ^ y.log) word in
      let within = subst (λ (s : Shape). q < first_head_of c.words.control.generation + 2 ^ s.log) inv.sizes.now.size o.1 in
      let w = head_woven j c.words.control.log (first_head_of c.words.control.generation) q o.0 within in
      subst (λ z. (c.words.head z).mark ≡ Mov) w.2 (passed.frozen w.0 (let low = w.1 in subst (λ z. w.0 < z) (sym every) low))

-- The load for the pin

low_epoch : (a y : Current) → NotAfter a y → a.epoch ≤ y.epoch
low_epoch a y low = ⊎_elim (λ l. omega arith) (λ s. let e = s.0 in omega arith) low

pub for_pin_keeps : (c : Core) (j : ℕ) (x : Control) (h : Help) → j < c.start.layout.workers → MayLoadForPin x h (caller_of c j) → Inv c → Inv (loaded_for_pin c j)
for_pin_keeps c j x h b may inv = frame_heads d c.words.head help' loaded loaded.spelled loaded.chains loaded.sizes loaded.heads loaded.sorted loaded.marks loaded.standing loaded.copying loaded.naming
    (helps_same _ _ _ _ c.help help' (λ k g _. put_all c.help j (epoch_known c.words.current (c.help j)) (λ k o. o ≡ Some g → HasPassedAs (c.help k) g)
    (λ is. let s = epoch_so c.words.current (c.help j) g is in subst (HasPassedAs (c.help j)) s.2 (s.0, s.1, refl, refl, refl, refl)) (λ _ _ is. (g, is, refl, refl, refl, refl)) k) loaded.helps)
    loaded.bare
    (ends_helped (ending_of d) help' (λ k g. put_all c.help j (epoch_known c.words.current (c.help j)) (λ k o. k < c.start.layout.workers → o ≡ Some g → IsEnding (ending_of d) g)
    (λ b' is. let s = epoch_so c.words.current (c.help j) g is in subst (IsEnding (ending_of d)) s.2 (knows s.0 s.1)) (λ k _ b' is. ending_is (ending_of d) loaded.ends k g b' is) k) loaded.ends)
  where
    d : Core
    d = current_loaded c j false

    loaded : Inv d
    loaded = current_keeps c j b inv false tt

    help' : ℕ → Option Help
    help' = put c.help j (epoch_known c.words.current (c.help j))

    knows : (g : Help) → c.help j ≡ Some g → IsEnding (ending_of d) (record g { epoch = Some c.words.current.epoch })
    knows g is = let was = ending_is (ending_of d) loaded.ends j g b is in record {
      loaded = λ n loads. let e = same_Some c.words.current.epoch n loads in omega arith;
      sealed = λ n loads now. subst (IsSealed (ending_of d)) (same_Some c.words.current.epoch n loads) record {
        frozen = all_frozen c inv j b x h may.helper may.frozen (ap (λ (z : Help). z.generation) (same_Some h g (sym may.helper.helps ∙ is)) ∙ now);
        walks = λ k w s b' _ sees. low_epoch s.current c.words.current (loaded.finds.views k s b' sees);
        low = le_refl _;
      };
      pins = λ p has. let was = was.pins p has in record { next = was.next; now = was.now; past = was.past };
    }

-- PinLoad

pub pin_load_keeps : (c : Core) (j : ℕ) → j < c.start.layout.workers → Inv c → Inv (pin_loaded c j)
pin_load_keeps c j b inv = frame_heads c c.words.head help' inv inv.spelled inv.chains inv.sizes inv.heads inv.sorted inv.marks inv.standing inv.copying inv.naming
    (helps_same _ _ _ _ c.help help' (λ k g _. put_all c.help j (pin_known n (c.help j)) (λ k o. o ≡ Some g → HasPassedAs (c.help k) g)
    (λ is. let s = pin_so n (c.help j) g is in subst (HasPassedAs (c.help j)) s.2 (passed s.0 s.1)) (λ _ _ is. (g, is, refl, refl, refl, refl)) k) inv.helps)
    inv.bare
    (ends_helped (ending_of c) help' (λ k g. put_all c.help j (pin_known n (c.help j)) (λ k o. k < c.start.layout.workers → o ≡ Some g → IsEnding (ending_of c) g)
    (λ b' is. let s = pin_so n (c.help j) g is in subst (IsEnding (ending_of c)) s.2 (knows s.0 s.1)) (λ k _ b' is. ending_is (ending_of c) inv.ends k g b' is) k) inv.ends)
  where
    n : Pin
    n = c.words.pin

    help' : ℕ → Option Help
    help' = put c.help j (pin_known n (c.help j))

    passed : (g : Help) → c.help j ≡ Some g → HasPassedAs (c.help j) (pin_found n g)
    passed g is = cond_both (n.generation == g.generation + 1) (record g { pin = Some n }) g (HasPassedAs (c.help j)) (λ _. (g, is, refl, refl, refl, refl)) (λ _. (g, is, refl, refl, refl, refl))

    knows : (g : Help) → c.help j ≡ Some g → IsEnding (ending_of c) (pin_found n g)
    knows g is = let was = ending_is (ending_of c) inv.ends j g b is in cond_both (n.generation == g.generation + 1) (record g { pin = Some n }) g (IsEnding (ending_of c)) (λ test. let next = eqb-true n.generation (g.generation + 1) test in record {
      loaded = was.loaded;
      sealed = was.sealed;
      pins = λ p has. subst (IsPinOf (ending_of c) (record g { pin = Some n })) (same_Some n p has) record {
        next = next;
        now = λ _. refl;
        past = λ low. inv.ends.past (omega arith) (omega arith);
      };
    }) (λ _. was)

-- Pin

pub pin_keeps : (c : Core) (j : ℕ) (x : Control) (h : Help) (m : ℕ) (n : Pin) → j < c.start.layout.workers → MayPin x h m n (caller_of c j) → c.words.pin ≡ n → Inv c → Inv (pinned_by c x m)
pin_keeps c j x h m n b may is inv = subst (λ (z : Control). Inv (pinned_by c z m)) (sym word) (frame_pin c next inv
    record {
      is_control = inv.spelled.is_control;
      is_current = inv.spelled.is_current;
      is_pin = record { generation = (let top = inv.bounds.tables in let one = ap flag_number moves in omega arith); epoch = (let low = was.low in let top = inv.spelled.is_current.epoch in omega arith) };
      heads = inv.spelled.heads;
      links = inv.spelled.links;
      twins = inv.spelled.twins;
      events = inv.spelled.events;
    }
    (bounds_pinned _ _ _ _ _ _ _ next (coming_yet c.words.control c.words.current c.words.pin moves (λ named _. other named)) inv.bounds)
    record {
      opened = inv.ends.opened;
      loaded = inv.ends.loaded;
      sealed = λ k g e b' helps loads same. still e (inv.ends.sealed k g e b' helps loads same);
      low = (let one = ap flag_number moves in omega arith);
      high = λ _. omega arith;
      pinned = λ _. still m was;
      past = λ _ low. absurd (omega arith);
      pins = λ k g p b' helps has. let known = inv.ends.pins k g p b' helps has in record {
        next = known.next;
        now = λ same. absurd (other (ap (λ (z : Pin). z.generation) (sym (known.now same)) ∙ (known.next ∙ ap (λ a. a + 1) same)));
        past = known.past;
      };
      older = inv.ends.older;
    })
  where
    next : Pin
    next = pin_of c.words.control m

    older : c.words.pin.generation ≤ x.generation
    older = let low = may.older in let same = ap (λ (z : Pin). z.generation) is in omega arith

    -- a pin of an older table is left alone, since the present one isn't older than the open table
    present : x.generation ≡ c.words.control.generation
    present = let fits = inv.finds.controls j x b may.helper.control in let from = fits.first in let low = fits.low in let never : x.generation < c.words.control.generation → ⊥ = (λ less. let high = inv.ends.high (omega arith) in let top = older in omega arith) in not_less low never
      where
        not_less : {a n : ℕ} → a ≤ n → (a < n → ⊥) → a ≡ n
        not_less low never = omega arith

    word : x ≡ c.words.control
    word = helper_now c inv j b x h may.helper present

    moves : c.words.control.moving ≡ true
    moves = ap (λ (z : Control). z.moving) (sym word) ∙ may.helper.moving

    other : c.words.pin.generation ≡ c.words.control.generation + 1 → ⊥
    other named = let top = older in let here = present in omega arith

    was : IsSealed (ending_of c) m
    was = inv.ends.sealed j h m b may.helper.helps may.loaded (helper_of c inv j b x h may.helper ∙ present)

    still : (e : ℕ) → IsSealed (ending_of c) e → IsSealed (record (ending_of c) { pin = next }) e
    still e s = record { frozen = s.frozen; walks = s.walks; low = s.low }

-- Pass

pub pass_keeps : (c : Core) (j : ℕ) (x : Control) (h : Help) (n : Pin) (y : Current) → j < c.start.layout.workers → MayPass x h n y (caller_of c j) → c.words.current ≡ y → Inv c → Inv (passed_by c y)
pass_keeps c j x h n y b may is inv = subst (λ (z : Current). Inv (passed_by c z)) is (frame_current c next c.permit c.walk inv
    record {
      is_control = inv.spelled.is_control;
      is_current = record { epoch = (let left = inv.bounds.left in let one = to_come in omega arith); tick = inv.spelled.is_current.tick };
      is_pin = inv.spelled.is_pin;
      heads = inv.spelled.heads;
      links = inv.spelled.links;
      twins = inv.spelled.twins;
      events = inv.spelled.events;
    }
    record {
      controls = inv.finds.controls;
      currents = λ k a b' found. still_before a (inv.finds.currents k a b' found);
      sights = inv.finds.sights;
      views = λ k s b' sees. still_before s.current (inv.finds.views k s b' sees);
    }
    (walkers_current (present_of c) (takes_of c) _ _ c.words.control.generation next (λ k s b' sees same. absurd (new_epoch s.current (inv.finds.views k s b' sees) same)) inv.walkers)
    record { each = inv.ahead.each }
    (bounds_current _ _ _ _ _ _ _ next (omega arith) (let one = to_come in let none = come in omega arith) inv.bounds)
    (ends_current c inv next c.walk (omega arith) (same_walks c inv)))
  where
    next : Current
    next = passed_from c.words.current

    known : IsPinOf (ending_of c) h n
    known = inv.ends.pins j h n b may.helper.helps may.pin

    low_current : c.words.current.epoch ≤ n.epoch
    low_current = let low = may.low in let same = ap (λ (z : Current). z.epoch) is in omega arith

    -- once the move is over current is past the pin
    present : h.generation ≡ c.words.control.generation
    present = let fits = inv.finds.controls j x b may.helper.control in let of = helper_of c inv j b x h may.helper in let low = fits.low in
        let never : h.generation < c.words.control.generation → ⊥ = (λ less. let past = known.past less in let low = low_current in omega arith) in not_less (omega arith) never
      where
        not_less : {a n : ℕ} → a ≤ n → (a < n → ⊥) → a ≡ n
        not_less low never = omega arith

    moves : c.words.control.moving ≡ true
    moves = ap (λ (z : Control). z.moving) (sym (helper_now c inv j b x h may.helper (sym (helper_of c inv j b x h may.helper) ∙ present))) ∙ may.helper.moving

    pin_is : n ≡ c.words.pin
    pin_is = known.now present

    named : c.words.pin.generation ≡ c.words.control.generation + 1
    named = ap (λ (z : Pin). z.generation) (sym pin_is) ∙ (known.next ∙ ap (λ a. a + 1) present)

    pin_epoch : c.words.pin.epoch ≡ c.words.current.epoch
    pin_epoch = let low = low_current in let same = ap (λ (z : Pin). z.epoch) pin_is in let top = (inv.ends.pinned named).low in omega arith

    to_come : coming c.words.control c.words.current c.words.pin ≡ 1
    to_come = coming_yet c.words.control c.words.current c.words.pin moves (λ _ past. let at = pin_epoch in omega arith)

    come : coming c.words.control next c.words.pin ≡ 0
    come = coming_past c.words.control next c.words.pin named (let at = pin_epoch in omega arith)

    still_before : (a : Current) → NotAfter a c.words.current → NotAfter a next
    still_before a low = let l = low_epoch a c.words.current low in inl (omega arith)

    new_epoch : (a : Current) → NotAfter a c.words.current → a ≡ next → ⊥
    new_epoch a low same = let l = low_epoch a c.words.current low in let e = ap (λ (z : Current). z.epoch) same in omega arith
