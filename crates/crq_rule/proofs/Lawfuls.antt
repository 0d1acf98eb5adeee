-- What the invariant says of what one caller knows alone.
use Rattle.std.proofs.Common.{◌≤◌, ⊎_elim, ◌≡◌, ◌∙◌, true, ℕ, ◌+◌, ◌^◌, ◌<◌, Some, sym, refl, ap, subst, arith}
use Rattle.crq_base.specs.declared.words.Control.{Control}
use Rattle.crq_base.specs.declared.words.Pin.{Pin}
use mathlib.Core.Logic.{dite}
use native.Mathlib.Decide.{ℕ_discrete}
use Rattle.crq_base.specs.Words.{IsLink, flag_number}
use Rattle.crq_base.specs.Lists.{In}
use Rattle.crq_rule.specs.declared.view.Guard.{Guard}
use Rattle.crq_rule.specs.declared.view.Guard.TheVariants.{Off, Entering, On}
use Rattle.crq_rule.specs.declared.view.Stand.{Stand}
use Rattle.crq_rule.specs.Places.{IsRow}
use Rattle.crq_rule.specs.Core.{Core, caller_of}
use Rattle.crq_rule.specs.Parts.{newest, ground_of, Covers, IsEvent, IsOn}
use Rattle.crq_rule.specs.Invariant.{Inv}
use Rattle.crq_rule.specs.declared.debts.CopyDebt.{CopyDebt}
use Rattle.crq_rule.specs.Moves.{CopyKnown, Lawful}
use Rattle.crq_rule.proofs.HeadLaws.{below_or_not}
use Rattle.crq_rule.proofs.BoundLaws.{permitted}
use Rattle.crq_rule.proofs.CoverLaws.{guarded_by, stand_row, row_footing, copy_footing, footing_covered}
use Rattle.crq_rule.proofs.SteadyLaws.{found_now, found_told, found_still, still_name, one_named}
use Rattle.crq_rule.proofs.CopyLaws.{debt_guarded}
use Rattle.crq_rule.proofs.ScarceLaws.{rows_counted}

-- a caller whose guard isn't off or entering found an epoch
pub found_by : (g : Guard) → IsOn g → (e : ℕ) × (g ≡ On e)
found_by Off on = absurd on
found_by (Entering x) on = absurd on
found_by (On x) on = (x, refl)

-- a row on which a caller stands is covered by its guard
pub stand_covered : (c : Core) (j : ℕ) (s : Stand) → j < c.start.layout.workers → In s (c.rows j) → Inv c → (g : ℕ) × Covers (ground_of c) j g s.row
stand_covered c j s b i inv = footing_covered (ground_of c) c.cut c.holding inv.cover j s.row b (row_footing c.rows c.old c.copying j s.row (stand_row (c.rows j) s i))

-- a caller that stands on a row has its guard on
pub stander_on : (c : Core) (j : ℕ) (s : Stand) → j < c.start.layout.workers → In s (c.rows j) → Inv c → IsOn (c.guard j)
stander_on c j s b i inv = let v = stand_covered c j s b i inv in subst IsOn (sym v.1.on) tt

-- a move whose control word was found leads to a table that has a generation
moving_room : (c : Core) (k : ℕ) (x : Control) → Inv c → k < c.start.layout.workers → (c.found k).control ≡ Some x → x.moving ≡ true → x.generation + 1 < 2 ^ 30
moving_room c k x inv b found moving = let fits = inv.finds.controls k x b found in let top = inv.bounds.tables in let low = fits.low in
    dite (ℕ_discrete x.generation c.words.control.generation)
    (λ now. let same = fits.same moving now in let one : newest c.words.control ≡ x.generation + 1 = ap newest (sym same) ∙ ap (λ m. x.generation + flag_number m) moving in omega arith)
    (λ before. omega arith)

pub lawful : (c : Core) (j : ℕ) → j < c.start.layout.workers → Inv c → Lawful (caller_of c j)
lawful c j b inv = record {
  inside = b;
  epochs = λ e i. let low = inv.reading.read j e b i in let top = inv.reading.limit in omega arith;
  hand = λ r i. (inv.holders.held j r b i).0;
  cut = λ x is. (inv.holders.is_cut j x b is).0;
  tags = λ x t is i. let low = inv.reading.tags j t x b is i in let top = inv.reading.limit in omega arith;
  ripening = λ r t i. (inv.stamps.ripe j r t b i).0;
  stands = λ s i. let row = row_of s i in (row, subst IsEvent ((inv.standing.each j s b i).holds) (inv.spelled.events s.row row));
  last = λ s l i is. subst IsLink (((inv.standing.each j s b i).last l is)).0 (inv.spelled.links s.row (row_of s i));
  apart = λ r s held i e. let v = stand_covered c j s b i inv in inv.cover.free j v.0 s.row j v.1 (ap c.holding e ∙ (inv.holders.held j r b held).1);
  on = λ s i. stander_on c j s b i inv;
  agree = λ s t i k e. sym ((inv.standing.each j s b i).holds) ∙ (ap c.words.event e ∙ (inv.standing.each j t b k).holds);
  owed_at = λ d x has is told. (inv.dues.named j d b has).1 ∙ found_told c inv j x b is d.generation told d.event;
  owed_fits = λ d has. let n = inv.naming.place j d b has in (n.row, n.event);
  ordered = inv.rooms.ordered j b;
  owed_now = λ d x no_move has is. still_name c inv no_move j d b has ∙ sym (found_now c inv no_move j x b is);
  one_name = λ no_move. one_named c inv no_move j b;
  copying = copy_known;
  owing = λ d owes. let fits = inv.dues.settles j d b owes in (fits.event, fits.width, inv.bounds.owed j d b owes);
  scarce = λ x vain. rows_counted c j x b vain inv;
  sighted = λ s is. let f = inv.finds.sights j s b is in (f.0.spelled, f.1);
  controlled = λ x is. ((inv.finds.controls j x b is).spelled, found_still c inv j x b is);
  helping = λ h is. let f = inv.helps.finds j h b is in (f.0, f.1, f.2, moving_room c j f.0 inv b f.1 f.2.moving);
  loaded = λ h n is loads. let low = inv.ends.loaded j h n b is loads in let top = inv.spelled.is_current.epoch in omega arith;
  pinned = λ h n is has. let known = inv.ends.pins j h n b is has in let f = inv.helps.finds j h b is in let fits = inv.finds.controls j f.0 b f.1 in let low = fits.low in let of = f.2.same in let left = inv.bounds.left in ⊎_elim
      (λ (less : h.generation < c.words.control.generation). let past = known.past less in omega arith)
      (λ (top : c.words.control.generation ≤ h.generation). let here : h.generation ≡ c.words.control.generation = omega arith in let now = known.now here in
      let named : c.words.pin.generation ≡ c.words.control.generation + 1 = ap (λ (z : Pin). z.generation) (sym now) ∙ (known.next ∙ ap (λ a. a + 1) here) in
      let sealed = (inv.ends.pinned named).low in let e = ap (λ (z : Pin). z.epoch) now in omega arith)
      (below_or_not h.generation c.words.control.generation);
  permitted = λ x has found. let left = permitted _ _ _ _ _ _ _ j b has inv.bounds in ⊎_elim (λ low. omega arith) (λ same. let e = same.0 in omega arith) (inv.finds.currents j x b found);
}
  where
    row_of : (s : Stand) → In s (c.rows j) → IsRow c.start.layout s.row
    row_of s i = inv.lanes.is_row s.row (guarded_by j (stand_covered c j s b i inv))

    copy_known : (d : CopyDebt) → c.copying j ≡ Some d → CopyKnown d (caller_of c j)
    copy_known d is = let fits = inv.copies.debt j d b is in let v = debt_guarded c inv j d b is in let row = inv.lanes.is_row d.old v.0 in
        let on = footing_covered (ground_of c) c.cut c.holding inv.cover j d.old b (copy_footing c.rows c.old c.copying j d is).0 in record {
          on = subst IsOn (sym on.1.on) tt;
          old = row;
          copy = inv.lanes.is_row d.copy v.1;
          event = subst IsEvent fits.old_event (inv.spelled.events d.old row);
          last = (subst IsLink fits.last (inv.spelled.links d.old row), fits.frozen, fits.next);
          room = inv.rooms.room j d b is;
        }
