-- A caller that validates a bound copy keeps the invariant: the copy carries the event from then on, and the row that it copies doesn't.
use Rattle.std.proofs.Common.{◌≡◌, ◌≢◌, ◌⊎◌, ⊎_elim, inl, inr, ℕ, ◌<◌, sym, refl, ap, ◌∙◌, subst, arith}
use mathlib.Core.Logic.{dite}
use native.Mathlib.Decide.{ℕ_discrete}
use Rattle.crq_base.specs.declared.words.Link.{Link}
use Rattle.crq_base.specs.declared.words.Mark.{Mark}
use Rattle.crq_base.specs.declared.words.Mark.TheVariants.{Val, Inv as Invalid, Mov, Del}
use Rattle.crq_base.specs.Histories.{IsPending}
use Rattle.crq_rule.specs.declared.view.Stand.{Stand}
use Rattle.crq_rule.specs.Core.{Core, caller_of}
use Rattle.crq_rule.specs.Parts.{ground_of, IsGuarded}
use Rattle.crq_rule.specs.HistoryParts.{IsCarrying, IsLive, Carriers}
use Rattle.crq_rule.specs.Copies.{IsListed, IsBound, IsCopyOf}
use Rattle.crq_rule.specs.Invariant.{rows_of_core, Inv}
use Rattle.crq_rule.specs.CopyKinds.{validated_by, MayValidate}
use Rattle.crq_rule.proofs.CoverLaws.{guarded_by, stand_row}
use Rattle.crq_rule.proofs.HeadLaws.{val_carries}
use Rattle.crq_rule.proofs.SearchLaws.{stand_covered}
use Rattle.crq_rule.proofs.SteadyLaws.{guarded_out}
use Rattle.crq_rule.proofs.CopyLaws.{listed_out, listed_or}
use Rattle.crq_rule.proofs.CopyMarks.{inv_open, not_mov, marked_as, mark_here, mark_stays, other_then, inv_dead, live_stays, live_was, Marking, copies_marked}
use Rattle.crq_rule.proofs.MarkLaws.{naming_marked}
use Rattle.crq_rule.proofs.NotingLaws.{noted_keeps}

val_mov : Val ≡ Mov → ⊥
val_mov e = cc

val_inv : Val ≡ Invalid → ⊥
val_inv e = cc

val_del : Val ≡ Del → ⊥
val_del e = cc

inv_mov : Invalid ≡ Mov → ⊥
inv_mov e = cc

del_mov : Del ≡ Mov → ⊥
del_mov e = cc

pub mov_or : (m : Mark) → (m ≡ Mov) ⊎ (m ≢ Mov)
mov_or Val = inr val_mov
mov_or Invalid = inr inv_mov
mov_or Mov = inl refl
mov_or Del = inr del_mov

-- a frozen row with a valid copy carries nothing
copied_dead : (m : Mark) (t : ℕ) (k : Mark) → m ≡ Mov → 0 < t → k ≡ Val → IsCarrying m t k → ⊥
copied_dead m t k frozen some val is = ⊎_elim (λ (none : t ≡ 0). absurd (omega arith)) (λ i. val_inv (sym val ∙ i)) (subst (λ m. IsCarrying m t k) frozen is)

pub inv_carries : (m : Mark) (t : ℕ) (k : Mark) → m ≡ Mov → k ≡ Invalid → IsCarrying m t k
inv_carries m t k frozen invalid = subst (λ m. IsCarrying m t k) (sym frozen) (inr invalid)

-- The bound copy t of the row o comes to be valid: the carrier goes from o to t
module _ (c : Core) (inv : Inv c) (o t : ℕ) (invalid : (c.words.link t).mark ≡ Invalid) (b : IsBound (rows_of_core c) o t) where
  abbrev l : ℕ → Link
  l = marked_as c.words.link t Val

  abbrev Live : ℕ → Type 0
  Live = IsLive c.start.layout c.words.link c.words.twin c.holding

  abbrev LiveNow : ℕ → Type 0
  LiveNow = IsLive c.start.layout l c.words.twin c.holding

  copy : IsCopyOf (rows_of_core c) o t
  copy = inv.copies.bound o t b

  marking : Marking (rows_of_core c) t Val
  marking = record {
    row = copy.row;
    is_listed = copy.listed_is;
    was = inv_open (c.words.link t).mark invalid;
    no_inv = val_inv;
    lone = inv.marks.bare t copy.row (listed_out c.holding t copy.listed_is) (λ e. inv_mov (sym invalid ∙ e));
    bound_to = λ _ _. refl;
    owed_to = λ k d inside is e. absurd (inv.copies.apart o t b (record { who = k; inside = inside; owed = d; debt = is; copy = e }));
  }

  else_t : (s : ℕ) → Live s → s ≢ t
  else_t s v same = inv_dead (c.words.link s).mark (c.words.twin s) (c.words.link (c.words.twin s)).mark (ap (λ z. (c.words.link z).mark) same ∙ invalid) v.2

  o_else : o ≢ t
  o_else = other_then c.words.link t Val o Mov (not_mov (c.words.link t).mark marking.was) b.frozen

  live_old : Live o
  live_old = (b.row, b.listed_is, inv_carries (c.words.link o).mark (c.words.twin o) (c.words.link (c.words.twin o)).mark b.frozen (ap (λ z. (c.words.link z).mark) b.twin_is ∙ invalid))

  live_copy : LiveNow t
  live_copy = (copy.row, copy.listed_is, val_carries (l t).mark (c.words.twin t) (l (c.words.twin t)).mark (mark_here c.words.link t Val))

  old_gone : LiveNow o → ⊥
  old_gone v = copied_dead (l o).mark (c.words.twin o) (l (c.words.twin o)).mark (mark_stays c.words.link t Val o Mov o_else b.frozen) (subst (λ z. 0 < z) (sym b.twin_is) b.some)
      (ap (λ z. (l z).mark) b.twin_is ∙ mark_here c.words.link t Val) v.2

  was_live : (s : ℕ) → s ≢ t → LiveNow s → Live s
  was_live s ne v = live_was c.start.layout c.words.link c.words.twin c.holding t Val val_inv s ne v

  stays_live : (s : ℕ) → s ≢ o → Live s → LiveNow s
  stays_live s ne v = live_stays c.start.layout c.words.link c.words.twin c.holding t Val s (else_t s v)
      (λ mov is. absurd (ne (inv.copies.one s o t (record { row = v.0; listed_is = v.1; frozen = mov; twin_is = is; some = b.some }) b))) v

  carriers_valid : Carriers c.start.layout c.history l c.words.twin c.words.event c.holding
  carriers_valid = record {
    carried = λ e p. let a = inv.carriers.carried e p in dite (ℕ_discrete a.0 o)
        (λ q. (t, live_copy, copy.event_is ∙ (ap c.words.event (sym q) ∙ a.2)))
        (λ ne. (a.0, stays_live a.0 ne a.1, a.2));
    pending = λ s v. dite (ℕ_discrete s t)
        (λ q. subst (IsPending c.history) (sym (ap c.words.event q ∙ copy.event_is)) (inv.carriers.pending o live_old))
        (λ ne. inv.carriers.pending s (was_live s ne v));
    one = λ s u v w e. dite (ℕ_discrete s t)
        (λ q. dite (ℕ_discrete u t) (λ q'. q ∙ sym q')
        (λ ne. absurd (old_gone (subst LiveNow (inv.carriers.one u o (was_live u ne w) live_old (sym e ∙ (ap c.words.event q ∙ copy.event_is))) w))))
        (λ ne. dite (ℕ_discrete u t)
        (λ q. absurd (old_gone (subst LiveNow (inv.carriers.one s o (was_live s ne v) live_old (e ∙ (ap c.words.event q ∙ copy.event_is))) v)))
        (λ ne'. inv.carriers.one s u (was_live s ne v) (was_live u ne' w) e));
  }

  valid_inv : (j : ℕ) → Inv (validated_by c j t (c.words.link t))
  valid_inv j = noted_keeps c j t Val c.copying c.named (λ _ _ h. h) marking (λ e. absurd (val_mov e)) (λ _. inl refl) inv.dues inv.steady
      (naming_marked c.start.layout c.shape c.words.link c.words.twin c.words.event c.holding t Val c.words.head c.named val_del inv.naming) carriers_valid (copies_marked (rows_of_core c) (ground_of c) t Val marking inv.copies) inv.rooms inv

module _ (c : Core) (inv : Inv c) (j t : ℕ) (b : j < c.start.layout.workers) (may : MayValidate t (c.words.link t) (caller_of c j)) where
  abbrev s : Stand
  s = may.twin.0

  -- the row s copies, which is t's
  guarded : IsGuarded (ground_of c) s.row
  guarded = guarded_by j (stand_covered c inv j s.row b (stand_row (c.rows j) s may.twin.1))

  twin_is : (c.words.twin s.row ≡ t) × (0 < t)
  twin_is = (inv.standing.each j s b may.twin.1).copy t may.twin.2

  frozen : (c.words.link s.row).mark ≡ Mov
  frozen = ⊎_elim (λ e. e) (λ ne. let none = inv.marks.bare s.row (inv.lanes.is_row s.row guarded) (guarded_out c inv s.row guarded) ne in let same = twin_is.0 in let some = twin_is.1 in absurd (omega arith)) (mov_or (c.words.link s.row).mark)

  old_listed : IsListed c.holding s.row
  old_listed = ⊎_elim (λ h. h) (λ out. absurd ((inv.copies.left s.row guarded frozen out).1 (ap (λ z. (c.words.link z).mark) twin_is.0 ∙ may.copy))) (listed_or c.holding s.row)

  is_bound : IsBound (rows_of_core c) s.row t
  is_bound = record { row = inv.lanes.is_row s.row guarded; listed_is = old_listed; frozen = frozen; twin_is = twin_is.0; some = twin_is.1 }

-- Validate
pub validate_keeps : (c : Core) (j t : ℕ) (l : Link) → j < c.start.layout.workers → MayValidate t l (caller_of c j) → c.words.link t ≡ l → Inv c → Inv (validated_by c j t l)
validate_keeps c j t l b may is inv = let may' : MayValidate t (c.words.link t) (caller_of c j) = subst (λ z. MayValidate t z (caller_of c j)) (sym is) may in
    subst (λ z. Inv (validated_by c j t z)) is (valid_inv c inv (may'.twin.0.row) t may'.copy (is_bound c inv j t b may') j)
