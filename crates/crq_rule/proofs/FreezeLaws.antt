-- A helper that freezes the first row of a frozen head keeps the invariant.
use Rattle.std.proofs.Common.{◌≡◌, ⊎_elim, inr, true, false, Bool, ℕ, ◌+◌, ◌<◌, sym, refl, ap, ◌∙◌, subst, arith}
use mathlib.Core.Logic.{dite}
use native.Mathlib.Decide.{ℕ_discrete}
use Rattle.crq_base.specs.declared.words.Link.{Link}
use Rattle.crq_base.specs.declared.words.Mark.TheVariants.{Val, Inv as Invalid, Mov, Del}
use Rattle.crq_base.specs.Words.{flag_number}
use Rattle.crq_base.specs.Lists.{In}
use Rattle.crq_rule.specs.declared.view.Stand.{Stand}
use Rattle.crq_rule.specs.Places.{IsRow, IsHead}
use Rattle.crq_rule.specs.Core.{Core, listed, caller_of}
use Rattle.crq_rule.specs.Parts.{newest, ground_of, Covers, rows_of}
use Rattle.crq_rule.specs.ListParts.{IsOldMark, IsOldHead, IsFinal}
use Rattle.crq_rule.specs.HistoryParts.{IsLive, Carriers}
use Rattle.crq_rule.specs.Invariant.{rows_of_core, Inv}
use Rattle.crq_rule.specs.MoveKinds.{row_frozen, MayFreezeRow}
use Rattle.crq_rule.proofs.PartLaws.{of_whom}
use Rattle.crq_rule.proofs.CoverLaws.{guarded_by, stand_row}
use Rattle.crq_rule.proofs.HeadLaws.{val_carries, bare_carries}
use Rattle.crq_rule.proofs.SearchLaws.{stand_covered}
use Rattle.crq_rule.proofs.CopyMarks.{marked_as, mark_here, live_stays, live_was, carriers_same, Marking, from_val, copies_marked}
use Rattle.crq_rule.proofs.MarkLaws.{naming_marked}
use Rattle.crq_rule.proofs.NotingLaws.{noted_keeps, front_held, front_open}

val_mov : Val ≡ Mov → ⊥
val_mov e = cc

val_inv : Val ≡ Invalid → ⊥
val_inv e = cc

mov_del : Mov ≡ Del → ⊥
mov_del e = cc

mov_inv : Mov ≡ Invalid → ⊥
mov_inv e = cc

module _ (c : Core) (j r : ℕ) (b : j < c.start.layout.workers) (may : MayFreezeRow r (c.words.link r) (caller_of c j)) (inv : Inv c) where
  abbrev links : ℕ → Link
  links = marked_as c.words.link r Mov

  -- The row r and its head q

  val : (c.words.link r).mark ≡ Val
  val = may.present

  abbrev s : Stand
  s = may.on.0

  abbrev q : ℕ
  q = may.on.3.0

  is_head : IsHead q
  is_head = may.on.3.1

  covered : (g : ℕ) × Covers (ground_of c) j g r
  covered = stand_covered c inv j r b (subst (λ z. In z (rows_of (c.rows j))) may.on.2 (stand_row (c.rows j) s may.on.1))

  row : IsRow c.start.layout r
  row = inv.lanes.is_row r (guarded_by j covered)

  -- it is the first row of that head, which is frozen
  first : ((c.words.head q).mark ≡ Mov) × ((c.words.head q).row ≡ r)
  first = ⊎_elim (λ final. absurd (subst IsFinal (ap (λ z. (c.words.link z).mark) may.on.2 ∙ val) final)) (λ h. (h.0, h.1 ∙ may.on.2)) ((inv.standing.each j s b may.on.1).front q may.on.3.2)

  held : c.holding r ≡ listed q
  held = front_held c inv r q row is_head first.0 first.1

  -- the head is one of the open table, and so is the row
  opened : IsOldHead c.words.control c.shape q × ((c.words.link r).generation ≡ c.words.control.generation)
  opened = front_open c inv r q row is_head first.0 first.1

  -- the table moves
  moving : c.words.control.moving ≡ true
  moving = go c.words.control.moving refl
    where
      go : (m : Bool) → c.words.control.moving ≡ m → m ≡ true
      go true is = refl
      go false is = absurd (val_mov (sym (subst (λ m. IsOldMark m (c.words.head q).mark) is (inv.heads.old q is_head opened.0).1) ∙ first.0))

  aged : (c.words.link r).generation < newest c.words.control
  aged = let next = ap (λ m. c.words.control.generation + flag_number m) moving in let same = opened.1 in omega arith

  marking : Marking (rows_of_core c) r Mov
  marking = from_val c inv r Mov row (q, held) val mov_inv opened.1

  -- the same rows are live
  carriers_part : Carriers c.start.layout c.history links c.words.twin c.words.event c.holding
  carriers_part = carriers_same c.start.layout c.history c.words.link links c.words.twin c.words.twin c.words.event c.holding
      (λ t v. dite (ℕ_discrete t r)
      (λ (e : t ≡ r). subst (IsLive c.start.layout links c.words.twin c.holding) (sym e) (row, (q, held), bare_carries (links r).mark (c.words.twin r) (links (c.words.twin r)).mark (mark_here c.words.link r Mov) marking.lone))
      (λ ne. live_stays c.start.layout c.words.link c.words.twin c.holding r Mov t ne (λ _ _ i. val_inv (sym val ∙ i)) v))
      (λ t v. dite (ℕ_discrete t r)
      (λ (e : t ≡ r). subst (IsLive c.start.layout c.words.link c.words.twin c.holding) (sym e) (row, (q, held), val_carries (c.words.link r).mark (c.words.twin r) (c.words.link (c.words.twin r)).mark val))
      (λ ne. live_was c.start.layout c.words.link c.words.twin c.holding r Mov mov_inv t ne v)) inv.carriers

  freeze_inv : Inv (row_frozen c j r (c.words.link r))
  freeze_inv = noted_keeps c j r Mov c.copying c.named (λ _ _ h. h) marking (λ _. (λ p at. subst (λ z. ((c.words.head z).mark ≡ Mov) × ((c.words.head z).row ≡ r)) (ap of_whom (sym held ∙ at)) first, aged)) (λ _. inr refl) inv.dues inv.steady
      (naming_marked c.start.layout c.shape c.words.link c.words.twin c.words.event c.holding r Mov c.words.head c.named mov_del inv.naming) carriers_part (copies_marked (rows_of_core c) (ground_of c) r Mov marking inv.copies) inv.rooms inv

-- FreezeNode
pub freeze_row_keeps : (c : Core) (j r : ℕ) (l : Link) → j < c.start.layout.workers → MayFreezeRow r l (caller_of c j) → c.words.link r ≡ l → Inv c → Inv (row_frozen c j r l)
freeze_row_keeps c j r l b may is inv = subst (λ z. Inv (row_frozen c j r z)) is (freeze_inv c j r b (subst (λ z. MayFreezeRow r z (caller_of c j)) (sym is) may) inv)
