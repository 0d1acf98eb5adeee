-- What a step function asks of each kind that moves the table.
use Rattle.std.proofs.Common.{◌≡◌, ◌≢◌, ℕ, ◌+◌, ◌<◌, Bool, true, false, [], ◌∷◌, ◌++◌, None, Some, cond, get_or, set, eqb, arith, sym, refl, ap, ◌∙◌, subst, eq-eqb, ne_eqb}
use mathlib.Core.Logic.{dite}
use native.Mathlib.Decide.{ℕ_discrete}
use prog.Atomic.{either}
use Rattle.crq_base.specs.declared.kinds.StepKind.TheVariants.{Announce, Prepare, FreezeHead, FreezeNode, Pop}
use Rattle.crq_base.specs.declared.entry.Entry.TheVariants.{Table}
use Rattle.crq_base.specs.declared.words.Link.{Link}
use Rattle.crq_base.specs.declared.words.Mark.TheVariants.{Mov}
use Rattle.crq_base.specs.declared.words.Control.{Control}
use Rattle.crq_base.specs.Words.{flag_number, IsLink, IsControl, link_word, control_word}
use Rattle.crq_base.proofs.WordLaws.{link_one, control_one}
use Rattle.crq_rule.specs.declared.layout.Start.{Start}
use Rattle.crq_rule.specs.declared.view.Caller.{Caller}
use Rattle.crq_rule.specs.Places.{index, control, head, link, IsHead, IsRow}
use Rattle.crq_rule.specs.Core.{caller_of, owed_by}
use Rattle.crq_rule.specs.Ranks.{Shape, shape_of, at_head, at_row}
use Rattle.crq_rule.specs.Parts.{newest, Fits}
use Rattle.crq_rule.specs.Helping.{helped_by}
use Rattle.crq_rule.specs.ListKinds.{noted, cuts, loads_control, without_stand, unnamed_row}
use Rattle.crq_rule.specs.MoveKinds.{moving_to, announces, prepared_link, leaves_head, frozen_link, freezes_row, MayAnnounce, MayPrepare, MayFreezeHead, MayFreezeRow, MayPop}
use Rattle.crq_rule.specs.Steps.{announce, announce_fails, prepare, prepare_fails, freeze_head, freeze_head_fails, freeze_row, freeze_row_fails, pop, pop_fails, After}
use Rattle.crq_rule.specs.Moves.{MovesBy, By, FoundAnnounce, wins, quiet}
use Rattle.crq_rule.specs.Rule.{IsWords}
use Rattle.crq_rule.proofs.Puts.{put_here}
use Rattle.crq_rule.proofs.CoverLaws.{guarded_by}
use Rattle.crq_rule.proofs.Lawfuls.{stand_covered}
use Rattle.crq_rule.proofs.GuardSteps.{same_words}
use Rattle.crq_rule.proofs.ListSteps.{words_after, set_there, told_here, won, lost}

-- steady control words of one generation and one shape are one
steady_one : (x y : Control) → IsControl x → IsControl y → x.moving ≡ false → y.moving ≡ false → x.generation ≡ y.generation → shape_of x ≡ shape_of y → x ≡ y
steady_one x y is_x is_y steady_x steady_y same shape = λ i. record {
  generation = same i;
  moving = (steady_x ∙ sym steady_y) i;
  log = (shape i).log;
  shift = (shape i).shift;
  new_log = (is_x.steady_log steady_x ∙ sym (is_y.steady_log steady_y)) i;
  new_shift = (is_x.steady_shift steady_x ∙ sym (is_y.steady_shift steady_y)) i;
}

-- where control isn't the steady word that was found any more, it tells of a later table
found_later : (start : Start) (now : Control) (shape : ℕ → Shape) (x : Control) → Fits start now shape now → Fits start now shape x → x.moving ≡ false → now ≢ x → x.generation < newest now
found_later start now shape x is was steady other = go now.moving refl
  where
    go : (b : Bool) → now.moving ≡ b → x.generation < newest now
    go true moves = let high : newest now ≡ now.generation + 1 = ap (λ b. now.generation + flag_number b) moves in let low = was.low in omega arith
    go false still = dite (ℕ_discrete x.generation now.generation)
        (λ same. absurd (other (steady_one now x is.spelled was.spelled still steady (sym same) (sym is.size ∙ (ap shape (sym same) ∙ was.size)))))
        (λ apart. let high : newest now ≡ now.generation + 0 = ap (λ b. now.generation + flag_number b) still in let low = was.low in omega arith)

module _ (key : Start) (p : Caller) where
  abbrev j : ℕ
  j = p.number

  -- a table is announced, or else the control word that was found is known
  pub announce_moves : (x : Control) (log shift : ℕ) → IsControl x → MayAnnounce x log shift p
      → MovesBy Announce key p (index key.layout control) (λ w. either (eqb w (control_word x)) (control_word (moving_to x log shift)) w) (FoundAnnounce x log shift)
  announce_moves x log shift bits may c ws inv words b is = let w = index key.layout control in let new = control_word (moving_to x log shift) in
      let may' : MayAnnounce x log shift (caller_of c j) = subst (MayAnnounce x log shift) is may in let at = words.shows.each control tt in
      dite (ℕ_discrete (get_or ws w 0) (control_word x))
      (λ hit. let found : c.words.control ≡ x = control_one c.words.control x inv.spelled.is_control bits (sym at ∙ hit) in let same = eq-eqb (get_or ws w 0) (control_word x) hit in let k = announce x log shift in (
        k,
        refl,
        (may', found),
        subst (λ (z : Bool). IsWords key (After k c j) (set ws w (either z new (get_or ws w 0)))) (sym same) (words_after key k c j ws new tt refl words),
        record {
          control = c.words.control;
          is_control = inv.spelled.is_control;
          word = sym at;
          later = λ apart. absurd (apart found);
          after = (λ i. cond (same i) (announces log shift (is i)) (loads_control c.words.control (is i)))
              ∙ (λ i. record (caller_of c j) { own = sym (put_here c.own j (c.own j ++ Table j log shift ∷ [])) i; permit = sym (put_here c.permit j false) i });
        },
      ))
      (λ apart. let other = ne_eqb (get_or ws w 0) (control_word x) apart in let k = announce_fails in (
        k,
        refl,
        tt,
        subst (λ (z : Bool). IsWords key (After k c j) (set ws w (either z new (get_or ws w 0)))) (sym other) (same_words key c (After k c j) ws w refl refl words),
        record {
          control = c.words.control;
          is_control = inv.spelled.is_control;
          word = sym at;
          later = found_later c.start c.words.control c.shape x inv.sizes.now (inv.finds.controls j x b may'.control) may'.steady;
          after = (λ i. cond (other i) (announces log shift (is i)) (loads_control c.words.control (is i))) ∙ told_here key p c;
        },
      ))

  -- a head of the new table is opened, or it isn't that link any more
  pub prepare_moves : (x : Control) (q : ℕ) (l : Link) → IsLink l → IsHead q → MayPrepare x q l p
      → MovesBy Prepare key p (index key.layout (head q)) (λ w. either (eqb w (link_word l)) (link_word (prepared_link x)) w) (By (wins (link_word l) (leaves_head q (prepared_link x))) quiet)
  prepare_moves x q l bits place may c ws inv words b is = let new : Link = prepared_link x in let w = index key.layout (head q) in
      let may' : MayPrepare x q l (caller_of c j) = subst (MayPrepare x q l) is may in let at = words.shows.each (head q) place in
      dite (ℕ_discrete (get_or ws w 0) (link_word l))
      (λ hit. let found : c.words.head q ≡ l = link_one (c.words.head q) l (inv.spelled.heads q place) bits (sym at ∙ hit) in let k = prepare x q l in
      won key p Prepare k w (link_word l) (link_word new) (leaves_head q new) refl c ws (may', found) is hit
      (words_after key k c j ws (link_word new) place (set_there key p c (After k c j) (at_head q) new refl refl) words)
      (λ i. record (caller_of c j) { help = sym (put_here c.help j (helped_by (c.found j).control j (at_head q) new (c.help j))) i }))
      (λ apart. lost key p Prepare (prepare_fails q) w (link_word l) (link_word new) (leaves_head q new) refl (λ _. tt) (λ _. refl) c ws words is apart)

  -- a head of the table that moves is frozen, or it isn't that link any more
  pub freeze_head_moves : (x : Control) (q : ℕ) (l : Link) → IsLink l → IsHead q → MayFreezeHead x q l p
      → MovesBy FreezeHead key p (index key.layout (head q)) (λ w. either (eqb w (link_word l)) (link_word (frozen_link l)) w) (By (wins (link_word l) (leaves_head q (frozen_link l))) quiet)
  freeze_head_moves x q l bits place may c ws inv words b is = let new : Link = frozen_link l in let w = index key.layout (head q) in
      let may' : MayFreezeHead x q l (caller_of c j) = subst (MayFreezeHead x q l) is may in let at = words.shows.each (head q) place in
      dite (ℕ_discrete (get_or ws w 0) (link_word l))
      (λ hit. let found : c.words.head q ≡ l = link_one (c.words.head q) l (inv.spelled.heads q place) bits (sym at ∙ hit) in let k = freeze_head x q l in
      won key p FreezeHead k w (link_word l) (link_word new) (leaves_head q new) refl c ws (may', found) is hit
      (words_after key k c j ws (link_word new) place (set_there key p c (After k c j) (at_head q) new refl refl) words)
      (λ i. record (caller_of c j) { help = sym (put_here c.help j (helped_by (c.found j).control j (at_head q) new (c.help j))) i }))
      (λ apart. lost key p FreezeHead (freeze_head_fails q) w (link_word l) (link_word new) (leaves_head q new) refl (λ _. tt) (λ _. refl) c ws words is apart)

  -- the first row of a frozen head is frozen, or its link isn't that any more
  pub freeze_row_moves : (r : ℕ) (l : Link) → IsLink l → MayFreezeRow r l p
      → MovesBy FreezeNode key p (index key.layout (link r)) (λ w. either (eqb w (link_word l)) (link_word (frozen_link l)) w) (By (wins (link_word l) (freezes_row r l)) quiet)
  freeze_row_moves r l bits may c ws inv words b is = let new : Link = frozen_link l in let w = index key.layout (link r) in
      let may' : MayFreezeRow r l (caller_of c j) = subst (MayFreezeRow r l) is may in let on = may'.on in
      let row : IsRow c.start.layout r = subst (λ r. IsRow c.start.layout r) on.2 (inv.lanes.is_row on.0.row (guarded_by j (stand_covered c j on.0 b on.1 inv))) in
      let place : IsRow key.layout r = subst (λ (z : Start). IsRow z.layout r) words.start row in let at = words.shows.each (link r) place in
      dite (ℕ_discrete (get_or ws w 0) (link_word l))
      (λ hit. let found : c.words.link r ≡ l = link_one (c.words.link r) l (inv.spelled.links r row) bits (sym at ∙ hit) in let k = freeze_row r l in
      won key p FreezeNode k w (link_word l) (link_word new) (freezes_row r l) refl c ws (may', found) is hit
      (words_after key k c j ws (link_word new) place (set_there key p c (After k c j) (at_row r) new refl refl) words)
      (λ i. record (caller_of c j) { position = record { rows = sym (put_here c.rows j (noted r new (c.rows j))) i; old = c.old j } }))
      (λ apart. lost key p FreezeNode (freeze_row_fails r) w (link_word l) (link_word new) (freezes_row r l) refl (λ _. tt) (λ _. refl) c ws words is apart)

  -- the first row of a frozen head leaves the list, or the head isn't that link any more
  pub pop_moves : (q r : ℕ) (l last : Link) → IsLink l → l.mark ≡ Mov → l.row ≡ r → MayPop q r last p
      → MovesBy Pop key p (index key.layout (head q)) (λ w. either (eqb w (link_word l)) (link_word (record l { row = last.row })) w) (By (wins (link_word l) (cuts r)) quiet)
  pop_moves q r l last bits frozen row may c ws inv words b is = let new : Link = record l { row = last.row } in let w = index key.layout (head q) in
      let may' : MayPop q r last (caller_of c j) = subst (MayPop q r last) is may in let place : IsHead q = may.head in let at = words.shows.each (head q) place in
      dite (ℕ_discrete (get_or ws w 0) (link_word l))
      (λ hit. let found : c.words.head q ≡ l = link_one (c.words.head q) l (inv.spelled.heads q place) bits (sym at ∙ hit) in let k = pop q r last in
      won key p Pop k w (link_word l) (link_word new) (cuts r) refl c ws (may', (ap (λ (z : Link). z.mark) found ∙ frozen, ap (λ (z : Link). z.row) found ∙ row)) is hit
      (words_after key k c j ws (link_word new) place (set_there key p c (After k c j) (at_head q) (record (c.words.head q) { row = last.row }) refl refl ∙ ap (λ (z : Link). link_word (record z { row = last.row })) found) words)
      (λ i. record (caller_of c j) {
        cut = sym (put_here c.cut j (Some (record { row = r; tags = [] }))) i;
        walk = sym (put_here c.walk j None) i;
        position = record { rows = sym (put_here c.rows j (without_stand r (c.rows j))) i; old = c.old j };
        debts = owed_by (c.settling j) (c.copying j) (sym (put_here c.named j (unnamed_row r (c.named j))) i);
      }))
      (λ apart. lost key p Pop (pop_fails q) w (link_word l) (link_word new) (cuts r) refl (λ _. tt) (λ _. refl) c ws words is apart)
