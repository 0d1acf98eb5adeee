-- What a step function asks of each kind that carries events into the next table.
use Rattle.std.proofs.Common.{◌≡◌, ◌==◌, ℕ, ◌+◌, ◌<◌, Bool, List, ◌∷◌, None, Some, cond, get_or, set, eqb, sym, refl, ap, ◌∙◌, subst, eq-eqb, ne_eqb}
use mathlib.Core.Logic.{dite}
use native.Mathlib.Decide.{ℕ_discrete}
use prog.Atomic.{either}
use Rattle.crq_base.specs.declared.kinds.StepKind.TheVariants.{TwinLoad, Copy, Walk, Bind, Validate, Discard}
use Rattle.crq_base.specs.declared.words.Link.{Link}
use Rattle.crq_base.specs.declared.words.Control.{Control}
use Rattle.crq_base.specs.Words.{IsLink, link_word}
use Rattle.crq_base.specs.Lists.{In}
use Rattle.crq_base.specs.declared.event.Event.{Event}
use Rattle.crq_base.proofs.WordLaws.{link_one}
use Rattle.crq_rule.specs.declared.debts.CopyDebt.{CopyDebt}
use Rattle.crq_rule.specs.declared.layout.Start.{Start}
use Rattle.crq_rule.specs.declared.view.Stand.{Stand}
use Rattle.crq_rule.specs.declared.view.Caller.{Caller}
use Rattle.crq_rule.specs.Places.{index, link, twin, IsRow}
use Rattle.crq_rule.specs.Core.{Core, caller_of, owed_by}
use Rattle.crq_rule.specs.Parts.{ground_of, IsGuarded}
use Rattle.crq_rule.specs.Invariant.{Inv}
use Rattle.crq_rule.specs.Ranks.{head_in, list_in, next_list, Cell, at_row, cell_place, link_at}
use Rattle.crq_rule.specs.ListKinds.{noted, unhanded, forgotten}
use Rattle.crq_rule.specs.CopyKinds.{plain_stand, stands_twinned, old_after, loads_twin, MayTwin, old_stand, lost_stands, finds_twin, copy_debt, copies, MayCopy, binds, copy_after, valid_link, validates, MayValidate, dead_link, named_too, lost_name, front_name, discards, MayDrop, MayDiscard}
use Rattle.crq_rule.specs.Steps.{twin_load, twin_reload, copy, copy_fails, copy_load, bind, bind_fails, validate, validate_fails, discard_copy, discard_front, discard_fails, After}
use Rattle.crq_rule.specs.Moves.{MovesBy, By, TellsTwin, FoundCopy, wins, quiet}
use Rattle.crq_rule.specs.Rule.{IsWords}
use Rattle.crq_rule.proofs.Puts.{put_here}
use Rattle.crq_rule.proofs.CoverLaws.{guarded_by}
use Rattle.crq_rule.proofs.CopyLaws.{debt_guarded, twin_guarded}
use Rattle.crq_rule.proofs.Lawfuls.{stand_covered}
use Rattle.crq_rule.proofs.GuardSteps.{same_words}
use Rattle.crq_rule.proofs.ListSteps.{words_after, cell_word, cell_is, cell_link, linked_cell, set_there, won, lost}

module _ (key : Start) (p : Caller) where
  abbrev j : ℕ
  j = p.number

  -- a covered row has its places among the words
  row_there : (c : Core) (ws : List ℕ) → Inv c → IsWords key c ws → (r : ℕ) → IsGuarded (ground_of c) r → IsRow key.layout r
  row_there c ws inv words r v = subst (λ (z : Start). IsRow z.layout r) words.start (inv.lanes.is_row r v)

  -- a row on which the caller stands is covered
  stood_on : (c : Core) → Inv c → j < c.start.layout.workers → (r : ℕ) (s : Stand) → In s (c.rows j) → s.row ≡ r → IsGuarded (ground_of c) r
  stood_on c inv b r s i row = subst (IsGuarded (ground_of c)) row (guarded_by j (stand_covered c j s b i inv))

  -- what the twin of a covered row tells
  twin_tells : (c : Core) (t r : ℕ) → Inv c → p ≡ caller_of c j → IsGuarded (ground_of c) r → t ≡ c.words.twin r → TellsTwin t p
  twin_tells c t r inv is v at = subst (λ (z : ℕ × Caller). TellsTwin z.0 z.1) (λ i. (sym at i, sym is i)) (λ some. inv.lanes.is_row (c.words.twin r) (twin_guarded (ground_of c) r v some))

  -- the twin of a frozen row is found
  pub twin_moves : (r : ℕ) → MayTwin r p → MovesBy TwinLoad key p (index key.layout (twin r)) (λ w. w) (By (λ t. loads_twin r t) TellsTwin)
  twin_moves r may c ws inv words b is = let w = index key.layout (twin r) in let k = twin_load r in let may' : MayTwin r (caller_of c j) = subst (MayTwin r) is may in
      let v = stood_on c inv b r may'.on.0 may'.on.1 may'.on.2 in let at = words.shows.each (twin r) (row_there c ws inv words r v) in (
        k,
        refl,
        may',
        same_words key c (After k c j) ws w refl refl words,
        (
          (λ i. loads_twin r (at i) (is i)) ∙ (λ i. record (caller_of c j) {
            position = record { rows = sym (put_here c.rows j (stands_twinned r (c.words.twin r) (c.rows j))) i; old = sym (put_here c.old j (old_after r (c.words.twin r) (c.rows j) (c.old j))) i };
          }),
          twin_tells c (get_or ws w 0) r inv is v at,
        ),
      )

  -- what a caller that owes a copy knows once it found the twin of the old row
  found_so : (c : Core) (d : CopyDebt) → finds_twin d (c.words.twin d.old) (caller_of c j) ≡ caller_of (After (twin_reload d) c j) j
  found_so c d = λ i. record (caller_of c j) { position = record { rows = sym (put_here c.rows j (lost_stands d (c.words.twin d.old) (c.rows j))) i; old = c.old j } }

  -- the twin of the row whose copy the caller owes is found
  pub reload_moves : (d : CopyDebt) → p.debts.copy ≡ Some d → MovesBy TwinLoad key p (index key.layout (twin d.old)) (λ w. w) (By (λ t. finds_twin d t) TellsTwin)
  reload_moves d owes c ws inv words b is = let w = index key.layout (twin d.old) in let k = twin_reload d in let may : c.copying j ≡ Some d = ap (λ (q : Caller). q.debts.copy) (sym is) ∙ owes in
      let v = (debt_guarded c inv j d b may).0 in let at = words.shows.each (twin d.old) (row_there c ws inv words d.old v) in (
        k,
        refl,
        may,
        same_words key c (After k c j) ws w refl refl words,
        ((λ i. finds_twin d (at i) (is i)) ∙ found_so c d, twin_tells c (get_or ws w 0) d.old inv is v at),
      )

  -- a copy is linked, or the cell's link isn't that any more
  pub copy_moves : (x : Control) (cell : Cell) (l : Link) (r : ℕ) (s : Stand) (last : Link) → MayCopy x cell l r s last p
      → MovesBy Copy key p (index key.layout (cell_place cell)) (λ w. either (eqb w (link_word l)) (link_word (record l { row = r })) w) (By (wins (link_word l) (copies x s last r)) quiet)
  copy_moves x cell l r s last may c ws inv words b is = let new : Link = record l { row = r } in let w = index key.layout (cell_place cell) in let e = s.event in
      let may' : MayCopy x cell l r s last (caller_of c j) = subst (MayCopy x cell l r s last) is may in
      let due : copy_debt s last r (x.generation + 1) (next_list x e) ≡ copy_debt s last r l.generation (list_in c.shape l.generation e) =
      ap (λ h. copy_debt s last r (x.generation + 1) (head_in (x.generation + 1) h e)) (sym ((inv.finds.controls j x b may'.control).next may'.moving)) ∙ ap (λ g. copy_debt s last r g (list_in c.shape g e)) (sym may'.expected.2) in
      let walkable = linked_cell (next_list x) (c.rows j) cell r e may'.after in let place = cell_is key p cell c ws b inv words walkable in let at = words.shows.each (cell_place cell) place in
      dite (ℕ_discrete (get_or ws w 0) (link_word l))
      (λ hit. let found : link_at c.words.head c.words.link cell ≡ l = link_one _ _ (cell_link key p cell c b inv walkable) may.expected.0 (sym (cell_word c cell) ∙ (sym at ∙ hit)) in let k = copy cell l r s last in
      won key p Copy k w (link_word l) (link_word new) (copies x s last r) refl c ws ((x, may'), found) is hit
      (words_after key k c j ws (link_word new) place (set_there key p c (After k c j) cell new refl refl) words)
      (λ i. record (caller_of c j) {
        hand = sym (put_here c.hand j (unhanded r (c.hand j))) i;
        written = sym (put_here c.written j (forgotten r (c.written j))) i;
        base = sym (put_here c.base j None) i;
        position = record { rows = c.rows j; old = sym (put_here c.old j None) i };
        debts = owed_by (c.settling j) ((ap Some due ∙ sym (put_here c.copying j (Some (copy_debt s last r l.generation (list_in c.shape l.generation e))))) i) (c.named j);
      }))
      (λ apart. lost key p Copy (copy_fails cell) w (link_word l) (link_word new) (copies x s last r) refl (λ _. tt) (λ _. refl) c ws words is apart)

  -- the link of the copy that the caller owes is found
  pub copy_load_moves : (d : CopyDebt) → p.debts.copy ≡ Some d → MovesBy Walk key p (index key.layout (link d.copy)) (λ w. w) (FoundCopy d)
  copy_load_moves d owes c ws inv words b is = let w = index key.layout (link d.copy) in let k = copy_load d in let may : c.copying j ≡ Some d = ap (λ (q : Caller). q.debts.copy) (sym is) ∙ owes in
      let v = (debt_guarded c inv j d b may).1 in let fits = inv.copies.debt j d b may in let l = c.words.link d.copy in let at = words.shows.each (link d.copy) (row_there c ws inv words d.copy v) in (
        k,
        refl,
        may,
        same_words key c (After k c j) ws w refl refl words,
        subst (λ (z : ℕ × Caller). FoundCopy d z.0 z.1 (caller_of (After k c j) j)) (λ i. (sym at i, sym is i)) record {
          link = l;
          is_link = inv.spelled.links d.copy (inv.lanes.is_row d.copy v);
          word = refl;
          after = λ i. record (caller_of c j) { debts = owed_by (c.settling j) (sym (put_here c.copying j (copy_after l (c.copying j))) i) (c.named j) };
          of = fits.generation;
          mark = fits.mark;
        },
      )

  -- a copy is bound, or the twin of another is found
  pub bind_moves : (d : CopyDebt) → p.debts.copy ≡ Some d → MovesBy Bind key p (index key.layout (twin d.old)) (λ w. either (eqb w 0) d.copy w) (By (λ t. λ q. cond (t == 0) (binds d q) (finds_twin d t q)) TellsTwin)
  bind_moves d owes c ws inv words b is = let w = index key.layout (twin d.old) in let t = get_or ws w 0 in let may : c.copying j ≡ Some d = ap (λ (q : Caller). q.debts.copy) (sym is) ∙ owes in
      let v = (debt_guarded c inv j d b may).0 in let place = row_there c ws inv words d.old v in let at = words.shows.each (twin d.old) place in let tells = twin_tells c t d.old inv is v at in
      dite (ℕ_discrete t 0)
      (λ hit. let same = eq-eqb t 0 hit in let k = bind d in (
        k,
        refl,
        (may, sym at ∙ hit),
        subst (λ (z : Bool). IsWords key (After k c j) (set ws w (either z d.copy t))) (sym same) (words_after key k c j ws d.copy place (put_here c.words.twin d.old d.copy) words),
        (
          (λ i. cond (same i) (binds d (is i)) (finds_twin d t (is i))) ∙ (λ i. record (caller_of c j) {
            position = record { rows = sym (put_here c.rows j (old_stand d d.copy ∷ plain_stand d.copy d.event d.generation ∷ c.rows j)) i; old = c.old j };
            debts = owed_by (c.settling j) (sym (put_here c.copying j None) i) (c.named j);
          }),
          tells,
        ),
      ))
      (λ apart. let other = ne_eqb t 0 apart in let k = bind_fails d in (
        k,
        refl,
        may,
        subst (λ (z : Bool). IsWords key (After k c j) (set ws w (either z d.copy t))) (sym other) (same_words key c (After k c j) ws w refl refl words),
        ((λ i. cond (other i) (binds d (is i)) (finds_twin d t (is i))) ∙ ((λ i. finds_twin d (at i) (caller_of c j)) ∙ found_so c d), tells),
      ))

  -- a bound copy is made valid, or its link isn't that any more
  pub validate_moves : (t : ℕ) (l : Link) → IsLink l → MayValidate t l p
      → MovesBy Validate key p (index key.layout (link t)) (λ w. either (eqb w (link_word l)) (link_word (valid_link l)) w) (By (wins (link_word l) (validates t l)) quiet)
  validate_moves t l bits may c ws inv words b is = let new : Link = valid_link l in let w = index key.layout (link t) in let may' : MayValidate t l (caller_of c j) = subst (MayValidate t l) is may in
      let v = stood_on c inv b t may'.on.1.0 may'.on.1.1 may'.on.1.2 in let place = row_there c ws inv words t v in let at = words.shows.each (link t) place in
      dite (ℕ_discrete (get_or ws w 0) (link_word l))
      (λ hit. let found : c.words.link t ≡ l = link_one (c.words.link t) l (inv.spelled.links t (inv.lanes.is_row t v)) bits (sym at ∙ hit) in let k = validate t l in
      won key p Validate k w (link_word l) (link_word new) (validates t l) refl c ws (may', found) is hit
      (words_after key k c j ws (link_word new) place (set_there key p c (After k c j) (at_row t) new refl refl) words)
      (λ i. record (caller_of c j) { position = record { rows = sym (put_here c.rows j (noted t new (c.rows j))) i; old = c.old j } }))
      (λ apart. lost key p Validate (validate_fails t) w (link_word l) (link_word new) (validates t l) refl (λ _. tt) (λ _. refl) c ws words is apart)

  -- the copy that lost is discarded, or its link isn't that any more
  pub drop_moves : (d : CopyDebt) (l : Link) → IsLink l → MayDrop d l p
      → MovesBy Discard key p (index key.layout (link d.copy)) (λ w. either (eqb w (link_word l)) (link_word (dead_link l)) w) (By (wins (link_word l) (discards d.copy l (lost_name d) None)) quiet)
  drop_moves d l bits may c ws inv words b is = let r = d.copy in let n = lost_name d in let new : Link = dead_link l in let w = index key.layout (link r) in let may' : MayDrop d l (caller_of c j) = subst (MayDrop d l) is may in
      let v = (debt_guarded c inv j d b may'.owes).1 in let place = row_there c ws inv words r v in let at = words.shows.each (link r) place in
      dite (ℕ_discrete (get_or ws w 0) (link_word l))
      (λ hit. let found : c.words.link r ≡ l = link_one (c.words.link r) l (inv.spelled.links r (inv.lanes.is_row r v)) bits (sym at ∙ hit) in let k = discard_copy d l in
      won key p Discard k w (link_word l) (link_word new) (discards r l n None) refl c ws (may', found) is hit
      (words_after key k c j ws (link_word new) place (set_there key p c (After k c j) (at_row r) new refl refl) words)
      (λ i. record (caller_of c j) {
        position = record { rows = sym (put_here c.rows j (noted r new (c.rows j))) i; old = c.old j };
        debts = owed_by (c.settling j) (sym (put_here c.copying j None) i) (sym (put_here c.named j (named_too n (c.named j))) i);
      }))
      (λ apart. lost key p Discard (discard_fails r) w (link_word l) (link_word new) (discards r l n None) refl (λ _. tt) (λ _. refl) c ws words is apart)

  -- a copy that is the first row of a frozen head is discarded, or its link isn't that any more
  pub discard_moves : (q r : ℕ) (e : Event) (l : Link) → IsLink l → MayDiscard q r e l p
      → MovesBy Discard key p (index key.layout (link r)) (λ w. either (eqb w (link_word l)) (link_word (dead_link l)) w) (By (wins (link_word l) (discards r l (front_name q r e l) p.debts.copy)) quiet)
  discard_moves q r e l bits may c ws inv words b is = let n = front_name q r e l in let new : Link = dead_link l in let w = index key.layout (link r) in let may' : MayDiscard q r e l (caller_of c j) = subst (MayDiscard q r e l) is may in
      let v = stood_on c inv b r may'.on.0 may'.on.1 may'.on.2 in let place = row_there c ws inv words r v in let at = words.shows.each (link r) place in
      dite (ℕ_discrete (get_or ws w 0) (link_word l))
      (λ hit. let found : c.words.link r ≡ l = link_one (c.words.link r) l (inv.spelled.links r (inv.lanes.is_row r v)) bits (sym at ∙ hit) in let k = discard_front q r e l in
      won key p Discard k w (link_word l) (link_word new) (discards r l n p.debts.copy) refl c ws (may', found) is hit
      (words_after key k c j ws (link_word new) place (set_there key p c (After k c j) (at_row r) new refl refl) words)
      ((λ i. discards r l n (is i).debts.copy (caller_of c j)) ∙ (λ i. record (caller_of c j) {
        position = record { rows = sym (put_here c.rows j (noted r new (c.rows j))) i; old = c.old j };
        debts = owed_by (c.settling j) (sym (put_here c.copying j (c.copying j)) i) (sym (put_here c.named j (named_too n (c.named j))) i);
      })))
      (λ apart. lost key p Discard (discard_fails r) w (link_word l) (link_word new) (discards r l n p.debts.copy) refl (λ _. tt) (λ _. refl) c ws words is apart)
