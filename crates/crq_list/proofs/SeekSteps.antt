-- What each step of a walk to a sought.target tells.
use Rattle.std.proofs.Common.{◌≡◌, ◌≢◌, ◌⊎◌, ⊎_elim, inl, inr, ℕ, ◌+◌, ◌*◌, ◌^◌, ◌<◌, ◌≤◌, eqb, Bool, true, false, [], ◌∷◌, ◌++◌, drop, length, Option, Some, None, sym, refl, ap, ◌∙◌, cond, subst, arith, eq-eqb, ne_eqb}
use Rattle.std.proofs.lemmas.Bool.{false≢true, cond_both, eqb-true, eqb-false}
use Rattle.std.proofs.lemmas.List.{length-append}
use Rattle.std.proofs.lemmas.Option.{none-some}
use Rattle.crq_base.specs.declared.event.Event.{Event}
use Rattle.crq_base.specs.declared.kinds.StepKind.TheVariants.{Walk, Read, EpochLoad, Retire, Cut}
use Rattle.crq_base.specs.declared.words.Link.{Link}
use Rattle.crq_base.specs.declared.words.Mark.TheVariants.{Val, Mov, Del}
use Rattle.crq_base.specs.declared.words.Control.{Control}
use Rattle.crq_base.specs.Words.{IsLink, link_word}
use Rattle.crq_rule.proofs.NameLaws.{was_left}
use Rattle.crq_rule.proofs.SteadyLaws.{told_is}
use Rattle.crq_rule.specs.declared.debts.CutDebt.{CutDebt}
use Rattle.crq_rule.specs.declared.pass.Pass.{Pass}
use Rattle.crq_rule.specs.declared.pass.Table.{Table}
use Rattle.crq_rule.specs.declared.view.Made.{Made}
use Rattle.crq_rule.specs.declared.view.Walk.{Walk as TakeWalk}
use Rattle.crq_rule.specs.declared.view.Caller.{Caller}
use Rattle.crq_rule.specs.Places.{index, IsHead, epoch, stamp}
use Rattle.crq_rule.specs.Parts.{IsEvent, IsOn}
use Rattle.crq_rule.specs.Kinds.{makes, loads_epoch, tagged, retires}
use Rattle.crq_rule.specs.Core.{HasName, names_of}
use Rattle.crq_rule.specs.Ranks.{rank, Shape, shape_of, next_of, head_in, head_of, list_by, IsTold, IsHeadIn, IsOpen, Cell, at_head, at_row, cell_place}
use Rattle.crq_rule.specs.ListKinds.{is_cell, StandsOn, no_take, walk_after, MayWalk, MayCut, is_beyond, walks, cuts, event_word, row_place, relieved, unnamed}
use Rattle.crq_rule.specs.Moves.{Lawful, WalksOn, IsHeadOf, IsWalkable}
use Rattle.crq_rows.specs.Passes.{caller, IsPassOf, Stepped, load_made, store_made, step_made}
use Rattle.crq_rows.specs.Reading.{stays}
use Rattle.crq_list.specs.declared.parts.Spot.{Spot}
use Rattle.crq_list.specs.declared.parts.Spot.TheVariants.{Head, Row}
use Rattle.crq_list.specs.declared.parts.Before.{Before}
use Rattle.crq_list.specs.declared.parts.ListAt.{ListAt}
use Rattle.crq_list.specs.declared.seek.SeekState.{SeekState}
use Rattle.crq_list.specs.declared.seek.SeekState.TheVariants.{Load, Reading, Passing, Cutting, Tagging, Retiring}
use Rattle.crq_list.specs.declared.seek.Sought.{Sought}
use Rattle.crq_list.specs.declared.seek.SeekEnd.{SeekEnd}
use Rattle.crq_list.specs.declared.seek.SeekEnd.TheVariants.{There, Frozen}
use Rattle.crq_list.specs.declared.parts.Progress.{Progress}
use Rattle.crq_list.specs.Known.{Works, Stays, turns_after, last_known}
use Rattle.crq_list.specs.Spots.{cell, Target, IsUpTo, IsAfter, StandsIn, IsOfList, NamesTarget, IsReached, IsBeyondSpot, Next, IsPassed, shape_by, IsListOf, far, left_of}
use Rattle.crq_list.specs.Seeking.{spot_of, HasRead, IsPassing, IsAt, IsSeeking, next_seek, key_part, part_of, seek_exchanges, seek_kind, seek_left, IsThere, SeekAnswers, KeepsPassing, Keeps, SeekStepped}
use Rattle.crq_list.specs.Swaps.{Saw, CutSwapped, where_won}
use Rattle.crq_list.specs.declared.parts.Progress.TheVariants.{More, Done}
use Rattle.crq_list.specs.declared.cut.CutEnd.TheVariants.{Clean, Frozen as CutFrozen}
use Rattle.crq_list.specs.declared.cut.CutOp.{CutOp}
use Rattle.crq_list.specs.Cutting.{CutStepped}
use Rattle.crq_list.specs.Sweeps.{SweepsTo, MetFrozen}
use Rattle.crq_list.specs.Helps.{KeepsCopying}
use Rattle.crq_list.proofs.HelpLaws.{walk_keeps, cut_keeps, same_keeps}
use Rattle.crq_list.proofs.SweepLaws.{sweep_begins, sweep_stays, sweep_passes}
use Rattle.crq_list.proofs.StepLaws.{rows_apart}
use Rattle.crq_rows.proofs.Knowing.{known_here, known_else}
use Rattle.crq_list.proofs.SeekLaws.{rank_some, rank_limit, rank_at_is, walk_next, walk_next_in, walk_here, walk_here_in, dead_in, dead_kept, dead_last, without_in, without_stands, still_ahead, was_owed, beyond_row, IsCell, link_apart, event_apart, part_is, part_less, key_same, read_more}

-- What a step tells of its caller, before and after

pub record Told (n : ℕ) (table : Table) (x : Control) (sought : Sought) (seek seek' : SeekState) (p q : Caller) (answer : Progress SeekEnd) : Type 0 where
  pub works : Works n (seek_exchanges seek) p q
  pub kind : works.step.kind ≡ seek_kind seek
  pub copying : KeepsCopying p q
  pub own : q.own ≡ p.own
  pub written : q.written ≡ p.written
  pub owed : (d : CutDebt) → HasName (names_of q.debts) d → HasName (names_of p.debts) d
  pub keeps : Keeps seek seek' p q
  pub answers : SeekAnswers n table x sought seek seek' p q answer

-- two stands on one row have one event
pub one_event : (p : Caller) → Lawful p → (r : ℕ) (f g : Event) → StandsOn p.position.rows r f → StandsOn p.position.rows r g → f ≡ g
one_event p law r f g a b = sym a.3 ∙ (law.agree a.0 b.0 a.1 b.1 (a.2 ∙ sym b.2) ∙ b.3)

-- the row and the event of a stand have their bits
stand_fits : (p : Caller) → Lawful p → (r : ℕ) (f : Event) → StandsOn p.position.rows r f → (r < 2 ^ 24) × IsEvent f
stand_fits p law r f on = let s = law.stands on.0 on.1 in let row = s.0.1 in let all = p.start.layout.all_fit in let is = on.2 in (omega arith, subst IsEvent on.3 s.1)

row_one : (r s : ℕ) → at_row r ≡ at_row s → r ≡ s
row_one r s e = cc

head_row : (q r : ℕ) → at_head q ≡ at_row r → ⊥
head_row q r e = cc

val_del : (l : Link) → l.mark ≡ Val → l.mark ≡ Del → ⊥
val_del l a b = cc

del_mov : (l : Link) → l.mark ≡ Del → l.mark ≡ Mov → ⊥
del_mov l a b = cc

val_mov : (l : Link) → l.mark ≡ Val → l.mark ≡ Mov → ⊥
val_mov l a b = cc

-- what the control word tells of the open table, and of the next one

open_shape : (x : Control) (g : ℕ) → g ≡ x.generation → shape_by x g ≡ shape_of x
open_shape x g now = ap (λ b. cond b (shape_of x) (next_of x)) (eq-eqb g x.generation now)

next_shape : (x : Control) (g : ℕ) → g ≡ x.generation + 1 → shape_by x g ≡ next_of x
next_shape x g next = ap (λ b. cond b (shape_of x) (next_of x)) (ne_eqb g x.generation (omega arith))

open_now : (x : Control) (g q : ℕ) → g ≡ x.generation → IsHeadIn g (shape_by x g) q → IsOpen x q
open_now x g q now is = subst (λ (z : ℕ × Shape). IsHeadIn z.0 z.1 q) (λ i. (now i, open_shape x g now i)) is

open_next : (x : Control) (g q : ℕ) → g ≡ x.generation + 1 → IsHeadIn g (shape_by x g) q → IsHeadIn (x.generation + 1) (next_of x) q
open_next x g q next is = subst (λ (z : ℕ × Shape). IsHeadIn z.0 z.1 q) (λ i. (next i, next_shape x g next i)) is

pub now_open : (x : Control) (g q : ℕ) → g ≡ x.generation → IsOpen x q → IsHeadIn g (shape_by x g) q
now_open x g q now is = subst (λ (z : ℕ × Shape). IsHeadIn z.0 z.1 q) (λ i. (sym now i, sym (open_shape x g now) i)) is

pub now_list : (x : Control) (g : ℕ) (e : Event) → g ≡ x.generation → list_by x g e ≡ head_of x e
now_list x g e now = λ i. head_in (now i) (open_shape x g now i) e

-- a list of the open table
pub open_list : (x : Control) (list : ListAt) (p : Caller) → p.found.control ≡ Some x → list.generation ≡ x.generation → IsHead list.head → IsOpen x list.head → IsListOf x list p
open_list x list p found now head opened = record { control = found; told = inl now; is_head = head; opened = now_open x list.generation list.head now opened }

-- in a table that may not move a caller owes the dead row that it did, or none
pub one_name_left : (p q : Caller) → Lawful p → p.start.moves ≡ false → ((d : CutDebt) → HasName (names_of q.debts) d → HasName (names_of p.debts) d) → (q.debts.cut ≡ None) ⊎ (q.debts.cut ≡ p.debts.cut)
one_name_left p q law still owed = go q.debts.cut refl
  where
    go : (o : Option CutDebt) → q.debts.cut ≡ o → (q.debts.cut ≡ None) ⊎ (q.debts.cut ≡ p.debts.cut)
    go None is = inl is
    go (Some d) is = ⊎_elim (λ same. inr (is ∙ sym same)) (λ second. absurd (none-some d (sym (law.one_name still) ∙ second))) (owed d (inl is))

pub one_target : (t u : Event × ℕ) → Some t ≡ Some u → t ≡ u
one_target t u e = cc

module _ (n : ℕ) (table : Table) (x : Control) (sought : Sought) (p : Caller) where
  -- spots that were reached can be walked

  pub spot_fits : (spot : Spot) → IsListOf x sought.list p → IsReached x sought.list sought.target spot p → IsCell (cell spot)
  spot_fits (Head h) is reached = subst IsHead (sym reached) is.is_head
  spot_fits (Row r) is reached = tt

  pub spot_walks : (spot : Spot) → IsListOf x sought.list p → IsReached x sought.list sought.target spot p → MayWalk p.position.rows (cell spot)
  spot_walks (Head h) is reached = subst IsHead (sym reached) is.is_head
  spot_walks (Row r) is reached = (reached.0, (reached.1.0, reached.1.1, reached.1.2, reached.1.3))

  abbrev Sweeps : Caller → Cell → Type 0
  Sweeps q cell = SweepsTo table.start.layout (at_head sought.list.head) (drop n q.made) cell

  -- the sweep stays where it is
  swept_on : (seek : SeekState) (q : Caller) (m : Made) → q.made ≡ p.made ++ m ∷ [] → IsSeeking n table x sought seek p → Sweeps q (cell (spot_of seek))
  swept_on seek q m made is = sweep_stays n p.made q.made m made is.counted table.start.layout (at_head sought.list.head) (cell (spot_of seek)) is.swept

  -- or begins anew
  swept_anew : (q : Caller) → Sweeps q (at_head sought.list.head)
  swept_anew q = sweep_begins table.start.layout (at_head sought.list.head) (drop n q.made)

  -- the list goes on being walked
  go_on : (seek seek' : SeekState) (q : Caller) (m : Made) → q.made ≡ p.made ++ m ∷ [] → Stays p q → IsSeeking n table x sought seek p → Sweeps q (cell (spot_of seek')) → IsAt n table x sought seek' q → IsSeeking n table x sought seek' q
  go_on seek seek' q m made stays is swept at = record {
    counted = let b = is.counted in omega (arith, ap length made, length-append p.made (m ∷ []));
    on = subst IsOn (sym stays.guard) is.on;
    list_is = record { control = ap (λ f. f.control) stays.found ∙ is.list_is.control; told = is.list_is.told; is_head = is.list_is.is_head; opened = is.list_is.opened };
    target_is = is.target_is;
    swept = swept;
    at = at;
  }

  -- what is to be done after a spot was passed
  next_answers : (target' : Target) → sought.target ≡ target' → (seek : SeekState) (b : Before) (q : Caller) (m : Made) → q.made ≡ p.made ++ m ∷ [] → Stays p q → IsSeeking n table x sought seek p → q.cut ≡ None
      → IsPassed n table.start.layout x sought b q → Sweeps q (cell b.spot) → left_of b.spot q * 16 + 12 < seek_left seek p
      → SeekAnswers n table x sought seek (next_seek b target').0 p q (next_seek b target').1
  next_answers None is seek b q m made stays at none passed swept low = cond_both (eqb b.link.row 0) (Load b.spot, Done (There b)) (Passing b, More) (λ (z : SeekState × Progress SeekEnd). SeekAnswers n table x sought seek z.0 p q z.1)
      (λ yes. record { none = none; passed = passed; after = inl (eqb-true b.link.row 0 yes) })
      (λ no. let ne = eqb-false b.link.row 0 no in
      (go_on seek (Passing b) q m made stays at swept (none, record { passed = passed; some_row = omega arith; up_to = λ e on. subst (λ t. IsUpTo t e b.link.row) (sym is) tt }), inr (omega arith)))
  next_answers (Some t) is seek b q m made stays at none passed swept low = cond_both (eqb b.link.row 0) (Load b.spot, Done (There b)) (Reading b 2, More) (λ (z : SeekState × Progress SeekEnd). SeekAnswers n table x sought seek z.0 p q z.1)
      (λ yes. record { none = none; passed = passed; after = inl (eqb-true b.link.row 0 yes) })
      (λ no. let ne = eqb-false b.link.row 0 no in
      (go_on seek (Reading b 2) q m made stays at swept (none, passed, omega arith, omega arith, omega arith, (t, is, λ e on. (λ n. absurd (omega arith), λ n. absurd (omega arith)))), inr (omega arith)))

  -- Walks

  abbrev walk_on : Cell → Link → Option TakeWalk
  walk_on cell l = walk_after cell no_take p.sight l p.walk p.position.rows

  abbrev pub seen : Spot → Link → Event → Caller
  seen spot l e = makes (load_made Walk (index table.start.layout (cell_place (cell spot))) (link_word l)) (walks (cell spot) no_take l e p)

  abbrev walk_made : Spot → Link → Made
  walk_made spot l = load_made Walk (index table.start.layout (cell_place (cell spot))) (link_word l)

  walk_stays : (spot : Spot) (l : Link) (e : Event) → Stays p (seen spot l e)
  walk_stays spot l e = record { number = refl; start = refl; deal = refl; found = refl; guard = refl; permit = refl; sight = refl; told = refl }

  abbrev walk_works : (spot : Spot) (l : Link) (e : Event) → Works n false p (seen spot l e)
  walk_works spot l e = record { stays = walk_stays spot l e; step = walk_made spot l; made = refl; kind = refl; expects = λ no. absurd (false≢true no); timed = λ no. absurd (false≢true no); settle = λ _. refl }

  walk_copying : (spot : Spot) (l : Link) (e : Event) → KeepsCopying p (seen spot l e)
  walk_copying spot l e = walk_keeps (walk_made spot l) (cell spot) no_take l e p

  -- a dead row that is still owed was owed, and the walk isn't past it
  walk_left : (spot : Spot) (l : Link) (e : Event) (d : CutDebt) → HasName (names_of (seen spot l e).debts) d
      → (o : Option CutDebt) × (o ≡ Some d → HasName (names_of p.debts) d) × (relieved p.found.control (cell spot) p.position.rows l e o ≡ Some d)
  walk_left spot l e d owed = let gone = relieved p.found.control (cell spot) p.position.rows l e in
      ⊎_elim (λ q. (p.debts.cut, inl, q)) (λ q. (p.debts.second_cut, inr, q)) (was_left (gone p.debts.cut) (gone p.debts.second_cut) d owed)

  owed_walk : (spot : Spot) (l : Link) (e : Event) (d : CutDebt) → HasName (names_of (seen spot l e).debts) d → HasName (names_of p.debts) d
  owed_walk spot l e d owed = let left = walk_left spot l e d owed in left.1 (was_owed p.found.control (cell spot) p.position.rows l e left.0 d left.2)

  reached_walk : (spot : Spot) (l : Link) (e : Event) → IsReached x sought.list sought.target spot p → IsReached x sought.list sought.target spot (seen spot l e)
  reached_walk (Head h) l e reached = reached
  reached_walk (Row r) l e reached = (reached.0, walk_here_in r no_take (walk_on (at_row r) l) l e p.position.rows reached.0 sought.list.generation reached.1, reached.2, reached.3)

  -- the link of a row of the list is of its table
  row_now : (r : ℕ) (l : Link) → IsReached x sought.list sought.target (Row r) p → IsWalkable (at_row r) l p → l.generation ≡ sought.list.generation
  row_now r l reached may = may.1 reached.1.0 reached.1.1 reached.1.2 ∙ reached.1.4

  -- a spot behind which the list may go on was passed
  passed_walk : (spot : Spot) (l : Link) (e : Event) → n ≤ length p.made → IsListOf x sought.list p → Lawful p → Lawful (seen spot l e) → IsReached x sought.list sought.target spot p → IsLink l → is_cell l.mark ≡ true → l.generation ≡ sought.list.generation → Sweeps p (cell spot)
      → WalksOn (cell spot) l e p → IsPassed n table.start.layout x sought (record { spot = spot; link = l }) (seen spot l e)
  passed_walk spot l e begun is law law' reached bits present now swept next = record {
    bits = bits;
    present = present;
    generation = now;
    known = known_here n p.made (load_made Walk (index table.start.layout (cell_place (cell spot))) (link_word l)) (index table.start.layout (cell_place (cell spot))) begun refl;
    reached = reached_walk spot l e reached;
    swept = sweep_passes n p.made (seen spot l e).made (walk_made spot l) refl begun table.start.layout (at_head sought.list.head) (cell spot) l (record { load = refl; bits = bits; present = present }) swept;
    next = λ some. record {
      event = e;
      on = subst (λ g. StandsIn (seen spot l e).position.rows l.row e g) now (walk_next_in (cell spot) no_take (walk_on (cell spot) l) l e p.position.rows some);
      belongs = belongs spot reached next some;
      beyond = beyond spot law' reached next some;
    };
    owed = record {
      ahead = λ d same owed. let left = walk_left spot l e d owed in
          let ahead = still_ahead p.found.control (cell spot) p.position.rows l e left.0 d present (now ∙ sym same.2) (past spot reached d same) left.2 in
          (ahead.0, λ f on. subst (λ z. rank z l.row ≤ rank d.event d.row) (one_event (seen spot l e) law' l.row e f (walk_next (cell spot) no_take (walk_on (cell spot) l) l e p.position.rows ahead.0) on) ahead.1);
    };
  }
    where
      told : IsTold x l.generation
      told = subst (IsTold x) (sym now) is.told

      belongs : (s : Spot) → IsReached x sought.list sought.target s p → WalksOn (cell s) l e p → 0 < l.row → IsOfList x sought.list e
      belongs (Head h) reached next some = subst (λ g. list_by x g e ≡ sought.list.head) now (next x is.control told some ∙ reached)
      belongs (Row r) reached next some = subst (λ g. list_by x g e ≡ list_by x g reached.0) now ((next reached.0 (reached.1.0, reached.1.1, reached.1.2, reached.1.3) some).1 x is.control told) ∙ reached.2

      beyond : (s : Spot) → Lawful (seen s l e) → IsReached x sought.list sought.target s p → WalksOn (cell s) l e p → 0 < l.row → IsBeyondSpot s e l.row (seen s l e)
      beyond (Head h) law' reached next some = tt
      beyond (Row r) law' reached next some = λ f on. subst (λ z. rank z r < rank e l.row)
          (one_event (seen (Row r) l e) law' r reached.0 f (walk_here r no_take (walk_on (at_row r) l) l e p.position.rows reached.0 (reached.1.0, reached.1.1, reached.1.2, reached.1.3)) on) (next reached.0 (reached.1.0, reached.1.1, reached.1.2, reached.1.3) some).0

      past : (s : Spot) → IsReached x sought.list sought.target s p → (d : CutDebt) → NamesTarget sought.target sought.list d → is_beyond p.found.control (cell s) p.position.rows d ≡ true
      past (Head h) reached d same = eq-eqb d.head h (same.1 ∙ sym reached)
      past (Row r) reached d same = subst (λ z. is_beyond z (at_row r) p.position.rows d ≡ true) (sym is.control) (beyond_row x r p.position.rows d reached.0 (λ g on. one_event p law r g reached.0 on (reached.1.0, reached.1.1, reached.1.2, reached.1.3)) (reached.1.0, reached.1.1, reached.1.2, reached.1.3)
          (told_is x d.generation (subst (IsTold x) (sym same.2) is.told)) (subst (λ g. list_by x g reached.0 ≡ d.head) (sym same.2) (reached.2 ∙ sym same.1)) (subst (λ t. IsUpTo t reached.0 r) same.0 reached.3))

  -- a table that moves may move
  moves_so : Lawful p → p.found.control ≡ Some x → x.moving ≡ true → p.start.moves ≡ true
  moves_so law found moving = go p.start.moves refl
    where
      go : (b : Bool) → p.start.moves ≡ b → p.start.moves ≡ true
      go true is = is
      go false is = absurd (false≢true (sym ((law.controlled x found).1 is) ∙ moving))

  -- what is known of a head of the open table
  head_old : (h : ℕ) (l : Link) → IsListOf x sought.list p → IsReached x sought.list sought.target (Head h) p → IsWalkable (at_head h) l p → sought.list.generation ≡ x.generation → IsHeadOf x l p
  head_old h l is reached may now = may.1 x is.control (subst (IsOpen x) (sym reached) (open_now x sought.list.generation sought.list.head now is.opened))

  -- no head is dead
  pub head_alive : (h : ℕ) (l : Link) → IsWalkable (at_head h) l p → l.mark ≡ Del → ⊥
  head_alive h l may dead = ⊎_elim (λ val. val_del l val dead) (λ mov. del_mov l dead mov) may.0

  -- a spot of the list is frozen only where the table may move
  pub spot_frozen : (spot : Spot) (l : Link) → Lawful p → IsListOf x sought.list p → IsReached x sought.list sought.target spot p → IsWalkable (cell spot) l p → l.mark ≡ Mov → p.start.moves ≡ true
  spot_frozen (Head h) l law is reached may mov = ⊎_elim
      (λ (old : sought.list.generation ≡ x.generation). (head_old h l is reached may old).frozen mov)
      (λ (new : (x.moving ≡ true) × (sought.list.generation ≡ x.generation + 1)). moves_so law is.control new.0)
      is.told
  spot_frozen (Row r) l law is reached may mov = ⊎_elim (λ known. absurd (⊎_elim (λ val. val_mov l val mov) (λ dead. del_mov l dead mov) known)) (λ moves. moves) may.0

  -- and so is a link of another table there, which is a head's
  pub spot_other : (spot : Spot) (l : Link) → Lawful p → IsListOf x sought.list p → IsReached x sought.list sought.target spot p → IsWalkable (cell spot) l p → l.generation ≢ sought.list.generation → (cell spot ≡ at_head sought.list.head) × (p.start.moves ≡ true)
  spot_other (Head h) l law is reached may ne = (
    ap at_head reached,
    ⊎_elim
        (λ (old : sought.list.generation ≡ x.generation). by_moves p.start.moves refl old)
        (λ (new : (x.moving ≡ true) × (sought.list.generation ≡ x.generation + 1)). moves_so law is.control new.0)
        is.told,
  )
    where
      by_moves : (b : Bool) → p.start.moves ≡ b → sought.list.generation ≡ x.generation → p.start.moves ≡ true
      by_moves true moves old = moves
      by_moves false still old = absurd (ne ((head_old h l is reached may old).still still ∙ sym old))
  spot_other (Row r) l law is reached may ne = absurd (ne (row_now r l reached may))

  load_low : (spot : Spot) (q : Caller) → left_of spot q * 16 + 12 < seek_left (Load spot) p
  load_low (Head h) q = omega arith
  load_low (Row r) q = omega arith

  pub load_val : (spot : Spot) (l : Link) (e : Event) → IsSeeking n table x sought (Load spot) p → Lawful p → Lawful (seen spot l e) → IsLink l → is_cell l.mark ≡ true → l.generation ≡ sought.list.generation → WalksOn (cell spot) l e p
      → let b : Before = record { spot = spot; link = l } in Told n table x sought (Load spot) (next_seek b sought.target).0 p (seen spot l e) (next_seek b sought.target).1
  load_val spot l e at law law' bits present now next = let b : Before = record { spot = spot; link = l } in record {
    works = walk_works spot l e;
    kind = refl;
    copying = walk_copying spot l e;
    own = refl;
    written = refl;
    owed = owed_walk spot l e;
    keeps = tt;
    answers = next_answers sought.target refl (Load spot) b (seen spot l e) (walk_made spot l) refl (walk_stays spot l e) at at.at.0
        (passed_walk spot l e at.counted at.list_is law law' at.at.1 bits present now at.swept next) (swept_on (Load spot) (seen spot l e) (walk_made spot l) refl at) (load_low spot (seen spot l e));
  }

  -- the load of this spot found a frozen link, or a head of another table
  met_frozen : (spot : Spot) (l : Link) (e : Event) → IsLink l → (l.mark ≡ Mov) ⊎ ((cell spot ≡ at_head sought.list.head) × (l.generation ≢ sought.list.generation)) → p.start.moves ≡ true → MetFrozen table.start.layout sought.list (seen spot l e)
  met_frozen spot l e bits frozen moves = record {
    before = p.made;
    step = walk_made spot l;
    made = refl;
    kind = refl;
    link = l;
    bits = bits;
    found = refl;
    frozen = ⊎_elim inl (λ other. inr (ap (λ c. index table.start.layout (cell_place c)) other.0, other.1)) frozen;
    moves = moves;
  }

  -- so the walk ends
  pub load_mov : (spot : Spot) (l : Link) (e : Event) → IsSeeking n table x sought (Load spot) p → IsLink l → (l.mark ≡ Mov) ⊎ ((cell spot ≡ at_head sought.list.head) × (l.generation ≢ sought.list.generation)) → p.start.moves ≡ true
      → Told n table x sought (Load spot) (Load spot) p (seen spot l e) (Done Frozen)
  load_mov spot l e at bits frozen moves = record {
    works = walk_works spot l e;
    kind = refl;
    copying = walk_copying spot l e;
    own = refl;
    written = refl;
    owed = owed_walk spot l e;
    keeps = tt;
    answers = (at.at.0, met_frozen spot l e bits frozen moves);
  }

  -- a dead row was found: back to the head
  pub load_del : (r : ℕ) (l : Link) (e : Event) → IsSeeking n table x sought (Load (Row r)) p → Told n table x sought (Load (Row r)) (Load (Head sought.list.head)) p (seen (Row r) l e) More
  load_del r l e at = record {
    works = walk_works (Row r) l e;
    kind = refl;
    copying = walk_copying (Row r) l e;
    own = refl;
    written = refl;
    owed = owed_walk (Row r) l e;
    keeps = tt;
    answers = (go_on (Load (Row r)) (Load (Head sought.list.head)) (seen (Row r) l e) (walk_made (Row r) l) refl (walk_stays (Row r) l e) at (swept_anew (seen (Row r) l e)) (at.at.0, refl), inr (omega arith));
  }

  -- Steps that leave what was passed

  module _ (q : Caller) (law' : Lawful q) (keeps : (s : ℕ) (f : Event) (g : ℕ) → StandsIn p.position.rows s f g → StandsIn q.position.rows s f g) where
    keeps_on : (s : ℕ) (f : Event) → StandsOn p.position.rows s f → StandsOn q.position.rows s f
    keeps_on s f on = let t = keeps s f on.0.generation (on.0, on.1, on.2, on.3, refl) in (t.0, t.1, t.2, t.3)

    reached_stays : (spot : Spot) → IsReached x sought.list sought.target spot p → IsReached x sought.list sought.target spot q
    reached_stays (Head h) reached = reached
    reached_stays (Row r) reached = (reached.0, keeps r reached.0 sought.list.generation reached.1, reached.2, reached.3)

    beyond_stays : (spot : Spot) (e : Event) (r : ℕ) → IsReached x sought.list sought.target spot p → IsBeyondSpot spot e r p → IsBeyondSpot spot e r q
    beyond_stays (Head h) e r reached beyond = tt
    beyond_stays (Row s) e r reached beyond = λ f on. subst (λ z. rank z s < rank e r) (one_event q law' s reached.0 f (keeps_on s reached.0 (reached.1.0, reached.1.1, reached.1.2, reached.1.3)) on) (beyond reached.0 (reached.1.0, reached.1.1, reached.1.2, reached.1.3))

    next_stays : (b : Before) → IsReached x sought.list sought.target b.spot p → Next x sought.list b p → Next x sought.list b q
    next_stays b reached next = record { event = next.event; on = keeps b.link.row next.event sought.list.generation next.on; belongs = next.belongs; beyond = beyond_stays b.spot next.event b.link.row reached next.beyond }

    passed_stays : (b : Before) → last_known (drop n q.made) (index table.start.layout (cell_place (cell b.spot))) ≡ last_known (drop n p.made) (index table.start.layout (cell_place (cell b.spot))) → (Sweeps p (at_row b.link.row) → Sweeps q (at_row b.link.row))
        → ((d : CutDebt) → HasName (names_of q.debts) d → HasName (names_of p.debts) d) → IsPassed n table.start.layout x sought b p → IsPassed n table.start.layout x sought b q
    passed_stays b known sweeps owed passed = record {
      bits = passed.bits;
      present = passed.present;
      generation = passed.generation;
      known = known ∙ passed.known;
      reached = reached_stays b.spot passed.reached;
      swept = sweeps passed.swept;
      next = λ some. next_stays b passed.reached (passed.next some);
      owed = record {
        ahead = λ d same is. let ahead = passed.owed.ahead d same (owed d is) in let next = passed.next ahead.0 in
            (ahead.0, λ f on. subst (λ z. rank z b.link.row ≤ rank d.event d.row) (one_event q law' b.link.row next.event f (keeps_on b.link.row next.event (next.on.0, next.on.1, next.on.2, next.on.3)) on) (ahead.1 next.event (next.on.0, next.on.1, next.on.2, next.on.3)));
      };
    }

    passing_stays : (b : Before) → last_known (drop n q.made) (index table.start.layout (cell_place (cell b.spot))) ≡ last_known (drop n p.made) (index table.start.layout (cell_place (cell b.spot))) → (Sweeps p (at_row b.link.row) → Sweeps q (at_row b.link.row))
        → ((d : CutDebt) → HasName (names_of q.debts) d → HasName (names_of p.debts) d) → IsPassing n table x sought b p → IsPassing n table x sought b q
    passing_stays b known sweeps owed at = let next = at.passed.next at.some_row in record {
      passed = passed_stays b known sweeps owed at.passed;
      some_row = at.some_row;
      up_to = λ f on. subst (λ z. IsUpTo sought.target z b.link.row) (one_event q law' b.link.row next.event f (keeps_on b.link.row next.event (next.on.0, next.on.1, next.on.2, next.on.3)) on) (at.up_to next.event (next.on.0, next.on.1, next.on.2, next.on.3));
    }

    far_stays : Lawful p → (spot : Spot) → IsReached x sought.list sought.target spot p → far spot q ≡ far spot p
    far_stays law (Head h) reached = refl
    far_stays law (Row r) reached = let on : StandsOn p.position.rows r reached.0 = (reached.1.0, reached.1.1, reached.1.2, reached.1.3) in let on' = keeps_on r reached.0 on in rank_at_is q.position.rows r reached.0 (λ g k. one_event q law' r g reached.0 k on') on'
        ∙ sym (rank_at_is p.position.rows r reached.0 (λ g k. one_event p law r g reached.0 k on) on)

  -- Passing

  far_below : Lawful p → (spot : Spot) (e : Event) (r : ℕ) → 0 < r → IsReached x sought.list sought.target spot p → IsBeyondSpot spot e r p → far spot p < rank e r
  far_below law (Head h) e r some reached beyond = rank_some e r some
  far_below law (Row s) e r some reached beyond = let on : StandsOn p.position.rows s reached.0 = (reached.1.0, reached.1.1, reached.1.2, reached.1.3) in let at = rank_at_is p.position.rows s reached.0 (λ g k. one_event p law s g reached.0 k on) on in let low = beyond reached.0 on in omega arith

  -- the next row is another one than the spot's
  spot_apart : (spot : Spot) (e : Event) (r : ℕ) → StandsOn p.position.rows r e → IsBeyondSpot spot e r p → (s : ℕ) → cell spot ≡ at_row s → s ≢ r
  spot_apart (Head h) e r on beyond s is same = head_row h s is
  spot_apart (Row t) e r on beyond s is same = let one = row_one t s is ∙ same in let low = beyond e (subst (λ z. StandsOn p.position.rows z e) (sym one) on) in let at = ap (rank e) one in omega arith

  pub next_row : (b : Before) → IsPassing n table x sought b p → IsReached x sought.list sought.target (Row b.link.row) p
  next_row b at = let next = at.passed.next at.some_row in (next.event, next.on, next.belongs, at.up_to next.event (next.on.0, next.on.1, next.on.2, next.on.3))

  -- nothing is said of stands where the row was found present
  keeps_next : (target' : Target) (b a : Before) (q : Caller) → KeepsPassing b (next_seek a target').0 p q
  keeps_next None b a q = cond_both (eqb a.link.row 0) (Load a.spot, Done (There a)) (Passing a, More) (λ (z : SeekState × Progress SeekEnd). KeepsPassing b z.0 p q) (λ _. tt) (λ _. tt)
  keeps_next (Some t) b a q = cond_both (eqb a.link.row 0) (Load a.spot, Done (There a)) (Reading a 2, More) (λ (z : SeekState × Progress SeekEnd). KeepsPassing b z.0 p q) (λ _. tt) (λ _. tt)

  pub pass_val : (b : Before) (l : Link) (e : Event) → IsSeeking n table x sought (Passing b) p → Lawful p → Lawful (seen (Row b.link.row) l e) → IsLink l → is_cell l.mark ≡ true → IsWalkable (at_row b.link.row) l p → WalksOn (at_row b.link.row) l e p
      → let a : Before = record { spot = Row b.link.row; link = l } in Told n table x sought (Passing b) (next_seek a sought.target).0 p (seen (Row b.link.row) l e) (next_seek a sought.target).1
  pass_val b l e at law law' bits present walkable on = let spot : Spot = Row b.link.row in let a : Before = record { spot = spot; link = l } in
      let q = seen spot l e in
      let reached = next_row b at.at.1 in let next = at.at.1.passed.next at.at.1.some_row in
      let stood : StandsOn p.position.rows b.link.row next.event = (next.on.0, next.on.1, next.on.2, next.on.3) in let fits = stand_fits p law b.link.row next.event stood in
      let there = walk_here b.link.row no_take (walk_on (at_row b.link.row) l) l e p.position.rows next.event stood in
      let here : far spot q ≡ rank next.event b.link.row = rank_at_is q.position.rows b.link.row next.event (λ g h. one_event q law' b.link.row g next.event h there) there in
      let low : far b.spot p < rank next.event b.link.row = far_below law b.spot next.event b.link.row at.at.1.some_row at.at.1.passed.reached next.beyond in
      let high : rank next.event b.link.row < 2 ^ 160 = rank_limit next.event b.link.row fits.1 fits.0 in record {
        works = walk_works spot l e;
        kind = refl;
        copying = walk_copying spot l e;
        own = refl;
        written = refl;
        owed = owed_walk spot l e;
        keeps = keeps_next sought.target b a q;
        answers = next_answers sought.target refl (Passing b) a q (walk_made spot l) refl (walk_stays spot l e) at at.at.0 (passed_walk spot l e at.counted at.list_is law law' reached bits present (row_now b.link.row l reached walkable) at.at.1.passed.swept on)
            (sweep_stays n p.made q.made (walk_made spot l) refl at.counted table.start.layout (at_head sought.list.head) (at_row b.link.row) at.at.1.passed.swept) (omega arith);
      }

  -- a frozen row was found: the walk ends
  pub pass_mov : (b : Before) (l : Link) (e : Event) → IsSeeking n table x sought (Passing b) p → IsLink l → l.mark ≡ Mov → p.start.moves ≡ true → Told n table x sought (Passing b) (Load (Row b.link.row)) p (seen (Row b.link.row) l e) (Done Frozen)
  pass_mov b l e at bits mov moves = record {
    works = walk_works (Row b.link.row) l e;
    kind = refl;
    copying = walk_copying (Row b.link.row) l e;
    own = refl;
    written = refl;
    owed = owed_walk (Row b.link.row) l e;
    keeps = tt;
    answers = (at.at.0, met_frozen (Row b.link.row) l e bits (inl mov) moves);
  }

  -- the link of a dead row doesn't name the row itself
  link_onward : (r : ℕ) (l : Link) (e f : Event) → Lawful (seen (Row r) l e) → 0 < r → l.mark ≡ Del → StandsOn p.position.rows r f → WalksOn (at_row r) l e p → l.row ≢ r
  link_onward r l e f law' pos dead on up same = let some : 0 < l.row = omega arith in let q = seen (Row r) l e in
      let there = subst (λ z. StandsOn q.position.rows z e) same (walk_next (at_row r) no_take (walk_on (at_row r) l) l e p.position.rows some) in
      let one = one_event q law' r f e (dead_kept r (walk_on (at_row r) l) l e p.position.rows r f dead on) there in
      let high = subst (λ z. rank f r < rank e z) same (up f on some).0 in let even = ap (λ z. rank z r) one in omega arith

  pub pass_del : (b : Before) (l : Link) (e : Event) → IsSeeking n table x sought (Passing b) p → Lawful p → Lawful (seen (Row b.link.row) l e) → IsLink l → l.mark ≡ Del → WalksOn (at_row b.link.row) l e p
      → Told n table x sought (Passing b) (Cutting b l) p (seen (Row b.link.row) l e) More
  pass_del b l e at law law' bits dead on = let spot : Spot = Row b.link.row in let q = seen spot l e in
      let keeps : (s : ℕ) (f : Event) (g : ℕ) → StandsIn p.position.rows s f g → StandsIn q.position.rows s f g = λ s f g. dead_in b.link.row (walk_on (at_row b.link.row) l) l e p.position.rows s f g dead in
      let passing = at.at.1 in let next = passing.passed.next passing.some_row in let stood : StandsOn p.position.rows b.link.row next.event = (next.on.0, next.on.1, next.on.2, next.on.3) in
      let known = known_else n p.made (walk_made spot l) (index table.start.layout (cell_place (cell b.spot))) at.counted
      (link_apart table.start.layout b.link.row (cell b.spot) passing.some_row (spot_fits b.spot at.list_is passing.passed.reached) (spot_apart b.spot next.event b.link.row stood next.beyond)) in
      let same : far b.spot q ≡ far b.spot p = far_stays q law' keeps law b.spot passing.passed.reached in record {
        works = walk_works spot l e;
        kind = refl;
        copying = walk_copying spot l e;
        own = refl;
        written = refl;
        owed = owed_walk spot l e;
        keeps = (refl, λ s f. dead_kept b.link.row (walk_on (at_row b.link.row) l) l e p.position.rows s f dead);
        answers = (
          go_on (Passing b) (Cutting b l) q (walk_made spot l) refl (walk_stays spot l e) at (swept_on (Passing b) q (walk_made spot l) refl at)
              (at.at.0, passing_stays q law' keeps b known (sweep_stays n p.made q.made (walk_made spot l) refl at.counted table.start.layout (at_head sought.list.head) (at_row b.link.row)) (owed_walk (Row b.link.row) l e) passing, bits, dead, link_onward b.link.row l e next.event law' passing.some_row dead stood on, dead_last b.link.row (walk_on (at_row b.link.row) l) l e p.position.rows next.event dead stood),
          inr (omega arith),
        );
      }

  -- Reading

  abbrev pub read_of : ℕ → ℕ → ℕ → Caller
  read_of r place word = makes (load_made Read (index table.start.layout (row_place r place)) word) p

  abbrev read_made : ℕ → ℕ → ℕ → Made
  read_made r place word = load_made Read (index table.start.layout (row_place r place)) word

  module _ (b : Before) (place word : ℕ) (t : Event × ℕ) (is : sought.target ≡ Some t) (at : IsSeeking n table x sought (Reading b place) p) (law : Lawful p) (law' : Lawful (read_of b.link.row place word))
      (tells : (e : Event) → StandsOn p.position.rows b.link.row e → word ≡ event_word e place) where
    abbrev read_works : Works n false p (read_of b.link.row place word)
    read_works = record {
      stays = record { number = refl; start = refl; deal = refl; found = refl; guard = refl; permit = refl; sight = refl; told = refl };
      step = read_made b.link.row place word;
      made = refl;
      kind = refl;
      expects = λ no. absurd (false≢true no);
      timed = λ no. absurd (false≢true no);
      settle = λ _. refl;
    }

    read_goes : (seek' : SeekState) → spot_of seek' ≡ b.spot → IsAt n table x sought seek' (read_of b.link.row place word) → IsSeeking n table x sought seek' (read_of b.link.row place word)
    read_goes seek' spot there = go_on (Reading b place) seek' (read_of b.link.row place word) (read_made b.link.row place word) refl (record { number = refl; start = refl; deal = refl; found = refl; guard = refl; permit = refl; sight = refl; told = refl }) at
        (subst (λ s. Sweeps (read_of b.link.row place word) (cell s)) (sym spot) (swept_on (Reading b place) (read_of b.link.row place word) (read_made b.link.row place word) refl at)) there

    read_passed : IsPassed n table.start.layout x sought b (read_of b.link.row place word)
    read_passed = passed_stays (read_of b.link.row place word) law' (λ s f g on. on) b
        (known_else n p.made (read_made b.link.row place word) (index table.start.layout (cell_place (cell b.spot))) at.counted
        (event_apart table.start.layout b.link.row place (cell b.spot) at.at.2 at.at.3 (spot_fits b.spot at.list_is at.at.1.reached)))
        (sweep_stays n p.made (read_of b.link.row place word).made (read_made b.link.row place word) refl at.counted table.start.layout (at_head sought.list.head) (at_row b.link.row)) (λ d o. o) at.at.1

    far_same : (spot : Spot) → far spot (read_of b.link.row place word) ≡ far spot p
    far_same (Head h) = refl
    far_same (Row r) = refl

    read_told : (seek' : SeekState) (answer : Progress SeekEnd) → SeekAnswers n table x sought (Reading b place) seek' p (read_of b.link.row place word) answer
        → Told n table x sought (Reading b place) seek' p (read_of b.link.row place word) answer
    read_told seek' answer answers = record { works = read_works; kind = refl; copying = same_keeps p (read_of b.link.row place word) refl refl refl; own = refl; written = refl; owed = λ d owed. owed; keeps = tt; answers = answers }

    has_read : (e : Event) → StandsOn p.position.rows b.link.row e → HasRead place e t.0
    has_read e on = let before = at.at.5 in subst (λ (z : Event × ℕ). HasRead place e z.0) (one_target before.0 t (sym before.1 ∙ is)) (before.2 e on)

    found_key : (e : Event) → StandsOn p.position.rows b.link.row e → part_of word place ≡ key_part e place
    found_key e on = ap (λ z. part_of z place) (tells e on) ∙ part_is e place (stand_fits p law b.link.row e on).1 at.at.3 at.at.4

    -- the word is that of the sought.target, and there is one more to read
    pub read_next : part_of word place ≡ key_part t.0 place → place < 4 → Told n table x sought (Reading b place) (Reading b (place + 1)) p (read_of b.link.row place word) More
    read_next same low = let still = far_same b.spot in read_told (Reading b (place + 1)) More
        (read_goes (Reading b (place + 1)) refl (at.at.0, read_passed, at.at.2, (let two = at.at.3 in omega arith), omega arith, (t, is, λ e on. read_more e t.0 place at.at.3 low (has_read e on) (sym (found_key e on) ∙ same))), inr (omega arith))

    -- the next row doesn't come after the sought.target
    pub read_up : (part_of word place < key_part t.0 place) ⊎ ((part_of word place ≡ key_part t.0 place) × (4 ≤ place) × (b.link.row ≤ t.1)) → Told n table x sought (Reading b place) (Passing b) p (read_of b.link.row place word) More
    read_up h = let high = at.at.4 in let still = far_same b.spot in read_told (Passing b) More
        (read_goes (Passing b) refl (at.at.0, record { passed = read_passed; some_row = at.at.2; up_to = λ e on. subst (λ z. IsUpTo z e b.link.row) (sym is) (low e on h) }), inr (omega arith))
      where
        low : (e : Event) → StandsOn p.position.rows b.link.row e → (part_of word place < key_part t.0 place) ⊎ ((part_of word place ≡ key_part t.0 place) × (4 ≤ place) × (b.link.row ≤ t.1)) → rank e b.link.row ≤ rank t.0 t.1
        low e on h = let fits = stand_fits p law b.link.row e on in let key = found_key e on in ⊎_elim
            (λ less. let under = part_less e t.0 place b.link.row t.1 at.at.3 at.at.4 fits.1 fits.0 (has_read e on) (subst (λ z. z < key_part t.0 place) key less) in omega arith)
            (λ same. let four : place ≡ 4 = let high = at.at.4 in let most = same.1 in omega arith in
            (key_same e t.0 b.link.row t.1 (subst (λ z. HasRead z e t.0) four (has_read e on)) (subst (λ z. key_part e z ≡ key_part t.0 z) four (sym key ∙ same.0))).0 same.2) h

    -- the next row comes after it
    pub read_past : (key_part t.0 place < part_of word place) ⊎ ((part_of word place ≡ key_part t.0 place) × (4 ≤ place) × (t.1 < b.link.row)) → Told n table x sought (Reading b place) (Load b.spot) p (read_of b.link.row place word) (Done (There b))
    read_past h = let next = at.at.1.next at.at.2 in read_told (Load b.spot) (Done (There b))
        (let stood : StandsOn p.position.rows b.link.row next.event = (next.on.0, next.on.1, next.on.2, next.on.3) in record { none = at.at.0; passed = read_passed; after = inr (next.event, stood, subst (λ z. IsAfter z next.event b.link.row) (sym is) (λ fits row. high next.event stood fits row h)) })
      where
        high : (e : Event) → StandsOn p.position.rows b.link.row e → IsEvent t.0 → t.1 < 2 ^ 24 → (key_part t.0 place < part_of word place) ⊎ ((part_of word place ≡ key_part t.0 place) × (4 ≤ place) × (t.1 < b.link.row)) → rank t.0 t.1 < rank e b.link.row
        high e on fits row h = let key = found_key e on in let read = has_read e on in ⊎_elim
            (λ less. part_less t.0 e place t.1 b.link.row at.at.3 at.at.4 fits row (λ n. sym (read.0 n), λ n. sym (read.1 n)) (subst (λ z. key_part t.0 place < z) key less))
            (λ same. let four : place ≡ 4 = let high = at.at.4 in let most = same.1 in omega arith in
            (key_same e t.0 b.link.row t.1 (subst (λ z. HasRead z e t.0) four read) (subst (λ z. key_part e z ≡ key_part t.0 z) four (sym key ∙ same.0))).1 same.2) h

  -- Cutting

  -- what is still owed was, and is another row than the one that was cut
  unnamed_other : (r : ℕ) (o : Option CutDebt) (d : CutDebt) → unnamed r o ≡ Some d → d.row ≢ r
  unnamed_other r None d is = absurd (cc)
  unnamed_other r (Some a) d is = cond_both (eqb a.row r) None (Some a) (λ (z : Option CutDebt). z ≡ Some d → d.row ≢ r)
      (λ _ none. absurd (cc)) (λ no same. subst (λ (z : CutDebt). z.row ≢ r) (one_debt a d same) (eqb-false a.row r no)) is
    where
      one_debt : (a d : CutDebt) → Some a ≡ Some d → a ≡ d
      one_debt a d same = cc

  unnamed_was : (r : ℕ) (o : Option CutDebt) (d : CutDebt) → unnamed r o ≡ Some d → o ≡ Some d
  unnamed_was r None d is = is
  unnamed_was r (Some a) d is = cond_both (eqb a.row r) None (Some a) (λ (z : Option CutDebt). z ≡ Some d → Some a ≡ Some d) (λ _ none. absurd (cc)) (λ _ same. same) is

  pub may_cut : (b : Before) (last : Link) → IsSeeking n table x sought (Cutting b last) p → MayCut (cell b.spot) b.link.row last p
  may_cut b last at = record { none = at.at.0; cell_is = spot_walks b.spot at.list_is at.at.1.passed.reached; on = at.at.5; dead = at.at.3 }

  abbrev pub cut_made : Before → Link → ℕ → Made
  cut_made b last found = step_made Cut (index table.start.layout (cell_place (cell b.spot))) (link_word b.link) (link_word (record b.link { row = last.row })) found

  reached_cut : (spot : Spot) (e : Event) (r : ℕ) (m : Made) → StandsOn p.position.rows r e → IsBeyondSpot spot e r p → IsReached x sought.list sought.target spot p → IsReached x sought.list sought.target spot (makes m (cuts r p))
  reached_cut (Head h) e r m on beyond reached = reached
  reached_cut (Row s) e r m on beyond reached = (reached.0, without_in r p.position.rows s reached.0 sought.list.generation (spot_apart (Row s) e r on beyond s refl) reached.1, reached.2, reached.3)

  pub cut_won : (b : Before) (last : Link) (found : ℕ) → IsSeeking n table x sought (Cutting b last) p → Told n table x sought (Cutting b last) (Tagging b.spot b.link.row) p (makes (cut_made b last found) (cuts b.link.row p)) More
  cut_won b last found at = let passed = at.at.1.passed in let next = passed.next at.at.1.some_row in let stays : Stays p (makes (cut_made b last found) (cuts b.link.row p)) = record { number = refl; start = refl; deal = refl; found = refl; guard = refl; permit = refl; sight = refl; told = refl } in
      let left = was_left (unnamed b.link.row p.debts.cut) (unnamed b.link.row p.debts.second_cut) in record {
        works = record { stays = stays; step = cut_made b last found; made = refl; kind = refl; expects = λ _. (passed.known, rows_apart b.link last.row at.at.4); timed = λ no. absurd (cc); settle = λ _. refl };
        kind = refl;
        copying = cut_keeps (cut_made b last found) b.link.row p;
        own = refl;
        written = refl;
        owed = λ d owed. ⊎_elim (λ q. inl (unnamed_was b.link.row p.debts.cut d q)) (λ q. inr (unnamed_was b.link.row p.debts.second_cut d q)) (left d owed);
        keeps = (λ s f ne on. without_stands b.link.row p.position.rows s f ne on, λ d owed. ⊎_elim (unnamed_other b.link.row p.debts.cut d) (unnamed_other b.link.row p.debts.second_cut d) (left d owed));
        answers = (
          go_on (Cutting b last) (Tagging b.spot b.link.row) (makes (cut_made b last found) (cuts b.link.row p)) (cut_made b last found) refl stays at (swept_on (Cutting b last) (makes (cut_made b last found) (cuts b.link.row p)) (cut_made b last found) refl at)
              (reached_cut b.spot next.event b.link.row (cut_made b last found) (next.on.0, next.on.1, next.on.2, next.on.3) next.beyond passed.reached, (record { row = b.link.row; tags = [] }, refl, refl)),
          inl refl,
        );
      }

  pub cut_lost : (b : Before) (last : Link) (found : ℕ) → IsSeeking n table x sought (Cutting b last) p → Told n table x sought (Cutting b last) (Load (Head sought.list.head)) p (makes (cut_made b last found) p) More
  cut_lost b last found at = let stays : Stays p (makes (cut_made b last found) p) = record { number = refl; start = refl; deal = refl; found = refl; guard = refl; permit = refl; sight = refl; told = refl } in record {
    works = record { stays = stays; step = cut_made b last found; made = refl; kind = refl; expects = λ _. (at.at.1.passed.known, rows_apart b.link last.row at.at.4); timed = λ no. absurd (cc); settle = λ _. refl };
    kind = refl;
    copying = same_keeps p (makes (cut_made b last found) p) refl refl refl;
    own = refl;
    written = refl;
    owed = λ d owed. owed;
    keeps = tt;
    answers = (go_on (Cutting b last) (Load (Head sought.list.head)) (makes (cut_made b last found) p) (cut_made b last found) refl stays at (swept_anew (makes (cut_made b last found) p)) (at.at.0, refl), inl refl);
  }

  -- Tagging and retiring

  reached_same : (spot : Spot) (q : Caller) → q.position.rows ≡ p.position.rows → IsReached x sought.list sought.target spot p → IsReached x sought.list sought.target spot q
  reached_same (Head h) q same reached = reached
  reached_same (Row r) q same reached = (reached.0, subst (λ ss. StandsIn ss r reached.0 sought.list.generation) (sym same) reached.1, reached.2, reached.3)

  pub tag_told : (spot : Spot) (row e : ℕ) → IsSeeking n table x sought (Tagging spot row) p
      → Told n table x sought (Tagging spot row) (Retiring spot row e) p (makes (load_made EpochLoad (index table.start.layout epoch) e) (loads_epoch e p)) More
  tag_told spot row e at = let m = load_made EpochLoad (index table.start.layout epoch) e in let q = makes m (loads_epoch e p) in let y = at.at.1 in
      let stays : Stays p q = record { number = refl; start = refl; deal = refl; found = refl; guard = refl; permit = refl; sight = refl; told = refl } in record {
        works = record { stays = stays; step = m; made = refl; kind = refl; expects = λ no. absurd (cc); timed = λ no. absurd (cc); settle = λ _. refl };
        kind = refl;
        copying = same_keeps p q refl refl refl;
        own = refl;
        written = refl;
        owed = λ d owed. owed;
        keeps = (refl, refl);
        answers = (go_on (Tagging spot row) (Retiring spot row e) q m refl stays at (swept_on (Tagging spot row) q m refl at) (reached_same spot q refl at.at.0, (record y.0 { tags = e ∷ y.0.tags }, ap (tagged e) y.1, y.2, inl refl)), inr (omega arith));
      }

  pub retire_told : (spot : Spot) (row tag : ℕ) → IsSeeking n table x sought (Retiring spot row tag) p
      → Told n table x sought (Retiring spot row tag) (Load spot) p (makes (store_made Retire (index table.start.layout (stamp row)) (tag + 1)) (retires p)) More
  retire_told spot row tag at = let m = store_made Retire (index table.start.layout (stamp row)) (tag + 1) in let q = makes m (retires p) in
      let stays : Stays p q = record { number = refl; start = refl; deal = refl; found = refl; guard = refl; permit = refl; sight = refl; told = refl } in record {
        works = record { stays = stays; step = m; made = refl; kind = refl; expects = λ no. absurd (cc); timed = λ no. absurd (cc); settle = λ _. refl };
        kind = refl;
        copying = same_keeps p q refl refl refl;
        own = refl;
        written = refl;
        owed = λ d owed. owed;
        keeps = ((refl, refl), refl);
        answers = (go_on (Retiring spot row tag) (Load spot) q m refl stays at (swept_on (Retiring spot row tag) q m refl at) (refl, reached_same spot q refl at.at.0), inr (low spot));
      }
    where
      low : (spot : Spot) → seek_left (Load spot) (makes (store_made Retire (index table.start.layout (stamp row)) (tag + 1)) (retires p)) < seek_left (Retiring spot row tag) p
      low (Head h) = omega arith
      low (Row r) = omega arith

-- The same of the pass

module _ (n : ℕ) (table : Table) (x : Control) (sought : Sought) (old new : Pass) where
  -- a load or a store leaves what the pass has at run time
  stepped : (seek seek' : SeekState) (q : Caller) (answer : Progress SeekEnd) → IsPassOf table new → new ≡ record old { seat = new.seat } → caller table new ≡ q → seek_exchanges seek ≡ false
      → Told n table x sought seek seek' (caller table old) q answer → SeekStepped n table x sought seek seek' old new answer
  stepped seek seek' q answer is same part loads at = let told = subst (λ z. Told n table x sought seek seek' (caller table old) z answer) (sym part) at in record {
    is = is;
    works = told.works;
    kind = told.kind;
    copying = told.copying;
    turns = ap (λ (z : Pass). z.turns) same ∙ ap (λ b. turns_after b old.turns) (sym loads);
    number = ap (λ (z : Pass). z.number) same;
    free = ap (λ (z : Pass). z.free.items) same;
    debts = ap (λ (z : Pass). z.debts) same;
    own = told.own;
    written = told.written;
    owed = told.owed;
    keeps = told.keeps;
    answers = told.answers;
  }

  exchanged : (b : Before) (last : Link) (won : Bool) (seek' : SeekState) (q : Caller) (answer : Progress SeekEnd) → CutSwapped table old new (cell b.spot) b.link last won → caller table new ≡ q
      → Told n table x sought (Cutting b last) seek' (caller table old) q answer → SeekStepped n table x sought (Cutting b last) seek' old new answer
  exchanged b last won seek' q answer cut part at = let told = subst (λ z. Told n table x sought (Cutting b last) seek' (caller table old) z answer) (sym part) at in record {
    is = cut.swapped.is;
    works = told.works;
    kind = told.kind;
    copying = told.copying;
    turns = cut.swapped.turns;
    number = cut.swapped.number;
    free = cut.free;
    debts = cut.debts;
    own = told.own;
    written = told.written;
    owed = told.owed;
    keeps = told.keeps;
    answers = told.answers;
  }

  pub load_present : (spot : Spot) (l : Link) (to : SeekState × Progress SeekEnd) → IsPassOf table old → Saw table old new (cell spot) no_take l → is_cell l.mark ≡ true → l.generation ≡ sought.list.generation → to ≡ next_seek (record { spot = spot; link = l }) sought.target
      → IsSeeking n table x sought (Load spot) (caller table old) → SeekStepped n table x sought (Load spot) to.0 old new to.1
  load_present spot l to of saw present now is at = let p = caller table old in let b : Before = record { spot = spot; link = l } in
      subst (λ (z : SeekState × Progress SeekEnd). SeekStepped n table x sought (Load spot) z.0 old new z.1) (sym is)
      (stepped (Load spot) (next_seek b sought.target).0 (seen n table x sought p spot l saw.event) (next_seek b sought.target).1 saw.is saw.same saw.part refl
      (load_val n table x sought p spot l saw.event at of.lawful (subst Lawful saw.part saw.is.lawful) saw.is_link present now saw.next))

  pub load_dead : (spot : Spot) (l : Link) → IsPassOf table old → Saw table old new (cell spot) no_take l → l.mark ≡ Del → l.generation ≡ sought.list.generation → IsSeeking n table x sought (Load spot) (caller table old)
      → SeekStepped n table x sought (Load spot) (Load (Head sought.list.head)) old new More
  load_dead (Row r) l of saw dead now at = stepped (Load (Row r)) (Load (Head sought.list.head)) (seen n table x sought (caller table old) (Row r) l saw.event) More saw.is saw.same saw.part refl (load_del n table x sought (caller table old) r l saw.event at)
  load_dead (Head h) l of saw dead now at = absurd (head_alive n table x sought (caller table old) h l saw.marked dead)

  pub pass_present : (b : Before) (l : Link) (to : SeekState × Progress SeekEnd) → IsPassOf table old → Saw table old new (at_row b.link.row) no_take l → is_cell l.mark ≡ true → to ≡ next_seek (record { spot = Row b.link.row; link = l }) sought.target
      → IsSeeking n table x sought (Passing b) (caller table old) → SeekStepped n table x sought (Passing b) to.0 old new to.1
  pass_present b l to of saw present is at = let p = caller table old in let a : Before = record { spot = Row b.link.row; link = l } in
      subst (λ (z : SeekState × Progress SeekEnd). SeekStepped n table x sought (Passing b) z.0 old new z.1) (sym is)
      (stepped (Passing b) (next_seek a sought.target).0 (seen n table x sought p (Row b.link.row) l saw.event) (next_seek a sought.target).1 saw.is saw.same saw.part refl
      (pass_val n table x sought p b l saw.event at of.lawful (subst Lawful saw.part saw.is.lawful) saw.is_link present saw.marked saw.next))

  pub pass_dead : (b : Before) (l : Link) → IsPassOf table old → Saw table old new (at_row b.link.row) no_take l → l.mark ≡ Del
      → IsSeeking n table x sought (Passing b) (caller table old) → SeekStepped n table x sought (Passing b) (Cutting b l) old new More
  pass_dead b l of saw dead at = stepped (Passing b) (Cutting b l) (seen n table x sought (caller table old) (Row b.link.row) l saw.event) More saw.is saw.same saw.part refl
      (pass_del n table x sought (caller table old) b l saw.event at of.lawful (subst Lawful saw.part saw.is.lawful) saw.is_link dead saw.next)

  pub load_frozen : (spot : Spot) (l : Link) → IsPassOf table old → Saw table old new (cell spot) no_take l → l.mark ≡ Mov → IsSeeking n table x sought (Load spot) (caller table old)
      → SeekStepped n table x sought (Load spot) (Load spot) old new (Done Frozen)
  load_frozen spot l of saw mov at = let p = caller table old in stepped (Load spot) (Load spot) (seen n table x sought p spot l saw.event) (Done Frozen) saw.is saw.same saw.part refl
      (load_mov n table x sought p spot l saw.event at saw.is_link (inl mov) (spot_frozen n table x sought p spot l of.lawful at.list_is at.at.1 saw.marked mov))

  pub load_other : (spot : Spot) (l : Link) → IsPassOf table old → Saw table old new (cell spot) no_take l → l.generation ≢ sought.list.generation → IsSeeking n table x sought (Load spot) (caller table old)
      → SeekStepped n table x sought (Load spot) (Load spot) old new (Done Frozen)
  load_other spot l of saw ne at = let p = caller table old in let other = spot_other n table x sought p spot l of.lawful at.list_is at.at.1 saw.marked ne in
      stepped (Load spot) (Load spot) (seen n table x sought p spot l saw.event) (Done Frozen) saw.is saw.same saw.part refl
      (load_mov n table x sought p spot l saw.event at saw.is_link (inr (other.0, ne)) other.1)

  pub pass_frozen : (b : Before) (l : Link) → IsPassOf table old → Saw table old new (at_row b.link.row) no_take l → l.mark ≡ Mov → IsSeeking n table x sought (Passing b) (caller table old)
      → SeekStepped n table x sought (Passing b) (Load (Row b.link.row)) old new (Done Frozen)
  pass_frozen b l of saw mov at = let p = caller table old in stepped (Passing b) (Load (Row b.link.row)) (seen n table x sought p (Row b.link.row) l saw.event) (Done Frozen) saw.is saw.same saw.part refl
      (pass_mov n table x sought p b l saw.event at saw.is_link mov (spot_frozen n table x sought p (Row b.link.row) l of.lawful at.list_is (next_row n table x sought p b at.at.1) saw.marked mov))

  pub cut_done : (b : Before) (last : Link) (won : Bool) → IsPassOf table old → won ≡ true → CutSwapped table old new (cell b.spot) b.link last won
      → IsSeeking n table x sought (Cutting b last) (caller table old) → SeekStepped n table x sought (Cutting b last) (Tagging b.spot b.link.row) old new More
  cut_done b last won of is cut at = let p = caller table old in let m = cut_made n table x sought p b last cut.swapped.found in
      exchanged b last won (Tagging b.spot b.link.row) (makes m (cuts b.link.row p)) More cut (cut.swapped.part ∙ ap (λ w. makes m (where_won w (cuts b.link.row) p)) is) (cut_won n table x sought p b last cut.swapped.found at)

  pub cut_missed : (b : Before) (last : Link) (won : Bool) → won ≡ false → CutSwapped table old new (cell b.spot) b.link last won
      → IsSeeking n table x sought (Cutting b last) (caller table old) → SeekStepped n table x sought (Cutting b last) (Load (Head sought.list.head)) old new More
  cut_missed b last won is cut at = let p = caller table old in let m = cut_made n table x sought p b last cut.swapped.found in
      exchanged b last won (Load (Head sought.list.head)) (makes m p) More cut (cut.swapped.part ∙ ap (λ w. makes m (where_won w (cuts b.link.row) p)) is) (cut_lost n table x sought p b last cut.swapped.found at)

  pub tags_row : (spot : Spot) (row e : ℕ) → Stepped table old new (load_made EpochLoad (index table.start.layout epoch) e) (loads_epoch e)
      → IsSeeking n table x sought (Tagging spot row) (caller table old) → SeekStepped n table x sought (Tagging spot row) (Retiring spot row e) old new More
  tags_row spot row e s at = let p = caller table old in
      stepped (Tagging spot row) (Retiring spot row e) (makes (load_made EpochLoad (index table.start.layout epoch) e) (loads_epoch e p)) More s.is s.same s.part refl (tag_told n table x sought p spot row e at)

  pub retires_row : (spot : Spot) (row tag : ℕ) → Stepped table old new (store_made Retire (index table.start.layout (stamp row)) (tag + 1)) retires
      → IsSeeking n table x sought (Retiring spot row tag) (caller table old) → SeekStepped n table x sought (Retiring spot row tag) (Load spot) old new More
  retires_row spot row tag s at = let p = caller table old in
      stepped (Retiring spot row tag) (Load spot) (makes (store_made Retire (index table.start.layout (stamp row)) (tag + 1)) (retires p)) More s.is s.same s.part refl (retire_told n table x sought p spot row tag at)

  module _ (b : Before) (place word : ℕ) (t : Event × ℕ) (is : sought.target ≡ Some t) (of : IsPassOf table old)
      (read : Stepped table old new (load_made Read (index table.start.layout (row_place b.link.row place)) word) stays)
      (tells : (e : Event) → StandsOn (caller table old).position.rows b.link.row e → word ≡ event_word e place) (at : IsSeeking n table x sought (Reading b place) (caller table old)) where
    reads : (seek' : SeekState) (answer : Progress SeekEnd) → Told n table x sought (Reading b place) seek' (caller table old) (read_of n table x sought (caller table old) b.link.row place word) answer
        → SeekStepped n table x sought (Reading b place) seek' old new answer
    reads seek' answer told = stepped (Reading b place) seek' (read_of n table x sought (caller table old) b.link.row place word) answer read.is read.same read.part refl told

    pub reads_next : part_of word place ≡ key_part t.0 place → place < 4 → SeekStepped n table x sought (Reading b place) (Reading b (place + 1)) old new More
    reads_next same low = reads (Reading b (place + 1)) More (read_next n table x sought (caller table old) b place word t is at of.lawful (subst Lawful read.part read.is.lawful) tells same low)

    pub reads_up : (part_of word place < key_part t.0 place) ⊎ ((part_of word place ≡ key_part t.0 place) × (4 ≤ place) × (b.link.row ≤ t.1)) → SeekStepped n table x sought (Reading b place) (Passing b) old new More
    reads_up h = reads (Passing b) More (read_up n table x sought (caller table old) b place word t is at of.lawful (subst Lawful read.part read.is.lawful) tells h)

    pub reads_past : (key_part t.0 place < part_of word place) ⊎ ((part_of word place ≡ key_part t.0 place) × (4 ≤ place) × (t.1 < b.link.row)) → SeekStepped n table x sought (Reading b place) (Load b.spot) old new (Done (There b))
    reads_past h = reads (Load b.spot) (Done (There b)) (read_past n table x sought (caller table old) b place word t is at of.lawful (subst Lawful read.part read.is.lawful) tells h)

-- a step of a walk that is at this one of its states
pub step_as : (table : Table) (sought : Sought) (old new : Pass) (seek at seek' : SeekState) (answer : Progress SeekEnd) → seek ≡ at
    → ((n : ℕ) (x : Control) → IsSeeking n table x sought at (caller table old) → SeekStepped n table x sought at seek' old new answer)
    → (n : ℕ) (x : Control) → IsSeeking n table x sought seek (caller table old) → SeekStepped n table x sought seek seek' old new answer
step_as table sought old new seek at seek' answer is step n x h =
    subst (λ s. SeekStepped n table x sought s seek' old new answer) (sym is) (step n x (subst (λ s. IsSeeking n table x sought s (caller table old)) is h))

-- A cut of dead rows

there_clean : (n : ℕ) (table : Table) (x : Control) (sought : Sought) (b : Before) (p : Caller) → Lawful p → IsThere n table x sought b p → (d : CutDebt) → NamesTarget sought.target sought.list d → HasName (names_of p.debts) d → ⊥
there_clean n table x sought b p law there d is owed = let ahead = there.passed.owed.ahead d is owed in let fits = law.owed_fits d owed in let row = fits.0.1 in let all = p.start.layout.all_fit in ⊎_elim
    (λ none. let some = ahead.0 in omega arith)
    (λ past. let low = ahead.1 past.0 past.1 in let high : rank d.event d.row < rank past.0 b.link.row = subst (λ t. IsAfter t past.0 b.link.row) is.0 past.2 fits.1 (omega arith) in omega arith) there.after

-- the walk came to the place of its sought.target
pub cut_ends : (n : ℕ) (table : Table) (x : Control) (op op' : CutOp) (b : Before) (old new : Pass) → SeekStepped n table x op.sought op.state op'.state old new (Done (There b)) → CutStepped n table x op op' old new (Done Clean)
cut_ends n table x op op' b old new at = record {
  is = at.is;
  works = at.works;
  kind = at.kind;
  copying = at.copying;
  turns = at.turns;
  number = at.number;
  free = at.free;
  debts = at.debts;
  own = at.own;
  owed = at.owed;
  answers = (at.answers.none, there_clean n table x op.sought b (caller table new) at.is.lawful at.answers, record { row = b.link.row; sweeps = at.answers.passed.swept; ends = at.answers.after });
}

-- the walk found a frozen link
pub cut_frozen : (n : ℕ) (table : Table) (x : Control) (op op' : CutOp) (old new : Pass) → SeekStepped n table x op.sought op.state op'.state old new (Done Frozen) → CutStepped n table x op op' old new (Done CutFrozen)
cut_frozen n table x op op' old new at = record {
  is = at.is;
  works = at.works;
  kind = at.kind;
  copying = at.copying;
  turns = at.turns;
  number = at.number;
  free = at.free;
  debts = at.debts;
  own = at.own;
  owed = at.owed;
  answers = at.answers;
}
