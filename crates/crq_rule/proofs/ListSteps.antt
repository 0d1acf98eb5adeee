-- What a step function asks of each kind on lists.
use Rattle.std.proofs.Common.{◌≡◌, ◌≢◌, ◌⊎◌, inl, inr, ℕ, zero, suc, ◌+◌, ◌*◌, ◌^◌, ◌<◌, ◌≤◌, Bool, true, false, List, [], ◌∷◌, ◌++◌, Option, None, Some, cond, get_or, set, eqb, sym, refl, ap, ◌∙◌, subst, arith, eq-eqb, ne_eqb, ⊎_elim}
use Rattle.std.proofs.lemmas.Option.{same_Some}
use mathlib.Core.Logic.{dite}
use native.Mathlib.Decide.{ℕ_discrete}
use prog.Atomic.{either}
use Rattle.crq_base.specs.declared.event.Event.{Event}
use Rattle.crq_base.specs.declared.entry.Entry.TheVariants.{Begin as BeginEntry, Put as PutEntry, Take as TakeEntry, Miss as MissEntry}
use Rattle.crq_base.specs.declared.kinds.StepKind.{StepKind}
use Rattle.crq_base.specs.declared.kinds.StepKind.TheVariants.{Write, Walk as WalkKind, Link as LinkKind, ControlLoad, Begin, Mark as MarkKind, Cut as CutKind, Miss}
use Rattle.crq_base.specs.declared.words.Link.{Link}
use Rattle.crq_base.specs.declared.words.Mark.TheVariants.{Val, Mov, Del}
use Rattle.crq_base.specs.declared.words.Control.{Control}
use Rattle.crq_base.specs.Words.{link_word, IsLink}
use Rattle.crq_rule.specs.declared.layout.Start.{Start}
use Rattle.crq_rule.specs.declared.view.Sight.{Sight}
use Rattle.crq_rule.specs.declared.view.Stand.{Stand}
use Rattle.crq_rule.specs.declared.view.Walk.{Walk}
use Rattle.crq_rule.specs.declared.view.Caller.{Caller}
use Rattle.crq_rule.specs.Places.{index, control, link, IsPlace, IsRow, IsHead, word_of}
use Rattle.crq_rule.specs.Core.{Core, caller_of, owed_by}
use Rattle.crq_rule.specs.Parts.{ground_of, IsOn, Leads, IsGuarded}
use Rattle.crq_rule.specs.ListParts.{row_word, IsOldMark}
use Rattle.crq_rule.specs.Invariant.{Inv}
use Rattle.crq_rule.specs.Ranks.{rank, first_head_of, shape_of, list_in, head_of, Cell, at_head, at_row, cell_place, link_at, heads_set, links_set, IsHeadIn, IsOpen}
use Rattle.crq_rule.specs.ListKinds.{Aim, is_cell, stands_after, walk_after, taken_on, sweep_on, clean_on, Content, new_link, no_twin, new_time, new_source, new_sequence, new_load, IsContent, content_number, content_word, row_place, wrote, writes, links, event_word, loads_control, control_loaded, begins, marks, cuts, misses, MayWalk, MaySeek, MayLink, MayMark, MayCut, MayMiss, ComesAfter, owed_event, unhanded, forgotten, cut_debt, name_in, without_stand, relieved_names, unnamed_row, FoundFirst}
use Rattle.crq_rule.specs.Steps.{Kind, write, walk, link as link_kind, link_fails, control_load, begin, mark, mark_fails, cut, cut_fails, miss, May, After, kind_of, place_of}
use Rattle.crq_rule.specs.Rule.{IsWords}
use Rattle.crq_rule.specs.Helping.{help_after, helped_by, IsHelping, old_head}
use Rattle.crq_rule.specs.Moves.{MovesBy, By, Walked, WalksOn, IsHeadOf, IsWalkable, IsStillFrozen, FoundControl, wins, quiet}
use Rattle.crq_base.proofs.WordLaws.{link_one}
use Rattle.crq_base.specs.Lists.{In}
use Rattle.crq_rule.proofs.Puts.{put_here}
use Rattle.crq_rule.proofs.Placing.{shows_set}
use Rattle.crq_rule.proofs.CoverLaws.{guarded_by, names_covered}
use Rattle.crq_rule.proofs.GuardSteps.{same_words}
use Rattle.crq_rule.proofs.HelpLaws.{head_woven}
use Rattle.crq_rule.proofs.SizeLaws.{fitting_list}
use Rattle.crq_rule.proofs.SteadyLaws.{guarded_out, steady_still, still_mark, found_now, found_moving, found_told}
use Rattle.crq_rule.proofs.HeadLaws.{head_mark, present_head, live_generation}
use Rattle.crq_rule.proofs.Lawfuls.{stand_covered}
use Rattle.crq_rule.proofs.SearchLaws.{own_walk, best_kept}
use Rattle.crq_rule.proofs.Keeps.{words_stay, rest_stays}

-- the word at the place of a step of this kind becomes a, and no other does
pub words_after : (key : Start) (k : Kind) (c : Core) (j : ℕ) (ws : List ℕ) (a : ℕ) → IsPlace key.layout (place_of k j) → word_of (After k c j).words (place_of k j) ≡ a → IsWords key c ws
    → IsWords key (After k c j) (set ws (index key.layout (place_of k j)) a)
words_after key k c j ws a place new old = record {
  start = (rest_stays k c j).0 ∙ old.start;
  shows = shows_set key.layout c.words (After k c j).words ws (place_of k j) a place new (words_stay k c j) old.shows;
}

-- what is written stands at its place
written_there : (c : Core) (j r : ℕ) (x : Content) → word_of (After (write r x) c j).words (row_place r (content_number x)) ≡ content_word x
written_there c j r (new_link l) = ap link_word (put_here c.words.link r l)
written_there c j r no_twin = put_here c.words.twin r 0
written_there c j r (new_time t d) = ap (λ (e : Event). e.time * 2 ^ 32 + e.dst) (put_here c.words.event r (record (c.words.event r) { time = t; dst = d }))
written_there c j r (new_source s) = ap (λ (e : Event). e.src) (put_here c.words.event r (record (c.words.event r) { src = s }))
written_there c j r (new_sequence n) = ap (λ (e : Event). e.seq) (put_here c.words.event r (record (c.words.event r) { seq = n }))
written_there c j r (new_load n) = ap (λ (e : Event). e.load) (put_here c.words.event r (record (c.words.event r) { load = n }))

pub row_place_is : (key : Start) (r n : ℕ) → IsRow key.layout r → IsPlace key.layout (row_place r n)
row_place_is key r zero b = b
row_place_is key r (suc zero) b = b
row_place_is key r (suc (suc zero)) b = b
row_place_is key r (suc (suc (suc zero))) b = b
row_place_is key r (suc (suc (suc (suc zero)))) b = b
row_place_is key r (suc (suc (suc (suc (suc n))))) b = b

pub row_word_is : (c : Core) (r n : ℕ) → word_of c.words (row_place r n) ≡ row_word (c.words.link r) (c.words.twin r) (c.words.event r) n
row_word_is c r zero = refl
row_word_is c r (suc zero) = refl
row_word_is c r (suc (suc zero)) = refl
row_word_is c r (suc (suc (suc zero))) = refl
row_word_is c r (suc (suc (suc (suc zero)))) = refl
row_word_is c r (suc (suc (suc (suc (suc n))))) = refl

pub cell_word : (c : Core) (cell : Cell) → word_of c.words (cell_place cell) ≡ link_word (link_at c.words.head c.words.link cell)
cell_word c (at_head q) = refl
cell_word c (at_row r) = refl

pub event_word_is : (l : Link) (t : ℕ) (e : Event) (n : ℕ) → 2 ≤ n → row_word l t e n ≡ event_word e n
event_word_is l t e zero b = absurd (omega arith)
event_word_is l t e (suc zero) b = absurd (omega arith)
event_word_is l t e (suc (suc zero)) b = refl
event_word_is l t e (suc (suc (suc zero))) b = refl
event_word_is l t e (suc (suc (suc (suc zero)))) b = refl
event_word_is l t e (suc (suc (suc (suc (suc n))))) b = refl

-- a cell that a row comes after may be walked
pub linked_cell : (list : Event → ℕ) (ss : List Stand) (cell : Cell) (r : ℕ) (e : Event) → ComesAfter list ss cell r e → MayWalk ss cell
linked_cell list ss (at_head q) r e after = after.0
linked_cell list ss (at_row s) r e after = (after.0, after.1)

module _ (key : Start) (p : Caller) where
  abbrev j : ℕ
  j = p.number

  pub write_moves : (r : ℕ) (x : Content) → IsRow key.layout r → In r p.hand → IsContent x → MovesBy Write key p (index key.layout (row_place r (content_number x))) (λ _. content_word x) (By (λ _. writes r (content_number x) (content_word x)) quiet)
  write_moves r x row held ok c ws inv words b is = (
    write r x,
    refl,
    (subst (λ (q : Caller). In r q.hand) is held, ok),
    words_after key (write r x) c j ws (content_word x) (row_place_is key r (content_number x) row) (written_there c j r x) words,
    (ap (writes r (content_number x) (content_word x)) is ∙ (λ i. record (caller_of c j) { written = sym (put_here c.written j (wrote r (content_number x) (content_word x) (c.written j))) i }), tt),
  )

  -- a cell that may be walked has a place
  pub cell_is : (cell : Cell) (c : Core) (ws : List ℕ) → j < c.start.layout.workers → Inv c → IsWords key c ws → MayWalk (c.rows j) cell → IsPlace key.layout (cell_place cell)
  cell_is (at_head q) c ws b inv words may = may
  cell_is (at_row r) c ws b inv words may = subst (λ (z : Start). IsRow z.layout r) words.start (subst (λ r. IsRow c.start.layout r) may.1.2 (stood c b inv may.1.0 may.1.1))
    where
      stood : (c : Core) → j < c.start.layout.workers → Inv c → (s : Stand) → In s (c.rows j) → IsRow c.start.layout s.row
      stood c b inv s i = inv.lanes.is_row s.row (guarded_by j (stand_covered c j s b i inv))

  pub cell_link : (cell : Cell) (c : Core) → j < c.start.layout.workers → Inv c → MayWalk (c.rows j) cell → IsLink (link_at c.words.head c.words.link cell)
  cell_link (at_head q) c b inv may = inv.spelled.heads q may
  cell_link (at_row r) c b inv may = subst (λ r. IsLink (c.words.link r)) may.1.2 (inv.spelled.links may.1.0.row (inv.lanes.is_row may.1.0.row (guarded_by j (stand_covered c j may.1.0 b may.1.1 inv))))

  -- the row that a walked cell names
  named : (cell : Cell) (c : Core) → j < c.start.layout.workers → Inv c → MayWalk (c.rows j) cell → let l = link_at c.words.head c.words.link cell in 0 < l.row
      → IsRow c.start.layout l.row × WalksOn cell l (c.words.event l.row) (caller_of c j)
  named (at_head q) c b inv may some = let l = c.words.head q in let i = first_in (c.chain q) (inv.chains.leads q may) in
      ((inv.holders.in_chain q l.row may i).0, λ x is told _. sym (found_told c inv j x b is l.generation told (c.words.event l.row)) ∙ inv.sorted.belongs q l.row may i)
    where
      first_in : (rs : List ℕ) → Leads c.words.link (c.words.head q).row rs → In (c.words.head q).row rs
      first_in [] l = absurd (omega arith)
      first_in (r ∷ rs) l = inl l.0
  named (at_row r) c b inv may some = let s = may.1.0 in let v = stand_covered c j s b may.1.1 inv in let row : s.row ≡ r = may.1.2 in let l = c.words.link r in
      let from : IsGuarded (ground_of c) r = subst (IsGuarded (ground_of c)) row (guarded_by j v) in (
        inv.lanes.is_row l.row (from.0, from.1, names_covered (ground_of c) from.0 from.1 r l.row from.2 (some, inl refl)),
        λ f is _. let holds : c.words.event r ≡ f = subst (λ (z : ℕ × Event). c.words.event z.0 ≡ z.1) (λ i. (is.2 i, is.3 i)) ((inv.standing.each j is.0 b is.1).holds) in (
          subst (λ e. rank e r < rank (c.words.event l.row) l.row) holds (inv.lanes.rises r from some),
          λ x ctl told. sym (found_told c inv j x b ctl l.generation told (c.words.event l.row)) ∙ (inv.lanes.stays r from some ∙ (ap (list_in c.shape l.generation) holds ∙ found_told c inv j x b ctl l.generation told f)),
        ),
      )

  -- a head of a table that was found is present where the table may not move, since that is the open one
  head_still : (c : Core) → Inv c → (q : ℕ) (x : Control) → j < c.start.layout.workers → IsHead q → (c.found j).control ≡ Some x → IsOpen x q → c.start.moves ≡ false
      → ((c.words.head q).mark ≡ Val) × ((c.words.head q).generation ≡ x.generation)
  head_still c inv q x b head is opened no_move = let fits = inv.finds.controls j x b is in let now = found_now c inv no_move j x b is in
      let in_table : IsHeadIn x.generation (c.shape x.generation) q = subst (λ s. IsHeadIn x.generation s q) (sym fits.size) opened in
      let at = inv.heads.old q head (subst (λ g. IsHeadIn g (c.shape g) q) now in_table) in
      (subst (λ m. IsOldMark m (c.words.head q).mark) (steady_still c inv no_move) at.1, at.0 ∙ sym now)

  -- it is of that or a later table
  head_of_found : (c : Core) → Inv c → (q : ℕ) (x : Control) → j < c.start.layout.workers → IsHead q → (c.found j).control ≡ Some x → IsOpen x q → IsHeadOf x (c.words.head q) (caller_of c j)
  head_of_found c inv q x b head is opened = let fits = inv.finds.controls j x b is in record {
    frozen = may_move c.start.moves refl;
    generation = inv.ends.opened x.generation q head fits.first fits.low (subst (λ s. IsHeadIn x.generation s q) (sym fits.size) opened);
    still = λ no_move. (head_still c inv q x b head is opened no_move).1;
  }
    where
      val_mov : Val ≡ Mov → ⊥
      val_mov e = cc

      may_move : (moves : Bool) → c.start.moves ≡ moves → (c.words.head q).mark ≡ Mov → c.start.moves ≡ true
      may_move true at frozen = at
      may_move false at frozen = absurd (val_mov (sym (head_still c inv q x b head is opened at).0 ∙ frozen))

  -- a covered row is present or dead, where the table may not move
  row_mark : (c : Core) → Inv c → (r : ℕ) → IsGuarded (ground_of c) r → (moves : Bool) → c.start.moves ≡ moves → (((c.words.link r).mark ≡ Val) ⊎ ((c.words.link r).mark ≡ Del)) ⊎ (c.start.moves ≡ true)
  row_mark c inv r v true is = inr is
  row_mark c inv r v false is = inl (still_mark c inv is r (inv.lanes.is_row r v) (guarded_out c inv r v))

  walkable : (cell : Cell) (c : Core) → j < c.start.layout.workers → Inv c → MayWalk (c.rows j) cell → IsWalkable cell (link_at c.words.head c.words.link cell) (caller_of c j)
  walkable (at_head q) c b inv may = (head_mark c.words.control c.shape c.words.head inv.heads q may, λ x is opened. head_of_found c inv q x b may is opened)
  walkable (at_row r) c b inv may = let v : IsGuarded (ground_of c) r = subst (IsGuarded (ground_of c)) may.1.2 (guarded_by j (stand_covered c j may.1.0 b may.1.1 inv)) in
      (row_mark c inv r v c.start.moves refl, λ s i row. subst (λ r. (c.words.link r).generation ≡ s.generation) row (inv.standing.each j s b i).of)

  still_frozen : (cell : Cell) (c : Core) → j < c.start.layout.workers → Inv c → MayWalk (c.rows j) cell → IsStillFrozen cell (link_at c.words.head c.words.link cell) (caller_of c j)
  still_frozen (at_head q) c b inv may = λ x h is helps all opened of. ⊎_elim (λ val. let w = inv.helps.finds j h b helps in let helping : IsHelping x h = subst (λ z. IsHelping z h) (same_Some w.0 x (sym w.1 ∙ is)) w.2 in
      let live = live_generation c.words.control c.shape c.words.head inv.heads q may (present_head c.words.control c.shape c.words.head inv.heads q may val) in
      let low = (inv.finds.controls j x b is).low in let same = found_moving c inv j x b is helping.moving (omega arith) in let passed = inv.helps.passed j h b helps (helping.same ∙ ap (λ (z : Control). z.generation) same) in let at = head_woven j x.log (first_head_of x.generation) q opened.0 opened.1 in
      subst (λ z. (c.words.head z).mark ≡ Mov) (ap (λ z. old_head z j at.0) (sym same) ∙ at.2) (passed.frozen at.0 (subst (λ n. at.0 < n) (sym all) at.1)))
      (λ frozen. frozen) (head_mark c.words.control c.shape c.words.head inv.heads q may)
  still_frozen (at_row r) c b inv may = tt

  abbrev walk_now : Core → Cell → Aim → Option Walk
  walk_now c cell aim = walk_after cell aim (c.sight j) (link_at c.words.head c.words.link cell) (c.walk j) (c.rows j)

  pub walk_moves : (cell : Cell) (aim : Aim) → IsOn p.guard → MayWalk p.position.rows cell → MaySeek p.sight p.walk cell aim → MovesBy WalkKind key p (index key.layout (cell_place cell)) (λ w. w) (Walked cell aim)
  walk_moves cell aim on may seek c ws inv words b is = let l = link_at c.words.head c.words.link cell in let e = c.words.event l.row in
      let may' : MayWalk (c.rows j) cell = subst (λ (q : Caller). MayWalk q.position.rows cell) is may in
      let place = cell_is cell c ws b inv words may' in let at = words.shows.each (cell_place cell) place in (
        walk cell aim,
        refl,
        (subst (λ (q : Caller). IsOn q.guard) is on, may', subst (λ (q : Caller). MaySeek q.sight q.walk cell aim) is seek),
        same_words key c (After (walk cell aim) c j) ws (index key.layout (cell_place cell)) refl refl words,
        subst (λ (z : ℕ × Caller). Walked cell aim z.0 z.1 (caller_of (After (walk cell aim) c j) j)) (λ i. (sym (at ∙ cell_word c cell) i, sym is i)) record {
          link = l;
          event = e;
          is_link = cell_link cell c b inv may';
          word = refl;
          after = λ i. record (caller_of c j) {
            position = record { rows = sym (put_here c.rows j (stands_after cell aim (walk_now c cell aim) l e (c.rows j))) i; old = c.old j };
            walk = sym (put_here c.walk j (walk_now c cell aim)) i;
            sweep = sym (put_here c.sweep j (sweep_on (taken_on aim (c.found j).control cell (c.rows j) (c.sweep j)) l e (c.sweep j))) i;
            clean = sym (put_here c.clean j (clean_on (taken_on aim (c.found j).control cell (c.rows j) (c.sweep j)) l (c.clean j))) i;
            debts = owed_by (c.settling j) (c.copying j) (sym (put_here c.named j (relieved_names (c.found j).control cell (c.rows j) l e (c.named j))) i);
            help = sym (put_here c.help j (helped_by (c.found j).control j cell l (c.help j))) i;
          };
          row = λ some. let n = named cell c b inv may' some in (n.0, inv.spelled.events l.row n.0);
          next = next_of cell c b inv may';
          marked = walkable cell c b inv may';
          frozen = still_frozen cell c b inv may';
        },
      )
    where
      next_of : (cell : Cell) (c : Core) → j < c.start.layout.workers → (inv : Inv c) → (may : MayWalk (c.rows j) cell) → WalksOn cell (link_at c.words.head c.words.link cell) (c.words.event (link_at c.words.head c.words.link cell).row) (caller_of c j)
      next_of (at_head q) c b inv may = λ x is told some. (named (at_head q) c b inv may some).1 x is told some
      next_of (at_row r) c b inv may = λ f is some. (named (at_row r) c b inv may some).1 f is some

  -- an exchange that found another word than it expected
  pub lost : (name : StepKind) (k : Kind) (w old new : ℕ) (f : Caller → Caller) → kind_of k ≡ name → ((c : Core) → May k c j) → ((c : Core) → After k c j ≡ c) → (c : Core) (ws : List ℕ) → IsWords key c ws → p ≡ caller_of c j → get_or ws w 0 ≢ old
      → (k : Kind) × (kind_of k ≡ name) × May k c j × IsWords key (After k c j) (set ws w (either (eqb (get_or ws w 0) old) new (get_or ws w 0))) × By (wins old f) quiet (get_or ws w 0) p (caller_of (After k c j) j)
  lost name k w old new f is may same c ws words mine apart = let b = ne_eqb (get_or ws w 0) old apart in (
    k,
    is,
    may c,
    subst (λ (z : Core × Bool). IsWords key z.0 (set ws w (either z.1 new (get_or ws w 0)))) (λ i. (sym (same c) i, sym b i)) (same_words key c c ws w refl refl words),
    ((λ i. cond (b i) (f (mine i)) (mine i)) ∙ ap (λ z. caller_of z j) (sym (same c)), tt),
  )

  -- one that found what it expected
  pub won : (name : StepKind) (k : Kind) (w old new : ℕ) (f : Caller → Caller) → kind_of k ≡ name → (c : Core) (ws : List ℕ) → May k c j → p ≡ caller_of c j → get_or ws w 0 ≡ old → IsWords key (After k c j) (set ws w new) → f (caller_of c j) ≡ caller_of (After k c j) j
      → (k : Kind) × (kind_of k ≡ name) × May k c j × IsWords key (After k c j) (set ws w (either (eqb (get_or ws w 0) old) new (get_or ws w 0))) × By (wins old f) quiet (get_or ws w 0) p (caller_of (After k c j) j)
  won name k w old new f is c ws may mine hit words after = let b = eq-eqb (get_or ws w 0) old hit in (
    k,
    is,
    may,
    subst (λ (z : Bool). IsWords key (After k c j) (set ws w (either z new (get_or ws w 0)))) (sym b) words,
    ((λ i. cond (b i) (f (mine i)) (mine i)) ∙ after, tt),
  )

  -- the word of a link that is set at a cell
  pub set_there : (c c' : Core) (cell : Cell) (l : Link) → c'.words.head ≡ heads_set c.words.head cell l → c'.words.link ≡ links_set c.words.link cell l → word_of c'.words (cell_place cell) ≡ link_word l
  set_there c c' (at_head q) l heads links = ap (λ (f : ℕ → Link). link_word (f q)) heads ∙ ap link_word (put_here c.words.head q l)
  set_there c c' (at_row r) l heads links = ap (λ (f : ℕ → Link). link_word (f r)) links ∙ ap link_word (put_here c.words.link r l)

  pub link_moves : (x : Control) (cell : Cell) (l : Link) (r : ℕ) (e : Event) → MayLink key.layout.workers x cell l r e p
      → MovesBy LinkKind key p (index key.layout (cell_place cell)) (λ w. either (eqb w (link_word l)) (link_word (record l { row = r })) w) (By (wins (link_word l) (links x r e)) quiet)
  link_moves x cell l r e may c ws inv words b is = let new : Link = record l { row = r } in let w = index key.layout (cell_place cell) in
      let may' : MayLink c.start.layout.workers x cell l r e (caller_of c j) = subst (λ (z : Start × Caller). MayLink z.0.layout.workers x cell l r e z.1) (λ i. (sym words.start i, is i)) may in
      let due : owed_event x.generation (shape_of x) e ≡ owed_event l.generation (c.shape l.generation) e = ap (λ s. owed_event x.generation s e) (sym (inv.finds.controls j x b may'.control).size) ∙ ap (λ g. owed_event g (c.shape g) e) (sym may'.expected.2) in
      let walkable' = linked_cell (head_of x) (c.rows j) cell r e may'.after in let place = cell_is cell c ws b inv words walkable' in let at = words.shows.each (cell_place cell) place in
      dite (ℕ_discrete (get_or ws w 0) (link_word l))
      (λ hit. let found : link_at c.words.head c.words.link cell ≡ l = link_one _ _ (cell_link cell c b inv walkable') may.expected.0 (sym (cell_word c cell) ∙ (sym at ∙ hit)) in let k = link_kind cell l r e in
      won LinkKind k w (link_word l) (link_word new) (links x r e) refl c ws ((x, may'), found) is hit
      (words_after key k c j ws (link_word new) place (set_there c (After k c j) cell new refl refl) words)
      (λ i. record (caller_of c j) {
        own = sym (put_here c.own j (c.own j ++ PutEntry j e ∷ [])) i;
        debts = owed_by ((ap Some due ∙ sym (put_here c.settling j (Some (owed_event l.generation (c.shape l.generation) e)))) i) (c.copying j) (c.named j);
        hand = sym (put_here c.hand j (unhanded r (c.hand j))) i;
        base = sym (put_here c.base j None) i;
        written = sym (put_here c.written j (forgotten r (c.written j))) i;
      }))
      (λ apart. lost LinkKind (link_fails cell) w (link_word l) (link_word new) (links x r e) refl (λ _. tt) (λ _. refl) c ws words is apart)

  pub cut_moves : (cell : Cell) (l : Link) (y : ℕ) (last : Link) → IsLink l → is_cell l.mark ≡ true → l.row ≡ y → MayCut cell y last p
      → MovesBy CutKind key p (index key.layout (cell_place cell)) (λ w. either (eqb w (link_word l)) (link_word (record l { row = last.row })) w) (By (wins (link_word l) (cuts y)) quiet)
  cut_moves cell l y last bits passable row may c ws inv words b is = let new : Link = record l { row = last.row } in let w = index key.layout (cell_place cell) in
      let may' : MayCut cell y last (caller_of c j) = subst (MayCut cell y last) is may in
      let place = cell_is cell c ws b inv words may'.cell_is in let at = words.shows.each (cell_place cell) place in
      dite (ℕ_discrete (get_or ws w 0) (link_word l))
      (λ hit. let found : link_at c.words.head c.words.link cell ≡ l = link_one _ _ (cell_link cell c b inv may'.cell_is) bits (sym (cell_word c cell) ∙ (sym at ∙ hit)) in let k = cut cell y last in
      won CutKind k w (link_word l) (link_word new) (cuts y) refl c ws (may', (ap (λ (z : Link). is_cell z.mark) found ∙ passable, ap (λ (z : Link). z.row) found ∙ row)) is hit
      (words_after key k c j ws (link_word new) place (set_there c (After k c j) cell (record (link_at c.words.head c.words.link cell) { row = last.row }) refl refl ∙ ap (λ (z : Link). link_word (record z { row = last.row })) found) words)
      (λ i. record (caller_of c j) {
        cut = sym (put_here c.cut j (Some (record { row = y; tags = [] }))) i;
        walk = sym (put_here c.walk j None) i;
        position = record { rows = sym (put_here c.rows j (without_stand y (c.rows j))) i; old = c.old j };
        debts = owed_by (c.settling j) (c.copying j) (sym (put_here c.named j (unnamed_row y (c.named j))) i);
      }))
      (λ apart. lost CutKind (cut_fails cell) w (link_word l) (link_word new) (cuts y) refl (λ _. tt) (λ _. refl) c ws words is apart)

  -- the row that a walk found to be the first is of the table that the take saw
  first_generation : (c : Core) → Inv c → j < c.start.layout.workers → (s : Sight) (w : Walk) (r : ℕ) (e : Event) → c.sight j ≡ Some s → c.walk j ≡ Some w → 0 < r → (o : Option ℕ) → w.bucket ≡ o → FoundFirst o s.table (c.rows j) w r e
      → (c.words.link r).generation ≡ s.table.generation
  first_generation c inv b s w r e sees is some None none found = (best_kept c inv j b s w sees is (r, e) found.1).1
  first_generation c inv b s w r e sees is some (Some u) of found = ⊎_elim (λ z. let same = found.0 in absurd (omega arith)) (λ h. subst (λ r. (c.words.link r).generation ≡ s.table.generation) found.0 h.1) (own_walk c inv j s w b sees is).at_stand

  walk_generation : (c : Core) → Inv c → (x : Control) {r : ℕ} {e : Event} → j < c.start.layout.workers → MayMark x r e (caller_of c j) → (c.words.link r).generation ≡ x.generation
  walk_generation c inv x {r} {e} b may = let w = may.walks in
      let some = (inv.lanes.is_row r (subst (IsGuarded (ground_of c)) may.on.2 (guarded_by j (stand_covered c j may.on.0 b may.on.1 inv)))).0 in
      first_generation c inv b (record { table = x; current = may.sight.0 }) w.0 r e may.sight.1 w.1 some w.0.bucket refl w.2

  pub mark_moves : (x : Control) (r : ℕ) (e : Event) (l : Link) → IsLink l → l.mark ≡ Val → MayMark x r e p
      → MovesBy MarkKind key p (index key.layout (link r)) (λ w. either (eqb w (link_word l)) (link_word (record l { mark = Del })) w) (By (wins (link_word l) (marks x r e)) quiet)
  mark_moves x r e l bits val may c ws inv words b is = let new : Link = record l { mark = Del } in let w = index key.layout (link r) in
      let may' : MayMark x r e (caller_of c j) = subst (MayMark x r e) is may in
      let now : (c.words.link r).generation ≡ x.generation = walk_generation c inv x b may' in
      let named : cut_debt x r e ≡ name_in c.shape (c.words.link r).generation r e = (λ i. record { generation = x.generation; head = sym (fitting_list c.start c.words.control c.shape x (inv.finds.sights j (record { table = x; current = may'.sight.0 }) b may'.sight.1).0 e) i; event = e; row = r; front = false })
      ∙ ap (λ g. name_in c.shape g r e) (sym now) in
      let on : MayWalk (c.rows j) (at_row r) = (e, may'.on) in
      let place = cell_is (at_row r) c ws b inv words on in let at = words.shows.each (link r) place in
      dite (ℕ_discrete (get_or ws w 0) (link_word l))
      (λ hit. let found : c.words.link r ≡ l = link_one _ _ (cell_link (at_row r) c b inv on) bits (sym at ∙ hit) in let k = mark r e in
      won MarkKind k w (link_word l) (link_word new) (marks x r e) refl c ws ((x, may'), ap (λ (z : Link). z.mark) found ∙ val) is hit
      (words_after key k c j ws (link_word new) place (ap link_word (put_here c.words.link r (record (c.words.link r) { mark = Del })) ∙ ap (λ (z : Link). link_word (record z { mark = Del })) found) words)
      (λ i. record (caller_of c j) {
        own = sym (put_here c.own j (c.own j ++ TakeEntry j e ∷ [])) i;
        walk = sym (put_here c.walk j None) i;
        debts = owed_by (c.settling j) (c.copying j) ((ap (λ d. record (c.named j) { first = Some d }) named ∙ sym (put_here c.named j (record (c.named j) { first = Some (name_in c.shape (c.words.link r).generation r e) }))) i);
      }))
      (λ apart. lost MarkKind (mark_fails r) w (link_word l) (link_word new) (marks x r e) refl (λ _. tt) (λ _. refl) c ws words is apart)

  -- the control word was found
  control_found : (k : Kind) (f : Control → Caller → Caller) (c : Core) (ws : List ℕ) → Inv c → IsWords key c ws → p ≡ caller_of c j → f c.words.control (caller_of c j) ≡ caller_of (After k c j) j
      → FoundControl f (get_or ws (index key.layout control) 0) p (caller_of (After k c j) j)
  control_found k f c ws inv words is after = let at = words.shows.each control tt in
      subst (λ (z : ℕ × Caller). FoundControl f z.0 z.1 (caller_of (After k c j) j)) (λ i. (sym at i, sym is i)) record {
        control = c.words.control;
        is_control = inv.spelled.is_control;
        word = refl;
        after = after;
        steady = steady_still c inv;
      }

  pub told_here : (c : Core) → loads_control c.words.control (caller_of c j) ≡ caller_of (control_loaded c j) j
  told_here c = λ i. record (caller_of c j) {
    found = sym (put_here c.found j (record (c.found j) { control = Some c.words.control })) i;
    help = sym (put_here c.help j (help_after c.words.control (c.help j))) i;
  }

  pub control_moves : MovesBy ControlLoad key p (index key.layout control) (λ w. w) (FoundControl loads_control)
  control_moves c ws inv words b is = (
    control_load,
    refl,
    tt,
    same_words key c (After control_load c j) ws (index key.layout control) refl refl words,
    control_found control_load loads_control c ws inv words is (told_here c),
  )

  pub begin_moves : MovesBy Begin key p (index key.layout control) (λ w. w) (FoundControl begins)
  begin_moves c ws inv words b is = (
    begin,
    refl,
    tt,
    same_words key c (After begin c j) ws (index key.layout control) refl refl words,
    control_found begin begins c ws inv words is (λ i. record (caller_of c j) {
      position = record { rows = c.rows j; old = sym (put_here c.old j None) i };
      own = sym (put_here c.own j (c.own j ++ BeginEntry j ∷ [])) i;
      base = sym (put_here c.base j None) i;
      refused = sym (put_here c.refused j []) i;
      sweep = sym (put_here c.sweep j None) i;
      clean = sym (put_here c.clean j []) i;
      sight = sym (put_here c.sight j None) i;
      walk = sym (put_here c.walk j None) i;
      found = sym (put_here c.found j (record (c.found j) { control = Some c.words.control })) i;
      help = sym (put_here c.help j (help_after c.words.control (c.help j))) i;
    }),
  )

  pub miss_moves : (limit : ℕ) → MayMiss limit p → MovesBy Miss key p (index key.layout control) (λ w. w) (FoundControl (misses limit))
  miss_moves limit may c ws inv words b is = (
    miss limit,
    refl,
    subst (MayMiss limit) is may,
    same_words key c (After (miss limit) c j) ws (index key.layout control) refl refl words,
    control_found (miss limit) (misses limit) c ws inv words is (λ i. record (caller_of c j) {
      own = sym (put_here c.own j (c.own j ++ MissEntry j limit ∷ [])) i;
      walk = sym (put_here c.walk j None) i;
      found = sym (put_here c.found j (record (c.found j) { control = Some c.words.control })) i;
      help = sym (put_here c.help j (help_after c.words.control (c.help j))) i;
    }),
  )
