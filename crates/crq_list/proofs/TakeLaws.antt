-- What is known of a take's words, stands and walk after one step more, and what each step that loads a head, a row or a word of its event tells.
use Rattle.std.proofs.Common.{◌≢◌, ◌≡◌, ◌⊎◌, Bool, ⊎_elim, inl, inr, ℕ, ◌+◌, ◌<◌, ◌≤◌, ltb, leb, ◌&&◌, cond, true, false, List, [], ◌∷◌, ◌++◌, length, drop, Option, Some, None, eq-eqb, ne_eqb, sym, refl, ap, ◌∙◌, subst, arith}
use Rattle.std.proofs.lemmas.Bool.{cond_both, ltb-true, ltb-false, leb-true, leb-false}
use mathlib.Core.Logic.{dite}
use native.Mathlib.Decide.{ℕ_discrete}
use Rattle.crq_base.specs.declared.event.Event.{Event}
use Rattle.crq_base.specs.declared.kinds.StepKind.TheVariants.{Walk as WalkKind, Read}
use Rattle.crq_base.specs.declared.words.Link.{Link}
use Rattle.crq_base.specs.declared.words.Mark.TheVariants.{Val, Mov, Del}
use Rattle.crq_base.specs.declared.words.Control.{Control}
use Rattle.crq_base.specs.declared.words.Current.{Current}
use Rattle.crq_base.specs.Words.{IsLink, IsControl, link_word}
use Rattle.crq_rule.specs.Core.{names_of, renamed}
use Rattle.crq_rule.specs.declared.layout.Layout.{Layout}
use Rattle.crq_rule.specs.declared.pass.Pass.{Pass}
use Rattle.crq_rule.specs.declared.pass.Table.{Table}
use Rattle.crq_rule.specs.declared.view.Help.{Help}
use Rattle.crq_rule.specs.declared.view.Made.{Made}
use Rattle.crq_rule.specs.declared.view.Position.{Position}
use Rattle.crq_rule.specs.declared.view.Stand.{Stand}
use Rattle.crq_rule.specs.declared.view.Sight.{Sight}
use Rattle.crq_rule.specs.declared.view.Walk.{Walk}
use Rattle.crq_rule.specs.declared.view.Caller.{Caller}
use Rattle.crq_rule.specs.Places.{index, current, link as link_place, IsHead}
use Rattle.crq_rule.specs.Parts.{IsEvent}
use Rattle.crq_rule.specs.Kinds.{makes}
use Rattle.crq_rule.specs.Ranks.{rank, bucket, shape_of, first_head_of, head_for, head_of, Cell, at_head, at_row, cell_place}
use Rattle.crq_rule.specs.ListKinds.{is_cell, StandsOn, MaySeek, EndedWalk, FoundFirst, is_take, is_passed, is_val, stands_after, begins_walk, new_walk, bucket_seen, least_after, walked, walk_after, walks, best_of, swept_head, taken_on, sweep_on, clean_on, row_place, event_word, relieved_names}
use Rattle.crq_rule.specs.Helping.{helped_by}
use Rattle.crq_rule.specs.Moves.{Lawful, IsHeadOf}
use Rattle.crq_rows.specs.Passes.{caller, load_made, IsPassOf, Stepped}
use Rattle.crq_rows.specs.Reading.{stays}
use Rattle.crq_rows.proofs.Knowing.{known_here, known_else}
use Rattle.crq_list.specs.declared.parts.Place.{Place}
use Rattle.crq_list.specs.declared.parts.Place.TheVariants.{Bucket, Search}
use Rattle.crq_list.specs.declared.parts.Progress.{Progress}
use Rattle.crq_list.specs.declared.parts.Progress.TheVariants.{More, Done}
use Rattle.crq_list.specs.declared.take.MarkEnd.{MarkEnd}
use Rattle.crq_list.specs.declared.take.MarkEnd.TheVariants.{Beyond, Nothing, Frozen}
use Rattle.crq_list.specs.declared.take.Candidate.{Candidate}
use Rattle.crq_list.specs.declared.take.TakeOp.{TakeOp}
use Rattle.crq_list.specs.declared.take.TakeState.{TakeState}
use Rattle.crq_list.specs.declared.take.TakeState.TheVariants.{Load, Walking, Reading, Marking}
use Rattle.crq_list.specs.Spots.{take_aim, rank_at, StandsIn, SweptPast}
use Rattle.crq_list.specs.Sweeps.{SweepsTo}
use Rattle.crq_list.specs.Cutting.{head_link}
use Rattle.crq_list.specs.Swaps.{Saw}
use Rattle.crq_list.specs.Taking.{bucket_in, row_of, lesser_of, take_at, goes_past, row_read, IsPresent, IsBest, KeepsBest, IsWalkAt, IsAtHead, IsRead, NamesFirst, IsFirstIn, SeesPlace, IsTaking, taking_exchanges, take_kind, list_left, TakeStepped}
use Rattle.crq_list.proofs.Heads.{best_at_row, lesser_holds}
use Rattle.crq_list.proofs.SweepLaws.{sweep_begins, sweep_stays, sweep_passes, past_on}
use Rattle.crq_list.proofs.SeekLaws.{rank_limit, rank_at_is, walk_next, walk_next_in, walk_here, walk_here_in, walk_least, link_apart, event_apart, cell_elsewhere, word_elsewhere}
use Rattle.crq_list.proofs.SeekSteps.{one_event, now_list}
use Rattle.crq_list.proofs.TakeLoads.{moved, no_names, Loads, in_place, frozen, stays_on, nothing, beyond, goes_next, goes_on_past}

-- Words

-- the words of a row's event are other words than links
pub read_apart : (l : Layout) (r place s : ℕ) → 0 < r → 2 ≤ place → index l (row_place r place) ≢ index l (link_place s)
read_apart l r place s some low = event_apart l r place (at_row s) some low tt

-- the link of a row is another word than a head
pub row_apart : (l : Layout) (q r : ℕ) → 0 < r → IsHead q → index l (link_place r) ≢ index l (cell_place (at_head q))
row_apart l q r some head = link_apart l r (at_head q) some head (λ s e. absurd (cc))

-- and than that of another row
pub rows_apart : (l : Layout) (r s : ℕ) → 0 < r → s ≢ r → index l (link_place s) ≢ index l (link_place r)
rows_apart l r s some ne e = link_apart l r (at_row s) some tt (λ t is. λ same. ne (one_row s t is ∙ same)) (sym e)
  where
    one_row : (s t : ℕ) → at_row s ≡ at_row t → s ≡ t
    one_row s t e = cc

-- The row that the head names

-- a step on another word leaves what is known of it
pub names_on : (l : Layout) (generation q f n : ℕ) (made : List Made) (m : Made) → n ≤ length made → m.word ≢ index l (cell_place (at_head q)) → NamesFirst l generation q f (drop n made) → NamesFirst l generation q f (drop n (made ++ m ∷ []))
names_on l generation q f n made m counted other s = record {
  bits = s.bits;
  known = known_else n made m (index l (cell_place (at_head q))) counted other ∙ s.known;
  swept = sweep_stays n made (made ++ m ∷ []) m refl counted l (at_head q) (at_row f) s.swept;
}

-- the load of the head makes it known
names_first : (l : Layout) (generation q n : ℕ) (made : List Made) (found : Link) → n ≤ length made → IsLink found → found.mark ≡ Val → found.generation ≡ generation
    → NamesFirst l generation q found.row (drop n (made ++ load_made WalkKind (index l (cell_place (at_head q))) (link_word found) ∷ []))
names_first l generation q n made found counted bits val same = let m = load_made WalkKind (index l (cell_place (at_head q))) (link_word found) in let is : found ≡ head_link generation found.row = λ i. record { generation = same i; row = found.row; mark = val i } in record {
  bits = subst IsLink is bits;
  known = known_here n made m (index l (cell_place (at_head q))) counted refl ∙ ap (λ z. Some (link_word z)) is;
  swept = sweep_passes n made (made ++ m ∷ []) m refl counted l (at_head q) (at_head q) found (record { load = refl; bits = bits; present = ap is_cell val }) (sweep_begins l (at_head q) (drop n made));
}

-- Walks

pub takes : (place : Place) → is_take (take_aim place) ≡ true
takes (Bucket b) = refl
takes Search = refl

-- a caller that owes no dead row has no name
unnamed_all : (p : Caller) → Lawful p → p.debts.cut ≡ None → names_of p.debts ≡ no_names
unnamed_all p law free = λ i. record { first = free i; second = law.ordered free i }

-- a walk of a take of a caller that owes no dead row moves it
saw_loads : (table : Table) (old new : Pass) (cell : Cell) (place : Place) (l : Link) (saw : Saw table old new cell (take_aim place) l) (w : Option Walk) → Lawful (caller table old) → (caller table old).debts.cut ≡ None
    → walk_after cell (take_aim place) (caller table old).sight l (caller table old).walk (caller table old).position.rows ≡ w
    → Loads table old new (load_made WalkKind (index table.start.layout (cell_place cell)) (link_word l))
    (record { rows = stands_after cell (take_aim place) w l saw.event (caller table old).position.rows; old = (caller table old).position.old }) w (helped_by (caller table old).found.control (caller table old).number cell l (caller table old).help)
saw_loads table old new cell place l saw w law free walks = let p = caller table old in let aim = take_aim place in let ss = p.position.rows in
    let none : taken_on aim p.found.control cell ss p.sweep ≡ None = ap (λ b. cond b None (swept_head p.found.control cell ss p.sweep)) (takes place) in record {
      is = saw.is;
      same = saw.same;
      load = refl;
      elsewhere = cell_elsewhere table.start.layout cell;
      part = saw.part ∙ (λ i. makes (load_made WalkKind (index table.start.layout (cell_place cell)) (link_word l)) (record p {
        position = record { rows = stands_after cell aim (walks i) l saw.event ss; old = p.position.old };
        walk = walks i;
        sweep = sweep_on (none i) l saw.event p.sweep;
        clean = clean_on (none i) l p.clean;
        debts = renamed p.debts (ap (relieved_names p.found.control cell ss l saw.event) (unnamed_all p law free) i);
        help = helped_by p.found.control p.number cell l p.help;
      }));
    }

-- what a new walk of a take is, which begins at its head
pub record Begun (op : TakeOp) (place : Place) (l : Link) (w : Option Walk) : Type 0 where
  pub walk : Walk
  pub is : w ≡ Some walk
  pub head : walk.head ≡ op.head
  pub bucket : walk.bucket ≡ bucket_in place
  pub least : walk.least ≡ row_of op.best
  pub at : walk.at ≡ l.row

module _ (op : TakeOp) (l : Link) (y : Current) (ss : List Stand) where
  abbrev seen : Sight
  seen = record { table = op.found; current = y }

  begun_in : (b : ℕ) (w : Option Walk) → b ≡ bucket (shape_of op.found) y.tick → op.best ≡ None → Begun op (Bucket b) l (new_walk (take_aim (Bucket b)) op.head seen l w ss)
  begun_in b w of none = record { walk = record { head = op.head; at = l.row; bucket = Some (bucket_seen seen); least = None }; is = refl; head = refl; bucket = ap Some (sym of); least = sym (ap row_of none); at = refl }

  least_first : (w : Option Walk) → op.head ≡ first_head_of op.found.generation → least_after op.found op.head w ss ≡ None
  least_first None at = refl
  least_first (Some w) at = ap (λ b. cond b None (best_of w ss)) (eq-eqb op.head (first_head_of op.found.generation) at)

  least_next : (w : Option Walk) (before : Walk) → w ≡ Some before → first_head_of op.found.generation < op.head → least_after op.found op.head w ss ≡ best_of before ss
  least_next w before is later = ap (λ o. least_after op.found op.head o ss) is ∙ ap (λ b. cond b None (best_of before ss)) (ne_eqb op.head (first_head_of op.found.generation) (omega arith))

  begun_search : (w : Option Walk) → least_after op.found op.head w ss ≡ row_of op.best → Begun op Search l (new_walk (take_aim Search) op.head seen l w ss)
  begun_search w least = record { walk = record { head = op.head; at = l.row; bucket = None; least = least_after op.found op.head w ss }; is = refl; head = refl; bucket = refl; least = least; at = refl }

  begun_at : (place : Place) (p : Caller) → p.position.rows ≡ ss → p.sight ≡ Some seen → SeesPlace op.found place p → ((b : ℕ) → place ≡ Bucket b → b ≡ bucket (shape_of op.found) y.tick) → IsAtHead op.found place op.head op.best p → Begun op place l (new_walk (take_aim place) op.head seen l p.walk ss)
  begun_at (Bucket b) p rows sight sees of at = begun_in b p.walk (of b refl) at.1
  begun_at Search p rows sight sees of at = begun_search p.walk (⊎_elim (λ f. least_first p.walk f.0 ∙ sym (ap row_of f.1)) (λ g. least_next p.walk g.1.walk g.1.walks g.0 ∙ (ap (best_of g.1.walk) (sym rows) ∙ g.1.least)) at)

of_bucket : (x : Control) (place : Place) (p : Caller) (sees : SeesPlace x place p) (b : ℕ) → place ≡ Bucket b → b ≡ bucket (shape_of x) sees.0.tick
of_bucket x (Bucket c) p sees b is = sym (same c b is) ∙ sees.2
  where
    same : (c b : ℕ) → Bucket c ≡ Bucket b → c ≡ b
    same c b is = cc
of_bucket x Search p sees b is = absurd (cc)

-- Load: the walk may begin, and at a present head of the table it does
pub head_seeks : (n : ℕ) (table : Table) (op : TakeOp) (p : Caller) (place : Place) → IsTaking n table op.found (take_at (in_place op place) Load) p → MaySeek p.sight p.walk (at_head op.head) (take_aim place)
head_seeks n table op p (Bucket b) t = (record { table = op.found; current = t.sees.0 }, t.sees.1, t.at.1.0 ∙ ap (head_for op.found.generation (shape_of op.found)) t.sees.2)
head_seeks n table op p Search t = (record { table = op.found; current = t.sees.0 }, t.sees.1, ⊎_elim (λ f. inl f.0) (λ g. inr (g.1.walk, g.1.walks, g.1.bucket, g.1.next, t.opened)) t.at.1)

head_begun : (n : ℕ) (table : Table) (op : TakeOp) (p : Caller) (place : Place) (l : Link) → IsTaking n table op.found (take_at (in_place op place) Load) p → l.mark ≡ Val → l.generation ≡ op.found.generation
    → Begun op place l (walk_after (at_head op.head) (take_aim place) p.sight l p.walk p.position.rows)
head_begun n table op p place l t val same = let y = t.sees.0 in let s : Sight = record { table = op.found; current = y } in
    let begins : begins_walk s l ≡ true = λ i. is_val (val i) && eq-eqb l.generation op.found.generation same i in
    let is : walk_after (at_head op.head) (take_aim place) p.sight l p.walk p.position.rows ≡ new_walk (take_aim place) op.head s l p.walk p.position.rows =
    ap (λ o. walk_after (at_head op.head) (take_aim place) o l p.walk p.position.rows) t.sees.1 ∙ ap (λ b. cond b (new_walk (take_aim place) op.head s l p.walk p.position.rows) None) begins in
    subst (Begun op place l) (sym is) (begun_at op l y p.position.rows place p refl t.sees.1 t.sees (of_bucket op.found place p t.sees) t.at.1)

-- Walking: the walk may go on from its row
pub row_seeks : (x : Control) (op : TakeOp) (r : ℕ) (p : Caller) (place : Place) → IsWalkAt x place op.head op.best r p → MaySeek p.sight p.walk (at_row r) (take_aim place)
row_seeks x op r p (Bucket b) w = (w.walk, w.walks, w.at)
row_seeks x op r p Search w = (w.walk, w.walks, w.at)

row_walked : (p : Caller) (place : Place) (r : ℕ) (l : Link) (w : Walk) → p.walk ≡ Some w → walk_after (at_row r) (take_aim place) p.sight l p.walk p.position.rows ≡ Some (cond (is_passed l.mark) (record w { at = l.row }) w)
row_walked p place r l w is = ap (λ b. cond b (walked l p.walk) None) (takes place) ∙ ap (walked l) is

-- The least row is kept

-- after a walk that knows it
best_on : (n : ℕ) (table : Table) (x : Control) (head : ℕ) (best : Option Candidate) (p : Caller) (cell : Cell) (place : Place) (y : Walk) (l : Link) (e : Event) (a : Position) (m : Made) → n ≤ length p.made → y.least ≡ row_of best
    → a.rows ≡ stands_after cell (take_aim place) (Some y) l e p.position.rows → ((c : Candidate) → best ≡ Some c → IsPresent n table c.row c.link c.event p → head_of x c.event < head → m.word ≢ index table.start.layout (link_place c.row))
    → {w : Option Walk} {o : Option Help} → ((c : Candidate) → best ≡ Some c → IsBest n table x head c p) → (c : Candidate) → best ≡ Some c → IsBest n table x head c (makes m (moved a w o no_names p))
best_on n table x head best p cell place y l e a m counted least rows apart keeps c is = let k = keeps c is in record {
  present = record {
    some_row = k.present.some_row;
    bits = k.present.bits;
    present = k.present.present;
    known = known_else n p.made m (index table.start.layout (link_place c.row)) counted (apart c is k.present k.earlier) ∙ k.present.known;
    on = subst (λ ss. StandsOn ss c.row c.event) (sym rows) (walk_least cell (take_aim place) y (c.row, c.event) l e p.position.rows c.event (least ∙ ap row_of is) k.present.on);
  };
  earlier = k.earlier;
}

-- a row of a list before is another row
other_row : (x : Control) (p : Caller) → Lawful p → (r : ℕ) (e : Event) (c : Candidate) (head : ℕ) → StandsOn p.position.rows r e → head_of x e ≡ head → StandsOn p.position.rows c.row c.event → head_of x c.event < head → r ≢ c.row
other_row x p law r e c head on belongs least earlier same = let is = one_event p law c.row e c.event (subst (λ z. StandsOn p.position.rows z e) same on) least in let q = ap (head_of x) is in omega arith

-- Ranks

-- how far a row is on which the caller stands
pub far_is : (p : Caller) → Lawful p → (r : ℕ) (e : Event) → StandsOn p.position.rows r e → rank_at p.position.rows r ≡ rank e r
far_is p law r e on = rank_at_is p.position.rows r e (λ g k. one_event p law r g e k on) on

-- A head or row is frozen

module _ (n : ℕ) (table : Table) (op : TakeOp) (old new : Pass) (cell : Cell) (place : Place) (s : TakeState) (l : Link) (law : Lawful (caller table old)) (saw : Saw table old new cell (take_aim place) l)
    (no : taking_exchanges s ≡ false) (kind : WalkKind ≡ take_kind s) (t : IsTaking n table op.found (take_at (in_place op place) s) (caller table old)) where
  frozen_stepped : (op' : TakeOp) → (l.mark ≡ Mov) ⊎ ((cell ≡ at_head op.head) × (l.generation ≢ op.found.generation)) → (caller table old).start.moves ≡ true → TakeStepped n table op.found (take_at (in_place op place) s) op' old new (Done Frozen)
  frozen_stepped op' is moves = let p = caller table old in let m = load_made WalkKind (index table.start.layout (cell_place cell)) (link_word l) in let w = walk_after cell (take_aim place) p.sight l p.walk p.position.rows in
      frozen n table (in_place op place) s old new m _ w _ (saw_loads table old new cell place l saw w law t.free refl) no kind t op'
      (record { before = p.made; step = m; made = refl; kind = refl; link = l; bits = saw.is_link; found = refl; frozen = ⊎_elim inl (λ other. inr (ap (λ c. index table.start.layout (cell_place c)) other.0, other.1)) is; moves = moves })

-- the head isn't present, or is of a later table
pub head_frozen : (n : ℕ) (table : Table) (op op' : TakeOp) (old new : Pass) (l : Link) (place : Place) → Lawful (caller table old) → Saw table old new (at_head op.head) (take_aim place) l → (l.generation ≡ op.found.generation → l.mark ≢ Val)
    → IsTaking n table op.found (take_at (in_place op place) Load) (caller table old) → TakeStepped n table op.found (take_at (in_place op place) Load) op' old new (Done Frozen)
head_frozen n table op op' old new l place law saw not t = dite (ℕ_discrete l.generation op.found.generation)
    (λ same. let mov = ⊎_elim (λ val. absurd (not same val)) (λ is. is) saw.marked.0 in frozen_stepped n table op old new (at_head op.head) place Load l law saw refl refl t op' (inl mov) (of.frozen mov))
    (λ other. frozen_stepped n table op old new (at_head op.head) place Load l law saw refl refl t op' (inr (refl, other)) (moves_so (caller table old).start.moves refl other))
  where
    of : IsHeadOf op.found l (caller table old)
    of = saw.marked.1 op.found t.control t.opened

    moves_so : (b : Bool) → (caller table old).start.moves ≡ b → l.generation ≢ op.found.generation → (caller table old).start.moves ≡ true
    moves_so true is other = is
    moves_so false is other = absurd (other (of.still is))

-- the row is frozen
pub row_frozen : (n : ℕ) (table : Table) (op op' : TakeOp) (old new : Pass) (l : Link) (r first : ℕ) (place : Place) → Lawful (caller table old) → Saw table old new (at_row r) (take_aim place) l → l.mark ≡ Mov
    → IsTaking n table op.found (take_at (in_place op place) (Walking r first)) (caller table old) → TakeStepped n table op.found (take_at (in_place op place) (Walking r first)) op' old new (Done Frozen)
row_frozen n table op op' old new l r first place law saw mov t = frozen_stepped n table op old new (at_row r) place (Walking r first) l law saw refl refl t op'
    (inl mov) (⊎_elim (λ known. absurd (⊎_elim (val_mov l mov) (del_mov l mov) known)) (λ moves. moves) saw.marked.0)
  where
    val_mov : (l : Link) → l.mark ≡ Mov → l.mark ≡ Val → ⊥
    val_mov l a b = cc

    del_mov : (l : Link) → l.mark ≡ Mov → l.mark ≡ Del → ⊥
    del_mov l a b = cc

-- Load: the head is present

module _ (n : ℕ) (table : Table) (op : TakeOp) (old new : Pass) (l : Link) (place : Place) (control : IsControl op.found) (law : Lawful (caller table old)) (saw : Saw table old new (at_head op.head) (take_aim place) l) (val : l.mark ≡ Val)
    (same_table : l.generation ≡ op.found.generation) (t : IsTaking n table op.found (take_at (in_place op place) Load) (caller table old)) where
  abbrev head_made : Made
  head_made = load_made WalkKind (index table.start.layout (cell_place (at_head op.head))) (link_word l)

  first_in : (place : Place) (a : Position) (w : Option Walk) (o : Option Help) → IsFirstIn place n table.start.layout (take_at (in_place op place) (Walking l.row l.row)) (Walking l.row l.row) (makes head_made (moved a w o no_names (caller table old)))
  first_in (Bucket b) a w o = names_first table.start.layout op.found.generation op.head n (caller table old).made l t.counted saw.is_link val same_table
  first_in Search a w o = tt

  pub head_stepped : TakeStepped n table op.found (take_at (in_place op place) Load) (goes_past (in_place op place) l l.row).0 old new (goes_past (in_place op place) l l.row).1
  head_stepped = let p = caller table old in let y = head_begun n table op p place l t val same_table in let h = saw_loads table old new (at_head op.head) place l saw (Some y.walk) law t.free y.is in
      goes_on_past n table op Load old new head_made _ (Some y.walk) _ h refl refl control (omega arith) y.walk refl y.head y.least place t y.bucket l l.row y.at
      (best_on n table op.found op.head op.best p (at_head op.head) place y.walk l saw.event _ head_made t.counted y.least refl (λ c is k low e. row_apart table.start.layout op.head c.row k.some_row t.is_head (sym e)) t.at.0)
      (λ some. let e = saw.event in (
        e,
        subst (λ g. StandsIn (stands_after (at_head op.head) (take_aim place) (Some y.walk) l e p.position.rows) l.row e g) same_table (walk_next_in (at_head op.head) (take_aim place) (Some y.walk) l e p.position.rows some),
        sym (now_list op.found l.generation e same_table) ∙ saw.next op.found t.control (inl same_table) some,
      ))
      (first_in place _ _ _)
      (λ some. omega arith)

-- Walking

module _ (n : ℕ) (table : Table) (op : TakeOp) (old new : Pass) (l : Link) (r first : ℕ) (place : Place) (control : IsControl op.found) (law : Lawful (caller table old)) (saw : Saw table old new (at_row r) (take_aim place) l)
    (t : IsTaking n table op.found (take_at (in_place op place) (Walking r first)) (caller table old)) where
  abbrev row_made : Made
  row_made = load_made WalkKind (index table.start.layout (link_place r)) (link_word l)

  abbrev was : Caller
  was = caller table old

  abbrev at_now : IsWalkAt op.found place op.head op.best r was
  at_now = t.at.1

  -- the row's link is of the table too
  row_table : l.generation ≡ op.found.generation
  row_table = saw.marked.1 at_now.on.0 at_now.on.1 at_now.on.2 ∙ at_now.on.4

  stood : StandsOn was.position.rows r at_now.event
  stood = (at_now.on.0, at_now.on.1, at_now.on.2, at_now.on.3)

  abbrev row_help : Option Help
  row_help = helped_by was.found.control was.number (at_row r) l was.help

  row_loads : (y : Walk) → Some (cond (is_passed l.mark) (record at_now.walk { at = l.row }) at_now.walk) ≡ Some y
      → Loads table old new row_made (record { rows = stands_after (at_row r) (take_aim place) (Some y) l saw.event was.position.rows; old = was.position.old }) (Some y) row_help
  row_loads y is = saw_loads table old new (at_row r) place l saw (Some y) law t.free (row_walked was place r l at_now.walk at_now.walks ∙ is)

  -- the least row is another one
  best_row : (y : Walk) → y.least ≡ row_of op.best → {w : Option Walk} {o : Option Help} → KeepsBest n table op.found op (makes row_made (moved (record { rows = stands_after (at_row r) (take_aim place) (Some y) l saw.event was.position.rows; old = was.position.old }) w o no_names was))
  best_row y least = best_on n table op.found op.head op.best was (at_row r) place y l saw.event _ row_made t.counted least refl
      (λ c is k low. rows_apart table.start.layout c.row r k.some_row (other_row op.found was law r at_now.event c op.head stood at_now.belongs k.on low)) t.at.0

  -- what the caller is after the step is lawful
  now_lawful : (y : Walk) → Some (cond (is_passed l.mark) (record at_now.walk { at = l.row }) at_now.walk) ≡ Some y
      → Lawful (makes row_made (moved (record { rows = stands_after (at_row r) (take_aim place) (Some y) l saw.event was.position.rows; old = was.position.old }) (Some y) row_help no_names was))
  now_lawful y is = let h = row_loads y is in subst Lawful h.part h.is.lawful

  names_stay : (place : Place) → IsFirstIn place n table.start.layout (take_at (in_place op place) (Walking r first)) (Walking r first) was → (q : Caller) → q.made ≡ was.made ++ row_made ∷ []
      → IsFirstIn place n table.start.layout (take_at (in_place op place) (Walking l.row first)) (Walking l.row first) q
  names_stay (Bucket b) known q made = subst (λ ms. NamesFirst table.start.layout op.found.generation op.head first (drop n ms)) (sym made)
      (names_on table.start.layout op.found.generation op.head first n was.made row_made t.counted (row_apart table.start.layout op.head r at_now.some_row t.is_head) known)
  names_stay Search known q made = tt

  -- the row is dead
  pub dead_stepped : is_passed l.mark ≡ true → TakeStepped n table op.found (take_at (in_place op place) (Walking r first)) (goes_past (in_place op place) l first).0 old new (goes_past (in_place op place) l first).1
  dead_stepped dead = let y : Walk = record at_now.walk { at = l.row } in let is = ap (λ b. Some (cond b y at_now.walk)) dead in let h = row_loads y is in let e = saw.event in let law' = now_lawful y is in
      goes_on_past n table op (Walking r first) old new row_made _ (Some y) _ h refl refl control (omega arith) y refl at_now.head_is at_now.least place t at_now.bucket l first refl
      (best_row y at_now.least)
      (λ some. (
        e,
        subst (λ g. StandsIn (stands_after (at_row r) (take_aim place) (Some y) l e was.position.rows) l.row e g) row_table (walk_next_in (at_row r) (take_aim place) (Some y) l e was.position.rows some),
        sym (now_list op.found l.generation e row_table) ∙ ((saw.next at_now.event stood some).1 op.found t.control (inl row_table) ∙ (now_list op.found l.generation at_now.event row_table ∙ at_now.belongs)),
      ))
      (names_stay place t.first _ refl)
      (λ some. let up = (saw.next at_now.event stood some).0 in let low = rank_limit e l.row (saw.row some).1 saw.is_link.row in
      let far = far_is was law r at_now.event stood in let near = far_is _ law' l.row e (walk_next (at_row r) (take_aim place) (Some y) l e was.position.rows some) in omega arith)

  -- a sweep that came to a row that was found present goes on past it
  past_row : (y : Walk) → Some (cond (is_passed l.mark) (record at_now.walk { at = l.row }) at_now.walk) ≡ Some y → l.mark ≡ Val → SweepsTo table.start.layout (at_head op.head) (drop n was.made) (at_row r) → (f : Event)
      → StandsOn (stands_after (at_row r) (take_aim place) (Some y) l saw.event was.position.rows) r f
      → SweptPast n table.start.layout op.head f r (makes row_made (moved (record { rows = stands_after (at_row r) (take_aim place) (Some y) l saw.event was.position.rows; old = was.position.old }) (Some y) row_help no_names was))
  past_row y is val swept f on = let e = saw.event in let law' = now_lawful y is in record {
    next = l.row;
    sweeps = sweep_passes n was.made (was.made ++ row_made ∷ []) row_made refl t.counted table.start.layout (at_head op.head) (at_row r) l (record { load = refl; bits = saw.is_link; present = ap is_cell val }) swept;
    ends = dite (ℕ_discrete l.row 0) inl (λ ne. let some : 0 < l.row = omega arith in inr (
      e,
      walk_next (at_row r) (take_aim place) (Some y) l e was.position.rows some,
      subst (λ z. rank z r < rank e l.row) (one_event _ law' r at_now.event f (walk_here r (take_aim place) (Some y) l e was.position.rows at_now.event stood) on) (saw.next at_now.event stood some).0,
    ));
  }

  swept_row : (place' : Place) → IsFirstIn place' n table.start.layout (take_at (in_place op place') (Walking r first)) (Walking r first) was → (unread : Event) (y : Walk) → Some (cond (is_passed l.mark) (record at_now.walk { at = l.row }) at_now.walk) ≡ Some y → l.mark ≡ Val
      → IsFirstIn place' n table.start.layout (take_at (in_place op place') (Reading r l 2 unread first)) (Reading r l 2 unread first)
      (makes row_made (moved (record { rows = stands_after (at_row r) (take_aim place) (Some y) l saw.event was.position.rows; old = was.position.old }) (Some y) row_help no_names was))
  swept_row (Bucket b) known unread y is val = (
    names_on table.start.layout op.found.generation op.head first n was.made row_made t.counted (row_apart table.start.layout op.head r at_now.some_row t.is_head) known,
    λ at f on. past_row y is val (subst (λ z. SweepsTo table.start.layout (at_head op.head) (drop n was.made) (at_row z)) at known.swept) f on,
  )
  swept_row Search known unread y is val = tt

  -- or present
  pub present_stepped : (unread : Event) → l.mark ≡ Val → TakeStepped n table op.found (take_at (in_place op place) (Walking r first)) (take_at (in_place op place) (Reading r l 2 unread first)) old new More
  present_stepped unread val = let y = at_now.walk in let is = ap (λ k. Some (cond (is_passed k) (record y { at = l.row }) y)) val in let h = row_loads y is in let e = saw.event in let law' = now_lawful y is in
      let on = walk_here_in r (take_aim place) (Some y) l e was.position.rows at_now.event op.found.generation at_now.on in
      stays_on n table (in_place op place) (Walking r first) old new row_made _ (Some y) _ h refl refl t (Reading r l 2 unread first) (swept_row place t.first unread y is val) (
        best_row y at_now.least,
        (
          record { walk = y; walks = refl; head_is = at_now.head_is; bucket = at_now.bucket; least = at_now.least; at = at_now.at; some_row = at_now.some_row; event = at_now.event; on = on; belongs = at_now.belongs },
          record { some_row = at_now.some_row; bits = saw.is_link; present = val; known = known_here n was.made row_made (index table.start.layout (link_place r)) t.counted refl; on = (on.0, on.1, on.2, on.3) },
          (λ b. absurd (omega arith), λ b. absurd (omega arith), λ b. absurd (omega arith)),
        ),
        omega arith,
        omega arith,
      ) (let far = far_is was law r at_now.event stood in let near = far_is _ law' r at_now.event ((on.0, on.1, on.2, on.3)) in omega arith)

-- Reading: one word more

read_loads : (table : Table) (old new : Pass) (w found : ℕ) → w ≢ index table.start.layout current → Lawful (caller table old) → (caller table old).debts.cut ≡ None → Stepped table old new (load_made Read w found) stays → Loads table old new (load_made Read w found) (caller table old).position (caller table old).walk (caller table old).help
read_loads table old new w found elsewhere law free h = let p = caller table old in record {
  is = h.is;
  same = h.same;
  load = refl;
  elsewhere = elsewhere;
  part = h.part ∙ ap (λ names. makes (load_made Read w found) (moved p.position p.walk p.help names p)) (unnamed_all p law free);
}

-- what is to be said of the word that was read
abbrev pub HasGot : Event → ℕ → ℕ → Event → Type 0
HasGot read place found got = (e : Event) → IsEvent e → found ≡ event_word e place → IsRead place read e → IsRead (place + 1) got e × (place ≡ 5 → got ≡ e)

-- each event that the caller knows of the row is one, and the row has its bits
pub is_event : (table : Table) (pass : Pass) (r : ℕ) (e : Event) → IsPassOf table pass → StandsOn (caller table pass).position.rows r e → IsEvent e × (r < 16777216)
is_event table pass r e of on = let s = of.lawful.stands on.0 on.1 in let row = s.0.1 in let all = (caller table pass).start.layout.all_fit in let is = on.2 in (subst IsEvent on.3 s.1, omega arith)

module _ (n : ℕ) (table : Table) (op : TakeOp) (r : ℕ) (l : Link) (number : ℕ) (read : Event) (first : ℕ) (place : Place) (old new : Pass) (found : ℕ) (got : Event) (of : IsPassOf table old)
    (h : Stepped table old new (load_made Read (index table.start.layout (row_place r number)) found) stays) (word : (e : Event) → StandsOn (caller table old).position.rows r e → found ≡ event_word e number) (gets : HasGot read number found got)
    (t : IsTaking n table op.found (take_at (in_place op place) (Reading r l number read first)) (caller table old)) where
  abbrev word_made : Made
  word_made = load_made Read (index table.start.layout (row_place r number)) found

  abbrev reader : Caller
  reader = caller table old

  abbrev read_at : IsWalkAt op.found place op.head op.best r reader
  read_at = t.at.1.0

  abbrev read_on : StandsOn reader.position.rows r read_at.event
  read_on = (read_at.on.0, read_at.on.1, read_at.on.2, read_at.on.3)

  now_read : IsRead (number + 1) got read_at.event × (number ≡ 5 → got ≡ read_at.event)
  now_read = gets read_at.event (is_event table old r read_at.event of read_on).0 (word read_at.event read_on) t.at.1.2

  word_loads : Loads table old new word_made reader.position reader.walk reader.help
  word_loads = read_loads table old new _ found (word_elsewhere table.start.layout r number) of.lawful t.free h

  abbrev reader_now : Caller
  reader_now = makes word_made (moved reader.position reader.walk reader.help no_names reader)

  -- what was known of a row that was found present stays known
  still : (s : ℕ) (k : Link) (e : Event) → IsPresent n table s k e reader → IsPresent n table s k e reader_now
  still s k e p = record { some_row = p.some_row; bits = p.bits; present = p.present; known = known_else n reader.made word_made (index table.start.layout (link_place s)) t.counted (read_apart table.start.layout r number s read_at.some_row t.at.2) ∙ p.known; on = p.on }

  best_still : KeepsBest n table op.found op reader_now
  best_still c is = let k = t.at.0 c is in record { present = still c.row c.link c.event k.present; earlier = k.earlier }

  head_still : NamesFirst table.start.layout op.found.generation op.head first (drop n reader.made) → NamesFirst table.start.layout op.found.generation op.head first (drop n reader_now.made)
  head_still known = names_on table.start.layout op.found.generation op.head first n reader.made word_made t.counted (event_apart table.start.layout r number (at_head op.head) read_at.some_row t.at.2 t.is_head) known

  past_still : (e : Event) → SweptPast n table.start.layout op.head e r reader → SweptPast n table.start.layout op.head e r reader_now
  past_still e s = past_on n table.start.layout op.head e r reader reader_now word_made refl t.counted (λ t f less on. on) s

  -- there are more words to read
  first_still : (place : Place) → IsFirstIn place n table.start.layout (take_at (in_place op place) (Reading r l number read first)) (Reading r l number read first) reader
      → IsFirstIn place n table.start.layout (take_at (in_place op place) (Reading r l (number + 1) got first)) (Reading r l (number + 1) got first) reader_now
  first_still (Bucket b) known = (head_still known.0, λ is e on. past_still e (known.1 is e on))
  first_still Search known = tt

  pub read_stepped : number < 5 → TakeStepped n table op.found (take_at (in_place op place) (Reading r l number read first)) (take_at (in_place op place) (Reading r l (number + 1) got first)) old new More
  read_stepped five = stays_on n table (in_place op place) (Reading r l number read first) old new word_made reader.position reader.walk reader.help word_loads refl refl t (Reading r l (number + 1) got first) (first_still place t.first) (
    best_still,
    (
      record { walk = read_at.walk; walks = read_at.walks; head_is = read_at.head_is; bucket = read_at.bucket; least = read_at.least; at = read_at.at; some_row = read_at.some_row; event = read_at.event; on = read_at.on; belongs = read_at.belongs },
      still r l read_at.event t.at.1.1,
      now_read.0,
    ),
    (let two = t.at.2 in omega arith),
    omega arith,
  ) (let two = t.at.2 in omega arith)

  -- the event is read, and it is the row's
  whole : 5 ≤ number → got ≡ read_at.event
  whole five = now_read.1 (let six = t.at.3 in omega arith)

  whole_on : 5 ≤ number → IsPresent n table r l got reader_now
  whole_on five = subst (λ z. IsPresent n table r l z reader_now) (sym (whole five)) (still r l read_at.event t.at.1.1)

  whole_belongs : 5 ≤ number → head_of op.found got ≡ op.head
  whole_belongs five = ap (head_of op.found) (whole five) ∙ read_at.belongs

  left_some : 0 < list_left (Reading r l number read first) reader
  left_some = let six = t.at.3 in omega arith

  -- in a bucket
  bucket_read : (b : ℕ) → IsTaking n table op.found (take_at (in_place op (Bucket b)) (Reading r l number read first)) reader → 5 ≤ number
      → TakeStepped n table op.found (take_at (in_place op (Bucket b)) (Reading r l number read first)) (row_read (Bucket b) (in_place op (Bucket b)) r l got first).0 old new (row_read (Bucket b) (in_place op (Bucket b)) r l got first).1
  bucket_read b u five = let o = in_place op (Bucket b) in let s = Reading r l number read first in let p = whole_on five in let w = u.at.1.0 in
      let at : StandsOn reader.position.rows w.walk.at got = subst (λ z. StandsOn reader.position.rows z got) (sym w.at) p.on in
      let sh = shape_of op.found in
      cond_both (ltb b (bucket sh got.time)) (take_at o Load, Done Nothing) (cond (leb op.limit got.time) (take_at o Load, Done (Beyond got)) (take_at o (Marking r l got first), More)) (λ (z : TakeOp × Progress MarkEnd). TakeStepped n table op.found (take_at o s) z.0 old new z.1)
      (λ past. nothing n table o s old new word_made reader.position reader.walk reader.help word_loads refl refl u (u.sees.0, u.sees.1, u.sees.2, (w.walk, w.walks, w.bucket, inr (got, at, ltb-true b (bucket sh got.time) past))))
      (λ up. let up_to = ltb-false b (bucket sh got.time) up in
      cond_both (leb op.limit got.time) (take_at o Load, Done (Beyond got)) (take_at o (Marking r l got first), More) (λ (z : TakeOp × Progress MarkEnd). TakeStepped n table op.found (take_at o s) z.0 old new z.1)
      (λ yes. let high = leb-true op.limit got.time yes in beyond n table o s old new word_made reader.position reader.walk reader.help word_loads refl refl u got (record {
        began = u.began;
        sight = record { table = op.found; current = u.sees.0 };
        sees = u.sees.1;
        nothing = inr (w.walk, w.walks, subst (λ k. EndedWalk k op.found reader.position.rows w.walk op.limit) (sym w.bucket) (inl (got, at, up_to, high)));
      }) high (r, l, p) up_to)
      (λ low. stays_on n table o s old new word_made reader.position reader.walk reader.help word_loads refl refl u (Marking r l got first)
      (head_still u.first.0, whole_belongs five, subst (λ z. StandsIn reader.position.rows r z op.found.generation) (sym (whole five)) read_at.on, λ is. past_still got (u.first.1 is got p.on))
      (p, (w.walk, w.walks, w.bucket, subst (λ k. FoundFirst k op.found reader.position.rows w.walk r got) (sym w.bucket) (w.at, up_to)), leb-false op.limit got.time low) left_some))

  -- in a search
  search_read : IsControl op.found → IsTaking n table op.found (take_at (in_place op Search) (Reading r l number read first)) reader → 5 ≤ number
      → TakeStepped n table op.found (take_at (in_place op Search) (Reading r l number read first)) (row_read Search (in_place op Search) r l got first).0 old new (row_read Search (in_place op Search) r l got first).1
  search_read control u five = let c : Candidate = record { row = r; link = l; event = got } in let p = whole_on five in let w = u.at.1.0 in
      goes_next n table op (Reading r l number read first) old new word_made reader.position reader.walk reader.help word_loads refl refl control left_some u w.walk w.walks w.bucket w.head_is (Some (lesser_of op.best c))
      (best_at_row w.walk reader.position.rows op.best c w.at w.some_row w.least (λ g on. one_event reader of.lawful r g got on p.on) p.on)
      (λ d is. subst (λ z. IsPresent n table z.row z.link z.event reader_now × (head_of op.found z.event ≤ op.head)) (one_best (lesser_of op.best c) d is)
      (lesser_holds op.best c (λ z. IsPresent n table z.row z.link z.event reader_now × (head_of op.found z.event ≤ op.head)) (λ a e. let k = best_still a e in (k.present, let low = k.earlier in omega arith)) (p, let here = whole_belongs five in omega arith)))
    where
      one_best : (a b : Candidate) → Some a ≡ Some b → a ≡ b
      one_best a b e = cc

  pub whole_stepped : IsControl op.found → 5 ≤ number
      → TakeStepped n table op.found (take_at (in_place op place) (Reading r l number read first)) (row_read place (in_place op place) r l got first).0 old new (row_read place (in_place op place) r l got first).1
  whole_stepped control five = go place t
    where
      go : (place' : Place) → IsTaking n table op.found (take_at (in_place op place') (Reading r l number read first)) reader
          → TakeStepped n table op.found (take_at (in_place op place') (Reading r l number read first)) (row_read place' (in_place op place') r l got first).0 old new (row_read place' (in_place op place') r l got first).1
      go (Bucket b) u = bucket_read b u five
      go Search u = search_read control u five
