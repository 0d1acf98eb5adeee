-- The places at which links stand, and what a step leaves of a pass.
use Rattle.std.proofs.Common.{◌≡◌, ◌≢◌, ◌⊎◌, ⊎_elim, inl, inr, ℕ, zero, suc, ◌≤◌, length, slice_index, remove, eq-eqb, ne_eqb, ◌+◌, ◌*◌, ◌/◌, ◌%◌, ◌^◌, ◌<◌, ◌||◌, ◌==◌, cond, Bool, true, false, List, [], ◌∷◌, Option, Some, None, sym, refl, ap, ◌∙◌, subst, arith}
use Rattle.std.proofs.Math.Nat.{one-mul, mod-eq_of_lt}
use Rattle.std.proofs.lemmas.Nat.{pow_below}
use Rattle.std.specs.VecDeque.{deque_capacity}
use Rattle.crq_base.specs.declared.event.Event.{Event}
use Rattle.crq_base.specs.declared.kinds.StepKind.{StepKind}
use Rattle.crq_base.specs.declared.kinds.StepKind.TheVariants.{Walk, Link as LinkKind, Mark as MarkKind}
use Rattle.crq_base.specs.declared.words.Link.{Link}
use Rattle.crq_base.specs.declared.words.Mark.TheVariants.{Val, Del}
use Rattle.crq_base.specs.declared.words.Control.{Control}
use Rattle.crq_base.specs.Words.{IsLink, IsControl, mark_number, link_word, control_word}
use Rattle.crq_base.proofs.WordLaws.{link_one, control_one}
use Rattle.crq_rule.specs.Core.{moved_up, names_of}
use Rattle.crq_rule.specs.declared.debts.CutDebt.{CutDebt}
use Rattle.crq_rule.specs.declared.debts.Debts.{Debts}
use Rattle.crq_rule.specs.declared.layout.Start.{Start}
use Rattle.crq_rule.specs.declared.pass.Pass.{Pass}
use Rattle.crq_rule.specs.declared.pass.Table.{Table}
use Rattle.crq_rule.specs.declared.view.Made.{Made}
use Rattle.crq_rule.specs.declared.view.Stand.{Stand}
use Rattle.crq_rule.specs.declared.view.Caller.{Caller}
use Rattle.crq_rule.specs.Places.{index, Place, control, IsPlace, IsRow}
use Rattle.crq_rule.specs.Kinds.{makes}
use Rattle.crq_rule.specs.Ranks.{head_for, bucket, head_of, Cell, at_head, at_row, cell_place}
use Rattle.crq_rule.specs.ListKinds.{Aim, MayWalk, ComesAfter, links, marks, cuts, unhanded, cut_debt, relieved, unnamed, is_past, is_other_front}
use Rattle.crq_rule.specs.Moves.{Lawful, Walked, FoundControl, wins}
use Rattle.crq_rule.proofs.Placing.{within}
use Rattle.crq_rows.specs.Passes.{caller, IsSeated, IsOwed, IsPassOf, StaysAside, Turned, Exchanges, load_made, step_made, counted}
use Rattle.crq_rows.proofs.Reached.{stand_row}
use Rattle.crq_rows.proofs.Passing.{lag_dropped}
use Rattle.crq_list.specs.Swaps.{Saw, Controlled, Swapped, LinkSwapped, MarkSwapped}

-- links to two rows have two words, and so have a present one and a dead one

pub rows_apart : (l : Link) (r : ℕ) → r ≢ l.row → link_word l ≢ link_word (record l { row = r })
unfolding link_word
rows_apart l r ne same = ne (omega arith)

pub marks_apart : (l : Link) → l.mark ≡ Val → link_word l ≢ link_word (record l { mark = Del })
unfolding link_word
marks_apart l val same = let none = ap mark_number val in absurd (omega arith)

-- a cell that the pass may walk stands in the table
pub cell_is : (table : Table) (pass : Pass) (cell : Cell) → IsPassOf table pass → MayWalk (caller table pass).position.rows cell → IsPlace table.start.layout (cell_place cell)
cell_is table pass (at_head q) of may = may
cell_is table pass (at_row r) of may = stand_row table pass of r may.0 may.1

-- a place of the table is one of its words
pub place_below : (table : Table) (p : Place) (w : ℕ) → IsPlace table.start.layout p → w ≡ index table.start.layout p → w < table.inner.shared.table_id.words
place_below table p w place is = let wide = table.wide in let low = within table.start.layout p place in omega arith

-- a cell after which a row may come is one that may be walked
pub comes_walk : (list : Event → ℕ) (ss : List Stand) (cell : Cell) (r : ℕ) (e : Event) → ComesAfter list ss cell r e → MayWalk ss cell
comes_walk list ss (at_head q) r e after = after.0
comes_walk list ss (at_row p) r e after = (after.0, after.1)

dropped : (b : Bool) (d : CutDebt) → (cond b None (Some d) ≡ Some d) ⊎ (cond b None (Some d) ≡ None)
dropped true d = inr refl
dropped false d = inl refl

pub relieved_is : (x : Option Control) (cell : Cell) (ss : List Stand) (l : Link) (e : Event) (d : Option CutDebt) → (relieved x cell ss l e d ≡ d) ⊎ (relieved x cell ss l e d ≡ None)
relieved_is x cell ss l e None = inl refl
relieved_is x cell ss l e (Some d) = dropped (is_past x cell ss l e d || is_other_front cell l d) d

pub unnamed_is : (r : ℕ) (d : Option CutDebt) → (unnamed r d ≡ d) ⊎ (unnamed r d ≡ None)
unnamed_is r None = inl refl
unnamed_is r (Some d) = dropped (d.row == r) d

-- what the pass has at run time still agrees after a walk
pub walked_aside : (cell : Cell) (aim : Aim) (found : ℕ) (p q : Caller) → Lawful p → Walked cell aim found p q → StaysAside p q
walked_aside cell aim found p q law h = subst (StaysAside p) h.after record {
  hand = refl;
  debts = let gone = relieved p.found.control cell p.position.rows h.link h.event in let is = relieved_is p.found.control cell p.position.rows h.link h.event in
      inr (moved_up (gone p.debts.cut) (gone p.debts.second_cut), refl, lag_dropped (names_of p.debts) (gone p.debts.cut) (gone p.debts.second_cut) law.ordered (is p.debts.cut) (is p.debts.second_cut));
}

-- and after a cut, won or not
pub cut_aside : (expected r found : ℕ) (p : Caller) → Lawful p → StaysAside p (wins expected (cuts r) found p)
cut_aside expected r found p law = go (found == expected)
  where
    go : (b : Bool) → StaysAside p (cond b (cuts r p) p)
    go true = record {
      hand = refl;
      debts = inr (moved_up (unnamed r p.debts.cut) (unnamed r p.debts.second_cut), refl, lag_dropped (names_of p.debts) (unnamed r p.debts.cut) (unnamed r p.debts.second_cut) law.ordered (unnamed_is r p.debts.cut) (unnamed_is r p.debts.second_cut));
    }
    go false = record { hand = refl; debts = inl refl }

-- the link that was found is the one that the word spells
pub saw : (table : Table) (old new : Pass) (cell : Cell) (aim : Aim) (word found : ℕ) (l : Link) → IsPassOf table old → word ≡ index table.start.layout (cell_place cell) → IsLink l → link_word l ≡ found
    → Turned table old new (load_made Walk word found) (Walked cell aim found) → Saw table old new cell aim l
saw table old new cell aim word found l of at bits spells t = let w = t.after.1 in subst (Saw table old new cell aim) (link_one w.link l w.is_link bits (w.word ∙ sym spells)) record {
  is = t.is;
  same = t.same;
  event = w.event;
  is_link = w.is_link;
  part = t.after.2 ∙ (λ i. makes (load_made Walk (at i) (sym w.word i)) (sym w.after i));
  row = λ some. let named = w.row some in (subst (λ (z : Start). IsRow z.layout w.link.row) of.sits.started named.0, named.1);
  next = w.next;
  marked = w.marked;
  frozen = w.frozen;
}

-- the control word that was found is the one that the word spells
pub controlled : (kind : StepKind) (table : Table) (old new : Pass) (f : Control → Caller → Caller) (word found : ℕ) (x : Control) → IsPassOf table old → word ≡ index table.start.layout control → IsControl x → control_word x ≡ found
    → Turned table old new (load_made kind word found) (FoundControl f found) → Controlled kind table old new f x
controlled kind table old new f word found x of at bits spells t = let w = t.after.1 in subst (Controlled kind table old new f) (control_one w.control x w.is_control bits (w.word ∙ sym spells)) record {
  is = t.is;
  same = t.same;
  is_control = w.is_control;
  part = t.after.2 ∙ (λ i. makes (load_made kind (at i) (sym w.word i)) (sym w.after i));
  steady = λ still. w.steady (ap (λ (z : Start). z.moves) of.sits.started ∙ still);
}

-- the list of an event, as shifts of 32 bits give it
pub head_number : (x : Control) (e : Event) → IsControl x → x.generation % 2 * 32768 + e.time / 2 ^ x.shift % (1 * 2 ^ x.log % 2 ^ 32) ≡ head_of x e
unfolding head_for bucket
head_number x e bits = ap (λ n. x.generation % 2 * 32768 + e.time / 2 ^ x.shift % n) (ap (λ n. n % 2 ^ 32) (one-mul (2 ^ x.log)) ∙ mod-eq_of_lt (pow_below x.log 32 (let low = bits.log in omega arith)))

-- what an exchange of a link was, as its words were spelled
pub swapped : (kind : StepKind) (table : Table) (old new : Pass) (cell : Cell) (l next : Link) (f : Caller → Caller) (word from to found : ℕ) (won : Bool) → word ≡ index table.start.layout (cell_place cell) → from ≡ link_word l → to ≡ link_word next
    → IsPassOf table new → new.turns ≡ counted old.turns → new.number ≡ old.number → caller table new ≡ makes (step_made kind word from to found) (wins (link_word l) f found (caller table old)) → (found == from) ≡ won → Swapped kind table old new cell l next f won
swapped kind table old new cell l next f word from to found won at is_from is_to is turns number part how = let p : Caller = caller table old in let how' : (found == link_word l) ≡ won = ap (λ z. found == z) (sym is_from) ∙ how in record {
  is = is;
  turns = turns;
  number = number;
  found = found;
  won_is = how';
  part = part ∙ (λ i. makes (step_made kind (at i) (is_from i) (is_to i) found) (cond (how' i) (f p) p));
}

module _ (table : Table) (old mid new : Pass) (cell : Cell) (word from to found : ℕ) (won : Bool) where
  -- Link: the row leaves the free ones where it won. The pass owes no event at run time
  pub linked : (l : Link) (x : Control) (r : ℕ) (e : Event) → IsPassOf table old → (caller table old).debts.settle ≡ None → word ≡ index table.start.layout (cell_place cell) → from ≡ link_word l → to ≡ link_word (record l { row = r })
      → Exchanges table old mid (step_made LinkKind word from to found) (wins (link_word l) (links x r e) found) → (found == from) ≡ won
      → new ≡ record mid { free = new.free } → new.free.items ≡ cond won (unhanded r mid.free.items) mid.free.items → deque_capacity new.free ≡ deque_capacity mid.free → LinkSwapped table old new cell l x r e won
  linked l x r e of settled at is_from is_to step how same free room = let p : Caller = caller table old in
      let part : caller table new ≡ makes (step_made LinkKind word from to found) (wins (link_word l) (links x r e) found p) = ap (caller table) same ∙ step.part in
      let mine : mid.free.items ≡ p.hand = ap (λ (q : Pass). q.free.items) step.same ∙ of.free in
      let after : caller table new ≡ makes (step_made LinkKind word from to found) (cond won (links x r e p) p) = part ∙ (λ i. makes (step_made LinkKind word from to found) (cond ((ap (λ z. found == z) (sym is_from) ∙ how) i) (links x r e p) p)) in record {
        swapped = swapped LinkKind table old new cell l (record l { row = r }) (links x r e) word from to found won at is_from is_to record {
          sits = subst (IsSeated table) (sym same) record { seated = step.sits.seated; bare = step.sits.bare; one = step.sits.one; numbered = step.sits.numbered; inside = step.sits.inside; started = step.sits.started };
          lawful = subst Lawful (sym (ap (caller table) same)) step.lawful;
          free = free ∙ (sym (hands won p mine) ∙ sym (ap (λ (q : Caller). q.hand) after));
          room = subst (λ z. table.start.layout.home ≤ z) (sym (room ∙ ap (λ (q : Pass). deque_capacity q.free) step.same)) of.room;
          debts = subst (λ (z : Debts × Debts). IsOwed z.0 z.1) (λ i. (sym (ap (λ (q : Pass). q.debts) same ∙ ap (λ (q : Pass). q.debts) step.same) i, sym (ap (λ (q : Caller). q.debts) after) i)) (owes won p of.debts settled);
        } (ap (λ (q : Pass). q.turns) same ∙ step.turns) (ap (λ (q : Pass). q.number) same ∙ ap (λ (q : Pass). q.number) step.same) part how;
        free = free ∙ ap (λ (q : Pass). cond won (unhanded r q.free.items) q.free.items) step.same;
        debts = ap (λ (q : Pass). q.debts) same ∙ ap (λ (q : Pass). q.debts) step.same;
      }
    where
      hands : (b : Bool) (p : Caller) → mid.free.items ≡ p.hand → (cond b (links x r e p) p).hand ≡ cond b (unhanded r mid.free.items) mid.free.items
      hands true p mine = ap (unhanded r) (sym mine)
      hands false p mine = sym mine

      owes : (b : Bool) (p : Caller) → IsOwed old.debts p.debts → p.debts.settle ≡ None → IsOwed old.debts (cond b (links x r e p) p).debts
      owes true p o none = record { settle = inl (⊎_elim (λ run. run) (λ same. sym same ∙ none) o.settle); copy = o.copy; names = o.names }
      owes false p o none = o

  -- Mark: the row is owed to be cut where it won
  pub marked : (l : Link) (x : Control) (r : ℕ) (e : Event) → IsPassOf table old → (caller table old).debts.cut ≡ None → word ≡ index table.start.layout (cell_place cell) → from ≡ link_word l → to ≡ link_word (record l { mark = Del })
      → Exchanges table old mid (step_made MarkKind word from to found) (wins (link_word l) (marks x r e) found) → (found == from) ≡ won
      → new ≡ record mid { debts = new.debts } → new.debts ≡ cond won (record mid.debts { cut = Some (cut_debt x r e) }) mid.debts → MarkSwapped table old new cell l x r e won
  marked l x r e of unowed at is_from is_to step how same debts = let p : Caller = caller table old in
      let part : caller table new ≡ makes (step_made MarkKind word from to found) (wins (link_word l) (marks x r e) found p) = ap (caller table) same ∙ step.part in
      let after : caller table new ≡ makes (step_made MarkKind word from to found) (cond won (marks x r e p) p) = part ∙ (λ i. makes (step_made MarkKind word from to found) (cond ((ap (λ z. found == z) (sym is_from) ∙ how) i) (marks x r e p) p)) in
      let debts' : new.debts ≡ cond won (record old.debts { cut = Some (cut_debt x r e) }) old.debts = debts ∙ ap (λ (q : Pass). cond won (record q.debts { cut = Some (cut_debt x r e) }) q.debts) step.same in
      let free : new.free ≡ old.free = ap (λ (q : Pass). q.free) same ∙ ap (λ (q : Pass). q.free) step.same in record {
        swapped = swapped MarkKind table old new cell l (record l { mark = Del }) (marks x r e) word from to found won at is_from is_to record {
          sits = subst (IsSeated table) (sym same) record { seated = step.sits.seated; bare = step.sits.bare; one = step.sits.one; numbered = step.sits.numbered; inside = step.sits.inside; started = step.sits.started };
          lawful = subst Lawful (sym (ap (caller table) same)) step.lawful;
          free = ap (λ z. z.items) free ∙ (of.free ∙ (sym (hands won p) ∙ sym (ap (λ (q : Caller). q.hand) after)));
          room = subst (λ z. table.start.layout.home ≤ deque_capacity z) (sym free) of.room;
          debts = subst (λ (z : Debts × Debts). IsOwed z.0 z.1) (λ i. (sym debts' i, sym (ap (λ (q : Caller). q.debts) after) i)) (owes won p of.debts (of.lawful.ordered unowed));
        } (ap (λ (q : Pass). q.turns) same ∙ step.turns) (ap (λ (q : Pass). q.number) same ∙ ap (λ (q : Pass). q.number) step.same) part how;
        free = ap (λ z. z.items) free;
        debts = debts';
      }
    where
      hands : (b : Bool) (p : Caller) → (cond b (marks x r e p) p).hand ≡ p.hand
      hands true p = refl
      hands false p = refl

      owes : (b : Bool) (p : Caller) → IsOwed old.debts p.debts → p.debts.second_cut ≡ None → IsOwed (cond b (record old.debts { cut = Some (cut_debt x r e) }) old.debts) (cond b (marks x r e p) p).debts
      owes true p o none = record { settle = o.settle; copy = o.copy; names = inr (inl (λ i. record { first = Some (cut_debt x r e); second = none i })) }
      owes false p o none = o

-- what linking changes, by the control word that the caller found
abbrev pub links_by : Option Control → ℕ → Event → Caller → Caller
links_by None r e p = p
links_by (Some x) r e p = links x r e p

abbrev pub links_found : ℕ → Event → Caller → Caller
links_found r e p = links_by p.found.control r e p

pub wins_found : (x : Control) (expected r : ℕ) (e : Event) (found : ℕ) (p : Caller) → p.found.control ≡ Some x → wins expected (links_found r e) found p ≡ wins expected (links x r e) found p
wins_found x expected r e found p is = ap (λ o. cond (found == expected) (links_by o r e p) p) is

pub exchanges_found : (table : Table) (old mid : Pass) (m : Made) (x : Control) (expected r : ℕ) (e : Event) (found : ℕ) → (caller table old).found.control ≡ Some x
    → Exchanges table old mid m (wins expected (links_found r e) found) → Exchanges table old mid m (wins expected (links x r e) found)
exchanges_found table old mid m x expected r e found is step = record { sits = step.sits; lawful = step.lawful; same = step.same; turns = step.turns; id = step.id; part = step.part ∙ ap (makes m) (wins_found x expected r e found (caller table old) is) }

-- the first row of the list that is r leaves it
pub unhanded_at : (r : ℕ) (xs : List ℕ) (i : ℕ) → ((k : ℕ) → k < i → slice_index xs k ≢ r) → i < length xs → slice_index xs i ≡ r → unhanded r xs ≡ remove xs i
unhanded_at r [] i before low is = absurd (omega arith)
unhanded_at r (x ∷ xs) zero before low is = ap (λ b. cond b xs (x ∷ unhanded r xs)) (eq-eqb x r is)
unhanded_at r (x ∷ xs) (suc i) before low is = ap (λ b. cond b xs (x ∷ unhanded r xs)) (ne_eqb x r (before 0 (omega arith))) ∙ ap (λ ys. x ∷ ys) (unhanded_at r xs i (λ k b. before (suc k) (omega arith)) (omega arith) is)

pub unhanded_none : (r : ℕ) (xs : List ℕ) → ((k : ℕ) → k < length xs → slice_index xs k ≢ r) → unhanded r xs ≡ xs
unhanded_none r [] none = refl
unhanded_none r (x ∷ xs) none = ap (λ b. cond b xs (x ∷ unhanded r xs)) (ne_eqb x r (none 0 (omega arith))) ∙ ap (λ ys. x ∷ ys) (unhanded_none r xs (λ k b. none (suc k) (omega arith)))
