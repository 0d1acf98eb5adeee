-- Each step of an emptying on the link of the row that a head names tells what it is to tell.
use Rattle.std.proofs.Common.{◌≡◌, ◌≢◌, ◌⊎◌, ⊎_elim, inl, inr, ℕ, ◌+◌, ◌*◌, ◌-◌, ◌^◌, ◌<◌, cond, Bool, true, false, [], ◌∷◌, ◌++◌, drop, Option, Some, None, refl, sym, ap, ◌∙◌, subst, arith}
use Rattle.std.proofs.lemmas.Bool.{false≢true}
use Rattle.crq_base.specs.declared.event.Event.{Event}
use Rattle.crq_base.specs.declared.kinds.StepKind.{StepKind}
use Rattle.crq_base.specs.declared.kinds.StepKind.TheVariants.{Walk, FreezeNode, Discard as DiscardKind}
use Rattle.crq_base.specs.declared.words.Link.{Link}
use Rattle.crq_base.specs.declared.words.Mark.{Mark}
use Rattle.crq_base.specs.declared.words.Mark.TheVariants.{Val, Inv, Mov, Del}
use Rattle.crq_base.specs.declared.words.Control.{Control}
use Rattle.crq_base.specs.Words.{mark_number, link_word}
use Rattle.crq_base.specs.Lists.{In}
use Rattle.crq_rule.specs.declared.debts.CopyDebt.{CopyDebt}
use Rattle.crq_rule.specs.declared.debts.CutDebt.{CutDebt}
use Rattle.crq_rule.specs.declared.debts.Debts.{Debts}
use Rattle.crq_rule.specs.declared.pass.Pass.{Pass}
use Rattle.crq_rule.specs.declared.pass.Table.{Table}
use Rattle.crq_rule.specs.declared.view.Made.{Made}
use Rattle.crq_rule.specs.declared.view.Stand.{Stand}
use Rattle.crq_rule.specs.declared.view.Caller.{Caller}
use Rattle.crq_rule.specs.Core.{DeadNames, names_of}
use Rattle.crq_rule.specs.Places.{index, head, link, IsHead}
use Rattle.crq_rule.specs.Kinds.{makes}
use Rattle.crq_rule.specs.Ranks.{rank, shape_of, Cell, at_row}
use Rattle.crq_rule.specs.Helping.{old_head}
use Rattle.crq_rule.specs.ListKinds.{Aim, no_take, is_final, walks, noted, noted_stand, new_stand, StandsOn}
use Rattle.crq_rule.specs.MoveKinds.{frozen_link, freezes_row, MayFreezeRow}
use Rattle.crq_rule.specs.CopyKinds.{stand_on, dead_link, front_name, also_named, discards, MayDiscard}
use Rattle.crq_rule.specs.Moves.{Lawful}
use Rattle.crq_rows.specs.Known.{is_exchange, is_tick}
use Rattle.crq_rows.specs.Passes.{caller, IsPassOf, NamesLag, load_made, step_made}
use Rattle.crq_rows.proofs.Knowing.{known_here, known_else}
use Rattle.crq_list.specs.declared.parts.Progress.TheVariants.{More}
use Rattle.crq_list.specs.Known.{last_known, turns_after}
use Rattle.crq_list.specs.Swaps.{Saw}
use Rattle.crq_list.proofs.HelpLaws.{walk_keeps}
use Rattle.crq_move.specs.declared.empty.MoveState.{MoveState}
use Rattle.crq_move.specs.declared.empty.MoveState.TheVariants.{First, Freeze, Discard, Twin, Pop}
use Rattle.crq_move.specs.declared.empty.MoveOp.{MoveOp}
use Rattle.crq_move.specs.Names.{names_lost}
use Rattle.crq_move.specs.Steps.{WordLeft}
use Rattle.crq_move.specs.Binding.{IsFree}
use Rattle.crq_move.specs.Emptying.{IsHeadKnown, IsFirst, IsFirstLink, FoundFirst, IsAt, IsEmptying, NamesAt, state_exchanges, state_kind, state_rank, empty_exchanges, first_of, after_first, EmptyStepped}
use Rattle.crq_move.proofs.Orders.{head_low, old_in}
use Rattle.crq_move.proofs.FreezeLaws.{frozen_apart}
use Rattle.crq_move.proofs.EmptyLaws.{Aside, grows_none, nothing_aside, won_aside, goes_on, empty_stepped}
use Rattle.crq_move.proofs.FirstStands.{first_in, first_noted, first_walked, walked_on, walked_next}

-- What the steps leave aside

-- a link that is found
pub walk_aside : (m : Made) (cell : Cell) (aim : Aim) (l : Link) (e : Event) (p : Caller) → Aside p (walks cell aim l e p)
walk_aside m cell aim l e p = record {
  stays = record { number = refl; start = refl; deal = refl; found = refl; guard = refl; permit = refl; sight = refl; told = refl };
  made = refl;
  own = refl;
  settle = refl;
  help = (walk_keeps m cell aim l e p).on.help;
}

-- a row that is frozen
pub freeze_aside : (r : ℕ) (l : Link) (p : Caller) → Aside p (freezes_row r l p)
freeze_aside r l p = record {
  stays = record { number = refl; start = refl; deal = refl; found = refl; guard = refl; permit = refl; sight = refl; told = refl };
  made = refl;
  own = refl;
  settle = refl;
  help = λ h is. (h, is, grows_none h);
}

-- and a copy that is discarded
pub discard_aside : (r : ℕ) (l : Link) (n : CutDebt) (copy : Option CopyDebt) (p : Caller) → Aside p (discards r l n copy p)
discard_aside r l n copy p = record {
  stays = record { number = refl; start = refl; deal = refl; found = refl; guard = refl; permit = refl; sight = refl; told = refl };
  made = refl;
  own = refl;
  settle = refl;
  help = λ h is. (h, is, grows_none h);
}

-- a link of a copy that isn't valid has another word than a dead one
pub dead_apart : (l : Link) → l.mark ≡ Inv → link_word l ≢ link_word (dead_link l)
unfolding link_word
dead_apart l inv same = let one = ap mark_number inv in absurd (omega arith)

-- a caller names no second dead row where its pass has room for one
pub room_known : (run known : DeadNames) → run.second ≡ None → NamesLag run known → known.second ≡ None
room_known run known none lag = ⊎_elim
    (⊎_elim (λ same. ap (λ (z : DeadNames). z.second) same ∙ none) (λ up. ap (λ (z : DeadNames). z.second) up))
    (⊎_elim (λ one. ap (λ (z : DeadNames). z.second) one) (λ gone. ap (λ (z : DeadNames). z.second) gone))
    lag

-- one dead row more is the second one that a pass names, or leaves none
pub lost_room : (n : CutDebt) (copy : Option CopyDebt) (d : Debts) → d.second_cut ≡ None → ((names_lost n copy d).second_cut ≡ None) ⊎ ((c : CutDebt) × ((names_lost n copy d).second_cut ≡ Some c) × (c.row ≡ n.row) × (c.front ≡ n.front))
lost_room n copy d none = go d.cut
  where
    go : (first : Option CutDebt) → ((also_named n first d.second_cut).second ≡ None) ⊎ ((c : CutDebt) × ((also_named n first d.second_cut).second ≡ Some c) × (c.row ≡ n.row) × (c.front ≡ n.front))
    go None = inl none
    go (Some f) = inr (n, refl, refl, refl)

-- what is left to do once the link was loaded is less
first_less : (l m : Link) (k : Mark) (p : Caller) → state_rank (first_of k l m) p < 2 ^ 167
first_less l m Val p = omega arith
first_less l m Inv p = omega arith
first_less l m Mov p = omega arith
first_less l m Del p = omega arith

pub sum_less : (a b c : ℕ) → b < c → a + b < a + c
sum_less a b c less = omega arith

-- the room for a second dead row is asked at each of these states
first_names : (l m : Link) (k : Mark) (d : Debts) → d.second_cut ≡ None → NamesAt (first_of k l m) d
first_names l m Val d none = none
first_names l m Inv d none = none
first_names l m Mov d none = none
first_names l m Del d none = inl none

module _ (n : ℕ) (table : Table) (x : Control) (op : MoveOp) (old : Pass) (is : IsEmptying n table x op (caller table old)) where
  -- the head of the emptying is one of the two banks
  pub at_low : IsHead (old_head x (caller table old).number op.passed)
  at_low = head_low x.generation (shape_of x) (old_head x (caller table old).number op.passed) is.helper.is_control.log (old_in x (caller table old).number op.passed is.more)

  -- no row's link stands at its word
  head_apart : (r : ℕ) → 0 < r → index table.start.layout (link r) ≢ index table.start.layout (head (old_head x (caller table old).number op.passed))
  head_apart r some same = let low = at_low in omega arith

  -- what is known of the head stays after a step on the link of the row that it names
  pub head_stays : (l : Link) (m : Made) (r : Caller) → Aside (caller table old) r → m.word ≡ index table.start.layout (link l.row) → IsHeadKnown n table x op.passed l (caller table old) → IsHeadKnown n table x op.passed l (makes m r)
  head_stays l m r aside word k = let p : Caller = caller table old in record {
    bits = k.bits;
    frozen = k.frozen;
    some_row = k.some_row;
    known = (λ i. last_known (drop n (aside.made i ++ m ∷ [])) (index table.start.layout (head (old_head x (aside.stays.number i) op.passed))))
        ∙ (known_else n p.made m (index table.start.layout (head (old_head x p.number op.passed))) is.counted (λ same. head_apart l.row k.some_row (sym word ∙ same)) ∙ k.known);
  }

  -- and the first stand on that row is of the same table and front
  pub first_stays : (l : Link) (m : Made) (r : Caller) (s t : Stand) → Aside (caller table old) r → stand_on l.row r.position.rows ≡ Some t → t.front ≡ s.front → t.generation ≡ s.generation
      → IsFirst x op.passed l s (caller table old) → IsFirst x op.passed l t (makes m r)
  first_stays l m r s t aside on front generation k = record { on = on; front = front ∙ (k.front ∙ (λ i. Some (old_head x (sym aside.stays.number i) op.passed))); now = generation ∙ k.now }

  -- the row's link may be loaded
  pub may_first : (l : Link) → op.state ≡ First l → (e : Event) × StandsOn (caller table old).position.rows l.row e
  may_first l state = let at : IsAt n table x op.passed (First l) (caller table old) = subst (λ z. IsAt n table x op.passed z (caller table old)) state is.at in
      let on = first_in l.row (caller table old).position.rows at.2.0 at.2.1.on in (at.2.0.event, (at.2.0, on.0, on.1, refl))

  -- the link m was loaded
  module _ (new : Pass) (l m : Link) (state : op.state ≡ First l) (saw : Saw table old new (at_row l.row) no_take m) where
    loading : IsAt n table x op.passed (First l) (caller table old)
    loading = subst (λ z. IsAt n table x op.passed z (caller table old)) state is.at

    abbrev loaded : Caller
    loaded = walks (at_row l.row) no_take m saw.event (caller table old)

    abbrev load : Made
    load = load_made Walk (index table.start.layout (link l.row)) (link_word m)

    stood : In loading.2.0 (caller table old).position.rows × (loading.2.0.row ≡ l.row)
    stood = first_in l.row (caller table old).position.rows loading.2.0 loading.2.1.on

    -- it leads to another row, as rows rise along a list
    leads_on : m.row ≢ l.row
    leads_on same = let p : Caller = caller table old in let s : Stand = loading.2.0 in let some = loading.1.some_row in
        let law : Lawful (makes load loaded) = subst Lawful saw.part saw.is.lawful in
        let rise = (saw.next s.event (s, stood.0, stood.1, refl) (omega arith)).0 in
        let one : saw.event ≡ s.event = law.agree (new_stand (at_row l.row) m saw.event) (noted_stand m s) (walked_next l.row m saw.event p.position.rows (λ none. omega arith)) (walked_on l.row m saw.event p.position.rows s loading.2.1.on) (same ∙ sym stood.1) in
        let ranks : rank saw.event m.row ≡ rank s.event l.row = λ i. rank (one i) (same i) in omega arith

    pub found_next : IsFirstLink x l m
    found_next = record { bits = saw.is_link; now = saw.marked.1 loading.2.0 stood.0 stood.1 ∙ loading.2.1.now; apart = leads_on }

    abbrev seen : Stand
    seen = noted_stand m loading.2.0

    seen_on : stand_on l.row loaded.position.rows ≡ Some seen
    seen_on = first_walked l.row m saw.event (caller table old).position.rows loading.2.0 leads_on loading.2.1.on

    head_seen : IsHeadKnown n table x op.passed l (makes load loaded)
    head_seen = head_stays l load loaded (walk_aside load (at_row l.row) no_take m saw.event (caller table old)) refl loading.1

    found_first : (k : Mark) → m.mark ≡ k → FoundFirst n table x op.passed l m k seen (makes load loaded)
    found_first k mark = record {
      head = head_seen;
      first = first_stays l load loaded loading.2.0 seen (walk_aside load (at_row l.row) no_take m saw.event (caller table old)) seen_on refl refl loading.2.1;
      next = found_next;
      mark_is = mark;
      known = known_here n (caller table old).made load (index table.start.layout (link l.row)) is.counted refl;
    }

    -- what is done next is told by its mark
    at_first : (k : Mark) → m.mark ≡ k → IsAt n table x op.passed (first_of k l m) (makes load loaded)
    at_first Val mark = (loading.0, (seen, found_first Val mark))
    at_first Inv mark = (
      loading.0,
      (seen, found_first Inv mark, record { time = λ more. absurd (omega arith); source = λ more. absurd (omega arith); number = λ more. absurd (omega arith); load = λ more. absurd (omega arith) }),
      omega arith,
      omega arith,
    )
    at_first Mov mark = (loading.0, head_seen, (seen, record { on = seen_on; now = loading.2.1.now; last_is = ap (λ k. cond (is_final k) (Some m) loading.2.0.last) mark; frozen = mark; next = found_next }))
    at_first Del mark = (loading.0, head_seen, record { stand = seen; on = walked_on l.row m saw.event (caller table old).position.rows loading.2.0 loading.2.1.on; row = stood.1; last_is = ap (λ k. cond (is_final k) (Some m) loading.2.0.last) mark; gone = inl mark; next = found_next })

    pub first_told : NamesAt op.state old.debts → EmptyStepped n table x op (record op { state = after_first l m }) old new More
    first_told room = let none : old.debts.second_cut ≡ None = subst (λ z. NamesAt z old.debts) state room in
        let aside = walk_aside load (at_row l.row) no_take m saw.event (caller table old) in let still : empty_exchanges op ≡ false = ap state_exchanges state in
        let debts : new.debts ≡ old.debts = ap (λ (q : Pass). q.debts) saw.same in
        empty_stepped n table x op old new is saw.is load loaded saw.part aside (record op { state = after_first l m }) More (sym (ap state_kind state)) (sym still) refl (λ yes. absurd (false≢true (sym still ∙ yes)))
        (ap (λ (q : Pass). q.turns) saw.same ∙ ap (λ b. turns_after b old.turns) (sym still)) (ap (λ (q : Pass). q.number) saw.same) (ap (λ (d : Debts). d.settle) debts) (
          goes_on n table x op old new is saw.is load loaded saw.part aside (after_first l m) (subst (IsAt n table x op.passed (after_first l m)) (sym saw.part) (at_first m.mark refl)),
          first_names l m m.mark new.debts (ap (λ (d : Debts). d.second_cut) debts ∙ none),
          inr (sum_less ((2 ^ op.control.log - op.passed) * 2 ^ 170) (state_rank (after_first l m) (caller table new)) (state_rank op.state (caller table old))
              (subst (λ z. state_rank (after_first l m) (caller table new) < state_rank z (caller table old)) (sym state) (first_less l m m.mark (caller table new)))),
        )

  -- An exchange of the link m was made, which expected what was known of it
  module _ (new : Pass) (l m : Link) (k : Mark) (s : Stand) (is_first : FoundFirst n table x op.passed l m k s (caller table old)) where
    abbrev left_made : StepKind → ℕ → ℕ → Made
    left_made kind second found = step_made kind (index table.start.layout (link l.row)) (link_word m) second found

    on_first : In s (caller table old).position.rows × (s.row ≡ l.row)
    on_first = first_in l.row (caller table old).position.rows s is_first.first.on

    head_left : (kind : StepKind) (second found : ℕ) (r : Caller) → Aside (caller table old) r → IsHeadKnown n table x op.passed l (makes (left_made kind second found) r)
    head_left kind second found r aside = head_stays l (left_made kind second found) r aside refl is_first.head

    -- it tells what is to be told, where the state is as it says
    left_told : (kind : StepKind) (second : ℕ) (f : Caller → Caller) (debts : Debts) (won : Bool) (next : MoveState) (left : WordLeft kind table old new (index table.start.layout (link l.row)) (link_word m) second f debts won)
        → Aside (caller table old) (f (caller table old)) → link_word m ≢ second
        → is_exchange kind ≡ true → is_tick kind ≡ false → state_kind op.state ≡ kind → state_exchanges op.state ≡ true → debts.settle ≡ old.debts.settle
        → IsAt n table x op.passed next (makes (left_made kind second left.found) (cond won (f (caller table old)) (caller table old))) → NamesAt next debts → EmptyStepped n table x op (record op { state = next }) old new More
    left_told kind second f debts won next left aside other swaps no_tick kind_is state_swaps settle at names = let p : Caller = caller table old in let step = left_made kind second left.found in let r = cond won (f p) p in
        let sides = won_aside f won p aside in
        let owes : new.debts ≡ debts = ap (λ (q : Pass). q.debts) left.same in
        empty_stepped n table x op old new is left.is step r left.part sides (record op { state = next }) More (sym kind_is) (swaps ∙ sym state_swaps) no_tick (λ _. (is_first.known, other))
        (left.turns ∙ ap (λ b. turns_after b old.turns) (sym state_swaps)) (ap (λ (q : Pass). q.number) left.same) (ap (λ (d : Debts). d.settle) owes ∙ settle) (
          goes_on n table x op old new is left.is step r left.part sides next (subst (IsAt n table x op.passed next) (sym left.part) at),
          subst (NamesAt next) (sym owes) names,
          inl state_swaps,
        )

    -- the link was another one, and is to be loaded again
    left_lost : (kind : StepKind) (second found : ℕ) → IsFree (caller table old) → IsAt n table x op.passed (First l) (makes (left_made kind second found) (caller table old))
    left_lost kind second found free = let p : Caller = caller table old in let aside = nothing_aside p in
        (free, head_left kind second found p aside, (s, first_stays l (left_made kind second found) p s s aside is_first.first.on refl refl is_first.first))

  -- Freezing the row
  module _ (l m : Link) (state : op.state ≡ Freeze l m) where
    freezing : IsAt n table x op.passed (Freeze l m) (caller table old)
    freezing = subst (λ z. IsAt n table x op.passed z (caller table old)) state is.at

    -- it may be frozen, as it is the first of a frozen head
    pub may_freeze_row : MayFreezeRow l.row m (caller table old)
    may_freeze_row = let on = first_in l.row (caller table old).position.rows freezing.1.0 freezing.1.1.first.on in
        record { on = (freezing.1.0, on.0, on.1, (old_head x (caller table old).number op.passed, at_low, freezing.1.1.first.front)); present = freezing.1.1.mark_is }

    -- it was frozen
    pub row_won : (new : Pass) → NamesAt op.state old.debts → WordLeft FreezeNode table old new (index table.start.layout (link l.row)) (link_word m) (link_word (frozen_link m)) (freezes_row l.row m) old.debts true
        → EmptyStepped n table x op (record op { state = Twin l (frozen_link m) }) old new More
    row_won new room left = let p : Caller = caller table old in let s : Stand = freezing.1.0 in let f = freezing.1.1 in let aside = freeze_aside l.row m p in
        left_told new l m Val s f FreezeNode (link_word (frozen_link m)) (freezes_row l.row m) old.debts true (Twin l (frozen_link m)) left aside (frozen_apart m f.mark_is) refl refl (ap state_kind state) (ap state_exchanges state) refl (
          freezing.0,
          head_left new l m Val s f FreezeNode (link_word (frozen_link m)) left.found (freezes_row l.row m p) aside,
          (
            noted_stand (frozen_link m) s,
            record {
              on = first_noted l.row (frozen_link m) p.position.rows s f.first.on;
              now = f.first.now;
              last_is = refl;
              frozen = refl;
              next = record { bits = record { generation = f.next.bits.generation; row = f.next.bits.row }; now = f.next.now; apart = f.next.apart };
            },
          ),
        ) (subst (λ z. NamesAt z old.debts) state room)

    -- or its link was another one
    pub row_lost : (new : Pass) → NamesAt op.state old.debts → WordLeft FreezeNode table old new (index table.start.layout (link l.row)) (link_word m) (link_word (frozen_link m)) (freezes_row l.row m) old.debts false
        → EmptyStepped n table x op (record op { state = First l }) old new More
    row_lost new room left = let p : Caller = caller table old in let f = freezing.1.1 in
        left_told new l m Val freezing.1.0 f FreezeNode (link_word (frozen_link m)) (freezes_row l.row m) old.debts false (First l) left
        (freeze_aside l.row m p) (frozen_apart m f.mark_is) refl refl (ap state_kind state) (ap state_exchanges state) refl
        (left_lost new l m Val freezing.1.0 f FreezeNode (link_word (frozen_link m)) left.found freezing.0) (subst (λ z. NamesAt z old.debts) state room)

  -- Discarding the row, with this event
  module _ (of : IsPassOf table old) (l m : Link) (e : Event) (state : op.state ≡ Discard l m e) (room : NamesAt op.state old.debts) (q : ℕ) (q_is : q ≡ old_head op.control old.number op.passed) where
    discarding : IsAt n table x op.passed (Discard l m e) (caller table old)
    discarding = subst (λ z. IsAt n table x op.passed z (caller table old)) state is.at

    has_room : old.debts.second_cut ≡ None
    has_room = subst (λ z. NamesAt z old.debts) state room

    front_is : q ≡ old_head x (caller table old).number op.passed
    front_is = q_is ∙ (λ i. old_head (is.control i) (sym of.sits.numbered i) op.passed)

    -- it may be discarded, as it is the first of a frozen head
    pub may_discard : MayDiscard q l.row e m (caller table old)
    may_discard = let t = discarding.1 in let on = first_in l.row (caller table old).position.rows t.0 t.1.first.on in record {
      none = discarding.0.1;
      room = room_known (names_of old.debts) (names_of (caller table old).debts) has_room of.debts.names;
      head = subst IsHead (sym front_is) at_low;
      on = (t.0, on.0, on.1, t.2, t.1.first.front ∙ (λ i. Some (sym front_is i)));
      copy = t.1.mark_is;
    }

    -- it was discarded
    pub discard_won : (new : Pass) → WordLeft DiscardKind table old new (index table.start.layout (link l.row)) (link_word m) (link_word (dead_link m)) (discards l.row m (front_name q l.row e m) None)
        (names_lost (front_name q l.row e m) old.debts.copy old.debts) true
        → EmptyStepped n table x op (record op { state = Pop l (dead_link m) }) old new More
    discard_won new left = let p : Caller = caller table old in let s : Stand = discarding.1.0 in let f = discarding.1.1 in let name : CutDebt = front_name q l.row e m in
        let aside = discard_aside l.row m name None p in
        let on = first_in l.row (noted l.row (dead_link m) p.position.rows) (noted_stand (dead_link m) s) (first_noted l.row (dead_link m) p.position.rows s f.first.on) in
        left_told new l m Inv s f DiscardKind (link_word (dead_link m)) (discards l.row m name None) (names_lost name old.debts.copy old.debts) true (Pop l (dead_link m))
        left aside (dead_apart m f.mark_is) refl refl (ap state_kind state) (ap state_exchanges state) refl (
          (discarding.0.0, refl),
          head_left new l m Inv s f DiscardKind (link_word (dead_link m)) left.found (discards l.row m name None p) aside,
          record {
            stand = noted_stand (dead_link m) s;
            on = on.0;
            row = on.1;
            last_is = refl;
            gone = inl refl;
            next = record { bits = record { generation = f.next.bits.generation; row = f.next.bits.row }; now = f.next.now; apart = f.next.apart };
          },
        ) (lost_room name old.debts.copy old.debts has_room)

    -- or its link was another one
    pub discard_lost : (new : Pass) → WordLeft DiscardKind table old new (index table.start.layout (link l.row)) (link_word m) (link_word (dead_link m)) (discards l.row m (front_name q l.row e m) None) old.debts false
        → EmptyStepped n table x op (record op { state = First l }) old new More
    discard_lost new left = let p : Caller = caller table old in let f = discarding.1.1 in let name : CutDebt = front_name q l.row e m in
        left_told new l m Inv discarding.1.0 f DiscardKind (link_word (dead_link m)) (discards l.row m name None) old.debts false (First l) left
        (discard_aside l.row m name None p) (dead_apart m f.mark_is) refl refl (ap state_kind state) (ap state_exchanges state) refl
        (left_lost new l m Inv discarding.1.0 f DiscardKind (link_word (dead_link m)) left.found discarding.0) has_room
