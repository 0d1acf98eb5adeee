-- Where an emptying loads the link of the next head it tells what it is to tell.
use Rattle.std.proofs.Common.{◌≡◌, ◌≢◌, inr, ℕ, ◌+◌, ◌*◌, ◌-◌, ◌^◌, ◌<◌, ◌≤◌, ◌==◌, ◌&&◌, ltb, cond, true, List, [], ◌∷◌, drop, Option, Some, None, eq-eqb, ne_eqb, refl, sym, ap, ◌∙◌, subst, arith, inl}
use Rattle.std.proofs.lemmas.Bool.{false≢true, lt-ltb, cond_both}
use mathlib.Core.Logic.{dite}
use native.Mathlib.Decide.{ℕ_discrete}
use Rattle.crq_base.specs.declared.event.Event.{Event}
use Rattle.crq_base.specs.declared.kinds.StepKind.TheVariants.{Walk as WalkKind}
use Rattle.crq_base.specs.declared.words.Link.{Link}
use Rattle.crq_base.specs.declared.words.Mark.TheVariants.{Mov}
use Rattle.crq_base.specs.declared.words.Control.{Control}
use Rattle.crq_base.specs.Words.{link_word}
use Rattle.crq_rule.specs.declared.debts.CutDebt.{CutDebt}
use Rattle.crq_rule.specs.declared.debts.Debts.{Debts}
use Rattle.crq_rule.specs.declared.pass.Pass.{Pass}
use Rattle.crq_rule.specs.declared.pass.Table.{Table}
use Rattle.crq_rule.specs.declared.view.Help.{Help}
use Rattle.crq_rule.specs.declared.view.Made.{Made}
use Rattle.crq_rule.specs.declared.view.Sight.{Sight}
use Rattle.crq_rule.specs.declared.view.Stand.{Stand}
use Rattle.crq_rule.specs.declared.view.Walk.{Walk}
use Rattle.crq_rule.specs.declared.view.Caller.{Caller}
use Rattle.crq_rule.specs.Core.{names_of, renamed}
use Rattle.crq_rule.specs.Places.{index, head, IsHead}
use Rattle.crq_rule.specs.Ranks.{shape_of, IsOpen, at_head}
use Rattle.crq_rule.specs.Helping.{old_head, is_mov, passes_head, passed_on, is_emptied_next}
use Rattle.crq_rule.specs.ListKinds.{no_take, begins_walk, walk_after, stands_after, new_stand, walks}
use Rattle.crq_rule.specs.CopyKinds.{stand_on}
use Rattle.crq_rows.specs.Passes.{caller, IsOwed, IsPassOf, load_made}
use Rattle.crq_list.specs.declared.parts.Progress.{Progress}
use Rattle.crq_list.specs.declared.parts.Progress.TheVariants.{More, Done}
use Rattle.crq_list.specs.Known.{last_known, turns_after}
use Rattle.crq_list.specs.Swaps.{Saw}
use Rattle.crq_list.proofs.HelpLaws.{walk_keeps}
use Rattle.crq_move.specs.declared.parts.PartEnd.{PartEnd}
use Rattle.crq_move.specs.declared.parts.PartEnd.TheVariants.{Done as PartDone, Passed}
use Rattle.crq_move.specs.declared.empty.MoveState.TheVariants.{Load, First}
use Rattle.crq_move.specs.declared.empty.MoveOp.{MoveOp}
use Rattle.crq_move.specs.Names.{unfronted_names}
use Rattle.crq_move.specs.Helpers.{FoundLater}
use Rattle.crq_move.specs.Binding.{IsFree}
use Rattle.crq_move.specs.Emptying.{IsAt, IsEmptying, HasPassed, state_exchanges, state_kind, state_rank, empty_left, EmptyAnswers, EmptyStepped}
use Rattle.crq_move.proofs.Orders.{head_low, old_in}
use Rattle.crq_move.proofs.HelperLaws.{help_fits, passed_stays, loaded_known, loaded_help}
use Rattle.crq_move.proofs.EmptySteps.{owes_on}
use Rattle.crq_move.proofs.EmptyLaws.{Aside, step_helper, step_prepared, step_frozen, step_counted, goes_on, empty_stepped}
use Rattle.crq_move.proofs.NameLaws.{fronts_owed}

-- a next head of the table that moves is counted where it is frozen and its list is empty
pub emptied_more : (x : Control) (j q : ℕ) (l : Link) (n m : ℕ) → m ≤ n → m < 2 ^ x.log → q ≡ old_head x j m → l.mark ≡ Mov → l.row ≡ 0 → m + 1 ≤ passed_on (is_emptied_next x j q l n) n
emptied_more x j q l n m low more is mov none = dite (ℕ_discrete n m)
    (λ same. let next : is_emptied_next x j q l n ≡ true = λ i. ((ap (λ z. ltb z (2 ^ x.log)) same ∙ lt-ltb m (2 ^ x.log) more) i && ((eq-eqb q (old_head x j n) (is ∙ ap (old_head x j) (sym same))) i && (ap is_mov mov) i)) && (eq-eqb l.row 0 none) i in
    subst (λ b. m + 1 ≤ passed_on b n) (sym next) (omega arith))
    (λ other. let stays = passed_stays (is_emptied_next x j q l n) n in omega arith)

-- the load of a head leaves what an emptying rests on
pub walk_aside : (q : ℕ) (l : Link) (e : Event) (p : Caller) → Aside p (walks (at_head q) no_take l e p)
walk_aside q l e p = record {
  stays = record { number = refl; start = refl; deal = refl; found = refl; guard = refl; permit = refl; sight = refl; told = refl };
  made = refl;
  own = refl;
  settle = refl;
  help = (walk_keeps (load_made WalkKind 0 0) (at_head q) no_take l e p).on.help;
}

-- such a load is of no take
no_walk : (q : ℕ) (s : Option Sight) (l : Link) (w : Option Walk) (ss : List Stand) → walk_after (at_head q) no_take s l w ss ≡ None
no_walk q None l w ss = refl
no_walk q (Some s) l w ss = cond_both (begins_walk s l) None None (λ (o : Option Walk). o ≡ None) (λ _. refl) (λ _. refl)

-- the caller stands on the row that a frozen head names, as its first one
pub front_stand : (q : ℕ) (s : Option Sight) (w : Option Walk) (l : Link) (e : Event) (ss : List Stand) → 0 < l.row → stand_on l.row (stands_after (at_head q) no_take (walk_after (at_head q) no_take s l w ss) l e ss) ≡ Some (new_stand (at_head q) l e)
front_stand q s w l e ss some = let stand : Stand = new_stand (at_head q) l e in
    ap (λ o. stand_on l.row (stands_after (at_head q) no_take o l e ss)) (no_walk q s l w ss)
    ∙ ap (λ b. stand_on l.row (cond b [] (stand ∷ []))) (ne_eqb l.row 0 (λ none. omega arith))
    ∙ ap (λ b. cond b (Some stand) None) (eq-eqb l.row l.row refl)

module _ (n : ℕ) (table : Table) (x : Control) (op : MoveOp) (old : Pass) (q : ℕ) (of : IsPassOf table old) (is : IsEmptying n table x op (caller table old)) (at : q ≡ old_head op.control old.number op.passed) where
  -- the next head is the one of the operation
  next_is : q ≡ old_head x (caller table old).number op.passed
  next_is = at ∙ (λ i. old_head (is.control i) (sym of.sits.numbered i) op.passed)

  next_in : IsOpen x q
  next_in = subst (IsOpen x) (sym next_is) (old_in x (caller table old).number op.passed is.more)

  -- and it is one of the two banks
  pub next_low : IsHead q
  next_low = head_low x.generation (shape_of x) q is.helper.is_control.log next_in

  -- that head was loaded, and was of a later table
  pub load_later : (new : Pass) (l : Link) → op.state ≡ Load → Saw table old new (at_head q) no_take l → l.generation ≢ op.control.generation → EmptyStepped n table x op op old new (Done Passed)
  load_later new l state s other = let p : Caller = caller table old in let made : Made = load_made WalkKind (index table.start.layout (head q)) (link_word l) in
      let free_old : IsFree p = subst (λ z. IsAt n table x op.passed z p) state is.at in
      let free : IsFree (caller table new) = (ap (λ (c : Caller). c.cut) s.part ∙ free_old.0, ap (λ (c : Caller). c.debts.copy) s.part ∙ free_old.1) in
      let low = (s.marked.1 x is.helper.control next_in).generation in let same = ap (λ (z : Control). z.generation) is.control in
      let later : FoundLater table x (caller table new) = record { at = q; link = l; before = p.made; bits = s.is_link; opened = next_in; made = ap (λ (c : Caller). c.made) s.part; later = omega arith } in
      empty_stepped n table x op old new is s.is made (walks (at_head q) no_take l s.event p) s.part (walk_aside q l s.event p) op (Done Passed) (sym (ap state_kind state)) (sym (ap state_exchanges state)) refl
      (λ yes. absurd (false≢true (sym (ap state_exchanges state) ∙ yes)))
      (subst (λ b. new.turns ≡ turns_after b old.turns) (sym (ap state_exchanges state)) (ap (λ (m : Pass). m.turns) s.same)) (ap (λ (m : Pass). m.number) s.same) (ap (λ (m : Pass). m.debts.settle) s.same)
      (free, subst (λ z. HasPassed table x z new) (sym state) (inl later))

  -- that head was loaded, and other fronts of it left out of what the pass names at run time
  module _ (mid : Pass) (debts : Debts) (l : Link) (state : op.state ≡ Load) (s : Saw table old mid (at_head q) no_take l) (now : l.generation ≡ op.control.generation) (names : debts ≡ renamed mid.debts (unfronted_names q l.row (names_of mid.debts))) where
    abbrev new : Pass
    new = record mid { debts = debts }

    abbrev p : Caller
    p = caller table old

    abbrev made : Made
    made = load_made WalkKind (index table.start.layout (head q)) (link_word l)

    abbrev walked : Caller
    walked = walks (at_head q) no_take l s.event p

    aside : Aside p walked
    aside = walk_aside q l s.event p

    now_is : l.generation ≡ x.generation
    now_is = now ∙ ap (λ (z : Control). z.generation) is.control

    -- the head is frozen, as all are
    mov : l.mark ≡ Mov
    mov = s.frozen x is.frozen.0 is.helper.control is.frozen.1 is.frozen.2 next_in now_is

    named : debts ≡ renamed old.debts (unfronted_names q l.row (names_of old.debts))
    named = names ∙ ap (λ (m : Pass). renamed m.debts (unfronted_names q l.row (names_of m.debts))) s.same

    is_new : IsPassOf table new
    is_new = owes_on table old mid new made walked debts of s.is.sits s.is.lawful (ap (λ (m : Pass). m.free) s.same) s.part refl
        (subst (λ d. IsOwed d walked.debts) (sym named) (fronts_owed p.found.control q p.position.rows l s.event old.debts p.debts mov of.debts)) refl

    free_old : IsFree p
    free_old = subst (λ z. IsAt n table x op.passed z p) state is.at

    free : IsFree (caller table new)
    free = (ap (λ (c : Caller). c.cut) s.part ∙ free_old.0, ap (λ (c : Caller). c.debts.copy) s.part ∙ free_old.1)

    -- whatever it answers, the step is one of the emptying
    stepped : (op' : MoveOp) (answer : Progress PartEnd) → EmptyAnswers n table x op op' old new answer → EmptyStepped n table x op op' old new answer
    stepped op' answer answers = empty_stepped n table x op old new is is_new made walked s.part aside op' answer (sym (ap state_kind state)) (sym (ap state_exchanges state)) refl
        (λ yes. absurd (false≢true (sym (ap state_exchanges state) ∙ yes)))
        (subst (λ b. new.turns ≡ turns_after b old.turns) (sym (ap state_exchanges state)) (ap (λ (m : Pass). m.turns) s.same)) (ap (λ (m : Pass). m.number) s.same) (ap (λ (d : Debts). d.settle) named) answers

    -- where there still is a second name, the emptying is given up
    pub load_over : (d : CutDebt) → debts.second_cut ≡ Some d → EmptyStepped n table x op op old new (Done Passed)
    load_over d is_two = stepped op (Done Passed) (free, subst (λ z. HasPassed table x z new) (sym state) (inr (d, is_two)))

    -- the list is empty, and its head passed
    pub load_passed : l.row ≡ 0 → debts.second_cut ≡ None → EmptyStepped n table x op (record op { passed = op.passed + 1; state = Load }) old new (cond (op.passed + 1 == 2 ^ op.control.log) (Done PartDone) More)
    load_passed none room = let h = is.emptied.0 in let helps = is.emptied.1 in let h' : Help = passes_head x p.number q l h in let now : (caller table new).help ≡ Some h' = loaded_help table old mid x q l h is.helper.control helps s in
        let op' : MoveOp = record op { passed = op.passed + 1; state = Load } in let size : 2 ^ op.control.log ≡ 2 ^ x.log = ap (λ (z : Control). 2 ^ z.log) is.control in
        let helper = step_helper n table x op old new is is_new made walked s.part aside in let prepared = step_prepared n table x op old new is is_new made walked s.part aside in let frozen = step_frozen n table x op old new is is_new made walked s.part aside in
        let more : op.passed + 1 ≤ h'.emptied = emptied_more x p.number q l h.emptied op.passed is.emptied.2 is.more next_is mov none in
        stepped op' (cond (op.passed + 1 == 2 ^ op.control.log) (Done PartDone) More) (dite (ℕ_discrete (op.passed + 1) (2 ^ op.control.log))
        (λ last. let all : h'.emptied ≡ 2 ^ x.log = let top = (help_fits x (caller table new) h' is_new.lawful helper.control now).emptied in omega arith in
        subst (λ b. EmptyAnswers n table x op op' old new (cond b (Done PartDone) More)) (sym (eq-eqb (op.passed + 1) (2 ^ op.control.log) last)) (helper, prepared, frozen, (h', now, all), free, room))
        (λ other. let low = is.more in let less : op.passed + 1 < 2 ^ x.log = omega arith in
        subst (λ b. EmptyAnswers n table x op op' old new (cond b (Done PartDone) More)) (sym (ne_eqb (op.passed + 1) (2 ^ op.control.log) other)) (
          record { counted = step_counted n table x op old new is is_new made walked s.part aside; control = is.control; helper = helper; prepared = prepared; frozen = frozen; emptied = (h', now, more); more = less; at = free },
          inl room,
          inr (subst (λ z. empty_left op' (caller table new) < (2 ^ op.control.log - op.passed) * 2 ^ 170 + state_rank z p) (sym state) (omega arith)),
        )))

    -- or it has a first row
    pub load_first : l.row ≢ 0 → debts.second_cut ≡ None → EmptyStepped n table x op (record op { state = First l }) old new More
    load_first other room = let some : 0 < l.row = omega arith in stepped (record op { state = First l }) More (
      goes_on n table x op old new is is_new made walked s.part aside (First l) (
        free,
        record {
          bits = s.is_link;
          frozen = mov;
          some_row = some;
          known = subst (λ z. last_known (drop n (caller table new).made) (index table.start.layout (head z)) ≡ Some (link_word l)) (next_is ∙ ap (λ j. old_head x j op.passed) (sym (ap (λ (c : Caller). c.number) s.part))) (loaded_known n table old mid q l is.counted s);
        },
        (
          new_stand (at_head q) l s.event,
          record {
            on = ap (λ (c : Caller). stand_on l.row c.position.rows) s.part ∙ front_stand q p.sight p.walk l s.event p.position.rows some;
            front = ap (λ m. cond (is_mov m) (Some q) None) mov ∙ ap (λ z. Some z) (next_is ∙ ap (λ j. old_head x j op.passed) (sym (ap (λ (c : Caller). c.number) s.part)));
            now = now_is;
          },
        ),
      ),
      room,
      inr (subst (λ z. empty_left (record op { state = First l }) (caller table new) < (2 ^ op.control.log - op.passed) * 2 ^ 170 + state_rank z p) (sym state) (omega arith)),
    )
