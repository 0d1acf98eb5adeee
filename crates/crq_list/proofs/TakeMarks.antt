-- What a take's exchange tells, and what is known of the cut of a row that it marked.
use Rattle.std.proofs.Common.{◌≢◌, ◌≡◌, ℕ, ◌≤◌, ◌==◌, cond, Bool, true, false, [], ◌∷◌, ◌++◌, drop, Some, le_refl, eq-eqb, sym, refl, ap, ◌∙◌, subst, arith}
use Rattle.std.proofs.lemmas.Bool.{false≢true, cond_both, eqb-true}
use Rattle.std.proofs.lemmas.List.{length-append}
use Rattle.crq_base.specs.declared.event.Event.{Event}
use Rattle.crq_base.specs.declared.entry.Entry.TheVariants.{Take}
use Rattle.crq_base.specs.declared.kinds.StepKind.TheVariants.{Mark as MarkKind}
use Rattle.crq_base.specs.declared.words.Link.{Link}
use Rattle.crq_base.specs.declared.words.Mark.TheVariants.{Del}
use Rattle.crq_base.specs.declared.words.Control.{Control}
use Rattle.crq_base.specs.Words.{IsControl, link_word}
use Rattle.crq_rule.specs.declared.pass.Pass.{Pass}
use Rattle.crq_rule.specs.declared.pass.Table.{Table}
use Rattle.crq_rule.specs.declared.view.Made.{Made}
use Rattle.crq_rule.specs.declared.view.Walk.{Walk}
use Rattle.crq_rule.specs.declared.view.Caller.{Caller}
use Rattle.crq_rule.specs.Places.{index, current, link as link_place, IsHead}
use Rattle.crq_rule.specs.Kinds.{makes}
use Rattle.crq_rule.specs.Ranks.{rank, bucket, shape_of, head_of, IsOpen, at_head, at_row}
use Rattle.crq_rule.specs.ListKinds.{StandsOn, MayMark, FoundFirst, marks, cut_debt}
use Rattle.crq_rule.specs.Moves.{Lawful}
use Rattle.crq_rows.specs.Passes.{caller, step_made, IsPassOf}
use Rattle.crq_list.specs.declared.parts.Before.{Before}
use Rattle.crq_list.specs.declared.parts.Place.{Place}
use Rattle.crq_list.specs.declared.parts.Place.TheVariants.{Bucket, Search}
use Rattle.crq_list.specs.declared.parts.Spot.TheVariants.{Head}
use Rattle.crq_list.specs.declared.parts.Progress.{Progress}
use Rattle.crq_list.specs.declared.parts.Progress.TheVariants.{More, Done}
use Rattle.crq_list.specs.declared.cut.CutOp.{CutOp}
use Rattle.crq_list.specs.declared.seek.SeekState.{SeekState}
use Rattle.crq_list.specs.declared.seek.SeekState.TheVariants.{Load as Begins, Passing}
use Rattle.crq_list.specs.declared.seek.Sought.{Sought}
use Rattle.crq_list.specs.declared.take.MarkEnd.{MarkEnd}
use Rattle.crq_list.specs.declared.take.MarkEnd.TheVariants.{Marked, Lost, Nothing}
use Rattle.crq_list.specs.declared.take.TakeOp.{TakeOp}
use Rattle.crq_list.specs.declared.take.TakeState.{TakeState}
use Rattle.crq_list.specs.declared.take.TakeState.TheVariants.{Load, Walking, Marking}
use Rattle.crq_list.specs.Known.{Works}
use Rattle.crq_list.specs.Spots.{cell, SweptPast}
use Rattle.crq_list.specs.Sweeps.{SweepsTo}
use Rattle.crq_list.specs.Seeking.{IsAt, IsSeeking, spot_of}
use Rattle.crq_list.specs.Cutting.{CutsSwept, IsCutting, head_link}
use Rattle.crq_list.specs.Swaps.{MarkSwapped, where_won}
use Rattle.crq_list.specs.Taking.{bucket_in, take_at, list_ends, goes_past, row_read, list_taken, cut_in, cut_of, NamesFirst, IsFirstKnown, IsFirstIn, IsTaking, IsUpToBucket, TakeAnswers, TakeStepped}
use Rattle.crq_list.proofs.SeekLaws.{cell_elsewhere}
use Rattle.crq_list.proofs.Heads.{head_open}
use Rattle.crq_list.proofs.StepLaws.{marks_apart}
use Rattle.crq_list.proofs.SweepLaws.{sweep_begins, past_on}
use Rattle.crq_list.proofs.SeekSteps.{one_event, one_target, now_list, open_list}
use Rattle.crq_list.proofs.TakeLoads.{in_place}
use Rattle.crq_list.proofs.TakeLaws.{names_on, row_apart}

-- the head of an event is one of the table
pub event_open : (x : Control) (e : Event) → IsControl x → IsHead (head_of x e) × IsOpen x (head_of x e)
event_open x e is = head_open x (bucket (shape_of x) e.time) is

module _ (n : ℕ) (table : Table) (op : TakeOp) (r : ℕ) (l : Link) (e : Event) (first : ℕ) (place : Place) (old new : Pass) (of : IsPassOf table old) (control : IsControl op.found)
    (t : IsTaking n table op.found (take_at (in_place op place) (Marking r l e first)) (caller table old)) where
  abbrev marker : Caller
  marker = caller table old

  abbrev mark_made : ℕ → Made
  mark_made found = step_made MarkKind (index table.start.layout (link_place r)) (link_word l) (link_word (record l { mark = Del })) found

  -- the exchange may be made
  pub may_mark : MayMark op.found r e marker
  may_mark = record { began = t.began; sight = (t.sees.0, t.sees.1); on = t.at.0.on; walks = (t.at.1.0, t.at.1.1, t.at.1.3); free = t.free }

  -- it expects the link that was found, and is to make the row dead

  mark_works : (found : ℕ) (won : Bool) → (w : Works n true marker (makes (mark_made found) (where_won won (marks op.found r e) marker))) × (w.step.kind ≡ MarkKind) × (w.step.word ≢ index table.start.layout current)
  mark_works found true = (
    record {
      stays = record { number = refl; start = refl; deal = refl; found = refl; guard = refl; permit = refl; sight = refl; told = refl };
      step = mark_made found;
      made = refl;
      kind = refl;
      expects = λ _. (t.at.0.known, marks_apart l t.at.0.present);
      timed = λ yes. absurd (cc);
      settle = λ _. refl;
    },
    refl,
    cell_elsewhere table.start.layout (at_row r),
  )
  mark_works found false = (
    record {
      stays = record { number = refl; start = refl; deal = refl; found = refl; guard = refl; permit = refl; sight = refl; told = refl };
      step = mark_made found;
      made = refl;
      kind = refl;
      expects = λ _. (t.at.0.known, marks_apart l t.at.0.present);
      timed = λ yes. absurd (cc);
      settle = λ _. refl;
    },
    refl,
    cell_elsewhere table.start.layout (at_row r),
  )

  -- the caller once the row is marked
  abbrev now_marked : ℕ → Caller
  now_marked found = makes (mark_made found) (marks op.found r e marker)

  -- the list of the event, and what is sought there
  abbrev its_head : ℕ
  its_head = head_of op.found e

  abbrev to_cut : Sought
  to_cut = record { list = list_taken op e; target = Some (e, r) }

  cut_at : (found : ℕ) (seek : SeekState) → spot_of seek ≡ Head its_head → IsAt n table op.found to_cut seek (now_marked found) → IsSeeking n table op.found to_cut seek (now_marked found)
  cut_at found seek head at = let opened = event_open op.found e control in record {
    counted = let c = t.counted in let longer = length-append marker.made (mark_made found ∷ []) in omega arith;
    on = t.on;
    list_is = open_list op.found (list_taken op e) (now_marked found) t.control refl opened.0 opened.1;
    target_is = now_list op.found op.found.generation e refl;
    swept = subst (λ z. SweepsTo table.start.layout (at_head its_head) (drop n (now_marked found).made) (cell z)) (sym head) (sweep_begins table.start.layout (at_head its_head) (drop n (now_marked found).made));
    at = at;
  }

  -- at the head
  cut_anew : (found : ℕ) → IsSeeking n table op.found to_cut (Begins (Head its_head)) (now_marked found)
  cut_anew found = cut_at found (Begins (Head its_head)) refl (t.uncut, refl)

  abbrev seen_first : ℕ → Before
  seen_first f = record { spot = Head its_head; link = head_link op.found.generation f }

  -- or in a bucket at the link that was found there, where it named the row
  module _ (known : IsFirstKnown n table.start.layout (take_at (in_place op place) (Marking r l e first)) (Marking r l e first) marker) (is : first ≡ r) (found : ℕ) where
    names : NamesFirst table.start.layout op.found.generation its_head r (drop n (now_marked found).made)
    names = subst (λ (z : ℕ × ℕ). NamesFirst table.start.layout op.found.generation z.0 z.1 (drop n (now_marked found).made)) (λ i. (sym known.1 i, is i))
        (names_on table.start.layout op.found.generation op.head first n marker.made (mark_made found) t.counted (row_apart table.start.layout op.head r t.at.0.some_row t.is_head) known.0)

    cut_first : Lawful (now_marked found) → IsSeeking n table op.found to_cut (Passing (seen_first r)) (now_marked found)
    cut_first law = let one : (g : Event) → StandsOn (now_marked found).position.rows r g → e ≡ g = λ g on. one_event (now_marked found) law r e g t.at.0.on on in
        cut_at found (Passing (seen_first r)) refl (
          t.uncut,
          record {
            passed = record {
              bits = names.bits;
              present = refl;
              generation = refl;
              known = names.known;
              reached = refl;
              swept = names.swept;
              next = λ some. record { event = e; on = known.2; belongs = now_list op.found op.found.generation e refl; beyond = tt };
              owed = record { ahead = λ d is owed. (t.at.0.some_row, λ g on. let same = one_target (e, r) (d.event, d.row) is.0 in subst (λ (z : Event × ℕ). rank g r ≤ rank z.0 z.1) same (subst (λ z. rank z r ≤ rank e r) (one g on) (le_refl (rank e r)))) };
            };
            some_row = t.at.0.some_row;
            up_to = λ g on. subst (λ z. rank z r ≤ rank e r) (one g on) (le_refl (rank e r));
          },
        )

    -- the list was swept past the row before it was marked
    swept_first : CutsSwept n table.start.layout to_cut (Passing (seen_first r)) (now_marked found)
    swept_first = record {
      event = e;
      row = r;
      target_is = refl;
      past = subst (λ z. SweptPast n table.start.layout z e r (now_marked found)) (sym known.1) (past_on n table.start.layout op.head e r marker (now_marked found) (mark_made found) refl t.counted (λ t f less on. on) (known.3 is));
      at = refl;
    }

  -- the cut of the row may begin
  cuts_in : (place' : Place) → IsFirstIn place' n table.start.layout (take_at (in_place op place) (Marking r l e first)) (Marking r l e first) marker → (found : ℕ) → Lawful (now_marked found)
      → IsCutting n table op.found (cut_in place' (in_place op place) r e first) (now_marked found)
  cuts_in (Bucket b) known found law = cond_both (first == r) (Passing (seen_first r)) (Begins (Head its_head))
      (λ (z : SeekState). IsSeeking n table op.found to_cut z (now_marked found) × ((first == r) ≡ true → CutsSwept n table.start.layout to_cut z (now_marked found)))
      (λ yes. let at = eqb-true first r yes in (cut_first known at found law, λ _. swept_first known at found)) (λ no. (cut_anew found, λ yes. absurd (false≢true (sym no ∙ yes))))
  cuts_in Search known found law = (cut_anew found, λ yes. absurd (false≢true yes))

  target_in : (place' : Place) → (cut_in place' (in_place op place) r e first).sought.target ≡ Some (e, r)
  target_in (Bucket b) = refl
  target_in Search = refl

  up_to_in : (place' : Place) (w : Walk) → w.bucket ≡ bucket_in place' → FoundFirst w.bucket op.found marker.position.rows w r e → IsUpToBucket op.found place' e
  up_to_in (Bucket b) w is found = (subst (λ o. FoundFirst o op.found marker.position.rows w r e) is found).1
  up_to_in Search w is found = tt

  module _ {won : Bool} (s : MarkSwapped table old new (at_row r) l op.found r e won) where
    mark_part : {b : Bool} → won ≡ b → caller table new ≡ makes (mark_made s.swapped.found) (where_won b (marks op.found r e) marker)
    mark_part is = s.swapped.part ∙ ap (λ b. makes (mark_made s.swapped.found) (where_won b (marks op.found r e) marker)) is

    marked_so : (answer : Progress MarkEnd) → TakeAnswers n table op.found (take_at (in_place op place) (Marking r l e first)) (take_at (in_place op place) Load) old new answer
        → TakeStepped n table op.found (take_at (in_place op place) (Marking r l e first)) (take_at (in_place op place) Load) old new answer
    marked_so answer answers = let did = subst (λ q. (w : Works n true marker q) × (w.step.kind ≡ MarkKind) × (w.step.word ≢ index table.start.layout current)) (sym s.swapped.part) (mark_works s.swapped.found won) in
        record { is = s.swapped.is; works = did.0; kind = did.1; elsewhere = did.2; turns = s.swapped.turns; number = s.swapped.number; free = s.free; answers = answers }

    pub marks_row : (c : CutOp) → c ≡ cut_of (in_place op place) r e first → won ≡ true → TakeStepped n table op.found (take_at (in_place op place) (Marking r l e first)) (take_at (in_place op place) Load) old new (Done (Marked r e c))
    marks_row c cut is = marked_so (Done (Marked r e c)) (
      ap (λ (q : Caller). q.own) (mark_part is) ∙ ap (λ j. marker.own ++ Take j e ∷ []) of.sits.numbered,
      t.at.2,
      s.debts ∙ ap (λ b. cond b (record old.debts { cut = Some (cut_debt op.found r e) }) old.debts) is,
      ap (λ (q : Caller). q.cut) (mark_part is) ∙ t.uncut,
      subst (λ z. IsCutting n table op.found z (caller table new)) (sym cut) (subst (IsCutting n table op.found (cut_of (in_place op place) r e first)) (sym (mark_part is)) (cuts_in place t.first s.swapped.found (subst Lawful (mark_part is) s.swapped.is.lawful))),
      ap (λ (z : CutOp). z.sought.target) cut ∙ target_in place,
      up_to_in place t.at.1.0 t.at.1.2 t.at.1.3,
      refl,
    )

    pub marks_not : won ≡ false → TakeStepped n table op.found (take_at (in_place op place) (Marking r l e first)) (take_at (in_place op place) Load) old new (Done Lost)
    marks_not is = marked_so (Done Lost) (
      ap (λ (q : Caller). q.own) (mark_part is),
      s.debts ∙ ap (λ b. cond b (record old.debts { cut = Some (cut_debt op.found r e) }) old.debts) is,
      refl,
      ap (λ (q : Caller). q.cut) (mark_part is) ∙ t.uncut,
      ap (λ (q : Caller). q.debts.cut) (mark_part is) ∙ t.free,
      (
        mark_made s.swapped.found,
        ap (λ (q : Caller). q.made) (mark_part is),
        refl,
        λ found. absurd (false≢true (sym is ∙ (sym s.swapped.won_is ∙ eq-eqb s.swapped.found (link_word l) found))),
      ),
    )

-- A step, whatever control word the take was made with, and at whatever state it is

pub with_control : (n : ℕ) (table : Table) (x : Control) (op op' : TakeOp) (old new : Pass) (answer : Progress MarkEnd) → (IsTaking n table op.found op (caller table old) → TakeStepped n table op.found op op' old new answer)
    → IsTaking n table x op (caller table old) → TakeStepped n table x op op' old new answer
with_control n table x op op' old new answer law t = subst (λ z. IsTaking n table z op (caller table old) → TakeStepped n table z op op' old new answer) t.control_is law t

-- what was answered is what is told
pub answers_so : (n : ℕ) (table : Table) (x : Control) (op : TakeOp) (old new : Pass) (answer to : TakeOp × Progress MarkEnd) → answer ≡ to → (IsControl op.found → IsTaking n table op.found op (caller table old) → TakeStepped n table op.found op to.0 old new to.1) → Lawful (caller table old)
    → IsTaking n table x op (caller table old) → TakeStepped n table x op answer.0 old new answer.1
answers_so n table x op old new answer to is law lawful t = subst (λ (z : TakeOp × Progress MarkEnd). TakeStepped n table x op z.0 old new z.1) (sym is)
    (with_control n table x op to.0 old new to.1 (λ u. law (lawful.controlled op.found u.control).0 u) t)

pub step_is : (n : ℕ) (table : Table) (x : Control) (op : TakeOp) (s : TakeState) (old new after : Pass) (to answer : TakeOp × Progress MarkEnd) → op.state ≡ s → after ≡ new → answer ≡ to
    → (IsTaking n table x (take_at op s) (caller table old) → TakeStepped n table x (take_at op s) to.0 old new to.1)
    → IsTaking n table x op (caller table old) → TakeStepped n table x op answer.0 old after answer.1
step_is n table x op s old new after to answer at pass_is to_is step t =
    subst (λ z. TakeStepped n table x op answer.0 old z answer.1) (sym pass_is)
    (subst (λ (z : TakeOp × Progress MarkEnd). TakeStepped n table x op z.0 old new z.1) (sym to_is)
    (subst (λ z. TakeStepped n table x (take_at op z) to.0 old new to.1) (sym at)
    (step (subst (λ z. IsTaking n table x (take_at op z) (caller table old)) at t))))

-- In a bucket only the state changes

pub past_in : (op : TakeOp) (b : ℕ) → op.place ≡ Bucket b → (l : Link) (f : ℕ) (told : TakeState × Progress MarkEnd) → told ≡ cond (l.row == 0) (Load, Done Nothing) (Walking l.row f, More) → (take_at op told.0, told.1) ≡ goes_past op l f
past_in op b at l f told is = ap (λ (z : TakeState × Progress MarkEnd). (take_at op z.0, z.1)) is ∙ (each (l.row == 0) ∙ ap (λ z. cond (l.row == 0) (list_ends z op) (take_at op (Walking l.row f), More)) (sym at))
  where
    each : (t : Bool) → let z : TakeState × Progress MarkEnd = cond t (Load, Done Nothing) (Walking l.row f, More) in ◌≡◌ {A = TakeOp × Progress MarkEnd} (take_at op z.0, z.1) (cond t (take_at op Load, Done Nothing) (take_at op (Walking l.row f), More))
    each true = refl
    each false = refl

pub row_in : (op : TakeOp) (b : ℕ) → op.place ≡ Bucket b → (r : ℕ) (l : Link) (e : Event) (f : ℕ) (told : TakeState × Progress MarkEnd) → (take_at op told.0, told.1) ≡ row_read (Bucket b) op r l e f → (take_at op told.0, told.1) ≡ row_read op.place op r l e f
row_in op b at r l e f told is = is ∙ ap (λ z. row_read z op r l e f) (sym at)
