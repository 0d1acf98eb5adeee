-- How the copy of a row begins, once its event was read.
use Rattle.std.proofs.Common.{◌≡◌, inl, inr, ℕ, ◌+◌, ◌^◌, ◌<◌, ◌≤◌, length, cond, List, [], ◌∷◌, slice_index_or, Some, None, refl, sym, ap, ◌∙◌, subst, arith, ne_eqb}
use Rattle.std.proofs.Math.Nat.{mod-lt}
use Rattle.std.proofs.lemmas.Nat.{pow_pos}
use Rattle.crq_base.specs.declared.event.Event.{Event}
use Rattle.crq_base.specs.declared.kinds.StepKind.TheVariants.{Read as ReadKind}
use Rattle.crq_base.specs.declared.words.Link.{Link}
use Rattle.crq_base.specs.declared.words.Control.{Control}
use Rattle.crq_base.specs.Lists.{In}
use Rattle.crq_rule.specs.declared.pass.Pass.{Pass}
use Rattle.crq_rule.specs.declared.pass.Table.{Table}
use Rattle.crq_rule.specs.declared.view.Stand.{Stand}
use Rattle.crq_rule.specs.declared.view.Caller.{Caller}
use Rattle.crq_rule.specs.Core.{names_of}
use Rattle.crq_rule.specs.Parts.{IsEvent}
use Rattle.crq_rule.specs.Places.{index}
use Rattle.crq_rule.specs.Ranks.{Shape, shape_of, next_of, bucket, head_for, head_in, next_list, IsHeadIn}
use Rattle.crq_rule.specs.ListKinds.{StandsOn, row_place}
use Rattle.crq_rows.specs.Passes.{caller, IsPassOf, Stepped, load_made}
use Rattle.crq_rows.specs.Reading.{stays}
use Rattle.crq_list.specs.declared.parts.ListAt.{ListAt}
use Rattle.crq_list.specs.declared.parts.Progress.TheVariants.{More, Done}
use Rattle.crq_list.specs.declared.insert.CopyOf.{CopyOf}
use Rattle.crq_list.specs.declared.insert.InsertOp.{InsertOp}
use Rattle.crq_list.specs.declared.insert.InsertState.TheVariants.{Writing}
use Rattle.crq_list.specs.Spots.{IsListOf}
use Rattle.crq_list.specs.Inserting.{IsInserting}
use Rattle.crq_list.proofs.InsertLaws.{moved_list}
use Rattle.crq_move.specs.declared.parts.PartEnd.TheVariants.{NeedRow}
use Rattle.crq_move.specs.declared.empty.MoveState.TheVariants.{Load, Read, Copy}
use Rattle.crq_move.specs.declared.empty.MoveOp.{MoveOp}
use Rattle.crq_move.specs.Reads.{IsRead}
use Rattle.crq_move.specs.Binding.{IsFree}
use Rattle.crq_move.specs.Emptying.{IsUncopied, IsAt, IsEmptying, NamesAt, state_exchanges, state_kind, EmptyStepped, NeedsRow}
use Rattle.crq_move.specs.Helpers.{IsHelper, AllFrozen}
use Rattle.crq_move.proofs.Orders.{head_low}
use Rattle.crq_move.proofs.EmptyLaws.{step_counted, step_helper, step_frozen, nothing_aside}
use Rattle.crq_move.proofs.RowLaws.{room_known}
use Rattle.crq_move.proofs.ReadLaws.{stood_event, read_all, less_left, read_made, read_stepped, read_on, reading, got_read, read_names}

-- the first element of a list stands in it
pub front_in : (xs : List ℕ) (r : ℕ) → 0 < length xs → r ≡ slice_index_or xs 0 r → In r xs
front_in [] r some is = absurd (omega arith)
front_in (x ∷ xs) r some is = inl is

-- the list of an event is one of its table
pub list_in_table : (g : ℕ) (s : Shape) (e : Event) → IsHeadIn g s (head_in g s e)
unfolding head_for
list_in_table g s e = let low = mod-lt (bucket s e.time) {m = 2 ^ s.log} (pow_pos s.log) in (omega arith, omega arith)

-- the event's list in the table that the open one moves into
abbrev pub list_next : Control → Event → ListAt
list_next x e = record { generation = x.generation + 1; head = next_list x e }

pub next_is_list : (x : Control) (e : Event) (p : Caller) → IsHelper x p → IsListOf x (list_next x e) p
next_is_list x e p is = let opened = list_in_table (x.generation + 1) (next_of x) e in record {
  control = is.control;
  told = inr (is.moving, refl);
  is_head = head_low (x.generation + 1) (next_of x) (next_list x e) is.is_control.new_log opened;
  opened = subst (λ s. IsHeadIn (x.generation + 1) s (next_list x e)) (ap (λ b. cond b (shape_of x) (next_of x)) (sym (ne_eqb (x.generation + 1) x.generation (λ same. omega arith)))) opened;
}

-- the insertion of the copy, of which nothing was written yet
abbrev pub begun : Control → Event → ℕ → CopyOf → InsertOp
begun x e copy of = record { list = list_next x e; row = copy; event = e; copy_of = Some of; state = Writing 1 }

pub copy_begins : (n : ℕ) (table : Table) (x : Control) (e : Event) (row copy : ℕ) (last : Link) (s : Stand) (pass : Pass) → n ≤ length (caller table pass).made → IsPassOf table pass → IsHelper x (caller table pass) → AllFrozen x (caller table pass) → IsFree (caller table pass)
    → IsUncopied x row last s (caller table pass) → s.event ≡ e → pass.debts.second_cut ≡ None → In copy pass.free.items → IsInserting n table x (begun x e copy (record { old = row; last = last })) (caller table pass)
copy_begins n table x e row copy last s pass counted of helper frozen free uncopied event_is room held = record {
  counted = counted;
  on = helper.on;
  list_is = next_is_list x e (caller table pass) helper;
  of_list = moved_list x (x.generation + 1) e refl;
  held = subst (In copy) of.free held;
  event = subst IsEvent event_is (stood_event table pass row s.event of uncopied.on);
  asks = record {
    none = free.1;
    room = room_known (names_of pass.debts) (names_of (caller table pass).debts) room of.debts.names;
    moving = helper.moving;
    next = refl;
    helps = frozen;
    stand = s;
    old = uncopied.old;
    old_row = uncopied.row_is;
    old_event = event_is;
    last = (uncopied.last_is, uncopied.now);
  };
  at = (free.0, omega arith, omega arith, (λ more. absurd (omega arith), λ place two less high. absurd (omega arith)));
}

-- the last word of the event was read
module _ (n : ℕ) (table : Table) (x : Control) (op : MoveOp) (old new : Pass) (is : IsEmptying n table x op (caller table old)) (row place word : ℕ) (s : Stepped table old new (load_made ReadKind (index table.start.layout (row_place row place)) word) stays)
    (last : Link) (read got : Event) (state : op.state ≡ Read row last read place) (room : NamesAt op.state old.debts) (gets : (e : Event) → StandsOn (caller table old).position.rows row e → IsRead place read e → IsRead (place + 1) got e) (five : 5 ≤ place) where
  abbrev was : IsAt n table x op.passed (Read row last read place) (caller table old)
  was = reading n table x op old new is row place word s last read got state room gets

  -- without a free row no copy begins
  pub read_short : new.free.items ≡ [] → EmptyStepped n table x op (record op { state = Load }) old new (Done NeedRow)
  read_short none = read_stepped n table x op old new is row place word s (record op { state = Load }) (Done NeedRow) (ap state_kind state) (ap state_exchanges state) (read_on n table x op old new is row place word s Load was.0, refl, read_names n table x op old new is row place word s last read got state room gets, subst (λ z. NeedsRow z new) (sym state) none)

  -- with one the copy begins
  pub read_done : (copy : ℕ) → In copy new.free.items → EmptyStepped n table x op (record op { state = Copy (begun x got copy (record { old = row; last = last })) }) old new More
  read_done copy held = let m = read_made n table x op old new is row place word s in let p = caller table old in let aside = nothing_aside p in let u = was.1.1 in let o : CopyOf = record { old = row; last = last } in
      let read6 = got_read n table x op old new is row place word s last read got state room gets in
      let begins = copy_begins n table x got row copy last was.1.0 new (step_counted n table x op old new is s.is m p s.part aside) s.is (step_helper n table x op old new is s.is m p s.part aside) (step_frozen n table x op old new is s.is m p s.part aside)
      (subst IsFree (sym s.part) was.0) (subst (IsUncopied x row last was.1.0) (sym s.part) record { old = u.old; row_is = u.row_is; on = u.on; last_is = u.last_is; now = u.now })
      (read_all (place + 1) got was.1.0.event read6 (omega arith)) (read_names n table x op old new is row place word s last read got state room gets) held in
      read_stepped n table x op old new is row place word s (record op { state = Copy (begun x got copy o) }) More (ap state_kind state) (ap state_exchanges state) (
        read_on n table x op old new is row place word s (Copy (begun x got copy o)) (subst (IsInserting n table x (begun x got copy o)) s.part begins, (o, refl)),
        read_names n table x op old new is row place word s last read got state room gets,
        inr (less_left op (Read row last read place) (Copy (begun x got copy o)) p (caller table new) state (let high = was.3 in omega arith)),
      )

  -- as the operation spells it
  pub read_begins : (begins : InsertOp) (copy head : ℕ) → In copy new.free.items → head ≡ next_list op.control got
      → begins ≡ record { list = record { generation = op.control.generation + 1; head = head }; row = copy; event = got; copy_of = Some (record { old = row; last = last }); state = Writing 1 } → EmptyStepped n table x op (record op { state = Copy begins }) old new More
  read_begins begins copy head held head_is spelled = let o : CopyOf = record { old = row; last = last } in let at : begins ≡ begun x got copy o =
      spelled ∙ (λ i. record { list = record { generation = (is.control i).generation + 1; head = (head_is ∙ ap (λ z. next_list z got) is.control) i }; row = copy; event = got; copy_of = Some o; state = Writing 1 }) in
      subst (λ z. EmptyStepped n table x op (record op { state = Copy z }) old new More) (sym at) (read_done copy held)
