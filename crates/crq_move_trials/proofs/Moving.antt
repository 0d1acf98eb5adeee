-- What the callers of a table that may move know when they put an event, and when they begin to help.
use Rattle.std.proofs.Common.{◌≡◌, inl, inr, ⊎_elim, ℕ, zero, suc, ◌-◌, ◌<◌, min, cond, true, List, [], ◌∷◌, ◌++◌, length, get_or, Some, None, refl, sym, ap, ◌∙◌, subst, arith}
use Rattle.std.specs.Prelude.{◌^◌, ◌≤◌, false, Option, is_some, slice_get}
use Rattle.std.proofs.lemmas.Bool.{false≢true}
use Rattle.std.proofs.lemmas.Option.{slice_get_within}
use Rattle.std.proofs.lemmas.Nat.{pow_pos}
use Rattle.std.proofs.Math.Nat.{div-one, min-eq_left, pow-le-pow_right}
use Rattle.crq_base.specs.declared.entry.Entry.{Entry}
use Rattle.crq_base.specs.declared.event.Event.{Event}
use Rattle.crq_base.specs.declared.words.Control.{Control}
use Rattle.crq_base.specs.Words.{IsControl}
use Rattle.crq_base.specs.Lists.{In}
use Rattle.crq_base.specs.Sources.{IsFresh}
use Rattle.crq_rule.specs.declared.debts.Debts.{Debts}
use Rattle.crq_rule.specs.declared.pass.Pass.{Pass}
use Rattle.crq_rule.specs.declared.pass.Seating.{Seating}
use Rattle.crq_rule.specs.declared.pass.Seating.TheVariants.{Here}
use Rattle.crq_rule.specs.declared.pass.Table.{Table}
use Rattle.crq_rule.specs.declared.view.Deal.{Deal}
use Rattle.crq_rule.specs.Parts.{IsEvent}
use Rattle.crq_rule.specs.Places.{IsHead}
use Rattle.crq_rule.specs.Ranks.{head_for, bucket, head_of, IsOpen}
use Rattle.crq_rule.specs.Helping.{new_help}
use Rattle.crq_rows.specs.Passes.{caller, IsNew, AreNew}
use Rattle.crq_rows.proofs.Deals.{same_pass}
use Rattle.crq_list.specs.declared.insert.InsertOp.{InsertOp}
use Rattle.crq_list.specs.declared.insert.InsertState.TheVariants.{Writing}
use Rattle.crq_list.specs.declared.parts.ListAt.{ListAt}
use Rattle.crq_list.specs.Spots.{IsListOf}
use Rattle.crq_list.specs.Inserting.{IsInserting}
use Rattle.crq_list.proofs.SeekSteps.{now_open, now_list}
use Rattle.crq_move.specs.declared.help.HelpOp.{HelpOp}
use Rattle.crq_move.specs.declared.help.HelpPart.TheVariants.{Prepare, Empty}
use Rattle.crq_move.specs.declared.empty.MoveOp.{MoveOp}
use Rattle.crq_move.specs.declared.empty.MoveState.TheVariants.{Bind}
use Rattle.crq_move.specs.declared.bind.BindOp.{BindOp}
use Rattle.crq_move.specs.declared.bind.BindState.TheVariants.{Twin}
use Rattle.crq_move.specs.declared.prepare.PrepareState.TheVariants.{Load}
use Rattle.crq_move.specs.Helpers.{IsHelper}
use Rattle.crq_move.specs.Binding.{the_binding}
use Rattle.crq_move.specs.Emptying.{IsAt, IsEmptying, NamesAt}
use Rattle.crq_move.specs.Helping.{IsAtPart, RoomAt}
use Rattle.crq_move.proofs.BindingLaws.{binding_begins}
use Rattle.crq_list.specs.Operations.{IsUnderWay}
use Rattle.crq_move.proofs.PrepareLaws.{prepare_begins}
use Rattle.crq_move_trials.specs.Moving.{AreNewPlaces, HasEntered, MayHelp}

-- New passes in their places

in_front : {A : Type 0} (xs ys : List A) (x : A) → In x xs → In x (xs ++ ys)
in_front [] ys x i = absurd i
in_front (y ∷ xs) ys x i = ⊎_elim (λ e. inl e) (λ h. inr (in_front xs ys x h)) i

in_end : {A : Type 0} (xs : List A) (x : A) → In x (xs ++ x ∷ [])
in_end [] x = inl refl
in_end (y ∷ xs) x = inr (in_end xs x)

-- an element has a place
place_of : {A : Type 0} (xs : List A) (x : A) → In x xs → (k : ℕ) × (slice_get xs k ≡ Some x)
place_of [] x i = absurd i
place_of (y ∷ xs) x i = ⊎_elim (λ e. (zero, ap Some (sym e))) (λ h. let p = place_of xs x h in (suc p.0, p.1)) i

-- a pass that stands in a place of a new table is new
lifted_new : (table : Table) (places : List Seating) (j : ℕ) (pass : Pass) → j < table.start.layout.workers → AreNew table places → slice_get places j ≡ Some (Here pass) → IsNew table j pass
lifted_new table places j pass b new at = let h = new.each j b in subst (IsNew table j) (same_pass h.0 pass (sym h.1 ∙ at)) h.2

-- all passes of a new table are
pub all_new : (table : Table) (places : List Seating) → AreNew table places → AreNewPlaces table places
all_new table places new pass i = let at = place_of places (Here pass) i in let b = slice_get_within places at.0 (Here pass) at.1 in let wide = new.wide in (at.0, lifted_new table places at.0 pass (omega arith) new at.1)

-- one was taken off their end
module _ {table : Table} {old : List Seating} (new : List Seating) (all : AreNewPlaces table old) where
  pub fewer_new : (ys : List Seating) → old ≡ new ++ ys → AreNewPlaces table new
  fewer_new ys is pass i = all pass (subst (In (Here pass)) (sym is) (in_front new ys (Here pass) i))

  pub last_new : (pass : Pass) → old ≡ new ++ Here pass ∷ [] → (j : ℕ) × IsNew table j pass
  last_new pass is = all pass (subst (In (Here pass)) (sym is) (in_end new (Here pass)))

-- The first free row is in hand
pub first_held : (xs : List ℕ) (r : ℕ) → 0 < length xs → ((d : ℕ) → r ≡ get_or xs 0 d) → In r xs
first_held [] r some first = absurd (omega arith)
first_held (x ∷ xs) r some first = inl (first 0)

-- an event of the caller's own source is fresh where it has made no entry
first_fresh : (w j : ℕ) (e : Event) (d : Deal) (own : List Entry) → j < w → d ≡ record { history = []; span = 1 } → own ≡ [] → e.src ≡ j → IsFresh w d.history own d.span j e
first_fresh w j e d own inside dealt none source = subst (λ (z : Deal × List Entry). IsFresh w z.0.history z.1 z.0.span j e) (λ i. (sym dealt i, sym none i)) (
  ap (λ n. min n (w - 1)) (div-one e.src ∙ source) ∙ min-eq_left (omega arith),
  λ k f i. ⊎_elim (λ x. absurd x) (λ x. absurd x) i,
)

-- the list of an event, in the open table
event_head : (x : Control) (e : Event) → IsControl x → IsHead (head_of x e) × IsOpen x (head_of x e)
unfolding head_for bucket
event_head x e is = let some = pow_pos x.log in let log = is.log in let few : 2 ^ x.log ≤ 2 ^ 15 = pow-le-pow_right {n = 2} (omega arith) {i = x.log} {j = 15} (omega arith) in (omega arith, (omega arith, omega arith))

pub none_of : {A : Type 0} (o : Option A) → is_some o ≡ false → o ≡ None
none_of None is = refl
none_of (Some a) is = absurd (false≢true (sym is))

module _ {table : Table} {x : Control} {pass : Pass} (h : HasEntered table x pass) where
  event_list : (list : ListAt) (e : Event) → (list.generation ≡ x.generation) × (list.head ≡ head_of x e) → IsListOf x list (caller table pass)
  event_list list e names = let heads = event_head x e h.is_control in record {
    control = h.inside.control;
    told = inl names.0;
    is_head = subst IsHead (sym names.1) heads.0;
    opened = now_open x list.generation list.head names.0 (subst (IsOpen x) (sym names.1) heads.1);
  }

  -- it may put the event into its list
  pub may_put : (op : InsertOp) (list : ListAt) (e : Event) (r : ℕ) → (list.generation ≡ x.generation) × (list.head ≡ head_of x e) → IsEvent op.event → In r pass.free.items → e.src ≡ pass.number
      → op ≡ record { list = list; row = r; event = e; copy_of = None; state = Writing 1 } → IsInserting 0 table x op (caller table pass)
  may_put op list e r names event held source is = let s = h.of.sits in let inside = s.inside in subst (λ (op : InsertOp). IsInserting 0 table x op (caller table pass)) (sym is) record {
    counted = omega arith;
    on = h.inside.on;
    list_is = event_list list e names;
    of_list = now_list x list.generation e names.0 ∙ sym names.1;
    held = subst (In r) h.of.free held;
    event = subst IsEvent (ap (λ (o : InsertOp). o.event) is) event;
    asks = record {
      settled = ap (λ (d : Debts). d.settle) h.debts;
      permit = h.permit;
      opened = names.0;
      fresh = first_fresh table.start.layout.workers (caller table pass).number e (caller table pass).deal (caller table pass).own (let n = s.numbered in omega arith) h.deal h.own (source ∙ sym s.numbered);
    };
    at = (h.inside.uncut, omega arith, omega arith, (λ b. absurd (omega arith), λ place low high _. absurd (omega arith)));
  }

  is_helper : x.moving ≡ true → IsHelper x (caller table pass)
  is_helper moving = record {
    on = h.inside.on;
    control = h.inside.control;
    is_control = h.is_control;
    moving = moving;
    helps = (new_help x.generation, h.help ∙ ap (λ b. cond b (Some (new_help x.generation)) None) moving, refl);
  }

  -- a move is helped from its begin
  pub may_help : (op : HelpOp) → x.moving ≡ true → pass.debts.second_cut ≡ None → op ≡ record { control = x; part = Prepare (record { control = x; passed = 0; state = Load }) } → MayHelp table (Some op, pass)
  may_help op moving room is = subst (λ (op : HelpOp). MayHelp table (Some op, pass)) (sym is) (
    h.of,
    ((0, x, record { control = refl; at = (prepare_begins 0 table x (caller table pass) (omega arith) (is_helper moving), (h.inside.uncut, ap (λ (d : Debts). d.copy) h.debts)) }), inl room),
  )

-- a copy that a helper left owed can be bound by what its pass owes alone
pub left_binding : (table : Table) (pass : Pass) (op : HelpOp) (e : MoveOp) (b : BindOp) → op.part ≡ Empty e → e.state ≡ Bind b → MayHelp table (Some op, pass) → IsUnderWay the_binding table (record { debt = b.debt; state = Twin }, pass) × (pass.debts.second_cut ≡ None)
left_binding table pass op e b part state may = let u = may.1.0 in let emptying : IsEmptying u.0 table u.1 e (caller table pass) = subst (λ z. IsAtPart u.0 table u.1 z (caller table pass)) part u.2.at in
    let binding = subst (λ z. IsAt u.0 table u.1 e.passed z (caller table pass)) state emptying.at in (
      (u.0, u.1, binding_begins u.0 table b.debt (caller table pass) emptying.counted binding.0.uncut binding.0.copy),
      subst (λ z. NamesAt z pass.debts) state (subst (λ z. RoomAt z pass.debts) part may.1.1),
    )
