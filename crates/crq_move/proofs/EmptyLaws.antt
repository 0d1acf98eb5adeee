-- What the steps of an emptying have in common.
use Rattle.std.proofs.Common.{◌≡◌, ◌≢◌, ℕ, ◌≤◌, cond, Bool, true, false, [], ◌∷◌, ◌++◌, length, drop, Some, refl, sym, ap, ◌∙◌, subst, arith}
use Rattle.std.proofs.lemmas.Bool.{false≢true}
use Rattle.std.proofs.lemmas.Nat.{pow_pos}
use Rattle.crq_base.specs.declared.words.Control.{Control}
use Rattle.crq_rule.specs.declared.pass.Pass.{Pass}
use Rattle.crq_rule.specs.declared.pass.Table.{Table}
use Rattle.crq_rule.specs.declared.view.Help.{Help}
use Rattle.crq_rule.specs.declared.view.Made.{Made}
use Rattle.crq_rule.specs.declared.view.Caller.{Caller}
use Rattle.crq_rule.specs.Kinds.{makes}
use Rattle.crq_rule.specs.Moves.{Lawful}
use Rattle.crq_rows.specs.Known.{is_exchange, is_tick}
use Rattle.crq_rows.specs.Passes.{caller, IsPassOf}
use Rattle.crq_rows.proofs.Knowing.{longer}
use Rattle.crq_list.specs.declared.parts.Progress.{Progress}
use Rattle.crq_list.specs.Known.{last_known, Stays, Works, turns_after}
use Rattle.crq_list.specs.Helps.{HelpGrows}
use Rattle.crq_move.specs.declared.parts.PartEnd.{PartEnd}
use Rattle.crq_move.specs.declared.empty.MoveState.{MoveState}
use Rattle.crq_move.specs.declared.empty.MoveState.TheVariants.{Load}
use Rattle.crq_move.specs.declared.empty.MoveOp.{MoveOp}
use Rattle.crq_move.specs.Helpers.{IsHelper, AllPrepared, AllFrozen}
use Rattle.crq_move.specs.Binding.{IsFree}
use Rattle.crq_move.specs.Emptying.{IsAt, IsEmptying, empty_exchanges, empty_kind, EmptyAnswers, EmptyStepped}
use Rattle.crq_move.proofs.HelperLaws.{help_fits, helper_stays, counted_on}

-- A step's change leaves what an emptying rests on: who the caller is and what it was told, its entries, its help, and the event that it owes
pub record Aside (p r : Caller) : Type 0 where
  pub stays : Stays p r
  pub made : r.made ≡ p.made
  pub own : r.own ≡ p.own
  pub settle : r.debts.settle ≡ p.debts.settle
  pub help : (h : Help) → p.help ≡ Some h → (i : Help) × (r.help ≡ Some i) × HelpGrows h i

-- a helper that passed no more heads
pub grows_none : (h : Help) → HelpGrows h h
grows_none h = record { generation = refl; prepared = omega arith; frozen = omega arith; emptied = omega arith; epoch = refl; pin = refl }

pub nothing_aside : (p : Caller) → Aside p p
nothing_aside p = record {
  stays = record { number = refl; start = refl; deal = refl; found = refl; guard = refl; permit = refl; sight = refl; told = refl };
  made = refl;
  own = refl;
  settle = refl;
  help = λ h is. (h, is, grows_none h);
}

-- an exchange changes it, or doesn't
pub won_aside : (f : Caller → Caller) (won : Bool) (p : Caller) → Aside p (f p) → Aside p (cond won (f p) p)
won_aside f true p a = a
won_aside f false p a = nothing_aside p

-- the one step m works
pub made_works : (n : ℕ) (b : Bool) (m : Made) (p r q : Caller) → q ≡ makes m r → Aside p r → is_exchange m.kind ≡ b → is_tick m.kind ≡ false → (b ≡ true → (last_known (drop n p.made) m.word ≡ Some m.first) × (m.first ≢ m.second))
    → (w : Works n b p q) × (w.step ≡ m)
made_works n b m p r q part aside swaps no_tick expects = let a = aside.stays in (
  record {
    stays = subst (Stays p) (sym part) record { number = a.number; start = a.start; deal = a.deal; found = a.found; guard = a.guard; permit = a.permit; sight = a.sight; told = a.told };
    step = m;
    made = ap (λ (c : Caller). c.made) part ∙ ap (λ ms. ms ++ m ∷ []) aside.made;
    kind = swaps;
    expects = λ yes. expects (sym swaps ∙ yes);
    timed = λ yes. absurd (false≢true (sym no_tick ∙ yes));
    settle = λ _. ap (λ (c : Caller). c.debts.settle) part ∙ aside.settle;
  },
  refl,
)

-- where an emptying begins
pub empty_begins : (n : ℕ) (table : Table) (x : Control) (p : Caller) → n ≤ length p.made → IsHelper x p → AllPrepared x p → AllFrozen x p → IsFree p → IsEmptying n table x (record { control = x; passed = 0; state = Load }) p
empty_begins n table x p counted helper prepared frozen free = let more = pow_pos x.log in
    record { counted = counted; control = refl; helper = helper; prepared = prepared; frozen = frozen; emptied = (helper.helps.0, helper.helps.1, omega arith); more = more; at = free }

-- a helper that goes on knows no fewer heads to be open and frozen
module _ (x : Control) (p q : Caller) (is : IsHelper x p) (law : Lawful q) (stays : Stays p q) (grows : (h : Help) → p.help ≡ Some h → (i : Help) × (q.help ≡ Some i) × HelpGrows h i) where
  pub helper_on : IsHelper x q
  helper_on = let h = is.helps in let i = grows h.0 h.1 in helper_stays x p q is stays (i.0, i.1, i.2.generation ∙ h.2)

  pub prepared_on : AllPrepared x p → AllPrepared x q
  prepared_on all = let i = grows all.0 all.1 in let top = (help_fits x q i.0 law helper_on.control i.1).prepared in let low = i.2.prepared in let full = all.2 in (i.0, i.1, omega arith)

  pub frozen_on : AllFrozen x p → AllFrozen x q
  frozen_on all = let i = grows all.0 all.1 in let top = (help_fits x q i.0 law helper_on.control i.1).frozen in let low = i.2.frozen in let full = all.2 in (i.0, i.1, omega arith)

-- one step m was made, which left what an emptying rests on
module _ (n : ℕ) (table : Table) (x : Control) (op : MoveOp) (old new : Pass) (is : IsEmptying n table x op (caller table old)) (is_new : IsPassOf table new) (m : Made) (r : Caller) (part : caller table new ≡ makes m r) (aside : Aside (caller table old) r) where
  grows : (h : Help) → (caller table old).help ≡ Some h → (i : Help) × ((caller table new).help ≡ Some i) × HelpGrows h i
  grows h helps = let i = aside.help h helps in (i.0, ap (λ (c : Caller). c.help) part ∙ i.1, i.2)

  stays : Stays (caller table old) (caller table new)
  stays = let a = aside.stays in subst (Stays (caller table old)) (sym part) record { number = a.number; start = a.start; deal = a.deal; found = a.found; guard = a.guard; permit = a.permit; sight = a.sight; told = a.told }

  pub step_helper : IsHelper x (caller table new)
  step_helper = helper_on x (caller table old) (caller table new) is.helper is_new.lawful stays grows

  pub step_prepared : AllPrepared x (caller table new)
  step_prepared = prepared_on x (caller table old) (caller table new) is.helper is_new.lawful stays grows is.prepared

  pub step_frozen : AllFrozen x (caller table new)
  step_frozen = frozen_on x (caller table old) (caller table new) is.helper is_new.lawful stays grows is.frozen

  pub step_counted : n ≤ length (caller table new).made
  step_counted = subst (λ ms. n ≤ length ms) (sym (ap (λ (c : Caller). c.made) part ∙ ap (λ ms. ms ++ m ∷ []) aside.made)) (longer n (caller table old).made m is.counted)

  -- the emptying is at this state of the same head
  pub goes_on : (state : MoveState) → IsAt n table x op.passed state (caller table new) → IsEmptying n table x (record op { state = state }) (caller table new)
  goes_on state at = let e = is.emptied in let i = grows e.0 e.1 in let low = e.2 in let more = i.2.emptied in record {
    counted = step_counted;
    control = is.control;
    helper = step_helper;
    prepared = step_prepared;
    frozen = step_frozen;
    emptied = (i.0, i.1, omega arith);
    more = is.more;
    at = at;
  }

  -- and the step is one of the emptying, with what it answers
  pub empty_stepped : (op' : MoveOp) (answer : Progress PartEnd) → m.kind ≡ empty_kind op → is_exchange m.kind ≡ empty_exchanges op → is_tick m.kind ≡ false
      → (empty_exchanges op ≡ true → (last_known (drop n (caller table old).made) m.word ≡ Some m.first) × (m.first ≢ m.second))
      → new.turns ≡ turns_after (empty_exchanges op) old.turns → new.number ≡ old.number → new.debts.settle ≡ old.debts.settle → EmptyAnswers n table x op op' old new answer → EmptyStepped n table x op op' old new answer
  empty_stepped op' answer kind swaps no_tick expects turns number settle answers =
      let w = made_works n (empty_exchanges op) m (caller table old) r (caller table new) part aside swaps no_tick expects in record {
        is = is_new;
        works = w.0;
        kind_is = ap (λ (s : Made). s.kind) w.1 ∙ kind;
        turns = turns;
        number = number;
        settle = settle;
        own = ap (λ (c : Caller). c.own) part ∙ aside.own;
        answers = answers;
      }

-- where an operation on a list made the step, the emptying is at this state of the same head
pub works_on : (n : ℕ) (table : Table) (x : Control) (op : MoveOp) (p q : Caller) (b : Bool) → IsEmptying n table x op p → Lawful q → Works n b p q → ((h : Help) → p.help ≡ Some h → (i : Help) × (q.help ≡ Some i) × HelpGrows h i)
    → (state : MoveState) → IsAt n table x op.passed state q → IsEmptying n table x (record op { state = state }) q
works_on n table x op p q b is law works grows state at = let e = is.emptied in let i = grows e.0 e.1 in let low = e.2 in let more = i.2.emptied in record {
  counted = counted_on n b p q works is.counted;
  control = is.control;
  helper = helper_on x p q is.helper law works.stays grows;
  prepared = prepared_on x p q is.helper law works.stays grows is.prepared;
  frozen = frozen_on x p q is.helper law works.stays grows is.frozen;
  emptied = (i.0, i.1, omega arith);
  more = is.more;
  at = at;
}
