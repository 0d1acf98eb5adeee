-- The stages of a call: what holds of the pass between two parts, and what the parts make together.
use Rattle.std.proofs.Common.{◌≡◌, inr, ℕ, ◌+◌, ◌*◌, ◌%◌, ◌^◌, ◌<◌, ◌≤◌, List, [], ◌∷◌, ◌++◌, length, Some, None, refl, sym, ap, ◌∙◌, subst, le_refl, arith}
use Rattle.std.proofs.lemmas.List.{append-nil}
use Rattle.std.proofs.lemmas.Nat.{pow_pos, pow_below}
use Rattle.std.proofs.Math.Nat.{pow-le-pow_right, one-mul, mod-eq_of_lt}
use Rattle.crq_base.specs.declared.entry.Entry.{Entry}
use Rattle.crq_base.specs.declared.entry.Entry.TheVariants.{Begin, Miss}
use Rattle.crq_base.specs.declared.event.Event.{Event}
use Rattle.crq_base.specs.declared.kinds.StepKind.TheVariants.{Begin as BeginKind, ControlLoad, Miss as MissKind}
use Rattle.crq_base.specs.declared.words.Control.{Control}
use Rattle.crq_base.specs.Words.{IsControl}
use Rattle.crq_rule.specs.declared.debts.Debts.{Debts}
use Rattle.crq_rule.specs.declared.pass.Pass.{Pass}
use Rattle.crq_rule.specs.declared.pass.Table.{Table}
use Rattle.crq_rule.specs.declared.view.Found.{Found}
use Rattle.crq_rule.specs.declared.view.Made.{Made}
use Rattle.crq_rule.specs.declared.view.Caller.{Caller}
use Rattle.crq_rule.specs.Places.{IsHead}
use Rattle.crq_rule.specs.Parts.{IsOn}
use Rattle.crq_rule.specs.Ranks.{head_for, bucket, head_of, IsOpen}
use Rattle.crq_rule.specs.ListKinds.{begins, misses, loads_control}
use Rattle.crq_rows.specs.Passes.{caller, IsSeated, IsPassOf}
use Rattle.crq_list.specs.Swaps.{Controlled}
use Rattle.crq_queue.specs.Wholes.{IsResting}
use Rattle.crq_queue.specs.Runs.{RanAs, Ran, RanUnraised, KeepsEvent, ticks_of, MayRun, IsInside}
use Rattle.crq_queue.specs.Parts.{Entered, Left}
use Rattle.crq_queue.specs.Calls.{Called, CalledAs, call}
use Rattle.crq_queue.specs.Stages.{anew}
use Rattle.crq_queue.proofs.RunLaws.{ran_quiet, may_run_on}

-- The heads of the open table

pub head_open : (x : Control) (e : Event) → IsControl x → IsHead (head_of x e) × IsOpen x (head_of x e)
unfolding head_for bucket
head_open x e is = let some = pow_pos x.log in let log = is.log in let few : 2 ^ x.log ≤ 2 ^ 15 = pow-le-pow_right {n = 2} (omega arith) {i = x.log} {j = 15} (omega arith) in (omega arith, (omega arith, omega arith))

pub list_open : (x : Control) (k : ℕ) → IsControl x → k < 2 ^ x.log → IsHead (x.generation % 2 * 32768 + k) × IsOpen x (x.generation % 2 * 32768 + k)
list_open x k is low = let log = is.log in let few : 2 ^ x.log ≤ 2 ^ 15 = pow-le-pow_right {n = 2} (omega arith) {i = x.log} {j = 15} (omega arith) in (omega arith, (omega arith, omega arith))

-- how many lists there are, as a shift of 32 bits gives it
pub list_count : (x : Control) → IsControl x → 1 * 2 ^ x.log % 2 ^ 32 ≡ 2 ^ x.log
list_count x is = ap (λ n. n % 2 ^ 32) (one-mul (2 ^ x.log)) ∙ mod-eq_of_lt (pow_below x.log 32 (let low = is.log in omega arith))

-- Between two parts

-- what is known of the event that is owed goes on to agree with what the pass has at run time
pub agrees_on : {table : Table} {old new : Pass} → (caller table old).debts.settle ≡ old.debts.settle → KeepsEvent table old new → (caller table new).debts.settle ≡ new.debts.settle
agrees_on agrees k = k.known ∙ (agrees ∙ sym k.run)

-- the pass is inside a call
pub record IsAtWork (table : Table) (x : Control) (pass : Pass) : Type 0 where
  pub is : IsPassOf table pass
  pub inside : IsInside table x pass
  pub settle : (caller table pass).debts.settle ≡ pass.debts.settle
  pub copy : pass.debts.copy ≡ None
  pub second_cut : pass.debts.second_cut ≡ None

module _ {table : Table} {n budget : ℕ} {old new : Pass} where
  pub may_go : {Makes : List Made → Type 0} {es : List Entry} → MayRun table n budget old → RanAs Makes table n budget old new es → MayRun table n budget new
  may_go may ran = may_run_on may.low ran

  pub goes_inside : {x : Control} → IsResting table old → (caller table old).found.control ≡ Some x → Entered table n budget old new → IsAtWork table x new
  goes_inside r found e = record {
    is = e.ran.is;
    inside = record { on = e.on; uncut = e.keeps.uncut r.cut; control = ap (λ (f : Found). f.control) e.keeps.found ∙ found };
    settle = agrees_on r.settle e.keeps.event;
    copy = e.ran.copy ∙ r.copy;
    second_cut = e.ran.second_cut ∙ r.second_cut;
  }

  pub works_on : {Makes : List Made → Type 0} {x y : Control} {es : List Entry} → IsAtWork table x old → RanAs Makes table n budget old new es → IsInside table y new → KeepsEvent table old new → IsAtWork table y new
  works_on w ran inside event = record { is = ran.is; inside = inside; settle = agrees_on w.settle event; copy = ran.copy ∙ w.copy; second_cut = ran.second_cut ∙ w.second_cut }

  pub comes_to_rest : {x : Control} → IsAtWork table x old → Left table n budget old new → IsResting table new
  comes_to_rest w l = record { is = l.ran.is; guard = l.off; cut = l.keeps.uncut w.inside.uncut; settle = agrees_on w.settle l.keeps.event; copy = l.ran.copy ∙ w.copy; second_cut = l.ran.second_cut ∙ w.second_cut }

-- Loads of the control word

module _ {table : Table} {old new : Pass} where
  rests_on : IsResting table old → IsPassOf table new → new ≡ record old { seat = new.seat } → (caller table new).guard ≡ (caller table old).guard → (caller table new).cut ≡ (caller table old).cut → (caller table new).debts ≡ (caller table old).debts → IsResting table new
  rests_on r of same guard cut known = let debts = ap (λ (p : Pass). p.debts) same in record {
    is = of;
    guard = guard ∙ r.guard;
    cut = cut ∙ r.cut;
    settle = ap (λ (d : Debts). d.settle) known ∙ (r.settle ∙ sym (ap (λ (d : Debts). d.settle) debts));
    copy = ap (λ (d : Debts). d.copy) debts ∙ r.copy;
    second_cut = ap (λ (d : Debts). d.second_cut) debts ∙ r.second_cut;
  }

  module _ {x : Control} (c : Controlled ControlLoad table old new loads_control x) where
    pub load_rests : IsResting table old → IsResting table new
    load_rests r = rests_on r c.is c.same (ap (λ (p : Caller). p.guard) c.part) (ap (λ (p : Caller). p.cut) c.part) (ap (λ (p : Caller). p.debts) c.part)

    pub load_found : (caller table new).found.control ≡ Some x
    load_found = ap (λ (p : Caller). p.found.control) c.part

    pub load_keeps : KeepsEvent table old new
    load_keeps = record { run = ap (λ (p : Pass). p.debts.settle) c.same; known = ap (λ (p : Caller). p.debts.settle) c.part; permit = ap (λ (p : Caller). p.permit) c.part }

    pub load_ran : {n budget : ℕ} → MayRun table n budget old → Ran table n budget old new []
    load_ran may = ran_quiet _ [] may c.is c.same refl refl (ap (λ (p : Caller). p.made) c.part) (ap (λ (p : Caller). p.deal) c.part) (ap (λ (p : Caller). p.told) c.part) (ap (λ (p : Caller). p.own) c.part ∙ sym (append-nil (caller table old).own))

  module _ {x : Control} (c : Controlled BeginKind table old new begins x) where
    pub begin_rests : IsResting table old → IsResting table new
    begin_rests r = rests_on r c.is c.same (ap (λ (p : Caller). p.guard) c.part) (ap (λ (p : Caller). p.cut) c.part) (ap (λ (p : Caller). p.debts) c.part)

    pub begin_found : (caller table new).found.control ≡ Some x
    begin_found = ap (λ (p : Caller). p.found.control) c.part

    pub begin_ran : {n budget : ℕ} → IsPassOf table old → MayRun table n budget old → Ran table n budget old new (Begin old.number ∷ [])
    begin_ran of may = ran_quiet _ (Begin old.number ∷ []) may c.is c.same refl refl (ap (λ (p : Caller). p.made) c.part) (ap (λ (p : Caller). p.deal) c.part) (ap (λ (p : Caller). p.told) c.part)
        (ap (λ (p : Caller). p.own) c.part ∙ ap (λ j. (caller table old).own ++ Begin j ∷ []) of.sits.numbered)

  module _ {x : Control} {limit : ℕ} (c : Controlled MissKind table old new (misses limit) x) where
    pub miss_inside : {y : Control} → IsInside table y old → IsInside table x new
    miss_inside i = record {
      on = subst (λ (p : Caller). IsOn p.guard) (sym c.part) i.on;
      uncut = ap (λ (p : Caller). p.cut) c.part ∙ i.uncut;
      control = ap (λ (p : Caller). p.found.control) c.part;
    }

    pub miss_keeps : KeepsEvent table old new
    miss_keeps = record { run = ap (λ (p : Pass). p.debts.settle) c.same; known = ap (λ (p : Caller). p.debts.settle) c.part; permit = ap (λ (p : Caller). p.permit) c.part }

    pub miss_ran : {n budget : ℕ} → IsPassOf table old → MayRun table n budget old → Ran table n budget old new (Miss old.number limit ∷ [])
    miss_ran of may = ran_quiet _ (Miss old.number limit ∷ []) may c.is c.same refl refl (ap (λ (p : Caller). p.made) c.part) (ap (λ (p : Caller). p.deal) c.part) (ap (λ (p : Caller). p.told) c.part)
        (ap (λ (p : Caller). p.own) c.part ∙ ap (λ j. (caller table old).own ++ Miss j limit ∷ []) of.sits.numbered)

-- A whole call

pub seated_anew : {table : Table} {pass : Pass} (debts : Debts) (turns : ℕ) → IsSeated table pass → IsSeated table (record pass { debts = debts; turns = turns })
seated_anew debts turns s = record { seated = s.seated; bare = s.bare; one = s.one; numbered = s.numbered; inside = s.inside; started = s.started }

module _ {table : Table} {old : Pass} where
  -- the exchanges are counted from none on
  pub rests_anew : IsResting table old → IsResting table (anew old)
  rests_anew r = record {
    is = record { sits = seated_anew old.debts 0 r.is.sits; lawful = r.is.lawful; free = r.is.free; room = r.is.room; debts = r.is.debts };
    guard = r.guard;
    cut = r.cut;
    settle = r.settle;
    copy = r.copy;
    second_cut = r.second_cut;
  }

  pub called_as : {Makes Raises : List Made → Type 0} {budget : ℕ} {new : Pass} {es : List Entry} (ran : RanAs Makes table (length (caller table old).made) budget (anew old) new es) → IsResting table new → ticks_of ran.since ≤ 3 → Raises ran.since → CalledAs Raises (call table budget old) new es
  called_as ran rests few raises = record { rests = rests; number = ran.number; deal = ran.deal; own = ran.own; told = ran.told; since = ran.since; made = ran.made; fair = ran.fair; turns = let t = ran.turns in omega arith; within = let t = ran.turns in let w = ran.within in omega arith; ticks = few; raises = raises }

  pub called : {budget most : ℕ} {new : Pass} {es : List Entry} → most ≤ 3 → RanUnraised table (length (caller table old).made) budget most (anew old) new es → IsResting table new → Called (call table budget old) new es
  called few ran rests = called_as ran rests (let t = ran.makes.0 in omega arith) ran.makes.1

  -- the row that was to be cut isn't owed any more
  pub is_uncut : IsPassOf table old → (caller table old).debts.cut ≡ None → IsPassOf table (record old { debts = record old.debts { cut = None } })
  is_uncut of none = record { sits = seated_anew (record old.debts { cut = None }) old.turns of.sits; lawful = of.lawful; free = of.free; room = of.room; debts = record { settle = of.debts.settle; copy = of.debts.copy; names = inr (inr (λ i. record { first = none i; second = of.lawful.ordered none i })) } }

  pub uncut_ran : {n budget : ℕ} {start : Pass} {es : List Entry} → Ran table n budget start old es → IsPassOf table (record old { debts = record old.debts { cut = None } }) → Ran table n budget start (record old { debts = record old.debts { cut = None } }) es
  uncut_ran r of = record { is = of; number = r.number; deal = r.deal; own = r.own; told = r.told; copy = r.copy; second_cut = r.second_cut; since = r.since; made = r.made; fair = r.fair; turns = r.turns; makes = r.makes; within = r.within; counted = r.counted }

pub may_anew : (table : Table) (old : Pass) {budget : ℕ} → budget < 4294967296 → MayRun table (length (caller table old).made) budget (anew old)
may_anew table old low = record { counted = le_refl (length (caller table old).made); within = omega arith; low = low }

-- a part may also be looked at as if its call had begun before all steps
pub may_from_none : {table : Table} {budget : ℕ} {pass : Pass} → pass.turns ≤ budget → budget < 4294967296 → MayRun table 0 budget pass
may_from_none within low = record { counted = omega arith; within = within; low = low }
