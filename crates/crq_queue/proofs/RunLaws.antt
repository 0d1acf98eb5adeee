-- Parts of a call, one after another.
use Rattle.std.proofs.Common.{◌≡◌, ℕ, ◌+◌, ◌*◌, ◌<◌, ◌≤◌, ◌==◌, cond, Bool, true, false, List, [], ◌∷◌, ◌++◌, length, Option, Some, None, sym, refl, ap, ◌∙◌, subst, le_refl, arith}
use Rattle.std.proofs.lemmas.List.{append_assoc, append-nil, length-append}
use Rattle.std.proofs.lemmas.Bool.{false≢true}
use Rattle.std.proofs.Math.Nat.{mul-add}
use Rattle.crq_base.specs.declared.entry.Entry.{Entry}
use Rattle.crq_rule.specs.declared.pass.Pass.{Pass}
use Rattle.crq_rule.specs.declared.pass.Table.{Table}
use Rattle.crq_rule.specs.declared.view.Made.{Made}
use Rattle.crq_rule.specs.declared.view.Caller.{Caller}
use Rattle.crq_rule.specs.Parts.{IsOn}
use Rattle.crq_rows.specs.Passes.{caller, IsPassOf}
use Rattle.crq_base.specs.declared.kinds.StepKind.{StepKind}
use Rattle.crq_base.specs.declared.kinds.StepKind.TheVariants.{Raise}
use Rattle.crq_rows.specs.Known.{is_exchange, is_tick, rather, known_by, Stays, Works, turns_after}
use Rattle.crq_rows.proofs.Working.{plain_no_tick}
use Rattle.crq_queue.specs.Runs.{exchanges_of, ticks_of, claims_of, is_on_current, is_raise, on_current, raises_of, raises_won, failures_of, row_after, raises_after, current_known, IsFair, ToldMore, RanAs, Ran, RanTicks, RanUnraised, RanRaising, Apart, Unraised, Raising, KeepsEvent, KeepsOwed, MayRun}
use Rattle.crq_queue.specs.Parts.{IsUsedUp}

-- steps, and steps after them

pub exchanges_append : (xs ys : List Made) → exchanges_of (xs ++ ys) ≡ exchanges_of xs + exchanges_of ys
exchanges_append [] ys = omega arith
exchanges_append (m ∷ xs) ys = let r = exchanges_append xs ys in omega arith

pub ticks_append : (xs ys : List Made) → ticks_of (xs ++ ys) ≡ ticks_of xs + ticks_of ys
ticks_append [] ys = omega arith
ticks_append (m ∷ xs) ys = let r = ticks_append xs ys in omega arith

pub claims_append : (xs ys : List Made) → claims_of (xs ++ ys) ≡ claims_of xs + claims_of ys
claims_append [] ys = omega arith
claims_append (m ∷ xs) ys = let r = claims_append xs ys in omega arith

pub on_append : (xs ys : List Made) → on_current (xs ++ ys) ≡ on_current xs + on_current ys
on_append [] ys = omega arith
on_append (m ∷ xs) ys = let r = on_append xs ys in omega arith

pub raises_append : (xs ys : List Made) → raises_of (xs ++ ys) ≡ raises_of xs + raises_of ys
raises_append [] ys = omega arith
raises_append (m ∷ xs) ys = let r = raises_append xs ys in omega arith

pub won_append : (xs ys : List Made) → raises_won (xs ++ ys) ≡ raises_won xs + raises_won ys
won_append [] ys = omega arith
won_append (m ∷ xs) ys = let r = won_append xs ys in omega arith

pub failures_append : (xs ys : List Made) → failures_of (xs ++ ys) ≡ failures_of xs + failures_of ys
failures_append [] ys = omega arith
failures_append (m ∷ xs) ys = let r = failures_append xs ys in omega arith

pub row_append : (r : ℕ) (xs ys : List Made) → raises_after r (xs ++ ys) ≡ raises_after (raises_after r xs) ys
row_append r [] ys = refl
row_append r (m ∷ xs) ys = row_append (row_after r m) xs ys

rather_assoc : (a b c : Option ℕ) → rather (rather a b) c ≡ rather a (rather b c)
rather_assoc None b c = refl
rather_assoc (Some x) b c = refl

pub current_append : (xs ys : List Made) → current_known (xs ++ ys) ≡ rather (current_known ys) (current_known xs)
current_append [] ys = rather_none (current_known ys)
  where
    rather_none : (o : Option ℕ) → o ≡ rather o None
    rather_none None = refl
    rather_none (Some x) = refl
current_append (m ∷ xs) ys = ap (λ o. rather o (cond (is_on_current m.kind) (Some (known_by m)) None)) (current_append xs ys) ∙ rather_assoc (current_known ys) (current_known xs) (cond (is_on_current m.kind) (Some (known_by m)) None)

-- steps none of which is on current don't raise it, and tell nothing of it

raise_on_current : (k : StepKind) → is_on_current k ≡ false → is_raise k ≡ false
raise_on_current Raise e = e
raise_on_current _ e = refl

-- the first step isn't counted, and so no other one
none_first : (b : Bool) (n : ℕ) → cond {A = ℕ} b 1 0 + n ≡ 0 → (b ≡ false) × (n ≡ 0)
none_first true n e = absurd (omega arith)
none_first false n e = (refl, omega arith)

pub apart_raises : (ms : List Made) → on_current ms ≡ 0 → raises_of ms ≡ 0
apart_raises [] e = refl
apart_raises (m ∷ ms) e = let first = none_first (is_on_current m.kind) (on_current ms) e in let rest = apart_raises ms first.1 in
    let none : cond {A = ℕ} (is_raise m.kind) 1 0 ≡ 0 = ap (λ (b : Bool). cond {A = ℕ} b 1 0) (raise_on_current m.kind first.0) in omega arith

pub apart_current : (ms : List Made) → on_current ms ≡ 0 → current_known ms ≡ None
apart_current [] e = refl
apart_current (m ∷ ms) e = let first = none_first (is_on_current m.kind) (on_current ms) e in
    ap (λ o. rather o (cond (is_on_current m.kind) (Some (known_by m)) None)) (apart_current ms first.1) ∙ ap (λ (b : Bool). cond b (Some (known_by m)) None) first.0

-- steps that don't raise current leave the row of raises, and none is won
pub calm_row : (r : ℕ) (ms : List Made) → raises_of ms ≡ 0 → raises_after r ms ≡ r
calm_row r [] e = refl
calm_row r (m ∷ ms) e = let first = none_first (is_raise m.kind) (raises_of ms) e in
    ap (λ (b : Bool). raises_after (cond b (cond (m.found == m.first) (r + 1) 0) r) ms) first.0 ∙ calm_row r ms first.1

pub calm_won : (ms : List Made) → raises_of ms ≡ 0 → raises_won ms ≡ 0
calm_won [] e = refl
calm_won (m ∷ ms) e = let first = none_first (is_raise m.kind) (raises_of ms) e in let rest = calm_won ms first.1 in
    let none : cond {A = ℕ} (is_raise m.kind) (cond {A = ℕ} (m.found == m.first) 1 0) 0 ≡ 0 = ap (λ (b : Bool). cond {A = ℕ} b (cond {A = ℕ} (m.found == m.first) 1 0) 0) first.0 in omega arith

pub fair_append : (n : ℕ) (made xs ys : List Made) → IsFair n made xs → IsFair n (made ++ xs) ys → IsFair n made (xs ++ ys)
fair_append n made [] ys f g = subst (λ ms. IsFair n ms ys) (append-nil made) g
fair_append n made (m ∷ xs) ys f g = (f.0, fair_append n (made ++ m ∷ []) xs ys f.1 (subst (λ ms. IsFair n ms ys) (sym (append_assoc made (m ∷ []) xs)) g))

-- what was told

pub told_same : {p q : Caller} → q.told ≡ p.told → ToldMore p q
told_same {p} {q} e = record { tables = let t = ap (λ z. z.tables) e in omega arith; settled = let s = ap (λ z. z.settled) e in omega arith }

pub told_trans : {p q r : Caller} → ToldMore p q → ToldMore q r → ToldMore p r
told_trans a b = record { tables = let s = a.tables in let t = b.tables in omega arith; settled = let s = a.settled in let t = b.settled in omega arith }

-- A part of a call without a step

pub ran_none : {table : Table} {n budget : ℕ} {pass : Pass} → IsPassOf table pass → MayRun table n budget pass → Ran table n budget pass pass []
ran_none {table} {n} {budget} {pass} of may = record {
  is = of;
  number = refl;
  deal = refl;
  own = sym (append-nil (caller table pass).own);
  told = told_same refl;
  copy = refl;
  second_cut = refl;
  since = [];
  made = sym (append-nil (caller table pass).made);
  fair = tt;
  turns = omega arith;
  makes = (omega arith, refl);
  within = may.within;
  counted = may.counted;
}

-- after a part the call may make another
pub may_run_on : {Makes : List Made → Type 0} {table : Table} {n budget : ℕ} {old new : Pass} {entries : List Entry} → budget < 4294967296 → RanAs Makes table n budget old new entries → MayRun table n budget new
may_run_on low ran = record { counted = ran.counted; within = ran.within; low = low }

-- two parts
pub ran_join : {A B C : List Made → Type 0} {table : Table} {n budget : ℕ} {old mid new : Pass} {es fs : List Entry} → ((xs ys : List Made) → A xs → B ys → C (xs ++ ys)) → RanAs A table n budget old mid es → RanAs B table n budget mid new fs → RanAs C table n budget old new (es ++ fs)
ran_join {A} {B} {C} {table} {n} {budget} {old} {mid} {new} {es} {fs} join a b = record {
  is = b.is;
  number = b.number ∙ a.number;
  deal = b.deal ∙ a.deal;
  own = b.own ∙ (ap (λ xs. xs ++ fs) a.own ∙ append_assoc (caller table old).own es fs);
  told = told_trans a.told b.told;
  copy = b.copy ∙ a.copy;
  second_cut = b.second_cut ∙ a.second_cut;
  since = a.since ++ b.since;
  made = b.made ∙ (ap (λ ms. ms ++ b.since) a.made ∙ append_assoc (caller table old).made a.since b.since);
  fair = fair_append n (caller table old).made a.since b.since a.fair (subst (λ ms. IsFair n ms b.since) a.made b.fair);
  turns = let p = a.turns in let q = b.turns in let r = exchanges_append a.since b.since in omega arith;
  makes = join a.since b.since a.makes b.makes;
  within = b.within;
  counted = b.counted;
}

apart_both : (k l : ℕ) (xs ys : List Made) → Apart k xs → Apart l ys → Apart (k + l) (xs ++ ys)
apart_both k l xs ys a b = (let s = ticks_append xs ys in let t = a.0 in let u = b.0 in omega arith, let s = on_append xs ys in let t = a.1 in let u = b.1 in omega arith)

pub ran_both : {table : Table} {n budget k l : ℕ} {old mid new : Pass} {es fs : List Entry} → RanTicks table n budget k old mid es → RanTicks table n budget l mid new fs → RanTicks table n budget (k + l) old new (es ++ fs)
ran_both {table} {n} {budget} {k} {l} a b = ran_join (apart_both k l) a b

pub ran_trans : {table : Table} {n budget : ℕ} {old mid new : Pass} {es fs : List Entry} → Ran table n budget old mid es → Ran table n budget mid new fs → Ran table n budget old new (es ++ fs)
ran_trans a b = ran_both {k = 0} {l = 0} a b

calm_both : (k l : ℕ) (xs ys : List Made) → Unraised k xs → Unraised l ys → Unraised (k + l) (xs ++ ys)
calm_both k l xs ys a b = (let s = ticks_append xs ys in let t = a.0 in let u = b.0 in omega arith, let s = raises_append xs ys in let t = a.1 in let u = b.1 in omega arith)

pub calm_join : {table : Table} {n budget k l : ℕ} {old mid new : Pass} {es fs : List Entry} → RanUnraised table n budget k old mid es → RanUnraised table n budget l mid new fs → RanUnraised table n budget (k + l) old new (es ++ fs)
calm_join {table} {n} {budget} {k} {l} a b = ran_join (calm_both k l) a b

pub calm_trans : {table : Table} {n budget : ℕ} {old mid new : Pass} {es fs : List Entry} → RanUnraised table n budget 0 old mid es → RanUnraised table n budget 0 mid new fs → RanUnraised table n budget 0 old new (es ++ fs)
calm_trans a b = calm_join {k = 0} {l = 0} a b

raising_both : (most a b c : ℕ) (xs ys : List Made) → Raising most a b xs → Raising most b c ys → Raising most a c (xs ++ ys)
raising_both most a b c xs ys p q = (
  let s = ticks_append xs ys in let t = p.0 in let u = q.0 in omega arith,
  row_append a xs ys ∙ (ap (λ r. raises_after r ys) p.1 ∙ q.1),
  let w = won_append xs ys in let s = p.2 in let t = q.2 in let more : most * failures_of (xs ++ ys) ≡ most * failures_of xs + most * failures_of ys = ap (λ z. most * z) (failures_append xs ys) ∙ mul-add most (failures_of xs) (failures_of ys) in omega arith,
)

pub raising_join : {table : Table} {n budget : ℕ} (most a b c : ℕ) {old mid new : Pass} {es fs : List Entry} → RanRaising table n budget most a b old mid es → RanRaising table n budget most b c mid new fs → RanRaising table n budget most a c old new (es ++ fs)
raising_join most a b c p q = ran_join (raising_both most a b c) p q

-- the same steps, of which something else is said
pub ran_as : {A B : List Made → Type 0} {table : Table} {n budget : ℕ} {old new : Pass} {es : List Entry} (r : RanAs A table n budget old new es) → B r.since → RanAs B table n budget old new es
ran_as r makes = record { is = r.is; number = r.number; deal = r.deal; own = r.own; told = r.told; copy = r.copy; second_cut = r.second_cut; since = r.since; made = r.made; fair = r.fair; turns = r.turns; makes = makes; within = r.within; counted = r.counted }

-- a part with so many ticks at most
pub ran_ticks : {table : Table} {n budget k l : ℕ} {old new : Pass} {es : List Entry} (r : RanTicks table n budget k old new es) → ticks_of r.since ≤ l → RanTicks table n budget l old new es
ran_ticks r few = ran_as r (few, r.makes.1)

-- a part that makes no step on current doesn't raise it, and so leaves the row of raises
pub ran_calm : {table : Table} {n budget k : ℕ} {old new : Pass} {es : List Entry} → RanTicks table n budget k old new es → RanUnraised table n budget k old new es
ran_calm r = ran_as r (r.makes.0, apart_raises r.since r.makes.1)

pub calm_raising : {table : Table} {n budget : ℕ} {old new : Pass} {es : List Entry} (most row : ℕ) → RanUnraised table n budget 0 old new es → RanRaising table n budget most row row old new es
calm_raising most row r = ran_as r (let t = r.makes.0 in omega arith, calm_row row r.since r.makes.1, let w = calm_won r.since r.makes.1 in omega arith)

-- a step that is no tick counts as none
pub none_ticks : (m : Made) → is_tick m.kind ≡ false → ticks_of (m ∷ []) ≡ 0
none_ticks m is = let none : cond {A = ℕ} (is_tick m.kind) 1 0 ≡ 0 = ap (λ (b : Bool). cond {A = ℕ} b 1 0) is in omega arith

pub none_on : (m : Made) → is_on_current m.kind ≡ false → on_current (m ∷ []) ≡ 0
none_on m is = let none : cond {A = ℕ} (is_on_current m.kind) 1 0 ≡ 0 = ap (λ (b : Bool). cond {A = ℕ} b 1 0) is in omega arith

-- One step that is no exchange

pub ran_load : {Makes : List Made → Type 0} {table : Table} {n budget : ℕ} {old new : Pass} (m : Made) (entries : List Entry) → MayRun table n budget old → IsPassOf table new → new.number ≡ old.number → new.debts.copy ≡ old.debts.copy → new.debts.second_cut ≡ old.debts.second_cut → new.turns ≡ old.turns
    → is_exchange m.kind ≡ false → Makes (m ∷ []) → (caller table new).made ≡ (caller table old).made ++ m ∷ [] → (caller table new).deal ≡ (caller table old).deal → ToldMore (caller table old) (caller table new) → (caller table new).own ≡ (caller table old).own ++ entries → RanAs Makes table n budget old new entries
ran_load {Makes} {table} {n} {budget} {old} {new} m entries may is number copy second_cut turns quiet makes made deal told own = record {
  is = is;
  number = number;
  deal = deal;
  own = own;
  told = told;
  copy = copy;
  second_cut = second_cut;
  since = m ∷ [];
  made = made;
  fair = (λ swaps. absurd (false≢true (sym quiet ∙ swaps)), tt);
  turns = let none : cond {A = ℕ} (is_exchange m.kind) 1 0 ≡ 0 = ap (λ (b : Bool). cond {A = ℕ} b 1 0) quiet in omega arith;
  makes = makes;
  within = let w = may.within in omega arith;
  counted = let k = may.counted in let more = ap length made in let by = length-append (caller table old).made (m ∷ []) in omega arith;
}

-- and that step alone
pub load_both : {Makes : List Made → Type 0} {table : Table} {n budget : ℕ} {old new : Pass} (m : Made) (entries : List Entry) → MayRun table n budget old → IsPassOf table new → new.number ≡ old.number → new.debts.copy ≡ old.debts.copy → new.debts.second_cut ≡ old.debts.second_cut → new.turns ≡ old.turns
    → is_exchange m.kind ≡ false → Makes (m ∷ []) → (caller table new).made ≡ (caller table old).made ++ m ∷ [] → (caller table new).deal ≡ (caller table old).deal → ToldMore (caller table old) (caller table new) → (caller table new).own ≡ (caller table old).own ++ entries → (ran : RanAs Makes table n budget old new entries) × (ran.since ≡ m ∷ [])
unfolding ran_load
load_both m entries may is number copy second_cut turns quiet makes made deal told own = (ran_load m entries may is number copy second_cut turns quiet makes made deal told own, refl)

pub ran_quiet : {table : Table} {n budget : ℕ} {old new : Pass} (m : Made) (entries : List Entry) → MayRun table n budget old → IsPassOf table new → new ≡ record old { seat = new.seat } → is_exchange m.kind ≡ false → is_on_current m.kind ≡ false
    → (caller table new).made ≡ (caller table old).made ++ m ∷ [] → (caller table new).deal ≡ (caller table old).deal → (caller table new).told ≡ (caller table old).told → (caller table new).own ≡ (caller table old).own ++ entries → Ran table n budget old new entries
ran_quiet m entries may is same quiet apart made deal told own = ran_load m entries may is (ap (λ (p : Pass). p.number) same) (ap (λ (p : Pass). p.debts.copy) same) (ap (λ (p : Pass). p.debts.second_cut) same) (ap (λ (p : Pass). p.turns) same) quiet
    (let none = none_ticks m (plain_no_tick m.kind quiet) in omega arith, none_on m apart) made deal (told_same told) own

-- One step of an operation, which is made only where the budget allows

-- the exchanges counted after it
pub counts : (exchanges : Bool) (turns budget : ℕ) → turns ≤ budget → budget < 4294967296 → (exchanges ≡ true → turns < budget) → (turns_after exchanges turns ≡ turns + cond exchanges 1 0) × (turns_after exchanges turns ≤ budget)
counts false turns budget within low room = (omega arith, within)
counts true turns budget within low room = let b = room refl in (omega arith, omega arith)

pub ran_step : {table : Table} {n budget : ℕ} {old new : Pass} (exchanges : Bool) (entries : List Entry) → MayRun table n budget old → (exchanges ≡ true → old.turns < budget) → IsPassOf table new → new.number ≡ old.number
    → new.debts.copy ≡ old.debts.copy → new.debts.second_cut ≡ old.debts.second_cut
    → (works : Works n exchanges (caller table old) (caller table new)) → is_on_current works.step.kind ≡ false → new.turns ≡ turns_after exchanges old.turns → (caller table new).own ≡ (caller table old).own ++ entries → RanTicks table n budget (ticks_of (works.step ∷ [])) old new entries
ran_step {table} {n} {budget} {old} {new} exchanges entries may room is number copy second_cut works apart turns own = let after = counts exchanges old.turns budget may.within may.low room in record {
  is = is;
  number = number;
  deal = works.stays.deal;
  own = own;
  told = told_same works.stays.told;
  copy = copy;
  second_cut = second_cut;
  since = works.step ∷ [];
  made = works.made;
  fair = (works.expects, tt);
  turns = let one : cond {A = ℕ} (is_exchange works.step.kind) 1 0 ≡ cond {A = ℕ} exchanges 1 0 = ap (λ (b : Bool). cond {A = ℕ} b 1 0) works.kind in let a = after.0 in omega arith;
  makes = (le_refl (ticks_of (works.step ∷ [])), none_on works.step apart);
  within = let a = after.1 in omega arith;
  counted = let k = may.counted in let more = ap length works.made in let by = length-append (caller table old).made (works.step ∷ []) in omega arith;
}

-- under a guard it is no tick
pub guarded : {n : ℕ} {exchanges : Bool} {p q : Caller} → IsOn p.guard → (works : Works n exchanges p q) → is_tick works.step.kind ≡ false
guarded {n} {exchanges} {p} {q} on works = go (is_tick works.step.kind) refl
  where
    go : (b : Bool) → is_tick works.step.kind ≡ b → b ≡ false
    go true is = absurd (subst IsOn (works.timed is) on)
    go false is = refl

pub ran_inside : {table : Table} {n budget : ℕ} {old new : Pass} → IsOn (caller table old).guard → (exchanges : Bool) (entries : List Entry) → MayRun table n budget old → (exchanges ≡ true → old.turns < budget) → IsPassOf table new → new.number ≡ old.number
    → new.debts.copy ≡ old.debts.copy → new.debts.second_cut ≡ old.debts.second_cut
    → (works : Works n exchanges (caller table old) (caller table new)) → is_on_current works.step.kind ≡ false → new.turns ≡ turns_after exchanges old.turns → (caller table new).own ≡ (caller table old).own ++ entries → Ran table n budget old new entries
ran_inside on exchanges entries may room is number copy second_cut works apart turns own = let r = ran_step exchanges entries may room is number copy second_cut works apart turns own in ran_ticks r (let most = r.makes.0 in let none = none_ticks works.step (guarded on works) in omega arith)

-- The budget is used up

pub used_up : {table : Table} {n budget : ℕ} {Needs : Caller → Type 0} {pass : Pass} → IsPassOf table pass → pass.turns ≤ budget → budget ≤ pass.turns → Needs (caller table pass) → IsUsedUp table n budget Needs pass
used_up {table} {n} {budget} {Needs} {pass} of within used needs = record {
  turns = omega arith;
  before = pass;
  is = of;
  number = refl;
  spent = omega arith;
  needs = needs;
  rest = [];
  made = sym (append-nil (caller table pass).made);
  quiet = refl;
}

-- also for a need that follows from this one
pub used_for : {table : Table} {n budget : ℕ} {Needs Others : Caller → Type 0} {pass : Pass} → ((p : Caller) → Needs p → Others p) → IsUsedUp table n budget Needs pass → IsUsedUp table n budget Others pass
used_for {table} follows u = record { turns = u.turns; before = u.before; is = u.is; number = u.number; spent = u.spent; needs = follows (caller table u.before) u.needs; rest = u.rest; made = u.made; quiet = u.quiet }

-- and after a part without an exchange it still is
pub used_on : {Makes : List Made → Type 0} {table : Table} {n k budget most : ℕ} {Needs : Caller → Type 0} {old new : Pass} {entries : List Entry} → IsUsedUp table n budget Needs old → RanAs Makes table k most old new entries → new.turns ≡ old.turns → IsUsedUp table n budget Needs new
used_on {Makes} {table} {n} {k} {budget} {most} {Needs} {old} {new} u ran turns = record {
  turns = turns ∙ u.turns;
  before = u.before;
  is = u.is;
  number = ran.number ∙ u.number;
  spent = u.spent;
  needs = u.needs;
  rest = u.rest ++ ran.since;
  made = ran.made ∙ (ap (λ ms. ms ++ ran.since) u.made ∙ append_assoc (caller table u.before).made u.rest ran.since);
  quiet = let t = ran.turns in let q = u.quiet in let both = exchanges_append u.rest ran.since in omega arith;
}

-- what stays over two steps
pub stays_none : (p : Caller) → Stays p p
stays_none p = record { number = refl; start = refl; deal = refl; found = refl; guard = refl; permit = refl; sight = refl; told = refl }

pub stays_trans : {p q r : Caller} → Stays p q → Stays q r → Stays p r
stays_trans a b = record { number = b.number ∙ a.number; start = b.start ∙ a.start; deal = b.deal ∙ a.deal; found = b.found ∙ a.found; guard = b.guard ∙ a.guard; permit = b.permit ∙ a.permit; sight = b.sight ∙ a.sight; told = b.told ∙ a.told }

-- and what is owed of an event
pub keeps_none : (table : Table) (pass : Pass) → KeepsEvent table pass pass
keeps_none table pass = record { run = refl; known = refl; permit = refl }

pub keeps_trans : {table : Table} {a b c : Pass} → KeepsEvent table a b → KeepsEvent table b c → KeepsEvent table a c
keeps_trans p q = record { run = q.run ∙ p.run; known = q.known ∙ p.known; permit = q.permit ∙ p.permit }

-- where the permit needn't stay

pub owed_kept : {table : Table} {a b : Pass} → KeepsEvent table a b → KeepsOwed table a b
owed_kept k = record { run = k.run; known = k.known }

pub owed_none : (table : Table) (pass : Pass) → KeepsOwed table pass pass
owed_none table pass = record { run = refl; known = refl }

pub owed_trans : {table : Table} {a b c : Pass} → KeepsOwed table a b → KeepsOwed table b c → KeepsOwed table a c
owed_trans p q = record { run = q.run ∙ p.run; known = q.known ∙ p.known }

-- The steps of two parts, one after the other

pub since_calm : {table : Table} {n budget : ℕ} {old mid new : Pass} {es fs : List Entry} (a : RanUnraised table n budget 0 old mid es) (b : RanUnraised table n budget 0 mid new fs) → (calm_trans a b).since ≡ a.since ++ b.since
unfolding calm_trans calm_join ran_join
since_calm a b = refl

pub since_trans : {table : Table} {n budget : ℕ} {old mid new : Pass} {es fs : List Entry} (a : Ran table n budget old mid es) (b : Ran table n budget mid new fs) → (ran_trans a b).since ≡ a.since ++ b.since
unfolding ran_trans ran_both ran_join
since_trans a b = refl

pub since_raising : {table : Table} {n budget : ℕ} (most a b c : ℕ) {old mid new : Pass} {es fs : List Entry} (p : RanRaising table n budget most a b old mid es) (q : RanRaising table n budget most b c mid new fs) → (raising_join most a b c p q).since ≡ p.since ++ q.since
unfolding raising_join ran_join
since_raising most a b c p q = refl

pub since_as_calm : {table : Table} {n budget k : ℕ} {old new : Pass} {es : List Entry} (r : RanTicks table n budget k old new es) → (ran_calm r).since ≡ r.since
unfolding ran_calm ran_as
since_as_calm r = refl

pub since_as_raising : {table : Table} {n budget : ℕ} {old new : Pass} {es : List Entry} (most row : ℕ) (r : RanUnraised table n budget 0 old new es) → (calm_raising most row r).since ≡ r.since
unfolding calm_raising ran_as
since_as_raising most row r = refl

-- what was known of current stays known over steps that aren't on it, and is known after others that make it known
pub known_after : (xs ys : List Made) (w : ℕ) → current_known xs ≡ Some w → on_current ys ≡ 0 → current_known (xs ++ ys) ≡ Some w
known_after xs ys w known apart = current_append xs ys ∙ (ap (λ o. rather o (current_known xs)) (apart_current ys apart) ∙ known)

pub known_before : (xs ys : List Made) (w : ℕ) → current_known ys ≡ Some w → current_known (xs ++ ys) ≡ Some w
known_before xs ys w known = current_append xs ys ∙ ap (λ o. rather o (current_known xs)) known
