-- The loops over the steps that look for a free row.
use Rattle.std.proofs.Common.{◌≡◌, ◌⊎◌, inl, inr, ⊎_elim, ℕ, ◌+◌, ◌*◌, ◌<◌, ◌≤◌, cond, Bool, true, false, List, [], ◌∷◌, ◌++◌, Option, Some, None, Ok, Err, sym, refl, ap, ◌∙◌, subst, arith}
use Rattle.std.proofs.lemmas.List.{append-nil}
use Rattle.crq_base.specs.declared.kinds.StepKind.{StepKind}
use Rattle.crq_base.specs.declared.kinds.StepKind.TheVariants.{EpochLoad, Scan, Look, Claim, Tick}
use Rattle.crq_base.specs.Lists.{In}
use Rattle.crq_rule.specs.declared.layout.Layout.{Layout}
use Rattle.crq_rule.specs.declared.pass.Pass.{Pass}
use Rattle.crq_rule.specs.declared.pass.Table.{Table}
use Rattle.crq_rule.specs.declared.view.Guard.TheVariants.{Off}
use Rattle.crq_rule.specs.declared.view.Made.{Made}
use Rattle.crq_rule.specs.declared.view.Caller.{Caller}
use Rattle.crq_rule.specs.Places.{index, epoch, announced}
use Rattle.crq_rows.specs.Passes.{caller, IsPassOf}
use Rattle.crq_rows.specs.Known.{is_tick, turns_after, Works}
use Rattle.crq_rows.specs.declared.own.OwnOp.{OwnOp}
use Rattle.crq_rows.specs.declared.own.OwnOp.TheVariants.{Load, Looking, Claiming}
use Rattle.crq_rows.specs.declared.own.Own.{Own}
use Rattle.crq_rows.specs.declared.own.Own.TheVariants.{More, Row, Empty}
use Rattle.crq_rows.specs.declared.tick.TickOp.{TickOp}
use Rattle.crq_rows.specs.declared.tick.TickOp.TheVariants.{Load as FirstLoad, Scanning, Passed}
use Rattle.crq_rows.specs.declared.recover.RecoverOp.{RecoverOp}
use Rattle.crq_rows.specs.declared.recover.RecoverOp.TheVariants.{Ticking, Visiting, Taking}
use Rattle.crq_rows.specs.declared.recover.Recover.{Recover}
use Rattle.crq_rows.specs.declared.recover.Recover.TheVariants.{More as GoesOn, Ready, Held, Rows}
use Rattle.crq_rows.specs.Ticking.{TickMakes, tick_left}
use Rattle.crq_rows.specs.Owning.{IsOwning, OwnMakes, OwnFacts, OwnStepped}
use Rattle.crq_rows.specs.Recovering.{IsRecovering, RecoverMakes, RecoverNext, RecoverAnswer, MovesOn, RecoverKnows, RecoverStepped, recover_exchanges, recover_left}
use Rattle.crq_rows.proofs.Working.{plain_no_tick, own_works, recover_works}
use Rattle.crq_queue.specs.declared.runs.Spent.{Spent}
use Rattle.crq_queue.specs.Runs.{is_on_current, KeepsEvent, RanTicks, MayRun, Looked, looks_last, looks_on, Recovered, ends, goes_on, ticks_of}
use Rattle.crq_queue.specs.Parts.{OwnEnded, OwnRan, RecoverEnded, RecoverRan}
use Rattle.crq_queue.proofs.RunLaws.{ran_none, ran_both, ran_ticks, ran_step, none_ticks, may_run_on, used_up, keeps_none, keeps_trans, ticks_append}

-- what a search leaves, whatever it found
pub record Kept (table : Table) (n budget : ℕ) (old new : Pass) : Type 0 where
  pub most : ℕ
  pub ran : RanTicks table n budget most old new []
  pub found : (caller table new).found ≡ (caller table old).found
  pub guard : (caller table new).guard ≡ (caller table old).guard
  pub owed : (caller table new).debts.cut ≡ (caller table old).debts.cut
  pub uncut : (caller table old).cut ≡ None → (caller table new).cut ≡ None
  pub debts : new.debts ≡ old.debts
  pub event : KeepsEvent table old new

kept_none : {table : Table} {n budget : ℕ} {pass : Pass} → IsPassOf table pass → MayRun table n budget pass → Kept table n budget pass pass
kept_none {table} {n} {budget} {pass} of may = record { most = 0; ran = ran_none of may; found = refl; guard = refl; owed = refl; uncut = λ none. none; debts = refl; event = keeps_none table pass }

-- one step more, which changes of what the caller knows no more than a search does
kept_on : {table : Table} {n budget : ℕ} {old mid new : Pass} (exchanges : Bool) → budget < 4294967296 → Kept table n budget old mid → (exchanges ≡ true → mid.turns < budget) → IsPassOf table new → new ≡ record mid { seat = new.seat; free = new.free; turns = new.turns }
    → (works : Works n exchanges (caller table mid) (caller table new)) → is_on_current works.step.kind ≡ false → new.turns ≡ turns_after exchanges mid.turns → (q : Caller) → caller table new ≡ record (caller table mid) { made = q.made; epochs = q.epochs; tick = q.tick; cut = q.cut; base = q.base; hand = q.hand; ripening = q.ripening; refused = q.refused }
    → ((caller table mid).cut ≡ None → (caller table new).cut ≡ None) → Kept table n budget old new
kept_on {table} {n} {budget} {old} {mid} {new} exchanges low k room is same works apart turns q stays uncut = let debts : new.debts ≡ mid.debts = ap (λ (p : Pass). p.debts) same in record {
  most = k.most + ticks_of (works.step ∷ []);
  ran = ran_both k.ran (ran_step exchanges [] (may_run_on low k.ran) room is (ap (λ (p : Pass). p.number) same) (ap (λ d. d.copy) debts) (ap (λ d. d.second_cut) debts) works apart turns (ap (λ (q : Caller). q.own) stays ∙ sym (append-nil (caller table mid).own)));
  found = ap (λ (q : Caller). q.found) stays ∙ k.found;
  guard = ap (λ (q : Caller). q.guard) stays ∙ k.guard;
  owed = ap (λ (q : Caller). q.debts.cut) stays ∙ k.owed;
  uncut = λ none. uncut (k.uncut none);
  debts = debts ∙ k.debts;
  event = keeps_trans k.event (record { run = ap (λ d. d.settle) debts; known = ap (λ (q : Caller). q.debts.settle) stays; permit = works.stays.permit });
}

-- the last of some steps
abbrev last_of : Made → List Made → Made
last_of d [] = d
last_of d (m ∷ ms) = last_of m ms

last_snoc : (d : Made) (ms : List Made) (m : Made) → last_of d (ms ++ m ∷ []) ≡ m
last_snoc d [] m = refl
last_snoc d (x ∷ ms) m = last_snoc x ms m

-- one step more is the same one, however it is told
one_step : (xs ys : List Made) (a b : Made) → ys ≡ xs ++ a ∷ [] → ys ≡ xs ++ b ∷ [] → a ≡ b
one_step xs ys a b p q = sym (last_snoc a xs a) ∙ (ap (last_of a) (sym p ∙ q) ∙ last_snoc a xs b)

-- no step of these operations is on current

own_apart : (l : Layout) (op : OwnOp) (m : Made) → OwnMakes l op m → is_on_current m.kind ≡ false
own_apart l Load m makes = ap is_on_current makes.0
own_apart l (Looking e row) m makes = ap is_on_current makes.0
own_apart l (Claiming e row) m makes = ap is_on_current makes.0

tick_apart : (l : Layout) (op : TickOp) (m : Made) → TickMakes l op m → is_on_current m.kind ≡ false
tick_apart l FirstLoad m makes = ap is_on_current makes.0
tick_apart l (Scanning e next) m makes = ⊎_elim
    (λ (scans : (next < l.workers) × (m.kind ≡ Scan) × (m.word ≡ index l (announced next))). ap is_on_current scans.1)
    (λ (last : (next ≡ l.workers) × (m.kind ≡ Tick) × (m.word ≡ index l epoch) × (m.first ≡ e) × (m.second ≡ e + 1)). ap is_on_current last.1) makes
tick_apart l (Passed e) m makes = ap is_on_current makes.0

recover_apart : (l : Layout) (op : RecoverOp) (m : Made) → RecoverMakes l op m → is_on_current m.kind ≡ false
recover_apart l (Ticking n tick) m makes = tick_apart l tick m makes
recover_apart l (Visiting e row) m makes = ap is_on_current makes.0
recover_apart l (Taking e row) m makes = ap is_on_current makes.0

-- The first free row, or a ripe one

pub record OwnGoes (table : Table) (n budget : ℕ) (old new : Pass) : Type 0 where
  pub kept : Kept table n budget old new
  pub quiet : kept.most ≡ 0
  pub turns : new.turns ≡ old.turns

-- how a look goes on from here is how it went on from the beginning
abbrev pub LooksFrom : Table → OwnOp → Pass → Pass → Type 0
LooksFrom table op old new = (last : Pass) (answer : Own) → Looked table op new last answer → Looked table Load old last answer

pub looks_from_more : (table : Table) (op op' : OwnOp) (old mid new : Pass) → LooksFrom table op old mid → OwnStepped table op op' mid new More → LooksFrom table op' old new
looks_from_more table op op' old mid new goes s last answer r = goes last answer (looks_on op op' mid new last answer s r)

pub own_begins : {table : Table} {n budget : ℕ} {pass : Pass} → IsPassOf table pass → MayRun table n budget pass → OwnGoes table n budget pass pass
unfolding kept_none
own_begins of may = record { kept = kept_none of may; quiet = refl; turns = refl }

-- a step of it, or the first free row that it answers without one
abbrev HasFirst : Pass → Pass → Own → Type 0
HasFirst mid new result = (new ≡ mid) × ((row : ℕ) × (rest : List ℕ) × (mid.free.items ≡ row ∷ rest) × (result ≡ Row row))

own_split : (table : Table) (op op' : OwnOp) (mid new : Pass) (result : Own) → OwnStepped table op op' mid new result → HasFirst mid new result ⊎ OwnFacts table.start.layout op op' (caller table mid) (caller table new) result
own_split table op op' mid new result s = go op mid.free.items refl s
  where
    go : (o : OwnOp) (items : List ℕ) → mid.free.items ≡ items → OwnStepped table o op' mid new result → HasFirst mid new result ⊎ OwnFacts table.start.layout o op' (caller table mid) (caller table new) result
    go Load [] is s = inr (s.steps (λ _. is))
    go Load (row ∷ rest) is s = let h = s.has row rest refl is in inl (h.0, (row, rest, is, h.2))
    go (Looking e row) items is s = inr (s.steps (λ e. absurd cc))
    go (Claiming e row) items is s = inr (s.steps (λ e. absurd cc))

module _ (table : Table) (n budget : ℕ) (old : Pass) (low : budget < 4294967296) (op op' : OwnOp) (mid new : Pass) (g : OwnGoes table n budget old mid) where
  own_on : (result : Own) → OwnStepped table op op' mid new result → OwnFacts table.start.layout op op' (caller table mid) (caller table new) result → OwnGoes table n budget old new
  unfolding kept_on
  own_on result s f = let turns : new.turns ≡ mid.turns = ap (λ (p : Pass). p.turns) s.same in let works = own_works n table.start.layout op op' (caller table mid) (caller table new) result f in record {
    kept = kept_on false low g.kept (λ e. absurd cc) s.is (s.same ∙ (λ i. record mid { seat = new.seat; free = new.free; turns = sym turns i })) works (ap (λ (m : Made). is_on_current m.kind) (one_step (caller table mid).made (caller table new).made works.step f.made works.made f.one) ∙ own_apart table.start.layout op f.made f.makes) turns (caller table new) f.stays f.uncut;
    quiet = let before = g.quiet in let none = none_ticks works.step (plain_no_tick works.step.kind works.kind) in omega arith;
    turns = turns ∙ g.turns;
  }

  own_ran : OwnGoes table n budget old new → (result : Option ℕ) → OwnEnded table old new result → OwnRan table n budget old new result
  own_ran h result ended = let k = h.kept in record { ran = ran_ticks k.ran (let most = k.ran.makes.0 in let none = h.quiet in omega arith); found = k.found; guard = k.guard; owed = k.owed; uncut = k.uncut; debts = k.debts; event = k.event; turns = h.turns; ended = ended }

  pub own_more : OwnStepped table op op' mid new More → OwnGoes table n budget old new
  own_more s = ⊎_elim (λ (h : HasFirst mid new More). absurd (row_no_more h.1.0 h.1.3)) (own_on More s) (own_split table op op' mid new More s)
    where
      row_no_more : (row : ℕ) → More ≡ Row row → ⊥
      row_no_more row e = cc

  pub own_row : (row : ℕ) → OwnStepped table op op' mid new (Row row) → OwnRan table n budget old new (Some row)
  own_row row s = ⊎_elim
      (λ (h : HasFirst mid new (Row row)). own_ran (subst (OwnGoes table n budget old) (sym h.0) g) (Some row) (let same = row_same row h.1.0 h.1.3 in let hand = sym g.kept.ran.is.free ∙ h.1.2 in
      subst (λ p. In row (caller table p).hand) (sym h.0) (subst (In row) (sym hand) (inl same))))
      (λ f. own_ran (own_on (Row row) s f) (Some row) (subst (In row) (sym f.answer.1) (inl refl)))
      (own_split table op op' mid new (Row row) s)
    where
      row_same : (a b : ℕ) → Row a ≡ Row b → a ≡ b
      row_same a b e = cc

  pub own_empty : LooksFrom table op old mid → OwnStepped table op op' mid new Empty → OwnRan table n budget old new None
  own_empty goes s = ⊎_elim (λ (h : HasFirst mid new Empty). absurd (row_no_empty h.1.0 h.1.3)) (λ f. own_ran (own_on Empty s f) None (goes new Empty (looks_last op op' mid new Empty empty_no_more s), f.answer)) (own_split table op op' mid new Empty s)
    where
      empty_no_more : Empty ≡ More → ⊥
      empty_no_more e = cc

      row_no_empty : (row : ℕ) → Empty ≡ Row row → ⊥
      row_no_empty row e = cc

-- after a step the search is where it says
pub own_at : (table : Table) (op op' : OwnOp) (mid new : Pass) → OwnStepped table op op' mid new More → IsOwning table.start.layout op' (caller table new)
own_at table op op' mid new s = ⊎_elim (λ (h : HasFirst mid new More). absurd (row_no_more h.1.0 h.1.3)) (λ (f : OwnFacts table.start.layout op op' (caller table mid) (caller table new) More). f.answer) (own_split table op op' mid new More s)
  where
    row_no_more : (row : ℕ) → More ≡ Row row → ⊥
    row_no_more row e = cc

-- A recovery

-- the most ticks that were made, when it comes to this
abbrev pub ticks_at : RecoverOp → ℕ
ticks_at (Ticking n FirstLoad) = n
ticks_at (Ticking n (Scanning e next)) = n
ticks_at (Ticking n (Passed e)) = n + 1
ticks_at (Visiting e row) = 3
ticks_at (Taking e row) = 3

abbrev tick_count : Made → ℕ
tick_count m = cond (is_tick m.kind) 1 0

no_tick : (m : Made) (k : StepKind) → m.kind ≡ k → is_tick k ≡ false → tick_count m ≡ 0
no_tick m k e quiet = ap (λ (b : Bool). cond {A = ℕ} b 1 0) (ap is_tick e ∙ quiet)

one_tick : (m : Made) → tick_count m ≤ 1
one_tick m = go (is_tick m.kind)
  where
    go : (b : Bool) → cond {A = ℕ} b 1 0 ≤ 1
    go true = omega arith
    go false = omega arith

-- a step of a tick makes one more at most
tick_ends : (l : Layout) (n : ℕ) (tick : TickOp) (m : Made) → TickMakes l tick m → ticks_at (Ticking n tick) + tick_count m ≤ n + 1
tick_ends l n FirstLoad m makes = let none = no_tick m EpochLoad makes.0 refl in omega arith
tick_ends l n (Scanning e next) m makes = let one = one_tick m in omega arith
tick_ends l n (Passed e) m makes = let none = no_tick m EpochLoad makes.0 refl in omega arith

-- and where the tick goes on after one, it has none left to make
tick_more : (l : Layout) (n : ℕ) (tick tick' : TickOp) (m : Made) → TickMakes l tick m → tick_left l tick' < tick_left l tick → ticks_at (Ticking n tick) + tick_count m ≤ ticks_at (Ticking n tick')
tick_more l n FirstLoad FirstLoad m makes less = absurd (omega arith)
tick_more l n FirstLoad (Scanning e next) m makes less = let none = no_tick m EpochLoad makes.0 refl in omega arith
tick_more l n FirstLoad (Passed e) m makes less = let none = no_tick m EpochLoad makes.0 refl in omega arith
tick_more l n (Scanning e next) FirstLoad m makes less = absurd (omega arith)
tick_more l n (Scanning e next) (Scanning e' next') m makes less = ⊎_elim
    (λ (scans : (next < l.workers) × (m.kind ≡ Scan) × (m.word ≡ index l (announced next))). let none = no_tick m Scan scans.1 refl in omega arith)
    (λ (last : (next ≡ l.workers) × (m.kind ≡ Tick) × (m.word ≡ index l epoch) × (m.first ≡ e) × (m.second ≡ e + 1)). let at = last.0 in absurd (omega arith)) makes
tick_more l n (Scanning e next) (Passed e') m makes less = let one = one_tick m in omega arith
tick_more l n (Passed e) tick' m makes less = absurd (omega arith)

recover_ends_ticks : (l : Layout) (op : RecoverOp) (m : Made) (p : Caller) → IsRecovering l op p → RecoverMakes l op m → ticks_at op + tick_count m ≤ 3
recover_ends_ticks l (Ticking n tick) m p at makes = let most = tick_ends l n tick m makes in let b = at.0 in omega arith
recover_ends_ticks l (Visiting e row) m p at makes = let none = no_tick m Look makes.0 refl in omega arith
recover_ends_ticks l (Taking e row) m p at makes = let none = no_tick m Claim makes.0 refl in omega arith

-- the tick that moved was one
moved_on : (l : Layout) (n : ℕ) (tick : TickOp) (op' : RecoverOp) (m : Made) (p q : Caller) → MovesOn l n tick op' m p q → n + 1 ≤ ticks_at op'
moved_on l n tick op' m p q move = ⊎_elim
    (λ (t : (n + 1 < 3) × (op' ≡ Ticking (n + 1) FirstLoad)). subst (λ o. n + 1 ≤ ticks_at o) (sym t.1) (omega arith))
    (λ (t : (n + 1 ≡ 3) × (op' ≡ Visiting move.1 (p.number * l.home + 1))). let is = t.0 in subst (λ o. n + 1 ≤ ticks_at o) (sym t.1) (omega arith)) move.6

ticks_more : (l : Layout) (op op' : RecoverOp) (m : Made) (p q : Caller) → RecoverMakes l op m → RecoverNext l op op' m p q GoesOn → recover_left l op' < recover_left l op → ticks_at op + tick_count m ≤ ticks_at op'
ticks_more l (Ticking n tick) op' m p q makes next less = ⊎_elim
    (λ (t : (tick' : TickOp) × (op' ≡ Ticking n tick')). let less' : recover_left l (Ticking n t.0) < recover_left l (Ticking n tick) = subst (λ o. recover_left l o < recover_left l (Ticking n tick)) t.1 less in
    subst (λ o. ticks_at (Ticking n tick) + tick_count m ≤ ticks_at o) (sym t.1) (tick_more l n tick t.0 m makes (omega arith)))
    (λ (move : MovesOn l n tick op' m p q). let most = tick_ends l n tick m makes in let one = moved_on l n tick op' m p q move in omega arith) next
ticks_more l (Visiting e row) op' m p q makes next less = let none = no_tick m Look makes.0 refl in
    ⊎_elim (λ (is : op' ≡ Visiting e (row + 1)). subst (λ o. 3 + tick_count m ≤ ticks_at o) (sym is) (omega arith)) (λ (is : op' ≡ Taking e row). subst (λ o. 3 + tick_count m ≤ ticks_at o) (sym is) (omega arith)) next
ticks_more l (Taking e row) op' m p q makes next less = let none = no_tick m Claim makes.0 refl in subst (λ o. 3 + tick_count m ≤ ticks_at o) (sym next) (omega arith)

at_most : (l : Layout) (op : RecoverOp) (p : Caller) → IsRecovering l op p → ticks_at op ≤ 3
at_most l (Ticking n FirstLoad) p at = let b = at.0 in omega arith
at_most l (Ticking n (Scanning e next)) p at = let b = at.0 in omega arith
at_most l (Ticking n (Passed e)) p at = let b = at.0 in omega arith
at_most l (Visiting e row) p at = omega arith
at_most l (Taking e row) p at = omega arith

-- the steps since, of all that were made
ticks_since : (k : ℕ) (xs ys zs : List Made) → zs ≡ xs ++ ys → ticks_of zs ≤ ticks_of xs + k → ticks_of ys ≤ k
ticks_since k xs ys zs is most = let whole = ap ticks_of is in let sum = ticks_append xs ys in omega arith

ticks_snoc : (xs ys : List Made) (m : Made) → ys ≡ xs ++ m ∷ [] → ticks_of ys ≡ ticks_of xs + tick_count m
ticks_snoc xs ys m is = let whole = ap ticks_of is in let sum = ticks_append xs (m ∷ []) in omega arith

pub record RecoverGoes (table : Table) (n budget : ℕ) (op : RecoverOp) (old new : Pass) : Type 0 where
  pub kept : Kept table n budget old new
  pub at : IsRecovering table.start.layout op (caller table new)
  pub knows : RecoverKnows n table.start.layout op (caller table new)
  pub ticks : ticks_of (caller table new).made ≤ ticks_of (caller table old).made + ticks_at op
  -- how it goes on from here is how it went on from the beginning
  pub goes : (last : Pass) (answer : Recover) → Recovered table op new last answer → Recovered table (Ticking 0 FirstLoad) old last answer

pub recover_begins : (table : Table) (n budget : ℕ) (pass : Pass) → IsPassOf table pass → (caller table pass).guard ≡ Off → MayRun table n budget pass → RecoverGoes table n budget (Ticking 0 FirstLoad) pass pass
recover_begins table n budget pass of off may = record { kept = kept_none of may; at = (omega arith, off, λ some. absurd (omega arith)); knows = may.counted; ticks = omega arith; goes = λ last answer r. r }

module _ (table : Table) (n budget : ℕ) (old : Pass) (low : budget < 4294967296) (op op' : RecoverOp) (mid new : Pass) (g : RecoverGoes table n budget op old mid) (room : recover_exchanges table.start.layout op ≡ true → mid.turns < budget) where
  recover_kept : (answer : Recover) → RecoverStepped table op op' mid new answer → Kept table n budget old new
  recover_kept answer s = let f = s.facts in let works = recover_works n table.start.layout op op' (caller table mid) (caller table new) answer f g.knows g.at in kept_on (recover_exchanges table.start.layout op) low g.kept room s.is s.same works
      (ap (λ (m : Made). is_on_current m.kind) (one_step (caller table mid).made (caller table new).made works.step f.made works.made f.one) ∙ recover_apart table.start.layout op f.made f.makes) (s.turns ∙ ap (λ b. turns_after b mid.turns) f.exchanges) (caller table new) f.stays f.uncut

  pub recover_goes : RecoverStepped table op op' mid new GoesOn → RecoverGoes table n budget op' old new
  recover_goes s = let f = s.facts in record {
    kept = recover_kept GoesOn s;
    at = f.answer;
    knows = f.knows n g.knows;
    ticks = let one = ticks_snoc (caller table mid).made (caller table new).made f.made f.one in let before = g.ticks in let more = ticks_more table.start.layout op op' f.made (caller table mid) (caller table new) f.makes f.next (f.shrinks refl) in omega arith;
    goes = λ last answer r. g.goes last answer (goes_on op op' mid new last answer s r);
  }

  pub recover_ends : (answer : Recover) → (answer ≡ GoesOn → ⊥) → RecoverStepped table op op' mid new answer → RecoverRan table n budget old new (Ok answer)
  recover_ends answer done s = let f = s.facts in let k = recover_kept answer s in record {
    ran = ran_ticks k.ran (let one = ticks_snoc (caller table mid).made (caller table new).made f.made f.one in let before = g.ticks in let most = recover_ends_ticks table.start.layout op f.made (caller table mid) g.at f.makes in
        ticks_since 3 (caller table old).made k.ran.since (caller table new).made k.ran.made (omega arith));
    found = k.found;
    guard = k.guard;
    owed = k.owed;
    uncut = k.uncut;
    debts = k.debts;
    event = k.event;
    ended = answered answer f.answer done (g.goes new answer (ends op op' mid new answer done s));
  }
    where
      answered : (answer : Recover) → RecoverAnswer table.start.layout op' (caller table new) answer → (answer ≡ GoesOn → ⊥) → Recovered table (Ticking 0 FirstLoad) old new answer → RecoverEnded table n budget old new (Ok answer)
      answered GoesOn a done r = absurd (done refl)
      answered Ready a done r = a
      answered (Held h) a done r = r
      answered Rows a done r = r

pub recover_spent : (table : Table) (n budget : ℕ) (old : Pass) (op : RecoverOp) (new : Pass) (s : Spent) → RecoverGoes table n budget op old new → recover_exchanges table.start.layout op ≡ true → budget ≤ new.turns → RecoverRan table n budget old new (Err s)
recover_spent table n budget old op new s g exchanges used = let k = g.kept in record {
  ran = ran_ticks k.ran (let before = g.ticks in let most = at_most table.start.layout op (caller table new) g.at in ticks_since 3 (caller table old).made k.ran.since (caller table new).made k.ran.made (omega arith));
  found = k.found;
  guard = k.guard;
  owed = k.owed;
  uncut = k.uncut;
  debts = k.debts;
  event = k.event;
  ended = used_up k.ran.is k.ran.within used (record { op = op; at = g.at; knows = g.knows; exchanges = exchanges });
}
