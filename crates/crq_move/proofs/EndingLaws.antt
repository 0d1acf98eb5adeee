-- What a step that ends a move leaves of a pass.
use Rattle.std.proofs.Common.{◌≡◌, ◌≢◌, inl, ℕ, ◌+◌, ◌≤◌, ◌==◌, cond, Bool, true, false, List, [], ◌∷◌, ◌++◌, length, length-append, drop, Option, Some, None, eq-eqb, refl, sym, ap, ◌∙◌, subst, arith}
use Rattle.std.proofs.lemmas.Bool.{cond_both, false≢true}
use Rattle.crq_base.specs.declared.kinds.StepKind.{StepKind}
use Rattle.crq_base.specs.declared.kinds.StepKind.TheVariants.{CurrentLoad, PinLoad}
use Rattle.crq_base.specs.declared.words.Control.{Control}
use Rattle.crq_base.specs.declared.words.Current.{Current}
use Rattle.crq_base.specs.declared.words.Pin.{Pin}
use Rattle.crq_base.specs.Words.{flag_number, IsControl, IsCurrent, IsPin, control_word, current_word, pin_word}
use Rattle.crq_base.proofs.WordLaws.{current_one, pin_one}
use Rattle.crq_rule.specs.declared.pass.Pass.{Pass}
use Rattle.crq_rule.specs.declared.pass.Table.{Table}
use Rattle.crq_rule.specs.declared.view.Caller.{Caller}
use Rattle.crq_rule.specs.declared.view.Help.{Help}
use Rattle.crq_rule.specs.declared.view.Made.{Made}
use Rattle.crq_rule.specs.Parts.{IsOn}
use Rattle.crq_rule.specs.Places.{Place, index, current, pin}
use Rattle.crq_rule.specs.Kinds.{makes}
use Rattle.crq_rule.specs.Helping.{new_help, help_of, help_after}
use Rattle.crq_rule.specs.ListKinds.{loads_control}
use Rattle.crq_rule.specs.CurrentKinds.{loads_current}
use Rattle.crq_rule.specs.PinKinds.{loads_for_pin, pin_found, pin_known, loads_pin, pin_of, passed_from, opened_from}
use Rattle.crq_rule.specs.Moves.{FoundForPin, FoundPin, Lawful, wins}
use Rattle.crq_rows.specs.Passes.{caller, IsPassOf, StaysAside, Turned, Exchanged, load_made, step_made}
use Rattle.crq_rows.proofs.Knowing.{found_known}
use Rattle.crq_list.specs.Known.{is_exchange, last_known, Expects, turns_after}
use Rattle.crq_move.specs.Helpers.{Knows, IsHelper}
use Rattle.crq_move.specs.Endings.{LoadedForPin, PinFound, Tried, EndStepped}

pub loaded_for_pin : (table : Table) (old new : Pass) (word found : ℕ) (y : Current) → word ≡ index table.start.layout current → IsCurrent y → current_word y ≡ found
    → Turned table old new (load_made CurrentLoad word found) (FoundForPin found) → LoadedForPin table old new y
loaded_for_pin table old new word found y at bits spells t = let w = t.after.1 in subst (LoadedForPin table old new) (current_one w.current y w.is_current bits (w.word ∙ sym spells)) record {
  is = t.is;
  same = t.same;
  is_current = w.is_current;
  part = t.after.2 ∙ (λ i. makes (load_made CurrentLoad (at i) (sym w.word i)) (sym w.after i));
  later = w.later;
}

pub pin_loaded : (table : Table) (old new : Pass) (word found : ℕ) (n : Pin) → word ≡ index table.start.layout pin → IsPin n → pin_word n ≡ found
    → Turned table old new (load_made PinLoad word found) (FoundPin found) → PinFound table old new n
pin_loaded table old new word found n at bits spells t = let w = t.after.1 in subst (PinFound table old new) (pin_one w.pin n w.is_pin bits (w.word ∙ sym spells)) record {
  is = t.is;
  same = t.same;
  is_pin = w.is_pin;
  part = t.after.2 ∙ (λ i. makes (load_made PinLoad (at i) (sym w.word i)) (sym w.after i));
}

-- what the caller knows stays, won or not
same_known : (expected found : ℕ) (p : Caller) → wins expected (λ q. q) found p ≡ p
same_known expected found p = cond_both (found == expected) p p (λ q. q ≡ p) (λ _. refl) (λ _. refl)

pub tried_aside : (expected found : ℕ) (p : Caller) → Lawful p → StaysAside p (wins expected (λ q. q) found p)
tried_aside expected found p law = subst (StaysAside p) (sym (same_known expected found p)) record { hand = refl; debts = inl refl }

pub tried : (kind : StepKind) (table : Table) (old new : Pass) (word from to found place first second : ℕ) → word ≡ place → from ≡ first → to ≡ second
    → Exchanged table old new (step_made kind word from to found) (wins first (λ q. q) found) → Tried kind table old new place first second (found == from)
tried kind table old new word from to found place first second at is_from is_to step = record {
  is = step.is;
  same = step.same;
  turns = step.turns;
  found = found;
  won_is = ap (λ z. found == z) (sym is_from);
  part = step.part ∙ (λ i. makes (step_made kind (at i) (is_from i) (is_to i) found) (same_known first found (caller table old) i));
}

-- Steps of a part that ends a move

-- what a caller knows, apart from current and from its help
pub record SameApart (p q : Caller) : Type 0 where
  pub made : q.made ≡ p.made
  pub own : q.own ≡ p.own
  pub deal : q.deal ≡ p.deal
  pub guard : q.guard ≡ p.guard
  pub cut : q.cut ≡ p.cut
  pub owed : q.debts ≡ p.debts

pub for_pin_apart : (y : Current) (p : Caller) → SameApart p (loads_for_pin y p)
for_pin_apart y p = record { made = refl; own = refl; deal = refl; guard = refl; cut = refl; owed = refl }

pub pin_apart : (n : Pin) (p : Caller) → SameApart p (loads_pin n p)
pin_apart n p = record { made = refl; own = refl; deal = refl; guard = refl; cut = refl; owed = refl }

pub current_apart : (y : Current) (p : Caller) → SameApart p (loads_current false y p)
current_apart y p = record { made = refl; own = refl; deal = refl; guard = refl; cut = refl; owed = refl }

pub control_apart : (w : Control) (p : Caller) → SameApart p (loads_control w p)
control_apart w p = record { made = refl; own = refl; deal = refl; guard = refl; cut = refl; owed = refl }

pub same_apart : (p : Caller) → SameApart p p
same_apart p = record { made = refl; own = refl; deal = refl; guard = refl; cut = refl; owed = refl }

-- a load expects nothing
pub expects_none : (n : ℕ) (made : List Made) (m : Made) → is_exchange m.kind ≡ false → Expects n made m
expects_none n made m loads swaps = absurd (false≢true (sym loads ∙ swaps))

module _ (n : ℕ) (table : Table) (old new : Pass) (m : Made) (q : Caller) (apart : SameApart (caller table old) q) (part : caller table new ≡ makes m q) where
  -- the word that was loaded is known since
  pub load_knows : (place : Place) (word : ℕ) → n ≤ length (caller table old).made → m.word ≡ index table.start.layout place → m.found ≡ word → is_exchange m.kind ≡ false → Knows n table place word (caller table new)
  load_knows place word counted at found loads = let w = index table.start.layout place in ap (λ (c : Caller). last_known (drop n c.made) w) part ∙ (ap (λ ms. last_known (drop n (ms ++ m ∷ [])) w) apart.made
      ∙ (found_known n (caller table old).made m w counted at loads ∙ ap (λ z. Some z) found))

  -- the step is one of such a part
  pub ended : (exchanges : Bool) (kind : StepKind) → Expects n (caller table old).made m → IsPassOf table new → m.kind ≡ kind → new.turns ≡ turns_after exchanges old.turns → new.number ≡ old.number → new.free ≡ old.free → new.debts ≡ old.debts → EndStepped n table exchanges kind old new
  ended exchanges kind expects is same turns number free debts = record {
    is = is;
    step = m;
    made = ap (λ (c : Caller). c.made) part ∙ ap (λ ms. ms ++ m ∷ []) apart.made;
    kind_is = same;
    expects = expects;
    turns = turns;
    number = number;
    free = ap (λ f. f.items) free;
    debts = debts;
    own = ap (λ (c : Caller). c.own) part ∙ apart.own;
    deal = ap (λ (c : Caller). c.deal) part ∙ apart.deal;
    guard = ap (λ (c : Caller). c.guard) part ∙ apart.guard;
    cut = ap (λ (c : Caller). c.cut) part ∙ apart.cut;
    owed = ap (λ (c : Caller). c.debts) part ∙ apart.owed;
  }

-- a helper stays one, with what it knows of its help then
pub still_helper : (n : ℕ) (table : Table) (x : Control) (old new : Pass) (exchanges : Bool) (kind : StepKind) → EndStepped n table exchanges kind old new → (caller table new).found.control ≡ (caller table old).found.control → IsHelper x (caller table old) → (h : Help) × ((caller table new).help ≡ Some h) × (h.generation ≡ x.generation) → IsHelper x (caller table new)
still_helper n table x old new exchanges kind s same is helps = record { on = subst IsOn (sym s.guard) is.on; control = same ∙ is.control; is_control = is.is_control; moving = is.moving; helps = helps }

-- what it knows of its help stays, where it finds the control word of its move again
pub help_stays : (x : Control) (p : Caller) → IsHelper x p → help_after x p.help ≡ p.help
help_stays x p is = let h = is.helps in ap (λ b. cond b (Some (help_of x.generation p.help)) None) is.moving ∙ (ap (λ (o : Option Help). Some (help_of x.generation o)) h.1
    ∙ (ap (λ b. Some (cond b h.0 (new_help x.generation))) (eq-eqb h.0.generation x.generation h.2) ∙ sym h.1))

-- and no step is forgotten
pub still_counted : (n : ℕ) (table : Table) (old new : Pass) (exchanges : Bool) (kind : StepKind) → EndStepped n table exchanges kind old new → n ≤ length (caller table old).made → n ≤ length (caller table new).made
still_counted n table old new exchanges kind s low = subst (λ ms. n ≤ length ms) (sym s.made) (simp length-append (omega arith))

-- What was found of the pin leaves the rest of a help
pub pin_keeps : (P : Help → Type 0) (n : Pin) (h : Help) → P h → P (record h { pin = Some n }) → P (pin_found n h)
pin_keeps P n h was now = cond_both (n.generation == h.generation + 1) (record h { pin = Some n }) h P (λ _. now) (λ _. was)

pub pin_kept : (n : Pin) (h : Help) → n.generation ≡ h.generation + 1 → (pin_found n h).pin ≡ Some n
pin_kept n h next = ap (λ b. (cond b (record h { pin = Some n }) h).pin) (eq-eqb n.generation (h.generation + 1) next)

-- the help after the pin was found
pub pin_help : (table : Table) (old new : Pass) (n : Pin) (h : Help) → PinFound table old new n → (caller table old).help ≡ Some h → (caller table new).help ≡ Some (pin_found n h)
pin_help table old new n h s is = ap (λ (c : Caller). c.help) s.part ∙ ap (pin_known n) is

-- all that a helper knows of heads stays
pub pin_known_of : (table : Table) (old new : Pass) (n : Pin) (P : Help → Type 0) → ((h : Help) → P h → P (record h { pin = Some n })) → PinFound table old new n → (h : Help) × ((caller table old).help ≡ Some h) × P h → (h : Help) × ((caller table new).help ≡ Some h) × P h
pin_known_of table old new n P keeps s known = (pin_found n known.0, pin_help table old new n known.0 s known.1, pin_keeps P n known.0 known.2 (keeps known.0 known.2))

-- The words of the exchanges that end a move differ

pub pins_apart : (n : Pin) (x : Control) (epoch : ℕ) → IsPin n → n.generation ≤ x.generation → pin_word n ≢ pin_word (pin_of x epoch)
unfolding pin_word
pins_apart n x epoch is low same = let e = is.epoch in omega arith

pub currents_apart : (y : Current) → current_word y ≢ current_word (passed_from y)
unfolding current_word
currents_apart y same = omega arith

pub controls_apart : (x : Control) → IsControl x → x.moving ≡ true → control_word x ≢ control_word (opened_from x)
unfolding control_word
controls_apart x is moving same = let flag : flag_number x.moving ≡ 1 = ap flag_number moving in let log = is.log in let shift = is.shift in let new_log = is.new_log in let new_shift = is.new_shift in omega arith
