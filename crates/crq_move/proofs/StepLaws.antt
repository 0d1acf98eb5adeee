-- What a step of a move leaves of a pass.
use Rattle.std.proofs.Common.{◌≡◌, ◌≢◌, inl, ℕ, ◌==◌, ◌<◌, cond, Bool, true, false, Ok, Err, eq-eqb, ne_eqb, refl, sym, ap, ◌∙◌, subst}
use Rattle.crq_base.specs.declared.kinds.StepKind.{StepKind}
use Rattle.crq_base.specs.declared.kinds.StepKind.TheVariants.{Announce}
use Rattle.crq_base.specs.declared.words.Link.{Link}
use Rattle.crq_base.specs.declared.words.Control.{Control}
use Rattle.crq_base.specs.Words.{IsControl, link_word, control_word}
use Rattle.crq_base.proofs.WordLaws.{control_one}
use Rattle.crq_rule.specs.declared.pass.Pass.{Pass}
use Rattle.crq_rule.specs.declared.pass.Table.{Table}
use Rattle.crq_rule.specs.declared.view.Caller.{Caller}
use Rattle.crq_rule.specs.Parts.{newest}
use Rattle.crq_rule.specs.Places.{index, control, head}
use Rattle.crq_rule.specs.Kinds.{makes}
use Rattle.crq_rule.specs.ListKinds.{loads_control}
use Rattle.crq_rule.specs.MoveKinds.{moving_to, announces, leaves_head}
use Rattle.crq_rule.specs.Moves.{Lawful, FoundAnnounce, wins}
use Rattle.crq_rows.specs.Passes.{caller, StaysAside, Exchanged, ExchangedBy, step_made}
use Rattle.crq_move.specs.Steps.{Announced, HeadLeft}

-- what the pass has at run time still agrees after an announcement, won or not
pub announced_aside : (x : Control) (log shift found : ℕ) (p q : Caller) → Lawful p → FoundAnnounce x log shift found p q → StaysAside p q
announced_aside x log shift found p q law h = subst (StaysAside p) h.after (go (found == control_word x))
  where
    go : (b : Bool) → StaysAside p (cond b (announces log shift p) (loads_control h.control p))
    go true = record { hand = refl; debts = inl refl }
    go false = record { hand = refl; debts = inl refl }

-- and after an exchange of a head
pub left_aside : (expected q : ℕ) (l : Link) (found : ℕ) (p : Caller) → Lawful p → StaysAside p (wins expected (leaves_head q l) found p)
left_aside expected q l found p law = go (found == expected)
  where
    go : (b : Bool) → StaysAside p (cond b (leaves_head q l p) p)
    go true = record { hand = refl; debts = inl refl }
    go false = record { hand = refl; debts = inl refl }

module _ (table : Table) (old new : Pass) (x : Control) (log shift word from to found : ℕ) (at : word ≡ index table.start.layout control) (is_from : from ≡ control_word x) (is_to : to ≡ control_word (moving_to x log shift)) (t : ExchangedBy table old new (step_made Announce word from to found) (FoundAnnounce x log shift found)) where
  -- the table is announced
  pub announced : found ≡ from → Announced table old new x log shift (Ok tt)
  announced hit = let p : Caller = caller table old in let w = t.after.1 in let here : found ≡ control_word x = hit ∙ is_from in
      let after : t.after.0 ≡ announces log shift p = sym w.after ∙ ap (λ b. cond b (announces log shift p) (loads_control w.control p)) (eq-eqb found (control_word x) here) in record {
        is = t.is;
        same = t.same;
        turns = t.turns;
        tells = t.after.2 ∙ (λ i. makes (step_made Announce (at i) (is_from i) (is_to i) (here i)) (after i));
      }

  -- the control word that was found instead is the one that the word spells
  pub not_announced : (y : Control) → IsControl y → control_word y ≡ found → found ≢ from → Announced table old new x log shift (Err y)
  not_announced y bits spells apart = let p : Caller = caller table old in let w = t.after.1 in
      let is_y : w.control ≡ y = control_one w.control y w.is_control bits (w.word ∙ sym spells) in
      let after : t.after.0 ≡ loads_control y p = sym w.after ∙ (ap (λ b. cond b (announces log shift p) (loads_control w.control p)) (ne_eqb found (control_word x) (λ e. apart (e ∙ sym is_from)))
      ∙ ap (λ (z : Control). loads_control z p) is_y) in
      let later : x.generation < newest y = subst (λ (z : Control). x.generation < newest z) is_y (w.later (λ same. apart (sym spells ∙ (ap control_word (sym is_y ∙ same) ∙ sym is_from)))) in record {
        is = t.is;
        same = t.same;
        turns = t.turns;
        tells = (bits, λ same. apart (sym spells ∙ (ap control_word same ∙ sym is_from)), later, t.after.2 ∙ (λ i. makes (step_made Announce (at i) (is_from i) (is_to i) (sym spells i)) (after i)));
      }

-- what an exchange of a head was, as its words were spelled
pub head_left : (kind : StepKind) (table : Table) (old new : Pass) (q : ℕ) (l left : Link) (word from to found : ℕ) → word ≡ index table.start.layout (head q) → from ≡ link_word l → to ≡ link_word left
    → Exchanged table old new (step_made kind word from to found) (wins (link_word l) (leaves_head q left) found) → HeadLeft kind table old new q l left (found == from)
head_left kind table old new q l left word from to found at is_from is_to step = let p : Caller = caller table old in record {
  is = step.is;
  same = step.same;
  turns = step.turns;
  found = found;
  won_is = ap (λ z. found == z) (sym is_from);
  part = step.part ∙ (λ i. makes (step_made kind (at i) (is_from i) (is_to i) found) (cond (found == sym is_from i) (leaves_head q left p) p));
}
