-- What the steps of a walk leave to a caller that helps a move.
use Rattle.std.proofs.Common.{◌≡◌, ℕ, ◌≤◌, Bool, true, false, Option, Some, None, sym, refl, ap, ◌∙◌, subst, arith}
use Rattle.crq_base.specs.declared.event.Event.{Event}
use Rattle.crq_base.specs.declared.words.Link.{Link}
use Rattle.crq_base.specs.declared.words.Control.{Control}
use Rattle.crq_rule.specs.declared.debts.CutDebt.{CutDebt}
use Rattle.crq_rule.specs.declared.debts.Debts.{Debts}
use Rattle.crq_rule.specs.declared.view.Help.{Help}
use Rattle.crq_rule.specs.declared.view.Made.{Made}
use Rattle.crq_rule.specs.declared.view.Caller.{Caller}
use Rattle.crq_rule.specs.Kinds.{makes}
use Rattle.crq_rule.specs.Helping.{passed_on, is_prepared_next, is_frozen_next, is_emptied_next, passes_head, helped_by}
use Rattle.crq_rule.specs.Ranks.{Cell, at_head, at_row}
use Rattle.crq_rule.specs.ListKinds.{Aim, walks, cuts, relieved, unnamed}
use Rattle.crq_rule.proofs.NameLaws.{moved_second}
use Rattle.crq_list.specs.Helps.{HelpGrows, HelpsOn, KeepsCopying}

grows_none : (h : Help) → HelpGrows h h
grows_none h = record { generation = refl; prepared = omega arith; frozen = omega arith; emptied = omega arith; epoch = refl; pin = refl }

-- a helper whose heads stay goes on
pub helps_same : (p q : Caller) → q.help ≡ p.help → q.debts.second_cut ≡ p.debts.second_cut → HelpsOn p q
helps_same p q help second = record { help = λ h is. (h, help ∙ is, grows_none h); room = λ none. second ∙ none }

passed_more : (found : Bool) (n : ℕ) → n ≤ passed_on found n
passed_more true n = omega arith
passed_more false n = omega arith

-- a head that is found makes no helper's number less
helped_grows : (o : Option Control) (j : ℕ) (cell : Cell) (l : Link) (h : Help) → (i : Help) × (helped_by o j cell l (Some h) ≡ Some i) × HelpGrows h i
helped_grows None j cell l h = (h, refl, grows_none h)
helped_grows (Some x) j (at_row r) l h = (h, refl, grows_none h)
helped_grows (Some x) j (at_head q) l h = (
  passes_head x j q l h,
  refl,
  record {
    generation = refl;
    prepared = passed_more (is_prepared_next x j q l h.prepared) h.prepared;
    frozen = passed_more (is_frozen_next x j q l h.frozen) h.frozen;
    emptied = passed_more (is_emptied_next x j q l h.emptied) h.emptied;
    epoch = refl;
    pin = refl;
  },
)

-- a walk keeps what a helper relies on
pub walk_keeps : (m : Made) (cell : Cell) (aim : Aim) (l : Link) (e : Event) (p : Caller) → KeepsCopying p (makes m (walks cell aim l e p))
walk_keeps m cell aim l e p = let gone : Option CutDebt → Option CutDebt = relieved p.found.control cell p.position.rows l e in record {
  on = record {
    help = λ h is. subst (λ (o : Option Help). (i : Help) × (helped_by p.found.control p.number cell l o ≡ Some i) × HelpGrows h i) (sym is) (helped_grows p.found.control p.number cell l h);
    room = λ none. moved_second (gone p.debts.cut) (gone p.debts.second_cut) (ap gone none);
  };
  old = refl;
  copying = refl;
}

-- and so does a cut
pub cut_keeps : (m : Made) (r : ℕ) (p : Caller) → KeepsCopying p (makes m (cuts r p))
cut_keeps m r p = record {
  on = record { help = λ h is. (h, is, grows_none h); room = λ none. moved_second (unnamed r p.debts.cut) (unnamed r p.debts.second_cut) (ap (unnamed r) none) };
  old = refl;
  copying = refl;
}

-- and a step that leaves the help, the row and the debts
pub same_keeps : (p q : Caller) → q.help ≡ p.help → q.position.old ≡ p.position.old → q.debts ≡ p.debts → KeepsCopying p q
same_keeps p q help old debts = record { on = helps_same p q help (ap (λ (d : Debts). d.second_cut) debts); old = old; copying = ap (λ (d : Debts). d.copy) debts }
