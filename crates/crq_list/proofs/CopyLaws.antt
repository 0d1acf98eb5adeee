-- What the exchange that links a copy leaves of a pass.
use Rattle.std.proofs.Common.{◌≡◌, ◌≤◌, ◌==◌, ℕ, cond, Bool, true, false, Some, sym, refl, ap, ◌∙◌, subst}
use Rattle.std.specs.VecDeque.{deque_capacity}
use Rattle.crq_base.specs.declared.kinds.StepKind.TheVariants.{Copy}
use Rattle.crq_base.specs.declared.words.Link.{Link}
use Rattle.crq_base.specs.Words.{link_word}
use Rattle.crq_rule.specs.declared.debts.CopyDebt.{CopyDebt}
use Rattle.crq_rule.specs.declared.debts.Debts.{Debts}
use Rattle.crq_rule.specs.declared.pass.Pass.{Pass}
use Rattle.crq_rule.specs.declared.pass.Table.{Table}
use Rattle.crq_rule.specs.declared.view.Caller.{Caller}
use Rattle.crq_rule.specs.Places.{index}
use Rattle.crq_rule.specs.Kinds.{makes}
use Rattle.crq_rule.specs.Ranks.{Cell, cell_place}
use Rattle.crq_rule.specs.ListKinds.{unhanded}
use Rattle.crq_rule.specs.Moves.{Lawful, wins}
use Rattle.crq_rows.specs.Passes.{caller, IsSeated, IsOwed, IsPassOf, Exchanges, step_made}
use Rattle.crq_list.specs.Swaps.{owes_copy, CopySwapped}
use Rattle.crq_list.proofs.StepLaws.{swapped}

module _ (table : Table) (old mid new : Pass) (cell : Cell) (word from to found : ℕ) (won : Bool) where
  -- Copy: where it won the row leaves the free ones, and the pass owes the copy at run time too
  pub copied : (l : Link) (d : CopyDebt) → IsPassOf table old → word ≡ index table.start.layout (cell_place cell) → from ≡ link_word l → to ≡ link_word (record l { row = d.copy })
      → Exchanges table old mid (step_made Copy word from to found) (wins (link_word l) (owes_copy d) found) → (found == from) ≡ won
      → new ≡ record mid { free = new.free; debts = new.debts } → new.free.items ≡ cond won (unhanded d.copy mid.free.items) mid.free.items → deque_capacity new.free ≡ deque_capacity mid.free
      → new.debts ≡ cond won (record mid.debts { copy = Some d }) mid.debts → CopySwapped table old new cell l d won
  copied l d of at is_from is_to step how same free room debts = let p : Caller = caller table old in
      let part : caller table new ≡ makes (step_made Copy word from to found) (wins (link_word l) (owes_copy d) found p) = ap (caller table) same ∙ step.part in
      let mine : mid.free.items ≡ p.hand = ap (λ (q : Pass). q.free.items) step.same ∙ of.free in
      let after : caller table new ≡ makes (step_made Copy word from to found) (cond won (owes_copy d p) p) = part ∙ (λ i. makes (step_made Copy word from to found) (cond ((ap (λ z. found == z) (sym is_from) ∙ how) i) (owes_copy d p) p)) in
      let owed : new.debts ≡ cond won (record old.debts { copy = Some d }) old.debts = debts ∙ ap (λ (q : Pass). cond won (record q.debts { copy = Some d }) q.debts) step.same in record {
        swapped = swapped Copy table old new cell l (record l { row = d.copy }) (owes_copy d) word from to found won at is_from is_to record {
          sits = subst (IsSeated table) (sym same) record { seated = step.sits.seated; bare = step.sits.bare; one = step.sits.one; numbered = step.sits.numbered; inside = step.sits.inside; started = step.sits.started };
          lawful = subst Lawful (sym (ap (caller table) same)) step.lawful;
          free = free ∙ (sym (hands won p mine) ∙ sym (ap (λ (q : Caller). q.hand) after));
          room = subst (λ z. table.start.layout.home ≤ z) (sym (room ∙ ap (λ (q : Pass). deque_capacity q.free) step.same)) of.room;
          debts = subst (λ (z : Debts × Debts). IsOwed z.0 z.1) (λ i. (sym owed i, sym (ap (λ (q : Caller). q.debts) after) i)) (owes won p of.debts);
        } (ap (λ (q : Pass). q.turns) same ∙ step.turns) (ap (λ (q : Pass). q.number) same ∙ ap (λ (q : Pass). q.number) step.same) part how;
        free = free ∙ ap (λ (q : Pass). cond won (unhanded d.copy q.free.items) q.free.items) step.same;
        debts = owed;
      }
    where
      hands : (b : Bool) (p : Caller) → mid.free.items ≡ p.hand → (cond b (owes_copy d p) p).hand ≡ cond b (unhanded d.copy mid.free.items) mid.free.items
      hands true p mine = ap (unhanded d.copy) (sym mine)
      hands false p mine = sym mine

      owes : (b : Bool) (p : Caller) → IsOwed old.debts p.debts → IsOwed (cond b (record old.debts { copy = Some d }) old.debts) (cond b (owes_copy d p) p).debts
      owes true p o = record { settle = o.settle; copy = refl; names = o.names }
      owes false p o = o
