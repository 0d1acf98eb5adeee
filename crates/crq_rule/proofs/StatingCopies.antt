-- The invariant that is kept implies what is stated of copies.
use Rattle.std.proofs.Common.{⊎_elim, inl, inr, ℕ, sym, ap, ◌∙◌}
use Rattle.crq_base.specs.declared.words.Link.{Link}
use Rattle.crq_rule.specs.Core.{Core}
use Rattle.crq_rule.specs.Copies.{Rows, IsBound, IsCopying}
use Rattle.crq_rule.specs.Invariant.{rows_of_core, Inv}
use Rattle.crq_rule.specs.Stated.{HasTwin, OwesCopy, CopiesHold}

module _ (c : Core) (inv : Inv c) where
  abbrev rows : Rows
  rows = rows_of_core c

  bound_so : (r t : ℕ) → HasTwin c r t → IsBound rows r t
  bound_so r t h = record { row = h.row; listed_is = h.in_list; frozen = h.frozen; twin_is = h.twin; some = h.some }

  twin_so : (r t : ℕ) → IsBound rows r t → HasTwin c r t
  twin_so r t h = record { row = h.row; in_list = h.listed_is; frozen = h.frozen; twin = h.twin_is; some = h.some }

  copying_so : (k t : ℕ) → OwesCopy c k t → IsCopying rows t
  copying_so k t o = record { who = k; inside = o.inside; owed = o.debt; debt = o.owes; copy = o.copy }

  pub copies_hold : CopiesHold c
  copies_hold = record {
    twins = λ r t h. let f = inv.copies.bound r t (bound_so r t h) in (f.listed_is, f.mark, f.generation, f.event_is);
    one = λ r s t h g. inv.copies.one r s t (bound_so r t h) (bound_so s t g);
    bound = λ t row out invalid. ⊎_elim (λ (h : (o : ℕ) × IsBound rows o t). inl (h.0, twin_so h.0 t h.1))
        (λ (h : IsCopying rows t). inr (h.who, record { inside = h.inside; debt = h.owed; owes = h.debt; copy = h.copy })) (inv.copies.owned t row (λ j held. out (j, held)) invalid);
    apart = λ r k t h o. inv.copies.apart r t (bound_so r t h) (copying_so k t o);
    alone = λ j k t o p. inv.copies.alone j k o.debt p.debt o.inside p.inside o.owes p.owes (o.copy ∙ sym p.copy);
    old = λ k d b is. let f = inv.copies.debt k d b is in (ap (λ (l : Link). l.mark) f.last ∙ f.frozen, f.old_event ∙ sym f.copy_event);
    left = λ k g r v. inv.copies.left r (k, g, v);
  }
