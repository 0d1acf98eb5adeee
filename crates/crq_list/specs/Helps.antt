-- What a step leaves to a caller that helps a move.
use Rattle.std.specs.Prelude.{◌≡◌, ◌≤◌, Some, None}
use Rattle.crq_rule.specs.declared.view.Help.{Help}
use Rattle.crq_rule.specs.declared.view.Caller.{Caller}

-- a helper of the same move has passed no fewer heads
pub record HelpGrows (h i : Help) : Type 0 where
  pub generation : i.generation ≡ h.generation
  pub prepared : h.prepared ≤ i.prepared
  pub frozen : h.frozen ≤ i.frozen
  pub emptied : h.emptied ≤ i.emptied
  pub epoch : i.epoch ≡ h.epoch
  pub pin : i.pin ≡ h.pin

-- a helper goes on, and where it has room for a second dead row, that stays free
pub record HelpsOn (p q : Caller) : Type 0 where
  pub help : (h : Help) → p.help ≡ Some h → (i : Help) × (q.help ≡ Some i) × HelpGrows h i
  pub room : p.debts.second_cut ≡ None → q.debts.second_cut ≡ None

-- and what it knows of the row of which it hasn't linked a copy yet stays, and so does the copy that it owes
pub record KeepsCopying (p q : Caller) : Type 0 where
  pub on : HelpsOn p q
  pub old : q.position.old ≡ p.position.old
  pub copying : q.debts.copy ≡ p.debts.copy
