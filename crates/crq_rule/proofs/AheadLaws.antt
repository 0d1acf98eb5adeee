-- How the part on current stays where the history grows.
use Rattle.std.proofs.Common.{◌≡◌, ⊎_elim, ◌≤◌, List, [], ◌++◌, subst, arith}
use Rattle.std.specs.List.{Contains}
use Rattle.crq_base.specs.declared.event.Event.{Event}
use Rattle.crq_base.specs.declared.entry.Entry.{Entry}
use Rattle.crq_base.specs.declared.words.Current.{Current}
use Rattle.crq_base.specs.Histories.{settled_of, taken_of, settleds}
use Rattle.crq_rule.specs.Ahead.{Ahead}
use Rattle.crq_rule.proofs.Prefixes.{of_front, of_both}

nothing : {e : Event} → Contains [] e → ⊥
nothing h = let k = h.1 in absurd (omega arith)

module _ (history more : List Entry) (current : Current) where
  -- entries are added, and what they settle isn't before current
  pub ahead_more : ((e : Event) → Contains (settleds more) e → current.tick ≤ e.time) → Ahead history current → Ahead (history ++ more) current
  ahead_more late old = record { each = λ e settled kept. ⊎_elim (λ was. old.each e was (λ o. kept (of_front taken_of history more e o))) (late e) (of_both settled_of history more e settled) }

  -- they settle nothing
  pub ahead_grown : settleds more ≡ [] → Ahead history current → Ahead (history ++ more) current
  ahead_grown none = ahead_more (λ e i. absurd (nothing (subst (λ z. Contains z e) none i)))
