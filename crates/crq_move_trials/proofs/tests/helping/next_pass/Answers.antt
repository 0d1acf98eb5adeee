use Rattle.std.proofs.Common.{◌++◌, ◌∷◌, [], ap, ◌∙◌}
use Rattle.crq_rule.specs.declared.pass.Seating.{Seating}
use Rattle.crq_move_trials.proofs.Moving.{fewer_new, last_new}
use Rattle.crq_move_trials.proofs.tests.helping.next_pass.Goals as goal

pub returns-in-Some-Here-clause-places : goal.returns-in-Some-Here-clause-places
returns-in-Some-Here-clause-places c = fewer_new c.pop.new.self.items c.requires _ c.pop.ensures.items

pub returns-in-Some-Here-clause-pass : goal.returns-in-Some-Here-clause-pass
returns-in-Some-Here-clause-pass c = let s = c.in-Some-Here in last_new c.pop.new.self.items c.requires s.pass (s.ensures.items ∙ ap (λ (x : Seating). c.pop.new.self.items ++ x ∷ []) s.field-0-is)

pub returns-clause-places : goal.returns-clause-places
returns-clause-places c = fewer_new c.pop.new.self.items c.requires _ c.pop.ensures.items
