use Rattle.crq_sim.proofs.OrderLemmas.{first_least, in_with, with_in, in_without, without_in, one_order}
use Rattle.crq_sim.proofs.Sound.{sound}
use Rattle.crq_sim.proofs.laws.order_law.Goals as goal

pub returns-clause-in_order : goal.returns-clause-in_order
returns-clause-in_order c = λ m n is. (sound m n is).simulation.in_order

pub returns-clause-least : goal.returns-clause-least
returns-clause-least c = first_least

pub returns-clause-added : goal.returns-clause-added
returns-clause-added c = λ x e pending. (with_in x e pending, in_with x e pending)

pub returns-clause-removed : goal.returns-clause-removed
returns-clause-removed c = λ x e pending. (without_in x e pending, (λ h. in_without x e pending h.0 h.1))

pub returns-clause-one : goal.returns-clause-one
returns-clause-one c = λ es fs h k same. one_order es fs h k (λ e. (same e).0) (λ e. (same e).1)
