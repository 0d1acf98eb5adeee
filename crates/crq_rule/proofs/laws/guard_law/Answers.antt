use Rattle.crq_rule.proofs.GuardLaws.{on_low}
use Rattle.crq_rule.proofs.laws.guard_law.Goals as goal

pub returns : goal.returns
returns c = λ c k g inv b is. on_low c inv k g b is
