use Rattle.crq_windows.proofs.LawLemmas.{group_in_order, no_group, one_group}
use Rattle.crq_windows.proofs.laws.group_law.Goals as goal

pub returns-clause-events : goal.returns-clause-events
returns-clause-events c = group_in_order

pub returns-clause-none : goal.returns-clause-none
returns-clause-none c = no_group

pub returns-clause-one : goal.returns-clause-one
returns-clause-one c = λ objects events groups g h are. one_group groups g h are.rising
