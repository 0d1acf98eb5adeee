use Rattle.std.proofs.Common.{sym, ◌∙◌}
use Rattle.crq_move_trials.proofs.Moving.{none_of, may_help}
use Rattle.crq_move_trials.proofs.tests.helping.helper.Goals as goal

pub returns-clause-helper : goal.returns-clause-helper
returns-clause-helper c = may_help c.in_ok-control.ensures c.new.result c.if-not-control.false (none_of c.enter.new.pass.debts.second_cut (sym c.is_some.ensures ∙ c.if-is_some.false)) c.new.ensures
