use Rattle.crq_move_trials.proofs.Moving.{all_new}
use Rattle.crq_move_trials.proofs.tests.helping.table_for.Goals as goal

pub returns-clause-places : goal.returns-clause-places
returns-clause-places c = all_new c.passes-table.result.0 c.passes-table.result.1.places.items c.passes-table.ensures.new
