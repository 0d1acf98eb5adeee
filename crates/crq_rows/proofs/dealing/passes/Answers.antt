use Rattle.crq_rows.proofs.Deals.{opening_rests, woken_new}
use Rattle.crq_rows.proofs.dealing.passes.Goals as goal

pub wake_all-passes-requires : goal.wake_all-passes-requires
wake_all-passes-requires c = opening_rests _ _ _ c.requires

pub returns-clause-new : goal.returns-clause-new
returns-clause-new c = woken_new _ _ _ _ c.requires c.wake_all-passes.ensures
