use Rattle.crq_rows.proofs.Recovers.{recover_claimed}
use Rattle.crq_rows.proofs.recover.take.Goals as goal

pub returns : goal.returns
returns c = recover_claimed c.args.table.now c.args.pass.now _ c.args.epoch c.args.row _ _ c.claim_step.ensures c.after_row.ensures
