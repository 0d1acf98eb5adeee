use Rattle.crq_rows.proofs.Owns.{own_round, own_claimed}
use Rattle.crq_rows.proofs.own.claim.Goals as goal

pub after_row-requires-clause-looked : goal.after_row-requires-clause-looked
after_row-requires-clause-looked c = own_round c.args.table.now c.args.pass.now _ c.args.epoch c.args.row c.requires.op c.claim_step.ensures

pub returns : goal.returns
returns c = own_claimed c.args.table.now c.args.pass.now _ c.args.epoch c.args.row c.requires.op c.claim_step.ensures _ _ c.after_row.ensures
