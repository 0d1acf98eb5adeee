use Rattle.crq_list.proofs.SeekSteps.{tags_row}
use Rattle.crq_list.proofs.seek.tag.Goals as goal

pub returns : goal.returns
returns c n x at = tags_row n c.args.table.now x c.args.sought.now c.args.pass.now c.epoch_step-epoch.new.pass c.args.spot c.args.row c.epoch_step-epoch.result c.epoch_step-epoch.ensures.stepped at
