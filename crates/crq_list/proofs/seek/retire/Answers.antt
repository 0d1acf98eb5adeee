use Rattle.crq_list.proofs.SeekSteps.{retires_row}
use Rattle.crq_list.proofs.seek.retire.Goals as goal

pub returns : goal.returns
returns c n x at = retires_row n c.args.table.now x c.args.sought.now c.args.pass.now c.retire_step.new.pass c.args.spot c.args.row c.args.epoch c.retire_step.ensures at
