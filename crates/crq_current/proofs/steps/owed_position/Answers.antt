use Rattle.std.proofs.Common.{◌+◌, arith}
use Rattle.crq_current.proofs.StepLaws.{owed_number}
use Rattle.crq_current.proofs.steps.owed_position.Goals as goal

pub returns : goal.returns
returns c = λ i. record { epoch = c.args.from.epoch + 1; tick = owed_number c.args.debt.now c.args.from (omega arith) i }
