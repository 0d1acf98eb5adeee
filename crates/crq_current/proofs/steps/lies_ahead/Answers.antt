use Rattle.crq_current.proofs.StepLaws.{ahead_number}
use Rattle.crq_current.proofs.steps.lies_ahead.Goals as goal

pub returns : goal.returns
returns c = ahead_number c.args.debt.now c.args.current
