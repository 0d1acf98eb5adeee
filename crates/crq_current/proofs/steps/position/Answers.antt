use Rattle.std.proofs.Common.{arith}
use Rattle.crq_base.proofs.WordLaws.{current_read}
use Rattle.crq_current.proofs.steps.position.Goals as goal

pub returns : goal.returns
returns c = current_read c.args.word (omega arith)
