use Rattle.std.proofs.Common.{arith}
use Rattle.crq_reader.proofs.ElementLaws.{elements_of_view}
use Rattle.crq_reader.proofs.members.list.Goals as goal

pub returns : goal.returns
returns c = grind (arith, elements_of_view)
