use Rattle.crq_list.proofs.StepLaws.{head_number}
use Rattle.crq_list.proofs.steps.head_of.Goals as goal

pub returns : goal.returns
returns c = head_number c.args.control.now c.args.event.now c.requires
