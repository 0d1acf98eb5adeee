use Rattle.crq_move.proofs.ReadLaws.{next_number}
use Rattle.crq_move.proofs.heads.next_list.Goals as goal

pub returns : goal.returns
returns c = next_number c.args.control.now c.args.event.now c.requires
