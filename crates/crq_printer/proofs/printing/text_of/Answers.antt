use Rattle.crq_printer.proofs.Pieces.{text_joined}
use Rattle.crq_printer.proofs.printing.text_of.Goals as goal

pub returns : goal.returns
returns g c = text_joined c.args.traces.now c.in_ok-pieces.pieces.items c.args.total _ c.in_ok-pieces.ensures c.requires (rw c.as_slice.ensures.value at c.joined.ensures)
