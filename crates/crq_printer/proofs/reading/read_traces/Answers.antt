use Rattle.crq_printer.proofs.FaultLaws.{exact}
use Rattle.crq_printer.proofs.reading.read_traces.Goals as goal

pub returns-clause-exactly : goal.returns-clause-exactly
returns-clause-exactly c = exact c.args.text.now c.traces_of.result c.traces_of.ensures.readable c.traces_of.ensures.text c.traces_of.ensures.fault
