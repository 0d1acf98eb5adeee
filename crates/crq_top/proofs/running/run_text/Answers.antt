use Rattle.std.proofs.Common.{ap}
use Rattle.crq_top.specs.Commands.{asked_of}
use Rattle.crq_top.specs.Sessions.{resources}
use Rattle.crq_top.proofs.Drives.{causes_of_run}
use Rattle.crq_top.proofs.running.run_text.Goals as goal

pub returns-in-Ok-clause-err : goal.returns-in-Ok-clause-err
returns-in-Ok-clause-err g c =
    let closed = g.M.SetMaker.closed in
    causes_of_run (resources g.F.Files.found g.F.Files.faults c.args.files.now c.model_of.new.files (closed c.args.maker.now) (closed c.driven_text.new.maker)) (asked_of c.args.command.now)
    c.in-Run.model.now c.in-Run.workers c.in-Run.rows c.in-Run.events c.in-Ok.model c.driven_text.result (ap asked_of c.in-Run.is) c.in-Ok.ensures.ok c.driven_text.ensures.err
