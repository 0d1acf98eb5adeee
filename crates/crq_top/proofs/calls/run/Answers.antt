use Rattle.std.proofs.Common.{map, string_bytes, subst, sym, arith}
use Rattle.crq_top.specs.Commands.{of_run}
use Rattle.crq_top.specs.Sessions.{session, resources}
use Rattle.crq_top.specs.Statuses.{Means, Comes}
use Rattle.crq_top.proofs.Meaning.{means, comes}
use Rattle.crq_top.proofs.calls.run.Goals as goal

pub returns-clause-means : goal.returns-clause-means
returns-clause-means g c =
    let closed = g.M.SetMaker.closed in
    let q = of_run g.M.SetMaker.MOST (map string_bytes c.args.words.now) in
    let r = resources g.F.Files.found g.F.Files.faults c.args.files.now c.run_to_ending.new.files (closed c.args.maker.now) (closed c.run_to_ending.new.maker) in
    let s = session r g.S.Sink.written g.S.Sink.faults c.args.out.now c.run_to_ending.new.out in
    subst (Means q s) (sym c.status.ensures) (means q s c.run_to_ending.result c.run_to_ending.ensures.ends)

pub returns-clause-comes : goal.returns-clause-comes
returns-clause-comes g c =
    let closed = g.M.SetMaker.closed in
    let team = g.M.SetMaker.team in
    let q = of_run g.M.SetMaker.MOST (map string_bytes c.args.words.now) in
    let r = resources g.F.Files.found g.F.Files.faults c.args.files.now c.run_to_ending.new.files (closed c.args.maker.now) (closed c.run_to_ending.new.maker) in
    let s = session r g.S.Sink.written g.S.Sink.faults c.args.out.now c.run_to_ending.new.out in
    subst (Comes q s) (sym c.status.ensures) (comes q s (omega arith) c.run_to_ending.result c.run_to_ending.ensures.ends)
