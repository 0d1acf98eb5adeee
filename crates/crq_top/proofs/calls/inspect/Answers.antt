use Rattle.std.proofs.Common.{[], map, string_bytes, subst, sym, arith}
use Rattle.crq_top.specs.Commands.{of_inspect}
use Rattle.crq_top.specs.Sessions.{session, resources}
use Rattle.crq_top.specs.Statuses.{Comes}
use Rattle.crq_top.proofs.Meaning.{comes}
use Rattle.crq_top.proofs.calls.inspect.Goals as goal

pub returns-clause-comes : goal.returns-clause-comes
returns-clause-comes g c =
    let q = of_inspect (map string_bytes c.args.words.now) in
    let r = resources g.F.Files.found g.F.Files.faults c.args.files.now c.inspect_to_ending.new.files [] [] in
    let s = session r g.S.Sink.written g.S.Sink.faults c.args.out.now c.inspect_to_ending.new.out in
    subst (Comes q s) (sym c.status.ensures) (comes q s (omega arith) c.inspect_to_ending.result c.inspect_to_ending.ensures.ends)
