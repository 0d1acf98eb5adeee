use Rattle.crq_rows.specs.Passes.{load_made}
use Rattle.crq_rows.proofs.Passing.{seated_allows, stepped}
use Rattle.crq_rows.proofs.kinds.load_as.Goals as goal

pub load-requires : goal.load-requires
load-requires g c = (c.requires.of.sits.seated, c.requires.word, seated_allows g.F.Change.kind c.args.table.now c.args.pass.now c.args.word (λ n. n) (load_made g.F.Change.kind c.args.word) g.F.Change.change g.F.Change.tells c.requires.of.sits c.requires.moves)

pub returns-clause-stepped : goal.returns-clause-stepped
returns-clause-stepped g c = let r = c.load.result in let t = c.load.ensures in (stepped c.args.table.now c.args.pass.now c.load.new.seat (load_made g.F.Change.kind c.args.word r) (g.F.Change.change r) (g.F.Change.tells r) c.requires.of (c.requires.aside r) t.0 t.1 t.2.0 t.2.1).0

pub returns-clause-told : goal.returns-clause-told
returns-clause-told g c = let r = c.load.result in let t = c.load.ensures in (stepped c.args.table.now c.args.pass.now c.load.new.seat (load_made g.F.Change.kind c.args.word r) (g.F.Change.change r) (g.F.Change.tells r) c.requires.of (c.requires.aside r) t.0 t.1 t.2.0 t.2.1).1
