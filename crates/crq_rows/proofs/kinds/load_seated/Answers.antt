use Rattle.crq_rows.specs.Passes.{load_made}
use Rattle.crq_rows.proofs.Passing.{turn_allows, turns}
use Rattle.crq_rows.proofs.kinds.load_seated.Goals as goal

pub load-requires : goal.load-requires
load-requires g c = (c.requires.of.seated, c.requires.word, turn_allows g.F.Turn.kind c.args.table.now c.args.pass.now c.args.word (λ n. n) (load_made g.F.Turn.kind c.args.word) g.F.Turn.turns c.requires.of c.requires.moves)

pub returns : goal.returns
returns g c = let r = c.load.result in let t = c.load.ensures in turns c.args.table.now c.args.pass.now c.load.new.seat (load_made g.F.Turn.kind c.args.word r) (g.F.Turn.turns r) c.requires.of t.0 t.1 t.2.0 t.2.1
