use Rattle.crq_rows.specs.Passes.{store_made}
use Rattle.crq_rows.proofs.Passing.{seated_allows, steps}
use Rattle.crq_rows.proofs.kinds.store_seated.Goals as goal

pub store-requires : goal.store-requires
store-requires g c = let new = c.args.new in (c.requires.of.seated, c.requires.word, seated_allows g.F.Change.kind c.args.table.now c.args.pass.now c.args.word (λ _. new) (λ _. store_made g.F.Change.kind c.args.word new) (λ _. g.F.Change.change new) (λ _. g.F.Change.tells new) c.requires.of c.requires.moves)

pub returns-clause-steps : goal.returns-clause-steps
returns-clause-steps g c = let r = c.args.new in let t = c.store.ensures in (steps c.args.table.now c.args.pass.now c.store.new.seat (store_made g.F.Change.kind c.args.word r) (g.F.Change.change r) (g.F.Change.tells r) c.requires.of t.0 t.1 t.2.0 t.2.1).0

pub returns-clause-told : goal.returns-clause-told
returns-clause-told g c = let r = c.args.new in let t = c.store.ensures in (steps c.args.table.now c.args.pass.now c.store.new.seat (store_made g.F.Change.kind c.args.word r) (g.F.Change.change r) (g.F.Change.tells r) c.requires.of t.0 t.1 t.2.0 t.2.1).1
