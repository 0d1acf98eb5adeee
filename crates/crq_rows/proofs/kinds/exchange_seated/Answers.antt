use Rattle.std.proofs.Common.{◌==◌}
use prog.Atomic.{either}
use Rattle.crq_rows.specs.Passes.{step_made}
use Rattle.crq_rows.proofs.Passing.{seated_allows, steps, exchanges}
use Rattle.crq_rows.proofs.kinds.exchange_seated.Goals as goal

pub compare_exchange-requires : goal.compare_exchange-requires
compare_exchange-requires g c = let old = c.args.old in let new = c.args.new in (c.requires.of.seated, c.requires.word, seated_allows g.F.Change.kind c.args.table.now c.args.pass.now c.args.word (λ n. either (n == old) new n) (step_made g.F.Change.kind c.args.word old new) g.F.Change.change g.F.Change.tells c.requires.of c.requires.moves)

pub returns-clause-exchanges : goal.returns-clause-exchanges
returns-clause-exchanges g c = let r = c.compare_exchange.result in let t = c.compare_exchange.ensures in exchanges c.args.table.now c.args.pass.now _ c.saturating_add-pass.result _ _ (c.saturating_add-pass.ensures) (steps c.args.table.now c.args.pass.now c.compare_exchange.new.seat (step_made g.F.Change.kind c.args.word c.args.old c.args.new r) (g.F.Change.change r) (g.F.Change.tells r) c.requires.of t.0 t.1 t.2.0 t.2.1).0

pub returns-clause-told : goal.returns-clause-told
returns-clause-told g c = let r = c.compare_exchange.result in let t = c.compare_exchange.ensures in (steps c.args.table.now c.args.pass.now c.compare_exchange.new.seat (step_made g.F.Change.kind c.args.word c.args.old c.args.new r) (g.F.Change.change r) (g.F.Change.tells r) c.requires.of t.0 t.1 t.2.0 t.2.1).1
