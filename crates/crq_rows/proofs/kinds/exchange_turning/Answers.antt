use Rattle.std.proofs.Common.{◌==◌}
use prog.Atomic.{either}
use Rattle.crq_rows.specs.Passes.{step_made}
use Rattle.crq_rows.proofs.Passing.{turn_allows, turned, exchanged_by}
use Rattle.crq_rows.proofs.kinds.exchange_turning.Goals as goal

pub compare_exchange-requires : goal.compare_exchange-requires
compare_exchange-requires g c = let old = c.args.old in let new = c.args.new in (c.requires.of.sits.seated, c.requires.word, turn_allows g.F.Turn.kind c.args.table.now c.args.pass.now c.args.word (λ n. either (n == old) new n) (step_made g.F.Turn.kind c.args.word old new) g.F.Turn.turns c.requires.of.sits c.requires.moves)

pub returns : goal.returns
returns g c = let r = c.compare_exchange.result in let t = c.compare_exchange.ensures in exchanged_by c.args.table.now c.args.pass.now _ c.saturating_add-pass.result _ _ (c.saturating_add-pass.ensures) (turned c.args.table.now c.args.pass.now c.compare_exchange.new.seat (step_made g.F.Turn.kind c.args.word c.args.old c.args.new r) (g.F.Turn.turns r) c.requires.of (c.requires.aside r) t.0 t.1 t.2.0 t.2.1)
