use Rattle.std.proofs.Common.{sym, subst, arith}
use Rattle.crq_rule.specs.declared.layout.Start.{Start}
use Rattle.crq_rule.specs.Deals.{HasAll}
use Rattle.crq_rule.proofs.Gathering.{gathers}
use Rattle.crq_rows.proofs.gathering.gather_step.Goals as goal

pub load-requires : goal.load-requires
load-requires c = let table = c.args.table.now in let wide = table.wide in (c.requires.of, omega arith, gathers _ _ _ _ (subst (λ (z : Start). HasAll z.layout.workers c.args.seat.now.me.0) (sym table.keyed) c.requires.all))
