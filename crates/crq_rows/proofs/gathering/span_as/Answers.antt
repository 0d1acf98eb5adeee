use Rattle.std.proofs.Common.{◌<◌, sym, subst, arith}
use Rattle.crq_rule.specs.declared.layout.Start.{Start}
use Rattle.crq_rule.specs.Deals.{HasAll}
use Rattle.crq_rule.proofs.Gathering.{respans}
use Rattle.crq_rows.proofs.gathering.span_as.Goals as goal

pub load-requires : goal.load-requires
load-requires g c = let table = c.args.table.now in let wide = table.wide in (
  c.requires.of,
  omega arith,
  respans _ _ _ g.S.Spanning.span _ (subst (λ n. 0 < n) c.requires.picked c.requires.some_span)
      (subst (λ (z : Start). HasAll z.layout.workers c.args.seat.now.me.0) (sym table.keyed) c.requires.all) c.requires.silent,
)
