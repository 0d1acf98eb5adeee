use Rattle.std.proofs.Common.{◌≡◌, Some, None}
use Rattle.crq_rule.specs.Ranks.{bucket, shape_of}
use Rattle.crq_rows.specs.Passes.{caller, IsPassOf}
use Rattle.crq_list.specs.declared.parts.Place.TheVariants.{Bucket}
use Rattle.crq_list.specs.Taking.{IsTaking}
use Rattle.crq_hold.proofs.tests.stopping.raise.Given as goal

abbrev pub invariant-loop : goal.invariant-loop
invariant-loop l = IsPassOf l.queue.table l.pass × IsTaking 0 l.queue.table l.control l.op (caller l.queue.table l.pass) × (l.pass.debts.cut ≡ None)
    × (l.op.place ≡ Bucket (bucket (shape_of l.control) l.current.tick)) × ((caller l.queue.table l.pass).sight ≡ Some (record { table = l.control; current = l.current }))
