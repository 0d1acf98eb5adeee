use Rattle.std.proofs.Common.{◌≡◌, ◌*◌, ◌≤◌}
use Rattle.std.specs.VecDeque.{deque_capacity}
use Rattle.crq_rule.specs.Rule.{rows_from}
use Rattle.crq_rule.proofs.opening.fresh_rest.Given as goal

abbrev pub invariant-loop-row : goal.invariant-loop-row
invariant-loop-row l = (l.free.items ≡ rows_from (l.number * l.layout.home) l.row) × (l.layout.home ≤ deque_capacity l.free)
