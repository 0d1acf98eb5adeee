-- How many callers a set of events may have, and how many rows each of them.
use Rattle.std.specs.Prelude.{ℕ, ◌≤◌}
use Rattle.crq_base.specs.declared.limits.TheConstants.{MOST_WORKERS, MOST_ROWS}

abbrev pub IsTeam : ℕ → Type 0
IsTeam workers = (1 ≤ workers) × (workers ≤ MOST_WORKERS)

abbrev pub AreRows : ℕ → Type 0
AreRows rows = (4 ≤ rows) × (rows ≤ MOST_ROWS)
