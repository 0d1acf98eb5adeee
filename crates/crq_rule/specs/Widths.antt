-- How many words a table has.
use Rattle.std.specs.Prelude.{ℕ, ◌+◌, ◌*◌}
use Rattle.crq_rule.specs.declared.layout.Layout.{Layout}

abbrev pub width : Layout → ℕ
width l = 65616 + 16 * l.workers + 7 * l.all
