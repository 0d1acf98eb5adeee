-- The dead rows that a pass names at run time: once one more is owed, and once some turned out not to be owed any more.
use Rattle.std.specs.Prelude.{ℕ, ◌==◌, ◌&&◌, cond, true, false, Option, Some, None}
use Rattle.crq_rule.specs.declared.debts.CopyDebt.{CopyDebt}
use Rattle.crq_rule.specs.declared.debts.CutDebt.{CutDebt}
use Rattle.crq_rule.specs.declared.debts.Debts.{Debts}
use Rattle.crq_rule.specs.Core.{DeadNames, moved_up, names_of, renamed}
use Rattle.crq_rule.specs.CopyKinds.{named_too}

-- the pass owes one dead row more, and this copy
abbrev pub names_lost : CutDebt → Option CopyDebt → Debts → Debts
names_lost n copy d = renamed (record d { copy = copy }) (named_too n (names_of d))

-- The head q was found to name the row r: a copy that was that head's first row and was discarded, and is another row, was cut. Where the first name goes the second moves up
abbrev pub unfronted : ℕ → ℕ → Option CutDebt → Option CutDebt
unfronted q r None = None
unfronted q r (Some d) = cond (d.front && ((d.head == q) && cond (r == d.row) false true)) None (Some d)

abbrev pub unfronted_names : ℕ → ℕ → DeadNames → DeadNames
unfronted_names q r names = moved_up (unfronted q r names.first) (unfronted q r names.second)

-- the name that came last was cut: the second, or the only one
abbrev pub without_last : Option CutDebt → Option CutDebt → DeadNames
without_last first None = record { first = None; second = None }
without_last first (Some d) = record { first = first; second = None }

abbrev pub without_lost : DeadNames → DeadNames
without_lost names = without_last names.first names.second
