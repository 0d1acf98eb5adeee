-- What a pass owes first.
use Rattle.std.specs.Prelude.{Option, Some, None}
use Rattle.crq_rule.specs.declared.debts.Debts.{Debts}
use Rattle.crq_rule.specs.declared.debts.SettleDebt.{SettleDebt}
use Rattle.crq_rule.specs.declared.debts.CopyDebt.{CopyDebt}
use Rattle.crq_rule.specs.declared.debts.CutDebt.{CutDebt}
use Rattle.crq_rule.specs.declared.pass.Owes.{Owes}
use Rattle.crq_rule.specs.declared.pass.Owes.TheVariants.{Nothing, Settle, Cut, Copy}

-- an event to settle comes before a copy, and a copy before dead rows
abbrev pub first_owed : Option SettleDebt → Option CopyDebt → Option CutDebt → Option CutDebt → Owes
first_owed (Some s) copy cut second = Settle
first_owed None (Some d) cut second = Copy
first_owed None None (Some x) second = Cut
first_owed None None None (Some x) = Cut
first_owed None None None None = Nothing

abbrev pub owed_first : Debts → Owes
owed_first d = first_owed d.settle d.copy d.cut d.second_cut
