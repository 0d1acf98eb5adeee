use Rattle.crq_base.specs.declared.kinds.StepKind.TheVariants.{Scan}
use Rattle.crq_rule.specs.Kinds.{scans}
use Rattle.crq_rule.specs.Moves.{quiet}
use Rattle.crq_rows.proofs.steps.scan_step.Given as goal

abbrev pub ghosts-load_as : goal.ghosts-load_as
ghosts-load_as a = record { kind = Scan; change = scans a._said.now; tells = quiet }
