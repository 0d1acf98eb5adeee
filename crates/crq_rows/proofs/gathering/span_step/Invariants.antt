use Rattle.crq_rows.proofs.gathering.span_step.Given as goal

abbrev pub ghosts-span_as : goal.ghosts-span_as
ghosts-span_as a = record { span = a.span }
