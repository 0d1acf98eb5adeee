use Rattle.std.proofs.Common.{append_assoc, ◌∙◌}
use Rattle.rayon.proofs.ListFacts.{IfOk-then}
use Rattle.crq_printer.proofs.summary.text_of.Goals as goal

pub returns : goal.returns
returns c = IfOk-then c.format.result _ _ c.format.ensures.ok (λ t e. e ∙ simp (append_assoc, c.len-objects.ensures, c.len-tables.ensures, c.last_time-last.ensures, c.total_sum-sum.ensures, c.as_slice.ensures, c.as_slice-2.ensures))
