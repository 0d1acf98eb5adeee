use Rattle.crq_top.proofs.Fitting.{Reached}
use Rattle.crq_top.proofs.forms.misfit_of.Given as goal

abbrev pub invariant-loop-place : goal.invariant-loop-place
invariant-loop-place l = Reached l.most l.form l.words l.place
