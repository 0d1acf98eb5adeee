use Rattle.std.proofs.Common.{◌∙◌, ap}
use Rattle.crq_rule.specs.declared.view.Caller.{Caller}
use Rattle.crq_rows.specs.Passes.{caller}
use Rattle.crq_hold.proofs.Stopping.{begin_rests}
use Rattle.crq_hold.proofs.tests.stopping.begin_inside.Goals as goal

pub enter-requires : goal.enter-requires
enter-requires c = begin_rests c.begin_step-control.ensures c.requires

pub returns-clause-inside : goal.returns-clause-inside
returns-clause-inside c = c.enter.ensures.inside _ (ap (λ (p : Caller). p.found.control) c.begin_step-control.ensures.part)

pub returns-clause-began : goal.returns-clause-began
returns-clause-began c = let old = caller c.args.queue.now.table c.args.pass.now in (old.own, old.number, c.enter.ensures.own ∙ ap (λ (p : Caller). p.own) c.begin_step-control.ensures.part)
