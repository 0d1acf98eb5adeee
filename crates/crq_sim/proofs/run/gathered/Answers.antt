use Rattle.std.proofs.Common.{◌∙◌, [], ap, arith, length, take}
use Rattle.crq_sim.specs.declared.model.BehaviourName.TheVariants.{Sink}
use Rattle.crq_sim.specs.declared.traces.ObjectTrace.{ObjectTrace}
use Rattle.crq_sim.specs.declared.traces.Step.{Step}
use Rattle.crq_sim.proofs.TraceLemmas.{length-traces, step_gathered}
use Rattle.crq_sim.proofs.run.gathered.Goals as goal

-- some trace, and some step
no_trace : ObjectTrace
no_trace = record { name = []; behaviour = Sink; steps = [] }

abbrev no_step : Step
no_step = record { event = record { time = 0; src = 0; seq = 0; dst = 0; load = 0 }; count = 0; word = 0 }

pub push_step-requires : goal.push_step-requires
push_step-requires c =
    let there = c.requires c.loop-step.step-index no_step c.loop-step-test.true in
    let many = ap length c.loop-step.invariant ∙ length-traces 1 c.args.objects.now (take c.loop-step.step-index c.args.log.now) in
    (there.0, (let le = there.1 in omega arith))

pub loop-step-preserved : goal.loop-step-preserved
loop-step-preserved c =
    c.in_ok-push_step.ensures no_trace
    ∙ step_gathered c.args.objects.now c.args.log.now c.loop-step.step-index no_step c.loop-step.traces.items no_trace c.loop-step-test.true (c.requires c.loop-step.step-index no_step c.loop-step-test.true) c.loop-step.invariant
