use Rattle.std.proofs.Common.{◌≡◌, ◌+◌, ℕ, None, Option, arith, ap, subst, ◌∙◌}
use Rattle.crq_sim.specs.Runs.{simulation_at, traces_of}
use Rattle.crq_sim.specs.Shown.{Advances, Tracks}
use Rattle.crq_sim.proofs.RunLemmas.{over_within, more_than}
use Rattle.crq_sim.proofs.WindowLemmas.{tracked}
use Rattle.crq_sim.proofs.serial_run.serial.Goals as goal

pub into_traces-requires : goal.into_traces-requires
into_traces-requires c =
    let none : Advances c.args.model.now c.loop-event.run c.step.new.self None = subst (λ (o : Option ℕ). Advances c.args.model.now c.loop-event.run c.step.new.self o) c.in-None.is c.in_ok-time.ensures in
    none.1

pub returns-in-None-clause-traces : goal.returns-in-None-clause-traces
returns-in-None-clause-traces c =
    let m = c.args.model.now in
    let old = c.loop-event.run in
    let none : Advances m old c.step.new.self None = subst (λ (o : Option ℕ). Advances m old c.step.new.self o) c.in-None.is c.in_ok-time.ensures in
    over_within m old.made c.args.cap _ (let a = c.loop-event.invariant.made in let b = c.loop-event-test.true in omega arith) none.0
    (c.in_ok-into_traces-in-None.ensures ∙ ap (λ n. traces_of m.objects (simulation_at m n).log) none.2)

pub returns-in-Some-next_time-clause-ends : goal.returns-in-Some-next_time-clause-ends
returns-in-Some-next_time-clause-ends c =
    let m = c.args.model.now in
    let run = c.loop-event.run in
    let window = c.pass-in-Some-next_time.new.self in
    let at_cap : run.made ≡ c.args.cap = (let a = c.loop-event.invariant.made in let b = c.loop-event-test.false in let d = c.loop-event.auto in omega arith) in
    let passed : window.events ≡ c.args.cap + 1 = (let a = c.pass-in-Some-next_time.ensures.passed in let b = c.loop-event.invariant.passed in let d = c.loop-event.invariant.made in omega arith) in
    let next = c.in-Some-next_time.ensures in (
      more_than m c.args.cap run.pending next.0 (c.loop-event.invariant.shows.pending ∙ ap (λ n. (simulation_at m n).pending) at_cap) next.1,
      tracked m c.args.cap window.number window.edge (subst (λ n. Tracks m n window.number window.edge) passed c.pass-in-Some-next_time.ensures.tracks),
    )
