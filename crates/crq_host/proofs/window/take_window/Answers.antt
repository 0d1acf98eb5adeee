use Rattle.std.proofs.Common.{◌∙◌, ap, subst, Ok}
use Rattle.crq_host.specs.Phases.{LeastEnds}
use Rattle.crq_host.proofs.Takings.{times_below, least_short, none_found}
use Rattle.crq_host.proofs.window.take_window.Goals as goal

pub take_least-whole-requires-clause-times : goal.take_least-whole-requires-clause-times
take_least-whole-requires-clause-times g c κs within =
    times_below c.args.model.now c.args.plan (g.S.EventSet.setup c.args.set.now) (g.S.EventSet.history c.args.whole) c.args.course.now c.is_model.ensures c.requires.between

pub only_memory-requires : goal.only_memory-requires
only_memory-requires g c =
    let setup = g.S.EventSet.setup c.args.set.now in
    let history = g.S.EventSet.history c.args.whole in
    let d = subst (LeastEnds setup history (g.S.EventSet.history c.take_least-whole.result.0)) c.in-Err.is c.take_least-whole.ensures.least in
    least_short c.args.model.now c.args.plan setup history c.args.course.now c.requires.between c.in-Err.short d.2

pub returns-in_default-clause-taken : goal.returns-in_default-clause-taken
returns-in_default-clause-taken g c =
    let setup = g.S.EventSet.setup c.args.set.now in
    let history = g.S.EventSet.history c.args.whole in
    let now = g.S.EventSet.history c.take_least-whole.result.0 in
    let d = subst (LeastEnds setup history now) (c.in-Ok.is ∙ ap Ok c.in_default.is) c.take_least-whole.ensures.least in
    none_found c.args.model.now c.args.plan setup history now d.0 c.args.course.now c.requires.between d.1 d.2
