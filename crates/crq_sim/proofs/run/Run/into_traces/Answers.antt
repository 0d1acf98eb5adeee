use Rattle.std.proofs.Common.{◌≡◌, ◌∙◌, List, ap, subst, IfOk}
use Rattle.crq_sim.specs.declared.traces.ObjectTrace.{ObjectTrace}
use Rattle.crq_sim.specs.Runs.{traces_of}
use Rattle.crq_sim.proofs.RunLemmas.{log_there}
use Rattle.crq_sim.proofs.run.Run.into_traces.Goals as goal

pub traces_by-requires : goal.traces_by-requires
traces_by-requires c = rw (c.as_slice.ensures.value) (log_there c.args.model.now c.args.self c.is_model.ensures c.requires)

pub returns : goal.returns
returns c =
    let same = ap (traces_of c.args.model.now.objects) (c.as_slice.ensures.value ∙ c.requires.log) in
    subst (λ (ts : List ObjectTrace). IfOk c.traces_by.result (λ t. t ≡ ts)) same c.traces_by.ensures
