use Rattle.crq_sim.proofs.GeneratedLemmas.{generated_known}
use Rattle.crq_sim.proofs.generated.generate.Goals as goal

pub new-requires : goal.new-requires
new-requires c =
    let starts = c.in_ok-starts.ensures c.args.seed c.in_ok-all.ensures.state in
    rw (c.in_ok-all.ensures.objects, starts) (generated_known c.args.seed c.args.objects c.args.population c.requires.some c.requires.few_objects c.requires.few_starts)
