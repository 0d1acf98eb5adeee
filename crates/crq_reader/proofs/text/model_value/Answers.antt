use Rattle.std.proofs.Common.{◌<◌, ◌^◌, subst}
use Rattle.std.specs.List.{All}
use Rattle.crq_sim.specs.declared.model.Object.{Object}
use Rattle.crq_sim.specs.declared.model.Start.{Start}
use Rattle.crq_reader.specs.Canonical.{IsTicks}
use Rattle.crq_reader.proofs.BackLaws.{model_back}
use Rattle.crq_reader.proofs.text.model_value.Goals as goal

pub returns-in-Ok-json-10-clause-back : goal.returns-in-Ok-json-10-clause-back
returns-in-Ok-json-10-clause-back c =
    model_back c.args.model.now c.is_model.ensures (subst (λ n. n < 2 ^ 32) c.lookahead-lookahead.ensures c.lookahead-lookahead.type_inv)
    (subst (All (λ (o : Object). IsTicks o.behaviour)) c.objects.ensures c.in_ok-objects.ensures.ticks)
    (subst (All (λ (s : Start). s.time < 2 ^ 32)) c.starts.ensures c.in_ok-starts.ensures.ticks)
