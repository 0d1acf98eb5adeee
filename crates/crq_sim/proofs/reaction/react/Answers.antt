use Rattle.std.proofs.Common.{◌∙◌, ap, List, get_or, ◌-◌}
use Rattle.crq_sim.specs.declared.model.Object.{Object}
use Rattle.crq_sim.specs.Reactions.{scheduled, action_of}
use Rattle.crq_sim.proofs.ReactionLemmas.{Acted, object_read, acted_sends, acted_state}
use Rattle.crq_sim.proofs.reaction.react.Goals as goal
use Rattle.crq_sim.proofs.reaction.react.Goals.{After-len}

acted : (c : After-len) → Acted c.args.model.now c.args.object c.args.state.now c.args.event.now c.index-objects-object.result c.act-word.result.0 c.len.result c.act-word.result.1
acted c = record {
  object = object_read c.args.model.now c.args.object c.index-objects-object.result c.requires.there
      (c.index-objects-object.is ∙ ap (λ (xs : List Object). get_or xs (c.args.object - 1) c.index-objects-object.result) c.objects.ensures);
  word = c.act-word.ensures.word;
  sent = c.act-word.ensures.sends ∙ ap (λ until. scheduled until c.args.object c.args.state.now.sent (action_of c.args.model.now c.index-objects-object.result.behaviour c.args.state.now c.args.event.now).posts) c.until.ensures;
  many = c.len.ensures.value;
}

pub returns-clause-state : goal.returns-clause-state
returns-clause-state c = acted_state _ _ _ _ _ _ _ _ (acted c)

pub returns-clause-sends : goal.returns-clause-sends
returns-clause-sends c = acted_sends _ _ _ _ _ _ _ _ (acted c)
