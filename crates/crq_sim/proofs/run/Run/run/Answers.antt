use Rattle.std.proofs.Common.{◌≡◌, ◌∙◌, ap, arith, sym, List, subst, refl}
use Rattle.crq_base.specs.declared.event.Event.{Event}
use Rattle.crq_sim.specs.declared.reaction.ObjectState.{ObjectState}
use Rattle.crq_sim.specs.EventLists.{with_events}
use Rattle.crq_sim.specs.Reactions.{behaviour_at, state_after, sends_of, IsWordOf}
use Rattle.crq_sim.specs.Runs.{state_of}
use Rattle.crq_sim.proofs.RunLemmas.{Known, next_known, state_read, ran_shows}
use Rattle.crq_sim.proofs.run.Run.run.Goals as goal
use Rattle.crq_sim.proofs.run.Run.run.Goals.{After-is_model, After-index}

known : (c : After-is_model) → Known c.args.model.now c.args.self.now c.args.event
known c = next_known c.args.model.now c.args.self.now c.args.event c.is_model.ensures c.requires.next

-- the state that was read is that of the event's object
read : (c : After-index) → c.index.result.now ≡ state_of c.args.self.now.states.items c.args.event.dst
read c = state_read c.args.model.now c.args.self.now c.args.event (known (goal.at.After-index c).After-is_model) c.index.result.now c.index.ensures

pub overflow_sub-at : goal.overflow_sub-at
overflow_sub-at c = (known c).due.there.0

pub index-requires : goal.index-requires
index-requires c = let k = known (goal.at.index-requires c).After-is_model in let a = k.all_states in let b = k.due.there in omega arith

pub react-sends-requires-clause-there : goal.react-sends-requires-clause-there
react-sends-requires-clause-there c = (known (goal.at.react-sends-requires-clause-there c).After-is_model).due.there

pub react-sends-requires-clause-time : goal.react-sends-requires-clause-time
react-sends-requires-clause-time c = (known (goal.at.react-sends-requires-clause-time c).After-is_model).due.time

pub react-sends-requires-clause-count : goal.react-sends-requires-clause-count
react-sends-requires-clause-count c =
    let k = (known (goal.at.react-sends-requires-clause-count c).After-is_model).count in
    let s = ap (λ (x : ObjectState). x.count) (read (goal.at.react-sends-requires-clause-count c).After-index) in
    omega arith

pub react-sends-requires-clause-sent : goal.react-sends-requires-clause-sent
react-sends-requires-clause-sent c =
    let k = (known (goal.at.react-sends-requires-clause-sent c).After-is_model).sent in
    let s = ap (λ (x : ObjectState). x.sent) (read (goal.at.react-sends-requires-clause-sent c).After-index) in
    omega arith

pub react-sends-requires-clause-word : goal.react-sends-requires-clause-word
react-sends-requires-clause-word c =
    let k = (known (goal.at.react-sends-requires-clause-word c).After-is_model).word in
    subst (λ (x : ObjectState). IsWordOf (behaviour_at c.args.model.now c.args.event.dst) x.word) (sym (read (goal.at.react-sends-requires-clause-word c).After-index)) k

pub index_mut-requires : goal.index_mut-requires
index_mut-requires c = let k = known (goal.at.index_mut-requires c).After-is_model in let a = k.all_states in let b = k.due.there in omega arith

pub returns : goal.returns
returns c =
    let s = read (goal.at.returns c).After-index in
    let sends = c.as_slice.ensures.value ∙ c.react-sends.ensures.sends ∙ ap (λ (x : ObjectState). sends_of c.args.model.now c.args.event.dst x c.args.event) s in (
      ran_shows c.args.model.now c.args.self.now _ c.args.event c.react-sends.new.state c.is_model.ensures c.requires.next
          (record {
            state = c.react-sends.ensures.state ∙ ap (λ (x : ObjectState). state_after c.args.model.now c.args.event.dst x c.args.event) s;
            states_are = refl;
            pending_is = c.in_ok-insert_each.ensures ∙ ap (λ (es : List Event). with_events es c.args.self.now.pending) sends;
            log_is = c.in_ok-push.ensures.items;
          })
          refl,
      refl,
    )
