-- A reaction, put together from its parts.
use Rattle.std.proofs.Common.{◌≡◌, ℕ, ◌+◌, ◌-◌, List, length, get_or, ap, ◌∙◌, arith}
use Rattle.std.proofs.lemmas.List.{get_or_read}
use Rattle.crq_base.specs.declared.event.Event.{Event}
use Rattle.crq_sim.specs.declared.model.Object.{Object}
use Rattle.crq_sim.specs.declared.model.Behaviour.TheVariants.{Sink}
use Rattle.crq_sim.specs.declared.reaction.ObjectState.{ObjectState}
use Rattle.crq_sim.specs.Models.{ModelData, IsObject}
use Rattle.crq_sim.specs.Reactions.{behaviour_at, object_at, action_of, scheduled, reaction_of, sends_of, state_after}

-- the parts of a reaction of object o
pub record Acted (m : ModelData) (o : ℕ) (s : ObjectState) (e : Event) (x : Object) (w n : ℕ) (sends : List Event) : Type 0 where
  pub object : x ≡ object_at m.objects o
  pub word : w ≡ (action_of m x.behaviour s e).word
  pub sent : sends ≡ scheduled m.until o s.sent (action_of m x.behaviour s e).posts
  pub many : n ≡ length sends

pub object_read : (m : ModelData) (o : ℕ) (x : Object) → IsObject (length m.objects) o → x ≡ get_or m.objects (o - 1) x → x ≡ object_at m.objects o
object_read m o x there h = get_or_read m.objects (o - 1) x (omega arith) h (record { name = _; behaviour = Sink })

pub acted_sends : (m : ModelData) (o : ℕ) (s : ObjectState) (e : Event) (x : Object) (w n : ℕ) (sends : List Event) → Acted m o s e x w n sends → sends ≡ sends_of m o s e
unfolding reaction_of
acted_sends m o s e x w n sends h = h.sent ∙ ap (λ (y : Object). scheduled m.until o s.sent (action_of m y.behaviour s e).posts) h.object

pub acted_state : (m : ModelData) (o : ℕ) (s : ObjectState) (e : Event) (x : Object) (w n : ℕ) (sends : List Event) → Acted m o s e x w n sends
    → (let after : ObjectState = record { count = s.count + 1; word = w; sent = s.sent + n } in after) ≡ state_after m o s e
unfolding reaction_of
acted_state m o s e x w n sends h =
    let word : w ≡ (action_of m (behaviour_at m o) s e).word = h.word ∙ ap (λ (y : Object). (action_of m y.behaviour s e).word) h.object in
    let many : n ≡ length (sends_of m o s e) = h.many ∙ ap length (acted_sends m o s e x w n sends h) in
    λ i. record { count = s.count + 1; word = word i; sent = s.sent + many i }
