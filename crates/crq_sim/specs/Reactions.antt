-- What an object does at an event, by cases of its behaviour.
use Rattle.std.specs.Prelude.{ℕ, ◌+◌, ◌-◌, ◌%◌, ◌^◌, ◌≤◌, min, max, List, [], ◌∷◌, length, map, slice_index_or, if◌then◌else◌, nat_le}
use Rattle.crq_base.specs.declared.event.Event.{Event}
use Rattle.crq_sim.specs.declared.model.Behaviour.{Behaviour}
use Rattle.crq_sim.specs.declared.model.Behaviour.TheVariants.{Relay, Phold, Station, Fan, Sink}
use Rattle.crq_sim.specs.declared.model.Object.{Object}
use Rattle.crq_sim.specs.declared.reaction.ObjectState.{ObjectState}
use Rattle.crq_sim.specs.declared.sends.Post.{Post}
use Rattle.crq_sim.specs.Draws.{drawn, next_state}
use Rattle.crq_sim.specs.Models.{ModelData}

-- the object with a number; past the end, a sink without a name
abbrev pub object_at : List Object → ℕ → Object
object_at objects o = slice_index_or objects (o - 1) (record { name = []; behaviour = Sink })

abbrev pub behaviour_at : ModelData → ℕ → Behaviour
behaviour_at m o = (object_at m.objects o).behaviour

-- the word of an object before its first event
abbrev pub first_word : Behaviour → ℕ
first_word (Relay delay next) = 0
first_word (Phold seed spread) = seed
first_word (Station service next) = 0
first_word (Fan delay targets) = 0
first_word Sink = 0

abbrev pub first_state : Behaviour → ObjectState
first_state behaviour = record { count = 0; word = first_word behaviour; sent = 0 }

-- when a station has served an event that comes while it is busy until `word`
abbrev pub served : ℕ → ℕ → ℕ → ℕ
served service word time = min (max time word + service) (2 ^ 32)

-- the object and the delay that a PHOLD object draws for an event
abbrev pub drawn_object : ℕ → ℕ → ℕ
drawn_object objects word = 1 + drawn word % objects

abbrev pub drawn_delay : ℕ → ℕ → ℕ
drawn_delay spread word = drawn (next_state word) % (spread + 1)

-- what a behaviour makes of an event: the object's word after it, what the object would send, in order, and which pending events it withdraws
pub record Action : Type 0 where
  pub word : ℕ
  pub posts : List Post
  pub withdrawn : List Event

-- by the behaviour, from the model, the object's state before the event, and the event; the object is the one that the event goes to
abbrev pub action_of : ModelData → Behaviour → ObjectState → Event → Action
action_of m (Relay delay next) s e = record {
  word = e.load;
  posts = record { time = e.time + delay; dst = next; load = (e.load + 1) % 2 ^ 64 } ∷ [];
  withdrawn = [];
}
action_of m (Phold seed spread) s e = record {
  word = next_state (next_state s.word);
  posts = record { time = e.time + m.lookahead + drawn_delay spread s.word; dst = drawn_object (length m.objects) s.word; load = e.load } ∷ [];
  withdrawn = [];
}
action_of m (Station service next) s e = record {
  word = served service s.word e.time;
  posts = record { time = served service s.word e.time; dst = next; load = e.load } ∷ [];
  withdrawn = [];
}
action_of m (Fan delay targets) s e = record {
  word = e.load;
  posts = map (λ target. record { time = e.time + delay; dst = target; load = e.load }) targets;
  withdrawn = [];
}
action_of m Sink s e = record { word = (s.word + e.load) % 2 ^ 64; posts = []; withdrawn = [] }

-- of what an object would send, what is due by the end is scheduled, and numbered on from what the source has sent
unfoldable pub scheduled : ℕ → ℕ → ℕ → List Post → List Event
scheduled until src sent [] = []
scheduled until src sent (p ∷ ps) =
    if nat_le p.time until then record { time = p.time; src = src; seq = sent; dst = p.dst; load = p.load } ∷ scheduled until src (sent + 1) ps
    else scheduled until src sent ps

-- what an object does at an event: its state after it, the events that it sends, in order, and the pending events that it withdraws
pub record Reaction : Type 0 where
  pub state : ObjectState
  pub sends : List Event
  pub withdrawn : List Event

unfoldable pub reaction_of : ModelData → ℕ → ObjectState → Event → Reaction
reaction_of m o s e =
    let action = action_of m (behaviour_at m o) s e in
    let sends = scheduled m.until o s.sent action.posts in
    record {
      state = record { count = s.count + 1; word = action.word; sent = s.sent + length sends };
      sends = sends;
      withdrawn = action.withdrawn;
    }

abbrev pub state_after : ModelData → ℕ → ObjectState → Event → ObjectState
state_after m o s e = (reaction_of m o s e).state

abbrev pub sends_of : ModelData → ℕ → ObjectState → Event → List Event
sends_of m o s e = (reaction_of m o s e).sends

abbrev pub withdrawn_by : ModelData → ℕ → ObjectState → Event → List Event
withdrawn_by m o s e = (reaction_of m o s e).withdrawn

-- a station is busy until tick 2 ^ 32 at the latest
abbrev pub IsWordOf : Behaviour → ℕ → Type 0
IsWordOf (Relay delay next) word = Unit {0}
IsWordOf (Phold seed spread) word = Unit {0}
IsWordOf (Station service next) word = word ≤ 2 ^ 32
IsWordOf (Fan delay targets) word = Unit {0}
IsWordOf Sink word = Unit {0}
