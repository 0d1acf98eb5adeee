-- The canonical text of a model: compact JSON, the members of each object in byte order of their names, and a newline.
use Rattle.std.specs.Prelude.{ℕ, ◌-◌, ◌^◌, ◌<◌, List, [], ◌∷◌, ◌++◌, map, slice_index_or, codes}
use Rattle.serde_json.specs.Data.{Data, number, unsigned, string, array, object, Members, no_members, member}
use Rattle.serde_json.specs.View.{items_of}
use Rattle.serde_json.specs.Written.{compact_text}
use Rattle.crq_sim.specs.Kinds.{kind_word}
use Rattle.crq_sim.specs.Models.{ModelData}
use Rattle.crq_sim.specs.declared.model.Object.{Object}
use Rattle.crq_sim.specs.declared.model.Start.{Start}
use Rattle.crq_sim.specs.declared.model.Behaviour.{Behaviour}
use Rattle.crq_sim.specs.declared.model.Behaviour.TheVariants.{Relay, Phold, Station, Fan, Sink}
use Rattle.crq_sim.specs.declared.model.BehaviourName.TheVariants as kinds

abbrev pub whole_data : ℕ → Data
whole_data n = number (unsigned n)

abbrev pub list_data : List Data → Data
list_data ds = array (items_of ds)

-- the names of the objects
abbrev pub names_in : List Object → List (List ℕ)
names_in = map (λ (o : Object). o.name)

-- the name of the object with that number
abbrev pub name_at : List (List ℕ) → ℕ → Data
name_at names o = string (slice_index_or names (o - 1) [])

abbrev pub object_members : List (List ℕ) → List ℕ → Behaviour → Members
object_members names name (Relay delay next) =
    member (codes "delay") (whole_data delay)
    (member (codes "kind") (string (kind_word kinds.Relay))
    (member (codes "name") (string name)
    (member (codes "next") (name_at names next) no_members)))
object_members names name (Phold seed spread) =
    member (codes "kind") (string (kind_word kinds.Phold))
    (member (codes "name") (string name)
    (member (codes "seed") (whole_data seed)
    (member (codes "spread") (whole_data spread) no_members)))
object_members names name (Station service next) =
    member (codes "kind") (string (kind_word kinds.Station))
    (member (codes "name") (string name)
    (member (codes "next") (name_at names next)
    (member (codes "service") (whole_data service) no_members)))
object_members names name (Fan delay targets) =
    member (codes "delay") (whole_data delay)
    (member (codes "kind") (string (kind_word kinds.Fan))
    (member (codes "name") (string name)
    (member (codes "targets") (list_data (map (name_at names) targets)) no_members)))
object_members names name Sink =
    member (codes "kind") (string (kind_word kinds.Sink))
    (member (codes "name") (string name) no_members)

abbrev pub object_data : List (List ℕ) → Object → Data
object_data names o = object (object_members names o.name o.behaviour)

abbrev pub start_data : List (List ℕ) → Start → Data
start_data names s =
    object
    (member (codes "data") (whole_data s.load)
    (member (codes "object") (name_at names s.object)
    (member (codes "time") (whole_data s.time) no_members)))

abbrev pub model_data : ModelData → Data
model_data m =
    object
    (member (codes "format") (whole_data 1)
    (member (codes "lookahead") (whole_data m.lookahead)
    (member (codes "objects") (list_data (map (object_data (names_in m.objects)) m.objects))
    (member (codes "starts") (list_data (map (start_data (names_in m.objects)) m.starts))
    (member (codes "until") (whole_data m.until) no_members)))))

-- with the newline at its end
unfoldable pub canonical : ModelData → List ℕ
canonical m = compact_text (model_data m) ++ 10 ∷ []

-- ---- what the types of a model's numbers tell, of those that the text has as ticks

abbrev pub IsTicks : Behaviour → Type 0
IsTicks (Relay delay next) = delay < 2 ^ 32
IsTicks (Phold seed spread) = spread < 2 ^ 32
IsTicks (Station service next) = service < 2 ^ 32
IsTicks (Fan delay targets) = delay < 2 ^ 32
IsTicks Sink = Unit {0}
