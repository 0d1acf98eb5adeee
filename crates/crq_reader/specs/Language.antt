-- The model language: which model the value of a JSON text is, or the first thing that is wrong with it.
use Rattle.std.specs.Prelude.{ℕ, ◌+◌, ◌^◌, List, [], ◌∷◌, ◌++◌, length, map, ◌==◌, nat_lt, if◌then◌else◌, Option, Some, None, is_some, ok_or, option_map, option_and_then, Result, Ok, Err, codes}
use Rattle.std.specs.List.{find, filter_map, list_all, position_from}
use Rattle.std.specs.Str.{bytes_eq, is_utf8}
use Rattle.serde_json.specs.Data.{Data, Items, no_items, item}
use Rattle.serde_json.specs.Find.{get, as_object, as_array, as_number, as_str, as_u64}
use Rattle.serde_json.specs.Read.{read}
use Rattle.crq_sim.specs.Names.{is_name}
use Rattle.crq_sim.specs.Kinds.{kind_word}
use Rattle.crq_sim.specs.Models.{ModelData}
use Rattle.crq_sim.specs.declared.model.TheConstants.{MOST_OBJECTS, MOST_STARTS}
use Rattle.crq_sim.specs.declared.model.Object.{Object}
use Rattle.crq_sim.specs.declared.model.Start.{Start}
use Rattle.crq_sim.specs.declared.model.Behaviour.{Behaviour}
use Rattle.crq_sim.specs.declared.model.Behaviour.TheVariants as behaviour
use Rattle.crq_sim.specs.declared.model.BehaviourName.{BehaviourName}
use Rattle.crq_sim.specs.declared.model.BehaviourName.TheVariants as kinds
use Rattle.crq_reader.specs.declared.fault.FaultNumber.{FaultNumber}
use Rattle.crq_reader.specs.declared.fault.FaultNumber.TheVariants.{NotJson, Memory, Missing, WrongKind, Range, UnknownName, Lookahead, TooMany}
use Rattle.crq_reader.specs.declared.fault.Place.TheVariants as place
use Rattle.crq_reader.specs.declared.fault.Place.{Place}
use Rattle.crq_reader.specs.declared.fault.Subject.{Subject}
use Rattle.crq_reader.specs.declared.fault.Subject.TheVariants as about
use Rattle.crq_reader.specs.declared.fault.ModelFault.{ModelFault}
use Rattle.crq_reader.specs.declared.member.Member.{Member}
use Rattle.crq_reader.specs.declared.member.Member.TheVariants as members

-- ---- steps in order, of which the first fault counts

abbrev pub and_then : {A B F : Type 0} → Result A F → (A → Result B F) → Result B F
and_then (Ok a) f = f a
and_then (Err e) f = Err e

-- each element in order; the step is given what came of the elements before
unfoldable pub each : {A B F : Type 0} → (List B → A → Result B F) → List B → List A → Result (List B) F
each step done [] = Ok done
each step done (x ∷ xs) = and_then (step done x) (λ y. each step (done ++ y ∷ []) xs)

-- ---- faults

abbrev pub fault_number : FaultNumber → ℕ
fault_number NotJson = 1
fault_number Memory = 2
fault_number Missing = 3
fault_number WrongKind = 4
fault_number Range = 5
fault_number UnknownName = 6
fault_number Lookahead = 7
fault_number TooMany = 8

-- ---- the words of the members

abbrev pub member_word : Member → List ℕ
member_word members.Format = codes "format"
member_word members.Lookahead = codes "lookahead"
member_word members.Until = codes "until"
member_word members.Objects = codes "objects"
member_word members.Starts = codes "starts"
member_word members.Name = codes "name"
member_word members.Kind = codes "kind"
member_word members.Delay = codes "delay"
member_word members.Next = codes "next"
member_word members.Seed = codes "seed"
member_word members.Spread = codes "spread"
member_word members.Service = codes "service"
member_word members.Targets = codes "targets"
member_word members.Time = codes "time"
member_word members.Object = codes "object"
member_word members.Data = codes "data"

-- ---- what is wrong with a part of the file: the number of the fault, and what it is about

pub record Flaw : Type 0 where
  pub number : FaultNumber
  pub subject : Subject

-- the text, the object or the start as a whole
abbrev pub as_whole : FaultNumber → Flaw
as_whole f = record { number = f; subject = about.Whole }

-- one of its members
abbrev pub at_member : FaultNumber → Member → Flaw
at_member f m = record { number = f; subject = about.Member m }

-- a kind that there isn't
abbrev pub no_kind : List ℕ → Flaw
no_kind word = record { number = UnknownName; subject = about.NoKind word }

-- a name that isn't spelled as one
abbrev pub no_name : List ℕ → Flaw
no_name word = record { number = Range; subject = about.NoName word }

-- a name that an object before has
abbrev pub name_twice : List ℕ → Flaw
name_twice word = record { number = Range; subject = about.NameTwice word }

-- a name, in this member, that no object has
abbrev pub no_object : Member → List ℕ → Flaw
no_object m word = record { number = UnknownName; subject = about.NoObject m word }

-- ---- where a fault is

abbrev pub placed : Place → ℕ → Flaw → ModelFault
placed p at f = record { number = f.number; place = p; at = at; subject = f.subject }

abbrev pub in_file : Flaw → ModelFault
in_file = placed place.File 0

abbrev pub in_object : ℕ → Flaw → ModelFault
in_object k = placed (place.Object k) k

abbrev pub in_start : ℕ → ℕ → Flaw → ModelFault
in_start objects i = placed (place.Start i) (objects + i)

abbrev pub no_memory : ModelFault
no_memory = in_file (as_whole Memory)

abbrev pub told : {A : Type 0} → (Flaw → ModelFault) → Result A Flaw → Result A ModelFault
told place (Ok a) = Ok a
told place (Err f) = Err (place f)

-- ---- members of one object, by name

abbrev pub must_be_object : Data → Result Data Flaw
must_be_object d = if is_some (as_object d) then Ok d else Err (as_whole WrongKind)

abbrev pub member : Member → Data → Result Data Flaw
member m d = ok_or (get (member_word m) d) (at_member Missing m)

-- a number with no sign, fraction or exponent, below 2 ^ 64
abbrev pub whole_of : Member → Data → Result ℕ Flaw
whole_of m d = ok_or (option_and_then as_u64 (as_number d)) (at_member WrongKind m)

abbrev pub whole : Member → Data → Result ℕ Flaw
whole m d = and_then (member m d) (whole_of m)

abbrev pub tick : Member → Data → Result ℕ Flaw
tick m d = and_then (whole m d) (λ n. if nat_lt n (2 ^ 32) then Ok n else Err (at_member Range m))

-- a delay or a service, which the lookahead bounds from below
abbrev pub delay : ℕ → Member → Data → Result ℕ Flaw
delay lookahead m d = and_then (tick m d) (λ n. if nat_lt n lookahead then Err (at_member Lookahead m) else Ok n)

abbrev pub text : Member → Data → Result (List ℕ) Flaw
text m d = and_then (member m d) (λ v. ok_or (as_str v) (at_member WrongKind m))

abbrev pub elements : Items → List Data
elements no_items = []
elements (item d ds) = d ∷ elements ds

abbrev pub list : Member → Data → Result (List Data) Flaw
list m d = and_then (member m d) (λ v. ok_or (option_map elements (as_array v)) (at_member WrongKind m))

-- ---- the members of the file

pub record Header : Type 0 where
  pub format : ℕ
  pub lookahead : ℕ
  pub until : ℕ
  pub objects : List Data
  pub starts : List Data

abbrev pub format : Data → Result ℕ Flaw
format d = and_then (whole members.Format d) (λ n. if n == 1 then Ok n else Err (at_member Range members.Format))

abbrev pub lookahead : Data → Result ℕ Flaw
lookahead d = and_then (tick members.Lookahead d) (λ n. if n == 0 then Err (at_member Lookahead members.Lookahead) else Ok n)

-- at most so many elements
abbrev pub many : ℕ → Member → Data → Result (List Data) Flaw
many most m d = and_then (list m d) (λ ds. if nat_lt most (length ds) then Err (at_member TooMany m) else Ok ds)

abbrev pub header : Data → Result Header Flaw
header d =
    and_then (must_be_object d) (λ _.
    and_then (format d) (λ version.
    and_then (lookahead d) (λ ahead.
    and_then (tick members.Until d) (λ last.
    and_then (many MOST_OBJECTS members.Objects d) (λ objects.
    and_then (many MOST_STARTS members.Starts d) (λ starts.
    Ok (record { format = version; lookahead = ahead; until = last; objects = objects; starts = starts })))))))

-- ---- the elements of `objects`, which name the objects that they send to

pub data Sending : Type 0 where
  relay : ℕ → List ℕ → Sending
  phold : ℕ → ℕ → Sending
  station : ℕ → List ℕ → Sending
  fan : ℕ → List (List ℕ) → Sending
  sink : Sending

pub record Named : Type 0 where
  pub name : List ℕ
  pub sending : Sending

-- the number of the first object with that name; the first object has number 1
abbrev pub number_of : List (List ℕ) → List ℕ → Option ℕ
number_of names name = position_from (bytes_eq name) 1 names

abbrev pub name : Data → Result (List ℕ) Flaw
name d = and_then (text members.Name d) (λ n. if is_name n then Ok n else Err (no_name n))

-- a name that no object before has
abbrev pub new_name : List (List ℕ) → List ℕ → Result (List ℕ) Flaw
new_name names n = if is_some (number_of names n) then Err (name_twice n) else Ok n

-- 1 to 4 texts
abbrev pub targets : Data → Result (List (List ℕ)) Flaw
targets d =
    and_then (list members.Targets d) (λ ds.
    if length ds == 0 then Err (at_member Range members.Targets)
    else (if nat_lt 4 (length ds) then Err (at_member TooMany members.Targets)
    else (if list_all (λ t. is_some (as_str t)) ds then Ok (filter_map as_str ds) else Err (at_member WrongKind members.Targets))))

abbrev pub relay_of : Header → Data → Result Sending Flaw
relay_of h d = and_then (delay h.lookahead members.Delay d) (λ n. and_then (text members.Next d) (λ next. Ok (relay n next)))

abbrev pub phold_of : Data → Result Sending Flaw
phold_of d = and_then (whole members.Seed d) (λ seed. and_then (tick members.Spread d) (λ spread. Ok (phold seed spread)))

abbrev pub station_of : Header → Data → Result Sending Flaw
station_of h d = and_then (delay h.lookahead members.Service d) (λ n. and_then (text members.Next d) (λ next. Ok (station n next)))

abbrev pub fan_of : Header → Data → Result Sending Flaw
fan_of h d = and_then (delay h.lookahead members.Delay d) (λ n. and_then (targets d) (λ ts. Ok (fan n ts)))

abbrev pub of_kind : Header → Data → BehaviourName → Result Sending Flaw
of_kind h d kinds.Relay = relay_of h d
of_kind h d kinds.Phold = phold_of d
of_kind h d kinds.Station = station_of h d
of_kind h d kinds.Fan = fan_of h d
of_kind h d kinds.Sink = Ok sink

-- the kind that a word stands for
abbrev pub kind_named : List ℕ → Option BehaviourName
kind_named word = find (λ kind. bytes_eq word (kind_word kind)) (kinds.Relay ∷ kinds.Phold ∷ kinds.Station ∷ kinds.Fan ∷ kinds.Sink ∷ [])

abbrev pub kind : Data → Result BehaviourName Flaw
kind d = and_then (text members.Kind d) (λ word. ok_or (kind_named word) (no_kind word))

abbrev pub sending_of : Header → Data → Result Sending Flaw
sending_of h d = and_then (kind d) (of_kind h d)

abbrev pub names_of : List Named → List (List ℕ)
names_of = map (λ (n : Named). n.name)

-- the next element, after these objects
abbrev pub named_of : Header → List Named → Data → Result Named Flaw
named_of h before d =
    and_then (must_be_object d) (λ _.
    and_then (name d) (λ n.
    and_then (new_name (names_of before) n) (λ n.
    and_then (sending_of h d) (λ s.
    Ok (record { name = n; sending = s })))))

abbrev pub next_named : Header → List Named → Data → Result Named ModelFault
next_named h before d = told (in_object (length before + 1)) (named_of h before d)

abbrev pub named_objects : Header → Result (List Named) ModelFault
named_objects h = each (next_named h) [] h.objects

-- ---- names looked up

-- the number of the object that the member names
abbrev pub known : Member → List (List ℕ) → List ℕ → Result ℕ Flaw
known m names name = ok_or (number_of names name) (no_object m name)

abbrev pub known_all : List (List ℕ) → List (List ℕ) → Result (List ℕ) Flaw
known_all names = each (λ _ t. known members.Targets names t) []

abbrev pub behaviour_of : List (List ℕ) → Sending → Result Behaviour Flaw
behaviour_of names (relay n next) = and_then (known members.Next names next) (λ o. Ok (behaviour.Relay n o))
behaviour_of names (phold seed spread) = Ok (behaviour.Phold seed spread)
behaviour_of names (station n next) = and_then (known members.Next names next) (λ o. Ok (behaviour.Station n o))
behaviour_of names (fan n ts) = and_then (known_all names ts) (λ os. Ok (behaviour.Fan n os))
behaviour_of names sink = Ok behaviour.Sink

abbrev pub object_of : List (List ℕ) → Named → Result Object Flaw
object_of names o = and_then (behaviour_of names o.sending) (λ b. Ok (record { name = o.name; behaviour = b }))

abbrev pub next_object : List (List ℕ) → List Object → Named → Result Object ModelFault
next_object names before o = told (in_object (length before + 1)) (object_of names o)

abbrev pub objects_of : List Named → Result (List Object) ModelFault
objects_of named = each (next_object (names_of named)) [] named

-- ---- the elements of `starts`

-- a load that isn't there is 0
abbrev pub load_from : Option Data → Result ℕ Flaw
load_from None = Ok 0
load_from (Some d) = whole_of members.Data d

abbrev pub load_of : Data → Result ℕ Flaw
load_of d = load_from (get (member_word members.Data) d)

abbrev pub start_of : List (List ℕ) → Data → Result Start Flaw
start_of names d =
    and_then (must_be_object d) (λ _.
    and_then (tick members.Time d) (λ time.
    and_then (text members.Object d) (λ name.
    and_then (known members.Object names name) (λ o.
    and_then (load_of d) (λ load.
    Ok (record { time = time; object = o; load = load }))))))

abbrev pub next_start : List (List ℕ) → List Start → Data → Result Start ModelFault
next_start names before d = told (in_start (length names) (length before + 1)) (start_of names d)

abbrev pub starts_of : Header → List (List ℕ) → Result (List Start) ModelFault
starts_of h names = each (next_start names) [] h.starts

-- ---- the whole file

abbrev pub objects_then : Header → List Named → Result ModelData ModelFault
objects_then h named =
    and_then (objects_of named) (λ objects.
    and_then (starts_of h (names_of named)) (λ starts.
    Ok (record { lookahead = h.lookahead; until = h.until; objects = objects; starts = starts })))

abbrev pub elements_then : Header → Result ModelData ModelFault
elements_then h = and_then (named_objects h) (objects_then h)

abbrev pub model_of : Data → Result ModelData ModelFault
model_of d = and_then (told in_file (header d)) elements_then

abbrev pub of_value : Option Data → Result ModelData ModelFault
of_value None = Err (in_file (as_whole NotJson))
of_value (Some d) = model_of d

-- the bytes of a file
unfoldable pub language : List ℕ → Result ModelData ModelFault
language bytes = if is_utf8 bytes then of_value (read bytes) else Err (in_file (as_whole NotJson))
