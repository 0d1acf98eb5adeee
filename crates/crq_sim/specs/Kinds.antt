-- The kinds of objects and their words.
use Rattle.std.specs.Prelude.{ℕ, List, codes}
use Rattle.crq_sim.specs.declared.model.Behaviour.{Behaviour}
use Rattle.crq_sim.specs.declared.model.Behaviour.TheVariants.{Relay, Phold, Station, Fan, Sink}
use Rattle.crq_sim.specs.declared.model.BehaviourName.{BehaviourName}
use Rattle.crq_sim.specs.declared.model.BehaviourName.TheVariants as names

-- a behaviour without its numbers
abbrev pub kind_of : Behaviour → BehaviourName
kind_of (Relay delay next) = names.Relay
kind_of (Phold seed spread) = names.Phold
kind_of (Station service next) = names.Station
kind_of (Fan delay targets) = names.Fan
kind_of Sink = names.Sink

-- the word that stands for a kind in models and traces
abbrev pub kind_word : BehaviourName → List ℕ
kind_word names.Relay = codes "relay"
kind_word names.Phold = codes "phold"
kind_word names.Station = codes "station"
kind_word names.Fan = codes "fan"
kind_word names.Sink = codes "sink"
