-- Two small models, of which the windows, the peak and the stop are worked out.
use Rattle.std.specs.Prelude.{[], ◌∷◌, codes}
use Rattle.crq_sim.specs.declared.model.Behaviour.TheVariants.{Relay, Sink}
use Rattle.crq_sim.specs.Models.{ModelData}

-- two relays that send to each other: events at 0, 5 and 12; the next one would be later than the end
abbrev pub relay_pair : ModelData
relay_pair = record {
  lookahead = 5;
  until = 12;
  objects = record { name = codes "a"; behaviour = Relay 5 2 } ∷ record { name = codes "b"; behaviour = Relay 7 1 } ∷ [];
  starts = record { time = 0; object = 1; load = 0 } ∷ [];
}

-- a sink with events at 0, 4 and 5
abbrev pub three_starts : ModelData
three_starts = record {
  lookahead = 5;
  until = 100;
  objects = record { name = codes "a"; behaviour = Sink } ∷ [];
  starts = record { time = 0; object = 1; load = 0 } ∷ record { time = 4; object = 1; load = 0 } ∷ record { time = 5; object = 1; load = 0 } ∷ [];
}
