-- A simulation model as contracts see it.
use Rattle.std.specs.Prelude.{◌≡◌, true, ℕ, ◌<◌, ◌≤◌, ◌^◌, List, [], ◌∷◌, length, map, All, Contains}
use Rattle.crq_sim.specs.Names.{is_name}
use Rattle.crq_sim.specs.declared.model.TheConstants.{MOST_OBJECTS, MOST_STARTS}
use Rattle.crq_sim.specs.declared.model.Object.{Object}
use Rattle.crq_sim.specs.declared.model.Start.{Start}
use Rattle.crq_sim.specs.declared.model.Behaviour.{Behaviour}
use Rattle.crq_sim.specs.declared.model.Behaviour.TheVariants.{Relay, Phold, Station, Fan, Sink}

pub record ModelData : Type 0 where
  pub lookahead : ℕ
  pub until : ℕ
  pub objects : List Object
  pub starts : List Start

-- a number that names one of so many objects
abbrev pub IsObject : ℕ → ℕ → Type 0
IsObject objects o = (0 < o) × (o ≤ objects)

-- nothing is sent before the lookahead has passed, nor to an object that isn't there
abbrev pub IsBehaviour : ℕ → ℕ → Behaviour → Type 0
IsBehaviour lookahead objects (Relay delay next) = (lookahead ≤ delay) × IsObject objects next
IsBehaviour lookahead objects (Phold seed spread) = Unit {0}
IsBehaviour lookahead objects (Station service next) = (lookahead ≤ service) × IsObject objects next
IsBehaviour lookahead objects (Fan delay targets) = (lookahead ≤ delay) × (0 < length targets) × (length targets ≤ 4) × All (IsObject objects) targets
IsBehaviour lookahead objects Sink = Unit {0}

-- no name stands twice
abbrev pub AreApart : List (List ℕ) → Type 0
AreApart [] = Unit {0}
AreApart (n ∷ ns) = (Contains ns n → ⊥) × AreApart ns

pub record IsModel (m : ModelData) : Type 0 where
  pub ahead : 0 < m.lookahead
  pub within : m.until < 2 ^ 32
  pub few_objects : length m.objects ≤ MOST_OBJECTS
  pub few_starts : length m.starts ≤ MOST_STARTS
  pub named : All (λ (o : Object). is_name o.name ≡ true) m.objects
  pub apart : AreApart (map (λ (o : Object). o.name) m.objects)
  pub behaviours : All (λ (o : Object). IsBehaviour m.lookahead (length m.objects) o.behaviour) m.objects
  pub started : All (λ (s : Start). IsObject (length m.objects) s.object) m.starts
