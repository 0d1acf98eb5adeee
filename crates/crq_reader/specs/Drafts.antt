-- What the reader keeps of the elements of a file, as the definition of the language sees them.
use Rattle.std.specs.Prelude.{◌≡◌, ℕ, ◌<◌, ◌≤◌, List, map, length, true, Result, Err, ◌⊎◌}
use Rattle.std.specs.Borrow.{Bor}
use Rattle.std.specs.BTreeMap.{BTreeMap, get_by}
use Rattle.std.specs.Cmp.Lexicographic.{slice_cmp}
use Rattle.std.specs.Ordering.{nat_cmp}
use Rattle.std.specs.List.{filter_map}
use Rattle.serde_json.specs.Find.{as_str}
use Rattle.serde_json.specs.View.{view}
use Rattle.crq_reader.specs.Language as language
use Rattle.crq_reader.specs.Language.{Sending, Named, number_of, names_of, as_whole, at_member, no_kind, no_name, name_twice, no_object, no_memory}
use Rattle.crq_sim.specs.Names.{is_name}
use Rattle.crq_reader.specs.declared.fault.FaultNumber.TheVariants.{Memory}
use Rattle.crq_reader.specs.declared.fault.ModelFault.{ModelFault}
use Rattle.crq_reader.specs.declared.flaw.Flaw.{Flaw}
use Rattle.crq_reader.specs.declared.flaw.Flaw.TheVariants as flaws
use Rattle.crq_reader.specs.declared.draft.Draft.{Draft}
use Rattle.crq_reader.specs.declared.draft.DraftBehaviour.{DraftBehaviour}
use Rattle.crq_reader.specs.declared.draft.DraftBehaviour.TheVariants.{Relay, Phold, Station, Fan, Sink}
use Rattle.crq_reader.specs.declared.header.Header.{Header}

abbrev pub header_seen : Header → language.Header
header_seen h = record { format = h.format; lookahead = h.lookahead; until = h.until; objects = map view h.objects.now; starts = map view h.starts.now }

abbrev pub sending_seen : DraftBehaviour → Sending
sending_seen (Relay n next) = language.relay n next.now
sending_seen (Phold seed spread) = language.phold seed spread
sending_seen (Station n next) = language.station n next.now
sending_seen (Fan n targets) = language.fan n (filter_map as_str (map view targets.now))
sending_seen Sink = language.sink

abbrev pub named_seen : Draft → Named
named_seen d = record { name = d.name.now; sending = sending_seen d.behaviour }

-- ---- what is kept of the objects that were read

abbrev pub IsSending : Sending → Type 0
IsSending (language.relay n next) = Unit {0}
IsSending (language.phold seed spread) = Unit {0}
IsSending (language.station n next) = Unit {0}
IsSending (language.fan n ts) = (0 < length ts) × (length ts ≤ 4)
IsSending language.sink = Unit {0}

pub record IsNamed (n : Named) : Type 0 where
  pub spelled : is_name n.name ≡ true
  pub sends : IsSending n.sending

-- the map finds the number of each name
abbrev pub Finds : BTreeMap (Bor (List ℕ)) ℕ → List (List ℕ) → Type 0
Finds numbers names = (name : List ℕ) → get_by (λ k. slice_cmp nat_cmp name k.now) numbers ≡ number_of names name

-- ---- answers of the reader

abbrev pub flaw_seen : Flaw → language.Flaw
flaw_seen (flaws.Whole f) = as_whole f
flaw_seen (flaws.Member f m) = at_member f m
flaw_seen (flaws.NoKind word) = no_kind word.now
flaw_seen (flaws.NoName word) = no_name word.now
flaw_seen (flaws.NameTwice word) = name_twice word.now
flaw_seen (flaws.NoObject m word) = no_object m word.now

-- want of memory, which is free, or the flaw that comes first
abbrev pub IsFlaw : {A : Type 0} → Flaw → Result A language.Flaw → Type 0
IsFlaw f told = (flaw_seen f ≡ as_whole Memory) ⊎ (told ≡ Err (flaw_seen f))

-- want of memory, or this fault
abbrev pub IsToldAs : ModelFault → ModelFault → Type 0
IsToldAs e fault = (e ≡ no_memory) ⊎ (e ≡ fault)

-- want of memory, or the fault that comes first
abbrev pub IsFault : {A : Type 0} → ModelFault → Result A ModelFault → Type 0
IsFault e told = (e ≡ no_memory) ⊎ (told ≡ Err e)
