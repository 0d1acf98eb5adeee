-- The language reads a model back from its canonical text.
use Rattle.std.proofs.Common.{◌≡◌, ℕ, zero, suc, ◌+◌, ◌-◌, ◌^◌, ◌<◌, List, [], ◌∷◌, ◌++◌, length, get_or, map, true, false, Some, None, is_some, ok_or, Ok, refl, sym, ap, ◌∙◌, subst, arith, ◌==◌, length-append}
use Rattle.std.specs.List.{All, position_from, filter_map, list_all}
use Rattle.std.specs.Str.{bytes_eq}
use Rattle.std.proofs.lemmas.Bool.{lt-ltb, le-ltb, ne_eqb, false_from_ne_true}
use Rattle.std.proofs.lemmas.List.{length-map, map-append, map-id, get_or_at, get_or_default}
use Rattle.std.proofs.lemmas.Slice.Eq.{bytes_eq-Decides}
use Rattle.serde_json.specs.Data.{Data, object}
use Rattle.serde_json.specs.Find.{as_str}
use Rattle.serde_json.specs.View.{items_of}
use Rattle.crq_sim.specs.Names.{is_name}
use Rattle.crq_sim.specs.Models.{ModelData, IsModel, AreApart, IsObject, IsBehaviour}
use Rattle.crq_sim.specs.declared.model.Object.{Object}
use Rattle.crq_sim.specs.declared.model.TheConstants.{MOST_OBJECTS, MOST_STARTS}
use Rattle.crq_sim.specs.declared.model.Start.{Start}
use Rattle.crq_sim.specs.declared.model.Behaviour.{Behaviour}
use Rattle.crq_sim.specs.declared.model.Behaviour.TheVariants.{Relay, Phold, Station, Fan, Sink}
use Rattle.crq_reader.specs.Language.{Header, no_object, elements, each, told, in_file, in_object, in_start, header, known, known_all, number_of, names_of, named_of, next_named, named_objects, behaviour_of, next_object, objects_of, start_of, next_start, starts_of, and_then, elements_then, objects_then, model_of, Sending, Named, relay, phold, station, fan, sink}
use Rattle.crq_reader.specs.Canonical.{names_in, name_at, object_members, object_data, start_data, model_data, IsTicks}
use Rattle.crq_reader.specs.declared.member.Member.{Member}
use Rattle.crq_reader.specs.declared.member.Member.TheVariants as members
use Rattle.crq_reader.proofs.EachLaws.{each_all}

-- ---- lists

elements_of_items : (ds : List Data) → elements (items_of ds) ≡ ds
elements_of_items [] = refl
elements_of_items (d ∷ ds) = ap (λ es. d ∷ es) (elements_of_items ds)

All_at : {A : Type 0} (P : A → Type 0) (xs before : List A) (x : A) (rest : List A) → before ++ x ∷ rest ≡ xs → All P xs → P x
All_at P xs before x rest e all =
    let there : length before < length xs = omega (arith, ap length e, length-append before (x ∷ rest)) in
    subst P (ap (λ ys. get_or ys (length before) x) (sym e) ∙ get_or_at before x rest x (length before) refl) (all (length before) x there)

-- ---- names

abbrev spot : List (List ℕ) → ℕ → List ℕ
spot names o = get_or names (o - 1) []

apart_before : (i : ℕ) (ns : List (List ℕ)) (n : List ℕ) (rest : List (List ℕ)) → AreApart (ns ++ n ∷ rest) → position_from (bytes_eq n) i ns ≡ None
apart_before i [] n rest apart = refl
apart_before i (m ∷ ns) n rest (first, apart) =
    let there : length ns < length (ns ++ n ∷ rest) = omega (arith, length-append ns (n ∷ rest)) in
    let other : bytes_eq n m ≡ false = false_from_ne_true (bytes_eq n m) (λ e. let same = (bytes_eq-Decides n m).0 e in first (length ns, there, get_or_at ns n rest m (length ns) refl ∙ same)) in
    rw other (apart_before (i + 1) ns n rest apart)

apart_found : (i : ℕ) (ns : List (List ℕ)) (k : ℕ) (d : List ℕ) → AreApart ns → k < length ns → position_from (bytes_eq (get_or ns k d)) i ns ≡ Some (i + k)
apart_found i [] k d apart lt = absurd (omega arith)
apart_found i (n ∷ ns) zero d apart lt = let same : bytes_eq n n ≡ true = (bytes_eq-Decides n n).1 refl in rw same (ap Some (omega arith))
apart_found i (n ∷ ns) (suc k) d (first, apart) lt =
    let less : k < length ns = omega arith in
    let other : bytes_eq (get_or ns k d) n ≡ false = false_from_ne_true _ (λ e. first (k, less, get_or_default ns k n d less ∙ (bytes_eq-Decides (get_or ns k d) n).0 e)) in
    rw other (apart_found (i + 1) ns k d apart less ∙ ap Some (omega arith))

known_spot : (key : Member) (names : List (List ℕ)) (o : ℕ) → AreApart names → IsObject (length names) o → known key names (spot names o) ≡ Ok o
known_spot key names o apart range =
    let found = apart_found 1 names (o - 1) [] apart (omega (arith, range.0, range.1)) in
    let is : 1 + (o - 1) ≡ o = omega (arith, range.0) in
    ap (λ r. ok_or r (no_object key (spot names o))) (found ∙ ap Some is)

all_strings : (names : List (List ℕ)) (os : List ℕ) → list_all (λ t. is_some (as_str t)) (map (name_at names) os) ≡ true
all_strings names [] = refl
all_strings names (o ∷ os) = all_strings names os

their_texts : (names : List (List ℕ)) (os : List ℕ) → filter_map as_str (map (name_at names) os) ≡ map (spot names) os
their_texts names [] = refl
their_texts names (o ∷ os) = ap (λ ts. spot names o ∷ ts) (their_texts names os)

-- ---- objects

abbrev sending_from : List (List ℕ) → Behaviour → Sending
sending_from names (Relay n next) = relay n (spot names next)
sending_from names (Phold seed spread) = phold seed spread
sending_from names (Station n next) = station n (spot names next)
sending_from names (Fan n os) = fan n (map (spot names) os)
sending_from names Sink = sink

abbrev named_from : List (List ℕ) → Object → Named
named_from names o = record { name = o.name; sending = sending_from names o.behaviour }

named_back : (h : Header) (objects : ℕ) (names : List (List ℕ)) (before : List Named) (name : List ℕ) (b : Behaviour) → is_name name ≡ true → number_of (names_of before) name ≡ None → IsBehaviour h.lookahead objects b → IsTicks b
    → named_of h before (object (object_members names name b)) ≡ Ok (record { name = name; sending = sending_from names b })
named_back h objects names before name (Relay n next) spelled new keeps ticks = rw (spelled, new, lt-ltb n (2 ^ 32) ticks, le-ltb n h.lookahead keeps.0)
named_back h objects names before name (Phold seed spread) spelled new keeps ticks = rw (spelled, new, lt-ltb spread (2 ^ 32) ticks)
named_back h objects names before name (Station n next) spelled new keeps ticks = rw (spelled, new, lt-ltb n (2 ^ 32) ticks, le-ltb n h.lookahead keeps.0)
named_back h objects names before name (Fan n os) spelled new keeps ticks =
    let count = length-map os (name_at names) in
    rw (spelled, new, lt-ltb n (2 ^ 32) ticks, le-ltb n h.lookahead keeps.0, elements_of_items (map (name_at names) os), count, ne_eqb (length os) 0 (λ e. omega (arith, keeps.1)), le-ltb 4 (length os) keeps.2, all_strings names os, their_texts names os)
named_back h objects names before name Sink spelled new keeps ticks = rw (spelled, new)

behaviour_back : (ahead : ℕ) (names : List (List ℕ)) (b : Behaviour) → AreApart names → IsBehaviour ahead (length names) b → behaviour_of names (sending_from names b) ≡ Ok b
behaviour_back ahead names (Relay n next) apart keeps = rw (known_spot members.Next names next apart keeps.1)
behaviour_back ahead names (Phold seed spread) apart keeps = refl
behaviour_back ahead names (Station n next) apart keeps = rw (known_spot members.Next names next apart keeps.1)
behaviour_back ahead names (Fan n os) apart keeps =
    let all : known_all names (map (spot names) os) ≡ Ok (map (λ (o : ℕ). o) os) =
    each_all (λ _ t. known members.Targets names t) (spot names) (λ (o : ℕ). o) os (λ before o rest e. known_spot members.Targets names o apart (All_at (IsObject (length names)) os before o rest e keeps.3)) in
    rw (all, map-id os)
behaviour_back ahead names Sink apart keeps = refl

names_again : (names : List (List ℕ)) (objects : List Object) → names_of (map (named_from names) objects) ≡ names_in objects
names_again names [] = refl
names_again names (o ∷ os) = ap (λ ns. o.name ∷ ns) (names_again names os)

pub objects_back : (h : Header) (objects : List Object) → All (λ (o : Object). is_name o.name ≡ true) objects → AreApart (names_in objects)
    → All (λ (o : Object). IsBehaviour h.lookahead (length objects) o.behaviour) objects → All (λ (o : Object). IsTicks o.behaviour) objects
    → h.objects ≡ map (object_data (names_in objects)) objects
    → named_objects h ≡ Ok (map (named_from (names_in objects)) objects)
objects_back h objects spelled apart keeps ticks is =
    let names = names_in objects in
    ap (each (next_named h) []) is ∙ each_all (next_named h) (object_data names) (named_from names) objects
    (λ before o rest e.
    let split : names_in before ++ o.name ∷ names_in rest ≡ names = sym (map-append (λ (x : Object). x.name) before (o ∷ rest)) ∙ ap names_in e in
    let same : names_of (map (named_from names) before) ≡ names_in before = names_again names before in
    let new : number_of (names_of (map (named_from names) before)) o.name ≡ None =
    ap (λ ns. number_of ns o.name) same ∙ apart_before 1 (names_in before) o.name (names_in rest) (subst AreApart (sym split) apart) in
    ap (told (in_object (length (map (named_from names) before) + 1)))
    (named_back h (length objects) names (map (named_from names) before) o.name o.behaviour (All_at (λ (x : Object). is_name x.name ≡ true) objects before o rest e spelled) new
    (All_at (λ (x : Object). IsBehaviour h.lookahead (length objects) x.behaviour) objects before o rest e keeps) (All_at (λ (x : Object). IsTicks x.behaviour) objects before o rest e ticks)))

pub resolved_back : (ahead : ℕ) (objects : List Object) → AreApart (names_in objects) → All (λ (o : Object). IsBehaviour ahead (length (names_in objects)) o.behaviour) objects
    → objects_of (map (named_from (names_in objects)) objects) ≡ Ok objects
resolved_back ahead objects apart keeps =
    let names = names_in objects in
    let all : each (next_object names) [] (map (named_from names) objects) ≡ Ok (map (λ (o : Object). o) objects) =
    each_all (next_object names) (named_from names) (λ (o : Object). o) objects
    (λ before o rest e.
    let made = behaviour_back ahead names o.behaviour apart (All_at (λ (x : Object). IsBehaviour ahead (length names) x.behaviour) objects before o rest e keeps) in
    ap (λ r. told (in_object (length (map (λ (x : Object). x) before) + 1)) (and_then r (λ b. Ok (record { name = o.name; behaviour = b })))) made) in
    ap (λ ns. each (next_object ns) [] (map (named_from names) objects)) (names_again names objects) ∙ all ∙ ap Ok (map-id objects)

-- ---- starts

start_back : (names : List (List ℕ)) (s : Start) → AreApart names → IsObject (length names) s.object → s.time < 2 ^ 32 → start_of names (start_data names s) ≡ Ok s
start_back names s apart there ticks = rw (lt-ltb s.time (2 ^ 32) ticks, known_spot members.Object names s.object apart there)

pub starts_back : (h : Header) (names : List (List ℕ)) (starts : List Start) → AreApart names → All (λ (s : Start). IsObject (length names) s.object) starts → All (λ (s : Start). s.time < 2 ^ 32) starts
    → h.starts ≡ map (start_data names) starts
    → starts_of h names ≡ Ok starts
starts_back h names starts apart there ticks is =
    ap (each (next_start names) []) is ∙ each_all (next_start names) (start_data names) (λ (s : Start). s) starts
    (λ before s rest e.
    ap (told (in_start (length names) (length (map (λ (x : Start). x) before) + 1)))
    (start_back names s apart (All_at (λ (x : Start). IsObject (length names) x.object) starts before s rest e there) (All_at (λ (x : Start). x.time < 2 ^ 32) starts before s rest e ticks)))
    ∙ ap Ok (map-id starts)

-- ---- the model

header_back : (m : ModelData) → IsModel m → m.lookahead < 2 ^ 32
    → header (model_data m) ≡ Ok (record { format = 1; lookahead = m.lookahead; until = m.until; objects = map (object_data (names_in m.objects)) m.objects; starts = map (start_data (names_in m.objects)) m.starts })
header_back m kept ticks =
    let some : (m.lookahead == 0) ≡ false = ne_eqb m.lookahead 0 (λ e. omega (arith, kept.ahead)) in
    rw (
      lt-ltb m.lookahead (2 ^ 32) ticks,
      some,
      lt-ltb m.until (2 ^ 32) kept.within,
      elements_of_items (map (object_data (names_in m.objects)) m.objects),
      length-map m.objects (object_data (names_in m.objects)),
      le-ltb MOST_OBJECTS (length m.objects) (omega (arith, kept.few_objects)),
      elements_of_items (map (start_data (names_in m.objects)) m.starts),
      length-map m.starts (start_data (names_in m.objects)),
      le-ltb MOST_STARTS (length m.starts) (omega (arith, kept.few_starts)),
    )

pub model_back : (m : ModelData) → IsModel m → m.lookahead < 2 ^ 32 → All (λ (o : Object). IsTicks o.behaviour) m.objects → All (λ (s : Start). s.time < 2 ^ 32) m.starts → model_of (model_data m) ≡ Ok m
model_back m kept ahead ticks times =
    let names = names_in m.objects in
    let count : length m.objects ≡ length names = sym (length-map m.objects (λ (o : Object). o.name)) in
    let keeps = subst (λ n. All (λ (o : Object). IsBehaviour m.lookahead n o.behaviour) m.objects) count kept.behaviours in
    let there = subst (λ n. All (λ (s : Start). IsObject n s.object) m.starts) count kept.started in
    let h : Header = record { format = 1; lookahead = m.lookahead; until = m.until; objects = map (object_data names) m.objects; starts = map (start_data names) m.starts } in
    let named = objects_back h m.objects kept.named kept.apart kept.behaviours ticks refl in
    let resolved = resolved_back m.lookahead m.objects kept.apart keeps in
    let starts = starts_back h names m.starts kept.apart there times refl in
    ap (λ r. and_then (told in_file r) elements_then) (header_back m kept ahead)
    ∙ ap (λ r. and_then r (objects_then h)) named
    ∙ rw (resolved, names_again names m.objects, starts)
