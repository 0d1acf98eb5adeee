-- A model that the language gives keeps what each model keeps.
use Rattle.std.proofs.Common.{◌≡◌, ℕ, zero, suc, ◌+◌, ◌^◌, ◌<◌, ◌≤◌, List, [], ◌∷◌, ◌++◌, length, get_or, map, true, Some, None, Ok, inl, inr, refl, sym, ap, ap₂, ◌∙◌, subst, arith, ◌==◌, nat_lt, zero-add}
use Rattle.std.specs.List.{All, AllZip, Contains, position_from}
use Rattle.std.specs.Str.{bytes_eq}
use Rattle.std.proofs.lemmas.Bool.{cases_Bool, ltb-true, ltb-false, eqb-false}
use Rattle.std.proofs.lemmas.List.{length-map, map-append}
use Rattle.std.proofs.lemmas.List.Elements.{All-nil, All-cons, All-head, All-tail, All-push, All-map, All-weaker, Contains-push_cases}
use Rattle.std.proofs.lemmas.Slice.Eq.{bytes_eq-Decides}
use Rattle.serde_json.specs.Data.{Data}
use Rattle.crq_sim.specs.Names.{is_name}
use Rattle.crq_sim.specs.Models.{ModelData, IsModel, AreApart, IsObject, IsBehaviour}
use Rattle.crq_sim.specs.declared.model.Object.{Object}
use Rattle.crq_sim.specs.declared.model.TheConstants.{MOST_OBJECTS, MOST_STARTS}
use Rattle.crq_sim.specs.declared.model.Start.{Start}
use Rattle.crq_sim.specs.declared.model.Behaviour.{Behaviour}
use Rattle.crq_sim.specs.declared.model.Behaviour.TheVariants as behaviour
use Rattle.crq_reader.specs.Language.{Header, at_member, no_object, told, in_file, must_be_object, format, lookahead, whole, tick, list, text, many, header, known, known_all, number_of, names_of, named_of, next_named, named_objects, behaviour_of, object_of, next_object, objects_of, start_of, next_start, load_of, starts_of, model_of, Sending, Named, relay, phold, station, fan, sink}
use Rattle.crq_reader.specs.Drafts.{IsNamed}
use Rattle.crq_reader.specs.declared.fault.FaultNumber.TheVariants.{Range, Lookahead, TooMany}
use Rattle.crq_reader.specs.declared.member.Member.{Member}
use Rattle.crq_reader.specs.declared.member.Member.TheVariants as members
use Rattle.crq_reader.proofs.EachLaws.{and_then_ok, ok_if, err_if, told_ok, ok_or_ok, each_keeps, each_zip, length-each}
use Rattle.crq_reader.proofs.NumberLaws.{number_of_range}
use Rattle.crq_reader.proofs.ReadLaws.{Sends, named_tells, length-known_all}

-- ---- the file

many_few : (most : ℕ) (key : Member) (d : Data) (ds : List Data) → many most key d ≡ Ok ds → length ds ≤ most
many_few most key d ds e =
    let made = and_then_ok (list key d) _ ds e in
    let kept = err_if (nat_lt most (length made.0)) (Ok made.0) ds (at_member TooMany key) made.2 in
    let is : made.0 ≡ ds = cc in
    omega (arith, ltb-false most (length made.0) kept.0, ap length is)

lookahead_some : (d : Data) (n : ℕ) → lookahead d ≡ Ok n → 0 < n
lookahead_some d n e =
    let made = and_then_ok (tick members.Lookahead d) _ n e in
    let kept = err_if (made.0 == 0) (Ok made.0) n (at_member Lookahead members.Lookahead) made.2 in
    let is : made.0 ≡ n = cc in
    let some = eqb-false made.0 0 kept.0 in
    omega arith

tick_below : (key : Member) (d : Data) (n : ℕ) → tick key d ≡ Ok n → n < 2 ^ 32
tick_below key d n e =
    let made = and_then_ok (whole key d) _ n e in
    let kept = ok_if (nat_lt made.0 (2 ^ 32)) made.0 n (at_member Range key) made.2 in
    subst (λ x. x < 2 ^ 32) kept.1 (ltb-true made.0 (2 ^ 32) kept.0)

record IsHeader (h : Header) : Type 0 where
  ahead : 0 < h.lookahead
  within : h.until < 2 ^ 32
  objects_few : length h.objects ≤ MOST_OBJECTS
  starts_few : length h.starts ≤ MOST_STARTS

header_tells : (d : Data) (h : Header) → header d ≡ Ok h → IsHeader h
header_tells d h e =
    let thing = and_then_ok (must_be_object d) _ h e in
    let version = and_then_ok (format d) _ h thing.2 in
    let ahead = and_then_ok (lookahead d) _ h version.2 in
    let last = and_then_ok (tick members.Until d) _ h ahead.2 in
    let objects = and_then_ok (many MOST_OBJECTS members.Objects d) _ h last.2 in
    let starts = and_then_ok (many MOST_STARTS members.Starts d) _ h objects.2 in
    let made : Header = record { format = version.0; lookahead = ahead.0; until = last.0; objects = objects.0; starts = starts.0 } in
    let is : made ≡ h = cc in
    subst IsHeader is (record { ahead = lookahead_some d ahead.0 ahead.1; within = tick_below members.Until d last.0 last.1; objects_few = many_few MOST_OBJECTS members.Objects d objects.0 objects.1; starts_few = many_few MOST_STARTS members.Starts d starts.0 starts.1 })

-- ---- names that stand once

not_there : (name : List ℕ) (i : ℕ) (names : List (List ℕ)) → position_from (bytes_eq name) i names ≡ None → (k : ℕ) → k < length names → get_or names k name ≡ name → ⊥
not_there name i [] e k lt is = absurd (omega arith)
not_there name i (n ∷ ns) e zero lt is = let found : Some i ≡ None = rw ((bytes_eq-Decides name n).1 (sym is)) at e in absurd (cc)
not_there name i (n ∷ ns) e (suc k) lt is =
    elim (cases_Bool (bytes_eq name n)) [
      | inl same ↦ let found : Some i ≡ None = rw same at e in absurd (cc)
      | inr other ↦ let later : position_from (bytes_eq name) (i + 1) ns ≡ None = rw other at e in not_there name (i + 1) ns later k (omega arith) is
    ]

apart_push : (names : List (List ℕ)) (new : List ℕ) → AreApart names → (Contains names new → ⊥) → AreApart (names ++ new ∷ [])
apart_push [] new a h = (h, tt)
apart_push (n ∷ ns) new (first, rest) h =
    (λ has. elim (Contains-push_cases ns new n has) [ inl before ↦ first before | inr same ↦ h (0, omega arith, sym same) ], apart_push ns new rest (λ has. h (suc has.0, omega arith, has.2)))

-- ---- objects by name

record AreNamed (h : Header) (named : List Named) : Type 0 where
  each_named : All IsNamed named
  apart : AreApart (names_of named)
  each_sends : All (λ (o : Named). Sends h.lookahead o.sending) named

named_more : (head : Header) (before : List Named) (d : Data) (o : Named) → AreNamed head before → next_named head before d ≡ Ok o → AreNamed head (before ++ o ∷ [])
named_more head before d o h e =
    let tells = named_tells head before d o (told_ok _ (named_of head before d) o e) in
    record {
      each_named = All-push IsNamed before o h.each_named tells.named;
      apart = subst AreApart (sym (map-append (λ (n : Named). n.name) before (o ∷ []))) (apart_push (names_of before) o.name h.apart (λ has. not_there o.name 1 (names_of before) tells.new has.0 has.1 has.2));
      each_sends = All-push (λ (n : Named). Sends head.lookahead n.sending) before o h.each_sends tells.sends;
    }

named_objects_tell : (h : Header) (named : List Named) → named_objects h ≡ Ok named → AreNamed h named
named_objects_tell h named =
    each_keeps (next_named h) (AreNamed h) (λ before d o k e. named_more h before d o k e) [] h.objects named (record { each_named = All-nil IsNamed; apart = tt; each_sends = All-nil _ })

-- ---- objects with their targets

known_object : (key : Member) (names : List (List ℕ)) (name : List ℕ) (n : ℕ) → known key names name ≡ Ok n → IsObject (length names) n
known_object key names name n e =
    let range = number_of_range (bytes_eq name) 1 names n (ok_or_ok (number_of names name) (no_object key name) n e) in
    (omega (arith, range.0), omega (arith, range.1))

behaviour_tells : (ahead : ℕ) (names : List (List ℕ)) (s : Sending) (b : Behaviour) → Sends ahead s → behaviour_of names s ≡ Ok b → IsBehaviour ahead (length names) b
behaviour_tells ahead names (relay n next) b h e =
    let o = and_then_ok (known members.Next names next) _ b e in
    let is : behaviour.Relay n o.0 ≡ b = cc in
    subst (IsBehaviour ahead (length names)) is (h.1, known_object members.Next names next o.0 o.1)
behaviour_tells ahead names (phold seed spread) b h e =
    let is : behaviour.Phold seed spread ≡ b = cc in
    subst (IsBehaviour ahead (length names)) is tt
behaviour_tells ahead names (station n next) b h e =
    let o = and_then_ok (known members.Next names next) _ b e in
    let is : behaviour.Station n o.0 ≡ b = cc in
    subst (IsBehaviour ahead (length names)) is (h.1, known_object members.Next names next o.0 o.1)
behaviour_tells ahead names (fan n ts) b h e =
    let os = and_then_ok (known_all names ts) _ b e in
    let all : All (IsObject (length names)) os.0 =
    each_keeps (λ _ t. known members.Targets names t) (All (IsObject (length names))) (λ done t o p k. All-push (IsObject (length names)) done o p (known_object members.Targets names t o k)) [] ts os.0 (All-nil _) os.1 in
    let is : behaviour.Fan n os.0 ≡ b = cc in
    let count = length-known_all names ts os.0 os.1 in
    subst (IsBehaviour ahead (length names)) is (h.1, omega (arith, h.0.0), omega (arith, h.0.1), all)
behaviour_tells ahead names sink b h e =
    let is : behaviour.Sink ≡ b = cc in
    subst (IsBehaviour ahead (length names)) is tt

record Stands (names : List (List ℕ)) (o : Named) (made : Object) : Type 0 where
  same_name : made.name ≡ o.name
  behaves : behaviour_of names o.sending ≡ Ok made.behaviour

object_stands : (names : List (List ℕ)) (o : Named) (made : Object) → object_of names o ≡ Ok made → Stands names o made
object_stands names o made e =
    let b = and_then_ok (behaviour_of names o.sending) _ made e in
    let is : record { name = o.name; behaviour = b.0 } ≡ made = cc in
    subst (Stands names o) is (record { same_name = refl; behaves = b.1 })

names_stand : (names : List (List ℕ)) (named : List Named) (objects : List Object) → AllZip (Stands names) named objects → map (λ (o : Object). o.name) objects ≡ names_of named
names_stand names [] [] h = refl
names_stand names [] (b ∷ bs) h = absurd h
names_stand names (o ∷ os) [] h = absurd h
names_stand names (o ∷ os) (b ∷ bs) h = ap₂ (λ n ns. n ∷ ns) h.0.same_name (names_stand names os bs h.1)

behaviours_stand : (ahead : ℕ) (names : List (List ℕ)) (named : List Named) (objects : List Object) → AllZip (Stands names) named objects → All (λ (o : Named). Sends ahead o.sending) named
    → All (λ (o : Object). IsBehaviour ahead (length names) o.behaviour) objects
behaviours_stand ahead names [] [] h all = All-nil _
behaviours_stand ahead names [] (b ∷ bs) h all = absurd h
behaviours_stand ahead names (o ∷ os) [] h all = absurd h
behaviours_stand ahead names (o ∷ os) (b ∷ bs) h all =
    All-cons (λ (x : Object). IsBehaviour ahead (length names) x.behaviour) b bs
    (behaviour_tells ahead names o.sending b.behaviour (All-head (λ (x : Named). Sends ahead x.sending) o os all) h.0.behaves)
    (behaviours_stand ahead names os bs h.1 (All-tail (λ (x : Named). Sends ahead x.sending) o os all))

names_spelled : (named : List Named) → All IsNamed named → All (λ n. is_name n ≡ true) (names_of named)
names_spelled named h = All-map (λ n. is_name n ≡ true) (λ (o : Named). o.name) named (All-weaker IsNamed (λ (o : Named). is_name o.name ≡ true) (λ o k. k.spelled) named h)

-- ---- starts

start_there : (names : List (List ℕ)) (d : Data) (s : Start) → start_of names d ≡ Ok s → IsObject (length names) s.object
start_there names d s e =
    let thing = and_then_ok (must_be_object d) _ s e in
    let time = and_then_ok (tick members.Time d) _ s thing.2 in
    let name = and_then_ok (text members.Object d) _ s time.2 in
    let o = and_then_ok (known members.Object names name.0) _ s name.2 in
    let load = and_then_ok (load_of d) _ s o.2 in
    let made : Start = record { time = time.0; object = o.0; load = load.0 } in
    let is : made ≡ s = cc in
    subst (λ (x : Start). IsObject (length names) x.object) is (known_object members.Object names name.0 o.0 o.1)

starts_there : (h : Header) (names : List (List ℕ)) (starts : List Start) → starts_of h names ≡ Ok starts → All (λ (s : Start). IsObject (length names) s.object) starts
starts_there h names starts =
    each_keeps (next_start names) (All (λ (s : Start). IsObject (length names) s.object))
    (λ done d s p e. All-push (λ (x : Start). IsObject (length names) x.object) done s p (start_there names d s (told_ok _ (start_of names d) s e))) [] h.starts starts (All-nil _)

-- ---- the model

All-unmap : {A B : Type 0} (P : B → Type 0) (f : A → B) (xs : List A) → All P (map f xs) → All (λ x. P (f x)) xs
All-unmap P f [] h = All-nil _
All-unmap P f (x ∷ xs) h = All-cons (λ y. P (f y)) x xs (All-head P (f x) (map f xs) h) (All-unmap P f xs (All-tail P (f x) (map f xs) h))

pub model_kept : (d : Data) (m : ModelData) → model_of d ≡ Ok m → IsModel m
model_kept d m e =
    let h = and_then_ok (told in_file (header d)) _ m e in
    let named = and_then_ok (named_objects h.0) _ m h.2 in
    let objects = and_then_ok (objects_of named.0) _ m named.2 in
    let names = names_of named.0 in
    let starts = and_then_ok (starts_of h.0 names) _ m objects.2 in
    let file = header_tells d h.0 (told_ok in_file (header d) h.0 h.1) in
    let kept = named_objects_tell h.0 named.0 named.1 in
    let zipped = each_zip (next_object names) (Stands names) (λ done o b k. object_stands names o b (told_ok _ (object_of names o) b k)) [] named.0 objects.0 objects.1 in
    let stand = subst (λ bs. AllZip (Stands names) named.0 bs) (sym zipped.1) zipped.2 in
    let same : map (λ (o : Object). o.name) objects.0 ≡ names = names_stand names named.0 objects.0 stand in
    let named_count : length named.0 ≡ length h.0.objects = length-each (next_named h.0) [] h.0.objects named.0 named.1 ∙ zero-add (length h.0.objects) in
    let count : length names ≡ length objects.0 = ap length (sym same) ∙ length-map objects.0 (λ (o : Object). o.name) in
    let names_count : length names ≡ length named.0 = length-map named.0 (λ (o : Named). o.name) in
    let starts_count : length starts.0 ≡ length h.0.starts = length-each (next_start names) [] h.0.starts starts.0 starts.1 ∙ zero-add (length h.0.starts) in
    let made : ModelData = record { lookahead = h.0.lookahead; until = h.0.until; objects = objects.0; starts = starts.0 } in
    let is : made ≡ m = cc in
    let spelled : All (λ n. is_name n ≡ true) (map (λ (o : Object). o.name) objects.0) = subst (All (λ n. is_name n ≡ true)) (sym same) (names_spelled named.0 kept.each_named) in
    subst IsModel is
    (record {
      ahead = file.ahead;
      within = file.within;
      few_objects = omega (arith, file.objects_few);
      few_starts = omega (arith, file.starts_few);
      named = All-unmap (λ n. is_name n ≡ true) (λ (o : Object). o.name) objects.0 spelled;
      apart = subst AreApart (sym same) kept.apart;
      behaviours = subst (λ n. All (λ (o : Object). IsBehaviour h.0.lookahead n o.behaviour) objects.0) count (behaviours_stand h.0.lookahead names named.0 objects.0 stand kept.each_sends);
      started = subst (λ n. All (λ (s : Start). IsObject n s.object) starts.0) count (starts_there h.0 names starts.0 starts.1);
    })
