-- What the language tells of a model that it reads.
use Rattle.std.proofs.Common.{◌≡◌, ℕ, suc, ◌<◌, ◌≤◌, List, [], ◌∷◌, length, true, false, Option, Some, None, is_some, Ok, refl, sym, ap, ◌∙◌, subst, arith, zero-add, ◌==◌, nat_lt}
use Rattle.std.specs.List.{All, Contains, position_from, filter_map, list_all}
use Rattle.std.specs.Str.{bytes_eq}
use Rattle.std.proofs.lemmas.Bool.{ltb-false, eqb-false, and_parts}
use Rattle.serde_json.specs.Data.{Data}
use Rattle.serde_json.specs.Find.{as_str}
use Rattle.crq_sim.specs.Names.{is_name}
use Rattle.crq_sim.specs.declared.model.BehaviourName.{BehaviourName}
use Rattle.crq_sim.specs.declared.model.BehaviourName.TheVariants as kinds
use Rattle.crq_reader.specs.Language.{Header, at_member, no_name, name_twice, whole, tick, delay, text, list, targets, relay_of, phold_of, station_of, fan_of, of_kind, kind, sending_of, name, new_name, must_be_object, named_of, known, known_all, number_of, names_of, Sending, Named, relay, phold, station, fan, sink}
use Rattle.crq_reader.specs.Drafts.{IsSending, IsNamed}
use Rattle.crq_reader.specs.declared.fault.FaultNumber.TheVariants.{WrongKind, Range, Lookahead, TooMany}
use Rattle.crq_reader.specs.declared.member.Member.{Member}
use Rattle.crq_reader.specs.declared.member.Member.TheVariants as members
use Rattle.crq_reader.proofs.EachLaws.{and_then_ok, ok_if, err_if, length-each}

-- ---- delays

abbrev pub IsAhead : ℕ → Sending → Type 0
IsAhead ahead (relay n next) = ahead ≤ n
IsAhead ahead (phold seed spread) = Unit {0}
IsAhead ahead (station n next) = ahead ≤ n
IsAhead ahead (fan n ts) = ahead ≤ n
IsAhead ahead sink = Unit {0}

delay_ahead : (ahead : ℕ) (key : Member) (d : Data) (n : ℕ) → delay ahead key d ≡ Ok n → ahead ≤ n
delay_ahead ahead key d n e =
    let made = and_then_ok (tick key d) _ n e in
    let kept = err_if (nat_lt made.0 ahead) (Ok made.0) n (at_member Lookahead key) made.2 in
    let is : made.0 ≡ n = cc in
    omega (arith, ltb-false made.0 ahead kept.0)

-- ---- sendings

abbrev pub Sends : ℕ → Sending → Type 0
Sends ahead s = IsSending s × IsAhead ahead s

texts_length : (ds : List Data) → list_all (λ t. is_some (as_str t)) ds ≡ true → length (filter_map as_str ds) ≡ length ds
texts_length [] e = refl
texts_length (d ∷ ds) e =
    let parts = and_parts (is_some (as_str d)) _ e in
    let later = texts_length ds parts.1 in
    one (as_str d) parts.0 later
  where
    one : (o : Option (List ℕ)) → is_some o ≡ true → length (filter_map as_str ds) ≡ length ds → length (Rattle.std.specs.List.cons_option o (filter_map as_str ds)) ≡ suc (length ds)
    one None e later = absurd (cc)
    one (Some t) e later = ap suc later

targets_few : (d : Data) (ts : List (List ℕ)) → targets d ≡ Ok ts → (0 < length ts) × (length ts ≤ 4)
targets_few d ts e =
    let made = and_then_ok (list members.Targets d) _ ts e in
    let ds = made.0 in
    let some = err_if (length ds == 0) _ ts (at_member Range members.Targets) made.2 in
    let few = err_if (nat_lt 4 (length ds)) _ ts (at_member TooMany members.Targets) some.1 in
    let all = ok_if (list_all (λ t. is_some (as_str t)) ds) (filter_map as_str ds) ts (at_member WrongKind members.Targets) few.1 in
    let same : length ts ≡ length ds = ap length (sym all.1) ∙ texts_length ds all.0 in
    (omega (arith, eqb-false (length ds) 0 some.0), omega (arith, ltb-false 4 (length ds) few.0))

relay_sends : (h : Header) (d : Data) (s : Sending) → relay_of h d ≡ Ok s → Sends h.lookahead s
relay_sends h d s e =
    let n = and_then_ok (delay h.lookahead members.Delay d) _ s e in
    let next = and_then_ok (text members.Next d) _ s n.2 in
    let is : relay n.0 next.0 ≡ s = cc in
    subst (Sends h.lookahead) is (tt, delay_ahead h.lookahead members.Delay d n.0 n.1)

phold_sends : (ahead : ℕ) (d : Data) (s : Sending) → phold_of d ≡ Ok s → Sends ahead s
phold_sends ahead d s e =
    let seed = and_then_ok (whole members.Seed d) _ s e in
    let spread = and_then_ok (tick members.Spread d) _ s seed.2 in
    let is : phold seed.0 spread.0 ≡ s = cc in
    subst (Sends ahead) is (tt, tt)

station_sends : (h : Header) (d : Data) (s : Sending) → station_of h d ≡ Ok s → Sends h.lookahead s
station_sends h d s e =
    let n = and_then_ok (delay h.lookahead members.Service d) _ s e in
    let next = and_then_ok (text members.Next d) _ s n.2 in
    let is : station n.0 next.0 ≡ s = cc in
    subst (Sends h.lookahead) is (tt, delay_ahead h.lookahead members.Service d n.0 n.1)

fan_sends : (h : Header) (d : Data) (s : Sending) → fan_of h d ≡ Ok s → Sends h.lookahead s
fan_sends h d s e =
    let n = and_then_ok (delay h.lookahead members.Delay d) _ s e in
    let ts = and_then_ok (targets d) _ s n.2 in
    let is : fan n.0 ts.0 ≡ s = cc in
    subst (Sends h.lookahead) is (targets_few d ts.0 ts.1, delay_ahead h.lookahead members.Delay d n.0 n.1)

sink_sends : (h : Header) (d : Data) (s : Sending) → of_kind h d kinds.Sink ≡ Ok s → Sends h.lookahead s
sink_sends h d s e =
    let is : sink ≡ s = cc in
    subst (Sends h.lookahead) is (tt, tt)

kind_sends : (h : Header) (d : Data) (kind : BehaviourName) (s : Sending) → of_kind h d kind ≡ Ok s → Sends h.lookahead s
kind_sends h d kinds.Relay s = relay_sends h d s
kind_sends h d kinds.Phold s = phold_sends h.lookahead d s
kind_sends h d kinds.Station s = station_sends h d s
kind_sends h d kinds.Fan s = fan_sends h d s
kind_sends h d kinds.Sink s = sink_sends h d s

pub sending_sends : (h : Header) (d : Data) (s : Sending) → sending_of h d ≡ Ok s → Sends h.lookahead s
sending_sends h d s e = let made = and_then_ok (kind d) (of_kind h d) s e in kind_sends h d made.0 s made.2

-- ---- names looked up

pub length-known_all : (names ts : List (List ℕ)) (ns : List ℕ) → known_all names ts ≡ Ok ns → length ns ≡ length ts
length-known_all names ts ns e = length-each (λ _ t. known members.Targets names t) [] ts ns e ∙ zero-add (length ts)

-- ---- objects

pub record Tells (ahead : ℕ) (before : List Named) (o : Named) : Type 0 where
  pub named : IsNamed o
  pub new : number_of (names_of before) o.name ≡ None
  pub sends : Sends ahead o.sending

no_number : (o : Option ℕ) → is_some o ≡ false → o ≡ None
no_number None e = refl
no_number (Some n) e = absurd (cc)

pub named_tells : (h : Header) (before : List Named) (d : Data) (o : Named) → named_of h before d ≡ Ok o → Tells h.lookahead before o
named_tells h before d o e =
    let thing = and_then_ok (must_be_object d) _ o e in
    let n = and_then_ok (name d) _ o thing.2 in
    let fresh = and_then_ok (new_name (names_of before) n.0) _ o n.2 in
    let s = and_then_ok (sending_of h d) _ o fresh.2 in
    let spelled = and_then_ok (text members.Name d) _ n.0 n.1 in
    let proper = ok_if (is_name spelled.0) spelled.0 n.0 (no_name spelled.0) spelled.2 in
    let unheard = err_if (is_some (number_of (names_of before) n.0)) (Ok n.0) fresh.0 (name_twice n.0) fresh.1 in
    let same : n.0 ≡ fresh.0 = cc in
    let sends = sending_sends h d s.0 s.1 in
    let is : record { name = fresh.0; sending = s.0 } ≡ o = cc in
    subst (Tells h.lookahead before) is
    (record {
      named = record { spelled = subst (λ x. is_name x ≡ true) (proper.1 ∙ same) proper.0; sends = sends.0 };
      new = subst (λ x. number_of (names_of before) x ≡ None) same (no_number _ unheard.0);
      sends = sends;
    })
