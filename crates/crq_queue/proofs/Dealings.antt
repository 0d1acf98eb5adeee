-- Dealing wakes all callers, each with what was dealt to it.
use Rattle.std.proofs.Common.{◌≡◌, ℕ, ◌<◌, List, [], ◌∷◌, map, length, Some, sym, refl, ap, ◌∙◌, subst, arith}
use Rattle.std.proofs.lemmas.List.{length-map}
use Rattle.std.specs.Prelude.{slice_get}
use mathlib.Core.Option.{some}
use lib.ListN.{get_elem?}
use Rattle.atomic_table.specs.declared.shared.Seat.{Seat}
use Rattle.crq_base.specs.declared.entry.Entry.{Entry}
use Rattle.crq_rule.specs.declared.view.Deal.{Deal}
use Rattle.crq_rule.specs.declared.pass.Pass.{Pass}
use Rattle.crq_rule.specs.declared.pass.Rest.{Rest}
use Rattle.crq_rule.specs.declared.pass.Table.{Table}
use Rattle.crq_rule.specs.declared.pass.Seating.{Seating}
use Rattle.crq_rule.specs.declared.pass.Seating.TheVariants.{Here, Resting}
use Rattle.crq_rule.specs.declared.view.Caller.{Caller}
use Rattle.crq_rule.specs.declared.view.View.{View}
use Rattle.crq_rule.specs.Deals.{spanned_part, spans}
use Rattle.crq_rule.specs.Moves.{Lawful}
use Rattle.crq_rows.specs.Passes.{first_part, IsOwed}
use Rattle.crq_rows.specs.Waking.{AllRest, pass_of, AllWoken}
use Rattle.crq_rows.proofs.Deals.{same_pass}
use Rattle.crq_queue.specs.declared.calendar.Whole.{Whole}
use Rattle.crq_queue.specs.Wholes.{MayGather, AreResting, rest_of, history_of, Rests, IsWhole, IsDealt, AreDealt}
use Rattle.crq_queue.proofs.Wholes.{place_within, mapped_at, whole_at}

-- a caller that rests, once it is dealt so many sources
abbrev pub Spanned : Table → List Entry → ℕ → ℕ → Caller → Rest → Type 0
Spanned table history span k p rest = Rests table history k p rest × (p.deal.span ≡ span)

lawful_spanned : (n : ℕ) (p : Caller) → Lawful p → Lawful (spanned_part n p)
lawful_spanned n p l = record {
  inside = l.inside;
  epochs = l.epochs;
  hand = l.hand;
  cut = l.cut;
  tags = l.tags;
  ripening = l.ripening;
  stands = l.stands;
  last = l.last;
  apart = l.apart;
  on = l.on;
  agree = l.agree;
  owing = l.owing;
  owed_at = l.owed_at;
  owed_now = l.owed_now;
  owed_fits = l.owed_fits;
  ordered = l.ordered;
  scarce = l.scarce;
  one_name = l.one_name;
  copying = λ d owes. let k = l.copying d owes in record { on = k.on; old = k.old; copy = k.copy; event = k.event; last = k.last; room = k.room };
  sighted = l.sighted;
  permitted = l.permitted;
  controlled = l.controlled;
  helping = l.helping;
  loaded = l.loaded;
  pinned = l.pinned;
}

spanned_rests : (table : Table) (history : List Entry) (span k : ℕ) (p : Caller) (rest : Rest) → Rests table history k p rest → Rests table history k (spanned_part span p) rest
spanned_rests table history span k p rest r = record {
  number = r.number;
  start = r.start;
  lawful = lawful_spanned span p r.lawful;
  deal = r.deal;
  own = r.own;
  guard = r.guard;
  cut = r.cut;
  free = r.free;
  room = r.room;
  debts = r.debts;
  settle = r.settle;
  settled = r.settled;
  told = r.told;
  copy = r.copy;
  second_cut = r.second_cut;
}

-- the pass k of those that are dealt
pub record IsMade (table : Table) (whole : Whole) (span k : ℕ) (pass : Pass) : Type 0 where
  pub resting : MayGather table pass
  pub dealt : IsDealt table (history_of whole) span k pass
  pub awake : slice_get whole.places.items k ≡ Some (Resting (rest_of pass))

-- the caller that a seat carries alone, and what rests of its pass
new_pass : (table : Table) (whole : Whole) (span n : ℕ) (seat : Seat (Unit {0}) View) (p : Caller) (rest : Rest) → n < table.start.layout.workers → seat.table_id ≡ table.inner.shared.table_id → seat.me ≡ (record { parts = p ∷ [] }, [])
    → slice_get whole.places.items n ≡ Some (Resting rest) → Spanned table (history_of whole) span n p rest → IsMade table whole span n (pass_of seat n rest)
new_pass table whole span n seat p rest b id me at s = let r = s.0 in let part : first_part table.start seat.me.0.parts ≡ p = ap (λ m. first_part table.start m.0.parts) me in record {
  resting = record {
    rests = record {
      is = record {
        sits = record {
          seated = id;
          bare = ap (λ m. m.1) me;
          one = ap (λ m. m.0.parts) me ∙ ap (λ p. p ∷ []) (sym part);
          numbered = ap (λ (p : Caller). p.number) part ∙ r.number;
          inside = b;
          started = ap (λ (p : Caller). p.start) part ∙ r.start;
        };
        lawful = subst Lawful (sym part) r.lawful;
        free = r.free ∙ sym (ap (λ (p : Caller). p.hand) part);
        room = r.room;
        debts = subst (λ (p : Caller). IsOwed rest.debts p.debts) (sym part) r.debts;
      };
      guard = ap (λ (p : Caller). p.guard) part ∙ r.guard;
      cut = ap (λ (p : Caller). p.cut) part ∙ r.cut;
      settle = ap (λ (p : Caller). p.debts.settle) part ∙ (r.settled ∙ sym r.settle);
      copy = r.copy;
      second_cut = r.second_cut;
    };
    settled = r.settle;
  };
  dealt = record {
    number = refl;
    deal = ap (λ (p : Caller). p.deal) part ∙ the_deal p.deal r.deal s.1;
    own = ap (λ (p : Caller). p.own) part ∙ r.own;
    told = ap (λ (p : Caller). p.told) part ∙ r.told;
    turns = refl;
  };
  awake = at;
}
  where
    the_deal : (d : Deal) → d.history ≡ history_of whole → d.span ≡ span → d ≡ record { history = history_of whole; span = span }
    the_deal d h s = λ i. record { history = h i; span = s i }

same_rest : (r s : Rest) → Some (Resting r) ≡ Some (Resting s) → r ≡ s
same_rest r s e = cc

module _ (table : Table) (whole : Whole) (span : ℕ) (seat : Seat (Unit {0}) View) (w : IsWhole table whole) (me : seat.me ≡ (spans span whole.seat.me.0, whole.seat.me.1)) where
  parts : seat.me.0.parts ≡ map (spanned_part span) whole.seat.me.0.parts
  parts = ap (λ m. m.0.parts) me

  -- the caller k, which is dealt so many sources, and what rests of it
  dealt_at : (k : ℕ) (p : Caller) → get_elem? seat.me.0.parts k ≡ some p → ((rest : Rest) × (slice_get whole.places.items k ≡ Some (Resting rest)) × Spanned table (history_of whole) span k p rest)
  dealt_at k p at = let m = mapped_at (spanned_part span) whole.seat.me.0.parts k p (ap (λ ps. get_elem? ps k) (sym parts) ∙ at) in let r = whole_at table whole w k m.0 m.1 in
      (r.0, r.1, subst (λ q. Spanned table (history_of whole) span k q r.0) m.2 (spanned_rests table (history_of whole) span k m.0 r.0 r.2, refl))

  pub deal_rests : seat.table_id ≡ whole.seat.table_id → AllRest table seat whole.places.items
  deal_rests same = record {
    wide = w.wide;
    seated = same ∙ w.seated;
    bare = ap (λ m. m.1) me ∙ w.bare;
    parts = ap length parts ∙ (length-map {B = Caller} whole.seat.me.0.parts (spanned_part span) ∙ w.parts);
    each = λ k p at. let r = dealt_at k p at in (r.2.0.number, (r.0, r.1));
  }

  -- all passes are made
  pub deal_made : (now : List Seating) → AllWoken table seat whole.places.items now → AreResting table now × AreDealt table whole span now
  deal_made now woken =
      let made : (k : ℕ) (b : k < table.start.layout.workers) → IsMade table whole span k (pass_of (woken.each k b).alone k (woken.each k b).rest) = λ k b. let h = woken.each k b in let r = dealt_at k h.part h.carried in
      new_pass table whole span k h.alone h.part h.rest b h.seated h.me h.rested (subst (Spanned table (history_of whole) span k h.part) (same_rest r.0 h.rest (sym r.1 ∙ h.rested)) r.2) in
      let it : (k : ℕ) (pass : Pass) → slice_get now k ≡ Some (Here pass) → IsMade table whole span k pass = λ k pass e. let l = place_within now k (Here pass) e in let wide = woken.wide in let b : k < table.start.layout.workers = omega arith in
      subst (IsMade table whole span k) (same_pass (pass_of (woken.each k b).alone k (woken.each k b).rest) pass (sym (woken.each k b).here ∙ e)) (made k b) in (
        record {
          wide = woken.wide;
          each = λ k b. (pass_of (woken.each k b).alone k (woken.each k b).rest, (woken.each k b).here, (made k b).dealt.number, (made k b).resting);
        },
        record {
          each = λ k pass e. (it k pass e).dealt;
          awake = λ k pass e. (it k pass e).awake;
        },
      )
