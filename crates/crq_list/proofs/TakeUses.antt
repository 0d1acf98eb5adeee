-- How a take begins, and what may follow on one that found nothing in its bucket.
use Rattle.std.proofs.Common.{◌≡◌, inl, inr, ℕ, ◌+◌, ◌^◌, ◌<◌, ◌≤◌, length, Option, Some, None, refl, sym, subst}
use Rattle.crq_base.specs.declared.words.Control.{Control}
use Rattle.crq_base.specs.Words.{IsControl}
use Rattle.crq_rule.specs.declared.pass.Table.{Table}
use Rattle.crq_rule.specs.declared.view.Walk.{Walk}
use Rattle.crq_rule.specs.declared.view.Caller.{Caller}
use Rattle.crq_rule.specs.Parts.{IsOn}
use Rattle.crq_rule.specs.HistoryParts.{EndsInBegin}
use Rattle.crq_rule.specs.Ranks.{first_tick, shape_of}
use Rattle.crq_rule.specs.ListKinds.{MayMiss, IsPast, EndedWalk}
use Rattle.crq_rule.specs.CurrentKinds.{next_position, MayRaise}
use Rattle.crq_list.specs.declared.parts.Place.{Place}
use Rattle.crq_list.specs.declared.parts.Place.TheVariants.{Bucket, Search}
use Rattle.crq_list.specs.declared.take.Candidate.{Candidate}
use Rattle.crq_list.specs.declared.take.TakeState.TheVariants.{Load}
use Rattle.crq_list.specs.Taking.{head_at, IsAtHead, IsFirstIn, SeesPlace, IsTaking, WalkedPast}
use Rattle.crq_list.proofs.Heads.{place_open}

-- A take that has made no step

pub begins_taking : (n : ℕ) (table : Table) (x : Control) (place : Place) (limit : ℕ) (p : Caller) → IsControl x → n ≤ length p.made → IsOn p.guard → EndsInBegin p.own → p.found.control ≡ Some x → p.cut ≡ None → p.debts.cut ≡ None → SeesPlace x place p
    → IsTaking n table x (record { found = x; place = place; head = head_at x place; limit = limit; best = None; state = Load }) p
begins_taking n table x place limit p control counted on began found uncut free sees = let at = place_open x place control in record {
  counted = counted;
  on = on;
  began = began;
  control = found;
  control_is = refl;
  is_head = at.0;
  opened = at.1;
  uncut = uncut;
  free = free;
  sees = sees;
  first = first_of place;
  at = (λ c is. absurd (none_best c is), at_head_of place);
}
  where
    none_best : (c : Candidate) → ◌≡◌ {A = Option Candidate} None (Some c) → ⊥
    none_best c is = cc

    first_of : (place' : Place) → IsFirstIn place' n table.start.layout (record { found = x; place = place; head = head_at x place; limit = limit; best = None; state = Load }) Load p
    first_of (Bucket b) = tt
    first_of Search = tt

    at_head_of : (place : Place) → IsAtHead x place (head_at x place) None p
    at_head_of (Bucket b) = (refl, refl)
    at_head_of Search = inl (refl, refl)

-- A take that is past its bucket

-- may raise current, as long as there is a next bucket
pub may_raise : (x : Control) (b : ℕ) (p : Caller) (past : WalkedPast x b p) → (next_position x past.0).tick < 2 ^ 32 → MayRaise x past.0 p
may_raise x b p past room = record {
  sight = past.1;
  walks = subst (λ z. (w : Walk) × (p.walk ≡ Some w) × (w.bucket ≡ Some z) × IsPast (shape_of x) z w p.position.rows) past.2 past.3;
  room = room;
}

-- and may miss where there is none
pub may_miss : (x : Control) (b : ℕ) (p : Caller) → EndsInBegin p.own → WalkedPast x b p → 2 ^ 32 ≤ first_tick (shape_of x) (b + 1) → (limit : ℕ) → MayMiss limit p
may_miss x b p began past last limit = record {
  began = began;
  sight = record { table = x; current = past.0 };
  sees = past.1;
  nothing = inr (past.3.0, past.3.1, subst (λ o. EndedWalk o x p.position.rows past.3.0 limit) (sym past.3.2) (inr (past.3.3, last)));
}
