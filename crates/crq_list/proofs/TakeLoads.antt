-- What a load of a take tells: it goes on, or ends without an event. These are said of the control word with which the take was made.
use Rattle.std.proofs.Common.{◌≢◌, ◌≡◌, inl, inr, ℕ, ◌+◌, ◌<◌, ◌≤◌, eqb, leb, false, [], ◌∷◌, Option, Some, None, sym, refl, ap, ◌∙◌, subst, arith}
use Rattle.std.proofs.lemmas.Bool.{false≢true, cond_both, eqb-true, eqb-false, leb-true, leb-false}
use Rattle.std.proofs.lemmas.List.{length-append}
use Rattle.crq_base.specs.declared.event.Event.{Event}
use Rattle.crq_base.specs.declared.words.Link.{Link}
use Rattle.crq_base.specs.Words.{IsControl}
use Rattle.crq_rule.specs.Core.{DeadNames, renamed}
use Rattle.crq_rule.specs.declared.pass.Pass.{Pass}
use Rattle.crq_rule.specs.declared.pass.Table.{Table}
use Rattle.crq_rule.specs.declared.view.Help.{Help}
use Rattle.crq_rule.specs.declared.view.Made.{Made}
use Rattle.crq_rule.specs.declared.view.Position.{Position}
use Rattle.crq_rule.specs.declared.view.Walk.{Walk}
use Rattle.crq_rule.specs.declared.view.Caller.{Caller}
use Rattle.crq_rule.specs.Places.{index, current, IsHead}
use Rattle.crq_rule.specs.Kinds.{makes}
use Rattle.crq_rule.specs.Ranks.{head_of, IsOpen}
use Rattle.crq_rule.specs.ListKinds.{MayMiss, FoundFirst, EndedWalk, IsLastHead, IsNotBelow, best_of}
use Rattle.crq_rows.specs.Passes.{caller, IsPassOf}
use Rattle.crq_rows.proofs.Working.{plain_no_tick}
use Rattle.crq_list.specs.declared.parts.Place.{Place}
use Rattle.crq_list.specs.declared.parts.Place.TheVariants.{Bucket, Search}
use Rattle.crq_list.specs.declared.parts.Progress.{Progress}
use Rattle.crq_list.specs.declared.parts.Progress.TheVariants.{More, Done}
use Rattle.crq_list.specs.declared.take.MarkEnd.{MarkEnd}
use Rattle.crq_list.specs.declared.take.MarkEnd.TheVariants.{Beyond, Nothing, Frozen}
use Rattle.crq_list.specs.declared.take.Candidate.{Candidate}
use Rattle.crq_list.specs.declared.take.TakeOp.{TakeOp}
use Rattle.crq_list.specs.declared.take.TakeState.{TakeState}
use Rattle.crq_list.specs.declared.take.TakeState.TheVariants.{Load, Walking, Marking}
use Rattle.crq_list.specs.Known.{is_exchange, Works, turns_after}
use Rattle.crq_list.specs.Sweeps.{MetFrozen}
use Rattle.crq_list.specs.Spots.{StandsIn}
use Rattle.crq_list.specs.Taking.{last_head, bucket_in, row_of, take_at, list_at, search_ends, next_list, list_ends, goes_past, IsPresent, KeepsBest, IsTakingAt, IsFirstIn, IsTaking, taking_exchanges, take_kind, list_left, taking_left, StopsAt, FoundNothing, IsUpToBucket, TakeAnswers, TakeStepped}
use Rattle.crq_list.proofs.Heads.{is_last, next_open, best_at_end}

-- the caller with another position, walk and help of a move, and other names of dead rows
abbrev pub moved : Position → Option Walk → Option Help → DeadNames → Caller → Caller
moved a w o names p = record p { position = a; walk = w; debts = renamed p.debts names; help = o }

abbrev pub no_names : DeadNames
no_names = record { first = None; second = None }

-- one load was made with the pass, which moved its caller so
pub record Loads (table : Table) (old new : Pass) (m : Made) (a : Position) (w : Option Walk) (o : Option Help) : Type 0 where
  pub is : IsPassOf table new
  pub same : new ≡ record old { seat = new.seat }
  pub load : is_exchange m.kind ≡ false
  pub elsewhere : m.word ≢ index table.start.layout current
  pub part : caller table new ≡ makes m (moved a w o no_names (caller table old))

-- the take in another place
abbrev pub in_place : TakeOp → Place → TakeOp
in_place op place = record op { place = place }

-- the take at another head, with another least row
abbrev pub led : TakeOp → ℕ → Option Candidate → TakeState → TakeOp
led op head best state = record op { head = head; best = best; state = state }

module _ (n : ℕ) (table : Table) (op : TakeOp) (s : TakeState) (old new : Pass) (m : Made) (a : Position) (w : Option Walk) (o : Option Help) (h : Loads table old new m a w o) (no : taking_exchanges s ≡ false) (kind : m.kind ≡ take_kind s)
    (t : IsTaking n table op.found (take_at op s) (caller table old)) where
  abbrev before : Caller
  before = caller table old

  abbrev now : Caller
  now = makes m (moved a w o no_names before)

  taken : (head : ℕ) (best : Option Candidate) (s' : TakeState) → IsHead head → IsOpen op.found head → IsFirstIn op.place n table.start.layout (led op head best s') s' now → IsTakingAt n table op.found (led op head best s') s' now
      → IsTaking n table op.found (led op head best s') now
  taken head best s' is_head opened first at = record {
    counted = let c = t.counted in let longer = length-append before.made (m ∷ []) in omega arith;
    on = t.on;
    began = t.began;
    control = t.control;
    control_is = refl;
    is_head = is_head;
    opened = opened;
    uncut = t.uncut;
    free = refl;
    sees = t.sees;
    first = first;
    at = at;
  }

  works : (w : Works n (taking_exchanges s) before now) × (w.step.kind ≡ take_kind s) × (w.step.word ≢ index table.start.layout current)
  works = (
    record {
      stays = record { number = refl; start = refl; deal = refl; found = refl; guard = refl; permit = refl; sight = refl; told = refl };
      step = m;
      made = refl;
      kind = h.load ∙ sym no;
      expects = λ yes. absurd (false≢true (sym h.load ∙ yes));
      timed = λ yes. absurd (false≢true (sym (plain_no_tick m.kind h.load) ∙ yes));
      settle = λ _. refl;
    },
    kind,
    h.elsewhere,
  )

  loaded : (op' : TakeOp) (answer : Progress MarkEnd) → TakeAnswers n table op.found (take_at op s) op' old new answer → TakeStepped n table op.found (take_at op s) op' old new answer
  loaded op' answer answers = let did = subst (λ q. (w : Works n (taking_exchanges s) before q) × (w.step.kind ≡ take_kind s) × (w.step.word ≢ index table.start.layout current)) (sym h.part) works in record {
    is = h.is;
    works = did.0;
    kind = did.1;
    elsewhere = did.2;
    turns = ap (λ (z : Pass). z.turns) h.same ∙ sym (ap (λ b. turns_after b old.turns) no);
    number = ap (λ (z : Pass). z.number) h.same;
    free = ap (λ (z : Pass). z.free.items) h.same;
    answers = answers;
  }

  -- it goes on
  pub more : (head : ℕ) (best : Option Candidate) (s' : TakeState) → IsHead head → IsOpen op.found head → IsFirstIn op.place n table.start.layout (led op head best s') s' now → IsTakingAt n table op.found (led op head best s') s' now
      → taking_left (led op head best s') now < taking_left (take_at op s) before → TakeStepped n table op.found (take_at op s) (led op head best s') old new More
  more head best s' is_head opened first at less = loaded (led op head best s') More (
    subst (IsTaking n table op.found (led op head best s')) (sym h.part) (taken head best s' is_head opened first at),
    refl,
    ap (λ (z : Caller). z.own) h.part,
    ap (λ (z : Pass). z.debts) h.same,
    inr (subst (λ z. taking_left (led op head best s') z < taking_left (take_at op s) before) (sym h.part) less),
  )

  -- in the same list
  pub stays_on : (s' : TakeState) → IsFirstIn op.place n table.start.layout (take_at op s') s' now → IsTakingAt n table op.found (take_at op s') s' now → list_left s' now < list_left s before
      → TakeStepped n table op.found (take_at op s) (take_at op s') old new More
  stays_on s' first at less = more op.head op.best s' t.is_head t.opened first at (omega arith)

  -- there is nothing
  pub nothing : FoundNothing op.found op.place now → TakeStepped n table op.found (take_at op s) (take_at op Load) old new (Done Nothing)
  nothing none = loaded (take_at op Load) (Done Nothing) (
    ap (λ (z : Caller). z.own) h.part,
    ap (λ (z : Pass). z.debts) h.same,
    subst (FoundNothing op.found op.place) (sym h.part) none,
    ap (λ (z : Caller). z.cut) h.part ∙ t.uncut,
    ap (λ (z : Caller). z.debts.cut) h.part,
  )

  -- or nothing below the limit
  pub beyond : (e : Event) → MayMiss op.limit now → op.limit ≤ e.time → StopsAt n table e now → IsUpToBucket op.found op.place e → TakeStepped n table op.found (take_at op s) (take_at op Load) old new (Done (Beyond e))
  beyond e miss high stops up_to = loaded (take_at op Load) (Done (Beyond e)) (
    ap (λ (z : Caller). z.own) h.part,
    ap (λ (z : Pass). z.debts) h.same,
    subst (MayMiss op.limit) (sym h.part) miss,
    high,
    ap (λ (z : Caller). z.cut) h.part ∙ t.uncut,
    ap (λ (z : Caller). z.debts.cut) h.part,
    subst (StopsAt n table e) (sym h.part) stops,
    up_to,
  )

  -- or it was frozen
  pub frozen : (op' : TakeOp) → MetFrozen table.start.layout (list_at op) now → TakeStepped n table op.found (take_at op s) op' old new (Done Frozen)
  frozen op' met = loaded op' (Done Frozen) (
    ap (λ (z : Caller). z.own) h.part,
    ap (λ (z : Pass). z.debts) h.same,
    ap (λ (z : Caller). z.cut) h.part ∙ t.uncut,
    ap (λ (z : Caller). z.debts.cut) h.part,
    subst (MetFrozen table.start.layout (list_at op)) (sym h.part) met,
  )

-- A search walked a list

module _ (n : ℕ) (table : Table) (op : TakeOp) (s : TakeState) (old new : Pass) (m : Made) (a : Position) (w : Option Walk) (o : Option Help) (h : Loads table old new m a w o) (no : taking_exchanges s ≡ false) (kind : m.kind ≡ take_kind s)
    (control : IsControl op.found) (some : 0 < list_left s (caller table old)) (t : IsTaking n table op.found (take_at (in_place op Search) s) (caller table old)) (y : Walk) (walks : w ≡ Some y) (bucket : y.bucket ≡ None) (head : y.head ≡ op.head) where
  abbrev found_now : Caller
  found_now = makes m (moved a w o no_names (caller table old))

  abbrev ends_so : TakeOp × Progress MarkEnd → Type 0
  ends_so to = TakeStepped n table op.found (take_at (in_place op Search) s) to.0 old new to.1

  -- its walk was the last one, and found nothing below the limit
  missing : (limit : ℕ) → op.head ≡ last_head op.found → IsNotBelow (best_of y a.rows) limit → MayMiss limit found_now
  missing limit last none = record {
    began = t.began;
    sight = record { table = op.found; current = t.sees.0 };
    sees = t.sees.1;
    nothing = inr (y, walks, subst (λ o. EndedWalk o op.found a.rows y limit) (sym bucket) (subst (IsLastHead op.found) (sym head) (is_last op.found op.head last), none));
  }

  -- the least row is to be marked
  least_first : (c : Candidate) → op.head ≡ last_head op.found → best_of y a.rows ≡ Some (c.row, c.event) → FoundFirst y.bucket op.found a.rows y c.row c.event
  least_first c last best = subst (λ o. FoundFirst o op.found a.rows y c.row c.event) (sym bucket) (subst (IsLastHead op.found) (sym head) (is_last op.found op.head last), best)

  last_list : (best : Option Candidate) → op.head ≡ last_head op.found → best_of y a.rows ≡ row_of best → ((c : Candidate) → best ≡ Some c → IsPresent n table c.row c.link c.event found_now × (head_of op.found c.event ≤ op.head))
      → ends_so (search_ends (in_place op Search) best)
  last_list None last is known = nothing n table (in_place op Search) s old new m a w o h no kind t (λ limit. missing limit last (subst (λ o. IsNotBelow o limit) (sym is) tt))
  last_list (Some c) last is known = cond_both (leb op.limit c.event.time) (take_at (in_place op Search) Load, Done (Beyond c.event)) (take_at (in_place op Search) (Marking c.row c.link c.event 0), More) ends_so
      (λ yes. let high = leb-true op.limit c.event.time yes in beyond n table (in_place op Search) s old new m a w o h no kind t c.event (missing op.limit last (subst (λ o. IsNotBelow o op.limit) (sym is) high)) high (c.row, c.link, (known c refl).0) tt)
      (λ low. stays_on n table (in_place op Search) s old new m a w o h no kind t (Marking c.row c.link c.event 0) tt ((known c refl).0, (y, walks, bucket, least_first c last is), leb-false op.limit c.event.time low) some)

  -- or there is another list
  pub goes_next : (best : Option Candidate) → best_of y a.rows ≡ row_of best → ((c : Candidate) → best ≡ Some c → IsPresent n table c.row c.link c.event found_now × (head_of op.found c.event ≤ op.head)) → ends_so (next_list (in_place op Search) best)
  goes_next best is known = cond_both (eqb op.head (last_head op.found)) (search_ends (in_place op Search) best) (led (in_place op Search) (op.head + 1) best Load, More) ends_so
      (λ yes. last_list best (eqb-true op.head (last_head op.found) yes) is known)
      (λ other. let next = next_open op.found op.head control t.is_head t.opened (eqb-false op.head (last_head op.found) other) in
      more n table (in_place op Search) s old new m a w o h no kind t (op.head + 1) best Load next.0 next.1 tt (
        λ c e. let k = known c e in record { present = k.0; earlier = let low = k.1 in omega arith },
        inr (let low = t.opened.0 in omega arith, record { walk = y; walks = walks; bucket = bucket; next = ap (λ q. q + 1) (sym head); least = is }),
      ) (let low = t.is_head in omega arith))

-- A head or a row was passed

module _ (n : ℕ) (table : Table) (op : TakeOp) (s : TakeState) (old new : Pass) (m : Made) (a : Position) (w : Option Walk) (o : Option Help) (h : Loads table old new m a w o) (no : taking_exchanges s ≡ false) (kind : m.kind ≡ take_kind s)
    (control : IsControl op.found) (some : 0 < list_left s (caller table old)) (y : Walk) (walks : w ≡ Some y) (head : y.head ≡ op.head) (least : y.least ≡ row_of op.best) where
  abbrev past_now : Caller
  past_now = makes m (moved a w o no_names (caller table old))

  abbrev passes_so : Place → TakeOp × Progress MarkEnd → Type 0
  passes_so place to = TakeStepped n table op.found (take_at (in_place op place) s) to.0 old new to.1

  -- at the end of the list
  list_over : (place : Place) → IsTaking n table op.found (take_at (in_place op place) s) (caller table old) → y.bucket ≡ bucket_in place → y.at ≡ 0 → KeepsBest n table op.found op past_now → passes_so place (list_ends place (in_place op place))
  list_over (Bucket b) t bucket end keeps = nothing n table (in_place op (Bucket b)) s old new m a w o h no kind t (t.sees.0, t.sees.1, t.sees.2, (y, walks, bucket, inl end))
  list_over Search t bucket end keeps = goes_next n table op s old new m a w o h no kind control some t y walks bucket head op.best (best_at_end y a.rows op.best end least) (λ c e. let k = keeps c e in (k.present, let low = k.earlier in omega arith))

  -- or before another row
  pub goes_on_past : (place : Place) → IsTaking n table op.found (take_at (in_place op place) s) (caller table old) → y.bucket ≡ bucket_in place → (l : Link) (f : ℕ) → y.at ≡ l.row → KeepsBest n table op.found op past_now
      → (0 < l.row → (e : Event) × StandsIn a.rows l.row e op.found.generation × (head_of op.found e ≡ op.head)) → IsFirstIn place n table.start.layout (take_at (in_place op place) (Walking l.row f)) (Walking l.row f) past_now
      → (0 < l.row → list_left (Walking l.row f) past_now < list_left s (caller table old)) → passes_so place (goes_past (in_place op place) l f)
  goes_on_past place t bucket l f at keeps next first less = cond_both (eqb l.row 0) (list_ends place (in_place op place)) (take_at (in_place op place) (Walking l.row f), More) (passes_so place)
      (λ yes. list_over place t bucket (at ∙ eqb-true l.row 0 yes) keeps)
      (λ other. let ne = eqb-false l.row 0 other in let more : 0 < l.row = omega arith in let row = next more in
      stays_on n table (in_place op place) s old new m a w o h no kind t (Walking l.row f) first
      (keeps, record { walk = y; walks = walks; head_is = head; bucket = bucket; least = least; at = at; some_row = more; event = row.0; on = row.1; belongs = row.2 }) (less more))
