-- A pass after a step.
use Rattle.std.proofs.Common.{◌≡◌, ◌⊎◌, ⊎_elim, inl, inr, ℕ, [], ◌∷◌, Option, None, Some, sym, refl, ap, ◌∙◌, subst}
use Rattle.atomic_table.specs.declared.shared.Seat.{Seat}
use Rattle.atomic_table.specs.Table.{Allows}
use Rattle.crq_base.specs.declared.kinds.StepKind.{StepKind}
use Rattle.crq_rule.specs.declared.debts.CutDebt.{CutDebt}
use Rattle.crq_rule.specs.declared.debts.Debts.{Debts}
use Rattle.crq_rule.specs.declared.layout.Start.{Start}
use Rattle.crq_rule.specs.declared.view.Made.{Made}
use Rattle.crq_rule.specs.declared.view.Caller.{Caller}
use Rattle.crq_rule.specs.declared.view.View.{View}
use Rattle.crq_rule.specs.declared.pass.Pass.{Pass}
use Rattle.crq_rule.specs.declared.pass.Table.{Table}
use Rattle.crq_rule.specs.Core.{DeadNames, moved_up, names_of, renamed}
use Rattle.crq_rule.specs.Kinds.{makes}
use Rattle.crq_rule.specs.Rule.{Stands}
use Rattle.crq_rule.specs.Moves.{Moves, MovesBy, By, Lawful, FirstTurns}
use Rattle.crq_rule.proofs.Glue.{allows, moves_by}
use Rattle.crq_rows.specs.Passes.{caller, first_part, NamesLag, IsOwed, IsSeated, IsPassOf, StaysAside, Steps, Stepped, Turned, Turns, Exchanged, ExchangedBy, Exchanges, counted}

-- no dead rows
abbrev none_named : DeadNames
none_named = record { first = None; second = None }

-- names that lag behind those that lag lag too
pub lag_on : (run mid known : DeadNames) → NamesLag run mid → NamesLag mid known → NamesLag run known
lag_on run mid known a b = ⊎_elim
    (⊎_elim
    (λ same. subst (λ m. NamesLag m known) same b)
    (λ up. from_second (subst (λ m. NamesLag m known) up b)))
    (⊎_elim
    (λ kept. from_first (subst (λ m. NamesLag m known) kept b))
    (λ none. inr (inr (from_none (subst (λ m. NamesLag m known) none b)))))
    a
  where
    from_second : NamesLag (record { first = run.second; second = None }) known → NamesLag run known
    from_second z = ⊎_elim (⊎_elim (λ q. inl (inr q)) (λ q. inr (inr q))) (⊎_elim (λ q. inl (inr q)) (λ q. inr (inr q))) z

    from_first : NamesLag (record { first = run.first; second = None }) known → NamesLag run known
    from_first z = ⊎_elim (⊎_elim (λ q. inr (inl q)) (λ q. inr (inr q))) (⊎_elim (λ q. inr (inl q)) (λ q. inr (inr q))) z

    from_none : NamesLag none_named known → known ≡ none_named
    from_none z = ⊎_elim (⊎_elim (λ q. q) (λ q. q)) (⊎_elim (λ q. q) (λ q. q)) z

-- names of which some drop out lag behind what they were, where the first comes first
pub lag_dropped : (names : DeadNames) (first second : Option CutDebt) → (names.first ≡ None → names.second ≡ None) → (first ≡ names.first) ⊎ (first ≡ None) → (second ≡ names.second) ⊎ (second ≡ None) → NamesLag names (moved_up first second)
lag_dropped names first second ordered a b = ⊎_elim
    (λ same. subst (λ f. NamesLag names (moved_up f second)) (sym same) (kept names.first refl))
    (λ gone. subst (λ f. NamesLag names (moved_up f second)) (sym gone) (⊎_elim (λ q. inl (inr (ap (moved_up None) q))) (λ q. inr (inr (ap (moved_up None) q))) b))
    a
  where
    kept : (o : Option CutDebt) → names.first ≡ o → NamesLag names (moved_up o second)
    kept None is = ⊎_elim (λ q. inl (inr (ap (moved_up None) q))) (λ q. inr (inr (ap (moved_up None) q))) b
    kept (Some d) is = ⊎_elim (λ q. inl (inl (λ i. record { first = sym is i; second = q i }))) (λ q. inr (inl (λ i. record { first = sym is i; second = q i }))) b

-- a pass that names one dead row at most owes that, or none
pub one_name_owed : (run known : Debts) → IsOwed run known → run.second_cut ≡ None → ((known.cut ≡ None) ⊎ (known.cut ≡ run.cut)) × (known.second_cut ≡ None)
one_name_owed run known owed one = ⊎_elim
    (⊎_elim
    (λ q. (inr (ap (λ (n : DeadNames). n.first) q), ap (λ (n : DeadNames). n.second) q ∙ one))
    (λ q. (inl (ap (λ (n : DeadNames). n.first) q ∙ one), ap (λ (n : DeadNames). n.second) q)))
    (⊎_elim
    (λ q. (inr (ap (λ (n : DeadNames). n.first) q), ap (λ (n : DeadNames). n.second) q))
    (λ q. (inl (ap (λ (n : DeadNames). n.first) q), ap (λ (n : DeadNames). n.second) q)))
    owed.names

-- the seat after a step
record Sat (table : Table) (old : Pass) (seat : Seat (Unit {0}) View) (m : Made) (R : Caller → Caller → Type 0) : Type 0 where
  after : Caller
  turns : R (caller table old) after
  lawful : Lawful (makes m after)
  sits : IsSeated table (record old { seat = seat })
  part : caller table (record old { seat = seat }) ≡ makes m after

lawful_made : (m : Made) (q : Caller) → Lawful q → Lawful (makes m q)
lawful_made m q l = record {
  inside = l.inside;
  epochs = l.epochs;
  hand = l.hand;
  cut = l.cut;
  tags = l.tags;
  ripening = l.ripening;
  stands = l.stands;
  last = l.last;
  apart = l.apart;
  on = l.on;
  agree = l.agree;
  owed_at = l.owed_at;
  owed_fits = l.owed_fits;
  ordered = l.ordered;
  owed_now = l.owed_now;
  one_name = l.one_name;
  copying = λ d owes. let k = l.copying d owes in record { on = k.on; old = k.old; copy = k.copy; event = k.event; last = k.last; room = k.room };
  owing = l.owing;
  scarce = l.scarce;
  sighted = l.sighted;
  controlled = l.controlled;
  helping = l.helping;
  loaded = l.loaded;
  pinned = l.pinned;
  permitted = l.permitted;
}

module _ (table : Table) (old : Pass) (seat : Seat (Unit {0}) View) (m : Made) (R : Caller → Caller → Type 0) where
  sat : IsSeated table old → seat.table_id ≡ old.seat.table_id → FirstTurns R m old.seat.me.0.parts seat.me.0 → seat.me.1 ≡ old.seat.me.1 → Sat table old seat m R
  sat of table_id turns bare = let p : Caller = caller table old in let t = subst (λ ps. FirstTurns R m ps seat.me.0) of.one turns in
      let parts : seat.me.0.parts ≡ makes m t.0 ∷ [] = ap (λ (v : View). v.parts) t.5 in let part : first_part table.start seat.me.0.parts ≡ makes m t.0 = ap (first_part table.start) parts in record {
        after = t.0;
        turns = t.1;
        lawful = lawful_made m t.0 t.4;
        sits = record {
          seated = table_id ∙ of.seated;
          bare = bare ∙ of.bare;
          one = parts ∙ ap (λ p. p ∷ []) (sym part);
          numbered = ap (λ (p : Caller). p.number) part ∙ (t.2 ∙ of.numbered);
          inside = of.inside;
          started = ap (λ (p : Caller). p.start) part ∙ (t.3 ∙ of.started);
        };
        part = part;
      }

  pub turns : IsSeated table old → seat.table_id ≡ old.seat.table_id → seat.id ≡ old.seat.id → FirstTurns R m old.seat.me.0.parts seat.me.0 → seat.me.1 ≡ old.seat.me.1 → Turns table old (record old { seat = seat }) m R
  turns of table_id id moved bare = let s = sat of table_id moved bare in record { sits = s.sits; lawful = subst Lawful (sym s.part) s.lawful; same = refl; id = id; after = (s.after, s.turns, s.part) }

  still_owed : (d e : Debts) (run : Debts) → IsOwed run d → (e ≡ d) ⊎ ((names : DeadNames) × (e ≡ renamed d names) × NamesLag (names_of d) names) → IsOwed run e
  still_owed d e run owed how = ⊎_elim (λ q. subst (IsOwed run) (sym q) owed)
      (λ (t : (names : DeadNames) × (e ≡ renamed d names) × NamesLag (names_of d) names). subst (IsOwed run) (sym t.1) record { settle = owed.settle; copy = owed.copy; names = lag_on (names_of run) (names_of d) t.0 owed.names t.2 }) how

  pub turned : IsPassOf table old → ((p q : Caller) → Lawful p → R p q → StaysAside p q) → seat.table_id ≡ old.seat.table_id → seat.id ≡ old.seat.id → FirstTurns R m old.seat.me.0.parts seat.me.0 → seat.me.1 ≡ old.seat.me.1
      → Turned table old (record old { seat = seat }) m R
  turned of aside table_id id turns bare = let s = sat of.sits table_id turns bare in let stays = aside (caller table old) s.after of.lawful s.turns in record {
    is = record {
      sits = s.sits;
      lawful = subst Lawful (sym s.part) s.lawful;
      free = of.free ∙ (sym stays.hand ∙ sym (ap (λ (p : Caller). p.hand) s.part));
      room = of.room;
      debts = subst (λ (p : Caller). IsOwed old.debts p.debts) (sym s.part) (still_owed (caller table old).debts s.after.debts old.debts of.debts stays.debts);
    };
    same = refl;
    id = id;
    after = (s.after, s.turns, s.part);
  }

module _ (table : Table) (old : Pass) (seat : Seat (Unit {0}) View) (m : Made) (f : Caller → Caller) (tells : Caller → Type 0) where
  abbrev Goes : Caller → Caller → Type 0
  Goes p q = (f p ≡ q) × tells p

  pub steps : IsSeated table old → seat.table_id ≡ old.seat.table_id → seat.id ≡ old.seat.id → FirstTurns Goes m old.seat.me.0.parts seat.me.0 → seat.me.1 ≡ old.seat.me.1 → Steps table old (record old { seat = seat }) m f × tells (caller table old)
  steps of table_id id turns bare = let s = sat table old seat m Goes of table_id turns bare in (
    record {
      sits = s.sits;
      lawful = subst Lawful (sym s.part) s.lawful;
      same = refl;
      id = id;
      part = s.part ∙ ap (makes m) (sym s.turns.0);
    },
    s.turns.1,
  )

  pub stepped : IsPassOf table old → ((p : Caller) → Lawful p → StaysAside p (f p)) → seat.table_id ≡ old.seat.table_id → seat.id ≡ old.seat.id → FirstTurns Goes m old.seat.me.0.parts seat.me.0 → seat.me.1 ≡ old.seat.me.1
      → Stepped table old (record old { seat = seat }) m f × tells (caller table old)
  stepped of aside table_id id turns bare = let t = turned table old seat m Goes of (λ p q law h. subst (StaysAside p) h.0 (aside p law)) table_id id turns bare in (
    record { is = t.is; same = refl; id = id; part = t.after.2 ∙ ap (makes m) (sym t.after.1.0) },
    t.after.1.1,
  )

-- a pass that has counted an exchange
seated_counted : (table : Table) (pass : Pass) (t : ℕ) → IsSeated table pass → IsSeated table (record pass { turns = t })
seated_counted table pass t s = record { seated = s.seated; bare = s.bare; one = s.one; numbered = s.numbered; inside = s.inside; started = s.started }

pub exchanges : (table : Table) (old new : Pass) (t : ℕ) (m : Made) (f : Caller → Caller) → t ≡ counted old.turns → Steps table old new m f → Exchanges table old (record new { turns = t }) m f
exchanges table old new t m f is s = record { sits = seated_counted table new t s.sits; lawful = s.lawful; same = ap (λ (p : Pass). record p { turns = t }) s.same; turns = is; id = s.id; part = s.part }

pub exchanged : (table : Table) (old new : Pass) (t : ℕ) (m : Made) (f : Caller → Caller) → t ≡ counted old.turns → Stepped table old new m f → Exchanged table old (record new { turns = t }) m f
exchanged table old new t m f is s = record {
  is = record { sits = seated_counted table new t s.is.sits; lawful = s.is.lawful; free = s.is.free; room = s.is.room; debts = s.is.debts };
  same = ap (λ (p : Pass). record p { turns = t }) s.same;
  turns = is;
  id = s.id;
  part = s.part;
}

pub exchanged_by : (table : Table) (old new : Pass) (t : ℕ) (m : Made) (R : Caller → Caller → Type 0) → t ≡ counted old.turns → Turned table old new m R → ExchangedBy table old (record new { turns = t }) m R
exchanged_by table old new t m R is s = record {
  is = record { sits = seated_counted table new t s.is.sits; lawful = s.is.lawful; free = s.is.free; room = s.is.room; debts = s.is.debts };
  same = ap (λ (p : Pass). record p { turns = t }) s.same;
  turns = is;
  id = s.id;
  after = s.after;
}

-- what `atomic_table` asks of a step of the pass
pub turn_allows : (kind : StepKind) (table : Table) (pass : Pass) (w : ℕ) (g : ℕ → ℕ) (m : ℕ → Made) (R : ℕ → Caller → Caller → Type 0) → IsSeated table pass → MovesBy kind table.start (caller table pass) w g R
    → Allows (Stands table.inner.shared.key) table.inner.shared.table_id.slots pass.seat.id pass.seat.me w g (λ r n. FirstTurns (R r) (m r) pass.seat.me.0.parts n.0 × (n.1 ≡ pass.seat.me.1))
turn_allows kind table pass w g m R of moves = subst (λ (key : Start). Allows (Stands key) table.inner.shared.table_id.slots pass.seat.id pass.seat.me w g (λ r n. FirstTurns (R r) (m r) pass.seat.me.0.parts n.0 × (n.1 ≡ pass.seat.me.1)))
    (sym table.keyed) (allows table.start kind table.inner.shared.table_id.slots pass.seat.id pass.seat.me (caller table pass) w g m R of.one moves)

pub seated_allows : (kind : StepKind) (table : Table) (pass : Pass) (w : ℕ) (g : ℕ → ℕ) (m : ℕ → Made) (f : ℕ → Caller → Caller) (tells : ℕ → Caller → Type 0) → IsSeated table pass → Moves kind table.start (caller table pass) w g f tells
    → Allows (Stands table.inner.shared.key) table.inner.shared.table_id.slots pass.seat.id pass.seat.me w g (λ r n. FirstTurns (By f tells r) (m r) pass.seat.me.0.parts n.0 × (n.1 ≡ pass.seat.me.1))
seated_allows kind table pass w g m f tells of moves = turn_allows kind table pass w g m (By f tells) of (moves_by kind table.start (caller table pass) w g f tells moves)
