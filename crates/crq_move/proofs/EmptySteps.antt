-- What the steps that empty frozen lists leave of a pass.
use Rattle.std.proofs.Common.{◌≡◌, ◌≢◌, ⊎_elim, inl, inr, ℕ, ◌<◌, ◌≤◌, ◌^◌, ◌==◌, cond, Bool, true, false, Option, Some, None, eq-eqb, ne_eqb, refl, sym, ap, ◌∙◌, subst, arith}
use mathlib.Core.Logic.{dite}
use native.Mathlib.Decide.{ℕ_discrete}
use Rattle.std.specs.VecDeque.{deque_capacity}
use Rattle.crq_base.specs.declared.kinds.StepKind.{StepKind}
use Rattle.crq_base.specs.declared.kinds.StepKind.TheVariants.{Walk, Bind, Discard}
use Rattle.crq_base.specs.declared.words.Link.{Link}
use Rattle.crq_base.specs.declared.words.Mark.{Mark}
use Rattle.crq_base.specs.declared.words.Mark.TheVariants.{Val, Inv, Mov, Del}
use Rattle.crq_base.specs.Words.{IsLink, link_word}
use Rattle.crq_base.specs.Lists.{In}
use Rattle.crq_base.proofs.WordLaws.{link_one}
use Rattle.crq_rule.specs.declared.debts.CopyDebt.{CopyDebt}
use Rattle.crq_rule.specs.declared.debts.CutDebt.{CutDebt}
use Rattle.crq_rule.specs.declared.debts.Debts.{Debts}
use Rattle.crq_rule.specs.declared.layout.Start.{Start}
use Rattle.crq_rule.specs.declared.pass.Pass.{Pass}
use Rattle.crq_rule.specs.declared.pass.Table.{Table}
use Rattle.crq_rule.specs.declared.view.Made.{Made}
use Rattle.crq_rule.specs.declared.view.Stand.{Stand}
use Rattle.crq_rule.specs.declared.view.Caller.{Caller}
use Rattle.crq_rule.specs.Places.{index, link, twin, IsRow}
use Rattle.crq_rule.specs.Core.{DeadNames, names_of, renamed}
use Rattle.crq_rule.specs.Kinds.{makes}
use Rattle.crq_rule.specs.MoveKinds.{freezes_row}
use Rattle.crq_rule.specs.CopyKinds.{loads_twin, finds_twin, validates, is_del, copy_after, loads_copy, binds, also_named, named_too, discards}
use Rattle.crq_rule.specs.Moves.{Lawful, FoundCopy, TellsTwin, wins}
use Rattle.crq_rows.specs.Passes.{caller, IsSeated, NamesLag, IsOwed, IsPassOf, StaysAside, Turns, Exchanged, Exchanges, load_made, step_made}
use Rattle.crq_rows.proofs.Reached.{stand_row}
use Rattle.crq_move.specs.Names.{names_lost}
use Rattle.crq_move.specs.Steps.{WordLeft, CopyFound, Bound}

-- a row on which the pass stands is one of the table
pub on_row : (table : Table) (pass : Pass) (s : Stand) (r : ℕ) → IsPassOf table pass → In s (caller table pass).position.rows → s.row ≡ r → IsRow table.start.layout r
on_row table pass s r of on is = stand_row table pass of r s.event (s, on, is, refl)

-- a twin that was found fits its word
pub twin_fits : (table : Table) (pass : Pass) (t : ℕ) → IsPassOf table pass → TellsTwin t (caller table pass) → t < 2 ^ 32
twin_fits table pass t of tells = dite (ℕ_discrete t 0)
    (λ none. omega arith)
    (λ some. let row = subst (λ (z : Start). IsRow z.layout t) of.sits.started (tells (omega arith)) in let low = row.1 in let fit = table.start.layout.all_fit in omega arith)

-- what the pass has at run time still agrees after a load of a twin
pub twin_aside : (r found : ℕ) (p : Caller) → Lawful p → StaysAside p (loads_twin r found p)
twin_aside r found p law = record { hand = refl; debts = inl refl }

pub owed_twin_aside : (d : CopyDebt) (found : ℕ) (p : Caller) → Lawful p → StaysAside p (finds_twin d found p)
owed_twin_aside d found p law = record { hand = refl; debts = inl refl }

-- after a row was frozen, or wasn't
pub frozen_aside : (expected r : ℕ) (l : Link) (found : ℕ) (p : Caller) → Lawful p → StaysAside p (wins expected (freezes_row r l) found p)
frozen_aside expected r l found p law = go (found == expected)
  where
    go : (b : Bool) → StaysAside p (cond b (freezes_row r l p) p)
    go true = record { hand = refl; debts = inl refl }
    go false = record { hand = refl; debts = inl refl }

-- and after a copy was made valid, or wasn't
pub validated_aside : (expected t : ℕ) (l : Link) (found : ℕ) (p : Caller) → Lawful p → StaysAside p (wins expected (validates t l) found p)
validated_aside expected t l found p law = go (found == expected)
  where
    go : (b : Bool) → StaysAside p (cond b (validates t l p) p)
    go true = record { hand = refl; debts = inl refl }
    go false = record { hand = refl; debts = inl refl }

-- what an exchange of a word was, as the words were spelled
pub word_left : (kind : StepKind) (table : Table) (old new : Pass) (place first second : ℕ) (f : Caller → Caller) (word from to found : ℕ) → word ≡ place → from ≡ first → to ≡ second
    → Exchanged table old new (step_made kind word from to found) (wins first f found) → WordLeft kind table old new place first second f old.debts (found == from)
word_left kind table old new place first second f word from to found at is_from is_to step = let p : Caller = caller table old in record {
  is = step.is;
  same = step.same;
  turns = step.turns;
  found = found;
  won_is = ap (λ z. found == z) (sym is_from);
  part = step.part ∙ (λ i. makes (step_made kind (at i) (is_from i) (is_to i) found) (cond (found == sym is_from i) (f p) p));
}

-- one dead row more leaves what a caller names behind what its pass does
also_lags : (n : CutDebt) (first second : Option CutDebt) (known : DeadNames) → second ≡ None → NamesLag (record { first = first; second = second }) known → NamesLag (also_named n first second) (named_too n known)
also_lags n None second known none lag = ⊎_elim
    (λ a. ⊎_elim (λ q. inl (inl (ap (named_too n) q))) (λ q. inl (inl (ap (named_too n) q ∙ ap (λ (s : Option CutDebt). named_too n (record { first = s; second = None })) none ∙ ap (λ (s : Option CutDebt). also_named n None s) (sym none)))) a)
    (λ b. ⊎_elim (λ q. inl (inl (ap (named_too n) q ∙ ap (λ (s : Option CutDebt). also_named n None s) (sym none)))) (λ q. inl (inl (ap (named_too n) q ∙ ap (λ (s : Option CutDebt). also_named n None s) (sym none)))) b)
    lag
also_lags n (Some f) second known none lag = ⊎_elim
    (λ a. ⊎_elim (λ q. inl (inl (ap (named_too n) q))) (λ q. inl (inr (ap (named_too n) q ∙ ap (λ (s : Option CutDebt). also_named n s None) none))) a)
    (λ b. ⊎_elim (λ q. inl (inl (ap (named_too n) q))) (λ q. inl (inr (ap (named_too n) q))) b)
    lag

-- a pass that has room for it, and its caller, owe one dead row more, and this copy
pub lost_owed : (n : CutDebt) (copy known_copy : Option CopyDebt) (run known : Debts) → run.second_cut ≡ None → known_copy ≡ copy → IsOwed run known
    → IsOwed (names_lost n copy run) (renamed (record known { copy = known_copy }) (named_too n (names_of known)))
lost_owed n copy known_copy run known room same o = record { settle = o.settle; copy = same; names = also_lags n run.cut run.second_cut (names_of known) room o.names }

-- a pass whose seat made a step stays one of the table, where it owes at run time what its caller does
pub owes_on : (table : Table) (old mid new : Pass) (m : Made) (q : Caller) (debts : Debts) → IsPassOf table old → IsSeated table mid → Lawful (caller table mid) → mid.free ≡ old.free → caller table mid ≡ makes m q → q.hand ≡ (caller table old).hand
    → IsOwed debts q.debts → new ≡ record mid { debts = debts } → IsPassOf table new
owes_on table old mid new m q debts of sits lawful free part hand owed same = subst (IsPassOf table) (sym same) record {
  sits = record { seated = sits.seated; bare = sits.bare; one = sits.one; numbered = sits.numbered; inside = sits.inside; started = sits.started };
  lawful = lawful;
  free = ap (λ z. z.items) free ∙ (of.free ∙ (sym hand ∙ sym (ap (λ (r : Caller). r.hand) part)));
  room = subst (λ z. table.start.layout.home ≤ deque_capacity z) (sym free) of.room;
  debts = subst (IsOwed debts) (sym (ap (λ (r : Caller). r.debts) part)) owed;
}

module _ (table : Table) (old mid new : Pass) (word from to found : ℕ) where
  -- what an exchange was after which the pass owes other debts at run time
  pub owes_left : (kind : StepKind) (place first second : ℕ) (f : Caller → Caller) (debts : Debts) (won : Bool) → IsPassOf table old → word ≡ place → from ≡ first → to ≡ second → (found == from) ≡ won
      → Exchanges table old mid (step_made kind word from to found) (wins first f found) → (cond won (f (caller table old)) (caller table old)).hand ≡ (caller table old).hand → IsOwed debts (cond won (f (caller table old)) (caller table old)).debts
      → new ≡ record mid { debts = debts } → WordLeft kind table old new place first second f debts won
  owes_left kind place first second f debts won of at is_from is_to how step hand owed same = let p : Caller = caller table old in let m : Made = step_made kind word from to found in
      let how' : (found == first) ≡ won = ap (λ z. found == z) (sym is_from) ∙ how in let part : caller table mid ≡ makes m (cond won (f p) p) = step.part ∙ ap (λ b. makes m (cond b (f p) p)) how' in record {
        is = owes_on table old mid new m (cond won (f p) p) debts of step.sits step.lawful (ap (λ (q : Pass). q.free) step.same) part hand owed same;
        same = same ∙ (λ i. record (step.same i) { debts = debts }) ∙ (λ i. record old { seat = sym (ap (λ (q : Pass). q.seat) same) i; turns = sym (ap (λ (q : Pass). q.turns) same) i; debts = debts });
        turns = ap (λ (q : Pass). q.turns) same ∙ step.turns;
        found = found;
        won_is = how';
        part = ap (caller table) same ∙ part ∙ (λ i. makes (step_made kind (at i) (is_from i) (is_to i) found) (cond won (f p) p));
      }

  -- a copy was discarded: the pass names one dead row more, and owes no copy
  pub discarded : (place first second r : ℕ) (l : Link) (n : CutDebt) (copy : Option CopyDebt) → IsPassOf table old → old.debts.second_cut ≡ None → None ≡ copy → word ≡ place → from ≡ first → to ≡ second → found ≡ from
      → Exchanges table old mid (step_made Discard word from to found) (wins first (discards r l n None) found) → new ≡ record mid { debts = names_lost n copy old.debts }
      → WordLeft Discard table old new place first second (discards r l n None) (names_lost n copy old.debts) true
  discarded place first second r l n copy of room none at is_from is_to hit step same =
      owes_left Discard place first second (discards r l n None) (names_lost n copy old.debts) true of at is_from is_to (eq-eqb found from hit) step refl (lost_owed n copy None old.debts (caller table old).debts room none of.debts) same

  -- the copy was bound, or the old row has another twin
  pub bound : (d : CopyDebt) (b : Bool) → IsPassOf table old → word ≡ index table.start.layout (twin d.old) → from ≡ 0 → to ≡ d.copy → (found == 0) ≡ b → TellsTwin found (caller table old)
      → Exchanges table old mid (step_made Bind word from to found) (λ q. cond (found == 0) (binds d q) (finds_twin d found q))
      → new ≡ record mid { debts = cond b (record mid.debts { copy = None }) mid.debts } → Bound table old new d found
  bound d b of at is_from is_to how told step same = let p : Caller = caller table old in let m : Made = step_made Bind word from to found in let none = found == 0 in
      let debts : Debts = cond none (record old.debts { copy = None }) old.debts in
      let same' : new ≡ record mid { debts = debts } = same ∙ (λ i. record mid { debts = cond (sym how i) (record mid.debts { copy = None }) mid.debts }) ∙ ap (λ (q : Pass). record mid { debts = cond none (record q.debts { copy = None }) q.debts }) step.same in record {
        is = owes_on table old mid new m (cond none (binds d p) (finds_twin d found p)) debts of step.sits step.lawful (ap (λ (q : Pass). q.free) step.same) step.part (hands none p) (owes none p of.debts) same';
        same = same' ∙ (λ i. record (step.same i) { debts = debts }) ∙ (λ i. record old { seat = sym (ap (λ (q : Pass). q.seat) same) i; turns = sym (ap (λ (q : Pass). q.turns) same) i; debts = debts });
        turns = ap (λ (q : Pass). q.turns) same ∙ step.turns;
        part = ap (caller table) same ∙ step.part ∙ (λ i. makes (step_made Bind (at i) (is_from i) (is_to i) found) (cond none (binds d p) (finds_twin d found p)));
        told = told;
      }
    where
      hands : (b : Bool) (p : Caller) → (cond b (binds d p) (finds_twin d found p)).hand ≡ p.hand
      hands true p = refl
      hands false p = refl

      owes : (b : Bool) (p : Caller) → IsOwed old.debts p.debts → IsOwed (cond b (record old.debts { copy = None }) old.debts) (cond b (binds d p) (finds_twin d found p)).debts
      owes true p o = record { settle = o.settle; copy = refl; names = o.names }
      owes false p o = o

-- another link was found in the copy's place
pub not_discarded : (table : Table) (old mid : Pass) (word from to found place first second r : ℕ) (l : Link) (n : CutDebt) → IsPassOf table old → word ≡ place → from ≡ first → to ≡ second → found ≢ from
    → Exchanges table old mid (step_made Discard word from to found) (wins first (discards r l n None) found) → WordLeft Discard table old mid place first second (discards r l n None) old.debts false
not_discarded table old mid word from to found place first second r l n of at is_from is_to apart step =
    owes_left table old mid mid word from to found Discard place first second (discards r l n None) old.debts false of at is_from is_to (ne_eqb found from apart) step refl of.debts (λ i. record mid { debts = ap (λ (q : Pass). q.debts) step.same i })

-- the link of the copy that was found is the one that the word spells
pub copy_found : (table : Table) (old mid new : Pass) (d : CopyDebt) (word found : ℕ) (l : Link) → IsPassOf table old → word ≡ index table.start.layout (link d.copy) → IsLink l → link_word l ≡ found
    → Turns table old mid (load_made Walk word found) (FoundCopy d found) → new ≡ record mid { debts = record mid.debts { copy = copy_after l mid.debts.copy } } → CopyFound table old new d l
copy_found table old mid new d word found l of at bits spells t same = let p : Caller = caller table old in let m : Made = load_made Walk word found in let w = t.after.1 in
    let one : w.link ≡ l = link_one w.link l w.is_link bits (w.word ∙ sym spells) in let after : t.after.0 ≡ loads_copy l p = sym w.after ∙ ap (λ (z : Link). loads_copy z p) one in
    let debts : Debts = record old.debts { copy = copy_after l old.debts.copy } in let part : caller table mid ≡ makes m (loads_copy l p) = t.after.2 ∙ ap (makes m) after in
    let same' : new ≡ record mid { debts = debts } = same ∙ ap (λ (q : Pass). record mid { debts = record q.debts { copy = copy_after l q.debts.copy } }) t.same in
    let o = of.debts in record {
      is = owes_on table old mid new m (loads_copy l p) debts of t.sits t.lawful (ap (λ (q : Pass). q.free) t.same) part refl (record { settle = o.settle; copy = ap (copy_after l) o.copy; names = o.names }) same';
      same = same' ∙ (λ i. record (t.same i) { debts = debts }) ∙ (λ i. record old { seat = sym (ap (λ (q : Pass). q.seat) same) i; debts = debts });
      is_link = bits;
      part = ap (caller table) same ∙ part ∙ (λ i. makes (load_made Walk (at i) (sym spells i)) (loads_copy l p));
      of = subst (λ (z : Link). z.generation ≡ d.generation) one w.of;
      mark = ⊎_elim (λ inv. inl (subst (λ (z : Link). z.mark ≡ Inv) one inv)) (λ del. inr (subst (λ (z : Link). z.mark ≡ Del) one del)) w.mark;
    }

-- a dead copy isn't owed any more
pub dead_gone : (mid : Pass) (l : Link) → l.mark ≡ Del → record mid { debts = record mid.debts { copy = None } } ≡ record mid { debts = record mid.debts { copy = copy_after l mid.debts.copy } }
dead_gone mid l del = ap (λ (m : Mark). record mid { debts = record mid.debts { copy = cond (is_del m) None mid.debts.copy } }) (sym del)

-- and another is
pub other_stays : (mid : Pass) (l : Link) → l.mark ≢ Del → mid ≡ record mid { debts = record mid.debts { copy = copy_after l mid.debts.copy } }
other_stays mid l other = go l.mark other
  where
    go : (m : Mark) → m ≢ Del → mid ≡ record mid { debts = record mid.debts { copy = cond (is_del m) None mid.debts.copy } }
    go Val other = refl
    go Inv other = refl
    go Mov other = refl
    go Del other = absurd (other refl)
