-- What each step of a recovery tells.
use Rattle.std.proofs.Common.{◌≡◌, ◌≢◌, ⊎_elim, inl, inr, Bool, true, false, cond, ◌&&◌, eqb, leb, eq-eqb, Some, ℕ, zero, suc, ◌+◌, ◌-◌, ◌*◌, ◌<◌, ◌≤◌, List, [], ◌∷◌, ◌++◌, length, sym, refl, ap, ◌∙◌, subst, arith}
use Rattle.std.proofs.lemmas.List.{append_assoc}
use Rattle.std.proofs.lemmas.Bool.{false≢true, le-leb, leb-true, leb-false}
use Rattle.crq_base.specs.declared.holder.Holder.{Holder}
use Rattle.crq_base.specs.declared.kinds.StepKind.TheVariants.{Look, Claim}
use Rattle.crq_base.specs.Lists.{In}
use Rattle.crq_rule.specs.declared.layout.Layout.{Layout}
use Rattle.crq_rule.specs.declared.layout.Start.{Start}
use Rattle.crq_rule.specs.declared.view.Made.{Made}
use Rattle.crq_rule.specs.declared.view.Caller.{Caller}
use Rattle.crq_rule.specs.declared.pass.Pass.{Pass}
use Rattle.crq_rule.specs.declared.pass.Table.{Table}
use Rattle.crq_rule.specs.Places.{index, stamp}
use Rattle.crq_rule.specs.declared.view.Base.{Base}
use Rattle.crq_rule.specs.Kinds.{makes, looks, claims, has_risen, is_late_word, looked_base, refused_after}
use Rattle.crq_rule.proofs.Pendings.{first_of, second_of, and_of}
use Rattle.crq_rule.proofs.PartLaws.{home_is_row}
use Rattle.crq_rows.specs.declared.recover.RecoverOp.{RecoverOp}
use Rattle.crq_rows.specs.declared.recover.RecoverOp.TheVariants.{Ticking, Visiting, Taking}
use Rattle.crq_rows.specs.declared.recover.Recover.{Recover}
use Rattle.crq_rows.specs.declared.recover.Recover.TheVariants.{More, Ready, Held, Rows}
use Rattle.crq_rows.specs.declared.tick.TickOp.{TickOp}
use Rattle.crq_rows.specs.declared.tick.TickOp.TheVariants.{Load}
use Rattle.crq_rows.specs.declared.tick.Tick.{Tick as Reply}
use Rattle.crq_rows.specs.declared.tick.Tick.TheVariants as Tick
use Rattle.crq_rows.specs.Passes.{caller, load_made, store_made, IsPassOf, Stepped, Claimed}
use Rattle.crq_rows.specs.Ticking.{KnowsEpoch, TickStepped}
use Rattle.crq_rows.specs.Owning.{IsRipeWord}
use Rattle.crq_rows.specs.Recovering.{LookedSince, HasCounted, IsRecovering, RecoverNext, RecoverAnswer, RecoverStepped, RecoverKnows, IsAfterRow, recover_left}
use Rattle.crq_rows.proofs.Knowing.{longer}
use Rattle.crq_rows.proofs.Ticks.{known_made, stays_off}
use Rattle.crq_rows.proofs.Owns.{ripe_seen, none_snoc}

-- a list that isn't empty
pub has_first : (xs : List ℕ) → length xs ≢ 0 → ((x : ℕ) × (rest : List ℕ) × (xs ≡ x ∷ rest))
has_first [] ne = absurd (ne refl)
has_first (x ∷ xs) ne = (x, xs, refl)

-- the caller that has looked at one row more
pub since_more : (l : Layout) (e row w : ℕ) (p : Caller) → (IsRipeWord e w → ⊥) → LookedSince l e row p → LookedSince l e (row + 1) (makes (load_made Look (index l (stamp row)) w) (looks row w p))
since_more l e row w p unripe t = let m : Made = load_made Look (index l (stamp row)) w in record {
  before = t.before;
  last = t.last;
  since = t.since ++ m ∷ [];
  made = ap (λ (ms : List Made). ms ++ m ∷ []) t.made ∙ append_assoc t.before (t.last ∷ t.since) (m ∷ []);
  finds = t.finds;
  looks = none_snoc l e (p.number * l.home + 1) row w t.since unripe t.looks;
}

-- what is counted after a look at one row more
has_risen_by : (g e : ℕ) (es : List ℕ) → In e es → g + 3 ≤ e → has_risen g es ≡ true
has_risen_by g e [] i low = absurd i
has_risen_by g e (x ∷ es) i low = ⊎_elim (λ (q : e ≡ x). first_of (leb (g + 3) x) (has_risen g es) (le-leb (g + 3) x (omega arith))) (λ t. second_of (leb (g + 3) x) (has_risen g es) (has_risen_by g e es t low)) i

late_unripe : (g e w : ℕ) → g + 3 ≤ e → (IsRipeWord e w → ⊥) → is_late_word g w ≡ true
late_unripe g e zero low unripe = refl
late_unripe g e (suc t) low unripe = second_of (eqb (suc t) 0) (leb (g + 3) (suc t)) (le-leb (g + 3) (suc t) (by (leb e (suc t)) refl))
  where
    by : (b : Bool) → leb e (suc t) ≡ b → g + 3 ≤ suc t
    by true q = let h = leb-true e (suc t) q in omega arith
    by false q = let h = leb-false e (suc t) q in absurd (unripe (omega arith, omega arith))

pub counted_more : (e row w : ℕ) (p : Caller) → In e p.epochs → p.hand ≡ [] → (IsRipeWord e w → ⊥) → HasCounted p.start.layout e row p → HasCounted p.start.layout e (row + 1) (looks row w p)
counted_more e row w p read none unripe t = let l = p.start.layout in let b = t.0 in let first = p.number * l.home + 1 in
    let test : (eqb row (first + b.looked)) && (is_late_word b.epoch w && has_risen b.epoch p.epochs) ≡ true = and_of _ _ (eq-eqb row (first + b.looked) t.3) (and_of _ _ (late_unripe b.epoch e w t.2 unripe) (has_risen_by b.epoch e p.epochs read t.2)) in
    let next : Base = record b { looked = b.looked + 1 } in
    let base : looked_base first row w p.epochs p.base ≡ Some next = ap (looked_base first row w p.epochs) t.1 ∙ (λ i. Some (record b { looked = cond (test i) (b.looked + 1) b.looked })) in
    let at = t.3 in (
      next,
      base,
      t.2,
      omega arith,
      λ all. (λ i. refused_after l.home (none i) (base i) p.refused) ∙ ap (λ z. cond z b.events p.refused) (eq-eqb (b.looked + 1) l.home all),
    )

-- the answers that end it
held_no_more : (h : Holder) → Held h ≡ More → ⊥
held_no_more h e = cc

ready_no_more : Ready ≡ More → ⊥
ready_no_more e = cc

rows_no_more : Rows ≡ More → ⊥
rows_no_more e = cc

-- what is known is of steps made
pub recover_known_made : (n : ℕ) (l : Layout) (op : RecoverOp) (p : Caller) → RecoverKnows n l op p → n ≤ length p.made
recover_known_made n l (Ticking k tick) p known = known_made n l tick p known
recover_known_made n l (Visiting e row) p known = known
recover_known_made n l (Taking e row) p known = known

-- A tick's step

one_fewer : (n k : ℕ) → n < 3 → (3 - n) * k ≡ (3 - (n + 1)) * k + k
one_fewer zero k b = omega arith
one_fewer (suc zero) k b = omega arith
one_fewer (suc (suc zero)) k b = omega arith
one_fewer (suc (suc (suc n))) k b = absurd (omega arith)

module _ (table : Table) (old new : Pass) (moved : ℕ) (tick : TickOp) (op : IsRecovering table.start.layout (Ticking moved tick) (caller table old)) where
  abbrev here : Layout
  here = table.start.layout

  ticked : (tick' : TickOp) (reply : Reply) (op' : RecoverOp) (result : Recover) → (s : TickStepped table moved tick tick' old new reply) → RecoverNext here (Ticking moved tick) op' s.facts.made (caller table old) (caller table new) result → RecoverAnswer here op' (caller table new) result
      → ((n : ℕ) → KnowsEpoch n here tick' (caller table new) → RecoverKnows n here op' (caller table new)) → (result ≡ More → recover_left here op' < recover_left here (Ticking moved tick)) → RecoverStepped table (Ticking moved tick) op' old new result
  ticked tick' reply op' result s next answer knows shrinks = let f = s.facts in let p : Caller = caller table old in let q : Caller = caller table new in record {
    is = s.is;
    same = s.same ∙ (λ i. record old { seat = new.seat; free = sym (ap (λ (p : Pass). p.free) s.same) i; turns = new.turns });
    facts = record {
      made = f.made;
      one = f.one;
      makes = f.makes;
      stays = f.stays ∙ (λ i. record p { made = q.made; epochs = q.epochs; tick = q.tick; cut = q.cut; base = q.base; hand = sym (ap (λ (q : Caller). q.hand) f.stays) i; ripening = sym (ap (λ (q : Caller). q.ripening) f.stays) i; refused = sym (ap (λ (q : Caller). q.refused) f.stays) i });
      grows = f.grows;
      uncut = f.uncut;
      next = next;
      claims = tt;
      answer = answer;
      exchanges = f.exchanges;
      expects = f.expects;
      knows = λ n k. knows n (f.knows n k);
      shrinks = shrinks;
    };
    turns = s.turns;
  }

  -- the tick goes on
  pub ticks_on : (tick' : TickOp) → TickStepped table moved tick tick' old new Tick.More → RecoverStepped table (Ticking moved tick) (Ticking moved tick') old new More
  ticks_on tick' s = let less = s.facts.shrinks refl in ticked tick' Tick.More (Ticking moved tick') More s (inl (tick', refl)) (op.0, s.facts.answer, s.facts.based op.2) (λ n k. k) (λ _. omega arith)

  -- the epoch is held
  pub tick_held : (tick' : TickOp) (h : Holder) → TickStepped table moved tick tick' old new (Tick.Held h) → RecoverStepped table (Ticking moved tick) (Ticking 0 Load) old new (Held h)
  tick_held tick' h s = ticked tick' (Tick.Held h) (Ticking 0 Load) (Held h) s tt s.facts.answer (λ n k. known_made n here tick' (caller table new) k) (λ e. absurd (held_no_more h e))

  -- it moved, and there is one tick more to make
  pub tick_again : (tick' : TickOp) (g : ℕ) → TickStepped table moved tick tick' old new (Tick.Moved g) → moved + 1 < 3 → RecoverStepped table (Ticking moved tick) (Ticking (moved + 1) Load) old new More
  tick_again tick' g s b = let a = s.facts.answer in let fewer = one_fewer moved (here.workers + 3) op.0 in
      ticked tick' (Tick.Moved g) (Ticking (moved + 1) Load) More s (inr (a.0, g, a.1, a.3, a.4, a.5, inl (b, refl))) (b, stays_off table moved tick tick' old new (Tick.Moved g) s op.1, λ _. (g, a.4, s.facts.based op.2)) (λ n k. known_made n here tick' (caller table new) k) (λ _. omega arith)

  -- it moved for the third time, and the home rows are looked at
  pub tick_last : (tick' : TickOp) (g first : ℕ) → TickStepped table moved tick tick' old new (Tick.Moved g) → moved + 1 ≡ 3 → first ≡ (caller table old).number * here.home + 1 → RecoverStepped table (Ticking moved tick) (Visiting g first) old new More
  tick_last tick' g first s is at = let a = s.facts.answer in let fewer = one_fewer moved (here.workers + 3) op.0 in let h = here.home_is in let some_rows = here.some_rows in
      let num : (caller table new).number ≡ (caller table old).number = ap (λ (q : Caller). q.number) s.facts.stays in let at' : first ≡ (caller table new).number * here.home + 1 = at ∙ ap (λ j. j * here.home + 1) (sym num) in
      ticked tick' (Tick.Moved g) (Visiting g first) More s (inr (a.0, g, a.1, a.3, a.4, a.5, inr (is, ap (Visiting g) at))) (
        a.4,
        (omega arith, omega arith),
        λ _. (
          record { before = (caller table old).made; last = s.facts.made; since = []; made = s.facts.one; finds = a.5; looks = sym at' },
          (let h = s.facts.based op.2 in let none = h.2 in let rose = h.3 in (h.0, h.1, omega arith, at' ∙ (omega arith), λ all. absurd (omega arith))),
        ),
      )
      (λ n k. known_made n here tick' (caller table new) k) (λ _. omega arith)

-- What follows on a row

after_next : (l : Layout) (e row : ℕ) (m : Made) (p q : Caller) (op' : RecoverOp) (result : Recover) → q.number ≡ p.number → IsAfterRow l e row q op' result
    → RecoverNext l (Visiting e row) op' m p q result × RecoverNext l (Taking e row) op' m p q result
after_next l e row m p q op' More num a = (inl a.1, a.1)
after_next l e row m p q op' (Held h) num a = absurd a
after_next l e row m p q op' Ready num a = let is = a.0 ∙ ap (λ j. j * l.home + l.home) num in (is, is)
after_next l e row m p q op' Rows num a = let is = a.0 ∙ ap (λ j. j * l.home + l.home) num in (is, is)

after_answer : (l : Layout) (e row : ℕ) (q : Caller) (op' : RecoverOp) (result : Recover) → IsAfterRow l e row q op' result → RecoverAnswer l op' q result
after_answer l e row q op' More a = a.2
after_answer l e row q op' (Held h) a = absurd a
after_answer l e row q op' Ready a = a.2
after_answer l e row q op' Rows a = a.2

after_knows : (n : ℕ) (l : Layout) (e row : ℕ) (q : Caller) (op' : RecoverOp) (result : Recover) → IsAfterRow l e row q op' result → n ≤ length q.made → RecoverKnows n l op' q
after_knows n l e row q op' More a k = subst (λ op. RecoverKnows n l op q) (sym a.1) k
after_knows n l e row q op' (Held h) a k = absurd a
after_knows n l e row q op' Ready a k = subst (λ op. RecoverKnows n l op q) (sym a.1) k
after_knows n l e row q op' Rows a k = subst (λ op. RecoverKnows n l op q) (sym a.1) k

after_left : (l : Layout) (e row : ℕ) (q : Caller) (op' : RecoverOp) (result : Recover) → q.number < l.workers → IsAfterRow l e row q op' result → result ≡ More → recover_left l op' < 2 * (l.all - row)
after_left l e row q op' More inside a _ = let next = subst (λ op. IsRecovering l op q) a.1 a.2 in let below = (home_is_row l q.number (row + 1) inside next.1).1 in subst (λ op. recover_left l op < 2 * (l.all - row)) (sym a.1) (omega arith)
after_left l e row q op' (Held h) inside a is = absurd a
after_left l e row q op' Ready inside a is = absurd (ready_no_more is)
after_left l e row q op' Rows inside a is = absurd (rows_no_more is)

is_inside : (table : Table) (new : Pass) → IsPassOf table new → (caller table new).number < table.start.layout.workers
is_inside table new is = subst (λ z. z < table.start.layout.workers) (sym is.sits.numbered) is.sits.inside

-- the claim of a row, that an answer follows
pub recover_claimed : (table : Table) (old new : Pass) (e row : ℕ) (op' : RecoverOp) (result : Recover) → Claimed table old new row (store_made Claim (index table.start.layout (stamp row)) 0) (claims row)
    → IsAfterRow table.start.layout e row (caller table new) op' result → RecoverStepped table (Taking e row) op' old new result
recover_claimed table old new e row op' result s a = let l = table.start.layout in let p = caller table old in let q = caller table new in let m : Made = store_made Claim (index l (stamp row)) 0 in let one = ap (λ (q : Caller). q.made) s.part in record {
  is = s.is;
  same = s.same ∙ (λ i. record old { seat = new.seat; free = new.free; turns = sym (ap (λ (p : Pass). p.turns) s.same) i });
  facts = record {
    made = m;
    one = one;
    makes = (refl, refl);
    stays = subst (λ q. q ≡ record p { made = q.made; epochs = q.epochs; tick = q.tick; cut = q.cut; base = q.base; hand = q.hand; ripening = q.ripening; refused = q.refused }) (sym s.part) refl;
    grows = λ x i. subst (λ q. In x q.epochs) (sym s.part) i;
    uncut = λ none. ap (λ (q : Caller). q.cut) s.part ∙ none;
    next = (after_next l e row m p q op' result (ap (λ (q : Caller). q.number) s.part) a).1;
    claims = tt;
    answer = after_answer l e row q op' result a;
    exchanges = refl;
    expects = λ n k swaps. absurd (false≢true swaps);
    knows = λ n k. after_knows n l e row q op' result a (subst (λ ms. n ≤ length ms) (sym one) (longer n p.made m k));
    shrinks = after_left l e row q op' result (is_inside table new s.is) a;
  };
  turns = ap (λ (p : Pass). p.turns) s.same;
}

-- a look, that an answer follows
recover_looked : (table : Table) (old new : Pass) (e row w : ℕ) (op' : RecoverOp) (result : Recover) → Stepped table old new (load_made Look (index table.start.layout (stamp row)) w) (looks row w)
    → RecoverNext table.start.layout (Visiting e row) op' (load_made Look (index table.start.layout (stamp row)) w) (caller table old) (caller table new) result → (IsRipeWord e w → (result ≡ More) × (op' ≡ Taking e row))
    → RecoverAnswer table.start.layout op' (caller table new) result → ((n : ℕ) → n ≤ length (caller table new).made → RecoverKnows n table.start.layout op' (caller table new))
    → (result ≡ More → recover_left table.start.layout op' < 2 * (table.start.layout.all - row) + 1) → RecoverStepped table (Visiting e row) op' old new result
recover_looked table old new e row w op' result s next claims answer knows shrinks = let l = table.start.layout in let p = caller table old in let m : Made = load_made Look (index l (stamp row)) w in let one = ap (λ (q : Caller). q.made) s.part in record {
  is = s.is;
  same = s.same ∙ (λ i. record old { seat = new.seat; free = sym (ap (λ (p : Pass). p.free) s.same) i; turns = sym (ap (λ (p : Pass). p.turns) s.same) i });
  turns = ap (λ (p : Pass). p.turns) s.same;
  facts = record {
    made = m;
    one = one;
    makes = (refl, refl);
    stays = subst (λ q. q ≡ record p { made = q.made; epochs = q.epochs; tick = q.tick; cut = q.cut; base = q.base; hand = q.hand; ripening = q.ripening; refused = q.refused }) (sym s.part) refl;
    grows = λ x i. subst (λ q. In x q.epochs) (sym s.part) i;
    uncut = λ none. ap (λ (q : Caller). q.cut) s.part ∙ none;
    next = next;
    claims = claims;
    answer = answer;
    exchanges = refl;
    expects = λ n k swaps. absurd (false≢true swaps);
    knows = λ n k. knows n (subst (λ ms. n ≤ length ms) (sym one) (longer n p.made m k));
    shrinks = shrinks;
  };
}

-- after the look at a row that isn't ripe one row more was looked at and counted, where none is in hand
pub visited : (table : Table) (old new : Pass) (e row w : ℕ) → IsPassOf table old → IsRecovering table.start.layout (Visiting e row) (caller table old) → Stepped table old new (load_made Look (index table.start.layout (stamp row)) w) (looks row w)
    → (IsRipeWord e w → ⊥) → (caller table new).hand ≡ [] → LookedSince table.start.layout e (row + 1) (caller table new) × HasCounted table.start.layout e (row + 1) (caller table new)
visited table old new e row w of op s unripe none = let l = table.start.layout in let p : Caller = caller table old in let none' : p.hand ≡ [] = sym (ap (λ (q : Caller). q.hand) s.part) ∙ none in let h = op.2 none' in
    let same : p.start.layout ≡ l = ap (λ (z : Start). z.layout) of.sits.started in
    subst (λ q. LookedSince l e (row + 1) q × HasCounted l e (row + 1) q) (sym s.part)
    (since_more l e row w p unripe h.0, subst (λ z. HasCounted z e (row + 1) (looks row w p)) same (counted_more e row w p op.0 none' unripe (subst (λ z. HasCounted z e row p) (sym same) h.1)))

-- the row was found ripe
pub recover_ripe : (table : Table) (old new : Pass) (e row w : ℕ) → IsRecovering table.start.layout (Visiting e row) (caller table old) → Stepped table old new (load_made Look (index table.start.layout (stamp row)) w) (looks row w)
    → IsRipeWord e w → RecoverStepped table (Visiting e row) (Taking e row) old new More
recover_ripe table old new e row w op s ripe = recover_looked table old new e row w (Taking e row) More s (inr refl) (λ _. (refl, refl))
    (subst (IsRecovering table.start.layout (Taking e row)) (sym s.part) (op.0, op.1, ripe_seen row w e (caller table old).ripening ripe)) (λ n k. k) (λ _. omega arith)

-- it was not
pub recover_unripe : (table : Table) (old new : Pass) (e row w : ℕ) (op' : RecoverOp) (result : Recover) → Stepped table old new (load_made Look (index table.start.layout (stamp row)) w) (looks row w)
    → (IsRipeWord e w → ⊥) → IsAfterRow table.start.layout e row (caller table new) op' result → RecoverStepped table (Visiting e row) op' old new result
recover_unripe table old new e row w op' result s unripe a = let l = table.start.layout in let q = caller table new in
    recover_looked table old new e row w op' result s (after_next l e row (load_made Look (index l (stamp row)) w) (caller table old) q op' result (ap (λ (q : Caller). q.number) s.part) a).0 (λ ripe. absurd (unripe ripe)) (after_answer l e row q op' result a)
    (λ n k. after_knows n l e row q op' result a k) (λ more. let less = after_left l e row q op' result (is_inside table new s.is) a more in omega arith)
