-- What each step of a search for a free row tells.
use Rattle.std.proofs.Common.{◌≡◌, inl, inr, Bool, true, false, cond, ◌&&◌, ltb, leb, ℕ, zero, suc, ◌+◌, ◌-◌, ◌*◌, ◌<◌, List, [], ◌∷◌, ◌++◌, length, sym, refl, ap, ◌∙◌, subst, arith}
use Rattle.std.proofs.lemmas.List.{append_assoc, append-nil, length-append}
use Rattle.std.proofs.lemmas.Bool.{false≢true, lt-ltb, le-leb, ltb-true, leb-true}
use Rattle.crq_base.specs.declared.kinds.StepKind.TheVariants.{EpochLoad, Look, Claim}
use Rattle.crq_base.specs.Lists.{In}
use Rattle.crq_rule.specs.declared.layout.Layout.{Layout}
use Rattle.crq_rule.specs.declared.view.Made.{Made}
use Rattle.crq_rule.specs.declared.view.Caller.{Caller}
use Rattle.crq_rule.specs.declared.pass.Pass.{Pass}
use Rattle.crq_rule.specs.declared.pass.Table.{Table}
use Rattle.crq_rule.specs.Places.{index, epoch, stamp}
use Rattle.crq_rule.specs.Kinds.{makes, looks, claims, loads_epoch, seen_stamp, IsRipe, tagged}
use Rattle.crq_rule.proofs.PartLaws.{home_is_row}
use Rattle.crq_rows.specs.declared.own.OwnOp.{OwnOp}
use Rattle.crq_rows.specs.declared.own.OwnOp.TheVariants.{Load, Looking, Claiming}
use Rattle.crq_rows.specs.declared.own.Own.{Own}
use Rattle.crq_rows.specs.declared.own.Own.TheVariants.{More, Row, Empty}
use Rattle.crq_rows.specs.Passes.{caller, load_made, store_made, IsPassOf, Stepped, Claimed}
use Rattle.crq_rows.specs.Owning.{IsRipeWord, is_ripe_word, row_steps, round_steps, ripe_rows, LookedRound, FoundRipe, NoneRipe, LookedTo, FoundNone, IsOwning, IsAfterLook, own_left, OwnAnswer, OwnFacts, OwnStepped}

-- a row that was found ripe may be claimed
pub ripe_seen : (row w e : ℕ) (xs : List (ℕ × ℕ)) → IsRipeWord e w → IsRipe (seen_stamp row w xs) row e
ripe_seen row zero e xs ripe = let a = ripe.0 in absurd (omega arith)
ripe_seen row (suc t) e xs ripe = let b = ripe.1 in (t, inl refl, omega arith)

-- A look round

pub ripe_test : (e w : ℕ) → IsRipeWord e w → is_ripe_word e w ≡ true
ripe_test e w ripe = (λ i. lt-ltb 0 w ripe.0 i && leb (w + 1) e) ∙ le-leb (w + 1) e ripe.1

pub unripe_test : (e w : ℕ) → (IsRipeWord e w → ⊥) → is_ripe_word e w ≡ false
unripe_test e w unripe = by (ltb 0 w) (leb (w + 1) e) refl refl
  where
    by : (a b : Bool) → ltb 0 w ≡ a → leb (w + 1) e ≡ b → a && b ≡ false
    by false b p q = refl
    by true false p q = refl
    by true true p q = absurd (unripe (ltb-true 0 w p, leb-true (w + 1) e q))

round_snoc : (l : Layout) (e a w : ℕ) (ws : List ℕ) → round_steps l e a (ws ++ w ∷ []) ≡ round_steps l e a ws ++ row_steps l e (a + length ws) w
round_snoc l e a w [] = append-nil (row_steps l e a w) ∙ ap (λ r. row_steps l e r w) (omega arith)
round_snoc l e a w (v ∷ vs) = ap (λ (ms : List Made). row_steps l e a v ++ ms) (round_snoc l e (a + 1) w vs)
    ∙ (sym (append_assoc (row_steps l e a v) (round_steps l e (a + 1) vs) (row_steps l e (a + 1 + length vs) w)) ∙ ap (λ r. round_steps l e a (v ∷ vs) ++ row_steps l e r w) (omega arith))

rows_snoc : (e a w : ℕ) (ws : List ℕ) → ripe_rows e a (ws ++ w ∷ []) ≡ ripe_rows e a ws ++ cond (is_ripe_word e w) ((a + length ws) ∷ []) []
rows_snoc e a w [] = append-nil (cond (is_ripe_word e w) (a ∷ []) []) ∙ ap (λ r. cond (is_ripe_word e w) (r ∷ []) []) (omega arith)
rows_snoc e a w (v ∷ vs) = ap (λ (rs : List ℕ). cond (is_ripe_word e v) (a ∷ []) [] ++ rs) (rows_snoc e (a + 1) w vs)
    ∙ (sym (append_assoc (cond (is_ripe_word e v) (a ∷ []) []) (ripe_rows e (a + 1) vs) (cond (is_ripe_word e w) ((a + 1 + length vs) ∷ []) [])) ∙ ap (λ r. ripe_rows e a (v ∷ vs) ++ cond (is_ripe_word e w) (r ∷ []) []) (omega arith))

-- the next row was looked at, and is not ripe
pub round_unripe : (l : Layout) (e row w : ℕ) (p : Caller) → (IsRipeWord e w → ⊥) → LookedRound l e row p → LookedRound l e (row + 1) (makes (load_made Look (index l (stamp row)) w) (looks row w p))
round_unripe l e row w p unripe t = let m : Made = load_made Look (index l (stamp row)) w in let a : ℕ = p.number * l.home + 1 in let test = unripe_test e w unripe in record {
  before = t.before;
  words = t.words ++ w ∷ [];
  made = ap (λ (ms : List Made). ms ++ m ∷ []) t.made ∙ (append_assoc t.before (load_made EpochLoad (index l epoch) e ∷ round_steps l e a t.words) (m ∷ [])
      ∙ ap (λ (ms : List Made). t.before ++ load_made EpochLoad (index l epoch) e ∷ ms) (sym (round_snoc l e a w t.words
      ∙ (λ i. round_steps l e a t.words ++ load_made Look (index l (stamp (t.whole i))) w ∷ cond (test i) (store_made Claim (index l (stamp (t.whole i))) 0 ∷ []) []))));
  whole = let more = length-append t.words (w ∷ []) in let is = t.whole in omega arith;
  hand = t.hand ∙ sym (rows_snoc e a w t.words ∙ ((λ i. ripe_rows e a t.words ++ cond (test i) ((a + length t.words) ∷ []) []) ∙ append-nil (ripe_rows e a t.words)));
}

-- it was looked at, and is ripe
pub round_ripe : (l : Layout) (e row w : ℕ) (p : Caller) → IsRipeWord e w → LookedRound l e row p → FoundRipe l e row (makes (load_made Look (index l (stamp row)) w) (looks row w p))
round_ripe l e row w p ripe t = let m : Made = load_made Look (index l (stamp row)) w in record {
  before = t.before;
  words = t.words;
  word = w;
  ripe = ripe;
  made = ap (λ (ms : List Made). ms ++ m ∷ []) t.made ∙ append_assoc t.before (load_made EpochLoad (index l epoch) e ∷ round_steps l e (p.number * l.home + 1) t.words) (m ∷ []);
  whole = t.whole;
  hand = t.hand;
}

-- and it was claimed
pub round_claimed : (l : Layout) (e row : ℕ) (p : Caller) → FoundRipe l e row p → LookedRound l e (row + 1) (makes (store_made Claim (index l (stamp row)) 0) (claims row p))
round_claimed l e row p t = let w = t.word in let m : Made = load_made Look (index l (stamp row)) w in let m' : Made = store_made Claim (index l (stamp row)) 0 in let a : ℕ = p.number * l.home + 1 in
    let test = ripe_test e w t.ripe in let load : Made = load_made EpochLoad (index l epoch) e in let steps = round_steps l e a t.words in record {
      before = t.before;
      words = t.words ++ w ∷ [];
      made = ap (λ (ms : List Made). ms ++ m' ∷ []) t.made ∙ (append_assoc t.before (load ∷ (steps ++ m ∷ [])) (m' ∷ [])
          ∙ ap (λ (ms : List Made). t.before ++ load ∷ ms) (append_assoc steps (m ∷ []) (m' ∷ []) ∙ sym (round_snoc l e a w t.words
          ∙ (λ i. steps ++ load_made Look (index l (stamp (t.whole i))) w ∷ cond (test i) (store_made Claim (index l (stamp (t.whole i))) 0 ∷ []) []))));
      whole = let more = length-append t.words (w ∷ []) in let is = t.whole in omega arith;
      hand = ap (λ (rs : List ℕ). rs ++ row ∷ []) t.hand ∙ sym (rows_snoc e a w t.words ∙ (λ i. ripe_rows e a t.words ++ cond (test i) (t.whole i ∷ []) []));
    }

no_cons : {row : ℕ} {rest : List ℕ} → row ∷ rest ≡ [] → ⊥
no_cons e = cc

-- where no row was found ripe, the round is looks alone
none_of : (l : Layout) (e a : ℕ) (ws : List ℕ) → ripe_rows e a ws ≡ [] → NoneRipe l e a (round_steps l e a ws) (a + length ws)
none_of l e a [] none = let e : a ≡ a + 0 = omega arith in e
none_of l e a (w ∷ ws) none = by (is_ripe_word e w) refl (none_of l e (a + 1) ws)
  where
    by : (b : Bool) → is_ripe_word e w ≡ b → (ripe_rows e (a + 1) ws ≡ [] → NoneRipe l e (a + 1) (round_steps l e (a + 1) ws) (a + 1 + length ws)) → NoneRipe l e a (round_steps l e a (w ∷ ws)) (a + suc (length ws))
    by true q rest = absurd (no_cons ((λ i. cond (sym q i) (a ∷ []) [] ++ ripe_rows e (a + 1) ws) ∙ none))
    by false q rest = subst (λ b. NoneRipe l e a ((load_made Look (index l (stamp a)) w ∷ cond b (store_made Claim (index l (stamp a)) 0 ∷ []) []) ++ round_steps l e (a + 1) ws) (a + suc (length ws))) (sym q) (
      (w, refl, λ ripe. false≢true (sym q ∙ ripe_test e w ripe)),
      subst (λ n. NoneRipe l e (a + 1) (round_steps l e (a + 1) ws) n) (omega arith) (rest ((λ i. cond (sym q i) (a ∷ []) [] ++ ripe_rows e (a + 1) ws) ∙ none)),
    )

pub looked_to : (l : Layout) (e next : ℕ) (p : Caller) → LookedRound l e next p → p.hand ≡ [] → LookedTo l e next p
looked_to l e next p t none = let a : ℕ = p.number * l.home + 1 in record {
  before = t.before;
  since = round_steps l e a t.words;
  made = t.made;
  looks = subst (NoneRipe l e a (round_steps l e a t.words)) t.whole (none_of l e a t.words (sym t.hand ∙ none));
}

-- one look more
pub none_snoc : (l : Layout) (e a row w : ℕ) (ms : List Made) → (IsRipeWord e w → ⊥) → NoneRipe l e a ms row → NoneRipe l e a (ms ++ load_made Look (index l (stamp row)) w ∷ []) (row + 1)
none_snoc l e a row w [] unripe none = ((w, ap (λ r. load_made Look (index l (stamp r)) w) (sym none), unripe), ap (λ r. r + 1) none)
none_snoc l e a row w (m ∷ ms) unripe none = (none.0, none_snoc l e (a + 1) row w ms unripe none.1)

-- The looks since the last load are the same, however the steps made are cut

abbrev AllLooks : List Made → Type 0
AllLooks [] = Unit {0}
AllLooks (m ∷ ms) = (m.kind ≡ Look) × AllLooks ms

no_look : EpochLoad ≡ Look → ⊥
no_look e = cc

none_looks : (l : Layout) (e row next : ℕ) (ms : List Made) → NoneRipe l e row ms next → AllLooks ms
none_looks l e row next [] none = tt
none_looks l e row next (m ∷ ms) none = (ap (λ (m : Made). m.kind) none.0.1, none_looks l e (row + 1) next ms none.1)

none_count : (l : Layout) (e row next : ℕ) (ms : List Made) → NoneRipe l e row ms next → length ms + row ≡ next
none_count l e row next [] none = let is : row ≡ next = none in omega arith
none_count l e row next (m ∷ ms) none = let r = none_count l e (row + 1) next ms none.1 in omega arith

abbrev load_of : Layout → ℕ → Made
load_of l e = load_made EpochLoad (index l epoch) e

no_load : (l : Layout) (e : ℕ) (before since : List Made) → AllLooks (before ++ load_of l e ∷ since) → ⊥
no_load l e [] since looks = no_look looks.0
no_load l e (m ∷ ms) since looks = no_load l e ms since looks.1

head_of : (x y : Made) (xs ys : List Made) → x ∷ xs ≡ y ∷ ys → x ≡ y
head_of x y xs ys e = cc

tail_of : (x y : Made) (xs ys : List Made) → x ∷ xs ≡ y ∷ ys → xs ≡ ys
tail_of x y xs ys e = cc

one_load : (l : Layout) (e e' : ℕ) (before before' since since' : List Made) → before ++ load_of l e ∷ since ≡ before' ++ load_of l e' ∷ since' → AllLooks since → AllLooks since' → (e ≡ e') × (since ≡ since')
one_load l e e' [] [] since since' is looks looks' = (ap (λ (m : Made). m.found) (head_of (load_of l e) (load_of l e') since since' is), tail_of (load_of l e) (load_of l e') since since' is)
one_load l e e' [] (m ∷ ms) since since' is looks looks' = absurd (no_load l e' ms since' (subst AllLooks (tail_of (load_of l e) m since (ms ++ load_of l e' ∷ since') is) looks))
one_load l e e' (m ∷ ms) [] since since' is looks looks' = absurd (no_load l e ms since (subst AllLooks (sym (tail_of m (load_of l e') (ms ++ load_of l e ∷ since) since' is)) looks'))
one_load l e e' (m ∷ ms) (m' ∷ ms') since since' is looks looks' = one_load l e e' ms ms' since since' (tail_of m m' (ms ++ load_of l e ∷ since) (ms' ++ load_of l e' ∷ since') is) looks looks'

-- the caller that looked at all its home rows did not load the epoch just now
pub not_loaded : (l : Layout) (p : Caller) (r : ℕ) → FoundNone l (makes (load_of l r) (loads_epoch r p)) → ⊥
not_loaded l p r none = let t = none.looked in let h = l.home_is in let s = l.some_rows in
    let same = one_load l r none.epoch p.made t.before [] t.since t.made tt (none_looks l none.epoch _ _ t.since t.looks) in
    let count = none_count l none.epoch (p.number * l.home + 1) (p.number * l.home + l.home + 1) t.since t.looks in let zero : 0 ≡ length t.since = ap length same.1 in omega arith

last_look : (l : Layout) (e row next w : ℕ) (ms : List Made) (place : ℕ) → NoneRipe l e row (ms ++ load_made Look place w ∷ []) next → IsRipeWord e w → ⊥
last_look l e row next w [] place none ripe = none.0.2 (subst (IsRipeWord e) (ap (λ (m : Made). m.found) none.0.1) ripe)
last_look l e row next w (m ∷ ms) place none ripe = last_look l e (row + 1) next w ms place none.1 ripe

-- nor has it looked at a row that is ripe, or before the last one
pub not_looked : (l : Layout) (p : Caller) (e row w : ℕ) → LookedTo l e row p → FoundNone l (makes (load_made Look (index l (stamp row)) w) (looks row w p)) → (IsRipeWord e w → ⊥) × (row ≡ p.number * l.home + l.home)
not_looked l p e row w t none = let n = none.looked in let m : Made = load_made Look (index l (stamp row)) w in
    let all : AllLooks (t.since ++ m ∷ []) = more t.since (none_looks l e _ _ t.since t.looks) in
    let same = one_load l e none.epoch t.before n.before (t.since ++ m ∷ []) n.since (sym (append_assoc t.before (load_of l e ∷ t.since) (m ∷ [])) ∙ (ap (λ (ms : List Made). ms ++ m ∷ []) (sym t.made) ∙ n.made)) all (none_looks l none.epoch _ _ n.since n.looks) in
    let first = none_count l e (p.number * l.home + 1) row t.since t.looks in let whole = none_count l none.epoch (p.number * l.home + 1) (p.number * l.home + l.home + 1) n.since n.looks in
    let size : length t.since + 1 ≡ length n.since = sym (length-append t.since (m ∷ [])) ∙ ap length same.1 in (
      (λ ripe. last_look l none.epoch (p.number * l.home + 1) (p.number * l.home + l.home + 1) w t.since (index l (stamp row)) (subst (λ ms. NoneRipe l none.epoch (p.number * l.home + 1) ms (p.number * l.home + l.home + 1)) (sym same.1) n.looks) (subst (λ z. IsRipeWord z w) same.0 ripe)),
      omega arith,
    )
  where
    more : (ms : List Made) → AllLooks ms → AllLooks (ms ++ load_made Look (index l (stamp row)) w ∷ [])
    more [] looks = (refl, tt)
    more (m ∷ ms) looks = (looks.0, more ms looks.1)

empty_no_more : Empty ≡ More → ⊥
empty_no_more e = cc

row_no_more : (row : ℕ) → Row row ≡ More → ⊥
row_no_more row e = cc

looking_not : (e row : ℕ) → Looking e row ≡ Load → ⊥
looking_not e row q = cc

claiming_not : (e row : ℕ) → Claiming e row ≡ Load → ⊥
claiming_not e row q = cc

no_snoc : (xs : List ℕ) (x : ℕ) → xs ++ x ∷ [] ≡ [] → ⊥
no_snoc [] x e = no_cons e
no_snoc (y ∷ ys) x e = no_cons e

-- What follows on a row

after_answer : (l : Layout) (e row : ℕ) (q : Caller) (op' : OwnOp) (result : Own) → IsAfterLook l e row q op' result → OwnAnswer l op' q result
after_answer l e row q op' More a = a.2
after_answer l e row q op' (Row first) a = a.2
after_answer l e row q op' Empty a = a.2

after_left : (l : Layout) (e row : ℕ) (q : Caller) (op' : OwnOp) (result : Own) → q.number < l.workers → IsAfterLook l e row q op' result → result ≡ More → own_left l op' < 2 * (l.all - row)
after_left l e row q op' More inside a _ = let next = subst (λ op. IsOwning l op q) a.1 a.2 in let below = (home_is_row l q.number (row + 1) inside next.1).1 in subst (λ op. own_left l op < 2 * (l.all - row)) (sym a.1) (omega arith)
after_left l e row q op' (Row first) inside a is = absurd (row_no_more first is)
after_left l e row q op' Empty inside a is = absurd (empty_no_more is)

-- where the caller found none, it looked at the last row, and that is the answer
after_none : (l : Layout) (e row : ℕ) (q : Caller) (op' : OwnOp) (result : Own) → row ≡ q.number * l.home + l.home → q.hand ≡ [] → IsAfterLook l e row q op' result → result ≡ Empty
after_none l e row q op' More last none a = let low = a.0 in absurd (omega arith)
after_none l e row q op' (Row first) last none a = absurd (no_cons (sym a.2.1 ∙ none))
after_none l e row q op' Empty last none a = refl

is_inside : (table : Table) (new : Pass) → IsPassOf table new → (caller table new).number < table.start.layout.workers
is_inside table new is = subst (λ z. z < table.start.layout.workers) (sym is.sits.numbered) is.sits.inside

-- the caller's last row, after a look
last_row : (l : Layout) (p q : Caller) (row : ℕ) → q.number ≡ p.number → row ≡ p.number * l.home + l.home → row ≡ q.number * l.home + l.home
last_row l p q row num is = is ∙ ap (λ j. j * l.home + l.home) (sym num)

-- a look, that an answer follows
own_looked : (table : Table) (old new : Pass) (e row w : ℕ) (op' : OwnOp) (result : Own) → Stepped table old new (load_made Look (index table.start.layout (stamp row)) w) (looks row w) → OwnAnswer table.start.layout op' (caller table new) result
    → (FoundNone table.start.layout (caller table new) → result ≡ Empty) → (result ≡ More → own_left table.start.layout op' < own_left table.start.layout (Looking e row)) → OwnStepped table (Looking e row) op' old new result
own_looked table old new e row w op' result s answer exact shrinks = let p = caller table old in record {
  is = s.is;
  same = s.same ∙ (λ i. record old { seat = new.seat; free = sym (ap (λ (p : Pass). p.free) s.same) i });
  has = λ r rest is _. absurd (looking_not e row is);
  steps = λ _. record {
    made = load_made Look (index table.start.layout (stamp row)) w;
    one = ap (λ (q : Caller). q.made) s.part;
    makes = (refl, refl);
    stays = subst (λ q. q ≡ record p { made = q.made; epochs = q.epochs; tick = q.tick; cut = q.cut; base = q.base; hand = q.hand; ripening = q.ripening; refused = q.refused }) (sym s.part) refl;
    grows = λ x i. subst (λ q. In x q.epochs) (sym s.part) i;
    uncut = λ none. ap (λ (q : Caller). q.cut) s.part ∙ none;
    answer = answer;
  };
  exact = λ _. exact;
  shrinks = shrinks;
}

module _ (table : Table) (old new : Pass) (e row w : ℕ) (op : IsOwning table.start.layout (Looking e row) (caller table old)) (s : Stepped table old new (load_made Look (index table.start.layout (stamp row)) w) (looks row w)) where
  -- where it found none, the look is the last one of a round that found no row ripe
  none_found : FoundNone table.start.layout (caller table new) → (IsRipeWord e w → ⊥) × (row ≡ (caller table old).number * table.start.layout.home + table.start.layout.home)
  none_found none = let found = subst (FoundNone table.start.layout) s.part none in not_looked table.start.layout (caller table old) e row w (looked_to table.start.layout e row (caller table old) op.2 found.none) found

  -- the row was found ripe
  pub own_ripe : IsRipeWord e w → OwnStepped table (Looking e row) (Claiming e row) old new More
  own_ripe ripe = own_looked table old new e row w (Claiming e row) More s
      (subst (IsOwning table.start.layout (Claiming e row)) (sym s.part) (op.0, op.1, ripe_seen row w e (caller table old).ripening ripe, round_ripe table.start.layout e row w (caller table old) ripe op.2))
      (λ none. absurd ((none_found none).0 ripe)) (λ _. omega arith)

  -- it was not
  pub own_passed : (IsRipeWord e w → ⊥) → LookedRound table.start.layout e (row + 1) (caller table new)
  own_passed unripe = subst (LookedRound table.start.layout e (row + 1)) (sym s.part) (round_unripe table.start.layout e row w (caller table old) unripe op.2)

  pub own_unripe : (op' : OwnOp) (result : Own) → IsAfterLook table.start.layout e row (caller table new) op' result → OwnStepped table (Looking e row) op' old new result
  own_unripe op' result a = let l = table.start.layout in let q = caller table new in own_looked table old new e row w op' result s (after_answer l e row q op' result a)
      (λ none. after_none l e row q op' result (last_row l (caller table old) q row (ap (λ (q : Caller). q.number) s.part) (none_found none).1) none.none a)
      (λ more. let less = after_left l e row q op' result (is_inside table new s.is) a more in omega arith)

module _ (table : Table) (old new : Pass) (e row : ℕ) (op : IsOwning table.start.layout (Claiming e row) (caller table old)) (s : Claimed table old new row (store_made Claim (index table.start.layout (stamp row)) 0) (claims row)) where
  pub own_round : LookedRound table.start.layout e (row + 1) (caller table new)
  own_round = subst (LookedRound table.start.layout e (row + 1)) (sym s.part) (round_claimed table.start.layout e row (caller table old) op.3)

  -- the claim of a row, that an answer follows
  pub own_claimed : (op' : OwnOp) (result : Own) → IsAfterLook table.start.layout e row (caller table new) op' result → OwnStepped table (Claiming e row) op' old new result
  own_claimed op' result a = let l = table.start.layout in let p = caller table old in let q = caller table new in record {
    is = s.is;
    same = s.same;
    has = λ r rest is _. absurd (claiming_not e row is);
    steps = λ _. record {
      made = store_made Claim (index l (stamp row)) 0;
      one = ap (λ (q : Caller). q.made) s.part;
      makes = (refl, refl);
      stays = subst (λ q. q ≡ record p { made = q.made; epochs = q.epochs; tick = q.tick; cut = q.cut; base = q.base; hand = q.hand; ripening = q.ripening; refused = q.refused }) (sym s.part) refl;
      grows = λ x i. subst (λ q. In x q.epochs) (sym s.part) i;
      uncut = λ none. ap (λ (q : Caller). q.cut) s.part ∙ none;
      answer = after_answer l e row q op' result a;
    };
    exact = λ _ none. absurd (no_snoc p.hand row (sym (ap (λ (q : Caller). q.hand) s.part) ∙ none.none));
    shrinks = after_left l e row q op' result (is_inside table new s.is) a;
  }

-- a load of the epoch, where there is no free row
pub own_loaded : (table : Table) (old new : Pass) (e : ℕ) → old.free.items ≡ [] → IsPassOf table old → Stepped table old new (load_made EpochLoad (index table.start.layout epoch) e) (loads_epoch e)
    → OwnStepped table Load (Looking e ((caller table old).number * table.start.layout.home + 1)) old new More
own_loaded table old new e none of s = let l = table.start.layout in let p : Caller = caller table old in let h = l.home_is in let some_rows = l.some_rows in record {
  is = s.is;
  same = s.same ∙ (λ i. record old { seat = new.seat; free = sym (ap (λ (p : Pass). p.free) s.same) i });
  has = λ row rest _ has. absurd (not_both (sym none ∙ has));
  steps = λ _. subst (λ q. OwnFacts l Load (Looking e (p.number * l.home + 1)) p q More) (sym s.part) record {
    made = load_of l e;
    one = refl;
    makes = (refl, refl);
    stays = refl;
    grows = λ x i. inr i;
    uncut = λ none. ap (tagged e) none;
    answer = (inl refl, (omega arith, omega arith), record { before = p.made; words = []; made = refl; whole = omega arith; hand = sym of.free ∙ none });
  };
  exact = λ _ found. absurd (not_loaded l p e (subst (FoundNone l) s.part found));
  shrinks = λ _. omega arith;
}
  where
    not_both : {row : ℕ} {rest : List ℕ} → [] ≡ row ∷ rest → ⊥
    not_both e = cc
