-- The parts are no empty talk: a state with a listed row that holds a pending event and that a guard covers, a cut row that has a tag, and a retired row meets the invariant.
use Rattle.std.proofs.Common.{◌++◌, ◌⊎◌, ◌≡◌, ◌≢◌, ⊎_elim, inl, inr, ℕ, ◌-◌, ◌*◌, ◌/◌, ◌<◌, ◌≤◌, List, [], ◌∷◌, length, Option, Some, None, sym, refl, ap, ◌∙◌, subst, arith, false, true}
use mathlib.Core.Logic.{dite}
use native.Mathlib.Decide.{ℕ_discrete}
use Rattle.crq_base.specs.declared.event.Event.{Event}
use Rattle.crq_base.specs.declared.entry.Entry.{Entry}
use Rattle.crq_base.specs.declared.entry.Entry.TheVariants.{Begin, Put, Settled}
use Rattle.crq_base.specs.Entries.{caller_of as whose}
use Rattle.crq_base.specs.Histories.{own as own_of, Began}
use Rattle.crq_base.proofs.HistoryLaws.{own_other, last_one, not_nil}
use Rattle.crq_base.proofs.Deeds.{alone}
use Rattle.crq_base.specs.declared.words.Link.{Link}
use Rattle.crq_base.specs.declared.words.Mark.TheVariants.{Val, Inv as Invalid, Mov, Del}
use Rattle.crq_base.specs.Words.{IsLink}
use Rattle.crq_base.specs.Starts.{IsFirst}
use Rattle.crq_base.specs.Lists.{In, IsOnce}
use Rattle.crq_base.specs.Sources.{owner_of}
use Rattle.crq_rule.specs.declared.layout.Layout.{Layout}
use Rattle.crq_rule.specs.declared.layout.Start.{Start}
use Rattle.crq_rule.specs.declared.view.Guard.TheVariants.{On}
use Rattle.crq_rule.specs.declared.view.CutRow.{CutRow}
use Rattle.crq_rule.specs.declared.view.Stand.{Stand}
use Rattle.crq_rule.specs.Lists.{put}
use Rattle.crq_rule.specs.Places.{IsRow, IsHomeRow, IsHead}
use Rattle.crq_rule.specs.Core.{Core, Holding, in_hand, listed, cut_by, retired}
use Rattle.crq_rule.specs.Parts.{Holders, Stamps, Leads, IsPath, ground_of, rows_of, stamp_of}
use Rattle.crq_rule.specs.Ranks.{rank, head_for, bucket, list_in, IsHeadIn, Rises}
use Rattle.crq_rule.specs.ListParts.{Heads, Sorted, Marks, StandFits, Standing, Lanes, Naming, IsShut, IsOldHead, IsNewHead, MarkFits, IsFinal, ranks}
use Rattle.crq_rule.specs.HistoryParts.{Carriers, Told, EndsInBegin}
use Rattle.crq_rule.specs.Copies.{Copies}
use Rattle.crq_rule.specs.Invariant.{rows_of_core, Inv}
use Rattle.crq_rule.specs.Rule.{rows_from}
use Rattle.crq_rule.specs.Opening.{opening_core, opening_words, opening_head, home_of}
use Rattle.crq_rule.specs.Stated.{Witness, IsCovered}
use Rattle.crq_rule.proofs.Puts.{put_here, put_else, put_all}
use Rattle.std.proofs.lemmas.Bool.{false≢true}
use Rattle.crq_rule.proofs.HeadLaws.{val_carries}
use Rattle.crq_rule.proofs.PartLaws.{sort, of_whom}
use Rattle.crq_rule.proofs.HolderLaws.{none_some, some_some}
use Rattle.crq_rule.proofs.Pendings.{none_counted}
use Rattle.crq_rule.proofs.ScarceLaws.{none_base}
use Rattle.crq_rule.proofs.SweepLaws.{none_sweep}
use Rattle.crq_rule.proofs.ListOpening.{no_sight, no_settle, no_walk, no_copy}
use Rattle.crq_rule.proofs.Counting.{rows_in, in_rows, rows_once}
use Rattle.crq_rule.proofs.Openings.{opening_link, opening_inv, none_help}

abbrev pub layout : Layout
layout = record { workers = 2; rows = 4; home = 8; all = 16; few = (omega arith, omega arith); some_rows = (omega arith, omega arith); home_is = refl; all_is = refl; all_fit = omega arith }

abbrev pub start : Start
start = record { layout = layout; first = record { epoch = 0; generation = 1; guard = 0 }; moves = true }

first : IsFirst start.first
first = record { epoch = omega arith; from = omega arith; upto = omega arith; guard = omega arith }

pub old : Inv (opening_core start)
old = opening_inv start first

-- the head of row 1
abbrev q : ℕ
q = 32768

abbrev head_link : Link
head_link = record { generation = 1; row = 1; mark = Val }

abbrev cut_row : CutRow
cut_row = record { row = 2; tags = 0 ∷ [] }

-- row 1 holds the event that was put, and all rows but this one are dead
abbrev event : Event
event = record { time = 0; src = 0; seq = 0; dst = 0; load = 0 }

abbrev present : Link
present = record { generation = 1; row = 0; mark = Val }

abbrev dead : Link
dead = record { generation = 1; row = 0; mark = Del }

abbrev links : ℕ → Link
links = put (λ _. dead) 1 present

abbrev entries : List Entry
entries = Put 0 event ∷ Settled 0 event ∷ []

abbrev own : ℕ → List Entry
own = put (λ _. []) 0 entries

abbrev stand : Stand
stand = record { row = 1; event = event; generation = 1; last = None; twin = None; valid = false; front = None }

abbrev stands_at : ℕ → List Stand
stands_at = put (λ _. []) 0 (stand ∷ [])

abbrev at_home : ℕ → Holding
at_home r = in_hand (home_of layout r)

abbrev listed_one : ℕ → Holding
listed_one = put at_home 1 (listed q)

abbrev cut_two : ℕ → Holding
cut_two = put listed_one 2 (cut_by 1)

abbrev holding : ℕ → Holding
holding = put cut_two 3 (retired 0)

abbrev hand : ℕ → List ℕ
hand = put (λ j. rows_from (j * 8) 8) 0 (rows_from 3 5)

abbrev chain : ℕ → List ℕ
chain = put (λ _. []) q (1 ∷ [])

abbrev cut : ℕ → Option CutRow
cut = put (λ _. None) 1 (Some cut_row)

abbrev pub core : Core
core = record (opening_core start) {
  words = record (opening_words start) { announced = λ _. 1; head = put (opening_head 1) q head_link; link = links; stamp = put (λ _. 0) 3 1 };
  history = entries;
  own = own;
  chain = chain;
  holding = holding;
  hand = hand;
  guard = λ _. On 0;
  cut = cut;
  rows = stands_at;
}

is_one : holding 1 ≡ listed q
is_one = put_else cut_two 3 (retired 0) 1 (λ e. omega arith) ∙ (put_else listed_one 2 (cut_by 1) 1 (λ e. omega arith) ∙ put_here at_home 1 (listed q))

is_two : holding 2 ≡ cut_by 1
is_two = put_else cut_two 3 (retired 0) 2 (λ e. omega arith) ∙ put_here listed_one 2 (cut_by 1)

-- what holds of each row, where it holds of these three and of those at home
each_row : (P : ℕ → Holding → Type 0) → P 1 (listed q) → P 2 (cut_by 1) → P 3 (retired 0) → ((r : ℕ) → r ≢ 1 → r ≢ 2 → r ≢ 3 → P r (at_home r)) → (r : ℕ) → P r (holding r)
each_row P one two three home = put_all cut_two 3 (retired 0) P three
    (λ r ne. put_all listed_one 2 (cut_by 1) (λ r h. r ≢ 3 → P r h) (λ _. two) (λ r ne2. put_all at_home 1 (listed q) (λ r h. r ≢ 2 → r ≢ 3 → P r h) (λ _ _. one) (λ r ne1 ne2 ne3. home r ne1 ne2 ne3) r ne2) r ne)

at_home_is : (r j : ℕ) → r ≢ 1 → r ≢ 2 → r ≢ 3 → (r - 1) / 8 ≡ j → holding r ≡ in_hand j
at_home_is r j one two three e = put_else cut_two 3 (retired 0) r three ∙ (put_else listed_one 2 (cut_by 1) r two ∙ (put_else at_home 1 (listed q) r one ∙ ap in_hand e))

holders : Holders layout hand cut chain holding
holders = record {
  once = put_all (λ j. rows_from (j * 8) 8) 0 (rows_from 3 5) (λ j xs. j < 2 → IsOnce xs) (λ _. rows_once 3 5) (λ j _ _. rows_once (j * 8) 8);
  held = λ j r. put_all (λ j. rows_from (j * 8) 8) 0 (rows_from 3 5) (λ j xs. j < 2 → In r xs → IsHomeRow layout j r × (holding r ≡ in_hand j))
      (λ _ i. let h = rows_in 3 5 r i in let lo = h.0 in let hi = h.1 in ((omega arith, omega arith), at_home_is r 0 (λ e. omega arith) (λ e. omega arith) (λ e. omega arith) (omega arith)))
      (λ j ne b i. let h = rows_in (j * 8) 8 r i in let lo = h.0 in let hi = h.1 in (h, at_home_is r j (λ e. omega arith) (λ e. omega arith) (λ e. omega arith) (omega arith))) j;
  of_hand = λ j. each_row (λ r h. IsRow layout r → h ≡ in_hand j → (j < 2) × In r (hand j))
      (λ _ e. absurd (let z : ◌≡◌ {A = ℕ} 1 0 = ap sort e in omega arith)) (λ _ e. absurd (let z : ◌≡◌ {A = ℕ} 2 0 = ap sort e in omega arith)) (λ _ e. absurd (let z : ◌≡◌ {A = ℕ} 3 0 = ap sort e in omega arith))
      (λ r one two three b e. let is : (r - 1) / 8 ≡ j = ap of_whom e in let lo = b.0 in let hi = b.1 in
      (omega arith, put_all (λ j. rows_from (j * 8) 8) 0 (rows_from 3 5) (λ j xs. (r - 1) / 8 ≡ j → In r xs) (λ z. in_rows 3 5 r (omega arith) (omega arith)) (λ j _ z. in_rows (j * 8) 8 r (omega arith) (omega arith)) j is));
  in_chain = λ p r. put_all (λ _. []) q (1 ∷ []) (λ p xs. IsHead p → In r xs → IsRow layout r × (holding r ≡ listed p))
      (λ _ i. ⊎_elim (λ (e : r ≡ 1). subst (λ z. IsRow layout z × (holding z ≡ listed q)) (sym e) ((omega arith, omega arith), is_one)) (λ n. absurd n) i) (λ _ _ _ n. absurd n) p;
  of_chain = λ p. each_row (λ r h. IsRow layout r → h ≡ listed p → IsHead p × In r (chain p))
      (λ _ e. let z : q ≡ p = ap of_whom e in subst (λ z. IsHead z × In 1 (chain z)) z (omega arith, subst (In 1) (sym (put_here (λ _. []) q (1 ∷ []))) (inl refl)))
      (λ _ e. absurd (let z : ◌≡◌ {A = ℕ} 2 1 = ap sort e in omega arith)) (λ _ e. absurd (let z : ◌≡◌ {A = ℕ} 3 1 = ap sort e in omega arith))
      (λ r _ _ _ _ e. absurd (let z : ◌≡◌ {A = ℕ} 0 1 = ap sort e in omega arith));
  is_cut = λ j x. put_all (λ _. None) 1 (Some cut_row) (λ j o. j < 2 → o ≡ Some x → IsRow layout x.row × (holding x.row ≡ cut_by j))
      (λ _ e. subst (λ (y : CutRow). IsRow layout y.row × (holding y.row ≡ cut_by 1)) (some_some cut_row x e) ((omega arith, omega arith), is_two)) (λ _ _ _ e. absurd (none_some x e)) j;
  of_cut = λ j. each_row (λ r h. IsRow layout r → h ≡ cut_by j → (j < 2) × ((x : CutRow) × (cut j ≡ Some x) × (x.row ≡ r)))
      (λ _ e. absurd (let z : ◌≡◌ {A = ℕ} 1 2 = ap sort e in omega arith))
      (λ _ e. let z : 1 ≡ j = ap of_whom e in subst (λ z. (z < 2) × ((x : CutRow) × (cut z ≡ Some x) × (x.row ≡ 2))) z (omega arith, (cut_row, put_here (λ _. None) 1 (Some cut_row), refl)))
      (λ _ e. absurd (let z : ◌≡◌ {A = ℕ} 3 2 = ap sort e in omega arith))
      (λ r _ _ _ _ e. absurd (let z : ◌≡◌ {A = ℕ} 0 2 = ap sort e in omega arith));
}

stamps : Stamps layout 0 core.words.stamp core.ripening holding
stamps = record {
  shown = λ r b. each_row (λ r h. core.words.stamp r ≡ stamp_of h) (put_else (λ _. 0) 3 1 1 (λ e. omega arith)) (put_else (λ _. 0) 3 1 2 (λ e. omega arith)) (put_here (λ _. 0) 3 1) (λ r _ _ three. put_else (λ _. 0) 3 1 r three) r;
  tag = λ r t. each_row (λ r h. IsRow layout r → h ≡ retired t → t ≤ 0) (λ _ e. absurd (let z : ◌≡◌ {A = ℕ} 1 3 = ap sort e in omega arith)) (λ _ e. absurd (let z : ◌≡◌ {A = ℕ} 2 3 = ap sort e in omega arith))
      (λ _ e. let z : 0 ≡ t = ap of_whom e in omega arith) (λ r _ _ _ _ e. absurd (let z : ◌≡◌ {A = ℕ} 0 3 = ap sort e in omega arith)) r;
  ripe = λ j r t _ i. absurd i;
}

-- no row of this state leads to another
last : (r : ℕ) → (links r).row ≡ 0
last = put_all (λ _. dead) 1 present (λ r l. l.row ≡ 0) refl (λ _ _. refl)

reached : (a r : ℕ) (xs : List ℕ) → IsPath core.words.link core.words.twin a xs r → a ≡ r
reached a r [] path = path
reached a r (x ∷ xs) path = let above = path.0.0 in let none = last a in absurd (⊎_elim (λ (e : (links a).row ≡ x). omega arith) (λ (e : 0 ≡ x). omega arith) path.0.1)

-- all rows are of the open table
generation : (r : ℕ) → (links r).generation ≡ 1
generation = put_all (λ _. dead) 1 present (λ r l. l.generation ≡ 1) refl (λ _ _. refl)

-- the one row that is covered
covered_one : (k g r : ℕ) → IsCovered core k g r → r ≡ 1
covered_one k g r v = put_all (λ _. []) 0 (stand ∷ []) (λ k ss. In v.at (rows_of ss ++ []) → r ≡ 1)
    (λ i. ⊎_elim (λ (e : v.at ≡ 1). sym (reached v.at r v.reaches.through v.reaches.path) ∙ e) (λ n. absurd n) i) (λ _ _ n. absurd n) k v.stands

-- and the one that is listed
listed_only : (r p : ℕ) → holding r ≡ listed p → r ≡ 1
listed_only r p = each_row (λ r h. h ≡ listed p → r ≡ 1) (λ _. refl) (λ e. absurd (let z : ◌≡◌ {A = ℕ} 2 1 = ap sort e in omega arith)) (λ e. absurd (let z : ◌≡◌ {A = ℕ} 3 1 = ap sort e in omega arith))
    (λ r _ _ _ e. absurd (let z : ◌≡◌ {A = ℕ} 0 1 = ap sort e in omega arith)) r

present_one : links 1 ≡ present
present_one = put_here (λ _. dead) 1 present

dead_else : (r : ℕ) → r ≢ 1 → (links r).mark ≡ Del
dead_else r ne = ap (λ (l : Link). l.mark) (put_else (λ _. dead) 1 present r ne)

-- each row is present or dead
present_dead : (r : ℕ) → ((links r).mark ≡ Val) ⊎ ((links r).mark ≡ Del)
present_dead = put_all (λ _. dead) 1 present (λ r l. (l.mark ≡ Val) ⊎ (l.mark ≡ Del)) (inl refl) (λ _ _. inr refl)

val_invalid : Val ≡ Invalid → ⊥
val_invalid e = cc

dead_invalid : Del ≡ Invalid → ⊥
dead_invalid e = cc

val_mov : Val ≡ Mov → ⊥
val_mov e = cc

del_mov : Del ≡ Mov → ⊥
del_mov e = cc

none_frozen : (r : ℕ) → (links r).mark ≡ Mov → ⊥
none_frozen r m = ⊎_elim (λ v. val_mov (sym v ∙ m)) (λ d. del_mov (sym d ∙ m)) (present_dead r)

marks : Marks layout core.words.control core.words.head links core.words.twin holding
marks = record {
  mark = each_row (λ r h. IsRow layout r → MarkFits h (links r).mark) (λ _. tt) (λ _. subst IsFinal (sym (dead_else 2 (λ e. omega arith))) tt) (λ _. subst IsFinal (sym (dead_else 3 (λ e. omega arith))) tt) (λ _ _ _ _ _. tt);
  first = λ _ r _ _ m. absurd (none_frozen r m);
  bare = λ _ _ _ _. refl;
  aged = λ r _ _ m. absurd (none_frozen r m);
}

next_head : Heads core.words.control core.shape core.words.head
next_head = record {
  old = put_all (opening_head 1) q head_link (λ p l. IsHead p → IsOldHead core.words.control core.shape p → (l.generation ≡ 1) × (l.mark ≡ Val)) (λ _ _. (refl, refl)) (λ p _. old.heads.old p);
  new = λ _ _ n. absurd (false≢true n.0);
  other = put_all (opening_head 1) q head_link (λ p l. IsHead p → (IsOldHead core.words.control core.shape p → ⊥) → (IsNewHead core.words.control core.shape p → ⊥) → IsShut 1 p l) (λ _ out _. absurd (out (omega arith, omega arith))) (λ p _. old.heads.other p);
  order = λ _ _ _ _ _ _ n. absurd (false≢true n.0);
}

sorted : Sorted core.shape core.words.head links core.words.event chain
unfolding rank head_for bucket
sorted = record {
  rises = put_all (λ _. []) q (1 ∷ []) (λ p xs. IsHead p → Rises (ranks core.words.event) 0 xs) (λ _. (omega arith, tt)) (λ _ _ _. tt);
  belongs = λ p r. put_all (λ _. []) q (1 ∷ []) (λ p xs. IsHead p → In r xs → list_in core.shape (core.words.head p).generation event ≡ p)
      (λ _ _. ap (λ g. list_in core.shape g event) (ap (λ (l : Link). l.generation) (put_here (opening_head 1) q head_link)) ∙ omega arith) (λ _ _ _ n. absurd n) p;
  generation = λ p r. put_all (λ _. []) q (1 ∷ []) (λ p xs. IsHead p → In r xs → (links r).generation ≡ (core.words.head p).generation)
      (λ _ i. ⊎_elim (λ (e : r ≡ 1). ap (λ z. (links z).generation) e ∙ (ap (λ (l : Link). l.generation) present_one ∙ sym (ap (λ (l : Link). l.generation) (put_here (opening_head 1) q head_link)))) (λ n. absurd n) i)
      (λ _ _ _ n. absurd n) p;
}

no_stand : (s : Stand) → None ≡ Some s → ⊥
no_stand s e = cc

stands : Standing 2 core.words.head links core.words.twin core.words.event stands_at
stands = record {
  each = λ k s. put_all (λ _. []) 0 (stand ∷ []) (λ k ss. k < 2 → In s ss → StandFits core.words.head links core.words.twin core.words.event s)
      (λ _ i. ⊎_elim (λ (e : s ≡ stand). subst (StandFits core.words.head links core.words.twin core.words.event) (sym e) stand_fits) (λ n. absurd n) i) (λ _ _ _ n. absurd n) k;
}
  where
    no_last : (l : Link) → None ≡ Some l → ⊥
    no_last l e = cc

    no_number : (t : ℕ) → None ≡ Some t → ⊥
    no_number t e = cc

    stand_fits : StandFits core.words.head links core.words.twin core.words.event stand
    stand_fits = record { holds = refl; of = ap (λ (l : Link). l.generation) present_one; last = λ l e. absurd (no_last l e); copy = λ t e. absurd (no_number t e); valid = λ v. absurd (false≢true v); front = λ t e. absurd (no_number t e) }

lanes : Lanes layout core.shape (ground_of core) core.words.event
lanes = record {
  is_row = λ r v. subst (IsRow layout) (sym (covered_one v.0 v.1 r v.2)) (omega arith, omega arith);
  rises = λ r v above. let none = last r in absurd (omega arith);
  stays = λ r v above. let none = last r in absurd (omega arith);
  generation = λ r v above. let none = last r in absurd (omega arith);
  twins = λ r v _ some. absurd (omega arith);
}

naming : Naming layout core.words.head links core.words.event core.named holding
naming = record {
  named = λ r p _ at dead. absurd (val_del (sym (ap (λ (l : Link). l.mark) present_one) ∙ (ap (λ z. (links z).mark) (sym (listed_only r p at)) ∙ dead)));
  place = λ k d b at. old.naming.place k d b at;
}
  where
    val_del : Val ≡ Del → ⊥
    val_del e = cc

carriers : Carriers layout entries links core.words.twin core.words.event holding
carriers = record {
  carried = λ e p. (1, ((omega arith, omega arith), (q, is_one), val_carries (links 1).mark 0 (links 0).mark (ap (λ (l : Link). l.mark) present_one)), same e (alone (Some event) e p.put));
  pending = λ r live. record { put = (0, omega arith, refl); kept = λ t. let low = t.1 in omega arith };
  one = λ r t live live' _. listed_only r live.1.0 live.1.1 ∙ sym (listed_only t live'.1.0 live'.1.1);
}
  where
    same : (e : Event) → Some event ≡ Some e → event ≡ e
    same e z = cc

told : Told 2 entries core.deal own core.begun
told = record {
  legal = (λ t. let low = t.1 in omega arith, (((0, omega arith, refl), λ t. let low = t.1 in omega arith), tt));
  spans = omega arith;
  since = entries;
  extends = refl;
  each = put_all (λ _. []) 0 entries (λ j es. j < 2 → own_of j entries ≡ es) (λ _. refl) (λ j ne _. own_other j (Put 0 event ∷ []) (Settled 0 event) (λ e. ne (sym e)) ∙ own_other j [] (Put 0 event) (λ e. ne (sym e)));
  inside = λ e i. ⊎_elim (λ (z : e ≡ Put 0 event). subst (λ x. whose x < 2) (sym z) (omega arith)) (λ t. ⊎_elim (λ (z : e ≡ Settled 0 event). subst (λ x. whose x < 2) (sym z) (omega arith)) (λ n. absurd n) t) i;
  sourced = λ j e i. ⊎_elim (λ z. by_put j e z) (λ t. ⊎_elim (λ z. absurd (put_settled j e z)) (λ n. absurd n) t) i;
  begun_low = λ _ _. omega arith;
  began = λ j. put_all (λ _. []) 0 entries (λ j es. j < 2 → EndsInBegin es → (front : List Entry) × (length front ≡ 0) × Began j entries front)
      (λ _ e. absurd (settled_begin e.1 (last_one (Put 0 event ∷ []) e.0 (Settled 0 event) (Begin e.1) e.2))) (λ _ _ _ e. absurd (not_nil e.0 [] (Begin e.1) (sym e.2))) j;
}
  where
    by_put : (j : ℕ) (e : Event) → Put j e ≡ Put 0 event → owner_of 2 1 e.src ≡ j
    by_put j e z = let a : j ≡ 0 = cc in let d : e ≡ event = cc in ap (λ (x : Event). owner_of 2 1 x.src) d ∙ sym a

    put_settled : (j : ℕ) (e : Event) → Put j e ≡ Settled 0 event → ⊥
    put_settled j e z = cc

    settled_begin : (j : ℕ) → Settled 0 event ≡ Begin j → ⊥
    settled_begin j z = cc

none_invalid : (r : ℕ) → (links r).mark ≡ Invalid → ⊥
none_invalid r m = ⊎_elim (λ v. val_invalid (sym v ∙ m)) (λ d. dead_invalid (sym d ∙ m)) (present_dead r)

copies : Copies (rows_of_core core) (ground_of core)
copies = record {
  bound = λ o t b. absurd (none_frozen o b.frozen);
  one = λ o p t b _. absurd (none_frozen o b.frozen);
  owned = λ t _ _ m. absurd (none_invalid t m);
  apart = λ o t b _. absurd (none_frozen o b.frozen);
  alone = λ j k d e _ _ is _ _. absurd (no_copy d is);
  left = λ r _ m _. absurd (none_frozen r m);
  debt = λ k d _ is. absurd (no_copy d is);
}

on_on : (g : ℕ) → On 0 ≡ On g → 0 ≡ g
on_on g e = cc

pub core_inv : Inv core
core_inv = record {
  spelled = record {
    is_control = old.spelled.is_control;
    is_current = old.spelled.is_current;
    is_pin = old.spelled.is_pin;
    heads = put_all (opening_head 1) q head_link (λ p l. IsHead p → IsLink l) (λ _. record { generation = omega arith; row = omega arith }) (λ p _ _. opening_link 1 p (omega arith));
    links = put_all (λ _. dead) 1 present (λ r l. IsRow layout r → IsLink l) (λ _. record { generation = omega arith; row = omega arith }) (λ _ _ _. record { generation = omega arith; row = omega arith });
    twins = old.spelled.twins;
    events = old.spelled.events;
  };
  reading = record {
    limit = old.reading.limit;
    read = old.reading.read;
    loaded = old.reading.loaded;
    scanned = old.reading.scanned;
    tags = λ j t x _ e i. put_all (λ _. None) 1 (Some cut_row) (λ j o. o ≡ Some x → t ≤ 0)
        (λ e. ⊎_elim (λ (z : t ≡ 0). omega arith) (λ n. absurd n) (subst (λ (y : CutRow). In t y.tags) (sym (some_some cut_row x e)) i)) (λ _ _ e. absurd (none_some x e)) j e;
  };
  finds = old.finds;
  guards = record { each = λ _ _. (omega arith, omega arith, omega arith, omega arith); passed = λ k j a _ _ i _. absurd i };
  holders = holders;
  cutting = record { on = λ _ _ _ _. tt; tags = λ j t g x _ _ on _. let z = on_on g on in omega arith };
  stamps = stamps;
  chains = record {
    leads = λ p b. dite (ℕ_discrete p q)
        (λ (e : p ≡ q). subst (λ z. Leads core.words.link (core.words.head z).row (chain z)) (sym e)
        (subst (λ (z : Link). Leads core.words.link z.row (chain q)) (sym (put_here (opening_head 1) q head_link)) (subst (Leads core.words.link 1) (sym (put_here (λ _. []) q (1 ∷ []))) (refl, last 1))))
        (λ ne. subst (λ (z : Link). Leads core.words.link z.row (chain p)) (sym (put_else (opening_head 1) q head_link p ne)) (subst (Leads core.words.link (opening_head 1 p).row) (sym (put_else (λ _. []) q (1 ∷ []) p ne)) (old.chains.leads p b)));
    twins = λ _ _ _ _. inl refl;
  };
  cover = record {
    free = λ k g r j v is. let z : ◌≡◌ {A = ℕ} 1 0 = ap sort (sym is_one ∙ (ap holding (sym (covered_one k g r v)) ∙ is)) in omega arith;
    tags = λ k g r t v _. let z = on_on g v.on in omega arith;
    resting = λ k _ off. absurd (off tt);
  };
  sizes = record {
    now = old.sizes.now;
    heads = put_all (opening_head 1) q head_link (λ p l. IsHead p → l.generation ≤ 1) (λ _. omega arith) (λ p _. old.sizes.heads p);
    rows = λ r _ _. let g = generation r in omega arith;
  };
  dues = old.dues;
  steady = record { still = λ _. refl; first = λ _. refl; rows = λ r _ _ _. generation r; named = old.steady.named; single = old.steady.single };
  heads = next_head;
  sorted = sorted;
  marks = marks;
  standing = stands;
  copying = record { each = λ _ s _ e. absurd (no_stand s e) };
  lanes = lanes;
  writing = record { placed = λ _ _ _ i. absurd i; in_hand_is = λ _ _ _ i. absurd i; stands = λ _ _ _ i. absurd i };
  naming = naming;
  carriers = carriers;
  told = told;
  numbers = record { tables = λ _ _. omega arith; raising = λ _ _. omega arith };
  bounds = record { tables = old.bounds.tables; opened = refl; left = old.bounds.left; entries = omega arith; owed = old.bounds.owed };
  settling = record { owed = λ k d b is. absurd (no_settle d is); unsettled = λ _ put left. absurd (left put); lone = λ _ _ d _ _ _ is _ _. absurd (no_settle d is) };
  walkers = record { seen = λ _ x _ is. absurd (no_sight x is); walked = λ _ w _ is. absurd (no_walk w is) };
  ahead = record { each = λ _ _ _. omega arith };
  scarce = record { each = λ k b _ is. absurd (none_base b is) };
  refusals = record { each = λ k _. none_counted entries k };
  swept = record { left = λ k r s _ is. absurd (none_sweep s is); clean_is = λ k q r _ i. absurd i };
  helps = record { finds = λ k h _ is. absurd (none_help h is); passed = λ k h _ is. absurd (none_help h is) };
  copies = copies;
  rooms = old.rooms;
  bare = record { bare = λ moving. absurd (false≢true moving) };
  unlinked = record { each = λ _ s _ e. absurd (no_stand s e) };
  ends = record {
    opened = λ g p b from upto is. put_all (opening_head 1) q head_link (λ p (l : Link). IsHead p → IsHeadIn g (core.shape g) p → g ≤ l.generation) (λ _ _. omega arith) (λ p _ b is. old.ends.opened g p b from upto is) p b is;
    loaded = λ k h n _ is. absurd (none_help h is);
    sealed = λ k h n _ is. absurd (none_help h is);
    low = omega arith;
    high = λ later. absurd (omega arith);
    pinned = λ is. absurd (omega arith);
    past = λ some. absurd (omega arith);
    pins = λ k h p _ is. absurd (none_help h is);
    older = λ k w x _ is. absurd (no_walk w is);
  };
}

pub witness : Witness core
witness = record {
  r = 1;
  s = 2;
  t = 3;
  q = q;
  k = 0;
  g = 0;
  j = 1;
  e = 0;
  e' = 0;
  row = (omega arith, omega arith);
  is_listed = is_one;
  is_covered = record { inside = omega arith; on = refl; at = 1; stands = subst (λ ss. In 1 (rows_of ss ++ [])) (sym (put_here (λ _. []) 0 (stand ∷ []))) (inl refl); reaches = record { through = []; path = refl } };
  row' = (omega arith, omega arith);
  is_cut = is_two;
  is_tagged = inr (1, cut_row, omega arith, put_here (λ _. None) 1 (Some cut_row), refl, inl refl);
  row'' = (omega arith, omega arith);
  is_retired = put_here cut_two 3 (retired 0);
}
