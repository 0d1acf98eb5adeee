-- What control words that were found say now, of which tables rows are, and what holds where the table may not move. No other file opens the part that says this last.
use Rattle.std.proofs.Common.{◌≡◌, ◌⊎◌, ⊎_elim, inl, inr, true, false, Bool, ℕ, ◌≢◌, ◌+◌, ◌<◌, ◌≤◌, List, [], ◌∷◌, ◌==◌, ◌||◌, ◌&&◌, cond, Some, None, refl, sym, ap, ◌∙◌, arith, subst, eq-eqb, ne_eqb}
use Rattle.std.proofs.lemmas.Bool.{false≢true, eqb-true}
use Rattle.std.proofs.lemmas.Nat.{pow_pos}
use Rattle.std.proofs.Math.Nat.{mod-lt}
use Rattle.crq_base.specs.declared.event.Event.{Event}
use Rattle.crq_base.specs.declared.words.Link.{Link}
use Rattle.crq_base.specs.declared.words.Mark.{Mark}
use Rattle.crq_base.specs.declared.words.Mark.TheVariants.{Val, Inv as Invalid, Mov, Del}
use Rattle.crq_base.specs.declared.words.Control.{Control}
use Rattle.crq_base.specs.Histories.{IsPending}
use Rattle.crq_base.specs.Lists.{In}
use Rattle.crq_base.specs.Words.{flag_number}
use Rattle.crq_rule.specs.declared.debts.CutDebt.{CutDebt}
use Rattle.crq_rule.specs.declared.layout.Start.{Start}
use Rattle.crq_rule.specs.Places.{IsRow, IsHead}
use Rattle.crq_rule.specs.Core.{Core, Holding, in_hand, listed, IsOutside, DeadNames, HasName}
use Rattle.crq_rule.specs.Parts.{newest, Fits, Leads, ground_of, IsGuarded}
use Rattle.crq_rule.specs.Ranks.{Shape, shape_of, next_of, bucket, head_for, head_in, list_in, list_by, head_of, IsHeadIn, IsOpen, tells_of, IsTold}
use Rattle.crq_rule.specs.ListParts.{IsShut, IsPrepared, IsOldMark, IsOldHead, IsNewHead}
use Rattle.crq_rule.specs.Steady.{Steady}
use Rattle.crq_rule.specs.Stated.{IsNext}
use Rattle.crq_rule.specs.Copies.{IsBound, IsCopying}
use Rattle.crq_rule.specs.Invariant.{rows_of_core, Inv}
use Rattle.crq_rule.proofs.CoverLaws.{copy_footing, footing_covered}
use Rattle.crq_rule.proofs.HeadLaws.{carries_kept, IsLiveHead, used_head, present_old}
use Rattle.crq_rule.proofs.SizeLaws.{fitting_list}

val_invalid : Val ≡ Invalid → ⊥
val_invalid e = cc

listed_hand : (q j : ℕ) → listed q ≡ in_hand j → ⊥
listed_hand q j e = cc

-- a mark that isn't that of a copy which isn't valid
mark_sorts : (m : Mark) → (m ≡ Invalid → ⊥) → ((m ≡ Val) ⊎ (m ≡ Del)) ⊎ (m ≡ Mov)
mark_sorts Val valid = inl (inl refl)
mark_sorts Invalid valid = absurd (valid refl)
mark_sorts Mov valid = inr refl
mark_sorts Del valid = inl (inr refl)

-- control moves if it counts one table more
moving_one : (b : Bool) → 0 < flag_number b → b ≡ true
moving_one true some = refl
moving_one false some = absurd (omega arith)

old_mark : (b : Bool) (m : Mark) → IsOldMark b m → (m ≡ Val) ⊎ ((b ≡ true) × (m ≡ Mov))
old_mark false m is = inl is
old_mark true m is = ⊎_elim inl (λ moved. inr (refl, moved)) is

-- what tells says, and what is said tells
or_right : (a : Bool) → a || true ≡ true
or_right true = refl
or_right false = refl

pub told_is : (x : Control) (g : ℕ) → IsTold x g → tells_of x g ≡ true
told_is x g told = ⊎_elim (λ (now : g ≡ x.generation). ap (λ b. b || (x.moving && (g == x.generation + 1))) (eq-eqb g x.generation now))
    (λ (h : (x.moving ≡ true) × (g ≡ x.generation + 1)). (λ i. (g == x.generation) || (h.0 i && eq-eqb g (x.generation + 1) h.1 i)) ∙ or_right (g == x.generation)) told

told_by : (a m b : Bool) → a || (m && b) ≡ true → (a ≡ true) ⊎ ((m ≡ true) × (b ≡ true))
told_by true m b is = inl refl
told_by false true b is = inr (refl, is)
told_by false false b is = absurd (false≢true is)

pub is_told : (x : Control) (g : ℕ) → tells_of x g ≡ true → IsTold x g
is_told x g is = ⊎_elim (λ now. inl (eqb-true g x.generation now)) (λ (h : (x.moving ≡ true) × ((g == x.generation + 1) ≡ true)). inr (h.0, eqb-true g (x.generation + 1) h.1)) (told_by (g == x.generation) x.moving (g == x.generation + 1) is)

-- what is told of and older than the newest table is of the open one, which moves
aged_now : (x : Control) (g : ℕ) → IsTold x g → g < newest x → (x.moving ≡ true) × (g ≡ x.generation)
aged_now x g told low = ⊎_elim (λ (now : g ≡ x.generation). (moving_one x.moving (omega arith), now))
    (λ (h : (x.moving ≡ true) × (g ≡ x.generation + 1)). let high : newest x ≡ x.generation + 1 = ap (λ b. x.generation + flag_number b) h.0 in let is = h.1 in absurd (omega arith)) told

-- a table that it tells of is no earlier one than the open one
pub told_high : (x : Control) (g : ℕ) → IsTold x g → x.generation ≤ g
told_high x g told = ⊎_elim (λ (now : g ≡ x.generation). omega arith) (λ (h : (x.moving ≡ true) × (g ≡ x.generation + 1)). let is = h.1 in omega arith) told

-- the list of an event is one of the table
in_table : (shape : ℕ → Shape) (g : ℕ) (e : Event) → IsHeadIn g (shape g) (list_in shape g e)
unfolding head_for
in_table shape g e = let low = mod-lt (bucket (shape g) e.time) (pow_pos (shape g).log) in (omega arith, omega arith)

module _ (start : Start) (control : Control) (link : ℕ → Link) (holding : ℕ → Holding) (names : ℕ → DeadNames) where
  -- each row that is outside hands was so, or is of the open table where that may not move
  pub steady_rows : (link' : ℕ → Link) (holding' : ℕ → Holding)
      → ((r : ℕ) → IsRow start.layout r → IsOutside holding' r → (IsOutside holding r × ((link' r).generation ≡ (link r).generation)) ⊎ (start.moves ≡ false → (link' r).generation ≡ control.generation))
      → Steady start control link holding names → Steady start control link' holding' names
  steady_rows link' holding' was old = record {
    still = old.still;
    first = old.first;
    rows = λ r no_move b out. ⊎_elim (λ (h : IsOutside holding r × ((link' r).generation ≡ (link r).generation)). h.1 ∙ old.rows r no_move b h.0) (λ now. now no_move) (was r b out);
    named = old.named;
    single = old.single;
  }

  -- each name was there, or is of the open table where that may not move
  pub steady_names : (names' : ℕ → DeadNames) → ((k : ℕ) (d : CutDebt) → k < start.layout.workers → HasName (names' k) d → HasName (names k) d ⊎ (start.moves ≡ false → d.generation ≡ control.generation))
      → (start.moves ≡ false → (k : ℕ) → k < start.layout.workers → (names k).second ≡ None → (names' k).second ≡ None) → Steady start control link holding names → Steady start control link holding names'
  steady_names names' was alone old = record {
    still = old.still;
    first = old.first;
    rows = old.rows;
    named = λ k d no_move b has. ⊎_elim (old.named k d no_move b) (λ now. now no_move) (was k d b has);
    single = λ k no_move b. alone no_move k b (old.single k no_move b);
  }

-- control moves where it may
pub steady_moves : (start : Start) (next : Control) (link : ℕ → Link) (holding : ℕ → Holding) (names : ℕ → DeadNames) → start.moves ≡ true → Steady start next link holding names
steady_moves start next link holding names moves = record {
  still = λ no_move. absurd (never no_move);
  first = λ no_move. absurd (never no_move);
  rows = λ _ no_move. absurd (never no_move);
  named = λ _ _ no_move. absurd (never no_move);
  single = λ _ no_move. absurd (never no_move);
}
  where
    never : start.moves ≡ false → ⊥
    never no_move = false≢true (sym no_move ∙ moves)

module _ (c : Core) (inv : Inv c) where
  -- a table that may not move doesn't
  pub steady_still : c.start.moves ≡ false → c.words.control.moving ≡ false
  steady_still = inv.steady.still

  pub moves_so : c.words.control.moving ≡ true → c.start.moves ≡ true
  moves_so moving = by_start c.start.moves refl
    where
      by_start : (b : Bool) → c.start.moves ≡ b → b ≡ true
      by_start true is = refl
      by_start false is = absurd (false≢true (sym (inv.steady.still is) ∙ moving))

  -- a control word that was found is of the open table where that may not move
  fitting_still : c.start.moves ≡ false → (x : Control) → Fits c.start c.words.control c.shape x → x.generation ≡ c.words.control.generation
  fitting_still no_move x fits = let low = fits.first in let high = fits.low in let first = inv.steady.first no_move in omega arith

  pub found_now : c.start.moves ≡ false → (j : ℕ) (x : Control) → j < c.start.layout.workers → (c.found j).control ≡ Some x → x.generation ≡ c.words.control.generation
  found_now no_move j x b is = fitting_still no_move x (inv.finds.controls j x b is)

  -- one that moves is the present one, if it is of the open table
  pub found_moving : (j : ℕ) (x : Control) → j < c.start.layout.workers → (c.found j).control ≡ Some x → x.moving ≡ true → x.generation ≡ c.words.control.generation → x ≡ c.words.control
  found_moving j x b is moves now = (inv.finds.controls j x b is).same moves now

  pub found_still : (j : ℕ) (x : Control) → j < c.start.layout.workers → (c.found j).control ≡ Some x → c.start.moves ≡ false → x.moving ≡ false
  found_still j x b is no_move = go x.moving refl
    where
      go : (m : Bool) → x.moving ≡ m → m ≡ false
      go false at = refl
      go true at = absurd (false≢true (sym (steady_still no_move) ∙ (ap (λ (y : Control). y.moving) (sym (found_moving j x b is at (found_now no_move j x b is))) ∙ at)))

  -- the list of an event in the open table
  pub open_list : (e : Event) → list_in c.shape c.words.control.generation e ≡ head_of c.words.control e
  open_list e = fitting_list c.start c.words.control c.shape c.words.control inv.sizes.now e

  -- What a control word that was found tells of

  -- the shape of a table that it tells of
  fits_told : (x : Control) → Fits c.start c.words.control c.shape x → (g : ℕ) → IsTold x g → (e : Event) → list_in c.shape g e ≡ list_by x g e
  fits_told x fits g told e = ap (λ s. head_in g s e) (⊎_elim
      (λ (now : g ≡ x.generation). ap c.shape now ∙ (fits.size ∙ sym (ap (λ b. cond b (shape_of x) (next_of x)) (eq-eqb g x.generation now))))
      (λ (h : (x.moving ≡ true) × (g ≡ x.generation + 1)). ap c.shape h.1 ∙ (fits.next h.0 ∙ sym (ap (λ b. cond b (shape_of x) (next_of x)) (ne_eqb g x.generation (later g x.generation h.1)))))
      told)
    where
      later : (g n : ℕ) → g ≡ n + 1 → g ≢ n
      later g n is same = absurd (omega arith)

  pub found_told : (j : ℕ) (x : Control) → j < c.start.layout.workers → (c.found j).control ≡ Some x → (g : ℕ) → IsTold x g → (e : Event) → list_in c.shape g e ≡ list_by x g e
  found_told j x b is = fits_told x (inv.finds.controls j x b is)

  -- Of which tables rows are

  -- the head of a list that isn't empty is of the open table, or of the one that it moves into
  listed_live : (q r : ℕ) → IsHead q → In r (c.chain q) → IsLiveHead c.words.control c.shape q (c.words.head q)
  listed_live q r head i = used_head c.words.control c.shape c.words.head inv.heads q head (some (c.chain q) (λ s at. (inv.holders.in_chain q s head at).0.0) i (inv.chains.leads q head))
    where
      some : (rs : List ℕ) → ((s : ℕ) → In s rs → 0 < s) → In r rs → Leads c.words.link (c.words.head q).row rs → 0 < (c.words.head q).row
      some [] above i leads = absurd i
      some (s ∷ rs) above i leads = let low = above s (inl refl) in let is = leads.0 in omega arith

  -- and so is each row of that list
  listed_told : (q r : ℕ) → IsHead q → In r (c.chain q) → IsTold c.words.control (c.words.link r).generation
  listed_told q r head i = let same = inv.sorted.generation q r head i in ⊎_elim (λ old. inl (same ∙ old.1)) (λ new. inr (new.0.0, same ∙ new.1.0)) (listed_live q r head i)

  pub held_told : (q r : ℕ) → IsRow c.start.layout r → c.holding r ≡ listed q → IsTold c.words.control (c.words.link r).generation
  held_told q r row held = let at = inv.holders.of_chain q r row held in listed_told q r at.0 at.1

  pub guarded_out : (r : ℕ) → IsGuarded (ground_of c) r → IsOutside c.holding r
  guarded_out r v j held = inv.cover.free v.0 v.1 r j v.2 held

  -- where the table may not move all rows that are in no hand are of the open one, and so is what a name names
  pub still_row : c.start.moves ≡ false → (r : ℕ) → IsRow c.start.layout r → IsOutside c.holding r → (c.words.link r).generation ≡ c.words.control.generation
  still_row no_move r row out = inv.steady.rows r no_move row out

  pub still_name : c.start.moves ≡ false → (k : ℕ) (d : CutDebt) → k < c.start.layout.workers → HasName (c.named k) d → d.generation ≡ c.words.control.generation
  still_name no_move k d b has = inv.steady.named k d no_move b has

  pub still_told : c.start.moves ≡ false → (g : ℕ) → IsTold c.words.control g → g ≡ c.words.control.generation
  still_told no_move g told = ⊎_elim (λ now. now) (λ (h : (c.words.control.moving ≡ true) × (g ≡ c.words.control.generation + 1)). absurd (false≢true (sym (steady_still no_move) ∙ h.0))) told

  -- and a row that is in no hand is present or dead
  pub still_mark : c.start.moves ≡ false → (r : ℕ) → IsRow c.start.layout r → IsOutside c.holding r → ((c.words.link r).mark ≡ Val) ⊎ ((c.words.link r).mark ≡ Del)
  still_mark no_move r row out = ⊎_elim (λ m. m) (λ frozen. absurd (unfrozen r row out frozen)) (mark_sorts (c.words.link r).mark (λ invalid. ⊎_elim
      (λ (h : (o : ℕ) × IsBound (rows_of_core c) o r). unfrozen h.0 h.1.row (λ j held. listed_hand h.1.listed_is.0 j (sym h.1.listed_is.1 ∙ held)) h.1.frozen)
      (λ (h : IsCopying (rows_of_core c) r). let fits = inv.copies.debt h.who h.owed h.inside h.debt in
      let v = footing_covered (ground_of c) c.cut c.holding inv.cover h.who h.owed.old h.inside (copy_footing c.rows c.old c.copying h.who h.owed h.debt).0 in
      let g : IsGuarded (ground_of c) h.owed.old = (h.who, v.0, v.1) in unfrozen h.owed.old (inv.lanes.is_row h.owed.old g) (guarded_out h.owed.old g) (ap (λ (l : Link). l.mark) fits.last ∙ fits.frozen))
      (inv.copies.owned r row out invalid)))
    where
      unfrozen : (o : ℕ) → IsRow c.start.layout o → IsOutside c.holding o → (c.words.link o).mark ≡ Mov → ⊥
      unfrozen o row out frozen = let old = aged_now c.words.control (c.words.link o).generation (inl (still_row no_move o row out)) (inv.marks.aged o row out frozen) in false≢true (sym (steady_still no_move) ∙ old.0)

  -- the heads of the open table are present, or frozen where it moves; those of the next one are prepared, or shut still; and the others are shut
  open_now : (q : ℕ) → IsOpen c.words.control q → IsOldHead c.words.control c.shape q
  open_now q o = subst (λ s. IsHeadIn c.words.control.generation s q) (sym inv.sizes.now.size) o

  pub open_is : (q : ℕ) → IsHead q → IsOpen c.words.control q → (((c.words.head q).mark ≡ Val) ⊎ ((c.words.control.moving ≡ true) × ((c.words.head q).mark ≡ Mov))) × ((c.words.head q).generation ≡ c.words.control.generation)
  open_is q b o = let h = inv.heads.old q b (open_now q o) in (old_mark c.words.control.moving (c.words.head q).mark h.1, h.0)

  pub next_now : (q : ℕ) → IsNext c.words.control q → IsNewHead c.words.control c.shape q
  next_now q n = (n.0, subst (λ s. IsHeadIn (c.words.control.generation + 1) s q) (sym (inv.sizes.now.next n.0)) n.1)

  pub next_is : (q : ℕ) → IsHead q → IsNext c.words.control q → IsPrepared (c.words.control.generation + 1) (c.words.head q) ⊎ IsShut c.words.control.generation q (c.words.head q)
  next_is q b n = inv.heads.new q b (next_now q n)

  pub next_ready : (p q : ℕ) → IsHead p → IsHead q → IsOpen c.words.control p → (c.words.head p).mark ≡ Mov → IsNext c.words.control q → IsPrepared (c.words.control.generation + 1) (c.words.head q)
  next_ready p q a b o frozen n = inv.heads.order p q a b (open_now p o) frozen (next_now q n)

  pub shut_is : (q : ℕ) → IsHead q → (IsOpen c.words.control q → ⊥) → (IsNext c.words.control q → ⊥) → IsShut c.words.control.generation q (c.words.head q)
  shut_is q b out none = inv.heads.other q b (λ o. out (subst (λ s. IsHeadIn c.words.control.generation s q) inv.sizes.now.size o))
      (λ n. none (n.0, subst (λ s. IsHeadIn (c.words.control.generation + 1) s q) (inv.sizes.now.next n.0) n.1))

  -- a listed row is of a head of the open table, or of the one that it moves into
  pub listed_head : (q r : ℕ) → IsHead q → In r (c.chain q) → (IsOldHead c.words.control c.shape q × ((c.words.link r).generation ≡ c.words.control.generation)) ⊎ (IsNewHead c.words.control c.shape q × ((c.words.link r).generation ≡ c.words.control.generation + 1))
  listed_head q r head i = let g = (c.words.link r).generation in
      let here : list_in c.shape g (c.words.event r) ≡ q = ap (λ n. list_in c.shape n (c.words.event r)) (inv.sorted.generation q r head i) ∙ inv.sorted.belongs q r head i in
      let at : IsHeadIn g (c.shape g) q = subst (IsHeadIn g (c.shape g)) here (in_table c.shape g (c.words.event r)) in ⊎_elim
      (λ (now : g ≡ c.words.control.generation). inl (subst (λ n. IsHeadIn n (c.shape n) q) now at, now))
      (λ (h : (c.words.control.moving ≡ true) × (g ≡ c.words.control.generation + 1)). inr ((h.0, subst (λ n. IsHeadIn n (c.shape n) q) h.1 at), h.1))
      (listed_told q r head i)

  -- An event that is pending stands in a row to which links lead from its head, where that is present and of the table of a control word that was found
  pub list_carries : (x : Control) (q : ℕ) (e : Event) → Fits c.start c.words.control c.shape x → IsHead q → (c.words.head q).mark ≡ Val → (c.words.head q).generation ≡ x.generation → IsPending c.history e → head_of x e ≡ q
      → (r : ℕ) × In r (c.chain q) × (c.words.event r ≡ e) × (((c.words.link r).mark ≡ Val) ⊎ ((c.words.link r).mark ≡ Mov))
  list_carries x q e fits head val same pending at = let y = inv.carriers.carried e pending in let p = y.1.1.0 in
      let in_list = inv.holders.of_chain p y.0 y.1.0 y.1.1.1 in
      let here_now = present_old c.words.control c.shape c.words.head inv.heads q head val (let low = fits.low in omega arith) in let opened = here_now.0 in
      let list : list_in c.shape c.words.control.generation e ≡ q = ap (λ n. list_in c.shape n e) (sym here_now.1 ∙ same) ∙ (fitting_list c.start c.words.control c.shape x fits e ∙ at) in ⊎_elim
      (λ (old : IsOldHead c.words.control c.shape p × ((c.words.link y.0).generation ≡ c.words.control.generation)).
      let now : (c.words.head p).generation ≡ c.words.control.generation = sym (inv.sorted.generation p y.0 in_list.0 in_list.1) ∙ old.1 in
      let here : p ≡ q = sym (inv.sorted.belongs p y.0 in_list.0 in_list.1) ∙ ((λ k. list_in c.shape (now k) (y.2 k)) ∙ list) in
      (y.0, subst (λ z. In y.0 (c.chain z)) here in_list.1, y.2, carries_kept (c.words.link y.0).mark (c.words.twin y.0) (c.words.link (c.words.twin y.0)).mark y.1.2))
      (λ (new : IsNewHead c.words.control c.shape p × ((c.words.link y.0).generation ≡ c.words.control.generation + 1)).
      absurd (subst (In y.0) (inv.bare.bare new.0.0 q p head in_list.0 opened val new.0) in_list.1))
      (listed_head p y.0 in_list.0 in_list.1)

  -- where the table may not move, a caller owes one dead row at most
  pub one_named : c.start.moves ≡ false → (k : ℕ) → k < c.start.layout.workers → (c.named k).second ≡ None
  one_named no_move k b = inv.steady.single k no_move b
