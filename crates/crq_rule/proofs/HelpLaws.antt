-- How the part on helpers of a move stays.
use Rattle.std.proofs.Common.{◌≡◌, ⊎_elim, ℕ, ◌+◌, ◌-◌, ◌*◌, ◌%◌, ◌^◌, ◌<◌, ◌≤◌, ◌==◌, ◌&&◌, nat_lt, Bool, true, false, Option, Some, None, sym, refl, ap, ◌∙◌, subst, arith}
use Rattle.std.specs.Int.Bits.{bit_xor, xor_assoc, xor_self, xor_zero_r}
use Rattle.std.proofs.lemmas.Nat.{xor_lt, pow_pos}
use Rattle.std.proofs.Math.Nat.{mod-lt}
use Rattle.std.proofs.Math.Pow.{pow_mono}
use Rattle.std.proofs.lemmas.Bool.{false≢true, cond_both, ltb-true, eqb-true}
use mathlib.Core.Logic.{dite}
use native.Mathlib.Decide.{ℕ_discrete}
use Rattle.crq_base.specs.declared.words.Link.{Link}
use Rattle.crq_base.specs.declared.words.Mark.{Mark}
use Rattle.crq_base.specs.declared.words.Mark.TheVariants.{Val, Inv as Invalid, Mov, Del}
use Rattle.crq_base.specs.declared.words.Control.{Control}
use Rattle.crq_base.specs.declared.words.Current.{Current}
use Rattle.crq_rule.specs.declared.layout.Start.{Start}
use Rattle.crq_rule.specs.declared.view.Found.{Found}
use Rattle.crq_rule.specs.declared.view.Help.{Help}
use Rattle.crq_rule.specs.declared.view.Sight.{Sight}
use Rattle.crq_rule.specs.Lists.{put}
use Rattle.crq_rule.specs.Places.{IsHead}
use Rattle.crq_rule.specs.Parts.{Finds, Fits}
use Rattle.crq_rule.specs.Ranks.{Shape, shape_of, next_of, IsHeadIn, Cell, at_head, at_row, link_at}
use Rattle.crq_rule.specs.ListParts.{IsPrepared, IsShut, IsOldHead, IsNewHead, Heads}
use Rattle.crq_rule.specs.MoveKinds.{moving_to}
use Rattle.crq_rule.specs.Helping.{is_mov, woven, old_head, new_head, new_help, help_of, help_after, passed_on, is_prepared_next, is_frozen_next, is_emptied_next, passes_head, helped_by, IsHelping, HasPassed, Helps}
use Rattle.crq_rule.proofs.Puts.{put_here, put_else, put_all}
use Rattle.crq_rule.proofs.Pendings.{both}

-- The order in which heads are passed

-- a caller begins in the table
woven_from : (j log : ℕ) → 16 * j % 2 ^ log < 2 ^ log
woven_from j log = mod-lt (16 * j) (pow_pos log)

-- it stays in the table
pub woven_below : (j log i : ℕ) → i < 2 ^ log → woven j log i < 2 ^ log
woven_below j log i b = xor_lt log i (16 * j % 2 ^ log) b (woven_from j log)

-- the same order twice leads back
pub woven_back : (j log n : ℕ) → woven j log (woven j log n) ≡ n
woven_back j log n = xor_assoc n (16 * j % 2 ^ log) (16 * j % 2 ^ log) ∙ (ap (bit_xor n) (xor_self (16 * j % 2 ^ log)) ∙ xor_zero_r n)

-- it comes to all of the table
pub woven_all : (j log n : ℕ) → n < 2 ^ log → (i : ℕ) × (i < 2 ^ log) × (woven j log i ≡ n)
woven_all j log n b = (woven j log n, woven_below j log n b, woven_back j log n)

-- so each head of a table is that of some number
pub head_woven : (j log first q : ℕ) → first ≤ q → q < first + 2 ^ log → (i : ℕ) × (i < 2 ^ log) × (first + woven j log i ≡ q)
head_woven j log first q low high = let at : (n : ℕ) × (first + n ≡ q) = (q - first, omega arith) in let w = woven_all j log at.0 (let is = at.1 in omega arith) in (w.0, w.1, ap (λ n. first + n) w.2 ∙ at.1)

-- a table has no more heads than its bank
pub bank_wide : (log : ℕ) → log < 2 ^ 4 → 2 ^ log ≤ 32768
bank_wide log b = let top : 2 ^ log ≤ 2 ^ 15 = pow_mono {i = log} {j = 15} (omega arith) in top

-- the heads of a table are heads
pub head_in_bank : (g : ℕ) (s : Shape) (q : ℕ) → s.log < 2 ^ 4 → IsHeadIn g s q → IsHead q
head_in_bank g s q fits is = let wide = bank_wide s.log fits in let low = is.0 in let high = is.1 in omega arith

some_help : (g h : Help) → Some g ≡ Some h → g ≡ h
some_help g h e = cc

none_help : (h : Help) → None ≡ Some h → ⊥
none_help h e = cc

some_word : (x y : Control) → Some x ≡ Some y → x ≡ y
some_word x y e = cc

val_mov : Val ≡ Mov → ⊥
val_mov e = cc

mov_is : (m : Mark) → is_mov m ≡ true → m ≡ Mov
mov_is Val e = absurd (false≢true e)
mov_is Invalid e = absurd (false≢true e)
mov_is Mov e = refl
mov_is Del e = absurd (false≢true e)

-- what is known of one helper
abbrev pub IsHelped : Control → (ℕ → Link) → ℕ → Found → Help → Type 0
IsHelped control head k f h = ((x : Control) × (f.control ≡ Some x) × IsHelping x h) × (h.generation ≡ control.generation → HasPassed control head k h)

-- the part says this of each helper
pub helped_all : (n : ℕ) (control : Control) (head : ℕ → Link) (found : ℕ → Found) (help : ℕ → Option Help) → Helps n control head found help → (k : ℕ) (h : Help) → k < n → help k ≡ Some h → IsHelped control head k (found k) h
helped_all n control head found help old k h b is = (old.finds k h b is, old.passed k h b is)

pub all_helped : (n : ℕ) (control : Control) (head : ℕ → Link) (found : ℕ → Found) (help : ℕ → Option Help) → ((k : ℕ) (h : Help) → k < n → help k ≡ Some h → IsHelped control head k (found k) h) → Helps n control head found help
all_helped n control head found help each = record { finds = λ k h b is. (each k h b is).0; passed = λ k h b is. (each k h b is).1 }

-- what one caller found, and how it helps, changes
helps_put : (n : ℕ) (control : Control) (head : ℕ → Link) (found : ℕ → Found) (help : ℕ → Option Help) (j : ℕ) (f : Found) (o : Option Help) → ((h : Help) → j < n → o ≡ Some h → IsHelped control head j f h)
    → Helps n control head found help → Helps n control head (put found j f) (put help j o)
helps_put n control head found help j f o new old = all_helped n control head (put found j f) (put help j o) (λ k h. dite (ℕ_discrete k j)
    (λ e. subst (λ z. z < n → put help j o z ≡ Some h → IsHelped control head z (put found j f z) h) (sym e)
    (λ b is. subst (λ (z : Found). IsHelped control head j z h) (sym (put_here found j f)) (new h b (sym (put_here help j o) ∙ is))))
    (λ ne b is. subst (λ (z : Found). IsHelped control head k z h) (sym (put_else found j f k ne)) (helped_all n control head found help old k h b (sym (put_else help j o k ne) ∙ is))))

module _ (start : Start) (control : Control) (shape : ℕ → Shape) (current : Current) (found : ℕ → Found) (sight : ℕ → Option Sight) (finds : Finds start control shape current found sight) where
  -- the word of a helper of the present generation is the present one
  pub helped_now : (k : ℕ) (h : Help) (x : Control) → k < start.layout.workers → (found k).control ≡ Some x → IsHelping x h → h.generation ≡ control.generation → x ≡ control
  helped_now k h x b is helping now = (finds.controls k x b is).same helping.moving (sym helping.same ∙ now)

  -- the control word was loaded
  pub helps_loaded : (head : ℕ → Link) (help : ℕ → Option Help) (j : ℕ) → Helps start.layout.workers control head found help
      → Helps start.layout.workers control head (put found j (record (found j) { control = Some control })) (put help j (help_after control (help j)))
  helps_loaded head help j old = helps_put start.layout.workers control head found help j (record (found j) { control = Some control }) (help_after control (help j)) (λ h b. cond_both control.moving (Some (help_of control.generation (help j))) None
      (λ o. o ≡ Some h → IsHelped control head j (record (found j) { control = Some control }) h)
      (λ moves is. subst (λ (z : Help). IsHelped control head j (record (found j) { control = Some control }) z) (some_help (help_of control.generation (help j)) h is) (goes moves b (help j) refl))
      (λ _ is. absurd (none_help h is))) old
    where
      begins : control.moving ≡ true → IsHelped control head j (record (found j) { control = Some control }) (new_help control.generation)
      begins moves = (
        (control, refl, record { moving = moves; same = refl; prepared = omega arith; frozen = omega arith; emptied = omega arith }),
        λ _. record { prepared = λ i low. absurd (omega arith); frozen = λ i low. absurd (omega arith); emptied = λ i low. absurd (omega arith) },
      )

      goes : control.moving ≡ true → j < start.layout.workers → (o : Option Help) → help j ≡ o → IsHelped control head j (record (found j) { control = Some control }) (help_of control.generation o)
      goes moves b None is = begins moves
      goes moves b (Some h) is = cond_both (h.generation == control.generation) h (new_help control.generation) (IsHelped control head j (record (found j) { control = Some control }))
          (λ same. let was = helped_all _ _ _ _ _ old j h b is in let now : h.generation ≡ control.generation = eqb-true h.generation control.generation same in
          ((control, refl, subst (λ (z : Control). IsHelping z h) (helped_now j h was.0.0 b was.0.1 was.0.2 now) was.0.2), was.1))
          (λ _. begins moves)

  -- another current was found
  pub helps_current : (head : ℕ → Link) (help : ℕ → Option Help) (j : ℕ) (y : Option Current) → Helps start.layout.workers control head found help → Helps start.layout.workers control head (put found j (record (found j) { current = y })) help
  helps_current head help j y old = record {
    finds = λ k h. put_all found j (record (found j) { current = y }) (λ k f. k < start.layout.workers → help k ≡ Some h → (x : Control) × (f.control ≡ Some x) × IsHelping x h) (old.finds j h) (λ k _. old.finds k h) k;
    passed = old.passed;
  }

-- A number of heads that were passed grows by one, or stays

passed_one : (P : ℕ → Type 0) (b : Bool) (n : ℕ) → ((i : ℕ) → i < n → P i) → (b ≡ true → P n) → (i : ℕ) → i < passed_on b n → P i
passed_one P true n old new i low = dite (ℕ_discrete i n) (λ e. subst P (sym e) (new refl)) (λ ne. old i (omega arith))
passed_one P false n old new i low = old i low

passed_low : (b : Bool) (n most : ℕ) → n ≤ most → (b ≡ true → n < most) → passed_on b n ≤ most
passed_low true n most low next = let less = next refl in omega arith
passed_low false n most low next = low

-- a helper of the move of x comes by the head q, which is l
module _ (x : Control) (j q : ℕ) (l : Link) where
  is_prepared_so : (n : ℕ) → is_prepared_next x j q l n ≡ true → (n < 2 ^ x.new_log) × (q ≡ new_head x j n) × (x.generation < l.generation)
  is_prepared_so n is = let a = both (nat_lt n (2 ^ x.new_log)) ((q == new_head x j n) && nat_lt x.generation l.generation) is in let b = both (q == new_head x j n) (nat_lt x.generation l.generation) a.1 in
      (ltb-true n (2 ^ x.new_log) a.0, eqb-true q (new_head x j n) b.0, ltb-true x.generation l.generation b.1)

  is_frozen_so : (n : ℕ) → is_frozen_next x j q l n ≡ true → (n < 2 ^ x.log) × (q ≡ old_head x j n) × (l.mark ≡ Mov)
  is_frozen_so n is = let a = both (nat_lt n (2 ^ x.log)) ((q == old_head x j n) && is_mov l.mark) is in let b = both (q == old_head x j n) (is_mov l.mark) a.1 in
      (ltb-true n (2 ^ x.log) a.0, eqb-true q (old_head x j n) b.0, mov_is l.mark b.1)

  is_emptied_so : (n : ℕ) → is_emptied_next x j q l n ≡ true → ((n < 2 ^ x.log) × (q ≡ old_head x j n) × (l.mark ≡ Mov)) × (l.row ≡ 0)
  is_emptied_so n is = let a = both (is_frozen_next x j q l n) (l.row == 0) is in (is_frozen_so n a.0, eqb-true l.row 0 a.1)

  helping_on : (h : Help) → IsHelping x h → IsHelping x (passes_head x j q l h)
  helping_on h was = record {
    moving = was.moving;
    same = was.same;
    prepared = passed_low (is_prepared_next x j q l h.prepared) h.prepared (2 ^ x.new_log) was.prepared (λ is. (is_prepared_so h.prepared is).0);
    frozen = passed_low (is_frozen_next x j q l h.frozen) h.frozen (2 ^ x.log) was.frozen (λ is. (is_frozen_so h.frozen is).0);
    emptied = passed_low (is_emptied_next x j q l h.emptied) h.emptied (2 ^ x.log) was.emptied (λ is. (is_emptied_so h.emptied is).0.0);
  }

-- Heads that a helper has passed

-- Of the heads of the two tables, those that were prepared, frozen, or frozen and empty, stay so
pub record Stays (control : Control) (shape : ℕ → Shape) (head head' : ℕ → Link) : Type 0 where
  pub prepared : (q : ℕ) → IsHead q → IsNewHead control shape q → IsPrepared (control.generation + 1) (head q) → IsPrepared (control.generation + 1) (head' q)
  pub frozen : (q : ℕ) → IsHead q → IsOldHead control shape q → (head q).mark ≡ Mov → (head' q).mark ≡ Mov
  pub emptied : (q : ℕ) → IsHead q → IsOldHead control shape q → (head q).mark ≡ Mov → (head q).row ≡ 0 → (head' q).row ≡ 0

-- all stay as they are
pub stays_same : (control : Control) (shape : ℕ → Shape) (head : ℕ → Link) → Stays control shape head head
stays_same control shape head = record { prepared = λ _ _ _ p. p; frozen = λ _ _ _ m. m; emptied = λ _ _ _ _ r. r }

-- marks and generations stay, and so does row 0 where a head is frozen
pub stays_heads : (control : Control) (shape : ℕ → Shape) (head head' : ℕ → Link) → ((q : ℕ) → ((head' q).generation ≡ (head q).generation) × ((head' q).mark ≡ (head q).mark))
    → ((q : ℕ) → (head q).mark ≡ Mov → (head q).row ≡ 0 → (head' q).row ≡ 0) → Stays control shape head head'
stays_heads control shape head head' same empty = record {
  prepared = λ q _ _ p. ((same q).0 ∙ p.0, (same q).1 ∙ p.1);
  frozen = λ q _ _ m. (same q).1 ∙ m;
  emptied = λ q _ _ m r. empty q m r;
}

module _ (start : Start) (control : Control) (shape : ℕ → Shape) (now : Fits start control shape control) where
  -- the heads that helpers pass are those of the two tables
  pub new_head_is : (j i : ℕ) → control.moving ≡ true → i < 2 ^ control.new_log → IsHead (new_head control j i) × IsNewHead control shape (new_head control j i)
  new_head_is j i moves b = let low = woven_below j control.new_log i b in let at : IsHeadIn (control.generation + 1) (next_of control) (new_head control j i) = (omega arith, omega arith) in
      (head_in_bank (control.generation + 1) (next_of control) (new_head control j i) now.spelled.new_log at, (moves, subst (λ s. IsHeadIn (control.generation + 1) s (new_head control j i)) (sym (now.next moves)) at))

  pub old_head_is : (j i : ℕ) → i < 2 ^ control.log → IsHead (old_head control j i) × IsOldHead control shape (old_head control j i)
  old_head_is j i b = let low = woven_below j control.log i b in let at : IsHeadIn control.generation (shape_of control) (old_head control j i) = (omega arith, omega arith) in
      (head_in_bank control.generation (shape_of control) (old_head control j i) now.spelled.log at, subst (λ s. IsHeadIn control.generation s (old_head control j i)) (sym now.size) at)

  -- what a helper has passed stays so
  pub passed_stays : (head head' : ℕ → Link) (j : ℕ) (h : Help) → Stays control shape head head' → IsHelping control h → HasPassed control head j h → HasPassed control head' j h
  passed_stays head head' j h stays helping was = record {
    prepared = λ i low. let most = helping.prepared in let is = new_head_is j i helping.moving (omega arith) in stays.prepared (new_head control j i) is.0 is.1 (was.prepared i low);
    frozen = λ i low. let most = helping.frozen in let is = old_head_is j i (omega arith) in stays.frozen (old_head control j i) is.0 is.1 (was.frozen i low);
    emptied = λ i low. let most = helping.emptied in let is = old_head_is j i (omega arith) in let e = was.emptied i low in (stays.frozen (old_head control j i) is.0 is.1 e.0, stays.emptied (old_head control j i) is.0 is.1 e.0 e.1);
  }

  -- and so it does where it comes by the head q next, which is l
  pub passed_by : (head : ℕ → Link) (j q : ℕ) (l : Link) (h : Help) → head q ≡ l → control.moving ≡ true → (IsHead q → IsNewHead control shape q → control.generation < l.generation → IsPrepared (control.generation + 1) l) → HasPassed control head j h
      → HasPassed control head j (passes_head control j q l h)
  passed_by head j q l h found moves opened was = record {
    prepared = passed_one (λ i. IsPrepared (control.generation + 1) (head (new_head control j i))) (is_prepared_next control j q l h.prepared) h.prepared was.prepared
        (λ is. let s = is_prepared_so control j q l h.prepared is in let at = new_head_is j h.prepared moves s.0 in
        subst (λ z. IsPrepared (control.generation + 1) (head z)) s.1 (subst (IsPrepared (control.generation + 1)) (sym found) (opened (subst IsHead (sym s.1) at.0) (subst (IsNewHead control shape) (sym s.1) at.1) s.2)));
    frozen = passed_one (λ i. (head (old_head control j i)).mark ≡ Mov) (is_frozen_next control j q l h.frozen) h.frozen was.frozen
        (λ is. let s = is_frozen_so control j q l h.frozen is in subst (λ z. (head z).mark ≡ Mov) s.1 (ap (λ (z : Link). z.mark) found ∙ s.2));
    emptied = passed_one (λ i. ((head (old_head control j i)).mark ≡ Mov) × ((head (old_head control j i)).row ≡ 0)) (is_emptied_next control j q l h.emptied) h.emptied was.emptied
        (λ is. let s = is_emptied_so control j q l h.emptied is in subst (λ z. ((head z).mark ≡ Mov) × ((head z).row ≡ 0)) s.0.1 (ap (λ (z : Link). z.mark) found ∙ s.0.2, ap (λ (z : Link). z.row) found ∙ s.1));
  }

-- a caller that helps no move, or is at a row, helps as before
at_row_same : (f : Option Control) (j r : ℕ) (l : Link) (o : Option Help) → (h : Help) → helped_by f j (at_row r) l o ≡ Some h → o ≡ Some h
at_row_same None j r l o h is = is
at_row_same (Some x) j r l None h is = absurd (none_help h is)
at_row_same (Some x) j r l (Some g) h is = is

module _ (start : Start) (control : Control) (shape : ℕ → Shape) (current : Current) (found : ℕ → Found) (sight : ℕ → Option Sight) (now : Fits start control shape control) (finds : Finds start control shape current found sight) (help : ℕ → Option Help) where
  -- heads change, but what was passed stays so
  helped_stays : (head head' : ℕ → Link) (k : ℕ) (h : Help) → k < start.layout.workers → Stays control shape head head' → IsHelped control head k (found k) h → IsHelped control head' k (found k) h
  helped_stays head head' k h b stays was = (
    was.0,
    λ same. passed_stays start control shape now head head' k h stays (subst (λ (z : Control). IsHelping z h) (helped_now start control shape current found sight finds k h was.0.0 b was.0.1 was.0.2 same) was.0.2) (was.1 same),
  )

  pub helps_stays : (head head' : ℕ → Link) → Stays control shape head head' → Helps start.layout.workers control head found help → Helps start.layout.workers control head' found help
  helps_stays head head' stays old = all_helped start.layout.workers control head' found help (λ k h b is. helped_stays head head' k h b stays (helped_all start.layout.workers control head found help old k h b is))

  -- marks and generations of heads stay, and so does row 0 where one is frozen
  pub helps_heads : (head head' : ℕ → Link) → ((q : ℕ) → ((head' q).generation ≡ (head q).generation) × ((head' q).mark ≡ (head q).mark)) → ((q : ℕ) → (head q).mark ≡ Mov → (head q).row ≡ 0 → (head' q).row ≡ 0)
      → Helps start.layout.workers control head found help → Helps start.layout.workers control head' found help
  helps_heads head head' same empty old = helps_stays head head' (stays_heads control shape head head' same empty) old

  -- the helper j found the link l in the head q, or left it there
  pub helps_passed : (head head' : ℕ → Link) (j q : ℕ) (l : Link) → head' q ≡ l → Stays control shape head head' → (IsHead q → IsNewHead control shape q → control.generation < l.generation → IsPrepared (control.generation + 1) l)
      → Helps start.layout.workers control head found help → Helps start.layout.workers control head' found (put help j (helped_by (found j).control j (at_head q) l (help j)))
  helps_passed head head' j q l left stays opened old = all_helped start.layout.workers control head' found (put help j (helped_by (found j).control j (at_head q) l (help j)))
      (λ k h. put_all help j (helped_by (found j).control j (at_head q) l (help j)) (λ k o. k < start.layout.workers → o ≡ Some h → IsHelped control head' k (found k) h) (λ b is. own (found j).control refl (help j) refl h b is)
      (λ k _ b is. other k h b is) k)
    where
      other : (k : ℕ) (h : Help) → k < start.layout.workers → help k ≡ Some h → IsHelped control head' k (found k) h
      other k h b is = helped_stays head head' k h b stays (helped_all start.layout.workers control head found help old k h b is)

      own : (f : Option Control) → (found j).control ≡ f → (o : Option Help) → help j ≡ o → (h : Help) → j < start.layout.workers → helped_by f j (at_head q) l o ≡ Some h → IsHelped control head' j (found j) h
      own None at o had h b is = other j h b (had ∙ is)
      own (Some x) at None had h b is = absurd (none_help h is)
      own (Some x) at (Some g) had h b is = let was = other j g b had in let same : was.0.0 ≡ x = some_word was.0.0 x (sym was.0.1 ∙ at) in let helping : IsHelping x g = subst (λ (z : Control). IsHelping z g) same was.0.2 in
          subst (λ (z : Help). IsHelped control head' j (found j) z) (some_help (passes_head x j q l g) h is) (
            (x, at, helping_on x j q l g helping),
            λ (e : g.generation ≡ control.generation). let present : x ≡ control = helped_now start control shape current found sight finds j g x b at helping e in
                subst (λ (z : Control). HasPassed control head' j (passes_head z j q l g)) (sym present) (passed_by start control shape now head' j q l g left (ap (λ (z : Control). z.moving) (sym present) ∙ helping.moving) opened (was.1 e)),
          )

  -- the helper j found the link of a cell
  pub helps_walked : (head link : ℕ → Link) (j : ℕ) (cell : Cell) → Heads control shape head → Helps start.layout.workers control head found help → Helps start.layout.workers control head found (put help j (helped_by (found j).control j cell (link_at head link cell) (help j)))
  helps_walked head link j (at_head q) heads old = helps_passed head head j q (head q) refl (stays_same control shape head)
      (λ b n later. ⊎_elim (λ p. p) (λ (s : IsShut control.generation q (head q)). absurd (let older = s.older in omega arith)) (heads.new q b n)) old
  helps_walked head link j (at_row r) heads old = all_helped start.layout.workers control head found (put help j (helped_by (found j).control j (at_row r) (link r) (help j)))
      (λ k h. put_all help j (helped_by (found j).control j (at_row r) (link r) (help j)) (λ k o. k < start.layout.workers → o ≡ Some h → IsHelped control head k (found k) h)
      (λ b is. helped_all start.layout.workers control head found help old j h b (at_row_same (found j).control j r (link r) (help j) h is)) (λ k _ b is. helped_all start.layout.workers control head found help old k h b is) k)

  -- the helper j left the link l in the head q, which was shut and is a prepared one of the new table now
  pub helps_prepared : (head : ℕ → Link) (j q : ℕ) (l : Link) → IsShut control.generation q (head q) → IsNewHead control shape q → IsPrepared (control.generation + 1) l → (IsOldHead control shape q → ⊥) → Helps start.layout.workers control head found help
      → Helps start.layout.workers control (put head q l) found (put help j (helped_by (found j).control j (at_head q) l (help j)))
  helps_prepared head j q l was new is apart old = helps_passed head (put head q l) j q l (put_here head q l) (record {
    prepared = put_all head q l (λ p m. IsHead p → IsNewHead control shape p → IsPrepared (control.generation + 1) (head p) → IsPrepared (control.generation + 1) m) (λ _ _ _. is) (λ _ _ _ _ h. h);
    frozen = put_all head q l (λ p m. IsHead p → IsOldHead control shape p → (head p).mark ≡ Mov → m.mark ≡ Mov) (λ _ o _. absurd (apart o)) (λ _ _ _ _ h. h);
    emptied = put_all head q l (λ p m. IsHead p → IsOldHead control shape p → (head p).mark ≡ Mov → (head p).row ≡ 0 → m.row ≡ 0) (λ _ o _ _. absurd (apart o)) (λ _ _ _ _ _ h. h);
  }) (λ _ _ _. is) old

  -- the helper j left the link l in the head q, which is one of the old table, was present, and is frozen now
  pub helps_frozen : (head : ℕ → Link) (j q : ℕ) (l : Link) → (head q).mark ≡ Val → (IsNewHead control shape q → ⊥) → l.mark ≡ Mov → Helps start.layout.workers control head found help
      → Helps start.layout.workers control (put head q l) found (put help j (helped_by (found j).control j (at_head q) l (help j)))
  helps_frozen head j q l was apart is old = helps_passed head (put head q l) j q l (put_here head q l) (record {
    prepared = put_all head q l (λ p m. IsHead p → IsNewHead control shape p → IsPrepared (control.generation + 1) (head p) → IsPrepared (control.generation + 1) m) (λ _ n _. absurd (apart n)) (λ _ _ _ _ h. h);
    frozen = put_all head q l (λ p m. IsHead p → IsOldHead control shape p → (head p).mark ≡ Mov → m.mark ≡ Mov) (λ _ _ _. is) (λ _ _ _ _ h. h);
    emptied = put_all head q l (λ p m. IsHead p → IsOldHead control shape p → (head p).mark ≡ Mov → (head p).row ≡ 0 → m.row ≡ 0) (λ _ _ m. absurd (val_mov (sym was ∙ m))) (λ _ _ _ _ _ h. h);
  }) (λ _ n. absurd (apart n)) old

  -- no caller helps a move of a table that doesn't move yet, and so the part stays where the move is announced
  pub helps_announced : (head : ℕ → Link) (log shift : ℕ) → control.moving ≡ false → Helps start.layout.workers control head found help → Helps start.layout.workers (moving_to control log shift) head found help
  helps_announced head log shift steady old = record {
    finds = old.finds;
    passed = λ k h b is same. let f = old.finds k h b is in let present : f.0 ≡ control = helped_now start control shape current found sight finds k h f.0 b f.1 f.2 same in
        absurd (false≢true (sym steady ∙ (ap (λ (z : Control). z.moving) (sym present) ∙ f.2.moving)));
  }
