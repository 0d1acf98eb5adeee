-- The step that opens the next table keeps the invariant.
use Rattle.std.proofs.Common.{◌≡◌, ⊎_elim, inr, true, ℕ, ◌+◌, ◌^◌, ◌<◌, ◌≤◌, Some, sym, refl, ap, ◌∙◌, subst, le_refl, arith}
use Rattle.std.proofs.lemmas.Bool.{false≢true}
use Rattle.std.proofs.lemmas.Nat.{pow_pos}
use Rattle.crq_base.specs.declared.words.Mark.TheVariants.{Val, Mov}
use Rattle.crq_base.specs.declared.words.Control.{Control}
use Rattle.crq_base.specs.declared.words.Current.{Current}
use Rattle.crq_base.specs.declared.words.Pin.{Pin}
use Rattle.crq_base.specs.Words.{flag_number, IsControl}
use Rattle.crq_rule.specs.declared.view.Help.{Help}
use Rattle.crq_rule.specs.Places.{IsHead}
use Rattle.crq_rule.specs.Core.{Core, caller_of}
use Rattle.crq_rule.specs.Parts.{newest, Fits}
use Rattle.crq_rule.specs.Ranks.{Shape, first_head_of, IsHeadIn}
use Rattle.crq_rule.specs.ListParts.{IsShut, IsPrepared, IsOldHead, Heads}
use Rattle.crq_rule.specs.Ending.{IsSealed, IsPinOf, Ends}
use Rattle.crq_rule.specs.PinKinds.{opened_from, table_opened, MayFinish}
use Rattle.crq_rule.specs.Invariant.{present_of, takes_of, ending_of, Inv}
use Rattle.crq_rule.proofs.HeadLaws.{below_or_not, in_or_out}
use Rattle.crq_rule.proofs.HelpLaws.{head_woven, bank_wide, head_in_bank}
use Rattle.crq_rule.proofs.BoundLaws.{coming_steady}
use Rattle.crq_rule.proofs.PinLaws.{helper_of}
use Rattle.crq_rule.proofs.MoveFrames.{frame_control}
use Rattle.crq_rule.proofs.SteadyLaws.{steady_moves, moves_so}
use Rattle.crq_rule.proofs.WalkerLaws.{walkers_current}

val_mov : Val ≡ Mov → ⊥
val_mov e = cc

module _ (c : Core) (inv : Inv c) (j : ℕ) (b : j < c.start.layout.workers) (h : Help) (n : Pin) (y : Current) (may : MayFinish c.words.control h n y (caller_of c j)) where
  abbrev now : Control
  now = c.words.control

  abbrev next : Control
  next = opened_from now

  moves : now.moving ≡ true
  moves = may.helper.moving

  here : h.generation ≡ now.generation
  here = helper_of c inv j b now h may.helper

  newest_is : newest now ≡ now.generation + 1
  newest_is = ap (λ t. now.generation + flag_number t) moves

  known : IsPinOf (ending_of c) h n
  known = inv.ends.pins j h n b may.helper.helps may.pin

  -- current is past the pin, which names the next table
  named : c.words.pin.generation ≡ now.generation + 1
  named = ap (λ (z : Pin). z.generation) (sym (known.now here)) ∙ (known.next ∙ ap (λ a. a + 1) here)

  past : c.words.pin.epoch < c.words.current.epoch
  past = let same = ap (λ (z : Pin). z.epoch) (known.now here) in let less = may.past in ⊎_elim (λ l. omega arith) (λ s. let e = s.0 in omega arith) (inv.finds.currents j y b may.current)

  -- all heads of the old table are frozen and empty
  emptied : (q : ℕ) → IsOldHead now c.shape q → ((c.words.head q).mark ≡ Mov) × ((c.words.head q).row ≡ 0)
  emptied q o = let passed = inv.helps.passed j h b may.helper.helps here in
      let within = subst (λ (s : Shape). q < first_head_of now.generation + 2 ^ s.log) inv.sizes.now.size o.1 in
      let w = head_woven j now.log (first_head_of now.generation) q o.0 within in
      subst (λ z. ((c.words.head z).mark ≡ Mov) × ((c.words.head z).row ≡ 0)) w.2 (passed.emptied w.0 (let low = w.1 in subst (λ z. w.0 < z) (sym may.emptied) low))

  -- and all heads of the new one are prepared
  abbrev first_old : ℕ
  first_old = first_head_of now.generation

  first_is : IsOldHead now c.shape first_old
  first_is = let some = pow_pos (c.shape now.generation).log in (le_refl _, omega arith)

  prepared : (q : ℕ) → IsHead q → IsHeadIn (now.generation + 1) (c.shape (now.generation + 1)) q → IsPrepared (now.generation + 1) (c.words.head q)
  prepared q head is = inv.heads.order first_old q (head_in_bank now.generation (c.shape now.generation) first_old (subst (λ (s : Shape). s.log < 2 ^ 4) (sym inv.sizes.now.size) inv.spelled.is_control.log) first_is) head first_is (emptied first_old first_is).0 (moves, is)

  spelled_word : IsControl next
  spelled_word = let word = inv.spelled.is_control in record {
    generation = (let top = inv.bounds.tables in let is = newest_is in omega arith);
    log = word.new_log;
    shift = word.new_shift;
    new_log = omega arith;
    new_shift = omega arith;
    steady_log = λ _. refl;
    steady_shift = λ _. refl;
  }

  -- a word that was found is of an older table, or of one that doesn't move
  fits_on : (x : Control) → Fits c.start now c.shape x → Fits c.start next c.shape x
  fits_on x was = record {
    spelled = was.spelled;
    first = was.first;
    low = (let low = was.low in omega arith);
    size = was.size;
    next = was.next;
    same = λ _ is. absurd (let low = was.low in omega arith);
  }

  fits_next : Fits c.start next c.shape next
  fits_next = record {
    spelled = spelled_word;
    first = (let low = inv.sizes.now.first in omega arith);
    low = le_refl _;
    size = inv.sizes.now.next moves;
    next = λ is. absurd (false≢true is);
    same = λ _ _. refl;
  }

  older_shut : (q : ℕ) → IsShut now.generation q (c.words.head q) → IsShut (now.generation + 1) q (c.words.head q)
  older_shut q s = record { mark = s.mark; empty = s.empty; older = (let low = s.older in omega arith); bank = s.bank }

  heads_next : Heads next c.shape c.words.head
  heads_next = record {
    old = λ q head o. prepared q head o;
    new = λ q _ is. absurd (false≢true is.0);
    other = λ q head out _. ⊎_elim
        (λ (o : IsOldHead now c.shape q). let e = emptied q o in let is = (inv.heads.old q head o).0 in record {
          mark = e.0;
          empty = e.1;
          older = omega arith;
          bank = inr (subst (λ g. (first_head_of g ≤ q) × (q < first_head_of g + 32768)) (sym is) (o.0, (let wide = bank_wide (c.shape now.generation).log (subst (λ (s : Shape). s.log < 2 ^ 4) (sym inv.sizes.now.size) inv.spelled.is_control.log) in let high = o.1 in omega arith)));
        })
        (λ none. older_shut q (inv.heads.other q head none (λ is. out is.1)))
        (in_or_out now.generation (c.shape now.generation) q);
    order = λ p q _ _ _ _ is. absurd (false≢true is.0);
  }

  -- no helper has found a later word than the present one
  found_low : (k : ℕ) (g : Help) → k < c.start.layout.workers → c.help k ≡ Some g → g.generation ≤ now.generation
  found_low k g b' is = let f = inv.helps.finds k g b' is in let low = (inv.finds.controls k f.0 b' f.1).low in let same = f.2.same in omega arith

  sealed : IsSealed (ending_of c) c.words.pin.epoch
  sealed = inv.ends.pinned named

  ends_next : Ends (record (ending_of c) { control = next })
  ends_next = record {
    opened = λ g q head from upto is. ⊎_elim (λ (less : g < now.generation + 1). inv.ends.opened g q head from (omega arith) is)
        (λ (top : now.generation + 1 ≤ g). let same : g ≡ now.generation + 1 = omega arith in let p = (prepared q head (subst (λ m. IsHeadIn m (c.shape m) q) same is)).0 in omega arith)
        (below_or_not g (now.generation + 1));
    loaded = inv.ends.loaded;
    sealed = λ k g m b' is _ same. absurd (let low = found_low k g b' is in omega arith);
    low = (let is = named in omega arith);
    high = λ _. (let is = named in omega arith);
    pinned = λ is. absurd (let at = named in omega arith);
    past = λ _ _. past;
    pins = λ k g p b' is has. let was = inv.ends.pins k g p b' is has in record {
      next = was.next;
      now = λ same. absurd (let low = found_low k g b' is in omega arith);
      past = λ _. ⊎_elim (λ (less : g.generation < now.generation). was.past less)
          (λ (top : now.generation ≤ g.generation). let low = found_low k g b' is in let same : g.generation ≡ now.generation = omega arith in let e = ap (λ (z : Pin). z.epoch) (was.now same) in let l = past in omega arith)
          (below_or_not g.generation now.generation);
    };
    older = λ k w s b' is sees _. let top = sealed.walks k w s b' is sees in let l = past in omega arith;
  }

  finish_inv : Inv (table_opened c now)
  finish_inv = frame_control c next inv
      record {
        is_control = spelled_word;
        is_current = inv.spelled.is_current;
        is_pin = inv.spelled.is_pin;
        heads = inv.spelled.heads;
        links = inv.spelled.links;
        twins = inv.spelled.twins;
        events = inv.spelled.events;
      }
      record {
        controls = λ k x b' is. fits_on x (inv.finds.controls k x b' is);
        currents = inv.finds.currents;
        sights = λ k s b' is. let was = inv.finds.sights k s b' is in (fits_on s.table was.0, was.1);
        views = inv.finds.views;
      }
      record {
        now = fits_next;
        heads = λ q head. let low = inv.sizes.heads q head in let is = newest_is in omega arith;
        rows = λ r row out. let low = inv.sizes.rows r row out in let is = newest_is in omega arith;
      }
      record {
        settles = λ k d b' is. let was = inv.dues.settles k d b' is in record { generation = (let low = was.generation in omega arith); shift = was.shift; width = was.width; event = was.event };
        copies = λ k d b' is. let was = inv.dues.copies k d b' is in ((let low = was.0 in let at = newest_is in omega arith), was.1);
        named = λ k d b' is. let was = inv.dues.named k d b' is in ((let low = was.0 in let at = newest_is in omega arith), was.1);
      }
      (steady_moves _ _ _ _ _ (moves_so c inv moves))
      heads_next
      record {
        mark = inv.marks.mark;
        first = inv.marks.first;
        bare = inv.marks.bare;
        aged = λ r row out is. let low = inv.marks.aged r row out is in let at = newest_is in omega arith;
      }
      (walkers_current (present_of c) (takes_of c) _ _ next.generation c.words.current (λ k s b' sees _ same. absurd (let low = (inv.finds.sights k s b' sees).0.low in omega arith)) inv.walkers)
      record {
        tables = (let top = inv.bounds.tables in let is = newest_is in omega arith);
        opened = (let was = inv.bounds.opened in let is = newest_is in omega arith);
        left = (let top = inv.bounds.left in let none = coming_steady next c.words.current c.words.pin refl in omega arith);
        entries = (let top = inv.bounds.entries in let none = coming_steady next c.words.current c.words.pin refl in omega arith);
        owed = inv.bounds.owed;
      }
      record { finds = inv.helps.finds; passed = λ k g b' is same. absurd (let low = found_low k g b' is in omega arith) }
      record { bare = λ is. absurd (false≢true is) }
      ends_next

-- Finish
pub finish_keeps : (c : Core) (j : ℕ) (x : Control) (h : Help) (n : Pin) (y : Current) → j < c.start.layout.workers → MayFinish x h n y (caller_of c j) → c.words.control ≡ x → Inv c → Inv (table_opened c x)
finish_keeps c j x h n y b may is inv = subst (λ (z : Control). MayFinish z h n y (caller_of c j) → Inv (table_opened c z)) is (λ m. finish_inv c inv j b h n y m) may
