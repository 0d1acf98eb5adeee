-- Two places have two numbers, so a change of one word leaves the others.
use Rattle.std.proofs.Common.{◌≡◌, ◌≢◌, ℕ, ◌<◌, List, get_or, set, sym, refl, ap, ◌∙◌, subst, arith, length-set, get_or-set_same, get_or-set_other}
use mathlib.Core.Logic.{dite}
use native.Mathlib.Decide.{ℕ_discrete}
use Rattle.crq_base.specs.declared.words.Control.{Control}
use Rattle.crq_base.specs.declared.words.Current.{Current}
use Rattle.crq_base.specs.Words.{control_word, current_word}
use Rattle.crq_rule.specs.declared.layout.Layout.{Layout}
use Rattle.crq_rule.specs.Lists.{put}
use Rattle.crq_rule.specs.Places.{Words, Place, spare, between, epoch, announced, control, current, pin, head, link, stamp, twin, time, source, sequence, load, index, IsPlace, IsRow, word_of, Shows}
use Rattle.crq_rule.specs.Widths.{width}
use Rattle.crq_rule.proofs.Puts.{put_here, put_else}

pub one_place : (l : Layout) (p q : Place) → IsPlace l p → IsPlace l q → index l p ≡ index l q → p ≡ q
one_place l spare spare v w e = refl
one_place l (between k i) (between m n) v w e = let same : k ≡ m = omega arith in let at : i ≡ n = omega arith in λ z. between (same z) (at z)
one_place l epoch epoch v w e = refl
one_place l (announced j) (announced k) v w e = ap announced (omega arith)
one_place l control control v w e = refl
one_place l current current v w e = refl
one_place l pin pin v w e = refl
one_place l (head q) (head p) v w e = ap head (omega arith)
one_place l (link r) (link s) v w e = ap link (omega arith)
one_place l (stamp r) (stamp s) v w e = ap stamp (omega arith)
one_place l (twin r) (twin s) v w e = ap twin (omega arith)
one_place l (time r) (time s) v w e = ap time (omega arith)
one_place l (source r) (source s) v w e = ap source (omega arith)
one_place l (sequence r) (sequence s) v w e = ap sequence (omega arith)
one_place l (load r) (load s) v w e = ap load (omega arith)
one_place l p q v w e = absurd (omega arith)

pub within : (l : Layout) (p : Place) → IsPlace l p → index l p < width l
within l spare v = omega arith
within l p v = omega arith

-- the word at p changes to a, and all others stay
pub shows_set : (l : Layout) (w w' : Words) (ws : List ℕ) (p : Place) (a : ℕ) → IsPlace l p → word_of w' p ≡ a → ((q : Place) → q ≢ p → word_of w' q ≡ word_of w q) → Shows l w ws → Shows l w' (set ws (index l p) a)
shows_set l w w' ws p a v new same old = let wide = old.wide in let i = within l p v in record {
  wide = length-set ws (index l p) a ∙ old.wide;
  each = λ q u. dite (ℕ_discrete (index l q) (index l p))
      (λ e. let is = one_place l q p u v e in subst (λ z. get_or (set ws (index l p) a) (index l z) 0 ≡ word_of w' z) (sym is) (get_or-set_same ws (index l p) a 0 (omega arith) ∙ sym new))
      (λ ne. get_or-set_other ws (index l p) (index l q) a 0 ne ∙ (old.each q u ∙ sym (same q (λ e. ne (ap (index l) e)))));
}

same_epoch : (w : Words) (e : ℕ) (q : Place) → q ≢ epoch → word_of (record w { epoch = e }) q ≡ word_of w q
same_epoch w e epoch ne = absurd (ne refl)
same_epoch w e q ne = refl

pub epoch_set : (l : Layout) (w : Words) (ws : List ℕ) (e : ℕ) → Shows l w ws → Shows l (record w { epoch = e }) (set ws (index l epoch) e)
epoch_set l w ws e = shows_set l w (record w { epoch = e }) ws epoch e tt refl (same_epoch w e)

same_control : (w : Words) (x : Control) (q : Place) → q ≢ control → word_of (record w { control = x }) q ≡ word_of w q
same_control w x control ne = absurd (ne refl)
same_control w x q ne = refl

pub control_set : (l : Layout) (w : Words) (ws : List ℕ) (x : Control) → Shows l w ws → Shows l (record w { control = x }) (set ws (index l control) (control_word x))
control_set l w ws x = shows_set l w (record w { control = x }) ws control (control_word x) tt refl (same_control w x)

same_current : (w : Words) (x : Current) (q : Place) → q ≢ current → word_of (record w { current = x }) q ≡ word_of w q
same_current w x current ne = absurd (ne refl)
same_current w x q ne = refl

pub current_set : (l : Layout) (w : Words) (ws : List ℕ) (x : Current) → Shows l w ws → Shows l (record w { current = x }) (set ws (index l current) (current_word x))
current_set l w ws x = shows_set l w (record w { current = x }) ws current (current_word x) tt refl (same_current w x)

same_announced : (w : Words) (j a : ℕ) (q : Place) → q ≢ announced j → word_of (record w { announced = put w.announced j a }) q ≡ word_of w q
same_announced w j a (announced k) ne = put_else w.announced j a k (λ e. ne (ap announced e))
same_announced w j a q ne = refl

pub announced_set : (l : Layout) (w : Words) (ws : List ℕ) (j a : ℕ) → j < l.workers → Shows l w ws → Shows l (record w { announced = put w.announced j a }) (set ws (index l (announced j)) a)
announced_set l w ws j a b = shows_set l w (record w { announced = put w.announced j a }) ws (announced j) a b (put_here w.announced j a) (same_announced w j a)

same_stamp : (w : Words) (r a : ℕ) (q : Place) → q ≢ stamp r → word_of (record w { stamp = put w.stamp r a }) q ≡ word_of w q
same_stamp w r a (stamp s) ne = put_else w.stamp r a s (λ e. ne (ap stamp e))
same_stamp w r a q ne = refl

pub stamp_set : (l : Layout) (w : Words) (ws : List ℕ) (r a : ℕ) → IsRow l r → Shows l w ws → Shows l (record w { stamp = put w.stamp r a }) (set ws (index l (stamp r)) a)
stamp_set l w ws r a b = shows_set l w (record w { stamp = put w.stamp r a }) ws (stamp r) a b (put_here w.stamp r a) (same_stamp w r a)
