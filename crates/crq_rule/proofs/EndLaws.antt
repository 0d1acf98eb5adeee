-- How the part on the end of a move stays.
use Rattle.std.proofs.Common.{◌≡◌, ◌⊎◌, ⊎_elim, inl, inr, cond, Bool, true, false, ◌&&◌, ◌==◌, ℕ, ◌+◌, ◌<◌, ◌≤◌, List, Option, Some, None, sym, refl, ap, ◌∙◌, subst, arith, le_refl}
use Rattle.std.proofs.lemmas.Bool.{false≢true, eqb-true, cond_both}
use Rattle.std.proofs.lemmas.Option.{same_Some}
use Rattle.crq_base.specs.declared.words.Link.{Link}
use Rattle.crq_base.specs.declared.words.Mark.{Mark}
use Rattle.crq_base.specs.declared.words.Mark.TheVariants.{Val, Inv as Invalid, Mov, Del}
use Rattle.crq_base.specs.declared.words.Control.{Control}
use Rattle.crq_base.specs.declared.words.Current.{Current}
use Rattle.crq_base.specs.declared.words.Pin.{Pin}
use Rattle.crq_rule.specs.declared.view.Help.{Help}
use Rattle.crq_rule.specs.declared.view.Sight.{Sight}
use Rattle.crq_rule.specs.declared.view.Stand.{Stand}
use Rattle.crq_rule.specs.declared.view.Walk.{Walk}
use Rattle.crq_rule.specs.Lists.{put}
use Rattle.crq_rule.specs.Places.{IsHead}
use Rattle.crq_rule.specs.Core.{Core}
use Rattle.crq_rule.specs.Ranks.{Cell, at_head, at_row, link_at}
use Rattle.crq_rule.specs.ListParts.{IsOldHead}
use Rattle.crq_rule.specs.Ending.{Ending, IsSealed, IsPinOf, Ends}
use Rattle.crq_rule.specs.Invariant.{ending_of, Inv}
use Rattle.crq_rule.specs.Helping.{new_help, help_of, help_after, passes_head, helped_by}
use Rattle.crq_rule.specs.ListKinds.{Aim, is_val, is_take, begins_walk, new_walk, head_walk, walked, walk_after, MayWalk}
use Rattle.crq_rule.proofs.HeadLaws.{present_old}
use Rattle.crq_rule.proofs.Puts.{put_else, put_all}

-- A helper as it was, as far as the end of its move goes, or one that knows nothing of that
abbrev pub IsAsBefore : Option Help → Help → Type 0
IsAsBefore o h = ((g : Help) × (o ≡ Some g) × (h.generation ≡ g.generation) × (h.epoch ≡ g.epoch) × (h.pin ≡ g.pin)) ⊎ ((h.epoch ≡ None) × (h.pin ≡ None))

-- Heads get no older, those of the open table that are frozen stay so, current's epoch isn't less, each take that walks did so before with the same sight, and helpers know no more of the move's end
pub record GoesOn (e : Ending) (head : ℕ → Link) (current : Current) (sight : ℕ → Option Sight) (walk : ℕ → Option Walk) (help : ℕ → Option Help) : Type 0 where
  pub opened : (q : ℕ) → IsHead q → (e.head q).generation ≤ (head q).generation
  pub frozen : (q : ℕ) → IsHead q → IsOldHead e.control e.shape q → (e.head q).mark ≡ Mov → (head q).mark ≡ Mov
  pub epoch : e.current.epoch ≤ current.epoch
  pub walks : (k : ℕ) (w : Walk) (s : Sight) → k < e.start.layout.workers → walk k ≡ Some w → sight k ≡ Some s → ((v : Walk) × (e.walk k ≡ Some v)) × (e.sight k ≡ Some s)
  pub helps : (k : ℕ) (h : Help) → k < e.start.layout.workers → help k ≡ Some h → IsAsBefore (e.help k) h

none_some : {A : Type 0} (o : Option A) (a : A) → o ≡ None → o ≡ Some a → ⊥
none_some o a n s = absurd (let e = sym n ∙ s in cc)

module _ (e : Ending) (head : ℕ → Link) (current : Current) (sight : ℕ → Option Sight) (walk : ℕ → Option Walk) (help : ℕ → Option Help) (goes : GoesOn e head current sight walk help) (old : Ends e) where
  abbrev now : Ending
  now = record e { head = head; current = current; sight = sight; walk = walk; help = help }

  sealed_on : (n : ℕ) → IsSealed e n → IsSealed now n
  sealed_on n was = record {
    frozen = λ q b o. goes.frozen q b o (was.frozen q b o);
    walks = λ k w s b is sees. let v = goes.walks k w s b is sees in was.walks k v.0.0 s b v.0.1 v.1;
    low = let a = was.low in let c = goes.epoch in omega arith;
  }

  pub ends_on : Ends now
  ends_on = record {
    opened = λ g q b first low is. let a = old.opened g q b first low is in let c = goes.opened q b in omega arith;
    loaded = λ k h n b is loads. ⊎_elim
        (λ (a : (g : Help) × (e.help k ≡ Some g) × (h.generation ≡ g.generation) × (h.epoch ≡ g.epoch) × (h.pin ≡ g.pin)). let low = old.loaded k a.0 n b a.1 (sym a.3 ∙ loads) in let c = goes.epoch in omega arith)
        (λ none. absurd (none_some h.epoch n none.0 loads)) (goes.helps k h b is);
    sealed = λ k h n b is loads same. ⊎_elim
        (λ (a : (g : Help) × (e.help k ≡ Some g) × (h.generation ≡ g.generation) × (h.epoch ≡ g.epoch) × (h.pin ≡ g.pin)). sealed_on n (old.sealed k a.0 n b a.1 (sym a.3 ∙ loads) (sym a.2 ∙ same)))
        (λ none. absurd (none_some h.epoch n none.0 loads)) (goes.helps k h b is);
    low = old.low;
    high = old.high;
    pinned = λ is. sealed_on e.pin.epoch (old.pinned is);
    past = λ some low. let a = old.past some low in let c = goes.epoch in omega arith;
    pins = λ k h p b is has. ⊎_elim
        (λ (a : (g : Help) × (e.help k ≡ Some g) × (h.generation ≡ g.generation) × (h.epoch ≡ g.epoch) × (h.pin ≡ g.pin)). let was = old.pins k a.0 p b a.1 (sym a.4 ∙ has) in record {
          next = was.next ∙ ap (λ n. n + 1) (sym a.2);
          now = λ same. was.now (sym a.2 ∙ same);
          past = λ low. let c = goes.epoch in let same = a.2 in let d = was.past (omega arith) in omega arith;
        })
        (λ none. absurd (none_some h.pin p none.1 has)) (goes.helps k h b is);
    older = λ k w s b is sees low. let v = goes.walks k w s b is sees in let a = old.older k v.0.0 s b v.0.1 v.1 low in let c = goes.epoch in omega arith;
  }

-- Where one helper comes to know more

-- what the part says of one helper
pub record IsEnding (e : Ending) (h : Help) : Type 0 where
  pub loaded : (n : ℕ) → h.epoch ≡ Some n → n ≤ e.current.epoch
  pub sealed : (n : ℕ) → h.epoch ≡ Some n → h.generation ≡ e.control.generation → IsSealed e n
  pub pins : (p : Pin) → h.pin ≡ Some p → IsPinOf e h p

pub ending_is : (e : Ending) → Ends e → (k : ℕ) (h : Help) → k < e.start.layout.workers → e.help k ≡ Some h → IsEnding e h
ending_is e old k h b is = record { loaded = λ n. old.loaded k h n b is; sealed = λ n. old.sealed k h n b is; pins = λ p. old.pins k h p b is }

pub ends_helped : (e : Ending) (help : ℕ → Option Help) → ((k : ℕ) (h : Help) → k < e.start.layout.workers → help k ≡ Some h → IsEnding e h) → Ends e → Ends (record e { help = help })
ends_helped e help each old = record {
  opened = old.opened;
  loaded = λ k h n b is. (each k h b is).loaded n;
  sealed = λ k h n b is loads same. let s = (each k h b is).sealed n loads same in record { frozen = s.frozen; walks = s.walks; low = s.low };
  low = old.low;
  high = old.high;
  pinned = λ is. let s = old.pinned is in record { frozen = s.frozen; walks = s.walks; low = s.low };
  past = old.past;
  pins = λ k h p b is has. let was = (each k h b is).pins p has in record { next = was.next; now = was.now; past = was.past };
  older = old.older;
}

-- What stays of a helper

pub as_before : (o : Option Help) (h : Help) → o ≡ Some h → IsAsBefore o h
as_before o h is = inl (h, is, refl, refl, refl)

-- a helper that goes on, or a new one
after_help : (g : ℕ) (o : Option Help) → IsAsBefore o (help_of g o)
after_help g None = inr (refl, refl)
after_help g (Some h) = cond_both (h.generation == g) h (new_help g) (IsAsBefore (Some h)) (λ _. as_before (Some h) h refl) (λ _. inr (refl, refl))

pub told_before : (x : Control) (o : Option Help) (h : Help) → help_after x o ≡ Some h → IsAsBefore o h
told_before x o h = cond_both x.moving (Some (help_of x.generation o)) None (λ p. p ≡ Some h → IsAsBefore o h) (λ _ is. subst (IsAsBefore o) (same_Some (help_of x.generation o) h is) (after_help x.generation o)) (λ _ is. absurd (none_some None h refl is))

pub passed_before : (f : Option Control) (j : ℕ) (cell : Cell) (l : Link) (o : Option Help) (h : Help) → helped_by f j cell l o ≡ Some h → IsAsBefore o h
passed_before None j cell l o h is = as_before o h is
passed_before (Some x) j cell l None h is = absurd (none_some None h refl is)
passed_before (Some x) j (at_head q) l (Some g) h is = inl (g, refl, ap (λ (z : Help). z.generation) (sym (same_Some (passes_head x j q l g) h is)), ap (λ (z : Help). z.epoch) (sym (same_Some (passes_head x j q l g) h is)), ap (λ (z : Help). z.pin) (sym (same_Some (passes_head x j q l g) h is)))
passed_before (Some x) j (at_row r) l (Some g) h is = as_before (Some g) h is

-- of all helpers, where one changes so
pub helps_before : (n : ℕ) (help : ℕ → Option Help) (j : ℕ) (o : Option Help) → ((h : Help) → o ≡ Some h → IsAsBefore (help j) h) → (k : ℕ) (h : Help) → k < n → put help j o k ≡ Some h → IsAsBefore (help k) h
helps_before n help j o was k h b = put_all help j o (λ k p. p ≡ Some h → IsAsBefore (help k) h) (was h) (λ k _. as_before (help k) h) k

-- What the steps of other concerns change

module _ (c : Core) (inv : Inv c) where
  abbrev WereWalks : (ℕ → Option Sight) → (ℕ → Option Walk) → Type 0
  WereWalks sight walk = (k : ℕ) (w : Walk) (s : Sight) → k < c.start.layout.workers → walk k ≡ Some w → sight k ≡ Some s → ((v : Walk) × (c.walk k ≡ Some v)) × (c.sight k ≡ Some s)

  abbrev WereHelps : (ℕ → Option Help) → Type 0
  WereHelps help = (k : ℕ) (h : Help) → k < c.start.layout.workers → help k ≡ Some h → IsAsBefore (c.help k) h

  pub same_walks : WereWalks c.sight c.walk
  same_walks k w s _ is sees = ((w, is), sees)

  pub same_helps : WereHelps c.help
  same_helps k h _ is = as_before (c.help k) h is

  -- a walk ends, or goes on
  pub walks_on : (j : ℕ) (o : Option Walk) → ((w : Walk) → o ≡ Some w → (v : Walk) × (c.walk j ≡ Some v)) → WereWalks c.sight (put c.walk j o)
  walks_on j o was k w s b is sees = (put_all c.walk j o (λ k p. p ≡ Some w → (v : Walk) × (c.walk k ≡ Some v)) (was w) (λ k _ is. (w, is)) k is, sees)

  pub walks_end : (j : ℕ) → WereWalks c.sight (put c.walk j None)
  walks_end j = walks_on j None (λ w is. absurd (none_some None w refl is))

  -- and its take may see another table then
  pub walks_anew : (j : ℕ) (o : Option Sight) → WereWalks (put c.sight j o) (put c.walk j None)
  walks_anew j o k w s b = put_all c.walk j None (λ k p. p ≡ Some w → put c.sight j o k ≡ Some s → ((v : Walk) × (c.walk k ≡ Some v)) × (c.sight k ≡ Some s)) (λ n _. absurd (none_some None w refl n))
      (λ k ne is sees. ((w, is), sym (put_else c.sight j o k ne) ∙ sees)) k

  pub helps_told : (j : ℕ) → WereHelps (put c.help j (help_after c.words.control (c.help j)))
  helps_told j = helps_before c.start.layout.workers c.help j (help_after c.words.control (c.help j)) (told_before c.words.control (c.help j))

  pub helps_passing : (j : ℕ) (cell : Cell) (l : Link) → WereHelps (put c.help j (helped_by (c.found j).control j cell l (c.help j)))
  helps_passing j cell l = helps_before c.start.layout.workers c.help j (helped_by (c.found j).control j cell l (c.help j)) (passed_before (c.found j).control j cell l (c.help j))

  -- takes and helpers alone
  pub ends_callers : (sight : ℕ → Option Sight) (walk : ℕ → Option Walk) (help : ℕ → Option Help) → WereWalks sight walk → WereHelps help → Ends (record (ending_of c) { sight = sight; walk = walk; help = help })
  ends_callers sight walk help walks helps = ends_on (ending_of c) c.words.head c.words.current sight walk help record { opened = λ _ _. le_refl _; frozen = λ _ _ _ m. m; epoch = le_refl _; walks = walks; helps = helps } inv.ends

  -- where walks end, or go on
  pub ends_walk : (walk : ℕ → Option Walk) → WereWalks c.sight walk → Ends (record (ending_of c) { walk = walk })
  ends_walk walk walks = ends_callers c.sight walk c.help walks same_helps

  -- current's epoch isn't less, and walks end
  pub ends_current : (current : Current) (walk : ℕ → Option Walk) → c.words.current.epoch ≤ current.epoch → WereWalks c.sight walk → Ends (record (ending_of c) { current = current; walk = walk })
  ends_current current walk low walks = ends_on (ending_of c) c.words.head current c.sight walk c.help record { opened = λ _ _. le_refl _; frozen = λ _ _ _ m. m; epoch = low; walks = walks; helps = same_helps } inv.ends

  -- heads get other rows, and walks end
  pub ends_heads : (head : ℕ → Link) (walk : ℕ → Option Walk) → ((q : ℕ) → ((head q).generation ≡ (c.words.head q).generation) × ((head q).mark ≡ (c.words.head q).mark)) → WereWalks c.sight walk → Ends (record (ending_of c) { head = head; walk = walk })
  ends_heads head walk same walks = ends_on (ending_of c) head c.words.current c.sight walk c.help record {
    opened = λ q _. let is = (same q).0 in omega arith;
    frozen = λ q _ _ m. (same q).1 ∙ m;
    epoch = le_refl _;
    walks = walks;
    helps = same_helps;
  } inv.ends

  -- a head is prepared or frozen by a helper
  pub ends_left : (head : ℕ → Link) (help : ℕ → Option Help) → ((q : ℕ) → IsHead q → (c.words.head q).generation ≤ (head q).generation) → ((q : ℕ) → IsHead q → IsOldHead c.words.control c.shape q → (c.words.head q).mark ≡ Mov → (head q).mark ≡ Mov)
      → WereHelps help → Ends (record (ending_of c) { head = head; help = help })
  ends_left head help opened frozen helps = ends_on (ending_of c) head c.words.current c.sight c.walk help record { opened = opened; frozen = frozen; epoch = le_refl _; walks = same_walks; helps = helps } inv.ends

-- A take that begins to walk does so at a head of the open table

val_mov : Val ≡ Mov → ⊥
val_mov e = cc

is_present : (m : Mark) → is_val m ≡ true → m ≡ Val
is_present Val is = refl
is_present Invalid is = absurd (false≢true is)
is_present Mov is = absurd (false≢true is)
is_present Del is = absurd (false≢true is)

both : (a b : Bool) → a && b ≡ true → (a ≡ true) × (b ≡ true)
both true b is = (refl, is)
both false b is = absurd (false≢true is)

begins_so : (aim : Aim) (q : ℕ) (s : Sight) (l : Link) (o : Option Walk) (ss : List Stand) (w : Walk) → head_walk aim q (Some s) l o ss ≡ Some w → (l.mark ≡ Val) × (l.generation ≡ s.table.generation)
begins_so aim q s l o ss w is = by_test (begins_walk s l) refl
  where
    by_test : (t : Bool) → begins_walk s l ≡ t → (l.mark ≡ Val) × (l.generation ≡ s.table.generation)
    by_test true at = let t = both (is_val l.mark) (l.generation == s.table.generation) at in (is_present l.mark t.0, eqb-true l.generation s.table.generation t.1)
    by_test false at = absurd (none_some _ w (ap (λ t. cond t (new_walk aim q s l o ss) None) at) is)

walked_some : (l : Link) (o : Option Walk) (w : Walk) → walked l o ≡ Some w → (v : Walk) × (o ≡ Some v)
walked_some l None w is = absurd (none_some None w refl is)
walked_some l (Some v) w is = (v, refl)

module _ (c : Core) (j : ℕ) (inv : Inv c) where
  -- a walk goes on, or begins where a present head is of the table that the take saw
  walk_was : (cell : Cell) (aim : Aim) (b : j < c.start.layout.workers) (w : Walk) (s : Sight) → walk_after cell aim (c.sight j) (link_at c.words.head c.words.link cell) (c.walk j) (c.rows j) ≡ Some w → c.sight j ≡ Some s
      → ((v : Walk) × (c.walk j ≡ Some v)) ⊎ ((q : ℕ) × (cell ≡ at_head q) × ((c.words.head q).mark ≡ Val) × ((c.words.head q).generation ≡ s.table.generation))
  walk_was (at_head q) aim b w s is sees = let h = begins_so aim q s (c.words.head q) (c.walk j) (c.rows j) w (sym (ap (λ o. head_walk aim q o (c.words.head q) (c.walk j) (c.rows j)) sees) ∙ is) in inr (q, refl, h.0, h.1)
  walk_was (at_row r) aim b w s is sees = by_aim (is_take aim) is
    where
      by_aim : (t : Bool) → cond t (walked (c.words.link r) (c.walk j)) None ≡ Some w → ((v : Walk) × (c.walk j ≡ Some v)) ⊎ ((q : ℕ) × (at_row r ≡ at_head q) × ((c.words.head q).mark ≡ Val) × ((c.words.head q).generation ≡ s.table.generation))
      by_aim true at = inl (walked_some (c.words.link r) (c.walk j) w at)
      by_aim false at = absurd (none_some None w refl at)

  abbrev walk_now : Cell → Aim → Option Walk
  walk_now cell aim = walk_after cell aim (c.sight j) (link_at c.words.head c.words.link cell) (c.walk j) (c.rows j)

  -- a take that begins to walk does so while the open table isn't sealed, and sees that table
  begins_now : (q : ℕ) (s : Sight) → IsHead q → j < c.start.layout.workers → c.sight j ≡ Some s → (c.words.head q).mark ≡ Val → (c.words.head q).generation ≡ s.table.generation
      → IsOldHead c.words.control c.shape q × (s.table.generation ≡ c.words.control.generation)
  begins_now q s head b sees val same = let low = (inv.finds.sights j s b sees).0.low in let o = present_old c.words.control c.shape c.words.head inv.heads q head val (omega arith) in let is = o.1 in (o.0, omega arith)

  pub ends_walked : (cell : Cell) (aim : Aim) → j < c.start.layout.workers → MayWalk (c.rows j) cell
      → Ends (record (ending_of c) { walk = put c.walk j (walk_now cell aim); help = put c.help j (helped_by (c.found j).control j cell (link_at c.words.head c.words.link cell) (c.help j)) })
  ends_walked cell aim b may = record {
    opened = old.opened;
    loaded = old.loaded;
    sealed = λ k h n bk is loads same. sealed_walk n (old.sealed k h n bk is loads same);
    low = old.low;
    high = old.high;
    pinned = λ is. sealed_walk c.words.pin.epoch (old.pinned is);
    past = old.past;
    pins = λ k h p bk is has. let was = old.pins k h p bk is has in record { next = was.next; now = was.now; past = was.past };
    older = λ k w s bk is sees low. walk_by k w s bk is sees (λ v was. old.older k v s bk was sees low) (λ at. absurd (let same = at.2 in omega arith));
  }
    where
      help' : ℕ → Option Help
      help' = put c.help j (helped_by (c.found j).control j cell (link_at c.words.head c.words.link cell) (c.help j))

      -- first as if no walk had changed
      old : Ends (record (ending_of c) { help = help' })
      old = ends_callers c inv c.sight c.walk help' (same_walks c inv) (helps_passing c inv j cell (link_at c.words.head c.words.link cell))

      -- each walk was there before, or has begun now
      walk_by : {P : Type 0} → (k : ℕ) (w : Walk) (s : Sight) → k < c.start.layout.workers → put c.walk j (walk_now cell aim) k ≡ Some w → c.sight k ≡ Some s → ((v : Walk) → c.walk k ≡ Some v → P)
          → ((q : ℕ) × (IsHead q × IsOldHead c.words.control c.shape q × ((c.words.head q).mark ≡ Val)) × (s.table.generation ≡ c.words.control.generation) → P) → P
      walk_by {P} k w s = put_all c.walk j (walk_now cell aim) (λ k o. k < c.start.layout.workers → o ≡ Some w → c.sight k ≡ Some s → ((v : Walk) → c.walk k ≡ Some v → P)
          → ((q : ℕ) × (IsHead q × IsOldHead c.words.control c.shape q × ((c.words.head q).mark ≡ Val)) × (s.table.generation ≡ c.words.control.generation) → P) → P)
          (λ bj is sees was new. ⊎_elim (λ v. was v.0 v.1)
          (λ (at : (q : ℕ) × (cell ≡ at_head q) × ((c.words.head q).mark ≡ Val) × ((c.words.head q).generation ≡ s.table.generation)). let head : IsHead at.0 = subst (MayWalk (c.rows j)) at.1 may in
          let o = begins_now at.0 s head bj sees at.2 at.3 in new (at.0, (head, o.0, at.2), o.1))
          (walk_was cell aim bj w s is sees))
          (λ k _ _ is sees was _. was w is) k

      sealed_walk : (n : ℕ) → IsSealed (record (ending_of c) { help = help' }) n → IsSealed (record (ending_of c) { walk = put c.walk j (walk_now cell aim); help = help' }) n
      sealed_walk n was = record {
        frozen = was.frozen;
        walks = λ k w s bk is sees. walk_by k w s bk is sees (λ v had. was.walks k v s bk had sees) (λ at. absurd (val_mov (sym at.1.2 ∙ was.frozen at.0 at.1.0 at.1.1)));
        low = was.low;
      }
