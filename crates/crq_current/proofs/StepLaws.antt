-- What a step on current leaves of a pass.
use Rattle.std.proofs.Common.{◌≡◌, ℕ, ◌+◌, ◌*◌, ◌/◌, ◌%◌, ◌^◌, ◌<◌, ◌≤◌, nat_lt, ◌==◌, cond, Bool, true, false, None, inl, refl, sym, ap, ◌∙◌, subst, arith, le_refl}
use Rattle.std.proofs.Math.Nat.{mod-eq_of_lt}
use Rattle.std.proofs.lemmas.Nat.{pow_below}
use Rattle.crq_base.specs.declared.kinds.StepKind.TheVariants.{CurrentLoad, SettleLoad, Settle, Raise}
use Rattle.crq_base.specs.declared.words.Control.{Control}
use Rattle.crq_base.specs.declared.words.Current.{Current}
use Rattle.crq_base.specs.Words.{IsControl, IsCurrent, current_word}
use Rattle.crq_base.proofs.WordLaws.{current_one}
use Rattle.std.specs.VecDeque.{deque_capacity}
use Rattle.crq_rule.specs.declared.debts.Debts.{Debts}
use Rattle.crq_rule.specs.declared.debts.SettleDebt.{SettleDebt}
use Rattle.crq_rule.specs.declared.pass.Pass.{Pass}
use Rattle.crq_rule.specs.declared.pass.Table.{Table}
use Rattle.crq_rule.specs.Parts.{NotAfter}
use Rattle.crq_rule.specs.Places.{index, current}
use Rattle.crq_rule.specs.Kinds.{makes}
use Rattle.crq_rule.specs.CurrentKinds.{next_position, raises, lies_ahead, settles, settles_back, loads_current, loads_owed, owed_position, owed_shape}
use Rattle.crq_rule.specs.Moves.{FoundCurrent, FoundOwed, Lawful, wins}
use Rattle.crq_rule.specs.declared.view.Caller.{Caller}
use Rattle.crq_rule.specs.Ranks.{bucket, first_tick, shape_of}
use Rattle.crq_rule.proofs.BucketLaws.{tick_low}
use Rattle.crq_rule.proofs.Placing.{within}
use Rattle.crq_rows.specs.Passes.{caller, IsSeated, IsOwed, IsPassOf, StaysAside, Turned, Turns, Exchanged, Exchanges, load_made, step_made}
use Rattle.crq_current.specs.Positions.{Viewed, Raised, ViewedOwed, SettledBack}

-- current is a word of the table
pub current_below : (table : Table) (w : ℕ) → w ≡ index table.start.layout current → w < table.inner.shared.table_id.words
current_below table w is = let wide = table.wide in let low = within table.start.layout current tt in omega arith

-- the position that was found is the one that the word spells
pub viewed : (table : Table) (old new : Pass) (walks : Bool) (word found : ℕ) (y : Current) → word ≡ index table.start.layout current → IsCurrent y → current_word y ≡ found
    → Turned table old new (load_made CurrentLoad word found) (FoundCurrent walks found) → Viewed table old new walks y
viewed table old new walks word found y at bits spells t = let w = t.after.1 in subst (Viewed table old new walks) (current_one w.current y w.is_current bits (w.word ∙ sym spells)) record {
  is = t.is;
  same = t.same;
  is_current = w.is_current;
  part = t.after.2 ∙ (λ i. makes (load_made CurrentLoad (at i) (sym w.word i)) (sym w.after i));
  later = w.later;
  seen = w.seen;
}

-- what the pass has at run time still agrees after an exchange of current, won or not
pub raised_aside : (expected found : ℕ) (p : Caller) → Lawful p → StaysAside p (wins expected raises found p)
raised_aside expected found p law = go (found == expected)
  where
    go : (b : Bool) → StaysAside p (cond b (raises p) p)
    go true = record { hand = refl; debts = inl refl }
    go false = record { hand = refl; debts = inl refl }

-- what an exchange of current was, as its words were spelled
pub raised : (table : Table) (old new : Pass) (x : Control) (y : Current) (word from to found : ℕ) → word ≡ index table.start.layout current → from ≡ current_word y → to ≡ current_word (next_position x y)
    → Exchanged table old new (step_made Raise word from to found) (wins (current_word y) raises found) → Raised table old new x y (found == from)
raised table old new x y word from to found at is_from is_to step = record {
  is = step.is;
  same = step.same;
  turns = step.turns;
  found = found;
  won_is = ap (λ z. found == z) (sym is_from);
  part = step.part ∙ (λ i. makes (step_made Raise (at i) (is_from i) (is_to i) found) (cond (found == sym is_from i) (raises (caller table old)) (caller table old)));
}

-- the first tick of the next bucket, as shifts of 64 bits give it
pub next_number : (x : Control) (y : Current) → IsControl x → y.tick < 2 ^ 32 → (y.tick / 2 ^ x.shift + 1) * 2 ^ x.shift % 2 ^ 64 ≡ (next_position x y).tick
unfolding bucket first_tick
next_number x y bits low = let start = tick_low (shape_of x) (y.tick / 2 ^ x.shift) y.tick (le_refl _) in let wide = pow_below x.shift 32 (let s = bits.shift in omega arith) in mod-eq_of_lt (omega arith)

-- a pass that settled its event, or did not, agrees with what is known of its caller

settled_owed : (b : Bool) (d : SettleDebt) (run : Debts) (p : Caller) → IsOwed run p.debts → IsOwed (cond b (record run { settle = None }) run) (cond b (settles_back d p) p).debts
settled_owed true d run p o = record { settle = inl refl; copy = o.copy; names = o.names }
settled_owed false d run p o = o

settled_hand : (b : Bool) (d : SettleDebt) (p : Caller) → (cond b (settles_back d p) p).hand ≡ p.hand
settled_hand true d p = refl
settled_hand false d p = refl

-- the same where the load left nothing but current known
loaded_owed : (b : Bool) (d : SettleDebt) (y : Current) (run : Debts) (p : Caller) → IsOwed run p.debts → IsOwed (cond b (record run { settle = None }) run) (cond b (settles d p) (loads_current false y p)).debts
loaded_owed true d y run p o = record { settle = inl refl; copy = o.copy; names = o.names }
loaded_owed false d y run p o = o

loaded_hand : (b : Bool) (d : SettleDebt) (y : Current) (p : Caller) → (cond b (settles d p) (loads_current false y p)).hand ≡ p.hand
loaded_hand true d y p = refl
loaded_hand false d y p = refl

-- a pass whose debts follow what is known of its caller
follows : (table : Table) (old mid new : Pass) → IsPassOf table old → IsSeated table mid → Lawful (caller table mid) → mid.free ≡ old.free → new ≡ record mid { debts = new.debts } → (caller table new).hand ≡ (caller table old).hand
    → IsOwed new.debts (caller table new).debts → IsPassOf table new
follows table old mid new of sits law free same hand owed = record {
  sits = subst (IsSeated table) (sym same) record { seated = sits.seated; bare = sits.bare; one = sits.one; numbered = sits.numbered; inside = sits.inside; started = sits.started };
  lawful = subst Lawful (sym (ap (caller table) same)) law;
  free = ap (λ (q : Pass). q.free.items) same ∙ (ap (λ z. z.items) free ∙ (of.free ∙ sym hand));
  room = subst (λ z. table.start.layout.home ≤ deque_capacity z) (sym (ap (λ (q : Pass). q.free) same ∙ free)) of.room;
  debts = owed;
}

module _ (table : Table) (old mid new : Pass) (d : SettleDebt) (y : Current) (word found : ℕ) (won : Bool) where
  pub viewed_owed : IsPassOf table old → word ≡ index table.start.layout current → IsCurrent y → current_word y ≡ found → won ≡ lies_ahead d y
      → Turns table old mid (load_made SettleLoad word found) (FoundOwed d found) → new ≡ record mid { debts = new.debts } → new.debts ≡ cond won (record mid.debts { settle = None }) mid.debts → ViewedOwed table old new d y won
  viewed_owed of at bits spells is t same debts = let p : Caller = caller table old in let w = t.after.1 in
      let here : w.current ≡ y = current_one w.current y w.is_current bits (w.word ∙ sym spells) in
      let part : caller table new ≡ makes (load_made SettleLoad (index table.start.layout current) (current_word y)) (loads_owed d y p) = ap (caller table) same
      ∙ (t.after.2 ∙ (λ i. makes (load_made SettleLoad (at i) (sym spells i)) ((sym w.after ∙ ap (λ z. loads_owed d z p) here) i))) in
      let debts' : new.debts ≡ cond won (record old.debts { settle = None }) old.debts = debts ∙ ap (λ (q : Pass). cond won (record q.debts { settle = None }) q.debts) t.same in record {
        is = follows table old mid new of t.sits t.lawful (ap (λ (q : Pass). q.free) t.same) same (ap (λ (q : Caller). q.hand) part ∙ loaded_hand (lies_ahead d y) d y p)
            (subst (λ (z : Debts × Debts). IsOwed z.0 z.1) (λ i. ((ap (λ b. cond b (record old.debts { settle = None }) old.debts) (sym is) ∙ sym debts') i, sym (ap (λ (q : Caller). q.debts) part) i)) (loaded_owed (lies_ahead d y) d y old.debts p of.debts));
        same = same ∙ ap (λ (q : Pass). record q { debts = new.debts }) t.same ∙ (λ i. record old { seat = sym (ap (λ (q : Pass). q.seat) same) i; debts = new.debts });
        debts = debts';
        is_current = bits;
        ahead_is = is;
        part = part;
        later = λ x found. subst (NotAfter x) here (w.later x found);
      }

  pub settled_back : (from to : ℕ) → IsPassOf table old → word ≡ index table.start.layout current → from ≡ current_word y → to ≡ current_word (owed_position d y) → (found == from) ≡ won
      → Exchanges table old mid (step_made Settle word from to found) (wins (current_word y) (settles_back d) found) → new ≡ record mid { debts = new.debts } → new.debts ≡ cond won (record mid.debts { settle = None }) mid.debts → SettledBack table old new d y won
  settled_back from to of at is_from is_to how step same debts = let p : Caller = caller table old in let how' : (found == current_word y) ≡ won = ap (λ z. found == z) (sym is_from) ∙ how in
      let part : caller table new ≡ makes (step_made Settle (index table.start.layout current) (current_word y) (current_word (owed_position d y)) found) (cond won (settles_back d p) p) = ap (caller table) same
      ∙ (step.part ∙ (λ i. makes (step_made Settle (at i) (is_from i) (is_to i) found) (cond (how' i) (settles_back d p) p))) in
      let debts' : new.debts ≡ cond won (record old.debts { settle = None }) old.debts = debts ∙ ap (λ (q : Pass). cond won (record q.debts { settle = None }) q.debts) step.same in record {
        is = follows table old mid new of step.sits step.lawful (ap (λ (q : Pass). q.free) step.same) same (ap (λ (q : Caller). q.hand) part ∙ settled_hand won d p)
            (subst (λ (z : Debts × Debts). IsOwed z.0 z.1) (λ i. (sym debts' i, sym (ap (λ (q : Caller). q.debts) part) i)) (settled_owed won d old.debts p of.debts));
        same = same ∙ ap (λ (q : Pass). record q { debts = new.debts }) step.same ∙ (λ i. record old { seat = sym (ap (λ (q : Pass). q.seat) same) i; turns = sym (ap (λ (q : Pass). q.turns) same) i; debts = new.debts });
        turns = ap (λ (q : Pass). q.turns) same ∙ step.turns;
        debts = debts';
        found = found;
        won_is = how';
        part = part;
      }

-- buckets and their first ticks, as shifts of 32 bits give them

pub ahead_number : (d : SettleDebt) (y : Current) → nat_lt (y.tick / 2 ^ d.shift) (d.event.time / 2 ^ d.shift) ≡ lies_ahead d y
unfolding bucket
ahead_number d y = refl

pub owed_number : (d : SettleDebt) (y : Current) → d.event.time < 2 ^ 32 → d.event.time / 2 ^ d.shift * 2 ^ d.shift % 2 ^ 32 ≡ (owed_position d y).tick
unfolding bucket first_tick
owed_number d y low = let start = tick_low (owed_shape d) (d.event.time / 2 ^ d.shift) d.event.time (le_refl _) in mod-eq_of_lt (omega arith)
