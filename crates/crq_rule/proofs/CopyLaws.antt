-- What the parts on copies say, and how they stay.
use Rattle.std.proofs.Common.{◌≡◌, ◌⊎◌, ⊎_elim, inl, inr, ℕ, ◌<◌, List, [], ◌++◌, Option, Some, None, refl, sym, ◌∙◌, subst}
use Rattle.crq_base.specs.declared.event.Event.{Event}
use Rattle.crq_base.specs.declared.entry.Entry.{Entry}
use Rattle.crq_base.specs.declared.entry.Entry.TheVariants.{Begin}
use Rattle.crq_base.specs.declared.words.Mark.TheVariants.{Mov}
use Rattle.crq_base.specs.Lists.{In}
use Rattle.crq_rule.specs.declared.debts.CopyDebt.{CopyDebt}
use Rattle.crq_rule.specs.declared.view.Guard.{Guard}
use Rattle.crq_rule.specs.declared.view.Stand.{Stand}
use Rattle.crq_rule.specs.Lists.{put}
use Rattle.crq_rule.specs.Core.{Core, Holding, in_hand, listed, cut_by, retired, IsOutside}
use Rattle.crq_rule.specs.Parts.{Ground, ground_of, IsGuarded}
use Rattle.crq_rule.specs.Copies.{IsListed, Rows, IsBound, IsCopying, Copies, Unlinked}
use Rattle.crq_rule.specs.ScarceParts.{WasOut}
use Rattle.crq_rule.specs.Invariant.{Inv}
use Rattle.crq_rule.proofs.Puts.{put_else, put_all}
use Rattle.crq_rule.proofs.CoverLaws.{names_covered, copy_footing, footing_covered, covered_guard, covered_less}
use Rattle.crq_rule.proofs.Pendings.{split_entry}

listed_hand : (q j : ℕ) → listed q ≡ in_hand j → ⊥
listed_hand q j e = cc

-- a listed row is in no hand
pub listed_out : (holding : ℕ → Holding) (r : ℕ) → IsListed holding r → IsOutside holding r
listed_out holding r is j held = listed_hand is.0 j (sym is.1 ∙ held)

-- the ground covers no more
pub copies_before : (rows : Rows) (ground ground' : Ground) → ((r : ℕ) → IsGuarded ground' r → IsGuarded ground r) → Copies rows ground → Copies rows ground'
copies_before rows ground ground' before old = record { bound = old.bound; one = old.one; owned = old.owned; apart = old.apart; alone = old.alone; left = λ r v. old.left r (before r v); debt = old.debt }

-- a caller that stands nowhere changes its guard
pub copies_guard : (rows : Rows) (ground : Ground) (j : ℕ) (g : Guard) → (j < ground.workers → ground.footing j ≡ []) → Copies rows ground → Copies rows (record ground { guard = put ground.guard j g })
copies_guard rows ground j g none = copies_before rows ground (record ground { guard = put ground.guard j g }) (λ r v. (v.0, v.1, covered_guard ground j g none v.0 v.1 r v.2))

-- no caller comes to stand on more rows
pub copies_less : (rows : Rows) (ground : Ground) (footing : ℕ → List ℕ) → ((k a : ℕ) → In a (footing k) → In a (ground.footing k)) → Copies rows ground → Copies rows (record ground { footing = footing })
copies_less rows ground footing less = copies_before rows ground (record ground { footing = footing }) (λ r v. (v.0, v.1, covered_less ground footing less v.0 v.1 r v.2))

-- both rows of a copy that a caller owes are covered
pub debt_guarded : (c : Core) → Inv c → (k : ℕ) (d : CopyDebt) → k < c.start.layout.workers → c.copying k ≡ Some d → IsGuarded (ground_of c) d.old × IsGuarded (ground_of c) d.copy
debt_guarded c inv k d b is = let at = copy_footing c.rows c.old c.copying k d is in let u = footing_covered (ground_of c) c.cut c.holding inv.cover k d.old b at.0 in
    let v = footing_covered (ground_of c) c.cut c.holding inv.cover k d.copy b at.1 in ((k, u.0, u.1), (k, v.0, v.1))

-- and so is the twin of a covered row
pub twin_guarded : (ground : Ground) (r : ℕ) → IsGuarded ground r → 0 < ground.twin r → IsGuarded ground (ground.twin r)
twin_guarded ground r v some = (v.0, v.1, names_covered ground v.0 v.1 r (ground.twin r) v.2 (some, inr refl))

cut_listed : (j q : ℕ) → cut_by j ≡ listed q → ⊥
cut_listed j q e = cc

retired_listed : (t q : ℕ) → retired t ≡ listed q → ⊥
retired_listed t q e = cc

cut_hand : (j i : ℕ) → cut_by j ≡ in_hand i → ⊥
cut_hand j i e = cc

hand_is : (h : Holding) → ((q : ℕ) × (h ≡ listed q)) ⊎ (((q : ℕ) × (h ≡ listed q)) → ⊥)
hand_is (in_hand j) = inr (λ h. listed_hand h.0 j (sym h.1))
hand_is (listed q) = inl (q, refl)
hand_is (cut_by j) = inr (λ h. cut_listed j h.0 h.1)
hand_is (retired t) = inr (λ h. retired_listed t h.0 h.1)

-- a row is listed, or isn't
pub listed_or : (holding : ℕ → Holding) (r : ℕ) → IsListed holding r ⊎ (IsListed holding r → ⊥)
listed_or holding r = hand_is (holding r)

-- a covered row that is frozen and has no copy is listed
pub moved_is : (c : Core) → Inv c → (r : ℕ) → IsGuarded (ground_of c) r → (c.words.link r).mark ≡ Mov → c.words.twin r ≡ 0 → (q : ℕ) × (c.holding r ≡ listed q)
moved_is c inv r v frozen bare = ⊎_elim (λ is. is) (λ out. absurd ((inv.copies.left r v frozen out).0 bare)) (listed_or c.holding r)

-- a row changes hands that isn't listed before or after
pub copies_held : (rows : Rows) (ground : Ground) (r : ℕ) (h : Holding) → (IsListed rows.holding r → ⊥) → ((q : ℕ) → h ≡ listed q → ⊥) → (((j : ℕ) → h ≡ in_hand j → ⊥) → IsOutside rows.holding r)
    → Copies rows ground → Copies (record rows { holding = put rows.holding r h }) ground
copies_held rows ground r h was now outside old = record {
  bound = λ o u b. let f = old.bound o u (bound_from o u b) in record { row = f.row; listed_is = listed_to u f.listed_is; mark = f.mark; generation = f.generation; event_is = f.event_is };
  one = λ o q u b d. old.one o q u (bound_from o u b) (bound_from q u d);
  owned = λ u row out is. ⊎_elim (λ (x : (o : ℕ) × IsBound rows o u). let b = x.1 in inl (x.0, record { row = b.row; listed_is = listed_to x.0 b.listed_is; frozen = b.frozen; twin_is = b.twin_is; some = b.some }))
      (λ (x : IsCopying rows u). inr (record { who = x.who; inside = x.inside; owed = x.owed; debt = x.debt; copy = x.copy })) (old.owned u row (outside_from u out) is);
  apart = λ o u b (x : IsCopying rows' u). old.apart o u (bound_from o u b) (record { who = x.who; inside = x.inside; owed = x.owed; debt = x.debt; copy = x.copy });
  alone = old.alone;
  left = λ s v is out. old.left s v is (λ x. out (listed_to s x));
  debt = λ k d b is. let f = old.debt k d b is in record {
    last = f.last;
    frozen = f.frozen;
    next = f.next;
    generation = f.generation;
    old_event = f.old_event;
    copy_event = f.copy_event;
    mark = f.mark;
    other = f.other;
    open_is = λ z. let o = f.open_is z in (listed_to d.old o.0, listed_to d.copy o.1, o.2);
  };
}
  where
    rows' : Rows
    rows' = record rows { holding = put rows.holding r h }

    listed_to : (s : ℕ) → IsListed rows.holding s → IsListed (put rows.holding r h) s
    listed_to s x = (x.0, put_else rows.holding r h s (λ (e : s ≡ r). was (subst (IsListed rows.holding) e x)) ∙ x.1)

    listed_from : (s : ℕ) → IsListed (put rows.holding r h) s → IsListed rows.holding s
    listed_from s x = (x.0, put_all rows.holding r h (λ s g. g ≡ listed x.0 → rows.holding s ≡ listed x.0) (λ e. absurd (now x.0 e)) (λ _ _ e. e) s x.1)

    outside_from : (s : ℕ) → IsOutside (put rows.holding r h) s → IsOutside rows.holding s
    outside_from s = put_all rows.holding r h (λ s g. ((j : ℕ) → g ≡ in_hand j → ⊥) → IsOutside rows.holding s) outside (λ _ _ out. out) s

    bound_from : (o u : ℕ) → IsBound rows' o u → IsBound rows o u
    bound_from o u b = record { row = b.row; listed_is = listed_from o b.listed_is; frozen = b.frozen; twin_is = b.twin_is; some = b.some }

-- a cut row is retired, and a retired one is claimed
pub copies_retire : (rows : Rows) (ground : Ground) (j r t : ℕ) → rows.holding r ≡ cut_by j → Copies rows ground → Copies (record rows { holding = put rows.holding r (retired t) }) ground
copies_retire rows ground j r t held = copies_held rows ground r (retired t) (λ x. cut_listed j x.0 (sym held ∙ x.1)) (retired_listed t) (λ _ i at. cut_hand j i (sym held ∙ at))

pub copies_claim : (rows : Rows) (ground : Ground) (j r t : ℕ) → rows.holding r ≡ retired t → Copies rows ground → Copies (record rows { holding = put rows.holding r (in_hand j) }) ground
copies_claim rows ground j r t held = copies_held rows ground r (in_hand j) (λ x. retired_listed t x.0 (sym held ∙ x.1)) (λ q e. listed_hand q j (sym e)) (λ out. absurd (out j refl))

-- Events whose copies aren't linked yet

none_old : (s : Stand) → None ≡ Some s → ⊥
none_old s e = cc

-- what was out at a Begin of the caller was so before entries that aren't one
was_before : (h more : List Entry) (k : ℕ) (e : Event) → (In (Begin k) more → ⊥) → WasOut (h ++ more) k e → WasOut h k e
was_before h more k e none w = ⊎_elim (λ t. (w.0, t.0, t.1, w.3)) (λ i. absurd (none i)) (split_entry h more w.0 w.1 (Begin k) w.2)

module _ (n : ℕ) (history : List Entry) (old : ℕ → Option Stand) where
  -- entries are added that are no Begin of a caller that has one
  pub unlinked_more : (more : List Entry) → ((k : ℕ) (s : Stand) → k < n → old k ≡ Some s → In (Begin k) more → ⊥) → Unlinked n history old → Unlinked n (history ++ more) old
  unlinked_more more none was = record { each = λ k s b is out. was.each k s b is (was_before history more k s.event (none k s b is) out) }

  pub unlinked_grown : (more : List Entry) → ((k : ℕ) → In (Begin k) more → ⊥) → Unlinked n history old → Unlinked n (history ++ more) old
  unlinked_grown more none = unlinked_more more (λ k _ _ _. none k)

  -- a caller comes to have none
  pub unlinked_less : (j : ℕ) → Unlinked n history old → Unlinked n history (put old j None)
  unlinked_less j was = record { each = λ k s. put_all old j None (λ k o. k < n → o ≡ Some s → WasOut history k s.event → ⊥) (λ _ e. absurd (none_old s e)) (λ k _. was.each k s) k }
