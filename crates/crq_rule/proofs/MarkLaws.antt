-- A take that marks a row dead keeps the invariant.
use Rattle.std.proofs.Common.{◌≡◌, ◌≢◌, ◌⊎◌, ⊎_elim, inl, inr, ℕ, ◌<◌, ◌≤◌, List, [], ◌∷◌, ◌++◌, Option, Some, None, sym, refl, ap, ◌∙◌, subst, append-nil, arith, ◌+◌}
use Rattle.std.proofs.lemmas.Bool.{false≢true}
use Rattle.std.specs.List.{Contains}
use Rattle.std.proofs.lemmas.List.Elements.{Contains-append_cases, Contains-push}
use Rattle.crq_base.specs.declared.event.Event.{Event}
use Rattle.crq_base.specs.declared.entry.Entry.{Entry}
use Rattle.crq_base.specs.declared.entry.Entry.TheVariants.{Begin, Take}
use Rattle.crq_base.specs.declared.words.Link.{Link}
use Rattle.crq_base.specs.declared.words.Mark.{Mark}
use Rattle.crq_base.specs.declared.words.Mark.TheVariants.{Val, Inv as Invalid, Mov, Del}
use Rattle.crq_base.specs.declared.words.Control.{Control}
use Rattle.crq_base.specs.Words.{IsLink}
use Rattle.crq_base.specs.Histories.{puts, outs, IsPending, MayFollow}
use Rattle.crq_base.proofs.HistoryLaws.{outs-append, puts-append}
use Rattle.crq_base.proofs.Deeds.{alone}
use Rattle.crq_base.specs.Lists.{In}
use Rattle.crq_rule.specs.declared.debts.CopyDebt.{CopyDebt}
use Rattle.crq_rule.specs.declared.debts.CutDebt.{CutDebt}
use Rattle.crq_rule.specs.declared.layout.Layout.{Layout}
use Rattle.crq_rule.specs.declared.view.Guard.{Guard}
use Rattle.crq_rule.specs.declared.view.CutRow.{CutRow}
use Rattle.crq_rule.specs.declared.view.Sight.{Sight}
use Rattle.crq_rule.specs.declared.view.Walk.{Walk}
use Rattle.crq_rule.specs.declared.view.Stand.{Stand}
use Rattle.crq_rule.specs.declared.view.Wrote.{Wrote}
use Rattle.crq_rule.specs.Lists.{put}
use Rattle.crq_rule.specs.Places.{IsRow}
use Rattle.crq_rule.specs.Core.{Core, IsOutside, DeadNames, HasName, Holding, in_hand, listed, cut_by, retired, caller_of}
use Rattle.crq_rule.specs.Parts.{Ground, ground_of, newest, IsEvent, IsGuarded, Leads, Chains, IsPath, Reaches, Covers, Cover, rows_of}
use Rattle.crq_rule.specs.ListParts.{ranks, Sorted, Marks, MarkFits, StandFits, Standing, Copying, IsFinal, Lanes, Writing, row_word, Naming, NameFits, IsNamed}
use Rattle.crq_rule.specs.HistoryParts.{IsLive, Carriers, StandsFrom}
use Rattle.crq_rule.specs.Ranks.{Shape, list_in}
use Rattle.crq_rule.specs.Copies.{Rooms}
use Rattle.crq_rule.specs.Invariant.{present_of, takes_of, rows_of_core, Inv}
use Rattle.crq_rule.specs.ListKinds.{is_cell, FoundFirst, MayMark, name_in, marked}
use Rattle.crq_rule.proofs.EndLaws.{ends_walk, walks_end}
use Rattle.crq_rule.proofs.Puts.{put_here, put_else, put_all}
use Rattle.crq_rule.proofs.PartLaws.{apart}
use Rattle.crq_rule.proofs.CoverLaws.{guarded_by, stand_row}
use Rattle.crq_rule.proofs.HistoryLaws.{told_other, settling_more, out_later}
use Rattle.crq_rule.proofs.BoundLaws.{numbers_grown, bounds_grown}
use Rattle.crq_rule.proofs.WalkerLaws.{silent, walkers_grown, walkers_links, walkers_rest}
use Rattle.crq_rule.proofs.AheadLaws.{ahead_grown}
use Rattle.crq_rule.proofs.ScarceLaws.{scarce_grown, refusals_grown}
use Rattle.crq_rule.proofs.SweepLaws.{swept_grown}
use Rattle.crq_rule.proofs.HeadLaws.{cell_listed, val_carries, dead_carries}
use Rattle.crq_rule.proofs.CopyLaws.{copies_before, unlinked_grown}
use Rattle.crq_rule.proofs.CopyMarks.{marked_as, marked_row, marked_generation, mark_else, inv_was, mov_stays, live_stays, live_was, val_open, from_val, copies_marked}
use Rattle.crq_rule.proofs.SizeLaws.{sizes_rows, dues_named}
use Rattle.crq_rule.proofs.SteadyLaws.{steady_rows, steady_names, told_high, held_told}
use Rattle.crq_rule.proofs.SearchLaws.{stand_covered, settled_left, first_left, own_walk, best_kept}

val_inv : Val ≡ Invalid → ⊥
val_inv e = cc

val_mov : Val ≡ Mov → ⊥
val_mov e = cc

take_begin : (j k : ℕ) (e : Event) → Take j e ≡ Begin k → ⊥
take_begin j k e q = cc

no_begin : (j : ℕ) (e : Event) (k : ℕ) → In (Begin k) (Take j e ∷ []) → ⊥
no_begin j e k i = ⊎_elim (λ (q : Begin k ≡ Take j e). take_begin j k e (sym q)) (λ n. n) i

nothing : {e : Event} → Contains [] e → ⊥
nothing h = let k = h.1 in absurd (omega arith)

some_event : (x y : Event) → Some x ≡ Some y → x ≡ y
some_event x y e = cc

no_debt : (d : CutDebt) → None ≡ Some d → ⊥
no_debt d e = cc

some_debt : (x y : CutDebt) → Some x ≡ Some y → x ≡ y
some_debt x y e = cc

-- Links that lead to the same rows

module _ (link link' : ℕ → Link) (same : (s : ℕ) → (link' s).row ≡ (link s).row) where
  leads_same : (a : ℕ) (xs : List ℕ) → Leads link a xs → Leads link' a xs
  leads_same a [] h = h
  leads_same a (x ∷ xs) h = (h.0, subst (λ z. Leads link' z xs) (sym (same x)) (leads_same (link x).row xs h.1))

  path_same : (twin : ℕ → ℕ) (a b : ℕ) (xs : List ℕ) → IsPath link' twin a xs b → IsPath link twin a xs b
  path_same twin a b [] p = p
  path_same twin a b (x ∷ xs) p = ((p.0.0, subst (λ z. (z ≡ x) ⊎ (twin a ≡ x)) (same a) p.0.1), path_same twin x b xs p.1)

  pub reaches_same : (twin : ℕ → ℕ) (a b : ℕ) → Reaches link' twin a b → Reaches link twin a b
  reaches_same twin a b h = record { through = h.through; path = path_same twin a b h.through h.path }

  pub covers_same : (ground : Ground) → ground.link ≡ link → (k g r : ℕ) → Covers (record ground { link = link' }) k g r → Covers ground k g r
  covers_same ground is k g r v = record {
    inside = v.inside;
    on = v.on;
    at = v.at;
    stands = v.stands;
    reaches = subst (λ z. Reaches z ground.twin v.at r) (sym is) (reaches_same ground.twin v.at r v.reaches);
  }

-- Histories with a take

puts_take : (history : List Entry) (j : ℕ) (e : Event) → puts (history ++ Take j e ∷ []) ≡ puts history
puts_take history j e = puts-append history (Take j e ∷ []) ∙ append-nil (puts history)

taken_out : (history : List Entry) (j : ℕ) (e : Event) → Contains (outs (history ++ Take j e ∷ [])) e
taken_out history j e = subst (λ z. Contains z e) (sym (outs-append history (Take j e ∷ []))) (Contains-push (outs history) e)

out_before : (history : List Entry) (j : ℕ) (e f : Event) → Contains (outs (history ++ Take j e ∷ [])) f → Contains (outs history) f ⊎ (f ≡ e)
out_before history j e f o = ⊎_elim inl (λ i. inr (sym (some_event e f (alone (Some e) f i)))) (Contains-append_cases (outs history) (e ∷ []) f (subst (λ z. Contains z f) (outs-append history (Take j e ∷ [])) o))

pending_before : (history : List Entry) (j : ℕ) (e f : Event) → IsPending (history ++ Take j e ∷ []) f → IsPending history f
pending_before history j e f p = record { put = subst (λ z. Contains z f) (puts_take history j e) p.put; kept = λ o. p.kept (out_later history (Take j e) f o) }

-- The row r comes to have the mark m, and all else stays

-- each holder's row may have a last mark
pub final_fits : (h : Holding) (m : Mark) → IsFinal m → MarkFits h m
final_fits (in_hand j) m final = tt
final_fits (listed q) m final = tt
final_fits (cut_by j) m final = final
final_fits (retired t) m final = final

del_mov : Del ≡ Mov → ⊥
del_mov e = cc

pub del_inv : Del ≡ Invalid → ⊥
del_inv e = cc

module _ (l : Layout) (shape : ℕ → Shape) (link : ℕ → Link) (twin : ℕ → ℕ) (event : ℕ → Event) (holding : ℕ → Holding) (r : ℕ) (m : Mark) where
  abbrev new : Link
  new = record (link r) { mark = m }

  abbrev now : ℕ → Link
  now = marked_as link r m

  -- the parts on links, lists, and words that were written
  pub spelled_marked : ((s : ℕ) → IsRow l s → IsLink (link s)) → (s : ℕ) → IsRow l s → IsLink (now s)
  spelled_marked old = put_all link r new (λ s x. IsRow l s → IsLink x) (λ at. let was = old r at in record { generation = was.generation; row = was.row }) (λ s _. old s)

  pub chains_marked : (head : ℕ → Link) (chain : ℕ → List ℕ) → Chains head link twin chain → Chains head now twin chain
  chains_marked head chain old = record { leads = λ q b. leads_same link now (marked_row link r m) (head q).row (chain q) (old.leads q b); twins = old.twins }

  pub sorted_marked : (head : ℕ → Link) (chain : ℕ → List ℕ) → Sorted shape head link event chain → Sorted shape head now event chain
  sorted_marked head chain old = record { rises = old.rises; belongs = old.belongs; generation = λ q s b i. marked_generation link r m s ∙ old.generation q s b i }

  pub writing_marked : (n : ℕ) (hand : ℕ → List ℕ) (written : ℕ → List Wrote) → ((k s : ℕ) → k < n → In s (hand k) → s ≢ r) → Writing n link twin event hand written → Writing n now twin event hand written
  writing_marked n hand written out old = record {
    placed = old.placed;
    in_hand_is = old.in_hand_is;
    stands = λ k x b i. ap (λ m. row_word m (twin x.row) (event x.row) x.place) (put_else link r new x.row (out k x.row b (old.in_hand_is k x b i))) ∙ old.stands k x b i;
  }

  -- it wasn't frozen. If it is now, it is the first row of a frozen head, and of an older table than the newest
  pub marks_marked : (control : Control) (head : ℕ → Link) → MarkFits (holding r) m → ((link r).mark ≡ Mov → ⊥) → (m ≡ Mov → ((q : ℕ) → holding r ≡ listed q → ((head q).mark ≡ Mov) × ((head q).row ≡ r)) × ((link r).generation < newest control))
      → Marks l control head link twin holding → Marks l control head now twin holding
  marks_marked control head fits live front old = record {
    mark = put_all link r new (λ s x. IsRow l s → MarkFits (holding s) x.mark) (λ _. fits) (λ s _. old.mark s);
    first = λ q s. put_all link r new (λ s x. IsRow l s → holding s ≡ listed q → x.mark ≡ Mov → ((head q).mark ≡ Mov) × ((head q).row ≡ s)) (λ _ at is. (front is).0 q at) (λ s _. old.first q s) s;
    bare = put_all link r new (λ s x. IsRow l s → IsOutside holding s → (x.mark ≡ Mov → ⊥) → twin s ≡ 0) (λ b out _. old.bare r b out live) (λ s _. old.bare s);
    aged = put_all link r new (λ s x. IsRow l s → IsOutside holding s → x.mark ≡ Mov → x.generation < newest control) (λ _ _ is. (front is).1) (λ s _. old.aged s);
  }

  module _ (guard : ℕ → Guard) (footing : ℕ → List ℕ) where
    abbrev ground : Ground
    ground = record { workers = l.workers; link = link; twin = twin; guard = guard; footing = footing }

    abbrev ground' : Ground
    ground' = record ground { link = now }

    was : (k g s : ℕ) → Covers ground' k g s → Covers ground k g s
    was = covers_same link now (marked_row link r m) ground refl

    guarded : (s : ℕ) → IsGuarded ground' s → IsGuarded ground s
    guarded s v = (v.0, v.1, was v.0 v.1 s v.2)

    -- the same rows are covered
    pub cover_marked : (cut : ℕ → Option CutRow) → Cover ground cut holding → Cover ground' cut holding
    cover_marked cut old = record { free = λ k g s j v. old.free k g s j (was k g s v); tags = λ k g s t v. old.tags k g s t (was k g s v); resting = old.resting }

    -- a row that comes to be frozen has no twin yet
    pub lanes_marked : (m ≡ Mov → twin r ≡ 0) → Lanes l shape ground event → Lanes l shape ground' event
    lanes_marked bare old = record {
      is_row = λ s v. old.is_row s (guarded s v);
      rises = λ s v. subst (λ z. 0 < z → ranks event s < ranks event z) (sym (marked_row link r m s)) (old.rises s (guarded s v));
      stays = λ s v. subst (λ (z : ℕ × ℕ). 0 < z.0 → list_in shape z.1 (event z.0) ≡ list_in shape z.1 (event s)) (λ i. (sym (marked_row link r m s) i, sym (marked_generation link r m s) i)) (old.stays s (guarded s v));
      generation = λ s v. subst (λ z. 0 < z → (now z).generation ≡ (now s).generation) (sym (marked_row link r m s))
          (λ some. marked_generation link r m (link s).row ∙ (old.generation s (guarded s v) some ∙ sym (marked_generation link r m s)));
      twins = λ s v frozen some. let h = old.twins s (guarded s v) (put_all link r new (λ s x. x.mark ≡ Mov → 0 < twin s → (link s).mark ≡ Mov) (λ is some. absurd (let none = bare is in omega arith)) (λ _ _ m _. m) s frozen some) some in
          (marked_generation link r m (twin s) ∙ (h.0 ∙ ap (λ g. g + 1) (sym (marked_generation link r m s))), h.1);
    }

  -- it hadn't its last mark, and doesn't come to be a copy that isn't valid
  module _ (was : IsFinal (link r).mark → ⊥) (differ : m ≢ Invalid) where
    -- what callers know of rows on which they stand fits still
    pub stand_marked : (head : ℕ → Link) (s : Stand) → StandFits head link twin event s → StandFits head now twin event s
    stand_marked head s old = record {
      holds = old.holds;
      of = marked_generation link r m s.row ∙ old.of;
      last = λ x is. let f = old.last x is in (mark_else link r m s.row (λ e. was (subst IsFinal (sym (ap (λ (z : Link). z.mark) (ap link (sym e) ∙ f.0))) f.1)) ∙ f.0, f.1);
      copy = old.copy;
      valid = λ v i. old.valid v (inv_was link r m differ s.row i);
      front = λ q is. ⊎_elim (λ (f : IsFinal (link s.row).mark). inl (subst (λ (z : Link). IsFinal z.mark) (sym (mark_else link r m s.row (λ e. was (subst (λ z. IsFinal (link z).mark) e f)))) f)) inr (old.front q is);
    }

    pub standing_marked : (n : ℕ) (head : ℕ → Link) (rows : ℕ → List Stand) → Standing n head link twin event rows → Standing n head now twin event rows
    standing_marked n head rows old = record { each = λ k s b i. stand_marked head s (old.each k s b i) }

    pub copying_marked : (n : ℕ) (head : ℕ → Link) (olds : ℕ → Option Stand) → Copying n head link twin event olds → Copying n head now twin event olds
    copying_marked n head olds old = record { each = λ k s b is. let o = old.each k s b is in (stand_marked head s o.0, mov_stays link r m was s.row o.1) }

    -- what stands from a row does so still, where the row r stays one that is present or frozen
    pub stands_marked : ((link r).mark ≡ Val → (m ≡ Val) ⊎ (m ≡ Mov)) → (g at : ℕ) (e : Event) → StandsFrom link event g at e → StandsFrom now event g at e
    stands_marked kept g at e old = record {
      row = old.row;
      some_row = old.some_row;
      kept = put_all link r new (λ t x. ((link t).mark ≡ Val) ⊎ ((link t).mark ≡ Mov) → (x.mark ≡ Val) ⊎ (x.mark ≡ Mov)) (⊎_elim kept (λ mov. absurd (was (subst IsFinal (sym mov) tt)))) (λ _ _ k. k) old.row old.kept;
      of = marked_generation link r m old.row ∙ old.of;
      holds = old.holds;
      follows = reaches_same now link (λ t. sym (marked_row link r m t)) (λ _. 0) at old.row old.follows;
    }

  -- the dead rows that are owed stay, where it isn't dead
  pub naming_marked : (head : ℕ → Link) (names : ℕ → DeadNames) → (m ≡ Del → ⊥) → Naming l head link event names holding → Naming l head now event names holding
  naming_marked head names alive old = record {
    named = λ t p. put_all link r new (λ t x. IsRow l t → holding t ≡ listed p → x.mark ≡ Del → (k : ℕ) × (k < l.workers) × ((d : CutDebt) × HasName (names k) d × IsNamed head d t (event t) x))
        (λ _ _ del. absurd (alive del)) (λ t _. old.named t p) t;
    place = old.place;
  }

-- The row r is dead

abbrev pub dead : (ℕ → Link) → ℕ → ℕ → Link
dead link r = marked_as link r Del

-- the caller j names it
pub naming_dead : (l : Layout) (head link : ℕ → Link) (event : ℕ → Event) (holding : ℕ → Holding) (r j : ℕ) (d : CutDebt) (names names' : ℕ → DeadNames) → j < l.workers → HasName (names' j) d
    → ((k : ℕ) (e : CutDebt) → HasName (names k) e → HasName (names' k) e) → ((k : ℕ) (e : CutDebt) → HasName (names' k) e → HasName (names k) e ⊎ (d ≡ e))
    → IsNamed head d r (event r) (record (link r) { mark = Del }) → NameFits l d → Naming l head link event names holding → Naming l head (dead link r) event names' holding
naming_dead l head link event holding r j d names names' b has stay before is fits old = record {
  named = λ s q c at. put_all link r (record (link r) { mark = Del })
      (λ s m. IsRow l s → holding s ≡ listed q → m.mark ≡ Del → (k : ℕ) × (k < l.workers) × ((d : CutDebt) × HasName (names' k) d × IsNamed head d s (event s) m))
      (λ _ _ _. (j, b, (d, has, is)))
      (λ s _ c at del. let n = old.named s q c at del in (n.0, n.1, (n.2.0, stay n.0 n.2.0 n.2.1, n.2.2))) s c at;
  place = λ k e c has. ⊎_elim (old.place k e c) (λ same. subst (NameFits l) same fits) (before k e has);
}

-- the caller j, which named no dead row first, names one
module _ (j : ℕ) (name : CutDebt) (names : ℕ → DeadNames) where
  abbrev named : DeadNames
  named = record (names j) { first = Some name }

  -- each name is this one, or was there
  names_before : (k : ℕ) (d : CutDebt) → HasName (put names j named k) d → HasName (names k) d ⊎ (name ≡ d)
  names_before k d = put_all names j named (λ k x. HasName x d → HasName (names k) d ⊎ (name ≡ d)) (⊎_elim (λ q. inr (some_debt name d q)) (λ h. inl (inr h))) (λ _ _ h. inl h) k

  single_stays : (k : ℕ) → (names k).second ≡ None → (put names j named k).second ≡ None
  single_stays k = put_all names j named (λ k x. (names k).second ≡ None → x.second ≡ None) (λ n. n) (λ _ _ n. n) k

  names_stay : (names j).first ≡ None → (k : ℕ) (d : CutDebt) → HasName (names k) d → HasName (put names j named k) d
  names_stay free k d = put_all names j named (λ k x. HasName (names k) d → HasName x d) (⊎_elim (λ q. absurd (no_debt d (sym free ∙ q))) inr) (λ _ _ h. h) k

  name_here : HasName (put names j named j) name
  name_here = subst (λ x. HasName x name) (sym (put_here names j named)) (inl refl)

  rooms_named : (n : ℕ) (copying : ℕ → Option CopyDebt) → Rooms n copying names → Rooms n copying (put names j named)
  rooms_named n copying old = record {
    ordered = put_all names j named (λ k x. k < n → x.first ≡ None → x.second ≡ None) (λ _ none. absurd (no_debt name (sym none))) (λ k _. old.ordered k);
    room = λ k d b is. single_stays k (old.room k d b is);
  }

module _ (l : Layout) (shape : ℕ → Shape) (link : ℕ → Link) (twin : ℕ → ℕ) (event : ℕ → Event) (holding : ℕ → Holding) (r : ℕ) where
  -- another row that is live stays so, and no row comes to be live
  module _ (val : (link r).mark ≡ Val) where
    dead_stays : (s : ℕ) → s ≢ r → IsLive l link twin holding s → IsLive l (dead link r) twin holding s
    dead_stays s ne v = live_stays l link twin holding r Del s ne (λ _ _ i. val_inv (sym val ∙ i)) v

    dead_else : (s : ℕ) → IsLive l (dead link r) twin holding s → s ≢ r
    dead_else s v e = dead_carries (dead link r s).mark (twin s) (dead link r (twin s)).mark (ap (λ (z : Link). z.mark) (ap (dead link r) e ∙ put_here link r (record (link r) { mark = Del }))) v.2

    dead_was : (s : ℕ) → IsLive l (dead link r) twin holding s → IsLive l link twin holding s
    dead_was s v = live_was l link twin holding r Del del_inv s (dead_else s v) v

  -- the event e of the row is taken
  module _ (val : (link r).mark ≡ Val) (history : List Entry) (j : ℕ) (e : Event) (is : event r ≡ e) where
    -- the row of an event that isn't out is another one
    else_row : (s : ℕ) (f : Event) → event s ≡ f → (Contains (outs (history ++ Take j e ∷ [])) f → ⊥) → s ≢ r
    else_row s f holds kept same = kept (subst (Contains (outs (history ++ Take j e ∷ []))) (sym is ∙ (ap event (sym same) ∙ holds)) (taken_out history j e))

    carriers_dead : IsLive l link twin holding r → Carriers l history link twin event holding → Carriers l (history ++ Take j e ∷ []) (dead link r) twin event holding
    carriers_dead live old = record {
      carried = λ f p. let at = old.carried f (pending_before history j e f p) in (at.0, dead_stays val at.0 (else_row at.0 f at.2 p.kept) at.1, at.2);
      pending = λ s v. let p = old.pending s (dead_was val s v) in record {
        put = subst (λ z. Contains z (event s)) (sym (puts_take history j e)) p.put;
        kept = λ o. ⊎_elim p.kept (λ (q : event s ≡ e). dead_else val s v (old.one s r (dead_was val s v) live (q ∙ sym is))) (out_before history j e (event s) o);
      };
      one = λ s t v w. old.one s t (dead_was val s v) (dead_was val t w);
    }

    stands_dead : (g at : ℕ) (f : Event) → (Contains (outs (history ++ Take j e ∷ [])) f → ⊥) → StandsFrom link event g at f → StandsFrom (dead link r) event g at f
    stands_dead g at f kept old = record {
      row = old.row;
      some_row = old.some_row;
      kept = subst (λ (m : Link). (m.mark ≡ Val) ⊎ (m.mark ≡ Mov)) (sym (put_else link r (record (link r) { mark = Del }) old.row (else_row old.row f old.holds kept))) old.kept;
      of = marked_generation link r Del old.row ∙ old.of;
      holds = old.holds;
      follows = reaches_same (dead link r) link (λ s. sym (marked_row link r Del s)) (λ _. 0) at old.row old.follows;
    }

-- Mark

-- the event that the walk found to be the first is pending, and none that was settled before the Begin has a lesser key
take_legal : (c : Core) (j r : ℕ) (e : Event) → j < c.start.layout.workers → ((x : Control) × MayMark x r e (caller_of c j)) → IsPending c.history e → c.words.event r ≡ e → Inv c → MayFollow c.history (Take j e)
take_legal c j r e b may pending is inv = let from = inv.told.began j b may.1.began in let w = may.1.walks in let s : Sight = record { table = may.0; current = may.1.sight.0 } in (
  pending.put,
  pending.kept,
  (
    from.0,
    from.2,
    λ f settled kept. first_left c inv j s w.0 f b may.1.sight.1 w.1 (settled_left c inv j s from.0 (Begin j ∷ from.2.back) f b may.1.sight.1 from.2.parts from.1 settled kept) r e is w.2,
  ),
)

-- the row that a walk found to be the first is of the table that the take saw
first_generation : (c : Core) → Inv c → (j : ℕ) → j < c.start.layout.workers → (s : Sight) (w : Walk) (r : ℕ) (e : Event) → c.sight j ≡ Some s → c.walk j ≡ Some w → 0 < r → (o : Option ℕ) → w.bucket ≡ o → FoundFirst o s.table (c.rows j) w r e
    → (c.words.link r).generation ≡ s.table.generation
first_generation c inv j b s w r e sees is some None none found = (best_kept c inv j b s w sees is (r, e) found.1).1
first_generation c inv j b s w r e sees is some (Some u) of found = ⊎_elim (λ z. let same = found.0 in absurd (omega arith)) (λ h. subst (λ r. (c.words.link r).generation ≡ s.table.generation) found.0 h.1) (own_walk c inv j s w b sees is).at_stand

pub walk_generation : (c : Core) → Inv c → (j : ℕ) (x : Control) {r : ℕ} {e : Event} → j < c.start.layout.workers → 0 < r → MayMark x r e (caller_of c j) → (c.words.link r).generation ≡ x.generation
walk_generation c inv j x {r} {e} b some may = let w = may.walks in first_generation c inv j b (record { table = x; current = may.sight.0 }) w.0 r e may.sight.1 w.1 some w.0.bucket refl w.2

-- a present row that a take may mark is of the open table, and so is what the take saw
pub mark_now : (c : Core) → Inv c → (j r : ℕ) (e : Event) → j < c.start.layout.workers → (may : (x : Control) × MayMark x r e (caller_of c j)) → (c.words.link r).mark ≡ Val → may.0.generation ≡ c.words.control.generation
mark_now c inv j r e b may val = let at = may.1.on in let covered = stand_covered c inv j r b (subst (λ z. In z (rows_of (c.rows j))) at.2 (stand_row (c.rows j) at.0 at.1)) in
    let row = inv.lanes.is_row r (guarded_by j covered) in
    let held = cell_listed (c.holding r) (c.words.link r).mark (ap is_cell val) (λ i. inv.cover.free j covered.0 r i covered.1) (inv.marks.mark r row) in
    let seen = walk_generation c inv j may.0 b row.0 may.1 in let low = (inv.finds.sights j (record { table = may.0; current = may.1.sight.0 }) b may.1.sight.1).0.low in
    let high = told_high c.words.control (c.words.link r).generation (held_told c inv held.0 r row held.1) in omega arith

pub mark_keeps : (c : Core) (j r : ℕ) (e : Event) → j < c.start.layout.workers → ((x : Control) × MayMark x r e (caller_of c j)) → (c.words.link r).mark ≡ Val → Inv c → Inv (marked c j r e)
mark_keeps c j r e b may val inv = let l = c.start.layout in let x = c.shape in let k = c.words.link in let t = c.words.twin in let v = c.words.event in let h = c.holding in record {
  spelled = record {
    is_control = inv.spelled.is_control;
    is_current = inv.spelled.is_current;
    is_pin = inv.spelled.is_pin;
    heads = inv.spelled.heads;
    links = spelled_marked l x k t v h r Del inv.spelled.links;
    twins = inv.spelled.twins;
    events = inv.spelled.events;
  };
  reading = inv.reading;
  finds = inv.finds;
  guards = inv.guards;
  holders = inv.holders;
  cutting = inv.cutting;
  stamps = inv.stamps;
  chains = chains_marked l x k t v h r Del _ _ inv.chains;
  cover = cover_marked l x k t v h r Del _ _ _ inv.cover;
  sizes = sizes_rows _ _ _ _ _ _ _ _ _ (λ _ _. refl) (λ s _ out. inl (out, marked_generation k r Del s)) inv.sizes;
  dues = dues_named _ _ _ _ _ _ _ (λ i d _ has. ⊎_elim inl (λ same. inr (subst (λ (d : CutDebt). (d.generation ≤ newest c.words.control) × (d.head ≡ list_in c.shape d.generation d.event)) same (inv.sizes.rows r row outside, refl))) (names_before j name c.named i d has)) inv.dues;
  steady = steady_names _ _ _ _ _ _ (λ i d _ has. ⊎_elim inl (λ same. inr (λ _. ap (λ (d : CutDebt). d.generation) (sym same) ∙ now)) (names_before j name c.named i d has)) (λ _ i _. single_stays j name c.named i)
      (steady_rows _ _ _ _ _ _ _ (λ s _ out. inl (out, marked_generation k r Del s)) inv.steady);
  heads = inv.heads;
  helps = inv.helps;
  sorted = sorted_marked l x k t v h r Del _ _ inv.sorted;
  marks = marks_marked l x k t v h r Del _ _ (final_fits (h r) Del tt) (λ m. val_mov (sym val ∙ m)) (λ m. absurd (del_mov m)) inv.marks;
  standing = standing_marked l x k t v h r Del open_is del_inv _ _ _ inv.standing;
  copying = copying_marked l x k t v h r Del open_is del_inv _ _ _ inv.copying;
  lanes = lanes_marked l x k t v h r Del _ _ (λ m. absurd (del_mov m)) inv.lanes;
  writing = writing_marked l x k t v h r Del _ _ _ (λ k s i at. apart c.holding r s (listed held.0) (in_hand k) held.1 (inv.holders.held k s i at).1 (omega arith)) inv.writing;
  naming = naming_dead l _ k v h r j name c.named (put c.named j (record (c.named j) { first = Some name })) b (name_here j name c.named) (names_stay j name c.named may.1.free) (names_before j name c.named)
      (record { row = refl; event = sym is; generation = refl; front = λ f. absurd (false≢true f) }) (record { row = row; event = subst IsEvent is (inv.spelled.events r row) }) inv.naming;
  carriers = carriers_dead l x k t v h r val _ j e is live inv.carriers;
  told = told_other _ _ _ _ _ j (Take j e) b (take_legal c j r e b may pending is inv) refl refl (λ k. take_begin j k e) inv.told;
  numbers = numbers_grown _ _ _ (Take j e ∷ []) inv.numbers;
  bounds = bounds_grown _ _ _ _ _ _ _ (Take j e ∷ []) refl inv.bounds;
  settling = settling_more _ _ _ (Take j e ∷ []) (λ _ n. absurd (nothing n)) (λ _ _ _ _ n. nothing n) inv.settling;
  walkers = let now = present_of (marked c j r e) in walkers_rest now (takes_of c) (dead k r) v j (walkers_links now (takes_of c) k v (dead k r) v (λ _ s _ _. marked_generation k r Del s) (λ _ g at f _ _. stands_dead l x k t v h r val c.history j e is g at f)
      (walkers_grown (present_of c) (takes_of c) k v (Take j e ∷ []) (silent c.history (Take j e ∷ []) refl refl) inv.walkers));
  ahead = ahead_grown c.history (Take j e ∷ []) c.words.current refl inv.ahead;
  scarce = scarce_grown _ _ _ _ _ _ _ (λ k. no_begin j e k) inv.scarce;
  refusals = refusals_grown _ _ _ _ (λ k. no_begin j e k) inv.refusals;
  swept = swept_grown _ _ _ _ _ _ _ (λ k. no_begin j e k) inv.swept;
  copies = copies_before _ _ _ (λ s z. (z.0, z.1, covers_same k (marked_as k r Del) (marked_row k r Del) (ground_of c) refl z.0 z.1 s z.2))
      (copies_marked (rows_of_core c) (ground_of c) r Del (from_val c inv r Del row held val del_inv now) inv.copies);
  rooms = rooms_named j name c.named _ _ inv.rooms;
  bare = inv.bare;
  unlinked = unlinked_grown _ _ _ (Take j e ∷ []) (λ k. no_begin j e k) inv.unlinked;
  ends = ends_walk c inv (put c.walk j None) (walks_end c inv j);
}
  where
    name : CutDebt
    name = name_in c.shape (c.words.link r).generation r e

    open_is : IsFinal (c.words.link r).mark → ⊥
    open_is = val_open (c.words.link r).mark val

    at : (s : Stand) × In s (c.rows j) × (s.row ≡ r) × (s.event ≡ e)
    at = may.1.on

    is : c.words.event r ≡ e
    is = ap c.words.event (sym at.2) ∙ ((inv.standing.each j at.0 b at.1).holds ∙ at.3)

    covered : (g : ℕ) × Covers (ground_of c) j g r
    covered = stand_covered c inv j r b (subst (λ z. In z (rows_of (c.rows j))) at.2 (stand_row (c.rows j) at.0 at.1))

    row : IsRow c.start.layout r
    row = inv.lanes.is_row r (guarded_by j covered)

    outside : IsOutside c.holding r
    outside i = inv.cover.free j covered.0 r i covered.1

    held : (q : ℕ) × (c.holding r ≡ listed q)
    held = cell_listed (c.holding r) (c.words.link r).mark (ap is_cell val) outside (inv.marks.mark r row)

    live : IsLive c.start.layout c.words.link c.words.twin c.holding r
    live = (row, held, val_carries (c.words.link r).mark (c.words.twin r) (c.words.link (c.words.twin r)).mark val)

    pending : IsPending c.history e
    pending = subst (IsPending c.history) is (inv.carriers.pending r live)

    -- it is of the open table
    now : (c.words.link r).generation ≡ c.words.control.generation
    now = walk_generation c inv j may.0 b row.0 may.1 ∙ mark_now c inv j r e b may val
