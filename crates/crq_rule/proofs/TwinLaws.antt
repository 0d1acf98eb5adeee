-- A caller that finds the twin of a row keeps the invariant: it comes to stand on rows that its guard covered.
use Rattle.std.proofs.Common.{◌≡◌, ◌⊎◌, ⊎_elim, inl, inr, true, false, Bool, cond, eqb, ℕ, ◌+◌, ◌<◌, List, [], ◌∷◌, ◌++◌, Option, Some, None, sym, refl, ap, ◌∙◌, subst, arith}
use Rattle.std.proofs.lemmas.Bool.{cond_both, eqb-true, eqb-false, false≢true}
use Rattle.std.proofs.lemmas.Option.{same_Some}
use Rattle.std.specs.List.{Contains}
use Rattle.std.proofs.lemmas.List.Elements.{Contains-append_left}
use Rattle.crq_base.specs.declared.event.Event.{Event}
use Rattle.crq_base.specs.declared.entry.Entry.{Entry}
use Rattle.crq_base.specs.declared.entry.Entry.TheVariants.{Begin}
use Rattle.crq_base.specs.declared.words.Link.{Link}
use Rattle.crq_base.specs.declared.words.Mark.{Mark}
use Rattle.crq_base.specs.declared.words.Mark.TheVariants.{Val, Inv as Invalid, Mov, Del}
use Rattle.crq_base.specs.Histories.{outs, IsPending}
use Rattle.crq_base.specs.Lists.{In}
use Rattle.crq_base.proofs.HistoryLaws.{outs-append}
use Rattle.crq_rule.specs.declared.debts.CopyDebt.{CopyDebt}
use Rattle.crq_rule.specs.declared.layout.Layout.{Layout}
use Rattle.crq_rule.specs.declared.view.CutRow.{CutRow}
use Rattle.crq_rule.specs.declared.view.Stand.{Stand}
use Rattle.crq_rule.specs.Lists.{put}
use Rattle.crq_rule.specs.Core.{Core, Holding, caller_of}
use Rattle.crq_rule.specs.Parts.{Ground, ground_of, IsGuarded, Covers, Cover, IsPath, Reaches, footings, rows_of, rows_of_old, rows_of_copy}
use Rattle.crq_rule.specs.ListParts.{StandFits, Lanes, IsFinal}
use Rattle.crq_rule.specs.ScarceParts.{WasOut}
use Rattle.crq_rule.specs.Ranks.{Shape}
use Rattle.crq_rule.specs.Copies.{Rows, CopyFits, Copies}
use Rattle.crq_rule.specs.Invariant.{present_of, takes_of, rows_of_core, Inv}
use Rattle.crq_rule.specs.CopyKinds.{plain_stand, twin_stand, twinned, copy_stands, stand_on, twin_loaded, old_stand, lost_stands, twin_found, is_del, copy_loaded, MayTwin}
use Rattle.crq_rule.proofs.Puts.{put_all}
use Rattle.crq_rule.proofs.CoverLaws.{guarded_by, stand_row, row_footing, copy_footing, covered_less, cover_less}
use Rattle.crq_rule.proofs.StandLaws.{lanes_before, lanes_less}
use Rattle.crq_rule.proofs.Standings.{in_join, join_in, in_rows, rows_in}
use Rattle.crq_rule.proofs.HeadLaws.{bare_carries}
use Rattle.crq_rule.proofs.SearchLaws.{stand_covered}
use Rattle.crq_rule.proofs.CopyLaws.{copies_before, debt_guarded, moved_is}
use Rattle.crq_rule.proofs.CopyMarks.{copies_dropped, put_same}
use Rattle.crq_rule.proofs.NotingLaws.{walkers_stood}
use Rattle.crq_rule.proofs.Frames.{frame_guards}

none_stand : (s : Stand) → None ≡ Some s → ⊥
none_stand s e = cc

none_link : (l : Link) → None ≡ Some l → ⊥
none_link l e = cc

none_number : (t : ℕ) → None ≡ Some t → ⊥
none_number t e = cc

none_debt : (d : CopyDebt) → None ≡ Some d → ⊥
none_debt d e = cc

-- What is reached from rows that are reached

path_join : (link : ℕ → Link) (twin : ℕ → ℕ) (a b d : ℕ) (xs ys : List ℕ) → IsPath link twin a xs b → IsPath link twin b ys d → IsPath link twin a (xs ++ ys) d
path_join link twin a b d [] ys p q = subst (λ z. IsPath link twin z ys d) (sym p) q
path_join link twin a b d (x ∷ xs) ys p q = (p.0, path_join link twin x b d xs ys p.1 q)

none_left : (xs : List ℕ) → ((a : ℕ) → In a xs → ⊥) → xs ≡ []
none_left [] none = refl
none_left (x ∷ xs) none = absurd (none x (inl refl))

-- callers come to stand on rows to which names lead from where they stood
module _ (ground : Ground) (footing : ℕ → List ℕ) (from : (k a : ℕ) → In a (footing k) → (x : ℕ) × In x (ground.footing k) × Reaches ground.link ground.twin x a) where
  abbrev ground' : Ground
  ground' = record ground { footing = footing }

  -- their guards cover no more
  pub covers_from : (k g r : ℕ) → Covers ground' k g r → Covers ground k g r
  covers_from k g r v = let x = from k v.at v.stands in record {
    inside = v.inside;
    on = v.on;
    at = x.0;
    stands = x.1;
    reaches = record { through = x.2.through ++ v.reaches.through; path = path_join ground.link ground.twin x.0 v.at r x.2.through v.reaches.through x.2.path v.reaches.path };
  }

  pub cover_from : (cut : ℕ → Option CutRow) (holding : ℕ → Holding) → Cover ground cut holding → Cover ground' cut holding
  cover_from cut holding old = record {
    free = λ k g r j v. old.free k g r j (covers_from k g r v);
    tags = λ k g r t v. old.tags k g r t (covers_from k g r v);
    resting = λ k b off. none_left (footing k) (λ a i. let x = from k a i in subst (In x.0) (old.resting k b off) x.1);
  }

  pub lanes_from : (l : Layout) (shape : ℕ → Shape) (event : ℕ → Event) → Lanes l shape ground event → Lanes l shape ground' event
  lanes_from l shape event = lanes_before l shape ground event ground.guard footing covers_from

  pub copies_from : (rows : Rows) → Copies rows ground → Copies rows ground'
  copies_from rows = copies_before rows ground ground' (λ r v. (v.0, v.1, covers_from v.0 v.1 r v.2))

-- a row where it stands
stays : (link : ℕ → Link) (twin : ℕ → ℕ) (xs : List ℕ) (a : ℕ) → In a xs → (x : ℕ) × In x xs × Reaches link twin x a
stays link twin xs a i = (a, i, record { through = []; path = refl })

-- The caller j comes to stand on these rows, and on this row whose copy it has yet to link

module _ (c : Core) (inv : Inv c) (j : ℕ) (b : j < c.start.layout.workers) (ss : List Stand) (o : Option Stand) where
  abbrev rows : ℕ → List Stand
  rows = put c.rows j ss

  abbrev olds : ℕ → Option Stand
  olds = put c.old j o

  -- where the rows were reached, and all is known of them that their stands say
  pub stood_keeps : ((a : ℕ) → In a (rows_of ss) → (x : ℕ) × In x (footings c.rows c.old c.copying j) × Reaches c.words.link c.words.twin x a)
      → ((a : ℕ) → In a (rows_of_old o) → In a (footings c.rows c.old c.copying j))
      → ((s : Stand) → In s ss → StandFits c.words.head c.words.link c.words.twin c.words.event s)
      → ((s : Stand) → o ≡ Some s → StandFits c.words.head c.words.link c.words.twin c.words.event s × ((c.words.link s.row).mark ≡ Mov) × (WasOut c.history j s.event → ⊥))
      → ((s : Stand) → In s (c.rows j) → (t : Stand) × In t ss × (t.row ≡ s.row) × (t.event ≡ s.event))
      → Inv (record c { rows = rows; old = olds })
  stood_keeps reached old_reached fits old_fits all = frame_guards c c.words.epoch c.words.announced c.epochs c.guard c.tick c.cut c.base rows olds c.walk inv inv.reading inv.guards inv.holders inv.cutting inv.stamps
      (cover_from (ground_of c) footing from c.cut c.holding inv.cover)
      (record { each = λ k s. put_all c.rows j ss (λ k ss. k < c.start.layout.workers → In s ss → StandFits c.words.head c.words.link c.words.twin c.words.event s) (λ _. fits s) (λ k _. inv.standing.each k s) k })
      (record { each = λ k s. put_all c.old j o (λ k o. k < c.start.layout.workers → o ≡ Some s → StandFits c.words.head c.words.link c.words.twin c.words.event s × ((c.words.link s.row).mark ≡ Mov)) (λ _ is. let f = old_fits s is in (f.0, f.1)) (λ k _. inv.copying.each k s) k })
      (lanes_from (ground_of c) footing from c.start.layout c.shape c.words.event inv.lanes)
      (walkers_stood (present_of c) (takes_of c) c.words.link c.words.event j ss all inv.walkers)
      inv.scarce
      (copies_from (ground_of c) footing from (rows_of_core c) inv.copies)
      (record { each = λ k s. put_all c.old j o (λ k o. k < c.start.layout.workers → o ≡ Some s → WasOut c.history k s.event → ⊥) (λ _ is. (old_fits s is).2) (λ k _. inv.unlinked.each k s) k })
      inv.ends
    where
      footing : ℕ → List ℕ
      footing = footings rows olds c.copying

      From : ℕ → ℕ → Type 0
      From k a = (x : ℕ) × In x (footings c.rows c.old c.copying k) × Reaches c.words.link c.words.twin x a

      at_rows : (k a : ℕ) → In a (rows_of (rows k)) → From k a
      at_rows k a = put_all c.rows j ss (λ k ss. In a (rows_of ss) → From k a) (reached a) (λ k _ i. stays c.words.link c.words.twin (footings c.rows c.old c.copying k) a (row_footing c.rows c.old c.copying k a i)) k

      back : (k a : ℕ) → In a (rows_of_old (c.old k) ++ rows_of_copy (c.copying k)) → From k a
      back k a i = stays c.words.link c.words.twin (footings c.rows c.old c.copying k) a (join_in (rows_of (c.rows k)) (rows_of_old (c.old k) ++ rows_of_copy (c.copying k)) a (inr i))

      at_old : (k a : ℕ) → In a (rows_of_old (olds k)) → From k a
      at_old k a = put_all c.old j o (λ k o. In a (rows_of_old o) → From k a) (λ i. stays c.words.link c.words.twin (footings c.rows c.old c.copying j) a (old_reached a i))
          (λ k _ i. back k a (join_in (rows_of_old (c.old k)) (rows_of_copy (c.copying k)) a (inl i))) k

      from : (k a : ℕ) → In a (footing k) → From k a
      from k a i = ⊎_elim (at_rows k a)
          (λ h. ⊎_elim (at_old k a) (λ i. back k a (join_in (rows_of_old (c.old k)) (rows_of_copy (c.copying k)) a (inr i))) (in_join (rows_of_old (olds k)) (rows_of_copy (c.copying k)) a h))
          (in_join (rows_of (rows k)) (rows_of_old (olds k) ++ rows_of_copy (c.copying k)) a i)

-- TwinLoad

-- each stand is there, with the twin or without it
twinned_in : (r t : ℕ) (ss : List Stand) (s : Stand) → In s ss → (u : Stand) × In u (twinned r t ss) × (u.row ≡ s.row) × (u.event ≡ s.event)
twinned_in r t [] s i = absurd i
twinned_in r t (x ∷ xs) s i = ⊎_elim
    (λ (e : s ≡ x). cond_both (eqb x.row r) (record x { twin = Some t }) x (λ z. (u : Stand) × In u (z ∷ twinned r t xs) × (u.row ≡ s.row) × (u.event ≡ s.event))
    (λ _. (record x { twin = Some t }, inl refl, ap (λ (z : Stand). z.row) (sym e), ap (λ (z : Stand). z.event) (sym e))) (λ _. (x, inl refl, ap (λ (z : Stand). z.row) (sym e), ap (λ (z : Stand). z.event) (sym e))))
    (λ h. let u = twinned_in r t xs s h in (u.0, inr u.1, u.2, u.3)) i

-- one that has the twin was there, or is one on the row with it
in_twinned : (r t : ℕ) (ss : List Stand) (s : Stand) → In s (twinned r t ss) → In s ss ⊎ ((u : Stand) × In u ss × (u.row ≡ r) × (s ≡ record u { twin = Some t }))
in_twinned r t [] s i = absurd i
in_twinned r t (x ∷ xs) s i = ⊎_elim
    (cond_both (eqb x.row r) (record x { twin = Some t }) x (λ z. s ≡ z → In s (x ∷ xs) ⊎ ((u : Stand) × In u (x ∷ xs) × (u.row ≡ r) × (s ≡ record u { twin = Some t })))
    (λ yes e. inr (x, inl refl, eqb-true x.row r yes, e)) (λ _ e. inl (inl e)))
    (λ h. ⊎_elim (λ k. inl (inr k)) (λ k. inr (k.0, inr k.1, k.2, k.3)) (in_twinned r t xs s h)) i

-- the stand of the copy is made of one on the row
in_copy : (r t : ℕ) (ss : List Stand) (s : Stand) → In s (copy_stands r t ss) → (u : Stand) × In u ss × (u.row ≡ r) × (s ≡ twin_stand t u)
in_copy r t [] s i = absurd i
in_copy r t (x ∷ xs) s i = cond_both (eqb x.row r) (twin_stand t x ∷ []) (copy_stands r t xs) (λ zs. In s zs → (u : Stand) × In u (x ∷ xs) × (u.row ≡ r) × (s ≡ twin_stand t u))
    (λ yes h. (x, inl refl, eqb-true x.row r yes, ⊎_elim (λ e. e) (λ n. absurd n) h)) (λ _ h. let u = in_copy r t xs s h in (u.0, inr u.1, u.2, u.3)) i

on_in : (r : ℕ) (ss : List Stand) (s : Stand) → stand_on r ss ≡ Some s → In s ss × (s.row ≡ r)
on_in r [] s is = absurd (none_stand s is)
on_in r (x ∷ xs) s is = cond_both (eqb x.row r) (Some x) (stand_on r xs) (λ o. o ≡ Some s → In s (x ∷ xs) × (s.row ≡ r))
    (λ yes e. let same = same_Some x s e in (inl (sym same), ap (λ (z : Stand). z.row) (sym same) ∙ eqb-true x.row r yes)) (λ _ e. let h = on_in r xs s e in (inr h.0, h.1)) is

module _ (c : Core) (inv : Inv c) (j r : ℕ) (b : j < c.start.layout.workers) (may : MayTwin r (caller_of c j)) where
  abbrev t : ℕ
  t = c.words.twin r

  abbrev Fits : Stand → Type 0
  Fits = StandFits c.words.head c.words.link c.words.twin c.words.event

  stood : In r (rows_of (c.rows j))
  stood = subst (λ z. In z (rows_of (c.rows j))) may.on.2 (stand_row (c.rows j) may.on.0 may.on.1)

  guarded : IsGuarded (ground_of c) r
  guarded = guarded_by j (stand_covered c inv j r b stood)

  frozen : (c.words.link r).mark ≡ Mov
  frozen = ap (λ z. (c.words.link z).mark) (sym may.on.2) ∙ (ap (λ (z : Link). z.mark) ((inv.standing.each j may.on.0 b may.on.1).last may.on.3.0 may.on.3.1).0 ∙ may.on.3.2)

  row_here : (a : ℕ) → In a (rows_of (c.rows j)) → (x : ℕ) × In x (footings c.rows c.old c.copying j) × Reaches c.words.link c.words.twin x a
  row_here a i = stays c.words.link c.words.twin (footings c.rows c.old c.copying j) a (row_footing c.rows c.old c.copying j a i)

  -- no copy: the event is pending
  none_keeps : t ≡ 0 → Inv (record c { rows = put c.rows j (c.rows j); old = put c.old j (stand_on r (c.rows j)) })
  none_keeps none = stood_keeps c inv j b (c.rows j) (stand_on r (c.rows j)) row_here (old_row (stand_on r (c.rows j)) refl) (λ s i. inv.standing.each j s b i) old_fits (λ s i. (s, i, refl, refl))
    where
      old_row : (o : Option Stand) → stand_on r (c.rows j) ≡ o → (a : ℕ) → In a (rows_of_old o) → In a (footings c.rows c.old c.copying j)
      old_row None is a i = absurd i
      old_row (Some s) is a i = ⊎_elim (λ (e : a ≡ s.row). row_footing c.rows c.old c.copying j a (subst (λ z. In z (rows_of (c.rows j))) (sym e) (stand_row (c.rows j) s (on_in r (c.rows j) s is).0))) (λ n. absurd n) i

      pending : IsPending c.history (c.words.event r)
      pending = inv.carriers.pending r (inv.lanes.is_row r guarded, moved_is c inv r guarded frozen none, bare_carries (c.words.link r).mark t (c.words.link t).mark frozen none)

      was_out : (h : List Entry) (k : ℕ) (e : Event) → WasOut h k e → Contains (outs h) e
      was_out h k e w = subst (λ z. Contains (outs z) e) (sym w.2) (subst (λ z. Contains z e) (sym (outs-append w.0 (Begin k ∷ w.1))) (Contains-append_left (outs w.0) (outs (Begin k ∷ w.1)) e w.3))

      old_fits : (s : Stand) → stand_on r (c.rows j) ≡ Some s → Fits s × ((c.words.link s.row).mark ≡ Mov) × (WasOut c.history j s.event → ⊥)
      old_fits s is = let at = on_in r (c.rows j) s is in let f = inv.standing.each j s b at.0 in (
        f,
        ap (λ z. (c.words.link z).mark) at.1 ∙ frozen,
        λ w. pending.kept (subst (Contains (outs c.history)) (sym f.holds ∙ ap c.words.event at.1) (was_out c.history j s.event w)),
      )

  -- a copy: it is a row that names lead to, of the next table
  some_keeps : 0 < t → Inv (record c { rows = put c.rows j (copy_stands r t (c.rows j) ++ twinned r t (c.rows j)); old = put c.old j (c.old j) })
  some_keeps some = stood_keeps c inv j b (copy_stands r t (c.rows j) ++ twinned r t (c.rows j)) (c.old j) reached
      (λ a i. join_in (rows_of (c.rows j)) (rows_of_old (c.old j) ++ rows_of_copy (c.copying j)) a (inr (join_in (rows_of_old (c.old j)) (rows_of_copy (c.copying j)) a (inl i))))
      (λ s i. ⊎_elim (copy_fits s) (twin_fits s) (in_join (copy_stands r t (c.rows j)) (twinned r t (c.rows j)) s i))
      (λ s is. let f = inv.copying.each j s b is in (f.0, f.1, inv.unlinked.each j s b is))
      (λ s i. let u = twinned_in r t (c.rows j) s i in (u.0, join_in (copy_stands r t (c.rows j)) (twinned r t (c.rows j)) u.0 (inr u.1), u.2, u.3))
    where
      reached : (a : ℕ) → In a (rows_of (copy_stands r t (c.rows j) ++ twinned r t (c.rows j))) → (x : ℕ) × In x (footings c.rows c.old c.copying j) × Reaches c.words.link c.words.twin x a
      reached a i = let s = in_rows (copy_stands r t (c.rows j) ++ twinned r t (c.rows j)) a i in ⊎_elim
          (λ h. let u = in_copy r t (c.rows j) s.0 h in let same : a ≡ t = sym s.2 ∙ ap (λ (z : Stand). z.row) u.3 in
          (r, row_footing c.rows c.old c.copying j r stood, record { through = t ∷ []; path = ((some, inr refl), sym same) }))
          (λ h. row_here a (subst (λ z. In z (rows_of (c.rows j))) s.2 (⊎_elim (λ k. rows_in (c.rows j) s.0 k) (λ k. subst (λ z. In z (rows_of (c.rows j))) (ap (λ (z : Stand). z.row) (sym k.3)) (rows_in (c.rows j) k.0 k.1)) (in_twinned r t (c.rows j) s.0 h))))
          (in_join (copy_stands r t (c.rows j)) (twinned r t (c.rows j)) s.0 s.1)

      copy_fits : (s : Stand) → In s (copy_stands r t (c.rows j)) → Fits s
      copy_fits s i = let u = in_copy r t (c.rows j) s i in let f = inv.standing.each j u.0 b u.1 in let same = inv.lanes.twins r guarded frozen some in subst Fits (sym u.3) (record {
        holds = same.1 ∙ (ap c.words.event (sym u.2) ∙ f.holds);
        of = same.0 ∙ ap (λ g. g + 1) (ap (λ z. (c.words.link z).generation) (sym u.2) ∙ f.of);
        last = λ l is. absurd (none_link l is);
        copy = λ n is. absurd (none_number n is);
        valid = λ v. absurd (false≢true v);
        front = λ q is. absurd (none_number q is);
      })

      twin_fits : (s : Stand) → In s (twinned r t (c.rows j)) → Fits s
      twin_fits s i = ⊎_elim (λ k. inv.standing.each j s b k)
          (λ k. let f = inv.standing.each j k.0 b k.1 in subst Fits (sym k.3) (record {
            holds = f.holds;
            of = f.of;
            last = f.last;
            copy = λ n is. let same = same_Some t n is in (ap c.words.twin k.2 ∙ same, subst (λ z. 0 < z) same some);
            valid = f.valid;
            front = f.front;
          })) (in_twinned r t (c.rows j) s i)

pub twin_keeps : (c : Core) (j r : ℕ) → j < c.start.layout.workers → MayTwin r (caller_of c j) → Inv c → Inv (twin_loaded c j r)
twin_keeps c j r b may inv = by (eqb (c.words.twin r) 0) refl
  where
    by : (z : Bool) → eqb (c.words.twin r) 0 ≡ z → Inv (twin_loaded c j r)
    by true is = subst (λ z. Inv (record c {
      rows = put c.rows j (cond z (c.rows j) (copy_stands r (c.words.twin r) (c.rows j) ++ twinned r (c.words.twin r) (c.rows j)));
      old = put c.old j (cond z (stand_on r (c.rows j)) (c.old j));
    })) (sym is) (none_keeps c inv j r b may (eqb-true (c.words.twin r) 0 is))
    by false is = subst (λ z. Inv (record c {
      rows = put c.rows j (cond z (c.rows j) (copy_stands r (c.words.twin r) (c.rows j) ++ twinned r (c.words.twin r) (c.rows j)));
      old = put c.old j (cond z (stand_on r (c.rows j)) (c.old j));
    })) (sym is) (some_keeps c inv j r b may (let ne = eqb-false (c.words.twin r) 0 is in omega arith))

-- A caller that owes a copy finds the twin of its old row

-- what is known of that row and of its copy t
module _ (link : ℕ → Link) (twin : ℕ → ℕ) (event : ℕ → Event) (head : ℕ → Link) (d : CopyDebt) (t : ℕ) where
  pub old_stand_fits : link d.old ≡ d.last → d.last.mark ≡ Mov → event d.old ≡ d.event → twin d.old ≡ t → 0 < t → StandFits head link twin event (old_stand d t)
  old_stand_fits last frozen holds is some = record {
    holds = holds;
    of = ap (λ (z : Link). z.generation) last;
    last = λ l e. let same = same_Some d.last l e in (last ∙ same, subst (λ (z : Link). IsFinal z.mark) same (subst IsFinal (sym frozen) tt));
    copy = λ n e. let same = same_Some t n e in (is ∙ same, subst (λ z. 0 < z) same some);
    valid = λ v. absurd (false≢true v);
    front = λ q is. absurd (none_number q is);
  }

  pub copy_stand_fits : event t ≡ d.event → (link t).generation ≡ d.generation → StandFits head link twin event (plain_stand t d.event d.generation)
  copy_stand_fits holds of = record {
    holds = holds;
    of = of;
    last = λ l is. absurd (none_link l is);
    copy = λ n is. absurd (none_number n is);
    valid = λ v. absurd (false≢true v);
    front = λ q is. absurd (none_number q is);
  }

module _ (c : Core) (inv : Inv c) (j : ℕ) (d : CopyDebt) (b : j < c.start.layout.workers) (owes : c.copying j ≡ Some d) where
  abbrev t' : ℕ
  t' = c.words.twin d.old

  found_keeps : (ss : List Stand) → ((t' ≡ 0) × (ss ≡ c.rows j)) ⊎ ((0 < t') × (ss ≡ old_stand d t' ∷ plain_stand t' d.event d.generation ∷ c.rows j)) → Inv (record c { rows = put c.rows j ss; old = put c.old j (c.old j) })
  found_keeps ss is = stood_keeps c inv j b ss (c.old j) (⊎_elim (λ h. subst (λ z. (a : ℕ) → In a (rows_of z) → From a) (sym h.1) (λ a i. here a (row_footing c.rows c.old c.copying j a i)))
      (λ h. subst (λ z. (a : ℕ) → In a (rows_of z) → From a) (sym h.1) (λ a. ⊎_elim (λ e. here a (subst (λ z. In z (footings c.rows c.old c.copying j)) (sym e) at))
      (⊎_elim (λ e. (d.old, at, record { through = t' ∷ []; path = ((h.0, inr refl), sym e) })) (λ i. here a (row_footing c.rows c.old c.copying j a i))))) is)
      (λ a i. join_in (rows_of (c.rows j)) (rows_of_old (c.old j) ++ rows_of_copy (c.copying j)) a (inr (join_in (rows_of_old (c.old j)) (rows_of_copy (c.copying j)) a (inl i))))
      (⊎_elim (λ h. subst (λ z. (s : Stand) → In s z → Fits s) (sym h.1) (λ s i. inv.standing.each j s b i))
      (λ h. subst (λ z. (s : Stand) → In s z → Fits s) (sym h.1) (λ s. ⊎_elim (λ e. subst Fits (sym e) (old_stand_fits c.words.link c.words.twin c.words.event c.words.head d t' f.last f.frozen f.old_event refl h.0))
      (⊎_elim (λ e. subst Fits (sym e) (new_fits h.0)) (λ i. inv.standing.each j s b i)))) is)
      (λ s is. let g = inv.copying.each j s b is in (g.0, g.1, inv.unlinked.each j s b is))
      (⊎_elim (λ h. subst (λ z. (s : Stand) → In s (c.rows j) → (t : Stand) × In t z × (t.row ≡ s.row) × (t.event ≡ s.event)) (sym h.1) (λ s i. (s, i, refl, refl)))
      (λ h. subst (λ z. (s : Stand) → In s (c.rows j) → (t : Stand) × In t z × (t.row ≡ s.row) × (t.event ≡ s.event)) (sym h.1) (λ s i. (s, inr (inr i), refl, refl))) is)
    where
      f : CopyFits (rows_of_core c) d
      f = inv.copies.debt j d b owes

      From : ℕ → Type 0
      From a = (x : ℕ) × In x (footings c.rows c.old c.copying j) × Reaches c.words.link c.words.twin x a

      Fits : Stand → Type 0
      Fits = StandFits c.words.head c.words.link c.words.twin c.words.event

      here : (a : ℕ) → In a (footings c.rows c.old c.copying j) → From a
      here a i = stays c.words.link c.words.twin (footings c.rows c.old c.copying j) a i

      at : In d.old (footings c.rows c.old c.copying j)
      at = (copy_footing c.rows c.old c.copying j d owes).0

      new_fits : 0 < t' → Fits (plain_stand t' d.event d.generation)
      new_fits some = let same = inv.lanes.twins d.old (debt_guarded c inv j d b owes).0 (ap (λ (z : Link). z.mark) f.last ∙ f.frozen) some in
          copy_stand_fits c.words.link c.words.twin c.words.event c.words.head d t' (same.1 ∙ f.old_event) (same.0 ∙ (ap (λ (z : Link). z.generation + 1) f.last ∙ f.next))

pub twin_found_keeps : (c : Core) (j : ℕ) (d : CopyDebt) → j < c.start.layout.workers → c.copying j ≡ Some d → Inv c → Inv (twin_found c j d)
twin_found_keeps c j d b owes inv = subst (λ f. Inv (record c { rows = put c.rows j (lost_stands d (c.words.twin d.old) (c.rows j)); old = f })) (put_same c.old j)
    (found_keeps c inv j d b owes (lost_stands d (c.words.twin d.old) (c.rows j)) (by (eqb (c.words.twin d.old) 0) refl))
  where
    by : (z : Bool) → eqb (c.words.twin d.old) 0 ≡ z → ((c.words.twin d.old ≡ 0) × (lost_stands d (c.words.twin d.old) (c.rows j) ≡ c.rows j))
        ⊎ ((0 < c.words.twin d.old) × (lost_stands d (c.words.twin d.old) (c.rows j) ≡ old_stand d (c.words.twin d.old) ∷ plain_stand (c.words.twin d.old) d.event d.generation ∷ c.rows j))
    by true is = inl (eqb-true (c.words.twin d.old) 0 is, ap (λ z. cond z (c.rows j) (old_stand d (c.words.twin d.old) ∷ plain_stand (c.words.twin d.old) d.event d.generation ∷ c.rows j)) is)
    by false is = inr ((let ne = eqb-false (c.words.twin d.old) 0 is in omega arith), ap (λ z. cond z (c.rows j) (old_stand d (c.words.twin d.old) ∷ plain_stand (c.words.twin d.old) d.event d.generation ∷ c.rows j)) is)

-- CopyLoad, of the link of a copy that a caller owes

-- copies that callers owe come to be fewer
copying_keeps : (c : Core) (copying' : ℕ → Option CopyDebt) → ((k : ℕ) (e : CopyDebt) → copying' k ≡ Some e → c.copying k ≡ Some e) → Copies (record (rows_of_core c) { copying = copying' }) (ground_of c) → Inv c → Inv (record c { copying = copying' })
copying_keeps c copying' kept copies inv = record {
  spelled = inv.spelled;
  reading = inv.reading;
  finds = inv.finds;
  guards = inv.guards;
  holders = inv.holders;
  cutting = inv.cutting;
  stamps = inv.stamps;
  chains = inv.chains;
  cover = cover_less (ground_of c) c.cut c.holding footing fewer inv.cover;
  sizes = inv.sizes;
  dues = record { settles = inv.dues.settles; copies = λ k e b is. inv.dues.copies k e b (kept k e is); named = inv.dues.named };
  steady = inv.steady;
  heads = inv.heads;
  sorted = inv.sorted;
  marks = inv.marks;
  standing = inv.standing;
  copying = inv.copying;
  lanes = lanes_less c.start.layout c.shape (ground_of c) c.words.event footing fewer inv.lanes;
  writing = inv.writing;
  naming = inv.naming;
  carriers = inv.carriers;
  told = inv.told;
  numbers = inv.numbers;
  settling = inv.settling;
  walkers = inv.walkers;
  ahead = inv.ahead;
  bounds = inv.bounds;
  scarce = inv.scarce;
  refusals = inv.refusals;
  swept = inv.swept;
  helps = inv.helps;
  copies = copies_before (record (rows_of_core c) { copying = copying' }) (ground_of c) (record (ground_of c) { footing = footing }) (λ r v. (v.0, v.1, covered_less (ground_of c) footing fewer v.0 v.1 r v.2)) copies;
  rooms = record { ordered = inv.rooms.ordered; room = λ k e b is. inv.rooms.room k e b (kept k e is) };
  bare = inv.bare;
  unlinked = inv.unlinked;
  ends = inv.ends;
}
  where
    footing : ℕ → List ℕ
    footing = footings c.rows c.old copying'

    less : (k a : ℕ) (o : Option CopyDebt) → copying' k ≡ o → In a (rows_of_copy o) → In a (rows_of_copy (c.copying k))
    less k a None is i = absurd i
    less k a (Some e) is i = subst (λ o. In a (rows_of_copy o)) (sym (kept k e is)) i

    fewer : (k a : ℕ) → In a (footing k) → In a (footings c.rows c.old c.copying k)
    fewer k a i = join_in (rows_of (c.rows k)) (rows_of_old (c.old k) ++ rows_of_copy (c.copying k)) a (⊎_elim inl
        (λ h. inr (join_in (rows_of_old (c.old k)) (rows_of_copy (c.copying k)) a (⊎_elim inl (λ g. inr (less k a (copying' k) refl g)) (in_join (rows_of_old (c.old k)) (rows_of_copy (copying' k)) a h))))
        (in_join (rows_of (c.rows k)) (rows_of_old (c.old k) ++ rows_of_copy (copying' k)) a i))

del_is : (m : Mark) → is_del m ≡ true → m ≡ Del
del_is Val e = absurd (false≢true e)
del_is Invalid e = absurd (false≢true e)
del_is Mov e = absurd (false≢true e)
del_is Del e = refl

pub copy_loaded_keeps : (c : Core) (j : ℕ) (d : CopyDebt) → j < c.start.layout.workers → c.copying j ≡ Some d → Inv c → Inv (copy_loaded c j d)
copy_loaded_keeps c j d b owes inv = by (is_del (c.words.link d.copy).mark) refl
  where
    by : (z : Bool) → is_del (c.words.link d.copy).mark ≡ z → Inv (copy_loaded c j d)
    by true is = subst (λ z. Inv (record c { copying = put c.copying j (cond z None (c.copying j)) })) (sym is)
        (copying_keeps c (put c.copying j None) (λ k e. put_all c.copying j None (λ k o. o ≡ Some e → c.copying k ≡ Some e) (λ q. absurd (none_debt e q)) (λ _ _ q. q) k)
        (copies_dropped (rows_of_core c) (ground_of c) j d owes (del_is (c.words.link d.copy).mark is) inv.copies) inv)
    by false is = subst (λ z. Inv (record c { copying = put c.copying j (cond z None (c.copying j)) })) (sym is) (subst (λ f. Inv (record c { copying = f })) (sym (put_same c.copying j)) inv)
