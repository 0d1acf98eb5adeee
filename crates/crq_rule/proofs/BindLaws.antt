-- A caller that binds its copy keeps the invariant: the old row carries the event before and after, and what the new twin leads to is listed and was covered.
use Rattle.std.proofs.Common.{◌≡◌, ◌≢◌, ◌⊎◌, ⊎_elim, inl, inr, ℕ, ◌+◌, ◌<◌, ◌≤◌, List, [], ◌∷◌, ◌++◌, Option, Some, None, sym, refl, ap, ◌∙◌, subst, arith}
use mathlib.Core.Logic.{dite}
use native.Mathlib.Decide.{ℕ_discrete}
use Rattle.std.proofs.lemmas.Option.{same_Some}
use Rattle.crq_base.specs.declared.words.Link.{Link}
use Rattle.crq_base.specs.declared.words.Mark.TheVariants.{Inv as Invalid, Mov}
use Rattle.crq_base.specs.Lists.{In}
use Rattle.crq_rule.specs.declared.debts.CopyDebt.{CopyDebt}
use Rattle.crq_rule.specs.declared.view.CutRow.{CutRow}
use Rattle.crq_rule.specs.declared.view.Stand.{Stand}
use Rattle.crq_rule.specs.Lists.{put}
use Rattle.crq_rule.specs.Places.{IsRow, IsHead}
use Rattle.crq_rule.specs.Core.{Core, IsOutside, in_hand, listed, retired}
use Rattle.crq_rule.specs.Parts.{ground_of, IsGuarded, Covers, Cover, HasTag, IsPath, Leads, footings, rows_of, rows_of_old, rows_of_copy}
use Rattle.crq_rule.specs.ListParts.{StandFits, Standing, Lanes, row_word}
use Rattle.crq_rule.specs.HistoryParts.{IsCarrying, IsLive, Carriers}
use Rattle.crq_rule.specs.Copies.{Rows, IsListed, IsBound, IsCopyOf, IsCopying, CopyFits, Copies}
use Rattle.crq_rule.specs.Invariant.{present_of, takes_of, rows_of_core, Inv}
use Rattle.crq_rule.specs.CopyKinds.{plain_stand, old_stand, bound_by}
use Rattle.crq_rule.proofs.Puts.{put_here, put_else, put_all}
use Rattle.crq_rule.proofs.PartLaws.{sort, apart}
use Rattle.crq_rule.proofs.CoverLaws.{copy_footing, footing_covered}
use Rattle.crq_rule.proofs.HeadLaws.{bare_carries}
use Rattle.crq_rule.proofs.Standings.{in_join, join_in}
use Rattle.crq_rule.proofs.WithoutLaws.{first_in}
use Rattle.crq_rule.proofs.CopyLaws.{debt_guarded}
use Rattle.crq_rule.proofs.CopyMarks.{carriers_same}
use Rattle.crq_rule.proofs.NotingLaws.{walkers_stood}
use Rattle.crq_rule.proofs.TwinLaws.{old_stand_fits, copy_stand_fits}
use Rattle.crq_rule.proofs.ValidateLaws.{inv_carries}

none_debt : (d : CopyDebt) → None ≡ Some d → ⊥
none_debt d e = cc

-- a path by the new twins is one by the old ones, or its end is reached from the copy
path_bound : (link : ℕ → Link) (twin : ℕ → ℕ) (o t a b : ℕ) (xs : List ℕ) → IsPath link (put twin o t) a xs b → IsPath link twin a xs b ⊎ ((ys : List ℕ) × IsPath link twin t ys b)
path_bound link twin o t a b [] p = inl p
path_bound link twin o t a b (x ∷ xs) p = ⊎_elim
    (λ (rest : IsPath link twin x xs b). ⊎_elim
    (λ (n : (link a).row ≡ x). inl ((p.0.0, inl n), rest))
    (λ (n : put twin o t a ≡ x). dite (ℕ_discrete a o)
    (λ e. let same : x ≡ t = sym n ∙ (ap (put twin o t) e ∙ put_here twin o t) in inr (xs, subst (λ z. IsPath link twin z xs b) same rest))
    (λ ne. inl ((p.0.0, inr (sym (put_else twin o t a ne) ∙ n)), rest))) p.0.1)
    inr (path_bound link twin o t x b xs p.1)

-- the row stands in some list
abbrev InList : Core → ℕ → Type 0
InList c r = (q : ℕ) × IsHead q × In r (c.chain q)

-- the row that a listed one names stands in its list
next_in : (link : ℕ → Link) (a r : ℕ) (xs : List ℕ) → Leads link a xs → In r xs → 0 < (link r).row → In (link r).row xs
next_in link a r [] leads i some = absurd i
next_in link a r (x ∷ xs) leads i some = ⊎_elim
    (λ (e : r ≡ x). inr (first_in link (link r).row xs some (subst (λ z. Leads link (link z).row xs) (sym e) leads.1)))
    (λ (h : In r xs). inr (next_in link (link x).row r xs leads.1 h some)) i

-- names lead from listed rows to listed rows
listed_path : (c : Core) → Inv c → (a r : ℕ) (xs : List ℕ) → InList c a → IsPath c.words.link c.words.twin a xs r → InList c r
listed_path c inv a r [] at p = subst (InList c) p at
listed_path c inv a r (x ∷ xs) at p = listed_path c inv x r xs (⊎_elim
    (λ (n : (c.words.link a).row ≡ x). (at.0, at.1, subst (λ z. In z (c.chain at.0)) n (next_in c.words.link (c.words.head at.0).row a (c.chain at.0) (inv.chains.leads at.0 at.1) at.2 (subst (λ z. 0 < z) (sym n) p.0.0))))
    (λ (n : c.words.twin a ≡ x). ⊎_elim (λ (none : c.words.twin a ≡ 0). let some = p.0.0 in absurd (omega arith)) (λ h. (h.0, h.1, subst (λ z. In z (c.chain h.0)) n h.2)) (inv.chains.twins at.0 a at.1 at.2)) p.0.1) p.1

-- a listed row has no tag
untagged : (c : Core) → Inv c → (r t : ℕ) → InList c r → HasTag c.start.layout.workers c.cut c.holding r t → ⊥
untagged c inv r t at has = let held = (inv.holders.in_chain at.0 r at.1 at.2).1 in ⊎_elim
    (λ (is : c.holding r ≡ retired t). let z : ◌≡◌ {A = ℕ} 1 3 = ap sort (sym held ∙ is) in omega arith)
    (λ (h : (i : ℕ) × (x : CutRow) × (i < c.start.layout.workers) × (c.cut i ≡ Some x) × (x.row ≡ r) × In t x.tags).
    let z : ◌≡◌ {A = ℕ} 1 2 = ap sort (sym held ∙ (ap c.holding (sym h.4) ∙ (inv.holders.is_cut h.0 h.1 h.2 h.3).1)) in omega arith) has

module _ (c : Core) (inv : Inv c) (j : ℕ) (d : CopyDebt) (b : j < c.start.layout.workers) (owes : c.copying j ≡ Some d) (none : c.words.twin d.old ≡ 0) where
  abbrev o : ℕ
  o = d.old

  abbrev t : ℕ
  t = d.copy

  abbrev twin' : ℕ → ℕ
  twin' = put c.words.twin o t

  abbrev copying' : ℕ → Option CopyDebt
  copying' = put c.copying j None

  abbrev ss : List Stand
  ss = old_stand d t ∷ plain_stand t d.event d.generation ∷ c.rows j

  abbrev rows' : ℕ → List Stand
  rows' = put c.rows j ss

  abbrev then : Rows
  then = rows_of_core c

  abbrev now : Rows
  now = rows_of_core (bound_by c j d)

  fits : CopyFits then d
  fits = inv.copies.debt j d b owes

  frozen : (c.words.link o).mark ≡ Mov
  frozen = ap (λ (z : Link). z.mark) fits.last ∙ fits.frozen

  row_o : IsRow c.start.layout o
  row_o = inv.lanes.is_row o (debt_guarded c inv j d b owes).0

  row_t : IsRow c.start.layout t
  row_t = inv.lanes.is_row t (debt_guarded c inv j d b owes).1

  listed_o : IsListed c.holding o
  listed_o = (fits.open_is none).0

  listed_t : IsListed c.holding t
  listed_t = (fits.open_is none).1

  in_list : InList c t
  in_list = let h = inv.holders.of_chain listed_t.0 t row_t listed_t.1 in (listed_t.0, h.0, h.1)

  twin_here : twin' o ≡ t
  twin_here = put_here c.words.twin o t

  twin_else : (s : ℕ) → s ≢ o → twin' s ≡ c.words.twin s
  twin_else s ne = put_else c.words.twin o t s ne

  -- Copies

  owed_t : IsCopying then t
  owed_t = record { who = j; inside = b; owed = d; debt = owes; copy = refl }

  -- what the row o is bound to now, and that other rows stay bound
  bound_is : (p u : ℕ) → IsBound now p u → ((p ≡ o) × (u ≡ t)) ⊎ ((p ≢ o) × IsBound then p u)
  bound_is p u w = dite (ℕ_discrete p o)
      (λ e. inl (e, sym w.twin_is ∙ (ap twin' e ∙ twin_here)))
      (λ ne. inr (ne, record { row = w.row; listed_is = w.listed_is; frozen = w.frozen; twin_is = sym (twin_else p ne) ∙ w.twin_is; some = w.some }))

  bound_else : (p u : ℕ) → IsBound then p u → p ≢ o
  bound_else p u w e = let z : u ≡ 0 = sym w.twin_is ∙ (ap c.words.twin e ∙ none) in let some = w.some in omega arith

  bound_stays : (p u : ℕ) → IsBound then p u → IsBound now p u
  bound_stays p u w = record { row = w.row; listed_is = w.listed_is; frozen = w.frozen; twin_is = twin_else p (bound_else p u w) ∙ w.twin_is; some = w.some }

  bound_here : IsBound now o t
  bound_here = record { row = row_o; listed_is = listed_o; frozen = frozen; twin_is = twin_here; some = row_t.0 }

  copy_here : IsCopyOf now o t
  copy_here = record {
    row = row_t;
    listed_is = listed_t;
    mark = inl (fits.open_is none).2;
    generation = fits.generation ∙ (sym fits.next ∙ ap (λ (z : Link). z.generation + 1) (sym fits.last));
    event_is = fits.copy_event ∙ sym fits.old_event;
  }

  -- the debts that stay
  debt_was : (k : ℕ) (e : CopyDebt) → copying' k ≡ Some e → (k ≢ j) × (c.copying k ≡ Some e)
  debt_was k e = put_all c.copying j None (λ k x. x ≡ Some e → (k ≢ j) × (c.copying k ≡ Some e)) (λ is. absurd (none_debt e is)) (λ k ne is. (ne, is)) k

  copy_else : (k : ℕ) (e : CopyDebt) → k < c.start.layout.workers → k ≢ j → c.copying k ≡ Some e → e.copy ≢ t
  copy_else k e bk ne is same = ne (inv.copies.alone k j e d bk b is owes same)

  copies_bound : Copies now (ground_of c)
  copies_bound = record {
    bound = λ p u w. ⊎_elim
        (λ (h : (p ≡ o) × (u ≡ t)). subst (λ z. IsCopyOf now z u) (sym h.0) (subst (IsCopyOf now o) (sym h.1) copy_here))
        (λ (h : (p ≢ o) × IsBound then p u). let f = inv.copies.bound p u h.1 in record { row = f.row; listed_is = f.listed_is; mark = f.mark; generation = f.generation; event_is = f.event_is }) (bound_is p u w);
    one = λ p q u v w. ⊎_elim
        (λ (h : (p ≡ o) × (u ≡ t)). ⊎_elim (λ (g : (q ≡ o) × (u ≡ t)). h.0 ∙ sym g.0)
        (λ (g : (q ≢ o) × IsBound then q u). absurd (inv.copies.apart q t (subst (IsBound then q) h.1 g.1) owed_t)) (bound_is q u w))
        (λ (h : (p ≢ o) × IsBound then p u). ⊎_elim (λ (g : (q ≡ o) × (u ≡ t)). absurd (inv.copies.apart p t (subst (IsBound then p) g.1 h.1) owed_t))
        (λ (g : (q ≢ o) × IsBound then q u). inv.copies.one p q u h.1 g.1) (bound_is q u w)) (bound_is p u v);
    owned = λ u row out is. dite (ℕ_discrete u t)
        (λ e. inl (o, subst (IsBound now o) (sym e) bound_here))
        (λ ne. ⊎_elim (λ (h : (p : ℕ) × IsBound then p u). inl (h.0, bound_stays h.0 u h.1))
        (λ (h : IsCopying then u). inr (record {
          who = h.who;
          inside = h.inside;
          owed = h.owed;
          debt = put_else c.copying j None h.who (λ e. ne (sym h.copy ∙ ap (λ (x : CopyDebt). x.copy) (same_Some h.owed d (sym h.debt ∙ (ap c.copying e ∙ owes))))) ∙ h.debt;
          copy = h.copy;
        })) (inv.copies.owned u row out is));
    apart = λ p u w h. let x = debt_was h.who h.owed h.debt in ⊎_elim
        (λ (g : (p ≡ o) × (u ≡ t)). copy_else h.who h.owed h.inside x.0 x.1 (h.copy ∙ g.1))
        (λ (g : (p ≢ o) × IsBound then p u). inv.copies.apart p u g.1 (record { who = h.who; inside = h.inside; owed = h.owed; debt = x.1; copy = h.copy })) (bound_is p u w);
    alone = λ a k x y ba bk ix iy. inv.copies.alone a k x y ba bk (debt_was a x ix).1 (debt_was k y iy).1;
    left = λ s v is out. subst (λ z. (z ≢ 0) × ((c.words.link z).mark ≢ Invalid)) (sym (twin_else s (λ e. out (subst (IsListed c.holding) (sym e) listed_o)))) (inv.copies.left s v is out);
    debt = λ k e bk is. let w = debt_was k e is in let g = inv.copies.debt k e bk w.1 in record {
      last = g.last;
      frozen = g.frozen;
      next = g.next;
      generation = g.generation;
      old_event = g.old_event;
      copy_event = g.copy_event;
      mark = g.mark;
      other = put_all c.words.twin o t (λ s z. s ≡ e.old → z ≢ e.copy) (λ _ same. copy_else k e bk w.0 w.1 (sym same)) (λ s _ same z. g.other (ap c.words.twin (sym same) ∙ z)) e.old refl;
      open_is = put_all c.words.twin o t (λ s z. s ≡ e.old → z ≡ 0 → IsListed c.holding e.old × IsListed c.holding e.copy × ((c.words.link e.copy).mark ≡ Invalid))
          (λ _ z. let some = row_t.0 in absurd (omega arith)) (λ s _ same z. g.open_is (ap c.words.twin (sym same) ∙ z)) e.old refl;
    };
  }

  -- the row o carries before and after, and no other row's twin changes
  carriers_bound : Carriers c.start.layout c.history c.words.link twin' c.words.event c.holding
  carriers_bound = carriers_same c.start.layout c.history c.words.link c.words.link c.words.twin twin' c.words.event c.holding
      (λ s v. dite (ℕ_discrete s o)
      (λ e. subst (IsLive c.start.layout c.words.link twin' c.holding) (sym e)
      (row_o, listed_o, inv_carries (c.words.link o).mark (twin' o) (c.words.link (twin' o)).mark frozen (ap (λ z. (c.words.link z).mark) twin_here ∙ (fits.open_is none).2)))
      (λ ne. (v.0, v.1, subst (λ z. IsCarrying (c.words.link s).mark z (c.words.link z).mark) (sym (twin_else s ne)) v.2)))
      (λ s v. dite (ℕ_discrete s o)
      (λ e. subst (IsLive c.start.layout c.words.link c.words.twin c.holding) (sym e) (row_o, listed_o, bare_carries (c.words.link o).mark (c.words.twin o) (c.words.link (c.words.twin o)).mark frozen none))
      (λ ne. (v.0, v.1, subst (λ z. IsCarrying (c.words.link s).mark z (c.words.link z).mark) (twin_else s ne) v.2))) inv.carriers

  -- Stands

  stand_bound : (s : Stand) → StandFits c.words.head c.words.link c.words.twin c.words.event s → StandFits c.words.head c.words.link twin' c.words.event s
  stand_bound s was = record {
    holds = was.holds;
    of = was.of;
    last = was.last;
    copy = λ u is. let w = was.copy u is in (twin_else s.row (λ e. let z : u ≡ 0 = sym w.0 ∙ (ap c.words.twin e ∙ none) in let some = w.1 in omega arith) ∙ w.0, w.1);
    valid = was.valid;
    front = was.front;
  }

  standing_bound : Standing c.start.layout.workers c.words.head c.words.link twin' c.words.event rows'
  standing_bound = record {
    each = λ k s. put_all c.rows j ss (λ k ss. k < c.start.layout.workers → In s ss → StandFits c.words.head c.words.link twin' c.words.event s)
        (λ _. ⊎_elim (λ e. subst (StandFits c.words.head c.words.link twin' c.words.event) (sym e) (old_stand_fits c.words.link twin' c.words.event c.words.head d t fits.last fits.frozen fits.old_event twin_here row_t.0))
        (⊎_elim (λ e. subst (StandFits c.words.head c.words.link twin' c.words.event) (sym e) (copy_stand_fits c.words.link twin' c.words.event c.words.head d t fits.copy_event fits.generation))
        (λ i. stand_bound s (inv.standing.each j s b i)))) (λ k _ bk i. stand_bound s (inv.standing.each k s bk i)) k;
  }

  -- Cover

  abbrev footing : ℕ → List ℕ
  footing = footings c.rows c.old c.copying

  abbrev footing' : ℕ → List ℕ
  footing' = footings rows' c.old copying'

  at_debt : (a : ℕ) → In a (o ∷ t ∷ []) → In a (footing j)
  at_debt a = let at = copy_footing c.rows c.old c.copying j d owes in ⊎_elim (λ e. subst (λ z. In z (footing j)) (sym e) at.0) (⊎_elim (λ e. subst (λ z. In z (footing j)) (sym e) at.1) (λ n. absurd n))

  at_rows : (k a : ℕ) → In a (rows_of (c.rows k)) → In a (footing k)
  at_rows k a i = join_in (rows_of (c.rows k)) (rows_of_old (c.old k) ++ rows_of_copy (c.copying k)) a (inl i)

  -- callers stand where they stood
  stood : (k a : ℕ) → In a (footing' k) → In a (footing k)
  stood k a i = ⊎_elim
      (λ h. put_all c.rows j ss (λ k ss. In a (rows_of ss) → In a (footing k)) (⊎_elim (λ e. at_debt a (inl e)) (⊎_elim (λ e. at_debt a (inr (inl e))) (λ i. at_rows j a i))) (λ k _ i. at_rows k a i) k h)
      (λ h. join_in (rows_of (c.rows k)) (rows_of_old (c.old k) ++ rows_of_copy (c.copying k)) a (inr (join_in (rows_of_old (c.old k)) (rows_of_copy (c.copying k)) a (⊎_elim inl
      (λ g. inr (put_all c.copying j None (λ k x. In a (rows_of_copy x) → In a (rows_of_copy (c.copying k))) (λ n. absurd n) (λ _ _ i. i) k g)) (in_join (rows_of_old (c.old k)) (rows_of_copy (copying' k)) a h)))))
      (in_join (rows_of (rows' k)) (rows_of_old (c.old k) ++ rows_of_copy (copying' k)) a i)

  -- what a guard covers now it covered, or it is reached from the copy
  covers_bound : (k g r : ℕ) → Covers (ground_of (bound_by c j d)) k g r → Covers (ground_of c) k g r ⊎ ((ys : List ℕ) × IsPath c.words.link c.words.twin t ys r)
  covers_bound k g r v = ⊎_elim
      (λ p. inl (record { inside = v.inside; on = v.on; at = v.at; stands = stood k v.at v.stands; reaches = record { through = v.reaches.through; path = p } }))
      inr (path_bound c.words.link c.words.twin o t v.at r v.reaches.through v.reaches.path)

  guarded_bound : (r : ℕ) → IsGuarded (ground_of (bound_by c j d)) r → IsGuarded (ground_of c) r
  guarded_bound r v = ⊎_elim (λ h. (v.0, v.1, h))
      (λ (h : (ys : List ℕ) × IsPath c.words.link c.words.twin t ys r). let at = (copy_footing c.rows c.old c.copying j d owes).1 in let g = footing_covered (ground_of c) c.cut c.holding inv.cover j t b at in
      (j, g.0, record { inside = b; on = g.1.on; at = t; stands = at; reaches = record { through = h.0; path = h.1 } })) (covers_bound v.0 v.1 r v.2)

  nowhere : (xs : List ℕ) → ((a : ℕ) → In a xs → ⊥) → xs ≡ []
  nowhere [] empty = refl
  nowhere (x ∷ xs) empty = absurd (empty x (inl refl))

  cover_bound : Cover (ground_of (bound_by c j d)) c.cut c.holding
  cover_bound = record {
    free = λ k g r i v is. let w = guarded_bound r (k, g, v) in inv.cover.free w.0 w.1 r i w.2 is;
    tags = λ k g r u v has. ⊎_elim (λ h. inv.cover.tags k g r u h has) (λ h. absurd (untagged c inv r u (listed_path c inv t r h.0 in_list h.1) has)) (covers_bound k g r v);
    resting = λ k bk off. nowhere (footing' k) (λ a i. subst (In a) (inv.cover.resting k bk off) (stood k a i));
  }

  lanes_bound : Lanes c.start.layout c.shape (ground_of (bound_by c j d)) c.words.event
  lanes_bound = record {
    is_row = λ r v. inv.lanes.is_row r (guarded_bound r v);
    rises = λ r v. inv.lanes.rises r (guarded_bound r v);
    stays = λ r v. inv.lanes.stays r (guarded_bound r v);
    generation = λ r v. inv.lanes.generation r (guarded_bound r v);
    twins = λ r v. put_all c.words.twin o t (λ s z. IsGuarded (ground_of c) s → (c.words.link s).mark ≡ Mov → 0 < z → ((c.words.link z).generation ≡ (c.words.link s).generation + 1) × (c.words.event z ≡ c.words.event s))
        (λ _ _ _. (copy_here.generation, copy_here.event_is)) (λ s _. inv.lanes.twins s) r (guarded_bound r v);
  }

  bind_inv : Inv (bound_by c j d)
  bind_inv = record {
    spelled = record {
      is_control = inv.spelled.is_control;
      is_current = inv.spelled.is_current;
      is_pin = inv.spelled.is_pin;
      heads = inv.spelled.heads;
      links = inv.spelled.links;
      twins = put_all c.words.twin o t (λ r z. IsRow c.start.layout r → z ≤ c.start.layout.all) (λ _. row_t.1) (λ r _. inv.spelled.twins r);
      events = inv.spelled.events;
    };
    reading = inv.reading;
    finds = inv.finds;
    guards = inv.guards;
    holders = inv.holders;
    cutting = inv.cutting;
    stamps = inv.stamps;
    chains = record {
      leads = inv.chains.leads;
      twins = λ q r. put_all c.words.twin o t (λ r z. IsHead q → In r (c.chain q) → (z ≡ 0) ⊎ ((p : ℕ) × IsHead p × In z (c.chain p))) (λ _ _. inr in_list) (λ r _. inv.chains.twins q r) r;
    };
    cover = cover_bound;
    sizes = inv.sizes;
    dues = record { settles = inv.dues.settles; copies = λ k e bk is. inv.dues.copies k e bk (debt_was k e is).1; named = inv.dues.named };
    steady = inv.steady;
    heads = inv.heads;
    sorted = inv.sorted;
    marks = record {
      mark = inv.marks.mark;
      first = inv.marks.first;
      bare = put_all c.words.twin o t (λ s z. IsRow c.start.layout s → IsOutside c.holding s → ((c.words.link s).mark ≡ Mov → ⊥) → z ≡ 0) (λ _ _ not. absurd (not frozen)) (λ s _. inv.marks.bare s);
      aged = inv.marks.aged;
    };
    standing = standing_bound;
    copying = record { each = λ k s bk is. let f = inv.copying.each k s bk is in (stand_bound s f.0, f.1) };
    lanes = lanes_bound;
    writing = record {
      placed = inv.writing.placed;
      in_hand_is = inv.writing.in_hand_is;
      stands = λ k x bk i. ap (λ z. row_word (c.words.link x.row) z (c.words.event x.row) x.place)
          (twin_else x.row (apart c.holding o x.row (listed listed_o.0) (in_hand k) listed_o.1 (inv.holders.held k x.row bk (inv.writing.in_hand_is k x bk i)).1 (omega arith))) ∙ inv.writing.stands k x bk i;
    };
    naming = inv.naming;
    carriers = carriers_bound;
    told = inv.told;
    numbers = inv.numbers;
    settling = inv.settling;
    walkers = walkers_stood (present_of c) (takes_of c) c.words.link c.words.event j ss (λ s i. (s, inr (inr i), refl, refl)) inv.walkers;
    ahead = inv.ahead;
    bounds = inv.bounds;
    scarce = inv.scarce;
    refusals = inv.refusals;
    swept = inv.swept;
    helps = inv.helps;
    copies = record {
      bound = copies_bound.bound;
      one = copies_bound.one;
      owned = copies_bound.owned;
      apart = copies_bound.apart;
      alone = copies_bound.alone;
      left = λ r v. copies_bound.left r (guarded_bound r v);
      debt = copies_bound.debt;
    };
    rooms = record { ordered = inv.rooms.ordered; room = λ k e bk is. inv.rooms.room k e bk (debt_was k e is).1 };
    bare = inv.bare;
    unlinked = inv.unlinked;
    ends = inv.ends;
  }

-- Bind
pub bind_keeps : (c : Core) (j : ℕ) (d : CopyDebt) → j < c.start.layout.workers → c.copying j ≡ Some d → c.words.twin d.old ≡ 0 → Inv c → Inv (bound_by c j d)
bind_keeps c j d b owes none inv = bind_inv c inv j d b owes none
