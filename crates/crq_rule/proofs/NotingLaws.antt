-- One listed row gets another mark, and the caller that changed it notes that at its stands: what the invariant needs then.
use Rattle.std.proofs.Common.{◌≡◌, ◌⊎◌, ⊎_elim, inl, inr, true, eqb, ℕ, ◌<◌, List, [], ◌∷◌, ◌++◌, Option, Some, sym, refl, ap, ◌∙◌, subst, arith}
use Rattle.std.proofs.lemmas.Bool.{cond_both, false≢true}
use Rattle.std.proofs.lemmas.Option.{same_Some}
use Rattle.crq_base.specs.declared.event.Event.{Event}
use Rattle.crq_base.specs.declared.words.Link.{Link}
use Rattle.crq_base.specs.declared.words.Mark.{Mark}
use Rattle.crq_base.specs.declared.words.Mark.TheVariants.{Val, Inv as Invalid, Mov, Del}
use Rattle.crq_base.specs.Lists.{In}
use Rattle.crq_rule.specs.declared.debts.CopyDebt.{CopyDebt}
use Rattle.crq_rule.specs.declared.view.Sight.{Sight}
use Rattle.crq_rule.specs.declared.view.Stand.{Stand}
use Rattle.crq_rule.specs.declared.view.Walk.{Walk}
use Rattle.crq_rule.specs.Lists.{put}
use Rattle.crq_rule.specs.Places.{IsRow, IsHead}
use Rattle.crq_rule.specs.Core.{Core, DeadNames, Holding, in_hand, listed}
use Rattle.crq_rule.specs.Parts.{newest, ground_of, IsGuarded, Leads, footings, rows_of, rows_of_old, rows_of_copy}
use Rattle.crq_rule.specs.ListParts.{Dues, StandFits, Naming, IsFinal, MarkFits, IsOldHead}
use Rattle.crq_rule.specs.Steady.{Steady}
use Rattle.crq_rule.specs.HistoryParts.{Carriers, Present, Takes, Walks, walking, Walkers}
use Rattle.crq_rule.specs.Copies.{Copies, Rooms}
use Rattle.crq_rule.specs.Invariant.{present_of, takes_of, rows_of_core, Inv}
use Rattle.crq_rule.specs.ListKinds.{is_final, is_inv, noted_stand, noted}
use Rattle.crq_rule.proofs.Puts.{put_here, put_else, put_all}
use Rattle.crq_rule.proofs.PartLaws.{apart}
use Rattle.crq_rule.proofs.CoverLaws.{cover_less, covered_less, stand_row}
use Rattle.crq_rule.proofs.StandLaws.{lanes_less}
use Rattle.crq_rule.proofs.Standings.{in_noted, noted_rows, in_join, join_in}
use Rattle.crq_rule.proofs.WithoutLaws.{first_in}
use Rattle.crq_rule.proofs.WalkerLaws.{walkers_links, walkers_at}
use Rattle.crq_rule.proofs.SizeLaws.{sizes_rows}
use Rattle.crq_rule.proofs.SteadyLaws.{steady_rows, listed_head}
use Rattle.crq_rule.proofs.CopyLaws.{copies_before}
use Rattle.crq_rule.proofs.CopyMarks.{marked_as, marked_row, marked_generation, Marking, not_mov}
use Rattle.crq_rule.proofs.MarkLaws.{covers_same, spelled_marked, chains_marked, sorted_marked, writing_marked, marks_marked, cover_marked, lanes_marked, stand_marked, copying_marked, stands_marked}

-- Stands with a note

final_is : (m : Mark) → is_final m ≡ true → IsFinal m
final_is Val e = absurd (false≢true e)
final_is Invalid e = absurd (false≢true e)
final_is Mov e = tt
final_is Del e = tt

-- a stand on a row fits with the note of its link
pub noted_fits : (head link : ℕ → Link) (twin : ℕ → ℕ) (event : ℕ → Event) (s : Stand) (l : Link) → link s.row ≡ l → StandFits head link twin event s → StandFits head link twin event (noted_stand l s)
noted_fits head link twin event s l found was = record {
  holds = was.holds;
  of = was.of;
  last = λ m. cond_both (is_final l.mark) (Some l) s.last (λ o. o ≡ Some m → (link s.row ≡ m) × IsFinal m.mark)
      (λ yes e. let same = same_Some l m e in (found ∙ same, subst (λ (z : Link). IsFinal z.mark) same (final_is l.mark yes))) (λ _. was.last m);
  copy = was.copy;
  valid = cond_both (is_inv l.mark) s.valid true (λ b. b ≡ true → (link s.row).mark ≡ Invalid → ⊥) (λ _. was.valid)
      (λ no _ e. false≢true (sym no ∙ ap is_inv (ap (λ (z : Link). z.mark) (sym found) ∙ e)));
  front = was.front;
}

-- each stand is there with the note of a link or without it, on the same row and event
noted_in : (r : ℕ) (l : Link) (ss : List Stand) (s : Stand) → In s ss → (t : Stand) × In t (noted r l ss) × (t.row ≡ s.row) × (t.event ≡ s.event)
noted_in r l [] s i = absurd i
noted_in r l (x ∷ xs) s i = ⊎_elim
    (λ (e : s ≡ x). cond_both (eqb x.row r) (noted_stand l x) x (λ z. (t : Stand) × In t (z ∷ noted r l xs) × (t.row ≡ s.row) × (t.event ≡ s.event))
    (λ _. (noted_stand l x, inl refl, ap (λ (z : Stand). z.row) (sym e), ap (λ (z : Stand). z.event) (sym e))) (λ _. (x, inl refl, ap (λ (z : Stand). z.row) (sym e), ap (λ (z : Stand). z.event) (sym e))))
    (λ h. let t = noted_in r l xs s h in (t.0, inr t.1, t.2, t.3)) i

-- What a take that walks knows stays where its caller comes to stand on these rows, if each row on which it stood is there with its event
module _ (now : Present) (takes : Takes) (link : ℕ → Link) (event : ℕ → Event) (j : ℕ) (ss : List Stand) (all : (s : Stand) → In s (takes.rows j) → (t : Stand) × In t ss × (t.row ≡ s.row) × (t.event ≡ s.event)) where
  abbrev takes' : Takes
  takes' = record takes { rows = put takes.rows j ss }

  rows_there : (xs : List Stand) (r : ℕ) → In r (rows_of xs) → ((s : Stand) → In s xs → (t : Stand) × In t ss × (t.row ≡ s.row) × (t.event ≡ s.event)) → In r (rows_of ss)
  rows_there [] r i to = absurd i
  rows_there (x ∷ xs) r i to = ⊎_elim (λ (e : r ≡ x.row). let t = to x (inl refl) in subst (λ z. In z (rows_of ss)) (t.2 ∙ sym e) (stand_row ss t.0 t.1)) (λ h. rows_there xs r h (λ s k. to s (inr k))) i

  walks_stood : (s : Sight) (w : Walk) → Walks now.history link event (walking takes j s w) → Walks now.history link event (walking takes' j s w)
  walks_stood s w v = record {
    head = v.head;
    of = v.of;
    at_stand = ⊎_elim inl (λ h. inr (subst (λ (z : List Stand). In w.at (rows_of z)) (sym (put_here takes.rows j ss)) (rows_there (takes.rows j) w.at h.0 all), h.1)) v.at_stand;
    left = v.left;
    done = v.done;
    least = λ x e is. let o = v.least x e is in let t = all o.0.0 o.0.1 in ((t.0, subst (In t.0) (sym (put_here takes.rows j ss)) t.1, t.2 ∙ o.0.2, t.3 ∙ o.0.3), o.1);
  }

  -- and so does what is known of all takes
  pub walkers_stood : Walkers now takes link event → Walkers now takes' link event
  walkers_stood old = walkers_at now takes link event j takes' (λ k ne i. (takes.begun k, takes.read k, takes.sight k, takes.walk k, put_else takes.rows j ss k ne i))
      (λ s. old.seen j s) (λ w b is. let v = old.walked j w b is in (v.0, v.1, walks_stood v.0 w v.2)) old

-- The row r comes to have the mark m, and the caller j notes it

module _ (c : Core) (j r : ℕ) (m : Mark) (copying' : ℕ → Option CopyDebt) (named' : ℕ → DeadNames) where
  abbrev new_link : Link
  new_link = record (c.words.link r) { mark = m }

  abbrev links : ℕ → Link
  links = marked_as c.words.link r m

  abbrev now_rows : List Stand
  now_rows = noted r new_link (c.rows j)

  abbrev pub noting : Core
  noting = record c { words = record c.words { link = links }; rows = put c.rows j now_rows; copying = copying'; named = named' }

  abbrev stands : ℕ → List ℕ
  stands = footings (put c.rows j now_rows) c.old copying'

  module _ (fewer : (k a : ℕ) → In a (rows_of_copy (copying' k)) → In a (rows_of_copy (c.copying k))) where
    -- callers stand where they stood
    stands_before : (k a : ℕ) → In a (stands k) → In a (footings c.rows c.old c.copying k)
    stands_before k a i = join_in (rows_of (c.rows k)) (rows_of_old (c.old k) ++ rows_of_copy (c.copying k)) a (⊎_elim
        (λ (h : In a (rows_of (put c.rows j now_rows k))). inl (put_all c.rows j now_rows (λ i ss. In a (rows_of ss) → In a (rows_of (c.rows i))) (subst (In a) (noted_rows r new_link (c.rows j))) (λ _ _ h. h) k h))
        (λ (h : In a (rows_of_old (c.old k) ++ rows_of_copy (copying' k))). inr (join_in (rows_of_old (c.old k)) (rows_of_copy (c.copying k)) a (⊎_elim inl (λ g. inr (fewer k a g)) (in_join (rows_of_old (c.old k)) (rows_of_copy (copying' k)) a h))))
        (in_join (rows_of (put c.rows j now_rows k)) (rows_of_old (c.old k) ++ rows_of_copy (copying' k)) a i))

    guarded_before : (s : ℕ) → IsGuarded (ground_of noting) s → IsGuarded (ground_of c) s
    guarded_before s v = (v.0, v.1, covers_same c.words.link links (marked_row c.words.link r m) (ground_of c) refl v.0 v.1 s (covered_less (record (ground_of c) { link = links }) stands stands_before v.0 v.1 s v.2))

    -- what the invariant needs of the change, besides
    pub noted_keeps : Marking (rows_of_core c) r m → (m ≡ Mov → ((q : ℕ) → c.holding r ≡ listed q → ((c.words.head q).mark ≡ Mov) × ((c.words.head q).row ≡ r)) × ((c.words.link r).generation < newest c.words.control))
        → ((c.words.link r).mark ≡ Val → (m ≡ Val) ⊎ (m ≡ Mov)) → Dues c.start.layout.workers c.words.control c.shape c.settling copying' named'
        → Steady c.start c.words.control c.words.link c.holding named' → Naming c.start.layout c.words.head links c.words.event named' c.holding → Carriers c.start.layout c.history links c.words.twin c.words.event c.holding
        → Copies (record (rows_of_core c) { link = links; copying = copying' }) (ground_of c) → Rooms c.start.layout.workers copying' named' → Inv c → Inv noting
    noted_keeps f front kept dues steady naming carriers copies rooms inv = let y = c.start.layout in let x = c.shape in let k = c.words.link in let t = c.words.twin in let v = c.words.event in let h = c.holding in record {
      spelled = record {
        is_control = inv.spelled.is_control;
        is_current = inv.spelled.is_current;
        is_pin = inv.spelled.is_pin;
        heads = inv.spelled.heads;
        links = spelled_marked y x k t v h r m inv.spelled.links;
        twins = inv.spelled.twins;
        events = inv.spelled.events;
      };
      reading = inv.reading;
      finds = inv.finds;
      guards = inv.guards;
      holders = inv.holders;
      cutting = inv.cutting;
      stamps = inv.stamps;
      chains = chains_marked y x k t v h r m _ _ inv.chains;
      cover = cover_less _ _ _ stands stands_before (cover_marked y x k t v h r m _ _ _ inv.cover);
      sizes = sizes_rows _ _ _ _ _ _ _ _ _ (λ _ _. refl) (λ s _ out. inl (out, marked_generation k r m s)) inv.sizes;
      dues = dues;
      steady = steady_rows _ _ _ _ _ _ _ (λ s _ out. inl (out, marked_generation k r m s)) steady;
      heads = inv.heads;
      sorted = sorted_marked y x k t v h r m _ _ inv.sorted;
      marks = marks_marked y x k t v h r m _ _ (subst (λ (z : Holding). MarkFits z m) (sym f.is_listed.1) tt) (not_mov (k r).mark f.was) front inv.marks;
      standing = record {
        each = λ i s. put_all c.rows j now_rows (λ i ss. i < c.start.layout.workers → In s ss → StandFits c.words.head links t v s)
            (λ b a. ⊎_elim (λ a. stays j s b a) (λ a. subst (StandFits c.words.head links t v) (sym a.3)
            (noted_fits c.words.head links t v a.0 new_link (ap links a.2 ∙ put_here k r new_link) (stays j a.0 b a.1))) (in_noted r new_link (c.rows j) s a))
            (λ i _ b a. stays i s b a) i;
      };
      copying = copying_marked y x k t v h r m f.was f.no_inv _ _ _ inv.copying;
      lanes = lanes_less _ _ _ _ stands stands_before (lanes_marked y x k t v h r m _ _ (λ _. f.lone) inv.lanes);
      writing = writing_marked y x k t v h r m _ _ _ (λ i s a at. apart c.holding r s (listed f.is_listed.0) (in_hand i) f.is_listed.1 (inv.holders.held i s a at).1 (omega arith)) inv.writing;
      naming = naming;
      carriers = carriers;
      told = inv.told;
      numbers = inv.numbers;
      settling = inv.settling;
      walkers = walkers_stood (present_of c) (takes_of c) links v j now_rows (noted_in r new_link (c.rows j))
          (walkers_links (present_of c) (takes_of c) k v links v (λ _ s _ _. marked_generation k r m s) (λ _ g at e _ _ _. stands_marked y x k t v h r m f.was f.no_inv kept g at e) inv.walkers);
      ahead = inv.ahead;
      bounds = inv.bounds;
      scarce = inv.scarce;
      refusals = inv.refusals;
      swept = inv.swept;
      helps = inv.helps;
      copies = copies_before _ _ _ guarded_before copies;
      rooms = rooms;
      bare = inv.bare;
      unlinked = inv.unlinked;
      ends = inv.ends;
    }
      where
        stays : (i : ℕ) (s : Stand) → i < c.start.layout.workers → In s (c.rows i) → StandFits c.words.head links c.words.twin c.words.event s
        stays i s b a = stand_marked c.start.layout c.shape c.words.link c.words.twin c.words.event c.holding r m f.was f.no_inv c.words.head s (inv.standing.each i s b a)

-- The first row of a frozen head

module _ (c : Core) (inv : Inv c) (r q : ℕ) (row : IsRow c.start.layout r) (is_head : IsHead q) (frozen : (c.words.head q).mark ≡ Mov) (first : (c.words.head q).row ≡ r) where
  pub front_in : In r (c.chain q)
  front_in = first_in c.words.link r (c.chain q) row.0 (subst (λ z. Leads c.words.link z (c.chain q)) first (inv.chains.leads q is_head))

  pub front_held : c.holding r ≡ listed q
  front_held = (inv.holders.in_chain q r is_head front_in).1

  -- that head is one of the open table, and so is the row
  pub front_open : IsOldHead c.words.control c.shape q × ((c.words.link r).generation ≡ c.words.control.generation)
  front_open = ⊎_elim (λ h. h)
      (λ n. absurd (⊎_elim (λ p. mov_val (sym frozen ∙ p.1)) (λ s. let some = row.0 in let none = s.empty in let same = first in omega arith) (inv.heads.new q is_head n.0)))
      (listed_head c inv q r is_head front_in)
    where
      mov_val : Mov ≡ Val → ⊥
      mov_val e = cc
