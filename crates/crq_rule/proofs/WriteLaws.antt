-- Writing into a row in hand keeps the invariant: no guard covers the row, so all that is known of covered and listed rows stays.
use Rattle.std.proofs.Common.{◌≡◌, ◌≢◌, ◌⊎◌, ⊎_elim, inl, inr, ℕ, zero, suc, ◌<◌, ◌≤◌, cond, ◌&&◌, eqb, Bool, true, false, List, [], ◌∷◌, Some, sym, refl, ap, ◌∙◌, subst, arith, eq-eqb, ◌+◌}
use mathlib.Core.Logic.{dite}
use native.Mathlib.Decide.{ℕ_discrete}
use Rattle.crq_base.specs.declared.event.Event.{Event}
use Rattle.crq_base.specs.declared.words.Link.{Link}
use Rattle.crq_base.specs.declared.words.Mark.TheVariants.{Val, Inv as Invalid, Mov, Del}
use Rattle.crq_base.specs.Words.{IsLink}
use Rattle.crq_base.specs.Histories.{IsPending}
use Rattle.crq_base.specs.Lists.{In}
use Rattle.crq_rule.specs.declared.view.Guard.{Guard}
use Rattle.crq_rule.specs.declared.view.Stand.{Stand}
use Rattle.crq_rule.specs.declared.view.Wrote.{Wrote}
use Rattle.crq_rule.specs.Lists.{put}
use Rattle.crq_rule.specs.Places.{IsRow, IsHead}
use Rattle.crq_rule.specs.Core.{Core, IsOutside, HasName, in_hand, listed}
use Rattle.crq_rule.specs.Parts.{newest, Ground, ground_of, footings, IsEvent, IsGuarded, Leads, Names, IsPath, Reaches, Covers, rows_of}
use Rattle.crq_rule.specs.Ranks.{rank, list_in, Rises}
use Rattle.crq_rule.specs.ListParts.{ranks, MarkFits, StandFits, IsFinal, IsNamed, row_word}
use Rattle.crq_rule.specs.HistoryParts.{IsCarrying, IsLive, StandsFrom}
use Rattle.crq_rule.specs.Copies.{IsListed, Rows, IsBound, IsCopying, Copies}
use Rattle.crq_rule.specs.Invariant.{present_of, takes_of, rows_of_core, Inv}
use Rattle.crq_rule.specs.ListKinds.{Content, new_link, no_twin, new_time, new_source, new_sequence, new_load, IsContent, content_number, content_word, link_after, twin_after, event_after, unwritten, wrote, written_at}
use Rattle.crq_rule.proofs.SweepLaws.{swept_events}
use Rattle.crq_rule.proofs.Puts.{put_here, put_else, put_all}
use Rattle.crq_rule.proofs.PartLaws.{home_is_row, sort, of_whom}
use Rattle.crq_rule.specs.declared.debts.CutDebt.{CutDebt}
use Rattle.crq_rule.proofs.SearchLaws.{follow_rises}
use Rattle.crq_rule.proofs.WalkerLaws.{walkers_links}
use Rattle.crq_rule.proofs.SizeLaws.{sizes_rows}
use Rattle.crq_rule.proofs.SteadyLaws.{steady_rows}
use Rattle.crq_rule.proofs.CopyLaws.{twin_guarded, debt_guarded}
use Rattle.crq_rule.proofs.CoverLaws.{stand_row, old_footing, row_footing, names_covered, footing_covered}

-- Links and twins that change at the row r alone

module _ (link link' : ℕ → Link) (twin twin' : ℕ → ℕ) (r : ℕ) (same : (a : ℕ) → a ≢ r → link' a ≡ link a) (same' : (a : ℕ) → a ≢ r → twin' a ≡ twin a) where
  names_back : (a b : ℕ) → a ≢ r → Names link' twin' a b → Names link twin a b
  names_back a b ne names = (names.0, ⊎_elim (λ e. inl (ap (λ (l : Link). l.row) (sym (same a ne)) ∙ e)) (λ e. inr (sym (same' a ne) ∙ e)) names.1)

  names_on : (a b : ℕ) → a ≢ r → Names link twin a b → Names link' twin' a b
  names_on a b ne names = (names.0, ⊎_elim (λ e. inl (ap (λ (l : Link). l.row) (same a ne) ∙ e)) (λ e. inr (same' a ne ∙ e)) names.1)

  -- a path by the new ones is one by the old, where the old ones don't lead to r
  pub path_back : (a b : ℕ) (xs : List ℕ) → ((s : ℕ) → Reaches link twin a s → s ≢ r) → IsPath link' twin' a xs b → IsPath link twin a xs b
  path_back a b [] out path = path
  path_back a b (x ∷ xs) out path = let names = names_back a x (out a (record { through = []; path = refl })) path.0 in
      (names, path_back x b xs (λ s t. out s (record { through = x ∷ t.through; path = (names, t.path) })) path.1)

  pub path_stays : (a b : ℕ) (xs : List ℕ) → ((s : ℕ) → Reaches link twin a s → s ≢ r) → IsPath link twin a xs b → IsPath link' twin' a xs b
  path_stays a b [] out path = path
  path_stays a b (x ∷ xs) out path = let names = names_on a x (out a (record { through = []; path = refl })) path.0 in
      (names, path_stays x b xs (λ s t. out s (record { through = x ∷ t.through; path = (path.0, t.path) })) path.1)

  module _ (workers : ℕ) (guard : ℕ → Guard) (footing : ℕ → List ℕ) where
    abbrev ground : Ground
    ground = record { workers = workers; link = link; twin = twin; guard = guard; footing = footing }

    -- what the new ones cover was covered, where r wasn't
    pub covers_same : (k g s : ℕ) → ((x : ℕ) → Covers ground k g x → x ≢ r) → Covers (record ground { link = link'; twin = twin' }) k g s → Covers ground k g s
    covers_same k g s out v = record {
      inside = v.inside;
      on = v.on;
      at = v.at;
      stands = v.stands;
      reaches = record {
        through = v.reaches.through;
        path = path_back v.at s v.reaches.through (λ x t. out x (record { inside = v.inside; on = v.on; at = v.at; stands = v.stands; reaches = t })) v.reaches.path;
      };
    }

  -- a list without r
  pub leads_same : (a : ℕ) (xs : List ℕ) → ((s : ℕ) → In s xs → s ≢ r) → Leads link a xs → Leads link' a xs
  leads_same a [] out leads = leads
  leads_same a (x ∷ xs) out leads = (leads.0, leads_same (link' x).row xs (λ s i. out s (inr i)) (subst (λ (l : Link). Leads link l.row xs) (sym (same x (out x (inl refl)))) leads.1))

pub rises_same : (f g : ℕ → ℕ) (n : ℕ) (xs : List ℕ) → ((s : ℕ) → In s xs → g s ≡ f s) → Rises f n xs → Rises g n xs
rises_same f g n [] same up = tt
rises_same f g n (x ∷ xs) same up = let e = same x (inl refl) in (subst (λ z. n < z) (sym e) up.0, subst (λ z. Rises g z xs) (sym e) (rises_same f g (f x) xs (λ s i. same s (inr i)) up.1))

-- Contents

link_fits : (x : Content) (l : Link) → IsContent x → IsLink l → IsLink (link_after x l)
link_fits (new_link m) l is old = is
link_fits x l is old = old

twin_fits : (x : Content) (t m : ℕ) → t ≤ m → twin_after x t ≤ m
twin_fits no_twin t m old = omega arith
twin_fits x t m old = old

event_fits : (x : Content) (e : Event) → IsContent x → IsEvent e → IsEvent (event_after x e)
event_fits (new_time t d) e is old = record { time = is.0; dst = is.1; src = old.src; seq = old.seq; load = old.load }
event_fits (new_source s) e is old = record { time = old.time; dst = old.dst; src = is; seq = old.seq; load = old.load }
event_fits (new_sequence n) e is old = record { time = old.time; dst = old.dst; src = old.src; seq = is; load = old.load }
event_fits (new_load n) e is old = record { time = old.time; dst = old.dst; src = old.src; seq = old.seq; load = is }
event_fits x e is old = old

-- the content's word stands at its place, and the words at the others stay
word_new : (x : Content) (l : Link) (t : ℕ) (e : Event) → row_word (link_after x l) (twin_after x t) (event_after x e) (content_number x) ≡ content_word x
word_new (new_link m) l t e = refl
word_new no_twin l t e = refl
word_new (new_time a d) l t e = refl
word_new (new_source s) l t e = refl
word_new (new_sequence n) l t e = refl
word_new (new_load n) l t e = refl

word_else : (x : Content) (l : Link) (t : ℕ) (e : Event) (p : ℕ) → p < 6 → p ≢ content_number x → row_word (link_after x l) (twin_after x t) (event_after x e) p ≡ row_word l t e p
word_else (new_link m) l t e zero b ne = absurd (ne refl)
word_else x l t e zero b ne = refl
word_else no_twin l t e (suc zero) b ne = absurd (ne refl)
word_else x l t e (suc zero) b ne = refl
word_else (new_time a d) l t e (suc (suc zero)) b ne = absurd (ne refl)
word_else x l t e (suc (suc zero)) b ne = refl
word_else (new_source s) l t e (suc (suc (suc zero))) b ne = absurd (ne refl)
word_else x l t e (suc (suc (suc zero))) b ne = refl
word_else (new_sequence n) l t e (suc (suc (suc (suc zero)))) b ne = absurd (ne refl)
word_else x l t e (suc (suc (suc (suc zero)))) b ne = refl
word_else (new_load n) l t e (suc (suc (suc (suc (suc m))))) b ne = absurd (ne (omega arith))
word_else x l t e (suc (suc (suc (suc (suc m))))) b ne = refl

-- every place is one of six
pub number_low : (x : Content) → content_number x < 6
number_low (new_link l) = omega arith
number_low no_twin = omega arith
number_low (new_time t d) = omega arith
number_low (new_source s) = omega arith
number_low (new_sequence n) = omega arith
number_low (new_load n) = omega arith

differ : (a b : ℕ) → eqb a b ≡ false → a ≢ b
differ a b e q = let t : eqb a b ≡ true = eq-eqb a b q in absurd (cc)

-- what is left without the words at this place
pub in_unwritten : (r p : ℕ) (xs : List Wrote) (y : Wrote) → In y (unwritten r p xs) → In y xs × (y.row ≡ r → y.place ≢ p)
in_unwritten r p [] y i = absurd i
in_unwritten r p (x ∷ xs) y i = go (eqb x.row r) (eqb x.place p) refl refl (in_unwritten r p xs y) i
  where
    stays : (x.row ≡ r → x.place ≢ p) → (In y (unwritten r p xs) → In y xs × (y.row ≡ r → y.place ≢ p)) → In y (x ∷ unwritten r p xs) → In y (x ∷ xs) × (y.row ≡ r → y.place ≢ p)
    stays ne rest i = ⊎_elim (λ (e : y ≡ x). (inl e, λ a d. ne (ap (λ (z : Wrote). z.row) (sym e) ∙ a) (ap (λ (z : Wrote). z.place) (sym e) ∙ d))) (λ t. let h = rest t in (inr h.0, h.1)) i

    go : (b d : Bool) → eqb x.row r ≡ b → eqb x.place p ≡ d → (In y (unwritten r p xs) → In y xs × (y.row ≡ r → y.place ≢ p)) → In y (cond (b && d) (unwritten r p xs) (x ∷ unwritten r p xs)) → In y (x ∷ xs) × (y.row ≡ r → y.place ≢ p)
    go true true e f rest i = let h = rest i in (inr h.0, h.1)
    go false d e f rest i = stays (λ q _. differ x.row r e q) rest i
    go true false e f rest i = stays (λ _ q. differ x.place p f q) rest i

module _ (c : Core) (j r : ℕ) (x : Content) (b : j < c.start.layout.workers) (hand : In r (c.hand j)) (is : IsContent x) (inv : Inv c) where
  abbrev link : ℕ → Link
  link = put c.words.link r (link_after x (c.words.link r))

  abbrev twin : ℕ → ℕ
  twin = put c.words.twin r (twin_after x (c.words.twin r))

  abbrev event : ℕ → Event
  event = put c.words.event r (event_after x (c.words.event r))

  links_else : (a : ℕ) → a ≢ r → link a ≡ c.words.link a
  links_else = put_else c.words.link r (link_after x (c.words.link r))

  twins_else : (a : ℕ) → a ≢ r → twin a ≡ c.words.twin a
  twins_else = put_else c.words.twin r (twin_after x (c.words.twin r))

  events_else : (a : ℕ) → a ≢ r → event a ≡ c.words.event a
  events_else = put_else c.words.event r (event_after x (c.words.event r))

  held : c.holding r ≡ in_hand j
  held = (inv.holders.held j r b hand).1

  listed_else : (s q : ℕ) → c.holding s ≡ listed q → s ≢ r
  listed_else s q at e = let z : ◌≡◌ {A = ℕ} 1 0 = ap sort (sym at ∙ (ap c.holding e ∙ held)) in absurd (omega arith)

  chained_else : (q s : ℕ) → IsHead q → In s (c.chain q) → s ≢ r
  chained_else q s d i = listed_else s q (inv.holders.in_chain q s d i).1

  covered_else : (k g s : ℕ) → Covers (ground_of c) k g s → s ≢ r
  covered_else k g s v e = inv.cover.free k g s j v (ap c.holding e ∙ held)

  covers_old : (k g s : ℕ) → Covers (record (ground_of c) { link = link; twin = twin }) k g s → Covers (ground_of c) k g s
  covers_old k g s v = covers_same c.words.link link c.words.twin twin r links_else twins_else c.start.layout.workers c.guard (footings c.rows c.old c.copying) k g s (λ y. covered_else k g y) v

  on_stand : (k a : ℕ) → k < c.start.layout.workers → In a (rows_of (c.rows k)) → (g : ℕ) × Covers (ground_of c) k g a
  on_stand k a d i = footing_covered (ground_of c) c.cut c.holding inv.cover k a d (row_footing c.rows c.old c.copying k a i)

  stand_else : (k : ℕ) (s : Stand) → k < c.start.layout.workers → In s (c.rows k) → s.row ≢ r
  stand_else k s d i = let v = on_stand k s.row d (stand_row (c.rows k) s i) in covered_else k v.0 s.row v.1

  old_else : (k : ℕ) (s : Stand) → k < c.start.layout.workers → c.old k ≡ Some s → s.row ≢ r
  old_else k s d is = let v = footing_covered (ground_of c) c.cut c.holding inv.cover k s.row d (old_footing c.rows c.old c.copying k s is) in covered_else k v.0 s.row v.1

  stand_new : (s : Stand) → s.row ≢ r → StandFits c.words.head c.words.link c.words.twin c.words.event s → StandFits c.words.head link twin event s
  stand_new s ne was = record {
    holds = events_else s.row ne ∙ was.holds;
    of = ap (λ (l : Link). l.generation) (links_else s.row ne) ∙ was.of;
    last = λ l e. let h = was.last l e in (links_else s.row ne ∙ h.0, h.1);
    copy = λ t e. let h = was.copy t e in (twins_else s.row ne ∙ h.0, h.1);
    valid = λ v e. was.valid v (ap (λ (l : Link). l.mark) (sym (links_else s.row ne)) ∙ e);
    front = λ q e. ⊎_elim (λ final. inl (subst (λ (l : Link). IsFinal l.mark) (sym (links_else s.row ne)) final)) inr (was.front q e);
  }

  -- the row that the link of a covered row names
  next_else : (k g s : ℕ) → Covers (ground_of c) k g s → 0 < (c.words.link s).row → (c.words.link s).row ≢ r
  next_else k g s v above = covered_else k g (c.words.link s).row (names_covered (ground_of c) k g s (c.words.link s).row v (above, inl refl))

  guarded_old : (s : ℕ) → IsGuarded (record (ground_of c) { link = link; twin = twin }) s → IsGuarded (ground_of c) s
  guarded_old s v = (v.0, v.1, covers_old v.0 v.1 s v.2)

  outside_else : (s : ℕ) → IsOutside c.holding s → s ≢ r
  outside_else s out e = out j (ap c.holding e ∙ held)

  -- nor is it the twin of a listed row
  twin_else : (s q : ℕ) → IsRow c.start.layout s → c.holding s ≡ listed q → c.words.twin s ≢ r
  twin_else s q d at e = let o = inv.holders.of_chain q s d at in ⊎_elim
      (λ none. let some = (home_is_row c.start.layout j r b (inv.holders.held j r b hand).0).0 in absurd (omega arith))
      (λ (h : (p : ℕ) × IsHead p × In (c.words.twin s) (c.chain p)). chained_else h.0 (c.words.twin s) h.1 h.2 e) (inv.chains.twins q s o.0 o.1)

  carrying_same : (s q : ℕ) → IsRow c.start.layout s → c.holding s ≡ listed q
      → IsCarrying (link s).mark (twin s) (link (twin s)).mark ≡ IsCarrying (c.words.link s).mark (c.words.twin s) (c.words.link (c.words.twin s)).mark
  carrying_same s q d at = let ne = listed_else s q at in
      (λ i. IsCarrying (links_else s ne i).mark (twins_else s ne i) (link (twins_else s ne i)).mark) ∙ ap (λ (l : Link). IsCarrying (c.words.link s).mark (c.words.twin s) l.mark) (links_else (c.words.twin s) (twin_else s q d at))

  live_old : (s : ℕ) → IsLive c.start.layout link twin c.holding s → IsLive c.start.layout c.words.link c.words.twin c.holding s
  live_old s live = (live.0, live.1, subst (λ P. P) (carrying_same s live.1.0 live.0 live.1.1) live.2)

  live_new : (s : ℕ) → IsLive c.start.layout c.words.link c.words.twin c.holding s → IsLive c.start.layout link twin c.holding s
  live_new s live = (live.0, live.1, subst (λ P. P) (sym (carrying_same s live.1.0 live.0 live.1.1)) live.2)

  live_event : (s : ℕ) → IsLive c.start.layout c.words.link c.words.twin c.holding s → event s ≡ c.words.event s
  live_event s live = events_else s (listed_else s live.1.0 live.1.1)

  -- what is bound was so, and is no written row
  abbrev new_rows : Rows
  new_rows = record (rows_of_core c) { link = link; twin = twin; event = event }

  mark_is : (s : ℕ) → s ≢ r → (link s).mark ≡ (c.words.link s).mark
  mark_is s ne = ap (λ (l : Link). l.mark) (links_else s ne)

  else_listed : (s : ℕ) → IsListed c.holding s → s ≢ r
  else_listed s h = listed_else s h.0 h.1

  bound_was : (o u : ℕ) → IsBound new_rows o u → IsBound (rows_of_core c) o u
  bound_was o u h = let ne = else_listed o h.listed_is in record { row = h.row; listed_is = h.listed_is; frozen = sym (mark_is o ne) ∙ h.frozen; twin_is = sym (twins_else o ne) ∙ h.twin_is; some = h.some }

  bound_stays : (o u : ℕ) → IsBound (rows_of_core c) o u → IsBound new_rows o u
  bound_stays o u h = let ne = else_listed o h.listed_is in record { row = h.row; listed_is = h.listed_is; frozen = mark_is o ne ∙ h.frozen; twin_is = twins_else o ne ∙ h.twin_is; some = h.some }

  copying_same : (u : ℕ) → IsCopying (rows_of_core c) u → IsCopying new_rows u
  copying_same u h = record { who = h.who; inside = h.inside; owed = h.owed; debt = h.debt; copy = h.copy }

  copying_was : (u : ℕ) → IsCopying new_rows u → IsCopying (rows_of_core c) u
  copying_was u h = record { who = h.who; inside = h.inside; owed = h.owed; debt = h.debt; copy = h.copy }

  copies_written : Copies new_rows (record (ground_of c) { link = link; twin = twin })
  copies_written = let old = inv.copies in record {
    bound = λ o u h. let f = old.bound o u (bound_was o u h) in let ne = else_listed u f.listed_is in let no = else_listed o h.listed_is in record {
      row = f.row;
      listed_is = f.listed_is;
      mark = subst (λ (l : Link). (l.mark ≡ Invalid) ⊎ (l.mark ≡ Val)) (sym (links_else u ne)) f.mark;
      generation = ap (λ (l : Link). l.generation) (links_else u ne) ∙ (f.generation ∙ ap (λ (l : Link). l.generation + 1) (sym (links_else o no)));
      event_is = events_else u ne ∙ (f.event_is ∙ sym (events_else o no));
    };
    one = λ o p u h d. old.one o p u (bound_was o u h) (bound_was p u d);
    owned = λ u row out invalid. ⊎_elim (λ (h : (o : ℕ) × IsBound (rows_of_core c) o u). inl (h.0, bound_stays h.0 u h.1)) (λ h. inr (copying_same u h)) (old.owned u row out (sym (mark_is u (outside_else u out)) ∙ invalid));
    apart = λ o u h d. old.apart o u (bound_was o u h) (copying_was u d);
    alone = old.alone;
    left = λ s v frozen out. let g = guarded_old s v in let ne = covered_else g.0 g.1 s g.2 in let h = old.left s g (sym (mark_is s ne) ∙ frozen) out in let z = h.0 in
        let some : 0 < c.words.twin s = omega arith in let t = twin_guarded (ground_of c) s g some in let further = covered_else t.0 t.1 (c.words.twin s) t.2 in (
          (λ q. z (sym (twins_else s ne) ∙ q)),
          (λ q. h.1 (sym (mark_is (c.words.twin s) further) ∙ (ap (λ k. (link k).mark) (sym (twins_else s ne)) ∙ q))),
        );
    debt = λ k d b is. let f = old.debt k d b is in let v = debt_guarded c inv k d b is in let no = covered_else v.0.0 v.0.1 d.old v.0.2 in let ne = covered_else v.1.0 v.1.1 d.copy v.1.2 in record {
      last = links_else d.old no ∙ f.last;
      frozen = f.frozen;
      next = f.next;
      generation = ap (λ (l : Link). l.generation) (links_else d.copy ne) ∙ f.generation;
      old_event = events_else d.old no ∙ f.old_event;
      copy_event = events_else d.copy ne ∙ f.copy_event;
      mark = subst (λ (l : Link). (l.mark ≡ Invalid) ⊎ (l.mark ≡ Del)) (sym (links_else d.copy ne)) f.mark;
      other = λ q. f.other (sym (twins_else d.old no) ∙ q);
      open_is = λ q. let o = f.open_is (sym (twins_else d.old no) ∙ q) in (o.0, o.1, mark_is d.copy ne ∙ o.2);
    };
  }

  abbrev new_words : List Wrote
  new_words = wrote r (content_number x) (content_word x) (c.written j)

  write_kept : Inv (written_at c j r x)
  write_kept = record {
    spelled = record {
      is_control = inv.spelled.is_control;
      is_current = inv.spelled.is_current;
      is_pin = inv.spelled.is_pin;
      heads = inv.spelled.heads;
      links = put_all c.words.link r (link_after x (c.words.link r)) (λ s l. IsRow c.start.layout s → IsLink l) (λ d. link_fits x (c.words.link r) is (inv.spelled.links r d)) (λ s _. inv.spelled.links s);
      twins = put_all c.words.twin r (twin_after x (c.words.twin r)) (λ s t. IsRow c.start.layout s → t ≤ c.start.layout.all) (λ d. twin_fits x (c.words.twin r) c.start.layout.all (inv.spelled.twins r d)) (λ s _. inv.spelled.twins s);
      events = put_all c.words.event r (event_after x (c.words.event r)) (λ s e. IsRow c.start.layout s → IsEvent e) (λ d. event_fits x (c.words.event r) is (inv.spelled.events r d)) (λ s _. inv.spelled.events s);
    };
    reading = inv.reading;
    finds = inv.finds;
    guards = inv.guards;
    holders = inv.holders;
    cutting = inv.cutting;
    stamps = inv.stamps;
    chains = record {
      leads = λ q d. leads_same c.words.link link c.words.twin twin r links_else twins_else (c.words.head q).row (c.chain q) (λ s i. chained_else q s d i) (inv.chains.leads q d);
      twins = λ q s d i. subst (λ t. (t ≡ 0) ⊎ ((p : ℕ) × IsHead p × In t (c.chain p))) (sym (twins_else s (chained_else q s d i))) (inv.chains.twins q s d i);
    };
    cover = record {
      free = λ k g s i v. inv.cover.free k g s i (covers_old k g s v);
      tags = λ k g s t v. inv.cover.tags k g s t (covers_old k g s v);
      resting = inv.cover.resting;
    };
    sizes = sizes_rows _ _ _ _ _ _ _ _ _ (λ _ _. refl) (λ s _ out. inl (out, ap (λ (l : Link). l.generation) (links_else s (λ e. out j (ap c.holding e ∙ held))))) inv.sizes;
    dues = inv.dues;
    steady = steady_rows _ _ _ _ _ _ _ (λ s _ out. inl (out, ap (λ (l : Link). l.generation) (links_else s (λ e. out j (ap c.holding e ∙ held))))) inv.steady;
    heads = inv.heads;
    sorted = record {
      rises = λ q d. rises_same (ranks c.words.event) (ranks event) 0 (c.chain q) (λ s i. ap (λ e. rank e s) (events_else s (chained_else q s d i))) (inv.sorted.rises q d);
      belongs = λ q s d i. ap (list_in c.shape (c.words.head q).generation) (events_else s (chained_else q s d i)) ∙ inv.sorted.belongs q s d i;
      generation = λ q s d i. ap (λ (l : Link). l.generation) (links_else s (chained_else q s d i)) ∙ inv.sorted.generation q s d i;
    };
    marks = record {
      mark = put_all c.words.link r (link_after x (c.words.link r)) (λ s l. IsRow c.start.layout s → MarkFits (c.holding s) l.mark) (λ _. subst (λ h. MarkFits h (link_after x (c.words.link r)).mark) (sym held) tt) (λ s _. inv.marks.mark s);
      first = λ q s d at frozen. inv.marks.first q s d at (ap (λ (l : Link). l.mark) (sym (links_else s (listed_else s q at))) ∙ frozen);
      bare = λ s d out live. twins_else s (outside_else s out) ∙ inv.marks.bare s d out (λ m. live (ap (λ (l : Link). l.mark) (links_else s (outside_else s out)) ∙ m));
      aged = λ s d out. subst (λ (l : Link). l.mark ≡ Mov → l.generation < newest c.words.control) (sym (links_else s (outside_else s out))) (inv.marks.aged s d out);
    };
    standing = record { each = λ k s d i. stand_new s (stand_else k s d i) (inv.standing.each k s d i) };
    copying = record {
      each = λ k s d at. let o = inv.copying.each k s d at in let ne = old_else k s d at in (stand_new s ne o.0, ap (λ (l : Link). l.mark) (links_else s.row ne) ∙ o.1);
    };
    lanes = record {
      is_row = λ s v. inv.lanes.is_row s (guarded_old s v);
      rises = λ s v. let o = guarded_old s v in subst (λ (l : Link). 0 < l.row → ranks event s < ranks event l.row) (sym (links_else s (covered_else o.0 o.1 s o.2)))
          (λ above. subst (λ (e : Event). rank e s < ranks event (c.words.link s).row) (sym (events_else s (covered_else o.0 o.1 s o.2)))
          (subst (λ (e : Event). ranks c.words.event s < rank e (c.words.link s).row) (sym (events_else (c.words.link s).row (next_else o.0 o.1 s o.2 above))) (inv.lanes.rises s o above)));
      stays = λ s v. let o = guarded_old s v in subst (λ (l : Link). 0 < l.row → list_in c.shape l.generation (event l.row) ≡ list_in c.shape l.generation (event s)) (sym (links_else s (covered_else o.0 o.1 s o.2)))
          (λ above. ap (list_in c.shape (c.words.link s).generation) (events_else (c.words.link s).row (next_else o.0 o.1 s o.2 above)) ∙ (inv.lanes.stays s o above ∙ ap (list_in c.shape (c.words.link s).generation) (sym (events_else s (covered_else o.0 o.1 s o.2)))));
      generation = λ s v. let o = guarded_old s v in subst (λ (l : Link). 0 < l.row → (link l.row).generation ≡ l.generation) (sym (links_else s (covered_else o.0 o.1 s o.2)))
          (λ above. ap (λ (l : Link). l.generation) (links_else (c.words.link s).row (next_else o.0 o.1 s o.2 above)) ∙ inv.lanes.generation s o above);
      twins = λ s v frozen some. let o = guarded_old s v in let ne = covered_else o.0 o.1 s o.2 in let t = c.words.twin s in let same = twins_else s ne in
          let above : 0 < t = subst (λ z. 0 < z) same some in
          let apart = covered_else o.0 o.1 t (names_covered (ground_of c) o.0 o.1 s t o.2 (above, inr refl)) in
          let h = inv.lanes.twins s o (ap (λ (l : Link). l.mark) (sym (links_else s ne)) ∙ frozen) above in (
            ap (λ z. (link z).generation) same ∙ (ap (λ (l : Link). l.generation) (links_else t apart) ∙ (h.0 ∙ ap (λ (l : Link). l.generation + 1) (sym (links_else s ne)))),
            ap event same ∙ (events_else t apart ∙ (h.1 ∙ sym (events_else s ne))),
          );
    };
    writing = record {
      placed = λ k y. put_all c.written j new_words (λ k ys. k < c.start.layout.workers → In y ys → y.place < 6) (λ _ i. (wrote_in y i).1) (λ k _. inv.writing.placed k y) k;
      in_hand_is = λ k y. put_all c.written j new_words (λ k ys. k < c.start.layout.workers → In y ys → In y.row (c.hand k)) (λ _ i. (wrote_in y i).0) (λ k _. inv.writing.in_hand_is k y) k;
      stands = λ k y. put_all c.written j new_words (λ k ys. k < c.start.layout.workers → In y ys → row_word (link y.row) (twin y.row) (event y.row) y.place ≡ y.word) (λ _ i. written_new y i)
          (λ k ne d i. word_old k y d i (λ e _. ne (ap of_whom (sym (inv.holders.held k r d (subst (λ z. In z (c.hand k)) e (inv.writing.in_hand_is k y d i))).1 ∙ held)))) k;
    };
    naming = record {
      named = λ s q d at. subst (λ (z : Link × Event). z.0.mark ≡ Del → (k : ℕ) × (k < c.start.layout.workers) × ((n : CutDebt) × HasName (c.named k) n × IsNamed c.words.head n s z.1 z.0))
          (λ i. (sym (links_else s (listed_else s q at)) i, sym (events_else s (listed_else s q at)) i)) (inv.naming.named s q d at);
      place = inv.naming.place;
    };
    carriers = record {
      carried = λ e p. let h = inv.carriers.carried e p in (h.0, live_new h.0 h.1, live_event h.0 h.1 ∙ h.2);
      pending = λ s live. subst (IsPending c.history) (sym (live_event s (live_old s live))) (inv.carriers.pending s (live_old s live));
      one = λ s t live live' e. inv.carriers.one s t (live_old s live) (live_old t live') (sym (live_event s (live_old s live)) ∙ (e ∙ live_event t (live_old t live')));
    };
    told = inv.told;
    scarce = inv.scarce;
    refusals = inv.refusals;
    helps = inv.helps;
    copies = copies_written;
    rooms = inv.rooms;
    bare = inv.bare;
    unlinked = inv.unlinked;
    ends = inv.ends;
    swept = swept_events _ _ _ _ _ _ event (λ q s d i. events_else s (chained_else q s d i)) inv.swept;
    numbers = inv.numbers;
    bounds = inv.bounds;
    settling = inv.settling;
    ahead = inv.ahead;
    walkers = walkers_links (present_of c) (takes_of c) _ _ link event (λ k a d i. let v = on_stand k a d i in ap (λ (l : Link). l.generation) (links_else a (covered_else k v.0 a v.1))) (λ k g a e d i _. from_new k g a e d i) inv.walkers;
  }
    where
      wrote_in : (y : Wrote) → In y new_words → In y.row (c.hand j) × (y.place < 6)
      wrote_in y i = ⊎_elim (λ (e : y ≡ record { row = r; place = content_number x; word = content_word x }). subst (λ (z : Wrote). In z.row (c.hand j) × (z.place < 6)) (sym e) (hand, number_low x))
          (λ t. let h = (in_unwritten r (content_number x) (c.written j) y t).0 in (inv.writing.in_hand_is j y b h, inv.writing.placed j y b h)) i

      word_here : (p : ℕ) → row_word (link r) (twin r) (event r) p ≡ row_word (link_after x (c.words.link r)) (twin_after x (c.words.twin r)) (event_after x (c.words.event r)) p
      word_here p i = row_word (put_here c.words.link r (link_after x (c.words.link r)) i) (put_here c.words.twin r (twin_after x (c.words.twin r)) i) (put_here c.words.event r (event_after x (c.words.event r)) i) p

      word_there : (s p : ℕ) → s ≢ r → row_word (link s) (twin s) (event s) p ≡ row_word (c.words.link s) (c.words.twin s) (c.words.event s) p
      word_there s p ne i = row_word (links_else s ne i) (twins_else s ne i) (events_else s ne i) p

      -- what was written before stands, at another row or place
      word_old : (k : ℕ) (y : Wrote) → k < c.start.layout.workers → In y (c.written k) → (y.row ≡ r → y.place ≢ content_number x) → row_word (link y.row) (twin y.row) (event y.row) y.place ≡ y.word
      word_old k y d i apart = dite (ℕ_discrete y.row r)
          (λ e. subst (λ z. row_word (link z) (twin z) (event z) y.place ≡ row_word (c.words.link z) (c.words.twin z) (c.words.event z) y.place) (sym e)
          (word_here y.place ∙ word_else x (c.words.link r) (c.words.twin r) (c.words.event r) y.place (inv.writing.placed k y d i) (apart e)) ∙ inv.writing.stands k y d i)
          (λ ne. word_there y.row y.place ne ∙ inv.writing.stands k y d i)

      written_new : (y : Wrote) → In y new_words → row_word (link y.row) (twin y.row) (event y.row) y.place ≡ y.word
      written_new y i = ⊎_elim
          (λ (e : y ≡ record { row = r; place = content_number x; word = content_word x }). subst (λ (z : Wrote). row_word (link z.row) (twin z.row) (event z.row) z.place ≡ z.word) (sym e)
          (word_here (content_number x) ∙ word_new x (c.words.link r) (c.words.twin r) (c.words.event r)))
          (λ t. let h = in_unwritten r (content_number x) (c.written j) y t in word_old j y b h.0 h.1) i

      -- what stands from a row on which a caller stands does so still
      from_new : (k g a : ℕ) (e : Event) → k < c.start.layout.workers → In a (rows_of (c.rows k)) → StandsFrom c.words.link c.words.event g a e → StandsFrom link event g a e
      from_new k g a e d i old = let v = on_stand k a d i in let to = (follow_rises c inv k v.0 a old.row old.follows.through v.1 old.follows.path).1 in let ne = covered_else k v.0 old.row to in record {
        row = old.row;
        some_row = old.some_row;
        kept = subst (λ (l : Link). (l.mark ≡ Val) ⊎ (l.mark ≡ Mov)) (sym (links_else old.row ne)) old.kept;
        of = ap (λ (l : Link). l.generation) (links_else old.row ne) ∙ old.of;
        holds = events_else old.row ne ∙ old.holds;
        follows = record {
          through = old.follows.through;
          path = path_stays c.words.link link (λ _. 0) (λ _. 0) r links_else (λ _ _. refl) a old.row old.follows.through
              (λ s t. covered_else k v.0 s (follow_rises c inv k v.0 a s t.through v.1 t.path).1) old.follows.path;
        };
      }

-- Write
pub write_keeps : (c : Core) (j r : ℕ) (x : Content) → j < c.start.layout.workers → In r (c.hand j) → IsContent x → Inv c → Inv (written_at c j r x)
write_keeps = write_kept
