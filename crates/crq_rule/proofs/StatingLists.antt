-- The invariant that is kept implies what is stated of lists, carriers, the history and walkers.
use Rattle.std.proofs.Common.{◌≡◌, ◌⊎◌, ⊎_elim, inl, inr, ℕ, ◌^◌, ◌<◌, true, List, [], ◌∷◌, length, sym, refl, ap, ◌∙◌, subst, arith}
use Rattle.std.specs.Ordering.{nat_cmp, ordering_then, is_lt, MatchOrdering}
use Rattle.std.specs.declared.cmp.Ordering.{Ordering}
use Rattle.std.specs.declared.cmp.Ordering.TheVariants.{Less, Equal, Greater}
use Rattle.std.proofs.lemmas.Cmp.{ranked}
use Rattle.crq_base.specs.declared.event.Event.{Event}
use Rattle.crq_base.specs.declared.words.Mark.TheVariants.{Val, Inv as Invalid}
use Rattle.crq_base.specs.Histories.{outs, IsPending}
use Rattle.crq_base.proofs.HistoryLaws.{began_one}
use Rattle.crq_base.proofs.Verdicts.{contains_or}
use Rattle.crq_base.specs.Lists.{In}
use Rattle.crq_base.specs.declared.entry.Entry.TheVariants.{Begin}
use Rattle.crq_rule.specs.declared.view.Walk.{Walk}
use Rattle.crq_rule.specs.Places.{IsRow, IsHead}
use Rattle.crq_rule.specs.Core.{Core, IsOutside}
use Rattle.crq_rule.specs.Parts.{ground_of, IsEvent, Leads, Reaches}
use Rattle.crq_rule.specs.Ranks.{rank, Rises}
use Rattle.crq_rule.specs.ListParts.{ranks, MarkFits, IsShut}
use Rattle.crq_rule.specs.HistoryParts.{StandsFrom}
use Rattle.crq_rule.specs.Invariant.{Inv}
use Rattle.crq_rule.specs.Stated.{IsCovered, Precedes, Ascends, IsListOf, LeadsOn, IsInHand, ListsHold, CarriersHold, HistoryHolds, WalkersHold, IsKeptIn, IsShutHead}
use Rattle.crq_rule.specs.ListKinds.{is_cell}
use Rattle.crq_rule.proofs.HeadLaws.{cell_listed}
use Rattle.crq_rule.proofs.SteadyLaws.{open_is, next_is, next_ready, shut_is}
use Rattle.crq_rule.proofs.CoverLaws.{names_covered}
use Rattle.crq_rule.proofs.SearchLaws.{with_twins, stand_covered, own_walk, settled_left}

-- Order

-- a lesser rank is a lesser key, or the same key and a lesser row
rank_precedes : (e f : Event) (r s : ℕ) → IsEvent e → IsEvent f → r < 2 ^ 24 → s < 2 ^ 24 → rank e r < rank f s → Precedes e r f s
unfolding rank
rank_precedes e f r s fits fits' low low' less = go (nat_cmp e.time f.time) (nat_cmp e.src f.src) (nat_cmp e.seq f.seq) (ranked e.time f.time _ refl) (ranked e.src f.src _ refl) (ranked e.seq f.seq _ refl)
  where
    go : (a b c : Ordering) → MatchOrdering a (e.time < f.time) (e.time ≡ f.time) (f.time < e.time) → MatchOrdering b (e.src < f.src) (e.src ≡ f.src) (f.src < e.src)
        → MatchOrdering c (e.seq < f.seq) (e.seq ≡ f.seq) (f.seq < e.seq)
        → (is_lt (ordering_then (ordering_then a b) c) ≡ true) ⊎ ((ordering_then (ordering_then a b) c ≡ Equal) × (r < s))
    go Less b c t x q = inl refl
    go Equal Less c t x q = inl refl
    go Equal Equal Less t x q = inl refl
    go Equal Equal Equal t x q = inr (refl, omega arith)
    go Equal Equal Greater t x q = absurd (omega arith)
    go Equal Greater c t x q = absurd (let u = fits'.seq in omega arith)
    go Greater b c t x q = absurd (let u = fits'.src in let v = fits'.seq in omega arith)

-- 5. Lists

module _ (c : Core) (inv : Inv c) where
  row_precedes : (r s : ℕ) → IsRow c.start.layout r → IsRow c.start.layout s → ranks c.words.event r < ranks c.words.event s → Precedes (c.words.event r) r (c.words.event s) s
  row_precedes r s a b less = let fit = c.start.layout.all_fit in let x = a.1 in let y = b.1 in
      rank_precedes (c.words.event r) (c.words.event s) r s (inv.spelled.events r a) (inv.spelled.events s b) (omega arith) (omega arith) less

  ascends : (n : ℕ) (rs : List ℕ) → ((r : ℕ) → In r rs → IsRow c.start.layout r) → Rises (ranks c.words.event) n rs → Ascends c.words.event rs
  ascends n [] rows up = tt
  ascends n (r ∷ []) rows up = tt
  ascends n (r ∷ s ∷ rs) rows up = (row_precedes r s (rows r (inl refl)) (rows s (inr (inl refl))) up.1.0, ascends (ranks c.words.event r) (s ∷ rs) (λ x i. rows x (inr i)) up.1)

  list_of : (q : ℕ) → IsHead q → IsListOf c q (c.chain q)
  list_of q b = record {
    leads = inv.chains.leads q b;
    holds = λ r. (inv.holders.in_chain q r b, λ h. (inv.holders.of_chain q r h.0 h.1).1);
    ascends = ascends 0 (c.chain q) (λ r i. (inv.holders.in_chain q r b i).0) (inv.sorted.rises q b);
    generation = λ r. inv.sorted.generation q r b;
    belongs = λ r. inv.sorted.belongs q r b;
  }

  -- from row 0 links lead through no rows
  no_rows : (q : ℕ) (rs : List ℕ) → IsHead q → ((r : ℕ) → In r rs → IsRow c.start.layout r) → (c.words.head q).row ≡ 0 → Leads c.words.link (c.words.head q).row rs → rs ≡ []
  no_rows q [] b rows none l = refl
  no_rows q (r ∷ rs) b rows none l = let first = l.0 in let some = (rows r (inl refl)).0 in absurd (omega arith)

  leads_on : (k g r : ℕ) → IsCovered c k g r → 0 < (c.words.link r).row → LeadsOn c r (c.words.link r).row
  leads_on k g r v some = record {
    precedes = row_precedes r (c.words.link r).row (inv.lanes.is_row r (k, g, v)) (inv.lanes.is_row (c.words.link r).row (k, g, names_covered (ground_of c) k g r (c.words.link r).row v (some, inl refl))) (inv.lanes.rises r (k, g, v) some);
    same_list = inv.lanes.stays r (k, g, v) some;
    generation = inv.lanes.generation r (k, g, v) some;
  }

  out_of_hand : (r : ℕ) → (IsInHand c r → ⊥) → IsOutside c.holding r
  out_of_hand r out j held = out (j, held)

  of_list : (r : ℕ) → IsRow c.start.layout r → ((c.words.link r).mark ≡ Val) ⊎ ((c.words.link r).mark ≡ Invalid) → (IsInHand c r → ⊥) → (q : ℕ) × IsHead q × In r (c.chain q)
  of_list r b cell out = let at = cell_listed (c.holding r) (c.words.link r).mark (⊎_elim (λ val. ap is_cell val) (λ invalid. ap is_cell invalid) cell) (out_of_hand r out) (inv.marks.mark r b) in let o = inv.holders.of_chain at.0 r b at.1 in (at.0, o.0, o.1)

  -- a shut head has no list
  shut_list : (q : ℕ) → IsHead q → IsShut c.words.control.generation q (c.words.head q) → IsShutHead c.words.control (c.words.head q) × (c.chain q ≡ [])
  shut_list q b shut = ((shut.mark, shut.empty, shut.older), no_rows q (c.chain q) b (λ r i. (inv.holders.in_chain q r b i).0) shut.empty (inv.chains.leads q b))

  pub lists_hold : ListsHold c
  lists_hold = record {
    shaped = inv.sizes.now.size;
    shaped_next = inv.sizes.now.next;
    opened = λ q b o. (open_is c inv q b o, list_of q b);
    next = λ q b n. ⊎_elim (λ ready. inl ((ready.1, ready.0), list_of q b)) (λ shut. inr (shut_list q b shut)) (next_is c inv q b n);
    order = λ p q a b o frozen n. let ready = next_ready c inv p q a b o frozen n in (ready.1, ready.0);
    shut = λ q b o n. shut_list q b (shut_is c inv q b o n);
    covered = λ k g r v. (inv.lanes.is_row r (k, g, v), leads_on k g r v);
    -- a copy that isn't valid yet is listed too
    marked = λ r q b is. inv.marks.first q r b is;
    present = of_list;
    cut = λ r j b is. subst (λ h. MarkFits h (c.words.link r).mark) is (inv.marks.mark r b);
    retired = λ r t b is. subst (λ h. MarkFits h (c.words.link r).mark) is (inv.marks.mark r b);
    twins = λ r b out. inv.marks.bare r b (out_of_hand r out);
    named = λ r q b is dead. let n = inv.naming.named r q b is dead in (n.0, n.1, (n.2.0, n.2.1, n.2.2.row, n.2.2.event));
  }

  -- 6. Carriers

  pub carriers_hold : CarriersHold c
  carriers_hold = record {
    carried = λ e p. let x = inv.carriers.carried e p in (x.0, (x.1, x.2), λ s h. inv.carriers.one s x.0 h.0 x.1 (h.1 ∙ sym x.2));
    pending = λ e r h. subst (IsPending c.history) h.1 (inv.carriers.pending r h.0);
  }

  -- 7. History

  pub history_holds : HistoryHolds c
  history_holds = record {
    legal = inv.told.legal;
    since = inv.told.since;
    extends = inv.told.extends;
    own = inv.told.each;
    callers = inv.told.inside;
    sources = inv.told.sourced;
    owed = inv.settling.owed;
    unsettled = inv.settling.unsettled;
    tables = inv.numbers.tables;
    raising = inv.numbers.raising;
  }

  -- 8. Walkers

  -- such a row is reached by links and twins too
  from_kept : (k : ℕ) (w : Walk) (g : ℕ) (e : Event) → StandsFrom c.words.link c.words.event g w.at e → (r : ℕ) × (0 < w.at) × IsKeptIn c g e r × Reaches c.words.link c.words.twin w.at r
  from_kept k w g e from = (
    from.row,
    from.some_row,
    (from.kept, from.of, from.holds),
    record { through = from.follows.through; path = with_twins c.words.link c.words.twin w.at from.row from.follows.through from.follows.path },
  )

  pub walkers_hold : WalkersHold c
  walkers_hold = record {
    above = λ k s front e take ends began settled due. let from = inv.told.began k take.inside ends in
        (settled_left c inv k s front (Begin k ∷ began.back) e take.inside take.sees began.parts (ap length (began_one k c.history front from.0 began from.2) ∙ from.1) settled due.kept).late;
    ahead = λ k s e take same table. (inv.walkers.seen k s take.inside take.sees).ahead same table e;
    owed = λ k i s d take. (inv.walkers.seen k s take.inside take.sees).owed i d;
    at = λ k w b is. let t = inv.walkers.walked k w b is in (t.0, t.1, t.2.head.0, t.2.head.1, ⊎_elim inl (λ i. inr (stand_covered c inv k w.at b i.0)) t.2.at_stand);
    of = λ k b s w walks. (own_walk c inv k s w walks.inside walks.sees walks.walks).of b;
    left = λ k s w e walks head sought due. from_kept k w s.table.generation e ((own_walk c inv k s w walks.inside walks.sees walks.walks).left e due.put due.pending.kept head sought);
    ended = λ k s w e walks none head sought put. ⊎_elim (λ o. o)
        (λ kept. let from = (own_walk c inv k s w walks.inside walks.sees walks.walks).left e put kept head sought in let some = from.some_row in absurd (omega arith)) (contains_or (outs c.history) e);
    done = λ k s w e walks none low due. (own_walk c inv k s w walks.inside walks.sees walks.walks).done none e due.put due.pending.kept low;
  }
