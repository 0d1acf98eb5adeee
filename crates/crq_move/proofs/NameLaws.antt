-- What a pass names at run time still agrees once it leaves out dead rows that turned out not to be owed.
use Rattle.std.proofs.Common.{◌≡◌, ⊎_elim, inl, inr, ℕ, ◌==◌, ◌&&◌, ◌||◌, ltb, cond, false, List, Option, Some, None, is_some, refl, sym, ap, ◌∙◌, subst, true}
use Rattle.std.proofs.lemmas.Bool.{false≢true}
use Rattle.crq_base.specs.declared.event.Event.{Event}
use Rattle.crq_base.specs.declared.words.Link.{Link}
use Rattle.crq_base.specs.declared.words.Mark.TheVariants.{Mov}
use Rattle.crq_base.specs.declared.words.Control.{Control}
use Rattle.crq_rule.specs.declared.debts.CutDebt.{CutDebt}
use Rattle.crq_rule.specs.declared.debts.Debts.{Debts}
use Rattle.crq_rule.specs.declared.view.Stand.{Stand}
use Rattle.crq_rule.specs.Core.{DeadNames, moved_up, names_of, renamed}
use Rattle.crq_rule.specs.Ranks.{rank, at_head}
use Rattle.crq_rule.specs.ListKinds.{is_cell, is_beyond, is_other_front, relieved, relieved_names}
use Rattle.crq_rows.specs.Passes.{NamesLag, IsOwed}
use Rattle.crq_move.specs.Names.{unfronted, unfronted_names}

-- a name that isn't there
pub no_name : (o : Option CutDebt) → is_some o ≡ false → o ≡ None
no_name None none = refl
no_name (Some d) none = absurd (false≢true (sym none))

-- and one that is
pub some_name : (o : Option CutDebt) → is_some o ≡ true → (d : CutDebt) × (o ≡ Some d)
some_name None some = absurd (false≢true some)
some_name (Some d) some = (d, refl)

-- names that lag behind others still do once the same ones are left out of both
pub left_lags : (g : Option CutDebt → Option CutDebt) (run known : DeadNames) → g None ≡ None → NamesLag run known → NamesLag (moved_up (g run.first) (g run.second)) (moved_up (g known.first) (g known.second))
left_lags g run known none lag = ⊎_elim
    (⊎_elim
    (λ same. inl (inl (ap left same)))
    (λ up. subst (NamesLag (left run)) (sym (ap left up ∙ ap (λ o. moved_up (g run.second) o) none)) (by_second (g run.first) (g run.second))))
    (⊎_elim
    (λ kept. subst (NamesLag (left run)) (sym (ap left kept ∙ ap (λ o. moved_up (g run.first) o) none)) (by_first (g run.first) (g run.second)))
    (λ gone. inr (inr (ap left gone ∙ (λ i. moved_up (none i) (none i))))))
    lag
  where
    left : DeadNames → DeadNames
    left names = moved_up (g names.first) (g names.second)

    by_second : (a o : Option CutDebt) → NamesLag (moved_up a o) (moved_up o None)
    by_second None None = inl (inl refl)
    by_second None (Some d) = inl (inl refl)
    by_second (Some c) None = inl (inr refl)
    by_second (Some c) (Some d) = inl (inr refl)

    by_first : (a o : Option CutDebt) → NamesLag (moved_up a o) (moved_up a None)
    by_first None o = inr (inr refl)
    by_first (Some c) o = inr (inl refl)

-- of the names, the load of a frozen head leaves out those that are of another front of it
pub relieved_front : (x : Option Control) (q : ℕ) (ss : List Stand) (l : Link) (e : Event) (o : Option CutDebt) → l.mark ≡ Mov → relieved x (at_head q) ss l e o ≡ unfronted q l.row o
relieved_front x q ss l e None mov = refl
relieved_front x q ss l e (Some d) mov = λ i. cond ((is_cell (mov i) && ((l.generation == d.generation) && (is_beyond x (at_head q) ss d && ((l.row == 0) || ltb (rank d.event d.row) (rank e l.row))))) || is_other_front (at_head q) l d) None (Some d)

-- and so a pass that leaves them out too still owes what its caller does
pub fronts_owed : (x : Option Control) (q : ℕ) (ss : List Stand) (l : Link) (e : Event) (run known : Debts) → l.mark ≡ Mov → IsOwed run known
    → IsOwed (renamed run (unfronted_names q l.row (names_of run))) (renamed known (relieved_names x (at_head q) ss l e (names_of known)))
fronts_owed x q ss l e run known mov owed = record {
  settle = owed.settle;
  copy = owed.copy;
  names = subst (NamesLag (unfronted_names q l.row (names_of run))) (λ i. moved_up (sym (relieved_front x q ss l e known.cut mov) i) (sym (relieved_front x q ss l e known.second_cut mov) i)) (left_lags (unfronted q l.row) (names_of run) (names_of known) refl owed.names);
}
