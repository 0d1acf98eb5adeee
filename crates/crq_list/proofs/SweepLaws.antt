-- A sweep goes on with each step, and passes the cell at which it is where that was found present.
use Rattle.std.proofs.Common.{◌≡◌, ⊎_elim, inl, inr, ℕ, ◌<◌, ◌≤◌, List, [], ◌∷◌, ◌++◌, length, drop, refl, sym, ap, ◌∙◌, subst, arith}
use Rattle.crq_base.specs.declared.event.Event.{Event}
use Rattle.crq_base.specs.declared.kinds.StepKind.TheVariants.{Walk, Cut}
use Rattle.crq_base.specs.declared.words.Link.{Link}
use Rattle.crq_base.specs.declared.words.Mark.{Mark}
use Rattle.crq_base.specs.declared.words.Mark.TheVariants.{Val, Del}
use Rattle.crq_base.specs.Words.{link_word}
use Rattle.crq_rule.specs.declared.layout.Layout.{Layout}
use Rattle.crq_rule.specs.declared.view.Made.{Made}
use Rattle.crq_rule.specs.declared.view.Caller.{Caller}
use Rattle.crq_rule.specs.Places.{index}
use Rattle.crq_rule.specs.Ranks.{rank, Cell, at_head, at_row, cell_place}
use Rattle.crq_rule.specs.ListKinds.{StandsOn}
use Rattle.crq_rows.specs.Passes.{load_made, step_made}
use Rattle.crq_rows.proofs.Knowing.{drop_snoc}
use Rattle.crq_list.specs.Spots.{SweptPast}
use Rattle.crq_list.specs.Sweeps.{FindsPresent, SweepsTo}

-- no steps are needed to be where it begins
pub sweep_begins : (l : Layout) (a : Cell) (ms : List Made) → SweepsTo l a ms a
sweep_begins l a [] = refl
sweep_begins l a (m ∷ ms) = inl (sweep_begins l a ms)

one_more : (l : Layout) (a b : Cell) (ms : List Made) (m : Made) → SweepsTo l a ms b → SweepsTo l a (ms ++ m ∷ []) b
one_more l a b [] m is = inl is
one_more l a b (x ∷ xs) m is = ⊎_elim (λ s. inl (one_more l a b xs m s)) (λ t. inr (t.0, t.1, one_more l (at_row t.0.row) b xs m t.2)) is

one_passed : (l : Layout) (a b : Cell) (ms : List Made) (m : Made) (found : Link) → FindsPresent l b m found → SweepsTo l a ms b → SweepsTo l a (ms ++ m ∷ []) (at_row found.row)
one_passed l a b [] m found finds is = inr (found, subst (λ c. FindsPresent l c m found) (sym is) finds, refl)
one_passed l a b (x ∷ xs) m found finds is = ⊎_elim (λ s. inl (one_passed l a b xs m found finds s)) (λ t. inr (t.0, t.1, one_passed l (at_row t.0.row) b xs m found finds t.2)) is

module _ (n : ℕ) (made made' : List Made) (m : Made) (is : made' ≡ made ++ m ∷ []) (begun : n ≤ length made) where
  since : drop n made' ≡ drop n made ++ m ∷ []
  since = ap (drop n) is ∙ drop_snoc n made m begun

  -- a step more leaves the sweep where it is
  pub sweep_stays : (l : Layout) (a b : Cell) → SweepsTo l a (drop n made) b → SweepsTo l a (drop n made') b
  sweep_stays l a b s = subst (λ ms. SweepsTo l a ms b) (sym since) (one_more l a b (drop n made) m s)

  -- or takes it on
  pub sweep_passes : (l : Layout) (a b : Cell) (found : Link) → FindsPresent l b m found → SweepsTo l a (drop n made) b → SweepsTo l a (drop n made') (at_row found.row)
  sweep_passes l a b found finds s = subst (λ ms. SweepsTo l a ms (at_row found.row)) (sym since) (one_passed l a b (drop n made) m found finds s)

-- a list that was swept past a row stays so with a step more, where the stand on the next row is kept
pub past_on : (n : ℕ) (l : Layout) (q : ℕ) (e : Event) (r : ℕ) (p p' : Caller) (m : Made) → p'.made ≡ p.made ++ m ∷ [] → n ≤ length p.made → ((t : ℕ) (f : Event) → rank e r < rank f t → StandsOn p.position.rows t f → StandsOn p'.position.rows t f)
    → SweptPast n l q e r p → SweptPast n l q e r p'
past_on n l q e r p p' m made counted keeps s = record {
  next = s.next;
  sweeps = sweep_stays n p.made p'.made m made counted l (at_head q) (at_row s.next) s.sweeps;
  ends = ⊎_elim inl (λ t. inr (t.0, keeps s.next t.0 t.2 t.1, t.2)) s.ends;
}

-- A worked example: the head names row 5, which is dead and is cut, and after that it names row 7, the last one

module _ (l : Layout) where
  abbrev found : ℕ → Mark → Link
  found row mark = record { generation = 1; row = row; mark = mark }

  abbrev loads : Cell → Link → Made
  loads cell link = load_made Walk (index l (cell_place cell)) (link_word link)

  present : (cell : Cell) (row : ℕ) → row < 8 → FindsPresent l cell (loads cell (found row Val)) (found row Val)
  present cell row low = record { load = refl; bits = record { generation = omega arith; row = omega arith }; present = refl }

  example : SweepsTo l (at_head 0) (loads (at_head 0) (found 5 Val) ∷ loads (at_row 5) (found 7 Del) ∷ step_made Cut (index l (cell_place (at_head 0))) (link_word (found 5 Val)) (link_word (found 7 Val)) (link_word (found 5 Val))
      ∷ loads (at_head 0) (found 7 Val) ∷ loads (at_row 7) (found 0 Val) ∷ []) (at_row 0)
  example = inl (inl (inl (inr (found 7 Val, present (at_head 0) 7 (omega arith), inr (found 0 Val, present (at_row 7) 0 (omega arith), refl)))))
