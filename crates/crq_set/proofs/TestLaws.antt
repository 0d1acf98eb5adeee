-- What tests show of the one pass of a set.
use Rattle.std.proofs.Common.{◌≡◌, ℕ, Option, Some, None, List, [], ◌∷◌, arith, refl, sym, ap, ◌∙◌, subst, slice_get, slice_set}
use Rattle.crq_set.specs.Views.{PassView}
use Rattle.crq_set.specs.Gathered.{AreThere}

-- the one pass stands in its place again
pub one_there : (old new : List (Option PassView)) (v : PassView) → old ≡ None ∷ [] → new ≡ slice_set old 0 (Some v) → AreThere 1 new
one_there old new v empty lowered k below =
    let back : new ≡ Some v ∷ [] = lowered ∙ ap (λ (xs : List (Option PassView)). slice_set xs 0 (Some v)) empty in
    let first : 0 ≡ k = omega arith in
    (v, subst (λ (xs : List (Option PassView)). slice_get xs k ≡ Some (Some v)) (sym back) (subst (λ (j : ℕ). slice_get (Some v ∷ []) j ≡ Some (Some v)) first refl))
