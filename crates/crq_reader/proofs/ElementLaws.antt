-- The elements of an array, as values and as data.
use Rattle.std.proofs.Common.{◌≡◌, List, [], ◌∷◌, map, Bool, ◌&&◌, refl, ap}
use Rattle.std.specs.List.{list_all}
use Rattle.serde_json.specs.Data.{Data}
use Rattle.serde_json.specs.View.{view, items_view}
use Rattle.serde_json.specs.declared.value.Value.{Value}
use Rattle.crq_reader.specs.Language.{elements}

pub elements_of_view : (vs : List Value) → elements (items_view vs) ≡ map view vs
elements_of_view [] = refl
elements_of_view (v ∷ vs) = ap (λ ds. view v ∷ ds) (elements_of_view vs)

pub all_viewed : (p : Data → Bool) (vs : List Value) → list_all p (map view vs) ≡ list_all (λ v. p (view v)) vs
all_viewed p [] = refl
all_viewed p (v ∷ vs) = ap (λ b. p (view v) && b) (all_viewed p vs)
