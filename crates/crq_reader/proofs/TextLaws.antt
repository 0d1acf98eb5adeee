-- Values made one after another.
use Rattle.std.proofs.Common.{◌≡◌, ℕ, ◌+◌, ◌<◌, List, [], ◌∷◌, ◌++◌, length, get_or, take, map, sym, ap, ap₂, ◌∙◌}
use Rattle.std.proofs.lemmas.List.{map-append, map_more}
use Rattle.serde_json.specs.Data.{Data}
use Rattle.serde_json.specs.View.{view}
use Rattle.serde_json.specs.declared.value.Value.{Value}

pub viewed_more : {A : Type 0} (f : A → Data) (xs : List A) (i : ℕ) (vs new : List Value) (v : Value) (d : A) → new ≡ vs ++ v ∷ [] → i < length xs → view v ≡ f (get_or xs i d) → map view vs ≡ map f (take i xs)
    → map view new ≡ map f (take (i + 1) xs)
viewed_more f xs i vs new v d grown lt made seen =
    ap (map view) grown ∙ map-append view vs (v ∷ []) ∙ ap₂ (λ ds e. ds ++ e ∷ []) seen made ∙ sym (map_more f xs i d lt)
