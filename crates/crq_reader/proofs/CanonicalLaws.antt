-- The value of a canonical text has no float and isn't deep.
use Rattle.std.proofs.Common.{◌≡◌, ℕ, ◌≤◌, List, [], ◌∷◌, map, false, ◌||◌, refl, ap₂, arith}
use Rattle.serde_json.specs.Data.{Data, object, depth, items_depth}
use Rattle.serde_json.specs.View.{items_of}
use Rattle.serde_json.specs.Written.{has_float, items_have_float}
use Rattle.crq_sim.specs.Models.{ModelData}
use Rattle.crq_sim.specs.declared.model.Object.{Object}
use Rattle.crq_sim.specs.declared.model.Start.{Start}
use Rattle.crq_sim.specs.declared.model.Behaviour.{Behaviour}
use Rattle.crq_sim.specs.declared.model.Behaviour.TheVariants.{Relay, Phold, Station, Fan, Sink}
use Rattle.crq_reader.specs.Canonical.{names_in, name_at, object_members, object_data, start_data, model_data}

no_float_in : {A : Type 0} (f : A → Data) (xs : List A) → ((x : A) → has_float (f x) ≡ false) → items_have_float (items_of (map f xs)) ≡ false
no_float_in f [] h = refl
no_float_in f (x ∷ xs) h = ap₂ (λ a b. a || b) (h x) (no_float_in f xs h)

not_deep_in : {A : Type 0} (f : A → Data) (n : ℕ) (xs : List A) → ((x : A) → depth (f x) ≤ n) → items_depth (items_of (map f xs)) ≤ n
not_deep_in f n [] h = omega arith
not_deep_in f n (x ∷ xs) h = omega (arith, h x, not_deep_in f n xs h)

object_no_float : (names : List (List ℕ)) (name : List ℕ) (b : Behaviour) → has_float (object (object_members names name b)) ≡ false
object_no_float names name (Relay delay next) = refl
object_no_float names name (Phold seed spread) = refl
object_no_float names name (Station service next) = refl
object_no_float names name (Fan delay targets) = rw (no_float_in (name_at names) targets (λ o. refl))
object_no_float names name Sink = refl

object_not_deep : (names : List (List ℕ)) (name : List ℕ) (b : Behaviour) → depth (object (object_members names name b)) ≤ 2
object_not_deep names name (Relay delay next) = omega arith
object_not_deep names name (Phold seed spread) = omega arith
object_not_deep names name (Station service next) = omega arith
object_not_deep names name (Fan delay targets) = omega (arith, not_deep_in (name_at names) 0 targets (λ o. omega arith))
object_not_deep names name Sink = omega arith

pub model_no_float : (m : ModelData) → has_float (model_data m) ≡ false
model_no_float m =
    rw (
      no_float_in (object_data (names_in m.objects)) m.objects (λ (o : Object). object_no_float (names_in m.objects) o.name o.behaviour),
      no_float_in (start_data (names_in m.objects)) m.starts (λ (s : Start). refl),
    )

pub model_not_deep : (m : ModelData) → depth (model_data m) ≤ 127
model_not_deep m =
    omega (
      arith,
      not_deep_in (object_data (names_in m.objects)) 2 m.objects (λ (o : Object). object_not_deep (names_in m.objects) o.name o.behaviour),
      not_deep_in (start_data (names_in m.objects)) 2 m.starts (λ (s : Start). omega arith),
    )
