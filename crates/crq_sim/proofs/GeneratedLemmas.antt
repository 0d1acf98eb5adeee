-- Generated models.
use Rattle.std.proofs.Common.{◌≡◌, ℕ, zero, suc, ◌+◌, ◌*◌, ◌%◌, ◌^◌, ◌<◌, ◌≤◌, List, [], ◌∷◌, ◌++◌, true, length, map, refl, arith, ap, sym, ◌∙◌, subst, add-one, codes, decimal, All}
use Rattle.std.specs.List.{range_with_len, list_all, AllByRecursion}
use Rattle.std.proofs.lemmas.Bool.Decides.{nat_tests}
use Rattle.std.proofs.lemmas.Fmt.{decimal_by_steps, length-decimal-le, decimal_injective}
use Rattle.std.proofs.lemmas.List.Elements.{All-from_recursion, All-contains}
use Rattle.std.proofs.lemmas.List.Folds.{list_all-append}
use Rattle.std.proofs.lemmas.List.FromFn.{length-map-range_with_len, get_or-map-range_with_len, map-range_with_len_more}
use Rattle.crq_sim.specs.declared.model.Behaviour.TheVariants.{Phold}
use Rattle.crq_sim.specs.declared.model.TheConstants.{MOST_OBJECTS, MOST_STARTS}
use Rattle.crq_sim.specs.declared.model.Object.{Object}
use Rattle.crq_sim.specs.declared.model.Start.{Start}
use Rattle.crq_sim.specs.Draws.{drawn, next_state}
use Rattle.crq_sim.specs.Generated.{state_after_draws, draw_at, generated_object, generated_start, generated}
use Rattle.crq_sim.specs.Models.{ModelData, IsModel, IsObject, IsBehaviour, AreApart}
use Rattle.crq_sim.specs.Names.{name_byte, is_name}

pub no_draw : (seed : ℕ) → state_after_draws seed 0 ≡ seed
unfolding state_after_draws
no_draw seed = refl

pub one_draw : (seed n : ℕ) → state_after_draws seed (n + 1) ≡ next_state (state_after_draws seed n)
unfolding state_after_draws
one_draw seed n = rw add-one refl

-- one more object or start
pub object_drawn : (seed i : ℕ) (objects : List Object) (state : ℕ) (x : Object) → (objects ≡ map (generated_object seed) (range_with_len 0 i)) × (state ≡ state_after_draws seed i)
    → x ≡ (record { name = codes "p" ++ decimal (i + 1); behaviour = Phold (drawn state) 240 })
    → (objects ++ x ∷ [] ≡ map (generated_object seed) (range_with_len 0 (i + 1))) × (next_state state ≡ state_after_draws seed (i + 1))
object_drawn seed i objects state x h is =
    let here : x ≡ generated_object seed i = is ∙ ap (λ (s : ℕ). record { name = codes "p" ++ decimal (i + 1); behaviour = Phold (drawn s) 240 }) h.1 in (
      ap (λ (os : List Object). os ++ x ∷ []) h.0 ∙ ap (λ (y : Object). map (generated_object seed) (range_with_len 0 i) ++ y ∷ []) here ∙ sym (map-range_with_len_more (generated_object seed) 0 i i (omega arith)),
      ap next_state h.1 ∙ sym (one_draw seed i),
    )

pub start_drawn : (seed objects i : ℕ) (starts : List Start) (state : ℕ) (x : Start)
    → (starts ≡ map (generated_start seed objects) (range_with_len 0 i)) × (state ≡ state_after_draws seed (objects + 2 * i))
    → x ≡ (record { time = drawn (next_state state) % 256; object = 1 + drawn state % objects; load = i })
    → (starts ++ x ∷ [] ≡ map (generated_start seed objects) (range_with_len 0 (i + 1))) × (next_state (next_state state) ≡ state_after_draws seed (objects + 2 * (i + 1)))
start_drawn seed objects i starts state x h is =
    let first : next_state state ≡ state_after_draws seed (objects + 2 * i + 1) = ap next_state h.1 ∙ sym (one_draw seed (objects + 2 * i)) in
    let second : next_state (next_state state) ≡ state_after_draws seed (objects + 2 * i + 1 + 1) = ap next_state first ∙ sym (one_draw seed (objects + 2 * i + 1)) in
    let here : x ≡ generated_start seed objects i = is ∙ (λ j. record { time = drawn (first j) % 256; object = 1 + drawn (h.1 j) % objects; load = i }) in (
      ap (λ (ss : List Start). ss ++ x ∷ []) h.0 ∙ ap (λ (y : Start). map (generated_start seed objects) (range_with_len 0 i) ++ y ∷ []) here ∙ sym (map-range_with_len_more (generated_start seed objects) 0 i i (omega arith)),
      second ∙ ap (state_after_draws seed) (let e : objects + 2 * i + 1 + 1 ≡ objects + 2 * (i + 1) = omega arith in e),
    )

-- a digit may stand in a name
digit_named : (d : ℕ) → d < 10 → name_byte (48 + d) ≡ true
digit_named d lt = grind (arith, nat_tests)

digits_named : (n : ℕ) → n < 2 ^ 64 → list_all name_byte (decimal n) ≡ true
digits_named n lt =
    decimal_by_steps (λ n ds. list_all name_byte ds ≡ true)
    (λ n one. rw (digit_named n one) refl)
    (λ n ds many front. rw (list_all-append name_byte ds ((48 + n % 10) ∷ []), front, digit_named (n % 10) (omega arith)) refl)
    n lt

pub named : (n : ℕ) → n ≤ MOST_OBJECTS → is_name (codes "p" ++ decimal n) ≡ true
named n lt =
    let short : length (decimal n) ≤ 5 = length-decimal-le 5 n (omega arith) (omega arith) (omega arith) in
    let digits : list_all name_byte (decimal n) ≡ true = digits_named n (omega arith) in
    rw digits (grind (arith, nat_tests))

-- what holds of each value of a function holds of each element of its list
each_made : {X : Type 0} (P : X → Type 0) (f : ℕ → X) (n : ℕ) → ((i : ℕ) → i < n → P (f i)) → All P (map f (range_with_len 0 n))
each_made P f n h k d lt =
    let many = length-map-range_with_len f 0 n in
    let inside : k < n = omega arith in
    subst P (sym (get_or-map-range_with_len f 0 n k k d inside (omega arith))) (h k inside)

abbrev name_at : ℕ → ℕ → List ℕ
name_at seed i = (generated_object seed i).name

-- numbers apart have names apart
other_name : (seed i j : ℕ) → i < j → j < MOST_OBJECTS → name_at seed j ≡ name_at seed i → ⊥
other_name seed i j lt few same =
    let digits : decimal (j + 1) ≡ decimal (i + 1) = cc in
    let number : j + 1 ≡ i + 1 = decimal_injective (j + 1) (i + 1) (omega arith) (omega arith) digits in
    omega arith

later_names : (seed i a n : ℕ) → i < a → a + n ≤ MOST_OBJECTS → AllByRecursion (λ (name : List ℕ). name ≡ name_at seed i → ⊥) (map (λ (o : Object). o.name) (map (generated_object seed) (range_with_len a n)))
later_names seed i a zero lt few = tt
later_names seed i a (suc n) lt few = (other_name seed i a lt (omega arith), later_names seed i (a + 1) n (omega arith) (omega arith))

names_apart : (seed a n : ℕ) → a + n ≤ MOST_OBJECTS → AreApart (map (λ (o : Object). o.name) (map (generated_object seed) (range_with_len a n)))
names_apart seed a zero few = tt
names_apart seed a (suc n) few =
    let names : List (List ℕ) = map (λ (o : Object). o.name) (map (generated_object seed) (range_with_len (a + 1) n)) in (
      (λ at. All-contains (λ (name : List ℕ). name ≡ name_at seed a → ⊥) names (name_at seed a)
          (All-from_recursion (λ (name : List ℕ). name ≡ name_at seed a → ⊥) names (later_names seed a (a + 1) n (omega arith) (omega arith))) at refl),
      names_apart seed (a + 1) n (omega arith),
    )

drawn_there : (n d : ℕ) → 0 < n → IsObject n (1 + d % n)
drawn_there n d some = (let lt : d % n < n = omega arith in omega arith, let lt : d % n < n = omega arith in omega arith)

pub generated_known : (seed objects population : ℕ) → 0 < objects → objects ≤ MOST_OBJECTS → population ≤ MOST_STARTS → IsModel (generated seed objects population)
generated_known seed objects population some few few_starts =
    let m : ModelData = generated seed objects population in
    let many : length m.objects ≡ objects = length-map-range_with_len (generated_object seed) 0 objects in
    let many_starts : length m.starts ≡ population = length-map-range_with_len (generated_start seed objects) 0 population in
    record {
      ahead = omega arith;
      within = omega arith;
      few_objects = omega arith;
      few_starts = omega arith;
      named = each_made (λ (o : Object). is_name o.name ≡ true) (generated_object seed) objects (λ i lt. named (i + 1) (omega arith));
      apart = names_apart seed 0 objects (omega arith);
      behaviours = each_made (λ (o : Object). IsBehaviour 16 (length m.objects) o.behaviour) (generated_object seed) objects (λ i lt. tt);
      started = subst (λ (n : ℕ). All (λ (s : Start). IsObject n s.object) m.starts) (sym many)
          (each_made (λ (s : Start). IsObject objects s.object) (generated_start seed objects) population (λ i lt. drawn_there objects (draw_at seed (objects + 2 * i)) some));
    }
