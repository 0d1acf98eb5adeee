-- What is kept of the objects that were read.
use Rattle.std.proofs.Common.{◌≡◌, ℕ, ◌+◌, ◌<◌, ◌≤◌, List, [], ◌∷◌, ◌++◌, length, get_or, map, Some, None, sym, ap, ◌∙◌, subst, arith, length-append}
use Rattle.std.proofs.lemmas.List.{map-append, length-map, get_or-map}
use Rattle.std.specs.Borrow.{Bor}
use Rattle.std.specs.List.{All}
use Rattle.std.specs.Ordering.{nat_cmp}
use Rattle.std.specs.Cmp.Lexicographic.{slice_cmp}
use Rattle.std.specs.BTreeMap.{BTreeMap, UpdatesBy}
use Rattle.std.proofs.lemmas.List.Elements.{All-push}
use Rattle.crq_sim.specs.declared.model.TheConstants.{MOST_OBJECTS}
use Rattle.crq_reader.specs.Language.{Named, number_of, names_of}
use Rattle.crq_reader.specs.Drafts.{named_seen, Finds, IsNamed}
use Rattle.crq_reader.specs.declared.draft.Draft.{Draft}
use Rattle.crq_reader.proofs.NumberLaws.{finds_push}

pub pushed : (old new : BTreeMap (Bor (List ℕ)) ℕ) (items after : List Draft) (d : Draft) (n : ℕ)
    → after ≡ items ++ d ∷ [] → n ≡ length items + 1 → length items < MOST_OBJECTS
    → Finds old (names_of (map named_seen items)) → All IsNamed (map named_seen items)
    → IsNamed (named_seen d) → number_of (names_of (map named_seen items)) d.name.now ≡ None
    → UpdatesBy (λ x y. slice_cmp nat_cmp x.now y.now) (λ k. slice_cmp nat_cmp d.name.now k.now) old new (Some n)
    → Finds new (names_of (map named_seen after)) × All IsNamed (map named_seen after) × (length after ≤ MOST_OBJECTS)
pushed old new items after d n grown next few finds named named_too fresh updates =
    let seen : map named_seen after ≡ map named_seen items ++ named_seen d ∷ [] = ap (map named_seen) grown ∙ map-append named_seen items (d ∷ []) in
    let names : names_of (map named_seen after) ≡ names_of (map named_seen items) ++ d.name.now ∷ [] = ap names_of seen ∙ map-append (λ (o : _). o.name) (map named_seen items) (named_seen d ∷ []) in
    let count : n ≡ length (names_of (map named_seen items)) + 1 = omega (arith, length-map (map named_seen items) (λ (o : _). o.name), length-map items named_seen) in (
      subst (Finds new) (sym names) (finds_push old new d.name n _ count finds fresh updates),
      subst (All IsNamed) (sym seen) (All-push IsNamed _ _ named named_too),
      omega (arith, ap length grown, length-append items (d ∷ [])),
    )

pub named_at : (all : List Named) (ds : List Draft) (i : ℕ) (d : Draft) → map named_seen ds ≡ all → All IsNamed all → i < length ds → d ≡ get_or ds i d → IsNamed (named_seen d)
named_at all ds i d seen named lt is =
    let here : get_or all i (named_seen d) ≡ named_seen d = ap (λ xs. get_or xs i (named_seen d)) (sym seen) ∙ get_or-map named_seen ds i d (named_seen d) lt ∙ ap named_seen (sym is) in
    subst IsNamed here (named i (named_seen d) (omega (arith, ap length seen, length-map ds named_seen)))
