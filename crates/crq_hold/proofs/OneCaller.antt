-- What tests show of the one pass of an empty set.
use Rattle.std.proofs.Common.{◌≡◌, ◌⊎◌, ⊎_elim, ℕ, ◌-◌, ◌/◌, min, Option, Some, None, List, [], ◌∷◌, ◌++◌, length, arith, refl, sym, ap, ◌∙◌, subst, slice_set}
use Rattle.crq_base.specs.declared.event.Event.{Event}
use Rattle.crq_base.specs.declared.entry.Entry.{Entry}
use Rattle.crq_base.specs.declared.entry.Entry.TheVariants.{Begin, Put, Settled}
use Rattle.crq_base.specs.Lists.{In}
use Rattle.crq_base.specs.Sources.{owner_of}
use Rattle.crq_set.specs.Views.{PassView, Setup, MayPut}
use Rattle.crq_set.specs.Answers.{AreBegins, Puts}
use Rattle.crq_set.specs.Gathered.{AreThere, IsDealt, Deals}
use Rattle.crq_set.proofs.TestLaws.{one_there}

owner_one : (w span source : ℕ) → w ≡ 1 → owner_of w span source ≡ 0
owner_one w span source one = subst (λ n. min (source / span) (n - 1) ≡ 0) (sym one) (none (source / span))
  where
    none : (n : ℕ) → min n 0 ≡ 0
    none = omega arith

-- of Begins, a Put and its Settled, the Put is the only one
only_put : (k j : ℕ) (f g : Event) (begins : List Entry) → AreBegins k begins → In (Put j g) (begins ++ (Begin k ∷ Put k f ∷ Settled k f ∷ [])) → g ≡ f
only_put k j f g [] are there = ⊎_elim (λ is. absurd (cc)) (λ next. ⊎_elim (λ is. (cc)) (λ last. ⊎_elim (λ is. absurd (cc)) (λ none. absurd none) last) next) there
only_put k j f g (x ∷ begins) are there = ⊎_elim (λ is. absurd (let begin = are.0 in cc)) (λ later. only_put k j f g begins are.1 later) there

-- once the pass of an empty set has put an event, it may put one of another number
pub put_second : (setup : Setup) (v w : PassView) (f e : Event) → setup.workers ≡ 1 → IsDealt [] 1 0 v → Puts v w f → (f.seq ≡ e.seq → ⊥) → MayPut setup w e
put_second setup v w f e one d puts other = (
  owner_one setup.workers w.span e.src one ∙ sym (puts.2.number ∙ d.number),
  λ k g seen. λ src seq. other (ap (λ x. x.seq) (sym (is_first k g seen)) ∙ seq),
)
  where
    own : w.own ≡ puts.0 ++ (Begin v.number ∷ Put v.number f ∷ Settled v.number f ∷ [])
    own = puts.2.own ∙ ap (λ xs. xs ++ (puts.0 ++ (Begin v.number ∷ Put v.number f ∷ Settled v.number f ∷ []))) d.own

    is_first : (k : ℕ) (g : Event) → In (Put k g) w.dealt ⊎ In (Put k g) w.own → g ≡ f
    is_first k g seen = ⊎_elim (λ (i : In (Put k g) w.dealt). absurd (subst (In (Put k g)) (puts.2.dealt ∙ d.dealt) i))
        (λ (i : In (Put k g) w.own). only_put v.number k f g puts.0 puts.1 (subst (In (Put k g)) own i)) seen

-- the one place, once its pass is lifted
pub empty_one : (n : ℕ) (h : List Entry) (old new : List (Option PassView)) → n ≡ 1 → Deals n h 1 old → new ≡ slice_set old 0 None → new ≡ None ∷ []
empty_one n h old new one deals lifted = lifted ∙ emptied old (deals.count ∙ one)
  where
    emptied : (xs : List (Option PassView)) → length xs ≡ 1 → slice_set xs 0 None ≡ None ∷ []
    emptied [] e = absurd (omega arith)
    emptied (x ∷ []) e = refl
    emptied (x ∷ y ∷ xs) e = absurd (omega arith)

-- and once it is lowered again
pub lowered_one : (n : ℕ) (old new : List (Option PassView)) (v : PassView) → n ≡ 1 → old ≡ None ∷ [] → v.number ≡ 0 → new ≡ slice_set old v.number (Some v) → AreThere n new
lowered_one n old new v one empty zero lowered = subst (λ m. AreThere m new) (sym one) (one_there old new v empty (lowered ∙ ap (λ k. slice_set old k (Some v)) zero))
