-- Reading a word of a row's event.
use Rattle.std.proofs.Common.{◌≡◌, ℕ, ◌≤◌, subst, ap, ◌∙◌, refl}
use Rattle.crq_base.specs.declared.kinds.StepKind.TheVariants.{Read}
use Rattle.crq_base.specs.declared.event.Event.{Event}
use Rattle.crq_rule.specs.declared.layout.Start.{Start}
use Rattle.crq_rule.specs.declared.view.Caller.{Caller}
use Rattle.crq_rule.specs.Places.{index, IsRow}
use Rattle.crq_rule.specs.ListKinds.{row_place, StandsOn, event_word}
use Rattle.crq_rule.specs.Moves.{Moves}
use Rattle.crq_rule.specs.Steps.{read}
use Rattle.crq_rule.proofs.GuardSteps.{same_words}
use Rattle.crq_rule.proofs.ListSteps.{row_place_is, row_word_is, event_word_is}
use Rattle.crq_rows.specs.Reading.{stays}

-- the word read is that of each event that the caller knows of the row
pub read_words : (key : Start) (p : Caller) (r n : ℕ) → IsRow key.layout r → (e : Event) → StandsOn p.position.rows r e → 2 ≤ n
    → Moves Read key p (index key.layout (row_place r n)) (λ w. w) (λ _. stays) (λ w p. (e : Event) → StandsOn p.position.rows r e → w ≡ event_word e n)
read_words key p r n row e on low c ws inv words b is = let j = p.number in let at = words.shows.each (row_place r n) (row_place_is key r n row) in (
  read r n,
  refl,
  (e, subst (λ (q : Caller). StandsOn q.position.rows r e) is on),
  same_words key c c ws (index key.layout (row_place r n)) refl refl words,
  is,
  λ f on'. let s = subst (λ (q : Caller). StandsOn q.position.rows r f) is on' in
      at ∙ (row_word_is c r n ∙ (event_word_is (c.words.link r) (c.words.twin r) (c.words.event r) n low
      ∙ ap (λ e. event_word e n) (subst (λ r. c.words.event r ≡ s.0.event) s.2 ((inv.standing.each j s.0 b s.1).holds) ∙ s.3))),
)
