-- The words of the kinds, looked up.
use Rattle.std.proofs.Common.{◌≡◌, ℕ, List, false, Option, Some, None, IfSome, IfNone, refl, sym, ap, ◌∙◌}
use Rattle.std.specs.Str.{bytes_eq}
use Rattle.std.proofs.lemmas.Bool.{false_from_ne_true}
use Rattle.std.proofs.lemmas.Slice.Eq.{bytes_eq-Decides}
use Rattle.crq_sim.specs.Kinds.{kind_word}
use Rattle.crq_sim.specs.declared.model.BehaviourName.{BehaviourName}
use Rattle.crq_sim.specs.declared.model.BehaviourName.TheVariants.{Relay, Phold, Station, Fan, Sink}
use Rattle.crq_reader.specs.Language.{kind_named}

own_word : (k : BehaviourName) → kind_named (kind_word k) ≡ Some k
own_word Relay = refl
own_word Phold = refl
own_word Station = refl
own_word Fan = refl
own_word Sink = refl

other_word : (word : List ℕ) (k : BehaviourName) → ((kind : BehaviourName) → word ≡ kind_word kind → ⊥) → bytes_eq word (kind_word k) ≡ false
other_word word k none = false_from_ne_true _ (λ e. none k ((bytes_eq-Decides word (kind_word k)).0 e))

pub kind_found : (word : List ℕ) (r : Option BehaviourName) → IfSome r (λ k. word ≡ kind_word k) → IfNone r ((kind : BehaviourName) → word ≡ kind_word kind → ⊥) → r ≡ kind_named word
kind_found word (Some k) is none = sym (own_word k) ∙ ap kind_named (sym is)
kind_found word None is none = sym (rw (other_word word Relay none, other_word word Phold none, other_word word Station none, other_word word Fan none, other_word word Sink none))
