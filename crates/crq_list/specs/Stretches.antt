-- Several steps of an operation made in one go.
use Rattle.std.specs.Prelude.{◌≡◌, Bool, false}
use Rattle.crq_rule.specs.declared.pass.Pass.{Pass}

-- Some step of it was made, and then maybe others, none of which is an exchange. All but the last told that there is more to do
pub data Stretch (S A : Type 0) (Stepped : S → S → Pass → Pass → A → Type 0) (exchanges : S → Bool) (more : A) : S → S → Pass → Pass → A → Type 0 where
  ends : (s s' : S) (old new : Pass) (answer : A) → Stepped s s' old new answer → Stretch S A Stepped exchanges more s s' old new answer
  goes_on : (s mid s' : S) (old between new : Pass) (answer : A) → Stepped s mid old between more → exchanges mid ≡ false → Stretch S A Stepped exchanges more mid s' between new answer → Stretch S A Stepped exchanges more s s' old new answer
