-- Operations on a list: what has to be known of one that is under way, and what is told of one step of it, or of several.
use Rattle.std.specs.Prelude.{◌≡◌, ℕ, Bool}
use Rattle.crq_base.specs.declared.words.Control.{Control}
use Rattle.crq_rule.specs.declared.pass.Pass.{Pass}
use Rattle.crq_rule.specs.declared.pass.Table.{Table}
use Rattle.crq_rule.specs.declared.view.Caller.{Caller}
use Rattle.crq_rows.specs.Passes.{caller}
use Rattle.crq_list.specs.declared.parts.Progress.{Progress}
use Rattle.crq_list.specs.declared.parts.Progress.TheVariants.{More}
use Rattle.crq_list.specs.Stretches.{Stretch}

-- An operation with states S that ends as E says: what is known of its caller at a state, since its first n steps and with the control word that it found; what a step tells; and whether the next step is an exchange
pub record Operation (S E : Type 0) : Type 1 where
  pub at : ℕ → Table → Control → S → Caller → Type 0
  pub stepped : ℕ → Table → Control → S → S → Pass → Pass → Progress E → Type 0
  pub exchanges : S → Bool

-- the pass makes the operation, which is at this state: there are a number of first steps and a control word with which that is known of its caller
abbrev pub IsUnderWay : {S E : Type 0} → Operation S E → Table → S × Pass → Type 0
IsUnderWay o table from = (n : ℕ) × (x : Control) × o.at n table x from.0 (caller table from.1)

-- if there is more to do after the answer `told`, the operation is under way at this state
abbrev pub MayGoOn : {S E : Type 0} → Operation S E → Table → S × Pass → Progress E → Type 0
MayGoOn o table mid told = told ≡ More → IsUnderWay o table mid

-- with whichever of them it is known, the one step that was made tells what it is to tell
abbrev pub MakesStep : {S E : Type 0} → Operation S E → Table → S × Pass → S × Pass → Progress E → Type 0
MakesStep o table from to answer = (n : ℕ) (x : Control) → o.at n table x from.0 (caller table from.1) → o.stepped n table x from.0 to.0 from.1 to.1 answer

-- and so does each of the steps that were made, of which only the first may be an exchange
abbrev pub MakesSteps : {S E : Type 0} → Operation S E → Table → S × Pass → S × Pass → Progress E → Type 0
MakesSteps {S} {E} o table from to answer = (n : ℕ) (x : Control) → o.at n table x from.0 (caller table from.1) → Stretch S (Progress E) (o.stepped n table x) o.exchanges More from.0 to.0 from.1 to.1 answer

-- steps that came to `mid`, the last of which answered `told`, and what was made after them, are such steps that came to `to` with this answer
abbrev pub GoesOn : {S E : Type 0} → Operation S E → Table → S × Pass → Progress E → S × Pass → Progress E → Type 0
GoesOn {S} {E} o table mid told to answer = (n : ℕ) (x : Control) (first : S) (old : Pass) → Stretch S (Progress E) (o.stepped n table x) o.exchanges More first mid.0 old mid.1 told → Stretch S (Progress E) (o.stepped n table x) o.exchanges More first to.0 old to.1 answer
