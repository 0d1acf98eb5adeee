-- What a text begins with.
use Rattle.std.specs.Prelude.{◌≡◌, true, ℕ, ◌+◌, ◌^◌, ◌<◌, List, ◌++◌, ◌⊎◌, length, map, All}
use Rattle.std.specs.List.{concat}
use Rattle.crq_sim.specs.declared.traces.Step.{Step}
use Rattle.crq_sim.specs.Names.{is_name}
use Rattle.crq_sim.specs.declared.model.BehaviourName.{BehaviourName}
use Rattle.crq_printer.specs.declared.reading.TraceFault.{TraceFault}
use Rattle.crq_printer.specs.declared.reading.TraceFault.TheVariants.{Line, Memory}
use Rattle.crq_printer.specs.Texts.{step_line, heading_line}
use Rattle.crq_printer.specs.Reading.{IsStepOf}

-- the text doesn't begin with the line of a step of this object
abbrev pub NoStep : ℕ → List ℕ → Type 0
NoStep number text = (s : Step) (back : List ℕ) → IsStepOf number s → text ≡ step_line s ++ back → ⊥

-- the text doesn't begin with a heading of the object with this number
abbrev pub NoHeading : ℕ → List ℕ → Type 0
NoHeading number text = (name : List ℕ) (kind : BehaviourName) (count : ℕ) (back : List ℕ) → is_name name ≡ true → count < 2 ^ 64 → text ≡ heading_line number name kind count ++ back → ⊥

-- steps of this object, fewer than there are to be, were read, and the next line is none
pub record IsStepWrong (number count : ℕ) (text : List ℕ) (line : ℕ) (wrong_line : ℕ) : Type 0 where
  pub read : List Step
  pub rest : List ℕ
  pub steps : All (IsStepOf number) read
  pub fewer : length read < count
  pub parts : text ≡ concat (map step_line read) ++ rest
  pub none : NoStep number rest
  pub place : wrong_line ≡ line + length read

-- a heading was read, and a line behind it is no step
pub record IsObjectWrong (number : ℕ) (text : List ℕ) (line : ℕ) (wrong_line : ℕ) : Type 0 where
  pub name : List ℕ
  pub kind : BehaviourName
  pub count : ℕ
  pub behind : List ℕ
  pub named : is_name name ≡ true
  pub few : count < 2 ^ 64
  pub parts : text ≡ heading_line number name kind count ++ behind
  pub wrong : IsStepWrong number count behind (line + 1) wrong_line

-- the first wrong line of an object is its heading or one of its steps
abbrev pub IsPartWrong : ℕ → List ℕ → ℕ → ℕ → Type 0
IsPartWrong number text line wrong_line = (NoHeading number text × (wrong_line ≡ line)) ⊎ IsObjectWrong number text line wrong_line

abbrev pub StepFault : ℕ → ℕ → List ℕ → ℕ → TraceFault → Type 0
StepFault number count text line (Line n) = IsStepWrong number count text line n
StepFault number count text line Memory = Unit {0}

abbrev pub PartFault : ℕ → List ℕ → ℕ → TraceFault → Type 0
PartFault number text line (Line n) = IsPartWrong number text line n
PartFault number text line Memory = Unit {0}
