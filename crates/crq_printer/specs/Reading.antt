-- Trace texts that are read back.
use Rattle.std.specs.Prelude.{◌≡◌, true, ℕ, zero, suc, ◌+◌, ◌^◌, ◌<◌, ◌≤◌, List, [], ◌∷◌, ◌++◌, ◌⊎◌, length, All}
use Rattle.std.specs.List.{concat}
use Rattle.crq_sim.specs.Names.{is_name}
use Rattle.crq_sim.specs.declared.traces.Step.{Step}
use Rattle.crq_sim.specs.declared.traces.ObjectTrace.{ObjectTrace}
use Rattle.crq_sim.specs.declared.model.BehaviourName.{BehaviourName}
use Rattle.crq_sim.specs.declared.model.TheConstants.{MOST_OBJECTS}
use Rattle.crq_printer.specs.Texts.{step_line, heading_line, first_line, end_line, trace_text_of}
use Rattle.crq_printer.specs.declared.reading.TraceFault.{TraceFault}
use Rattle.crq_printer.specs.declared.reading.TraceFault.TheVariants.{Line, Memory}

-- a step of the object with this number, whose numbers fit their fields
pub record IsStepOf (number : ℕ) (s : Step) : Type 0 where
  pub time : s.event.time < 2 ^ 32
  pub src : s.event.src ≤ 65535
  pub seq : s.event.seq < 2 ^ 64
  pub load : s.event.load < 2 ^ 64
  pub dst : s.event.dst ≡ number
  pub count : s.count < 2 ^ 64
  pub word : s.word < 2 ^ 64

pub record IsTraceOf (number : ℕ) (o : ObjectTrace) : Type 0 where
  pub name : is_name o.name ≡ true
  pub count : length o.steps < 2 ^ 64
  pub steps : All (IsStepOf number) o.steps

-- the objects are numbered from this number on
abbrev pub AreTracesFrom : ℕ → List ObjectTrace → Type 0
AreTracesFrom number [] = Unit {0}
AreTracesFrom number (o ∷ os) = IsTraceOf number o × AreTracesFrom (number + 1) os

-- traces that a text can give back: as many objects as a model may have, all numbers in range
pub record IsReadable (ts : List ObjectTrace) : Type 0 where
  pub few : length ts ≤ MOST_OBJECTS
  pub traces : AreTracesFrom 1 ts

abbrev pub IsTraceText : List ℕ → Type 0
IsTraceText text = (ts : List ObjectTrace) × IsReadable ts × (trace_text_of ts ≡ text)

-- ---- what is due after the lines that were read

-- how far a text was read: not at all; some objects' headings, the steps that are left of the last of them, and all steps so far; the last line
pub data Progress : Type 0 where
  nothing : Progress
  within : ℕ → ℕ → ℕ → Progress
  whole : Progress

-- the heading of the next object, behind so many objects and steps
pub record IsHeadingDue (objects steps : ℕ) (bytes : List ℕ) (after : Progress) : Type 0 where
  pub name : List ℕ
  pub kind : BehaviourName
  pub count : ℕ
  pub named : is_name name ≡ true
  pub fits : count < 2 ^ 64
  pub few : objects < MOST_OBJECTS
  pub is : bytes ≡ heading_line (objects + 1) name kind count
  pub behind : after ≡ within (objects + 1) count steps

-- the line is due there, and the text is then read so far
abbrev pub IsDue : Progress → List ℕ → Progress → Type 0
IsDue nothing bytes after = (bytes ≡ first_line) × (after ≡ within 0 0 0)
IsDue (within objects zero steps) bytes after = IsHeadingDue objects steps bytes after ⊎ ((bytes ≡ end_line steps) × (after ≡ whole))
IsDue (within objects (suc left) steps) bytes after = (s : Step) × IsStepOf objects s × (bytes ≡ step_line s) × (after ≡ within objects left (steps + 1))
IsDue whole bytes after = ⊥

-- one line after another
abbrev pub AreDue : Progress → List (List ℕ) → Progress → Type 0
AreDue before [] after = before ≡ after
AreDue before (l ∷ lines) after = (next : Progress) × IsDue before l next × AreDue next lines after

-- line n is the first that isn't due: each line before it is, none that is due stands there, wherever it may end, and the text isn't whole; it may end there
pub record IsFirstUndue (n : ℕ) (text : List ℕ) : Type 0 where
  pub before : List (List ℕ)
  pub rest : List ℕ
  pub progress : Progress
  pub parts : text ≡ concat before ++ rest
  pub number : n ≡ length before + 1
  pub due : AreDue nothing before progress
  pub undue : (next more : List ℕ) (after : Progress) → rest ≡ next ++ more → IsDue progress next after → ⊥
  pub unfinished : progress ≡ whole → rest ≡ [] → ⊥
  pub refused : IsTraceText text → ⊥

-- want of memory, or the first line that isn't due
abbrev pub FaultIs : TraceFault → List ℕ → Type 0
FaultIs (Line n) text = IsFirstUndue n text
FaultIs Memory text = Unit {0}
