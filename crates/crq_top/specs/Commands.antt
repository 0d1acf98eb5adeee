-- The command line: the forms of the commands, what a list of words asks for, and the first word that doesn't fit. Each
-- command has one spelling alone: numbers are written as `decimal` writes them.
use Rattle.std.specs.Prelude.{◌≡◌, ◌⊎◌, ℕ, ◌<◌, ◌≤◌, ◌^◌, List, [], ◌∷◌, Option, Some, None, codes}
use Rattle.std.specs.Fmt.{decimal}
use Rattle.crq_top.specs.declared.command.Call.{Call}
use Rattle.crq_top.specs.declared.command.Call.TheVariants as calls
use Rattle.crq_top.specs.declared.command.Command.{Command}
use Rattle.crq_top.specs.declared.command.Command.TheVariants as command
use Rattle.crq_top.specs.declared.forms.Misfit.{Misfit}
use Rattle.crq_top.specs.declared.forms.Misfit.TheVariants as misfits
use Rattle.crq_top.specs.declared.forms.Parameter.{Parameter}
use Rattle.crq_top.specs.declared.forms.Parameter.TheVariants.{Model, Workers, Rows, Events, Seed, Objects, Population}
use Rattle.crq_top.specs.declared.forms.Verb.{Verb}
use Rattle.crq_top.specs.declared.forms.Verb.TheVariants.{Run, Check, Serial, Gen}

-- the word with which a command begins
abbrev pub name_of : Verb → List ℕ
name_of Run = codes "run"
name_of Check = codes "check"
name_of Serial = codes "serial"
name_of Gen = codes "gen"

-- what its further words stand for, in order
abbrev pub form_of : Verb → List Parameter
form_of Run = Model ∷ Workers ∷ Rows ∷ Events ∷ []
form_of Check = Model ∷ []
form_of Serial = Model ∷ Events ∷ []
form_of Gen = Seed ∷ Objects ∷ Population ∷ []

-- the least and the greatest number that may stand for a parameter, where a set may have so many workers. A model is any word
abbrev pub range_of : ℕ → Parameter → Option (ℕ × ℕ)
range_of most Model = None
range_of most Workers = Some (1, most)
range_of most Rows = Some (4, 131072)
range_of most Events = Some (1, 4194304)
range_of most Seed = Some (0, 18446744073709551615)
range_of most Objects = Some (1, 65535)
range_of most Population = Some (0, 65535)

abbrev pub IsBetween : ℕ → ℕ → ℕ → Type 0
IsBetween least most n = (least ≤ n) × (n ≤ most)

abbrev pub IsNumberIn : Option (ℕ × ℕ) → List ℕ → Type 0
IsNumberIn None word = Unit {0}
IsNumberIn (Some r) word = (n : ℕ) × IsBetween r.0 r.1 n × (word ≡ decimal n)

-- the word may stand for the parameter
abbrev pub Fits : ℕ → Parameter → List ℕ → Type 0
Fits most p word = IsNumberIn (range_of most p) word

-- each parameter has a word that fits, and there is no word more
abbrev pub AllFit : ℕ → List Parameter → List (List ℕ) → Type 0
AllFit most [] [] = Unit {0}
AllFit most [] (w ∷ ws) = ⊥
AllFit most (p ∷ ps) [] = ⊥
AllFit most (p ∷ ps) (w ∷ ws) = Fits most p w × AllFit most ps ws

-- what is wrong with the words of a command
pub data Problem : Type 0 where
  no_command : Problem
  unknown : (word : List ℕ) → Problem
  missing : (parameter : Parameter) → Problem
  unfit : (parameter : Parameter) → (word : List ℕ) → Problem
  extra : (word : List ℕ) → Problem

-- the first thing that is wrong with the words behind a command's name
abbrev pub IsProblemOf : ℕ → List Parameter → List (List ℕ) → Problem → Type 0
IsProblemOf most [] [] x = ⊥
IsProblemOf most [] (w ∷ ws) x = x ≡ extra w
IsProblemOf most (p ∷ ps) [] x = x ≡ missing p
IsProblemOf most (p ∷ ps) (w ∷ ws) x = ((Fits most p w → ⊥) × (x ≡ unfit p w)) ⊎ (Fits most p w × IsProblemOf most ps ws x)

-- the first thing that is wrong with the words of a command line
abbrev pub IsFirstProblem : ℕ → List (List ℕ) → Problem → Type 0
IsFirstProblem most [] x = x ≡ no_command
IsFirstProblem most (w ∷ ws) x = (((v : Verb) → w ≡ name_of v → ⊥) × (x ≡ unknown w)) ⊎ ((v : Verb) × (w ≡ name_of v) × IsProblemOf most (form_of v) ws x)

-- as the program tells it
abbrev pub problem_of : Misfit → Problem
problem_of misfits.NoCommand = no_command
problem_of (misfits.Unknown word) = unknown word.now
problem_of (misfits.Missing parameter) = missing parameter
problem_of (misfits.Unfit parameter word) = unfit parameter word.now
problem_of (misfits.Extra word) = extra word.now

-- a command with its numbers
pub data Asked : Type 0 where
  run : (model : List ℕ) → (workers rows events : ℕ) → Asked
  check : (model : List ℕ) → Asked
  serial : (model : List ℕ) → (events : ℕ) → Asked
  gen : (seed objects population : ℕ) → Asked

abbrev pub verb_of : Asked → Verb
verb_of (run model workers rows events) = Run
verb_of (check model) = Check
verb_of (serial model events) = Serial
verb_of (gen seed objects population) = Gen

-- the words behind its name
abbrev pub operands_of : Asked → List (List ℕ)
operands_of (run model workers rows events) = model ∷ decimal workers ∷ decimal rows ∷ decimal events ∷ []
operands_of (check model) = model ∷ []
operands_of (serial model events) = model ∷ decimal events ∷ []
operands_of (gen seed objects population) = decimal seed ∷ decimal objects ∷ decimal population ∷ []

-- its numbers are in range, where a set may have so many workers
abbrev pub IsInRange : ℕ → Asked → Type 0
IsInRange most (run model workers rows events) = IsBetween 1 most workers × IsBetween 4 131072 rows × IsBetween 1 4194304 events
IsInRange most (check model) = Unit {0}
IsInRange most (serial model events) = IsBetween 1 4194304 events
IsInRange most (gen seed objects population) = (seed < 2 ^ 64) × IsBetween 1 65535 objects × (population ≤ 65535)

-- the words spell this command
pub record Spells (most : ℕ) (words : List (List ℕ)) (a : Asked) : Type 0 where
  pub spelled : words ≡ name_of (verb_of a) ∷ operands_of a
  pub in_range : IsInRange most a

-- the call that carries a command out
abbrev pub call_of : Asked → Call
call_of (run model workers rows events) = calls.Run
call_of (check model) = calls.Inspect
call_of (serial model events) = calls.Inspect
call_of (gen seed objects population) = calls.Inspect

-- a call on words, and how many workers a set may have that it makes
pub record Request : Type 0 where
  pub call : Call
  pub most : ℕ
  pub words : List (List ℕ)

abbrev pub of_run : ℕ → List (List ℕ) → Request
of_run most words = record { call = calls.Run; most = most; words = words }

-- a call that makes no set
abbrev pub of_inspect : List (List ℕ) → Request
of_inspect words = record { call = calls.Inspect; most = 0; words = words }

-- the request is for this command: its words spell it, and the call is the one that carries it out
pub record Asks (q : Request) (a : Asked) : Type 0 where
  pub spells : Spells q.most q.words a
  pub its_own : call_of a ≡ q.call

-- the request is for no command
abbrev pub AsksNothing : Request → Type 0
AsksNothing q = (a : Asked) → Asks q a → ⊥

-- the command that the program has read
abbrev pub asked_of : Command → Asked
asked_of (command.Run model workers rows events) = run model.now workers rows events
asked_of (command.Check model) = check model.now
asked_of (command.Serial model events) = serial model.now events
asked_of (command.Gen seed objects population) = gen seed objects population
