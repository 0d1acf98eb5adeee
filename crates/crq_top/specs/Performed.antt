-- What the program does with its words and its three devices.
use Rattle.std.specs.Prelude.{◌≡◌, ◌⊎◌, ℕ, List, [], ◌∷◌, ◌++◌, Option, Some, None, codes, bytes_eq, if◌then◌else◌}
use Rattle.crq_base.specs.declared.entry.Entry.{Entry}
use Rattle.crq_top.specs.Commands.{Spells, Asked, IsFirstProblem, problem_of, of_run, of_inspect}
use Rattle.crq_top.specs.declared.command.Call.{Call}
use Rattle.crq_top.specs.declared.command.Call.TheVariants as calls
use Rattle.crq_top.specs.declared.ending.Ending.{Ending}
use Rattle.crq_top.specs.declared.ending.Ending.TheVariants as endings
use Rattle.crq_top.specs.declared.ending.Status.{Status}
use Rattle.crq_top.specs.declared.ending.Status.TheVariants as statuses
use Rattle.crq_top.specs.declared.forms.Misfit.{Misfit}
use Rattle.crq_top.specs.Endings.{code_of, status_of}
use Rattle.crq_top.specs.Explained.{ending_words, model_name}
use Rattle.crq_top.specs.Meanings.{IsCutOff, MakerRests}
use Rattle.crq_top.specs.Sessions.{Session, SinkSession, without_maker}
use Rattle.crq_top.specs.Statuses.{EndsAs}
use Rattle.crq_io.specs.Told.{Appends}

-- the call to which a list of words belongs, by the first one
abbrev pub call_for : List (List ℕ) → Call
call_for [] = calls.Inspect
call_for (w ∷ ws) = if bytes_eq w (codes "run") then calls.Run else calls.Inspect

-- the bytes were appended, or a part of them where a fault was counted
abbrev pub Says : SinkSession → List ℕ → Type 0
Says e bytes = Appends e.before.written e.after.written bytes ⊎ IsCutOff e.before e.after bytes

-- the line that stands for an explanation where memory for it was refused, or for words of the command line where memory for them was
abbrev pub memory_line : List ℕ
memory_line = codes "crq: memory was refused\n"

-- the line where one of the words isn't UTF-8
abbrev pub encoding_line : List ℕ
encoding_line = codes "crq: a word of the command line isn't UTF-8\n"

-- the line and a newline are said, or that memory for them was refused: never nothing, but where a fault was counted
abbrev pub SaysLine : SinkSession → List ℕ → Type 0
SaysLine e line = Says e (line ++ 10 ∷ []) ⊎ Says e memory_line

-- what is wrong with the words, where something is
pub record IsMisfitOf (most : ℕ) (words : List (List ℕ)) (misfit : Option Misfit) : Type 0 where
  pub told : (m : Misfit) → misfit ≡ Some m → IsFirstProblem most words (problem_of m)
  pub fits : misfit ≡ None → (a : Asked) × Spells most words a

-- an ending other than Ok is explained on the stream of errors, by the first thing that is wrong with the words where that is what it is about
abbrev pub IsExplained : ℕ → List (List ℕ) → Ending → SinkSession → Type 0
IsExplained most words ending e = (misfit : Option Misfit) × IsMisfitOf most words misfit × SaysLine e (codes "crq: " ++ ending_words most (model_name words) misfit ending)

-- and after Ok nothing is said there
pub record Explains (most : ℕ) (words : List (List ℕ)) (ending : Ending) (e : SinkSession) : Type 0 where
  pub silent : ending ≡ endings.Ok → e.after ≡ e.before
  pub says : (ending ≡ endings.Ok → ⊥) → IsExplained most words ending e

-- the call ended so; `inspect` is handed no maker, so no set was closed
abbrev pub Ends : Call → ℕ → List (List ℕ) → Session → Ending → Type 0
Ends calls.Run most words s ending = EndsAs (of_run most words) s ending
Ends calls.Inspect most words s ending = EndsAs (of_inspect words) (without_maker s) ending × MakerRests s.resources

-- the call to which the words belong was made, its ending explained, and this is its status
pub record Performs (most : ℕ) (words : List (List ℕ)) (s : Session) (e : SinkSession) (result : Status) : Type 0 where
  pub ending : Ending
  pub ends : Ends (call_for words) most words s ending
  pub explains : Explains most words ending e
  pub status : result ≡ status_of ending

-- the words of the command line were read, and the call to which they belong was performed
pub record RanOn (most : ℕ) (s : Session) (e : SinkSession) (exit : ℕ) : Type 0 where
  pub words : List (List ℕ)
  pub status : Status
  pub performs : Performs most words s e status
  pub exits : exit ≡ code_of status

-- they couldn't be read, since memory was short or a word isn't UTF-8, and that was said
abbrev pub GivesUp : SinkSession → Status → Type 0
GivesUp e status = ((status ≡ statuses.Memory) × Says e memory_line) ⊎ ((status ≡ statuses.Usage) × Says e encoding_line)

-- the same, with the exit status
pub record IsUnread (e : SinkSession) (exit : ℕ) : Type 0 where
  pub status : Status
  pub gives_up : GivesUp e status
  pub exits : exit ≡ code_of status

-- the maker's histories in a session are these
pub record HasHistories (s : Session) (old new : List (List Entry)) : Type 0 where
  pub before : s.resources.closed_before ≡ old
  pub after : s.resources.closed_after ≡ new

-- the program had this exit status over some devices, of which the host tells nothing, and the maker's histories are these
pub record IsExitOfProgram (most : ℕ) (old new : List (List Entry)) (exit : ℕ) : Type 0 where
  pub errors : SinkSession
  pub ends : ((s : Session) × HasHistories s old new × RanOn most s errors exit) ⊎ (IsUnread errors exit × (new ≡ old))
