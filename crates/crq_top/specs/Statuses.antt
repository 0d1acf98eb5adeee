-- What a top call's ending and status mean, said once for both calls.
use Rattle.std.specs.Prelude.{◌≡◌, ◌⊎◌, ℕ, ◌<◌, ◌≤◌, List, [], ◌∷◌, length, Result, Ok, Err}
use Rattle.crq_host.specs.declared.drive_end.DriveEnd.TheVariants as drive_ends
use Rattle.crq_io.specs.Faults.{NoFault}
use Rattle.crq_io.specs.Told.{Appends}
use Rattle.crq_reader.specs.declared.fault.ModelFault.{ModelFault}
use Rattle.crq_reader.specs.Language.{language, fault_number}
use Rattle.crq_sim.specs.Models.{ModelData}
use Rattle.crq_sim.specs.Windows.{Rows as StopsByRows}
use Rattle.crq_top.specs.Commands.{Asked, Request, Asks, AsksNothing}
use Rattle.crq_top.specs.declared.ending.Ending.{Ending}
use Rattle.crq_top.specs.declared.ending.Status.{Status}
use Rattle.crq_top.specs.declared.ending.Status.TheVariants as statuses
use Rattle.crq_top.specs.declared.texts.Role.{Role}
use Rattle.crq_top.specs.declared.texts.Role.TheVariants as roles
use Rattle.crq_top.specs.Lines.{fault_line}
use Rattle.crq_top.specs.Meanings.{IsTextOf, IsFaultOf, CannotRead, IsTooLong, IsStopped, IsToldOf, HasStop, RunsThrough, MakerRests, IsDue, IsCutOff, Names, limit_of, text_due, Concludes}
use Rattle.crq_top.specs.Runs.{HasOneAtMost}
use Rattle.crq_top.specs.Sessions.{Session}

-- the files tell what they told, and no count fell, so that another call on the same devices can follow
pub record CanGoOn (s : Session) : Type 0 where
  pub kept : (name : List ℕ) → s.resources.files_after.found name ≡ s.resources.files_before.found name
  pub later : s.resources.files_before.faults ≤ s.resources.files_after.faults
  pub writes_later : s.out_before.faults ≤ s.out_after.faults

-- the call ended so: it was due to end with a text or with an ending that has its cause, and wrote that whole, or was cut off
pub record EndsAs (q : Request) (s : Session) (result : Ending) : Type 0 where
  pub due : Result (List ℕ) Ending
  pub is_due : IsDue q s.resources due
  pub concludes : Concludes s.out_before s.out_after due result
  pub goes_on : CanGoOn s

-- the line was appended, and the request is for a command of which this is true
abbrev pub Tells : Request → Session → (Asked → Type 0) → List ℕ → Type 0
Tells q s P line = ((a : Asked) × Asks q a × P a) × Appends s.out_before.written s.out_after.written line

-- the same of a fault in the files, where no set was closed
abbrev pub TellsOfFiles : Request → Session → (Asked → Type 0) → List ℕ → Type 0
TellsOfFiles q s P line = Tells q s (λ a. P a × MakerRests s.resources) line

-- the text of the command that the request is for was appended
abbrev pub Prints : Request → Session → Type 0
Prints q s = (a : Asked) × Asks q a × ((text : List ℕ) × IsTextOf s.resources a text × Appends s.out_before.written s.out_after.written text)

-- the text or line that the call was due to write was cut off
pub record IsCutShort (q : Request) (s : Session) : Type 0 where
  pub due : Result (List ℕ) Ending
  pub is_due : IsDue q s.resources due
  pub cut : IsCutOff s.out_before s.out_after (text_due due)

-- each status comes only where this holds
abbrev pub Means : Request → Session → Status → Type 0
Means q s statuses.Ok = Prints q s
Means q s statuses.Usage = (AsksNothing q × MakerRests s.resources) × Appends s.out_before.written s.out_after.written (fault_line (1 ∷ []))
Means q s statuses.Model = (f : ModelFault) × TellsOfFiles q s (λ a. IsFaultOf s.resources.files_before.found a f) (fault_line (2 ∷ fault_number f.number ∷ f.at ∷ []))
Means q s statuses.Memory = (s.out_after.written ≡ s.out_before.written) × HasOneAtMost s.resources.closed_before s.resources.closed_after
Means q s statuses.Read = TellsOfFiles q s (CannotRead s.resources.files_before s.resources.files_after) (fault_line (4 ∷ []))
Means q s statuses.Write = IsCutShort q s
Means q s statuses.Long = TellsOfFiles q s (IsTooLong s.resources.files_before.found) (fault_line (6 ∷ []))
Means q s statuses.Events = (window : ℕ) × Tells q s (λ a. IsStopped s.resources a (drive_ends.Events window)) (fault_line (7 ∷ window ∷ []))
Means q s statuses.Rows = (window : ℕ) × (pending : ℕ) × Tells q s (λ a. IsStopped s.resources a (drive_ends.Rows window pending)) (fault_line (8 ∷ window ∷ pending ∷ []))

-- the request is for this command, whose model's bytes are told, and no fault of reading was counted
pub record IsPosed (q : Request) (s : Session) (a : Asked) (bytes : List ℕ) : Type 0 where
  pub asked : Asks q a
  pub told : IsToldOf s.resources.files_before.found a roles.Model bytes
  pub no_fault : NoFault s.resources.files_before.faults s.resources.files_after.faults

-- these bytes are few enough, and spell this model
pub record IsAccepted (bytes : List ℕ) (m : ModelData) : Type 0 where
  pub short : length bytes ≤ limit_of roles.Model
  pub spelled : language bytes ≡ Ok m

-- the status, but where memory was short or the output failed
abbrev pub Yields : Status → Status → Type 0
Yields result status = (result ≡ status) ⊎ (result ≡ statuses.Memory) ⊎ (result ≡ statuses.Write)

-- each status comes where it must. Want of memory and a failed write may take its place
pub record Comes (q : Request) (s : Session) (result : Status) : Type 0 where
  -- 1: the request is for no command
  pub usage : AsksNothing q → (result ≡ statuses.Usage) ⊎ (result ≡ statuses.Write)
  -- 2: the file is short enough and spells no model
  pub model : (a : Asked) (bytes : List ℕ) (f : ModelFault) → IsPosed q s a bytes → length bytes ≤ limit_of roles.Model → language bytes ≡ Err f → Yields result statuses.Model
  -- 6: the file has more bytes than a model file may have
  pub long : (a : Asked) (bytes : List ℕ) → IsPosed q s a bytes → limit_of roles.Model < length bytes → Yields result statuses.Long
  -- 7: the run doesn't go through, and not for want of rows
  pub events : (a : Asked) (bytes : List ℕ) (m : ModelData) → IsPosed q s a bytes → IsAccepted bytes m → (RunsThrough a m → ⊥)
      → ((window pending : ℕ) → HasStop a m (StopsByRows window pending) → ⊥) → Yields result statuses.Events
  -- 8: the run stops for want of rows
  pub rows : (a : Asked) (bytes : List ℕ) (m : ModelData) (window pending : ℕ) → IsPosed q s a bytes → IsAccepted bytes m → HasStop a m (StopsByRows window pending) → Yields result statuses.Rows
  -- 0: the model is accepted, and its run, if the command runs it, goes through
  pub complete : (a : Asked) (bytes : List ℕ) (m : ModelData) → IsPosed q s a bytes → IsAccepted bytes m → RunsThrough a m
      → NoFault s.out_before.faults s.out_after.faults → (result ≡ statuses.Ok) ⊎ (result ≡ statuses.Memory)
  -- 0: the command reads no file
  pub complete_alone : (a : Asked) → Asks q a → ((role : Role) (name : List ℕ) → Names a role name → ⊥)
      → NoFault s.out_before.faults s.out_after.faults → (result ≡ statuses.Ok) ⊎ (result ≡ statuses.Memory)
