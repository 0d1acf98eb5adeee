-- What a top call is due to end with, and what it then wrote.
--
-- Where files tell nothing of a name, as the host's files, "the bytes" are some bytes.
use Rattle.std.specs.Prelude.{◌≡◌, ◌⊎◌, ℕ, ◌<◌, ◌≤◌, List, length, take, Some, None, Result, Ok, Err}
use Rattle.std.specs.Global.{Vec}
use Rattle.crq_host.specs.declared.drive_end.DriveEnd.{DriveEnd}
use Rattle.crq_host.specs.declared.drive_end.DriveEnd.TheVariants as drive_ends
use Rattle.crq_host.specs.Drives.{Caps, StopsBy, DriveStops}
use Rattle.crq_io.specs.Faults.{Rose}
use Rattle.crq_io.specs.Told.{IsTold, Appends}
use Rattle.crq_reader.specs.declared.fault.FaultNumber.TheVariants as faults
use Rattle.crq_reader.specs.declared.fault.ModelFault.{ModelFault}
use Rattle.crq_reader.specs.Canonical.{canonical}
use Rattle.crq_reader.specs.Language.{language}
use Rattle.crq_sim.specs.Generated.{generated}
use Rattle.crq_sim.specs.Models.{ModelData}
use Rattle.crq_sim.specs.Runs.{IsOverWithin}
use Rattle.crq_sim.specs.Windows.{IsInWindow, Stop, Events as StopsByEvents, Rows as StopsByRows}
use Rattle.crq_top.specs.Commands.{Asked, run, check, serial, gen, Request, Asks, AsksNothing}
use Rattle.crq_top.specs.declared.ending.Ending.{Ending}
use Rattle.crq_top.specs.declared.ending.Ending.TheVariants as endings
use Rattle.crq_top.specs.declared.texts.Role.{Role}
use Rattle.crq_top.specs.declared.texts.Role.TheVariants as roles
use Rattle.crq_top.specs.Endings.{line_of}
use Rattle.crq_top.specs.Lines.{check_line}
use Rattle.crq_top.specs.Runs.{IsTextOfRun, HasOneAtMost, LeavesText}
use Rattle.crq_top.specs.Sessions.{Found, FilesState, SinkState, Resources}

-- how many bytes a file may have in a role
abbrev pub limit_of : Role → ℕ
limit_of roles.Model = 16777216

-- the command reads the file with this name in this role
abbrev pub Names : Asked → Role → List ℕ → Type 0
Names (run model workers rows events) roles.Model name = model ≡ name
Names (check model) roles.Model name = model ≡ name
Names (serial model events) roles.Model name = model ≡ name
Names (gen seed objects population) roles.Model name = ⊥

-- what a run has: how many events, and how many rows each worker
abbrev pub caps : ℕ → ℕ → Caps
caps events rows = record { events = events; rows = rows }

-- this stops the command's run of the model: of `run` the events or the rows, of `serial` the events alone
abbrev pub HasStop : Asked → ModelData → Stop → Type 0
HasStop (run model workers rows events) m stop = StopsBy m (caps events rows) stop
HasStop (check model) m stop = ⊥
HasStop (serial model events) m (StopsByEvents window) = (IsOverWithin m events → ⊥) × IsInWindow m window events
HasStop (serial model events) m (StopsByRows window pending) = ⊥
HasStop (gen seed objects population) m stop = ⊥

-- nothing stops the command's run of the model, if it runs it
abbrev pub RunsThrough : Asked → ModelData → Type 0
RunsThrough (run model workers rows events) m = (stop : Stop) → StopsBy m (caps events rows) stop → ⊥
RunsThrough (check model) m = Unit {0}
RunsThrough (serial model events) m = IsOverWithin m events
RunsThrough (gen seed objects population) m = Unit {0}

-- these are the bytes of the command's file in a role, and no more than it may have
pub record AreBytesOf (found : Found) (a : Asked) (role : Role) (bytes : List ℕ) : Type 0 where
  pub name : List ℕ
  pub named : Names a role name
  pub told : IsTold (found name) bytes
  pub short : length bytes ≤ limit_of role

-- the files tell that these are the bytes under the command's name in a role
pub record IsToldOf (found : Found) (a : Asked) (role : Role) (bytes : List ℕ) : Type 0 where
  pub name : List ℕ
  pub named : Names a role name
  pub told : found name ≡ Some (Some bytes)

-- the model of the command
pub record IsModelOf (found : Found) (a : Asked) (m : ModelData) : Type 0 where
  pub bytes : List ℕ
  pub fetched : AreBytesOf found a roles.Model bytes
  pub spelled : language bytes ≡ Ok m

-- the file spells no model, and this is the first fault
pub record IsFaultOf (found : Found) (a : Asked) (fault : ModelFault) : Type 0 where
  pub bytes : List ℕ
  pub fetched : AreBytesOf found a roles.Model bytes
  pub refused : language bytes ≡ Err fault

-- no set was closed
abbrev pub MakerRests : Resources → Type 0
MakerRests r = r.closed_after ≡ r.closed_before

-- the text of a command on the model that it reads; of `run` with the history of its set
abbrev pub IsTextOfModel : Resources → Asked → ModelData → List ℕ → Type 0
IsTextOfModel r (run model workers rows events) m text = LeavesText m (caps events rows) r.closed_before r.closed_after text
IsTextOfModel r (check model) m text = (text ≡ check_line m) × MakerRests r
IsTextOfModel r (serial model events) m text = IsTextOfRun m events text × MakerRests r
IsTextOfModel r (gen seed objects population) m text = ⊥

-- the text of a command
abbrev pub IsTextOf : Resources → Asked → List ℕ → Type 0
IsTextOf r (gen seed objects population) text = (text ≡ canonical (generated seed objects population)) × MakerRests r
IsTextOf r a text = (m : ModelData) × IsModelOf r.files_before.found a m × IsTextOfModel r a m text

-- the command's run of the model stopped by this, and its set's history, if it made one, goes as far as the run came
abbrev pub Stops : Resources → Asked → ModelData → DriveEnd → Type 0
Stops r (run model workers rows events) m end = DriveStops m (caps events rows) r.closed_before r.closed_after end
Stops r (check model) m end = ⊥
Stops r (serial model events) m drive_ends.Memory = ⊥
Stops r (serial model events) m (drive_ends.Events window) = HasStop (serial model events) m (StopsByEvents window) × MakerRests r
Stops r (serial model events) m (drive_ends.Rows window pending) = ⊥
Stops r (gen seed objects population) m end = ⊥

-- the command's run of the model that it read stopped by this
pub record IsStopped (r : Resources) (a : Asked) (end : DriveEnd) : Type 0 where
  pub model : ModelData
  pub is_model : IsModelOf r.files_before.found a model
  pub stops : Stops r a model end

-- a fault of reading was counted, or the files tell their names and that of a role isn't there
pub record CannotRead (before after : FilesState) (a : Asked) : Type 0 where
  pub role : Role
  pub name : List ℕ
  pub named : Names a role name
  pub cause : Rose before.faults after.faults ⊎ (before.found name ≡ Some None)

-- where the bytes of a role are told, they are more than it may have
pub record IsTooLong (found : Found) (a : Asked) : Type 0 where
  pub role : Role
  pub name : List ℕ
  pub named : Names a role name
  pub more : (bytes : List ℕ) → found name ≡ Some (Some bytes) → limit_of role < length bytes
  pub there : found name ≡ Some None → ⊥

-- the cause of an ending that comes of reading the command's model
abbrev pub IsCauseInFiles : FilesState → FilesState → Asked → Ending → Type 0
IsCauseInFiles before after a endings.Ok = ⊥
IsCauseInFiles before after a endings.Usage = ⊥
IsCauseInFiles before after a (endings.Model fault) = IsFaultOf before.found a fault
IsCauseInFiles before after a endings.Memory = Unit {0}
IsCauseInFiles before after a endings.Read = CannotRead before after a
IsCauseInFiles before after a endings.Write = ⊥
IsCauseInFiles before after a endings.Long = IsTooLong before.found a
IsCauseInFiles before after a (endings.Events window) = ⊥
IsCauseInFiles before after a (endings.Rows window pending) = ⊥

-- the cause of an ending of a command that has no text
abbrev pub IsCause : Resources → Asked → Ending → Type 0
IsCause r a endings.Memory = HasOneAtMost r.closed_before r.closed_after
IsCause r a (endings.Events window) = IsStopped r a (drive_ends.Events window)
IsCause r a (endings.Rows window pending) = IsStopped r a (drive_ends.Rows window pending)
IsCause r a e = IsCauseInFiles r.files_before r.files_after a e × MakerRests r

-- what a request is due to end with: the text of its command, or an ending that has its cause
abbrev pub IsDue : Request → Resources → Result (List ℕ) Ending → Type 0
IsDue q r (Ok text) = (a : Asked) × Asks q a × IsTextOf r a text
IsDue q r (Err endings.Usage) = AsksNothing q × MakerRests r
IsDue q r (Err e) = (a : Asked) × Asks q a × IsCause r a e

-- the bytes that it is due to write
abbrev pub text_due : Result (List ℕ) Ending → List ℕ
text_due (Ok text) = text
text_due (Err e) = line_of e

-- the ending, if they can be written
abbrev pub ending_due : Result (List ℕ) Ending → Ending
ending_due (Ok text) = endings.Ok
ending_due (Err e) = e

-- what the reader's fault ends a call with
abbrev pub IsEndingOf : ModelFault → Ending → Type 0
IsEndingOf fault e = ((fault.number ≡ faults.Memory) × (e ≡ endings.Memory)) ⊎ ((fault.number ≡ faults.Memory → ⊥) × (e ≡ endings.Model fault))

-- what a serial run that leaves no text ends a call with
abbrev pub IsEndingOfSerial : ModelData → ℕ → Ending → Type 0
IsEndingOfSerial m events e = (e ≡ endings.Memory) ⊎ ((window : ℕ) × (e ≡ endings.Events window) × (IsOverWithin m events → ⊥) × IsInWindow m window events)

-- a part of the bytes was appended, and a fault of writing was counted
pub record IsCutOff (before after : SinkState) (bytes : List ℕ) : Type 0 where
  pub sent : ℕ
  pub fewer : sent < length bytes
  pub wrote : Appends before.written after.written (take sent bytes)
  pub rose : Rose before.faults after.faults

-- all bytes were appended, and this is the ending; or they were cut off
abbrev pub Writes : SinkState → SinkState → List ℕ → Ending → Ending → Type 0
Writes before after bytes ending result = ((result ≡ ending) × Appends before.written after.written bytes) ⊎ ((result ≡ endings.Write) × IsCutOff before after bytes)

-- the same of what a call is due to end with
abbrev pub Concludes : SinkState → SinkState → Result (List ℕ) Ending → Ending → Type 0
Concludes before after due result = Writes before after (text_due due) (ending_due due) result

-- what the program is due to end with
abbrev pub due_of : Result (Vec ℕ) Ending → Result (List ℕ) Ending
due_of (Ok text) = Ok text.items
due_of (Err e) = Err e
