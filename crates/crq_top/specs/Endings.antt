-- How a top call ends: the number of each status, and the line that each ending writes.
use Rattle.std.specs.Prelude.{ℕ, List, [], ◌∷◌}
use Rattle.crq_reader.specs.Language.{fault_number}
use Rattle.crq_top.specs.declared.ending.Status.{Status}
use Rattle.crq_top.specs.declared.ending.Status.TheVariants as statuses
use Rattle.crq_top.specs.declared.ending.Ending.{Ending}
use Rattle.crq_top.specs.declared.ending.Ending.TheVariants as endings
use Rattle.crq_top.specs.Lines.{fault_line}

abbrev pub code_of : Status → ℕ
code_of statuses.Ok = 0
code_of statuses.Usage = 1
code_of statuses.Model = 2
code_of statuses.Memory = 3
code_of statuses.Read = 4
code_of statuses.Write = 5
code_of statuses.Long = 6
code_of statuses.Events = 7
code_of statuses.Rows = 8

-- an ending without its numbers
abbrev pub status_of : Ending → Status
status_of endings.Ok = statuses.Ok
status_of endings.Usage = statuses.Usage
status_of (endings.Model fault) = statuses.Model
status_of endings.Memory = statuses.Memory
status_of endings.Read = statuses.Read
status_of endings.Write = statuses.Write
status_of endings.Long = statuses.Long
status_of (endings.Events window) = statuses.Events
status_of (endings.Rows window pending) = statuses.Rows

-- the line that tells of an ending other than Ok
abbrev pub line_of : Ending → List ℕ
line_of endings.Ok = []
line_of endings.Usage = fault_line (1 ∷ [])
line_of (endings.Model fault) = fault_line (2 ∷ fault_number fault.number ∷ fault.at ∷ [])
line_of endings.Memory = []
line_of endings.Read = fault_line (4 ∷ [])
line_of endings.Write = []
line_of endings.Long = fault_line (6 ∷ [])
line_of (endings.Events window) = fault_line (7 ∷ window ∷ [])
line_of (endings.Rows window pending) = fault_line (8 ∷ window ∷ pending ∷ [])
