-- The devices that a top call is handed, and the maker of its sets, before it and after it.
use Rattle.std.specs.Prelude.{ℕ, List, [], Option}
use Rattle.crq_base.specs.declared.entry.Entry.{Entry}

-- what files tell of a name: nothing (`None`), that no file has it (`Some None`), or the bytes under it
abbrev pub Found : Type 0
Found = List ℕ → Option (Option (List ℕ))

-- what files tell, and how many of their faults were counted
pub record FilesState : Type 0 where
  pub found : Found
  pub faults : ℕ

-- what was written to a sink, where it tells that, and how many of its faults were counted
pub record SinkState : Type 0 where
  pub written : Option (List ℕ)
  pub faults : ℕ

-- a sink before a call and after it
pub record SinkSession : Type 0 where
  pub before : SinkState
  pub after : SinkState

-- what a call takes its text from: the files, and the histories of the sets that the maker closed, before and after
pub record Resources : Type 0 where
  pub files_before : FilesState
  pub files_after : FilesState
  pub closed_before : List (List Entry)
  pub closed_after : List (List Entry)

pub record Session : Type 0 where
  pub resources : Resources
  pub out_before : SinkState
  pub out_after : SinkState

-- of what a type of files tells, of the files before and after, and of the histories before and after
abbrev pub resources : {F : Type 0} → (F → Found) → (F → ℕ) → F → F → List (List Entry) → List (List Entry) → Resources
resources found faults old new closed_old closed_new = record {
  files_before = record { found = found old; faults = faults old };
  files_after = record { found = found new; faults = faults new };
  closed_before = closed_old;
  closed_after = closed_new;
}

-- of those, of what a type of sinks tells, and of the sink before and after
abbrev pub session : {S : Type 0} → Resources → (S → Option (List ℕ)) → (S → ℕ) → S → S → Session
session r written faults old new = record {
  resources = r;
  out_before = record { written = written old; faults = faults old };
  out_after = record { written = written new; faults = faults new };
}

-- the same session as a call has it that is handed no maker
abbrev pub without_maker : Session → Session
without_maker s = record {
  resources = record { files_before = s.resources.files_before; files_after = s.resources.files_after; closed_before = []; closed_after = [] };
  out_before = s.out_before;
  out_after = s.out_after;
}

-- the same of the sink of errors alone
abbrev pub sink_session : {E : Type 0} → (E → Option (List ℕ)) → (E → ℕ) → E → E → SinkSession
sink_session written faults errors_old errors_new = record {
  before = record { written = written errors_old; faults = faults errors_old };
  after = record { written = written errors_new; faults = faults errors_new };
}
