-- What files in memory hold, and which calls of theirs fail.
use Rattle.std.specs.Prelude.{◌≡◌, ℕ, List, Option, Some, option_map, String}
use Rattle.std.specs.declared.alloc.Global.{Global}
use Rattle.std.specs.Global.{Vec}
use Rattle.std.specs.BTreeMap.{BTreeMap, get_by_text}
use Rattle.crq_io.specs.Faults.{one_more, IsListed}
use Rattle.crq_io.specs.declared.mem_files.MemFiles.{MemFiles}

-- the bytes that a map has under a name
abbrev pub bytes_at : BTreeMap (String Global) (Vec ℕ) → List ℕ → Option (List ℕ)
bytes_at files name = option_map (λ bytes. bytes.items) (get_by_text files name)

-- the bytes under a name, and what is told of it: all
abbrev pub file_in : MemFiles → List ℕ → Option (List ℕ)
file_in files name = bytes_at files.files name

abbrev pub told_of : MemFiles → List ℕ → Option (Option (List ℕ))
told_of files name = Some (file_in files name)

-- the numbers of the calls that are to fail
abbrev pub fails_of : MemFiles → List ℕ
fails_of files = files.fails.items

-- how many calls were made, and how many of them failed
abbrev pub calls_of : MemFiles → ℕ
calls_of files = files.calls

abbrev pub faults_of : MemFiles → ℕ
faults_of files = files.faults

-- the next call is to fail
abbrev pub FailsNext : MemFiles → Type 0
FailsNext files = IsListed (fails_of files) (one_more (calls_of files))

-- lists and counts are as they were
pub record SameCounts (old new : MemFiles) : Type 0 where
  pub fails : fails_of new ≡ fails_of old
  pub calls : calls_of new ≡ calls_of old
  pub faults : faults_of new ≡ faults_of old

-- after any fetch: one more call, and the same list
pub record IsNextCall (old new : MemFiles) : Type 0 where
  pub calls : calls_of new ≡ one_more (calls_of old)
  pub fails : fails_of new ≡ fails_of old
