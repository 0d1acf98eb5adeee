-- What a sink in memory holds, and what its next write takes.
use Rattle.std.specs.Prelude.{ℕ, ◌<◌, ◌≤◌, ◌-◌, List, length, min, ◌⊎◌, ◌≡◌}
use Rattle.crq_io.specs.Faults.{one_more, IsListed}
use Rattle.crq_io.specs.declared.mem_sink.MemSink.{MemSink}

-- what was written
abbrev pub bytes_of : MemSink → List ℕ
bytes_of sink = sink.bytes.items

-- how many bytes fit in all, and how many at most a call takes
abbrev pub room_of : MemSink → ℕ
room_of sink = sink.room

abbrev pub most_of : MemSink → ℕ
most_of sink = sink.most

-- the numbers of the calls that are to fail
abbrev pub fails_of : MemSink → List ℕ
fails_of sink = sink.fails.items

-- how many calls were made, and how many of them failed
abbrev pub calls_of : MemSink → ℕ
calls_of sink = sink.calls

abbrev pub faults_of : MemSink → ℕ
faults_of sink = sink.faults

-- the next call is to fail, or has a piece and finds the room used up
abbrev pub Refuses : MemSink → List ℕ → Type 0
Refuses sink piece = IsListed (fails_of sink) (one_more (calls_of sink)) ⊎ ((0 < length piece) × (room_of sink ≤ length (bytes_of sink)))

-- how many bytes a call that doesn't fail takes: what the piece has, what a call takes at most, and what fits
abbrev pub taken_of : MemSink → List ℕ → ℕ
taken_of sink piece = min (min (length piece) (most_of sink)) (room_of sink - length (bytes_of sink))

-- after any write: one more call, and the same sink
pub record IsNextCall (old new : MemSink) : Type 0 where
  pub calls : calls_of new ≡ one_more (calls_of old)
  pub fails : fails_of new ≡ fails_of old
  pub room : room_of new ≡ room_of old
  pub most : most_of new ≡ most_of old
