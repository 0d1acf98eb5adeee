-- How often the host failed.
use Rattle.std.specs.Prelude.{ℕ}
use Rattle.crq_io.specs.declared.host.HostFiles.{HostFiles}
use Rattle.crq_io.specs.declared.host.HostSink.{HostSink}

-- how many fetches failed
abbrev pub file_faults : {H : Type 0} → HostFiles H → ℕ
file_faults files = files.faults

-- how many writes failed
abbrev pub sink_faults : {H : Type 0} → HostSink H → ℕ
sink_faults sink = sink.faults
