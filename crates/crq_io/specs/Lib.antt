-- What public contracts cite: whoever believes them has to read these. First counts of faults, and what devices tell of their bytes.
pub mod Faults
pub mod Told
-- Then the files and the sink in memory, exactly, and how often the host's failed.
pub mod MemFiles
pub mod MemSink
pub mod Host
