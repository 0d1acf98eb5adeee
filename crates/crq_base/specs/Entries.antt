-- Whose an entry is.
use Rattle.std.specs.Prelude.{ℕ}
use Rattle.crq_base.specs.declared.entry.Entry.{Entry}
use Rattle.crq_base.specs.declared.entry.Entry.TheVariants.{Begin, Put, Settled, Take, Miss, Table}

abbrev pub caller_of : Entry → ℕ
caller_of (Begin caller) = caller
caller_of (Put caller event) = caller
caller_of (Settled caller event) = caller
caller_of (Take caller event) = caller
caller_of (Miss caller limit) = caller
caller_of (Table caller log shift) = caller
