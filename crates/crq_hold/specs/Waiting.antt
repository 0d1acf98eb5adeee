-- What the calls of a worker that wait say they did.
use Rattle.std.specs.Prelude.{ℕ, Result, Ok, Err}
use Rattle.crq_base.specs.declared.answers.TakeEnd.{TakeEnd}
use Rattle.crq_base.specs.declared.answers.TakeEnd.TheVariants.{Taken, Missed}
use Rattle.crq_base.specs.declared.answers.Short.{Short}

-- how many events an answer says were put, and how many taken
abbrev pub waited_puts : Result (Unit {0}) Short → ℕ
waited_puts (Ok u) = 1
waited_puts (Err short) = 0

abbrev pub waited_takes : Result TakeEnd Short → ℕ
waited_takes (Ok (Taken event route)) = 1
waited_takes (Ok Missed) = 0
waited_takes (Err short) = 0
