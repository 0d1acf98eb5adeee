-- A worker: a pass that rests, and that puts events of its own source, numbered in order.
use Rattle.std.specs.Prelude.{◌≡◌, ◌⊎◌, ℕ, ◌+◌, ◌<◌, length, None, Result, Ok, Err}
use Rattle.crq_base.specs.declared.event.Event.{Event}
use Rattle.crq_base.specs.declared.entry.Entry.TheVariants.{Put}
use Rattle.crq_base.specs.declared.answers.PutEnd.{PutEnd}
use Rattle.crq_base.specs.declared.answers.TakeEnd.{TakeEnd}
use Rattle.crq_base.specs.declared.answers.TakeEnd.TheVariants.{Taken, Missed}
use Rattle.crq_base.specs.declared.answers.Refusal.{Refusal}
use Rattle.crq_base.specs.Histories.{puts, outs}
use Rattle.crq_base.specs.Lists.{In}
use Rattle.crq_rule.specs.declared.pass.Table.{Table}
use Rattle.crq_rule.specs.declared.pass.Pass.{Pass}
use Rattle.crq_rows.specs.Passes.{caller}
use Rattle.crq_queue.specs.Wholes.{IsResting}
use Rattle.crq_hold.specs.declared.worker.Worker.{Worker}

-- each event of its source that the pass has seen put has a number below `next`
abbrev pub IsNumbered : Table → Pass → ℕ → Type 0
IsNumbered table pass next = (k : ℕ) (e : Event) → In (Put k e) (caller table pass).deal.history ⊎ In (Put k e) (caller table pass).own → e.src ≡ pass.number → e.seq < next

-- how many events the worker put, and how many it took, by the entries that it added to the history since its pass was dealt
abbrev pub put_count : Table → Worker → ℕ
put_count table worker = length (puts (caller table worker.pass).own)

abbrev pub take_count : Table → Worker → ℕ
take_count table worker = length (outs (caller table worker.pass).own)

-- the worker's pass owes no event
abbrev pub IsSettled : Worker → Type 0
IsSettled worker = worker.pass.debts.settle ≡ None

pub record IsWorker (table : Table) (worker : Worker) : Type 0 where
  pub rests : IsResting table worker.pass
  pub span : (caller table worker.pass).deal.span ≡ 1
  pub numbered : IsNumbered table worker.pass worker.next
  pub sourced : (k : ℕ) (e : Event) → In (Put k e) (caller table worker.pass).own → e.src ≡ worker.pass.number

-- the worker went on with its pass, which wasn't dealt anew
pub record WorksOn (table : Table) (old new : Worker) : Type 0 where
  pub worker : IsWorker table new
  pub number : new.pass.number ≡ old.pass.number
  pub deal : (caller table new.pass).deal ≡ (caller table old.pass).deal

-- and by its entries it put and took so many events more, and used as many numbers as it put
pub record PutAndTook (table : Table) (old new : Worker) (put taken : ℕ) : Type 0 where
  pub on : WorksOn table old new
  pub numbers : new.next ≡ old.next + put
  pub puts_more : put_count table new ≡ put_count table old + put
  pub takes_more : take_count table new ≡ take_count table old + taken

-- how many events an answer says were put, and how many taken
abbrev pub puts_of : Result PutEnd Refusal → ℕ
puts_of (Ok end) = 1
puts_of (Err refusal) = 0

abbrev pub takes_of : Result TakeEnd Refusal → ℕ
takes_of (Ok (Taken event route)) = 1
takes_of (Ok Missed) = 0
takes_of (Err refusal) = 0

-- the event that the worker puts next
abbrev pub next_event : Worker → ℕ → ℕ → Event
next_event worker time load = record { time = time; src = worker.pass.number; seq = worker.next; dst = 1; load = load }
