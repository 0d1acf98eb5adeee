-- What was read of the event of a row, word by word.
use Rattle.std.specs.Prelude.{◌≡◌, ℕ, ◌<◌}
use Rattle.crq_base.specs.declared.event.Event.{Event}

-- of the event e, the words before this place were read: the time and destination stand at place 2, the source at 3, the number at 4, the load at 5
pub record IsRead (place : ℕ) (read e : Event) : Type 0 where
  pub time : 2 < place → (read.time ≡ e.time) × (read.dst ≡ e.dst)
  pub source : 3 < place → read.src ≡ e.src
  pub number : 4 < place → read.seq ≡ e.seq
  pub load : 5 < place → read.load ≡ e.load

-- where nothing was read yet
abbrev pub unread : Event
unread = record { time = 0; dst = 0; src = 0; seq = 0; load = 0 }
