-- What the workers have of the passes, and what each of them did in a phase.
use Rattle.std.specs.Prelude.{◌≡◌, ℕ, ◌<◌, ◌⊎◌, List, [], ◌∷◌, ◌++◌, map, length, ◌↔◌, Contains, Option, Some, None, Result, Ok, Err, IfSome, option_map, slice_get}
use Rattle.crq_base.specs.declared.event.Event.{Event}
use Rattle.crq_base.specs.declared.entry.Entry.{Entry}
use Rattle.crq_base.specs.declared.entry.Entry.TheVariants.{Begin, Put, Settled, Take, Miss}
use Rattle.crq_base.specs.declared.answers.Short.{Short}
use Rattle.crq_base.specs.declared.answers.Short.TheVariants.{Rows, Epochs, Memory}
use Rattle.crq_base.specs.declared.answers.TakeEnd.{TakeEnd}
use Rattle.crq_base.specs.declared.answers.TakeEnd.TheVariants.{Taken, Missed}
use Rattle.crq_base.specs.Histories.{puts, outs, own}
use Rattle.crq_base.specs.Lists.{In}
use Rattle.crq_base.specs.Sources.{owner_of}
use Rattle.crq_set.specs.Views.{PassView, Setup, MayPut}
use Rattle.crq_set.specs.Answers.{Adds, LacksRows, LacksEpochs}
use Rattle.crq_host.specs.declared.worker.Worker.{Worker}

module _ {P : Type 0} where
  -- the worker but for its pass
  abbrev pub without_pass : Worker P → Worker P
  without_pass w = record w { pass = None }

  -- nobody has a pass
  abbrev pub AreIdle : List (Worker P) → Type 0
  AreIdle workers = (k : ℕ) (w : Worker P) → slice_get workers k ≡ Some w → w.pass ≡ None

  -- the passes of the workers are as the first argument says
  abbrev pub HavePasses : (P → Type 0) → List (Worker P) → Type 0
  HavePasses Is workers = (k : ℕ) (w : Worker P) → slice_get workers k ≡ Some w → IfSome w.pass Is

  -- what is known of the workers' passes
  abbrev pub views_of : (P → PassView) → List (Worker P) → List (Option PassView)
  views_of view workers = map (λ (w : Worker P). option_map view w.pass) workers

-- each of n passes was lifted out of its place
pub record AreLifted (n : ℕ) (places : List (Option PassView)) : Type 0 where
  pub count : length places ≡ n
  pub empty : (k : ℕ) → k < n → slice_get places k ≡ Some None

-- each pass has the number of its place
abbrev pub AreNumbered : List (Option PassView) → Type 0
AreNumbered places = (k : ℕ) (v : PassView) → slice_get places k ≡ Some (Some v) → v.number ≡ k

-- all entries are so
abbrev pub AllAre : (Entry → Type 0) → List Entry → Type 0
AllAre Is entries = (x : Entry) → In x entries → Is x

-- an entry of takes up to a limit
abbrev pub IsTaking : ℕ → Entry → Type 0
IsTaking limit (Begin caller) = Unit {0}
IsTaking limit (Take caller event) = event.time < limit
IsTaking limit (Miss caller below) = Unit {0}
IsTaking limit _ = ⊥

-- an entry of puts
abbrev pub IsPutting : Entry → Type 0
IsPutting (Begin caller) = Unit {0}
IsPutting (Put caller event) = Unit {0}
IsPutting (Settled caller event) = Unit {0}
IsPutting _ = ⊥

-- the pass lacks rows, and began since or was told of a table
abbrev pub LacksRowsSince : Setup → PassView → List Entry → Type 0
LacksRowsSince setup v entries = LacksRows setup v × (In (Begin v.number) entries ⊎ (0 < v.told.tables))

-- why takes that added these entries stopped before a Miss, and why puts stopped before the last one
abbrev pub StopsTakes : Setup → PassView → List Entry → Short → Type 0
StopsTakes setup v entries Rows = LacksRowsSince setup v entries
StopsTakes setup v entries Epochs = ⊥
StopsTakes setup v entries Memory = Unit {0}

abbrev pub StopsPuts : Setup → PassView → List Entry → Short → Type 0
StopsPuts setup v entries Rows = LacksRowsSince setup v entries
StopsPuts setup v entries Epochs = LacksEpochs setup v
StopsPuts setup v entries Memory = Unit {0}

-- the caller's last two entries are a Begin and a Miss at the limit
abbrev pub EndsMissed : ℕ → ℕ → List Entry → Type 0
EndsMissed caller limit entries = (front : List Entry) × (entries ≡ front ++ (Begin caller ∷ Miss caller limit ∷ []))

-- a pass took these events, all below the limit, and unless it stopped it missed in the end
pub record Took (setup : Setup) (limit : ℕ) (old new : PassView) (taken : List Event) (short : Option Short) : Type 0 where
  pub entries : List Entry
  pub adds : Adds old new entries
  pub steps : AllAre (IsTaking limit) entries
  pub takes : outs entries ≡ taken
  pub missed : short ≡ None → EndsMissed old.number limit entries
  pub why : IfSome short (StopsTakes setup new entries)

-- a pass put the first of these events in turn, and unless it stopped it put all
pub record PutInTurn (setup : Setup) (old new : PassView) (due : List Event) (short : Option Short) : Type 0 where
  pub entries : List Entry
  pub adds : Adds old new entries
  pub steps : AllAre IsPutting entries
  pub left : List Event
  pub first : due ≡ puts entries ++ left
  pub all : short ≡ None → left ≡ []
  pub why : IfSome short (StopsPuts setup new entries)

module _ {P : Type 0} where
  -- what the worker made of its objects' events stays
  pub record KeepsRuns (old new : Worker P) : Type 0 where
    pub changed : new.changed ≡ old.changed
    pub steps : new.steps ≡ old.steps
    pub sends : new.sends ≡ old.sends
    pub due : new.due ≡ old.due

  -- what a worker did in a drain: it has the events that its pass took behind those that it had
  pub record WorkerTook (view : P → PassView) (setup : Setup) (limit : ℕ) (old new : Worker P) : Type 0 where
    pub before : P
    pub after : P
    pub had : old.pass ≡ Some before
    pub has : new.pass ≡ Some after
    pub events : List Event
    pub took : Took setup limit (view before) (view after) events new.short
    pub taken : new.taken.items ≡ old.taken.items ++ events
    pub rest : KeepsRuns old new

  -- and in a put
  pub record WorkerPut (view : P → PassView) (setup : Setup) (old new : Worker P) : Type 0 where
    pub before : P
    pub after : P
    pub had : old.pass ≡ Some before
    pub has : new.pass ≡ Some after
    pub put : PutInTurn setup (view before) (view after) old.due.items new.short
    pub taken : new.taken ≡ old.taken
    pub rest : KeepsRuns old new

-- the event of a take's answer
abbrev pub found_in : Result TakeEnd Short → Result (Option Event) Short
found_in (Ok (Taken event route)) = Ok (Some event)
found_in (Ok Missed) = Ok None
found_in (Err short) = Err short

-- why each worker stopped
abbrev pub shorts_of : {P : Type 0} → List (Worker P) → List (Option Short)
shorts_of {P} workers = map (λ (w : Worker P). w.short) workers

-- nobody stopped, or somebody did for this reason
abbrev pub TellsShort : List (Option Short) → Result (Unit {0}) Short → Type 0
TellsShort shorts (Ok u) = (k : ℕ) (short : Option Short) → slice_get shorts k ≡ Some short → short ≡ None
TellsShort shorts (Err short) = (k : ℕ) × (slice_get shorts k ≡ Some (Some short))

-- each worker has the events of its own takes behind those that it had, and each event that was taken is one of these
pub record AreTakenBy {P : Type 0} (old new : List (Worker P)) (since : List Entry) : Type 0 where
  pub count : length new ≡ length old
  pub each : (k : ℕ) (a b : Worker P) → slice_get old k ≡ Some a → slice_get new k ≡ Some b → (b.taken.items ≡ a.taken.items ++ outs (own k since)) × KeepsRuns a b
  pub all : (e : Event) → Contains (outs since) e ↔ ((k : ℕ) × (k < length old) × Contains (outs (own k since)) e)

-- no two of the events share source and number
abbrev pub AreApart : List Event → Type 0
AreApart events = (i j : ℕ) (e f : Event) → slice_get events i ≡ Some e → slice_get events j ≡ Some f → e.src ≡ f.src → e.seq ≡ f.seq → i ≡ j

-- the pass may put these events one after the other
pub record MayPutAll (setup : Setup) (v : PassView) (due : List Event) : Type 0 where
  pub each : (e : Event) → In e due → MayPut setup v e
  pub apart : AreApart due

-- what worker k of n has to put is of its sources, and has neither been put nor is there twice, by source and number
pub record IsDue (n span : ℕ) (history : List Entry) (k : ℕ) (due : List Event) : Type 0 where
  pub owned : (e : Event) → In e due → owner_of n span e.src ≡ k
  pub fresh : (e f : Event) → In e due → Contains (puts history) f → f.src ≡ e.src → f.seq ≡ e.seq → ⊥
  pub apart : AreApart due

-- what the workers took and made of it stays
pub record AreKept {P : Type 0} (old new : List (Worker P)) : Type 0 where
  pub count : length new ≡ length old
  pub each : (k : ℕ) (a b : Worker P) → slice_get old k ≡ Some a → slice_get new k ≡ Some b → (b.taken ≡ a.taken) × KeepsRuns a b
