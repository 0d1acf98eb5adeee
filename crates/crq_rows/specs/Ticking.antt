-- An attempt to raise the epoch: what it knows between two steps, and what each step tells.
use Rattle.std.specs.Prelude.{◌≡◌, ◌≢◌, ◌⊎◌, ℕ, ◌+◌, ◌-◌, ◌<◌, ◌≤◌, ◌^◌, ◌==◌, cond, Bool, false, List, [], ◌∷◌, ◌++◌, length, drop, Option, Some, None}
use Rattle.crq_base.specs.declared.kinds.StepKind.{StepKind}
use Rattle.crq_base.specs.declared.kinds.StepKind.TheVariants.{EpochLoad, Scan, Tick}
use Rattle.crq_base.specs.declared.holder.Holder.{Holder}
use Rattle.crq_base.specs.declared.holder.Holder.TheVariants.{Seat, Last}
use Rattle.crq_rule.specs.declared.layout.Layout.{Layout}
use Rattle.crq_rule.specs.declared.view.Guard.TheVariants.{Off}
use Rattle.crq_base.specs.declared.event.Event.{Event}
use Rattle.crq_base.specs.Lists.{In}
use Rattle.crq_rule.specs.declared.view.Base.{Base}
use Rattle.crq_rule.specs.declared.view.Made.{Made}
use Rattle.crq_rule.specs.declared.view.Caller.{Caller}
use Rattle.crq_rule.specs.declared.pass.Pass.{Pass}
use Rattle.crq_rule.specs.declared.pass.Table.{Table}
use Rattle.crq_rule.specs.Places.{index, epoch, announced}
use Rattle.crq_rule.specs.Parts.{LetsRise}
use Rattle.crq_rule.specs.Kinds.{new_base, loads_based}
use Rattle.crq_rule.specs.Moves.{TellsEpoch}
use Rattle.crq_rows.specs.declared.tick.TickOp.{TickOp}
use Rattle.crq_rows.specs.declared.tick.TickOp.TheVariants.{Load, Scanning, Passed}
use Rattle.crq_rows.specs.declared.tick.Tick.{Tick as Reply}
use Rattle.crq_rows.specs.declared.tick.Tick.TheVariants.{More, Moved, Held}
use Rattle.crq_rows.specs.Passes.{caller, IsPassOf, Stepped, load_made}
use Rattle.crq_rows.specs.Known.{is_exchange, last_known, Expects, turns_after}

-- the callers below n but the own one, j, were found out or at the epoch e
abbrev pub HasScannedTo : ℕ → ℕ → ℕ → List (ℕ × ℕ) → Type 0
HasScannedTo n j e found = (k : ℕ) → k < n → k ≢ j → (a : ℕ) × In (k, a) found × LetsRise e a

-- what the attempt knows: its guard is off, and it loaded the epoch e. It scanned all callers below `next`, or found an announcement above e
abbrev pub IsTicking : Layout → TickOp → Caller → Type 0
IsTicking l Load p = p.guard ≡ Off
IsTicking l (Scanning e next) p = (p.guard ≡ Off) × (e < 2 ^ 62) × In e p.epochs × (p.tick.loaded ≡ e) × (next ≤ l.workers) × (next ≢ p.number) × HasScannedTo next p.number e p.tick.found
IsTicking l (Passed e) p = (p.guard ≡ Off) × In e p.epochs × ((k : ℕ) × (a : ℕ) × In (k, a) p.tick.found × (e + 1 < a))

-- the step that it makes: a load of the epoch; a scan of the next caller, or after the last one an exchange of the epoch
abbrev pub TickMakes : Layout → TickOp → Made → Type 0
TickMakes l Load m = (m.kind ≡ EpochLoad) × (m.word ≡ index l epoch)
TickMakes l (Scanning e next) m = ((next < l.workers) × (m.kind ≡ Scan) × (m.word ≡ index l (announced next))) ⊎ ((next ≡ l.workers) × (m.kind ≡ Tick) × (m.word ≡ index l epoch) × (m.first ≡ e) × (m.second ≡ e + 1))
TickMakes l (Passed e) m = (m.kind ≡ EpochLoad) × (m.word ≡ index l epoch)

-- whether the step that it makes is an exchange
abbrev pub tick_exchanges : Layout → TickOp → Bool
tick_exchanges l Load = false
tick_exchanges l (Scanning e next) = next == l.workers
tick_exchanges l (Passed e) = false

-- and its kind
abbrev pub tick_kind : Layout → TickOp → StepKind
tick_kind l Load = EpochLoad
tick_kind l (Scanning e next) = cond (next == l.workers) Tick Scan
tick_kind l (Passed e) = EpochLoad

-- no more steps than these answer `More` yet
abbrev pub tick_left : Layout → TickOp → ℕ
tick_left l Load = l.workers + 2
tick_left l (Scanning e next) = (l.workers - next) + 1
tick_left l (Passed e) = 0

-- what the steps since the first n made known: the epoch that was loaded is the one last known
abbrev pub KnowsEpoch : ℕ → Layout → TickOp → Caller → Type 0
KnowsEpoch n l Load p = n ≤ length p.made
KnowsEpoch n l (Scanning e next) p = (n ≤ length p.made) × (last_known (drop n p.made) (index l epoch) ≡ Some e)
KnowsEpoch n l (Passed e) p = n ≤ length p.made

-- the epoch that it loaded first
abbrev pub HasLoaded : TickOp → ℕ → Type 0
HasLoaded Load e = ⊥
HasLoaded (Scanning x next) e = x ≡ e
HasLoaded (Passed x) e = x ≡ e

-- what keeps the epoch: the last epoch there is was loaded, or another caller's announcement was scanned and found below the epoch loaded before
abbrev pub IsHeldBy : Holder → Caller → Type 0
IsHeldBy Last p = p.tick.loaded ≡ 2 ^ 62
IsHeldBy (Seat j a) p = (j ≢ p.number) × In (j, a + 1) p.tick.found × (a < p.tick.loaded)

-- the step found the epoch g, or made it by an exchange
abbrev pub FindsEpoch : Made → ℕ → Type 0
FindsEpoch m g = (m.found ≡ g) ⊎ ((m.kind ≡ Tick) × (m.found ≡ m.first) × (m.second ≡ g))

-- the recovery began at an epoch that is at least n below e, and no home row was counted since
abbrev pub HasRisen : ℕ → ℕ → Caller → Type 0
HasRisen n e p = (b : Base) × (p.base ≡ Some b) × (b.looked ≡ 0) × (b.epoch + n ≤ e)

-- what is known of the recovery that the attempt is part of, of which n ticks have moved before
abbrev pub TickBase : ℕ → TickOp → Caller → Type 0
TickBase n Load p = 0 < n → (e : ℕ) × In e p.epochs × HasRisen n e p
TickBase n (Scanning e next) p = HasRisen n e p
TickBase n (Passed e) p = HasRisen n e p

-- and what its answer says of that
abbrev pub TickBased : ℕ → TickOp → Caller → Reply → Type 0
TickBased n op q More = TickBase n op q
TickBased n op q (Moved g) = HasRisen (n + 1) g q
TickBased n op q (Held h) = Unit {0}

-- the epoch r was loaded. Where no tick has moved before, a recovery began with that, and else what is known of it stays
pub record LoadsEpoch (table : Table) (moved : ℕ) (old new : Pass) (r : ℕ) : Type 0 where
  pub base : Option Base
  pub stepped : Stepped table old new (load_made EpochLoad (index table.start.layout epoch) r) (loads_based base r)
  pub told : TellsEpoch r (caller table old)
  pub begins : moved ≡ 0 → (place : ℕ) × (events : List Event) × (base ≡ Some (new_base place events r))
  pub goes_on : (moved ≡ 0 → ⊥) → base ≡ (caller table old).base

-- what an answer means, for the step made, and what the caller knew before and knows now
abbrev pub TickAnswer : TickOp → TickOp → Layout → Made → Caller → Caller → Reply → Type 0
TickAnswer op op' l m p q More = IsTicking l op' q
TickAnswer op op' l m p q (Moved g) = (e : ℕ) × HasLoaded op e × In e p.epochs × (e < g) × In g q.epochs × FindsEpoch m g
TickAnswer op op' l m p q (Held h) = IsHeldBy h q

-- one step of the attempt: what else the caller knows stays
pub record TickFacts (l : Layout) (moved : ℕ) (op op' : TickOp) (p q : Caller) (result : Reply) : Type 0 where
  pub made : Made
  pub one : q.made ≡ p.made ++ made ∷ []
  pub makes : TickMakes l op made
  pub stays : q ≡ record p { made = q.made; epochs = q.epochs; tick = q.tick; cut = q.cut; base = q.base }
  pub grows : (e : ℕ) → In e p.epochs → In e q.epochs
  pub uncut : p.cut ≡ None → q.cut ≡ None
  pub answer : TickAnswer op op' l made p q result
  pub based : TickBase moved op p → TickBased moved op' q result
  pub exchanges : is_exchange made.kind ≡ tick_exchanges l op
  pub expects : (n : ℕ) → KnowsEpoch n l op p → Expects n p.made made
  pub knows : (n : ℕ) → KnowsEpoch n l op p → KnowsEpoch n l op' q
  pub shrinks : result ≡ More → tick_left l op' < tick_left l op

pub record TickStepped (table : Table) (moved : ℕ) (op op' : TickOp) (old new : Pass) (result : Reply) : Type 0 where
  pub is : IsPassOf table new
  pub same : new ≡ record old { seat = new.seat; turns = new.turns }
  pub facts : TickFacts table.start.layout moved op op' (caller table old) (caller table new) result
  pub turns : new.turns ≡ turns_after (is_exchange facts.made.kind) old.turns
