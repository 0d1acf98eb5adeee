-- Recovering rows: what it knows between two steps, and what each step tells.
use Rattle.std.specs.Prelude.{◌≡◌, ◌⊎◌, ℕ, ◌+◌, ◌-◌, ◌*◌, ◌<◌, ◌≤◌, Bool, false, List, [], ◌∷◌, ◌++◌, length, Some, None}
use Rattle.crq_base.specs.declared.kinds.StepKind.{StepKind}
use Rattle.crq_base.specs.declared.kinds.StepKind.TheVariants.{Look, Claim}
use Rattle.crq_base.specs.Lists.{In}
use Rattle.crq_rule.specs.declared.layout.Layout.{Layout}
use Rattle.crq_rule.specs.declared.view.Base.{Base}
use Rattle.crq_rule.specs.declared.view.Made.{Made}
use Rattle.crq_rule.specs.declared.view.Caller.{Caller}
use Rattle.crq_rule.specs.declared.pass.Pass.{Pass}
use Rattle.crq_rule.specs.declared.pass.Table.{Table}
use Rattle.crq_rule.specs.Places.{index, stamp, IsHomeRow}
use Rattle.crq_rule.specs.Kinds.{IsRipe}
use Rattle.crq_rows.specs.declared.tick.TickOp.{TickOp}
use Rattle.crq_rows.specs.declared.tick.TickOp.TheVariants.{Load}
use Rattle.crq_rows.specs.declared.recover.RecoverOp.{RecoverOp}
use Rattle.crq_rows.specs.declared.recover.RecoverOp.TheVariants.{Ticking, Visiting, Taking}
use Rattle.crq_rows.specs.declared.recover.Recover.{Recover}
use Rattle.crq_rows.specs.declared.recover.Recover.TheVariants.{More, Ready, Held, Rows}
use Rattle.crq_rows.specs.Passes.{caller, IsPassOf}
use Rattle.crq_rows.specs.Known.{is_exchange, Expects, turns_after}
use Rattle.crq_rows.specs.Ticking.{IsTicking, TickBase, TickMakes, tick_exchanges, tick_kind, tick_left, KnowsEpoch, HasLoaded, IsHeldBy, FindsEpoch}
use Rattle.crq_rows.specs.Owning.{IsRipeWord, NoneRipe}

-- since a step that found or made the epoch e, the caller looked at its home rows before `next`, in order, and found none ripe under it
pub record LookedSince (l : Layout) (e next : ℕ) (p : Caller) : Type 0 where
  pub before : List Made
  pub last : Made
  pub since : List Made
  pub made : p.made ≡ before ++ last ∷ since
  pub finds : FindsEpoch last e
  pub looks : NoneRipe l e (p.number * l.home + 1) since next

-- the recovery began at an epoch that is at least three below e, and has counted the home rows before `next` since. Once it has counted all of them, its events are those of a refusal
abbrev pub HasCounted : Layout → ℕ → ℕ → Caller → Type 0
HasCounted l e next p = (b : Base) × (p.base ≡ Some b) × (b.epoch + 3 ≤ e) × (next ≡ p.number * l.home + 1 + b.looked) × (b.looked ≡ l.home → p.refused ≡ b.events)

-- what the recovery knows: so many ticks have moved, and one is made; or three have moved, the last one to the epoch e, and the row is the next to look at, or ripe. As long as no row was claimed, none
-- was found ripe
abbrev pub IsRecovering : Layout → RecoverOp → Caller → Type 0
IsRecovering l (Ticking n tick) p = (n < 3) × IsTicking l tick p × TickBase n tick p
IsRecovering l (Visiting e row) p = In e p.epochs × IsHomeRow l p.number row × (p.hand ≡ [] → LookedSince l e row p × HasCounted l e row p)
IsRecovering l (Taking e row) p = In e p.epochs × IsHomeRow l p.number row × IsRipe p.ripening row e

-- the step that it makes: one of the tick, a look at the next home row, or the claim of a ripe one
abbrev pub RecoverMakes : Layout → RecoverOp → Made → Type 0
RecoverMakes l (Ticking n tick) m = TickMakes l tick m
RecoverMakes l (Visiting e row) m = (m.kind ≡ Look) × (m.word ≡ index l (stamp row))
RecoverMakes l (Taking e row) m = (m.kind ≡ Claim) × (m.word ≡ index l (stamp row))

-- the kind of the step that it makes
abbrev pub recover_kind : Layout → RecoverOp → StepKind
recover_kind l (Ticking n tick) = tick_kind l tick
recover_kind l (Visiting e row) = Look
recover_kind l (Taking e row) = Claim

-- whether the step that it makes is an exchange
abbrev pub recover_exchanges : Layout → RecoverOp → Bool
recover_exchanges l (Ticking n tick) = tick_exchanges l tick
recover_exchanges l (Visiting e row) = false
recover_exchanges l (Taking e row) = false

-- no more steps than these answer `More` yet
abbrev pub recover_left : Layout → RecoverOp → ℕ
recover_left l (Ticking n tick) = (3 - n) * (l.workers + 3) + tick_left l tick + (2 * l.all + 2)
recover_left l (Visiting e row) = 2 * (l.all - row) + 1
recover_left l (Taking e row) = 2 * (l.all - row)

-- what the steps since the first n made known
abbrev pub RecoverKnows : ℕ → Layout → RecoverOp → Caller → Type 0
RecoverKnows n l (Ticking k tick) p = KnowsEpoch n l tick p
RecoverKnows n l (Visiting e row) p = n ≤ length p.made
RecoverKnows n l (Taking e row) p = n ≤ length p.made

-- the tick moved to the epoch g: that is one tick more, and after the third one the home rows are looked at
abbrev pub MovesOn : Layout → ℕ → TickOp → RecoverOp → Made → Caller → Caller → Type 0
MovesOn l n tick op' m p q = (e : ℕ) × (g : ℕ) × HasLoaded tick e × (e < g) × In g q.epochs × FindsEpoch m g
    × (((n + 1 < 3) × (op' ≡ Ticking (n + 1) Load)) ⊎ ((n + 1 ≡ 3) × (op' ≡ Visiting g (p.number * l.home + 1))))

-- How it goes on. It has no answer but `Held` before three ticks have moved, and all rows are looked at under the epoch to which the third one moved
abbrev pub RecoverNext : Layout → RecoverOp → RecoverOp → Made → Caller → Caller → Recover → Type 0
RecoverNext l (Ticking n tick) op' m p q More = ((tick' : TickOp) × (op' ≡ Ticking n tick')) ⊎ MovesOn l n tick op' m p q
RecoverNext l (Ticking n tick) op' m p q (Held h) = Unit {0}
RecoverNext l (Ticking n tick) op' m p q Ready = ⊥
RecoverNext l (Ticking n tick) op' m p q Rows = ⊥
RecoverNext l (Visiting e row) op' m p q More = (op' ≡ Visiting e (row + 1)) ⊎ (op' ≡ Taking e row)
RecoverNext l (Visiting e row) op' m p q (Held h) = ⊥
RecoverNext l (Visiting e row) op' m p q _ = row ≡ p.number * l.home + l.home
RecoverNext l (Taking e row) op' m p q More = op' ≡ Visiting e (row + 1)
RecoverNext l (Taking e row) op' m p q (Held h) = ⊥
RecoverNext l (Taking e row) op' m p q _ = row ≡ p.number * l.home + l.home

-- a home row that the step found ripe is the next to be claimed
abbrev pub ClaimsRipe : RecoverOp → RecoverOp → Made → Recover → Type 0
ClaimsRipe (Ticking n tick) op' m result = Unit {0}
ClaimsRipe (Visiting e row) op' m result = IsRipeWord e m.found → (result ≡ More) × (op' ≡ Taking e row)
ClaimsRipe (Taking e row) op' m result = Unit {0}

-- the events that the caller keeps of its refusal are those that were pending at the load with which its recovery began, and twice their number is at least that of its rows
abbrev pub CountsRows : Layout → Caller → Type 0
CountsRows l q = (b : Base) × (q.base ≡ Some b) × (q.refused ≡ b.events) × (l.rows ≤ 2 * length q.refused)

-- what an answer means: there is a free row; or the epoch is held; or there is no free row, no home row was found ripe, and enough events are kept
abbrev pub RecoverAnswer : Layout → RecoverOp → Caller → Recover → Type 0
RecoverAnswer l op q More = IsRecovering l op q
RecoverAnswer l op q Ready = (row : ℕ) × (rest : List ℕ) × (q.hand ≡ row ∷ rest)
RecoverAnswer l op q (Held h) = IsHeldBy h q
RecoverAnswer l op q Rows = (q.hand ≡ []) × ((e : ℕ) × In e q.epochs × LookedSince l e (q.number * l.home + l.home + 1) q) × CountsRows l q

-- one step: what else the caller knows stays
pub record RecoverFacts (l : Layout) (op op' : RecoverOp) (p q : Caller) (result : Recover) : Type 0 where
  pub made : Made
  pub one : q.made ≡ p.made ++ made ∷ []
  pub makes : RecoverMakes l op made
  pub stays : q ≡ record p { made = q.made; epochs = q.epochs; tick = q.tick; cut = q.cut; base = q.base; hand = q.hand; ripening = q.ripening; refused = q.refused }
  pub grows : (e : ℕ) → In e p.epochs → In e q.epochs
  pub uncut : p.cut ≡ None → q.cut ≡ None
  pub next : RecoverNext l op op' made p q result
  pub claims : ClaimsRipe op op' made result
  pub answer : RecoverAnswer l op' q result
  pub exchanges : is_exchange made.kind ≡ recover_exchanges l op
  pub expects : (n : ℕ) → RecoverKnows n l op p → Expects n p.made made
  pub knows : (n : ℕ) → RecoverKnows n l op p → RecoverKnows n l op' q
  pub shrinks : result ≡ More → recover_left l op' < recover_left l op

pub record RecoverStepped (table : Table) (op op' : RecoverOp) (old new : Pass) (result : Recover) : Type 0 where
  pub is : IsPassOf table new
  pub same : new ≡ record old { seat = new.seat; free = new.free; turns = new.turns }
  pub facts : RecoverFacts table.start.layout op op' (caller table old) (caller table new) result
  pub turns : new.turns ≡ turns_after (is_exchange facts.made.kind) old.turns

-- what follows once the row was looked at: the next one, or after the last one an answer, and it begins anew
abbrev pub IsAfterRow : Layout → ℕ → ℕ → Caller → RecoverOp → Recover → Type 0
IsAfterRow l e row q op' More = (row < q.number * l.home + l.home) × (op' ≡ Visiting e (row + 1)) × IsRecovering l op' q
IsAfterRow l e row q op' (Held h) = ⊥
IsAfterRow l e row q op' Ready = (row ≡ q.number * l.home + l.home) × (op' ≡ Ticking 0 Load) × RecoverAnswer l op' q Ready
IsAfterRow l e row q op' Rows = (row ≡ q.number * l.home + l.home) × (op' ≡ Ticking 0 Load) × RecoverAnswer l op' q Rows
