-- Looking for a free row: what it knows between two steps, and what each step tells.
use Rattle.std.specs.Prelude.{◌≡◌, ℕ, ◌+◌, ◌-◌, ◌*◌, ◌<◌, ◌≤◌, ◌&&◌, Bool, cond, nat_lt, nat_le, List, [], ◌∷◌, ◌++◌, length, None}
use Rattle.crq_base.specs.declared.kinds.StepKind.{StepKind}
use Rattle.crq_base.specs.declared.kinds.StepKind.TheVariants.{EpochLoad, Look, Claim}
use Rattle.crq_base.specs.Lists.{In}
use Rattle.crq_rule.specs.declared.layout.Layout.{Layout}
use Rattle.crq_rule.specs.declared.view.Made.{Made}
use Rattle.crq_rule.specs.declared.view.Caller.{Caller}
use Rattle.crq_rule.specs.declared.pass.Pass.{Pass}
use Rattle.crq_rule.specs.declared.pass.Table.{Table}
use Rattle.crq_rule.specs.Places.{index, epoch, stamp, IsHomeRow}
use Rattle.crq_rule.specs.Kinds.{IsRipe}
use Rattle.crq_rows.specs.declared.own.OwnOp.{OwnOp}
use Rattle.crq_rows.specs.declared.own.OwnOp.TheVariants.{Load, Looking, Claiming}
use Rattle.crq_rows.specs.declared.own.Own.{Own}
use Rattle.crq_rows.specs.declared.own.Own.TheVariants.{More, Row, Empty}
use Rattle.crq_rows.specs.Passes.{caller, load_made, store_made, IsPassOf}

-- the word of a stamp is ripe under the epoch e: the row is retired, and e is two epochs after its tag
abbrev pub IsRipeWord : ℕ → ℕ → Type 0
IsRipeWord e w = (0 < w) × (w + 1 ≤ e)

-- the same as a test
abbrev pub is_ripe_word : ℕ → ℕ → Bool
is_ripe_word e w = nat_lt 0 w && nat_le (w + 1) e

-- the steps with a row whose stamp was found to be w: the look, and right after it the claim where the row is ripe under the epoch e
abbrev pub row_steps : Layout → ℕ → ℕ → ℕ → List Made
row_steps l e row w = load_made Look (index l (stamp row)) w ∷ cond (is_ripe_word e w) (store_made Claim (index l (stamp row)) 0 ∷ []) []

-- the steps with the rows from `row` on in order, whose stamps were found to be these
abbrev pub round_steps : Layout → ℕ → ℕ → List ℕ → List Made
round_steps l e row [] = []
round_steps l e row (w ∷ ws) = row_steps l e row w ++ round_steps l e (row + 1) ws

-- those of the rows that are ripe
abbrev pub ripe_rows : ℕ → ℕ → List ℕ → List ℕ
ripe_rows e row [] = []
ripe_rows e row (w ∷ ws) = cond (is_ripe_word e w) (row ∷ []) [] ++ ripe_rows e (row + 1) ws

-- since the epoch e was loaded, the caller looked at each home row before `next`, in order and once, claimed each that it found ripe right after that look, and has just these rows in hand
pub record LookedRound (l : Layout) (e next : ℕ) (p : Caller) : Type 0 where
  pub before : List Made
  pub words : List ℕ
  pub made : p.made ≡ before ++ load_made EpochLoad (index l epoch) e ∷ round_steps l e (p.number * l.home + 1) words
  pub whole : p.number * l.home + 1 + length words ≡ next
  pub hand : p.hand ≡ ripe_rows e (p.number * l.home + 1) words

-- the same before the row `row`, and then the caller found that row ripe, and has yet to claim it
pub record FoundRipe (l : Layout) (e row : ℕ) (p : Caller) : Type 0 where
  pub before : List Made
  pub words : List ℕ
  pub word : ℕ
  pub ripe : IsRipeWord e word
  pub made : p.made ≡ before ++ load_made EpochLoad (index l epoch) e ∷ (round_steps l e (p.number * l.home + 1) words ++ load_made Look (index l (stamp row)) word ∷ [])
  pub whole : p.number * l.home + 1 + length words ≡ row
  pub hand : p.hand ≡ ripe_rows e (p.number * l.home + 1) words

-- these steps are looks at the rows from `row` to before `next`, in order, and none was found ripe under the epoch e
abbrev pub NoneRipe : Layout → ℕ → ℕ → List Made → ℕ → Type 0
NoneRipe l e row [] next = row ≡ next
NoneRipe l e row (m ∷ ms) next = ((w : ℕ) × (m ≡ load_made Look (index l (stamp row)) w) × (IsRipeWord e w → ⊥)) × NoneRipe l e (row + 1) ms next

-- since the epoch e was loaded, the caller looked at its home rows before `next`, in order, and found none ripe
pub record LookedTo (l : Layout) (e next : ℕ) (p : Caller) : Type 0 where
  pub before : List Made
  pub since : List Made
  pub made : p.made ≡ before ++ load_made EpochLoad (index l epoch) e ∷ since
  pub looks : NoneRipe l e (p.number * l.home + 1) since next

-- the caller has no free row, and found no home row ripe under the epoch that it loaded last
pub record FoundNone (l : Layout) (p : Caller) : Type 0 where
  pub none : p.hand ≡ []
  pub epoch : ℕ
  pub looked : LookedTo l epoch (p.number * l.home + l.home + 1) p

abbrev pub IsOwning : Layout → OwnOp → Caller → Type 0
IsOwning l Load p = Unit {0}
IsOwning l (Looking e row) p = In e p.epochs × IsHomeRow l p.number row × LookedRound l e row p
IsOwning l (Claiming e row) p = In e p.epochs × IsHomeRow l p.number row × IsRipe p.ripening row e × FoundRipe l e row p

-- the step that it makes: a load of the epoch, a look at the next home row, or the claim of a ripe one
abbrev pub OwnMakes : Layout → OwnOp → Made → Type 0
OwnMakes l Load m = (m.kind ≡ EpochLoad) × (m.word ≡ index l epoch)
OwnMakes l (Looking e row) m = (m.kind ≡ Look) × (m.word ≡ index l (stamp row))
OwnMakes l (Claiming e row) m = (m.kind ≡ Claim) × (m.word ≡ index l (stamp row))

-- and its kind
abbrev pub own_kind : OwnOp → StepKind
own_kind Load = EpochLoad
own_kind (Looking e row) = Look
own_kind (Claiming e row) = Claim

-- no more steps than these answer `More` yet
abbrev pub own_left : Layout → OwnOp → ℕ
own_left l Load = 2 * l.all + 2
own_left l (Looking e row) = 2 * (l.all - row) + 1
own_left l (Claiming e row) = 2 * (l.all - row)

-- what an answer means: the row is the first free one, and the free ones are all home rows that were found ripe, each claimed; or there is none, and none was found ripe
abbrev pub OwnAnswer : Layout → OwnOp → Caller → Own → Type 0
OwnAnswer l op q More = IsOwning l op q
OwnAnswer l op q (Row row) = (rest : List ℕ) × (q.hand ≡ row ∷ rest) × ((e : ℕ) × LookedRound l e (q.number * l.home + l.home + 1) q)
OwnAnswer l op q Empty = FoundNone l q

-- what follows once the row was looked at, and claimed where it was ripe: the next one, or after the last one an answer, and it begins anew
abbrev pub IsAfterLook : Layout → ℕ → ℕ → Caller → OwnOp → Own → Type 0
IsAfterLook l e row q op' More = (row < q.number * l.home + l.home) × (op' ≡ Looking e (row + 1)) × IsOwning l op' q
IsAfterLook l e row q op' (Row first) = (row ≡ q.number * l.home + l.home) × (op' ≡ Load) × OwnAnswer l op' q (Row first)
IsAfterLook l e row q op' Empty = (row ≡ q.number * l.home + l.home) × (op' ≡ Load) × OwnAnswer l op' q Empty

-- one step: what else the caller knows stays
pub record OwnFacts (l : Layout) (op op' : OwnOp) (p q : Caller) (result : Own) : Type 0 where
  pub made : Made
  pub one : q.made ≡ p.made ++ made ∷ []
  pub makes : OwnMakes l op made
  pub stays : q ≡ record p { made = q.made; epochs = q.epochs; tick = q.tick; cut = q.cut; base = q.base; hand = q.hand; ripening = q.ripening; refused = q.refused }
  pub grows : (e : ℕ) → In e p.epochs → In e q.epochs
  pub uncut : p.cut ≡ None → q.cut ≡ None
  pub answer : OwnAnswer l op' q result

pub record OwnStepped (table : Table) (op op' : OwnOp) (old new : Pass) (result : Own) : Type 0 where
  pub is : IsPassOf table new
  pub same : new ≡ record old { seat = new.seat; free = new.free }
  -- at the beginning the first free row is answered, without a step
  pub has : (row : ℕ) (rest : List ℕ) → op ≡ Load → old.free.items ≡ row ∷ rest → (new ≡ old) × (op' ≡ Load) × (result ≡ Row row)
  pub steps : (op ≡ Load → old.free.items ≡ []) → OwnFacts table.start.layout op op' (caller table old) (caller table new) result
  -- where none was found, that is the answer
  pub exact : (op ≡ Load → old.free.items ≡ []) → FoundNone table.start.layout (caller table new) → result ≡ Empty
  pub shrinks : result ≡ More → own_left table.start.layout op' < own_left table.start.layout op
