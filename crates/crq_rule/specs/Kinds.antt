-- What each kind of step does to what its caller knows, and to the core state.
use Rattle.std.specs.Prelude.{cond, ◌==◌, ◌&&◌, ◌||◌, nat_le, Bool, false, ◌≡◌, ◌≢◌, ℕ, zero, suc, ◌+◌, ◌*◌, ◌<◌, ◌≤◌, List, [], ◌∷◌, ◌++◌, length, Option, Some, None}
use Rattle.crq_base.specs.declared.event.Event.{Event}
use Rattle.crq_base.specs.Lists.{In}
use Rattle.crq_rule.specs.declared.view.Guard.{Guard}
use Rattle.crq_rule.specs.declared.view.Guard.TheVariants.{Off, Entering, On}
use Rattle.crq_rule.specs.declared.view.Tick.{Tick}
use Rattle.crq_rule.specs.declared.view.CutRow.{CutRow}
use Rattle.crq_rule.specs.declared.view.Made.{Made}
use Rattle.crq_rule.specs.declared.view.Base.{Base}
use Rattle.crq_rule.specs.declared.view.Position.{Position}
use Rattle.crq_rule.specs.declared.view.Caller.{Caller}
use Rattle.crq_rule.specs.declared.view.View.{View}
use Rattle.crq_rule.specs.Lists.{put, without}
use Rattle.crq_rule.specs.Core.{Core, in_hand, retired}
use Rattle.crq_rule.specs.Parts.{LetsRise}
use Rattle.crq_rule.specs.ScarceParts.{pending}

abbrev pub on_first : (Caller → Caller) → List Caller → List Caller
on_first f [] = []
on_first f (p ∷ ps) = f p ∷ ps

-- the view, with its first part changed
abbrev pub alters : (Caller → Caller) → View → View
alters f v = record v { parts = on_first f v.parts }

-- the step m was made
abbrev pub makes : Made → Caller → Caller
makes m p = record p { made = p.made ++ m ∷ [] }

abbrev pub after_made : Core → ℕ → Made → Core
after_made c j m = record c { made = put c.made j (c.made j ++ m ∷ []) }

abbrev pub new_tick : ℕ → Tick
new_tick e = record { loaded = e; found = [] }

abbrev pub nowhere : Position
nowhere = record { rows = []; old = None }

-- the epoch e was loaded after the cut
abbrev pub tagged : ℕ → Option CutRow → Option CutRow
tagged e None = None
tagged e (Some x) = Some (record x { tags = e ∷ x.tags })

-- EpochLoad: the epoch r was found
abbrev pub loads_epoch : ℕ → Caller → Caller
loads_epoch r p = record p { epochs = r ∷ p.epochs; tick = new_tick r; cut = tagged r p.cut }

abbrev pub epoch_loaded : Core → ℕ → Core
epoch_loaded c j = record c { epochs = put c.epochs j (c.words.epoch ∷ c.epochs j); tick = put c.tick j (new_tick c.words.epoch); cut = put c.cut j (tagged c.words.epoch (c.cut j)) }

-- EpochLoad, as the first load of a recovery of rows: the epoch r was found while the history had m entries, and these events were pending

abbrev pub new_base : ℕ → List Event → ℕ → Base
new_base m events r = record { epoch = r; place = m; events = events; looked = 0 }

-- the epoch r was found, and this is the base since
abbrev pub loads_based : Option Base → ℕ → Caller → Caller
loads_based base r p = record p { epochs = r ∷ p.epochs; tick = new_tick r; cut = tagged r p.cut; base = base }

abbrev pub recovery_begun : Core → ℕ → Core
recovery_begun c j = record c {
  epochs = put c.epochs j (c.words.epoch ∷ c.epochs j);
  tick = put c.tick j (new_tick c.words.epoch);
  cut = put c.cut j (tagged c.words.epoch (c.cut j));
  base = put c.base j (Some (new_base (length c.history) (pending c.history) c.words.epoch));
}

-- Enter
abbrev pub enters : ℕ → Caller → Caller
enters e p = record p { guard = Entering e }

abbrev pub entered : Core → ℕ → ℕ → Core
entered c j e = record c { words = record c.words { announced = put c.words.announced j (e + 1) }; guard = put c.guard j (Entering e) }

-- Confirm: the epoch r was found
abbrev pub confirms : ℕ → Caller → Caller
confirms r p = record p { epochs = r ∷ p.epochs; guard = On r }

abbrev pub confirmed : Core → ℕ → Core
confirmed c j = record c { epochs = put c.epochs j (c.words.epoch ∷ c.epochs j); guard = put c.guard j (On c.words.epoch) }

-- Leave
abbrev pub leaves : Caller → Caller
leaves p = record p { guard = Off; position = nowhere; walk = None }

abbrev pub left : Core → ℕ → Core
left c j = record c { words = record c.words { announced = put c.words.announced j 0 }; guard = put c.guard j Off; rows = put c.rows j []; old = put c.old j None; walk = put c.walk j None }

-- Scan: the announcement of caller k was found to be the word r
abbrev pub scans : ℕ → ℕ → Caller → Caller
scans k r p = record p { tick = record { loaded = p.tick.loaded; found = (k, r) ∷ p.tick.found } }

abbrev pub scanned : Core → ℕ → ℕ → Core
scanned c j k = record c { tick = put c.tick j (record { loaded = (c.tick j).loaded; found = (k, c.words.announced k) ∷ (c.tick j).found }) }

-- Tick from x: the epoch r was found, which became x + 1 where it was x
abbrev pub ticks : ℕ → ℕ → Caller → Caller
ticks x r p = record p { epochs = (cond (r == x) (x + 1) r) ∷ p.epochs; tick = new_tick 0 }

abbrev pub ticked : Core → ℕ → ℕ → Core
ticked c j x = record c { words = record c.words { epoch = x + 1 }; epochs = put c.epochs j ((x + 1) ∷ c.epochs j); tick = put c.tick j (new_tick 0) }

-- a tick that found another epoch
abbrev pub tick_failed : Core → ℕ → Core
tick_failed c j = record c { epochs = put c.epochs j (c.words.epoch ∷ c.epochs j); tick = put c.tick j (new_tick 0) }

-- Retire
abbrev pub retires : Caller → Caller
retires p = record p { cut = None }

abbrev pub retired_at : Core → ℕ → ℕ → ℕ → Core
retired_at c j r t = record c { words = record c.words { stamp = put c.words.stamp r (t + 1) }; cut = put c.cut j None; holding = put c.holding r (retired t) }

-- Look: the stamp of the row r was found to be the word w, where 0 is 'kept'
abbrev pub seen_stamp : ℕ → ℕ → List (ℕ × ℕ) → List (ℕ × ℕ)
seen_stamp r zero xs = xs
seen_stamp r (suc t) xs = (r, t) ∷ xs

-- an epoch of these is three above g
abbrev pub has_risen : ℕ → List ℕ → Bool
has_risen g [] = false
has_risen g (e ∷ es) = nat_le (g + 3) e || has_risen g es

-- the stamp of a row that isn't ripe under the epoch g + 3
abbrev pub is_late_word : ℕ → ℕ → Bool
is_late_word g w = (w == 0) || nat_le (g + 3) w

-- the base after a look at the row r, where the caller's first home row is `first`: it counts the next home row, if the epoch rose by three, and the row isn't ripe under that
abbrev pub looked_base : ℕ → ℕ → ℕ → List ℕ → Option Base → Option Base
looked_base first r w epochs None = None
looked_base first r w epochs (Some b) = Some (record b { looked = cond ((r == first + b.looked) && (is_late_word b.epoch w && has_risen b.epoch epochs)) (b.looked + 1) b.looked })

-- where all home rows were counted so, and none is in hand, the events of the base are those of a refusal
abbrev pub refused_after : ℕ → List ℕ → Option Base → List Event → List Event
refused_after home [] (Some b) old = cond (b.looked == home) b.events old
refused_after home _ _ old = old

-- the recovery b of a caller found no row: all home rows were counted so, and none is in hand
abbrev pub FoundNoRow : Caller → Base → Type 0
FoundNoRow p b = (p.base ≡ Some b) × (p.hand ≡ []) × (b.looked ≡ p.start.layout.home)

abbrev pub looks : ℕ → ℕ → Caller → Caller
looks r w p = let base = looked_base (p.number * p.start.layout.home + 1) r w p.epochs p.base in
    record p { ripening = seen_stamp r w p.ripening; base = base; refused = refused_after p.start.layout.home p.hand base p.refused }

-- what the caller j's base is after a look at the row r
abbrev pub base_looked : Core → ℕ → ℕ → Option Base
base_looked c j r = looked_base (j * c.start.layout.home + 1) r (c.words.stamp r) (c.epochs j) (c.base j)

abbrev pub looked : Core → ℕ → ℕ → Core
looked c j r = record c {
  ripening = put c.ripening j (seen_stamp r (c.words.stamp r) (c.ripening j));
  base = put c.base j (base_looked c j r);
  refused = put c.refused j (refused_after c.start.layout.home (c.hand j) (base_looked c j r) (c.refused j));
}

-- Claim
abbrev pub claims : ℕ → Caller → Caller
claims r p = record p { hand = p.hand ++ r ∷ []; ripening = without r p.ripening }

abbrev pub claimed : Core → ℕ → ℕ → Core
claimed c j r = record c { words = record c.words { stamp = put c.words.stamp r 0 }; hand = put c.hand j (c.hand j ++ r ∷ []); ripening = put c.ripening j (without r (c.ripening j)); holding = put c.holding r (in_hand j) }

-- Conditions

-- the tick scanned every other caller, and found it out or at the epoch loaded
abbrev pub HasScanned : ℕ → ℕ → Tick → Type 0
HasScanned n j t = (k : ℕ) → k < n → k ≢ j → (a : ℕ) × In (k, a) t.found × LetsRise t.loaded a

abbrev pub IsEntering : Guard → Type 0
IsEntering g = (x : ℕ) × (g ≡ Entering x)

-- the row r was cut, and the epoch t loaded since
abbrev pub MayRetire : Option CutRow → ℕ → ℕ → Type 0
MayRetire cut r t = (x : CutRow) × (cut ≡ Some x) × (x.row ≡ r) × In t x.tags

-- the row r was found retired, and e is two epochs after its tag
abbrev pub IsRipe : List (ℕ × ℕ) → ℕ → ℕ → Type 0
IsRipe ripening r e = (t : ℕ) × In (r, t) ripening × (t + 2 ≤ e)
