-- What each kind of step on current does to what its caller knows, and to the core state.
use Rattle.std.specs.Prelude.{cond, ◌≡◌, Bool, true, false, ℕ, ◌+◌, ◌-◌, ◌^◌, ◌<◌, nat_lt, max, List, [], ◌∷◌, ◌++◌, length, Option, Some, None}
use Rattle.crq_base.specs.declared.entry.Entry.{Entry}
use Rattle.crq_base.specs.declared.entry.Entry.TheVariants.{Settled}
use Rattle.crq_base.specs.declared.words.Control.{Control}
use Rattle.crq_base.specs.declared.words.Current.{Current}
use Rattle.crq_rule.specs.declared.debts.SettleDebt.{SettleDebt}
use Rattle.crq_rule.specs.declared.view.Sight.{Sight}
use Rattle.crq_rule.specs.declared.view.Walk.{Walk}
use Rattle.crq_rule.specs.declared.view.Told.{Told}
use Rattle.crq_rule.specs.declared.layout.Start.{Start}
use Rattle.crq_rule.specs.declared.view.Caller.{Caller}
use Rattle.crq_rule.specs.Lists.{put}
use Rattle.crq_rule.specs.Core.{Core}
use Rattle.crq_rule.specs.HistoryParts.{EndsInBegin}
use Rattle.crq_rule.specs.Ranks.{Shape, bucket, first_tick, shape_of}
use Rattle.crq_rule.specs.ListKinds.{IsPast}

-- CurrentLoad: current was found to be y. A take that is to walk loads it for the table whose control word it found, and has read that table since; any other load leaves what was read of a table behind

abbrev pub table_seen : Option Control → Current → Option Sight
table_seen None y = None
table_seen (Some x) y = Some (record { table = x; current = y })

abbrev pub sight_on : Bool → Option Control → Current → Option Sight
sight_on walks x y = cond walks (table_seen x y) None

-- it gives a permit to raise current's epoch once, where enough epochs are left for all callers
abbrev pub permit_after : Current → Bool → Bool
permit_after y permit = cond (nat_lt y.epoch (2 ^ 32 - 64)) true permit

-- and tells that the epoch rose so far since the first one
abbrev pub told_after : Start → Current → Told → Told
told_after start y t = record t { settled = max (y.epoch - start.first.epoch) t.settled }

abbrev pub loads_current : Bool → Current → Caller → Caller
loads_current walks y p = record p { found = record p.found { current = Some y }; permit = permit_after y p.permit; told = told_after p.start y p.told; sight = sight_on walks p.found.control y; walk = None }

abbrev pub current_loaded : Core → ℕ → Bool → Core
current_loaded c j walks = record c {
  found = put c.found j (record (c.found j) { current = Some c.words.current });
  permit = put c.permit j (permit_after c.words.current (c.permit j));
  told = put c.told j (told_after c.start c.words.current (c.told j));
  read = put c.read j (cond walks (length c.history) (c.read j));
  sight = put c.sight j (sight_on walks (c.found j).control c.words.current);
  walk = put c.walk j None;
}

-- a take loads current after its Begin, for a steady table
abbrev pub MayView : List Entry → Option Control → Bool → Type 0
MayView own found false = Unit {0}
MayView own found true = EndsInBegin own × ((x : Control) × (found ≡ Some x) × (x.moving ≡ false))

-- Raise: current goes on from y to the next bucket of the table of the control word x. The walk goes, and the sight stays, since it says what current was

abbrev pub next_position : Control → Current → Current
next_position x y = record y { tick = first_tick (shape_of x) (bucket (shape_of x) y.tick + 1) }

abbrev pub raises : Caller → Caller
raises p = record p { walk = None }

abbrev pub raised : Core → ℕ → Control → Current → Core
raised c j x y = record c { words = record c.words { current = next_position x y }; walk = put c.walk j None }

-- a take that loaded current for this table walked the list of its bucket, and is past that bucket
pub record MayRaise (x : Control) (y : Current) (p : Caller) : Type 0 where
  pub sight : p.sight ≡ Some (record { table = x; current = y })
  pub walks : (w : Walk) × (p.walk ≡ Some w) × (w.bucket ≡ Some (bucket (shape_of x) y.tick)) × IsPast (shape_of x) (bucket (shape_of x) y.tick) w p.position.rows
  pub room : (next_position x y).tick < 2 ^ 32

-- An event that is owed is settled once current isn't behind it

-- the shape by which the table of a debt has its buckets. Of that table the debt knows their width alone
abbrev pub owed_shape : SettleDebt → Shape
owed_shape d = record { log = 0; shift = d.shift }

-- the event lies in a later bucket than current
abbrev pub lies_ahead : SettleDebt → Current → Bool
lies_ahead d y = nat_lt (bucket (owed_shape d) y.tick) (bucket (owed_shape d) d.event.time)

abbrev pub settles : SettleDebt → Caller → Caller
settles d p = record p { own = p.own ++ Settled p.number d.event ∷ []; debts = record p.debts { settle = None } }

abbrev pub event_settled : Core → ℕ → SettleDebt → Core
event_settled c j d = record c { history = c.history ++ Settled j d.event ∷ []; own = put c.own j (c.own j ++ Settled j d.event ∷ []); settling = put c.settling j None }

-- SettleLoad: current was found to be y. An event that lies ahead of it is settled with that, and else the load is one of current alone

abbrev pub loads_owed : SettleDebt → Current → Caller → Caller
loads_owed d y p = cond (lies_ahead d y) (settles d p) (loads_current false y p)

-- Settle: current goes from y back to the event's bucket, or to the beginning of its own, under the next epoch

abbrev pub owed_position : SettleDebt → Current → Current
owed_position d y = record { epoch = y.epoch + 1; tick = first_tick (owed_shape d) (bucket (owed_shape d) d.event.time) }

abbrev pub settled_back : Core → ℕ → SettleDebt → Current → Core
settled_back c j d y = record (event_settled c j d) { words = record c.words { current = owed_position d y }; permit = put c.permit j false }

abbrev pub settles_back : SettleDebt → Caller → Caller
settles_back d p = record (settles d p) { permit = false }

-- a caller that owes the event moves current back, where the event doesn't lie ahead of it, by the permit that it has
pub record MaySettle (d : SettleDebt) (y : Current) (p : Caller) : Type 0 where
  pub owes : p.debts.settle ≡ Some d
  pub behind : lies_ahead d y ≡ false
  pub time : d.event.time < 2 ^ 32
  pub permit : p.permit ≡ true
