-- What each kind of step that moves the table does to what its caller knows, and to the core state.
use Rattle.std.specs.Prelude.{◌≡◌, ◌⊎◌, ℕ, ◌+◌, ◌-◌, ◌^◌, ◌<◌, ◌≤◌, true, false, List, [], ◌∷◌, ◌++◌, Some, None}
use Rattle.crq_base.specs.declared.entry.Entry.TheVariants.{Table}
use Rattle.crq_base.specs.declared.words.Link.{Link}
use Rattle.crq_base.specs.declared.words.Mark.{Mark}
use Rattle.crq_base.specs.declared.words.Mark.TheVariants.{Val, Mov, Del}
use Rattle.crq_base.specs.declared.words.Control.{Control}
use Rattle.crq_base.specs.Lists.{In}
use Rattle.crq_rule.specs.declared.view.Help.{Help}
use Rattle.crq_rule.specs.declared.view.Stand.{Stand}
use Rattle.crq_rule.specs.declared.view.Caller.{Caller}
use Rattle.crq_rule.specs.Lists.{put}
use Rattle.crq_rule.specs.Places.{IsHead}
use Rattle.crq_rule.specs.Core.{Core}
use Rattle.crq_rule.specs.Ranks.{next_of, IsHeadIn, IsOpen, at_head}
use Rattle.crq_rule.specs.Helping.{helped_by}
use Rattle.crq_rule.specs.ListKinds.{noted}

-- Announce: the table is to move into one with 2 ^ log lists, whose buckets are 2 ^ shift ticks wide

abbrev pub moving_to : Control → ℕ → ℕ → Control
moving_to x log shift = record x { moving = true; new_log = log; new_shift = shift }

abbrev pub announces : ℕ → ℕ → Caller → Caller
announces log shift p = record p { own = p.own ++ Table p.number log shift ∷ []; permit = false }

abbrev pub table_announced : Core → ℕ → Control → ℕ → ℕ → Core
table_announced c j x log shift = record c {
  words = record c.words { control = moving_to x log shift };
  shape = put c.shape (x.generation + 1) (record { log = log; shift = shift });
  history = c.history ++ Table j log shift ∷ [];
  own = put c.own j (c.own j ++ Table j log shift ∷ []);
  permit = put c.permit j false;
}

-- a caller that owes no event and has a permit may announce a table behind the one that it found open, where that isn't the last that there may be
pub record MayAnnounce (x : Control) (log shift : ℕ) (p : Caller) : Type 0 where
  pub moves : p.start.moves ≡ true
  pub control : p.found.control ≡ Some x
  pub steady : x.moving ≡ false
  pub room : x.generation < 2 ^ 30 - 2
  pub log_fits : log < 2 ^ 4
  pub shift_fits : shift < 2 ^ 5
  pub settled : p.debts.settle ≡ None
  pub permit : p.permit ≡ true

-- Prepare: a head of the new table is opened, which was l

abbrev pub prepared_link : Control → Link
prepared_link x = record { generation = x.generation + 1; row = 0; mark = Val }

-- the caller left the link l in the head q
abbrev pub leaves_head : ℕ → Link → Caller → Caller
leaves_head q l p = record p { help = helped_by p.found.control p.number (at_head q) l p.help }

abbrev pub head_left : Core → ℕ → ℕ → Link → Core
head_left c j q l = record c {
  words = record c.words { head = put c.words.head q l };
  help = put c.help j (helped_by (c.found j).control j (at_head q) l (c.help j));
}

pub record MayPrepare (x : Control) (q : ℕ) (l : Link) (p : Caller) : Type 0 where
  pub control : p.found.control ≡ Some x
  pub moving : x.moving ≡ true
  pub head : IsHeadIn (x.generation + 1) (next_of x) q
  pub older : l.generation ≤ x.generation

-- FreezeHead: a head of the table that moves, which was l, takes no more rows. All heads of the new table were found prepared before

abbrev pub frozen_link : Link → Link
frozen_link l = record l { mark = Mov }

pub record MayFreezeHead (x : Control) (q : ℕ) (l : Link) (p : Caller) : Type 0 where
  pub control : p.found.control ≡ Some x
  pub moving : x.moving ≡ true
  pub helps : (h : Help) × (p.help ≡ Some h) × (h.prepared ≡ 2 ^ x.new_log)
  pub head : IsOpen x q
  pub present : l.mark ≡ Val
  pub now : l.generation ≡ x.generation

-- FreezeNode: the first row of a frozen head, whose link was l, is frozen too: it doesn't come to be taken in its table any more

abbrev pub freezes_row : ℕ → Link → Caller → Caller
freezes_row r l p = record p { position = record { rows = noted r (frozen_link l) p.position.rows; old = p.position.old } }

abbrev pub row_frozen : Core → ℕ → ℕ → Link → Core
row_frozen c j r l = record c {
  words = record c.words { link = put c.words.link r (frozen_link l) };
  rows = put c.rows j (noted r (frozen_link l) (c.rows j));
}

pub record MayFreezeRow (r : ℕ) (l : Link) (p : Caller) : Type 0 where
  pub on : (s : Stand) × In s p.position.rows × (s.row ≡ r) × ((q : ℕ) × IsHead q × (s.front ≡ Some q))
  pub present : l.mark ≡ Val

-- Pop: the first row r of a frozen head leaves the list. It is dead, or its copy was found not to want its validation any more

abbrev pub IsGone : Mark → Stand → List Stand → Type 0
IsGone m s ss = (m ≡ Del) ⊎ ((m ≡ Mov) × ((u : Stand) × In u ss × (s.twin ≡ Some u.row) × (u.valid ≡ true)))

pub record MayPop (q r : ℕ) (last : Link) (p : Caller) : Type 0 where
  pub none : p.cut ≡ None
  pub head : IsHead q
  pub on : (s : Stand) × In s p.position.rows × (s.row ≡ r) × (s.last ≡ Some last) × IsGone last.mark s p.position.rows
