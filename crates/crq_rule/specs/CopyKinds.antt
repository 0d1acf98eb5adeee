-- What each kind of step that carries events into the next table does to what its caller knows, and to the core state.
use Rattle.std.specs.Prelude.{cond, ◌==◌, ◌≡◌, ℕ, ◌+◌, ◌^◌, true, false, List, [], ◌∷◌, ◌++◌, Option, Some, None, Bool}
use Rattle.crq_base.specs.declared.event.Event.{Event}
use Rattle.crq_base.specs.declared.words.Link.{Link}
use Rattle.crq_base.specs.declared.words.Mark.{Mark}
use Rattle.crq_base.specs.declared.words.Mark.TheVariants.{Val, Inv as Invalid, Mov, Del}
use Rattle.crq_base.specs.declared.words.Control.{Control}
use Rattle.crq_base.specs.Words.{IsLink}
use Rattle.crq_base.specs.Lists.{In}
use Rattle.crq_rule.specs.declared.debts.CopyDebt.{CopyDebt}
use Rattle.crq_rule.specs.declared.debts.CutDebt.{CutDebt}
use Rattle.crq_rule.specs.declared.view.Help.{Help}
use Rattle.crq_rule.specs.declared.view.Stand.{Stand}
use Rattle.crq_rule.specs.declared.view.Caller.{Caller}
use Rattle.crq_rule.specs.Lists.{put}
use Rattle.crq_rule.specs.Places.{IsHead}
use Rattle.crq_rule.specs.Core.{Core, DeadNames, names_of, renamed, listed}
use Rattle.crq_rule.specs.Parts.{IsEvent, IsOn}
use Rattle.crq_rule.specs.Ranks.{list_in, next_list, Cell, heads_set, links_set, after_cell}
use Rattle.crq_rule.specs.ListKinds.{is_cell, noted, unhanded, forgotten, IsWritten, ComesAfter, ComesBefore, StandsOn}

-- TwinLoad: the twin t of the frozen row r was found. Where there is none, the caller is to link a copy of r; else it stands on the copy too

-- a stand of which nothing but its row, event and table is known
abbrev pub plain_stand : ℕ → Event → ℕ → Stand
plain_stand r e g = record { row = r; event = e; generation = g; last = None; twin = None; valid = false; front = None }

-- the copy of the row on which a caller stands
abbrev pub twin_stand : ℕ → Stand → Stand
twin_stand t s = plain_stand t s.event (s.generation + 1)

-- the stands on r have the twin t
abbrev pub twinned : ℕ → ℕ → List Stand → List Stand
twinned r t [] = []
twinned r t (s ∷ ss) = cond (s.row == r) (record s { twin = Some t }) s ∷ twinned r t ss

-- the stand of the copy, by the first stand on r
abbrev pub copy_stands : ℕ → ℕ → List Stand → List Stand
copy_stands r t [] = []
copy_stands r t (s ∷ ss) = cond (s.row == r) (twin_stand t s ∷ []) (copy_stands r t ss)

abbrev pub stands_twinned : ℕ → ℕ → List Stand → List Stand
stands_twinned r t ss = cond (t == 0) ss (copy_stands r t ss ++ twinned r t ss)

-- the first stand on r
abbrev pub stand_on : ℕ → List Stand → Option Stand
stand_on r [] = None
stand_on r (s ∷ ss) = cond (s.row == r) (Some s) (stand_on r ss)

abbrev pub old_after : ℕ → ℕ → List Stand → Option Stand → Option Stand
old_after r t ss old = cond (t == 0) (stand_on r ss) old

abbrev pub loads_twin : ℕ → ℕ → Caller → Caller
loads_twin r t p = record p { position = record { rows = stands_twinned r t p.position.rows; old = old_after r t p.position.rows p.position.old } }

abbrev pub twin_loaded : Core → ℕ → ℕ → Core
twin_loaded c j r = record c { rows = put c.rows j (stands_twinned r (c.words.twin r) (c.rows j)); old = put c.old j (old_after r (c.words.twin r) (c.rows j) (c.old j)) }

-- a caller that owes no copy stands on the row, which it found frozen
pub record MayTwin (r : ℕ) (p : Caller) : Type 0 where
  pub none : p.debts.copy ≡ None
  pub on : (s : Stand) × In s p.position.rows × (s.row ≡ r) × ((l : Link) × (s.last ≡ Some l) × (l.mark ≡ Mov))

-- The caller that owes a copy found the twin t of the old row, if its own isn't bound: in a load of it, or where it wanted to bind its own

abbrev pub old_stand : CopyDebt → ℕ → Stand
old_stand d t = record { row = d.old; event = d.event; generation = d.last.generation; last = Some d.last; twin = Some t; valid = false; front = None }

abbrev pub lost_stands : CopyDebt → ℕ → List Stand → List Stand
lost_stands d t ss = cond (t == 0) ss (old_stand d t ∷ plain_stand t d.event d.generation ∷ ss)

abbrev pub finds_twin : CopyDebt → ℕ → Caller → Caller
finds_twin d t p = record p { position = record { rows = lost_stands d t p.position.rows; old = p.position.old } }

abbrev pub twin_found : Core → ℕ → CopyDebt → Core
twin_found c j d = record c { rows = put c.rows j (lost_stands d (c.words.twin d.old) (c.rows j)) }

-- Copy: the row r, which holds the event e of the row that the caller has found to have no copy, comes after the cell, whose link was l. The caller owes to bind it

abbrev pub copy_debt : Stand → Link → ℕ → ℕ → ℕ → CopyDebt
copy_debt s last r g q = record { old = s.row; copy = r; event = s.event; generation = g; head = q; last = last }

abbrev pub copies : Control → Stand → Link → ℕ → Caller → Caller
copies x s last r p = record p {
  hand = unhanded r p.hand;
  written = forgotten r p.written;
  base = None;
  position = record { rows = p.position.rows; old = None };
  debts = record p.debts { copy = Some (copy_debt s last r (x.generation + 1) (next_list x s.event)) };
}

abbrev pub copied : Core → ℕ → Cell → Link → ℕ → Stand → Link → Core
copied c j cell l r s last = let q = list_in c.shape l.generation s.event in let new : Link = record l { row = r } in record c {
  words = record c.words { head = heads_set c.words.head cell new; link = links_set c.words.link cell new };
  copying = put c.copying j (Some (copy_debt s last r l.generation q));
  old = put c.old j None;
  chain = put c.chain q (after_cell cell r (c.chain q));
  holding = put c.holding r (listed q);
  hand = put c.hand j (unhanded r (c.hand j));
  base = put c.base j None;
  written = put c.written j (forgotten r (c.written j));
}

-- a helper that found all heads of the table that moves frozen
pub record MayCopy (x : Control) (cell : Cell) (l : Link) (r : ℕ) (s : Stand) (last : Link) (p : Caller) : Type 0 where
  pub on : IsOn p.guard
  pub none : p.debts.copy ≡ None
  pub room : p.debts.second_cut ≡ None
  pub control : p.found.control ≡ Some x
  pub moving : x.moving ≡ true
  pub helps : (h : Help) × (p.help ≡ Some h) × (h.frozen ≡ 2 ^ x.log)
  pub old : p.position.old ≡ Some s
  pub frozen : (s.last ≡ Some last) × (last.generation ≡ x.generation)
  pub in_hand_is : In r p.hand
  pub event : IsEvent s.event
  pub expected : IsLink l × (is_cell l.mark ≡ true) × (l.generation ≡ x.generation + 1)
  pub written : IsWritten Invalid p.written r s.event l
  pub after : ComesAfter (next_list x) p.position.rows cell r s.event
  pub before : ComesBefore p.position.rows l.row r s.event

-- Bind: the old row's twin is the copy from now on. The caller stands on both

abbrev pub binds : CopyDebt → Caller → Caller
binds d p = record p { position = record { rows = old_stand d d.copy ∷ plain_stand d.copy d.event d.generation ∷ p.position.rows; old = p.position.old }; debts = record p.debts { copy = None } }

abbrev pub bound_by : Core → ℕ → CopyDebt → Core
bound_by c j d = record c {
  words = record c.words { twin = put c.words.twin d.old d.copy };
  copying = put c.copying j None;
  rows = put c.rows j (old_stand d d.copy ∷ plain_stand d.copy d.event d.generation ∷ c.rows j);
}

-- Walk to the copy that a caller owes: where that was found dead, the caller owes it no more

abbrev pub is_del : Mark → Bool
is_del Val = false
is_del Invalid = false
is_del Mov = false
is_del Del = true

abbrev pub copy_after : Link → Option CopyDebt → Option CopyDebt
copy_after l o = cond (is_del l.mark) None o

abbrev pub loads_copy : Link → Caller → Caller
loads_copy l p = record p { debts = record p.debts { copy = copy_after l p.debts.copy } }

abbrev pub copy_loaded : Core → ℕ → CopyDebt → Core
copy_loaded c j d = record c { copying = put c.copying j (copy_after (c.words.link d.copy) (c.copying j)) }

-- Validate: a copy that is bound, whose link was l, is present from now on

abbrev pub valid_link : Link → Link
valid_link l = record l { mark = Val }

abbrev pub validates : ℕ → Link → Caller → Caller
validates t l p = record p { position = record { rows = noted t (valid_link l) p.position.rows; old = p.position.old } }

abbrev pub validated_by : Core → ℕ → ℕ → Link → Core
validated_by c j t l = record c { words = record c.words { link = put c.words.link t (valid_link l) }; rows = put c.rows j (noted t (valid_link l) (c.rows j)) }

pub record MayValidate (t : ℕ) (l : Link) (p : Caller) : Type 0 where
  pub twin : (s : Stand) × In s p.position.rows × (s.twin ≡ Some t)
  pub on : (e : Event) × StandsOn p.position.rows t e
  pub copy : l.mark ≡ Invalid

-- Discard: a copy is dead from now on, and its caller owes to cut it. It is its own that lost, or one that wasn't bound before its list was frozen, and is the first of that

abbrev pub dead_link : Link → Link
dead_link l = record l { mark = Del }

-- one dead row more that a caller owes
abbrev pub also_named : CutDebt → Option CutDebt → Option CutDebt → DeadNames
also_named d None second = record { first = Some d; second = second }
also_named d (Some f) second = record { first = Some f; second = Some d }

abbrev pub named_too : CutDebt → DeadNames → DeadNames
named_too d names = also_named d names.first names.second

abbrev pub lost_name : CopyDebt → CutDebt
lost_name d = record { generation = d.generation; head = d.head; event = d.event; row = d.copy; front = false }

abbrev pub front_name : ℕ → ℕ → Event → Link → CutDebt
front_name q r e l = record { generation = l.generation; head = q; event = e; row = r; front = true }

abbrev pub discards : ℕ → Link → CutDebt → Option CopyDebt → Caller → Caller
discards r l n copy p = record p { position = record { rows = noted r (dead_link l) p.position.rows; old = p.position.old }; debts = renamed (record p.debts { copy = copy }) (named_too n (names_of p.debts)) }

abbrev pub discarded_by : Core → ℕ → ℕ → Link → CutDebt → Option CopyDebt → Core
discarded_by c j r l n copy = record c {
  words = record c.words { link = put c.words.link r (dead_link l) };
  rows = put c.rows j (noted r (dead_link l) (c.rows j));
  copying = put c.copying j copy;
  named = put c.named j (named_too n (c.named j));
}

-- the caller stands on the old row, whose twin it found
pub record MayDrop (d : CopyDebt) (l : Link) (p : Caller) : Type 0 where
  pub owes : p.debts.copy ≡ Some d
  pub lost : (s : Stand) × In s p.position.rows × (s.row ≡ d.old) × ((t : ℕ) × (s.twin ≡ Some t))
  pub copy : l.mark ≡ Invalid

pub record MayDiscard (q r : ℕ) (e : Event) (l : Link) (p : Caller) : Type 0 where
  pub none : p.debts.copy ≡ None
  pub room : p.debts.second_cut ≡ None
  pub head : IsHead q
  pub on : (s : Stand) × In s p.position.rows × (s.row ≡ r) × (s.event ≡ e) × (s.front ≡ Some q)
  pub copy : l.mark ≡ Invalid
