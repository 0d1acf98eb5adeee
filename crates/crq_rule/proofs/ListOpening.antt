-- A new table has empty lists, and all rows in hand: it meets the parts of the invariant on lists and on the history.
use Rattle.std.proofs.Common.{◌≡◌, ◌⊎◌, ⊎_elim, le_refl, ℕ, ◌+◌, ◌^◌, ◌≤◌, cond, ◌&&◌, Bool, true, false, ltb, leb, List, [], ◌∷◌, ◌++◌, Some, None, sym, refl, ap, subst, arith, inl}
use Rattle.std.proofs.lemmas.Bool.{false≢true, lt-ltb, ltb-true, le-leb, leb-true}
use Rattle.crq_base.specs.declared.entry.Entry.{Entry}
use Rattle.crq_base.specs.declared.entry.Entry.TheVariants.{Begin}
use Rattle.crq_base.specs.declared.words.Link.{Link}
use Rattle.crq_base.specs.Words.{IsControl}
use Rattle.crq_base.specs.Starts.{IsFirst}
use Rattle.crq_base.specs.declared.words.Mark.TheVariants.{Val}
use Rattle.crq_rule.specs.declared.debts.SettleDebt.{SettleDebt}
use Rattle.crq_rule.specs.declared.debts.CopyDebt.{CopyDebt}
use Rattle.crq_rule.specs.declared.debts.CutDebt.{CutDebt}
use Rattle.crq_rule.specs.declared.layout.Start.{Start}
use Rattle.crq_rule.specs.declared.view.Guard.TheVariants.{Off, On}
use Rattle.crq_rule.specs.declared.view.Stand.{Stand}
use Rattle.crq_rule.specs.declared.view.Sight.{Sight}
use Rattle.crq_rule.specs.declared.view.Walk.{Walk}
use Rattle.crq_rule.specs.declared.view.Help.{Help}
use Rattle.crq_rule.specs.Core.{in_hand, listed}
use Rattle.crq_rule.specs.Ranks.{first_head_of, shape_of, IsHeadIn, IsOpen}
use Rattle.crq_rule.specs.Parts.{ground_of, Fits}
use Rattle.crq_rule.specs.Steady.{Steady}
use Rattle.crq_rule.specs.ListParts.{Sizes, Dues, Heads, Sorted, Marks, Standing, Copying, Lanes, Writing, Naming, IsShut}
use Rattle.crq_rule.specs.HistoryParts.{Carriers, Told, Settling, Walkers, IsLive}
use Rattle.crq_rule.specs.Ahead.{Ahead}
use Rattle.crq_rule.specs.Copies.{Copies, Rooms, Bare, Unlinked}
use Rattle.crq_rule.specs.Ending.{Ends}
use Rattle.crq_rule.specs.Invariant.{present_of, takes_of, rows_of_core, ending_of}
use Rattle.crq_rule.specs.Opening.{home_of, opening_log, opening_core, opening_head, open_head, shut_head}
use Rattle.crq_rule.proofs.PartLaws.{sort}

hand_listed : (j q : ℕ) → in_hand j ≡ listed q → ⊥
hand_listed j q e = let z : ◌≡◌ {A = ℕ} 0 1 = ap sort e in absurd (omega arith)

pub off_on : (g : ℕ) → Off ≡ On g → ⊥
off_on g e = cc

no_helper : (h : Help) → None ≡ Some h → ⊥
no_helper h e = cc

pub no_walk : (w : Walk) → None ≡ Some w → ⊥
no_walk w e = cc

no_debt : (d : CutDebt) → None ≡ Some d → ⊥
no_debt d e = cc

pub no_sight : (s : Sight) → None ≡ Some s → ⊥
no_sight s e = cc

no_old : (s : Stand) → None ≡ Some s → ⊥
no_old s e = cc

no_name : (d : CutDebt) → (None ≡ Some d) ⊎ (None ≡ Some d) → ⊥
no_name d has = ⊎_elim (no_debt d) (no_debt d) has

pub no_settle : (d : SettleDebt) → None ≡ Some d → ⊥
no_settle d e = cc

pub no_copy : (d : CopyDebt) → None ≡ Some d → ⊥
no_copy d e = cc

pub opening_control : (s : Start) → IsFirst s.first → IsControl (opening_core s).words.control
opening_control s first = let top = first.upto in
    record { generation = omega arith; log = omega arith; shift = omega arith; new_log = omega arith; new_shift = omega arith; steady_log = λ _. refl; steady_shift = λ _. refl }

no_begin : (front : List Entry) (j : ℕ) → [] ≡ front ++ Begin j ∷ [] → ⊥
no_begin [] j e = cc
no_begin (x ∷ xs) j e = cc

module _ (s : Start) (first : IsFirst s.first) where
  -- a head of the table, and one that isn't
  opened : (q : ℕ) → IsOpen (opening_core s).words.control q → opening_head s.first.generation q ≡ open_head s.first.generation
  opened q o = λ i. cond (le-leb (first_head_of s.first.generation) q o.0 i && lt-ltb q (first_head_of s.first.generation + 2 ^ opening_log) o.1 i) (open_head s.first.generation) shut_head

  shut : (q : ℕ) (a b : Bool) → leb (first_head_of s.first.generation) q ≡ a → ltb q (first_head_of s.first.generation + 2 ^ opening_log) ≡ b → (IsOpen (opening_core s).words.control q → ⊥)
      → IsShut s.first.generation q (cond (a && b) (open_head s.first.generation) shut_head)
  shut q true true e f out = absurd (out (leb-true (first_head_of s.first.generation) q e, ltb-true q (first_head_of s.first.generation + 2 ^ opening_log) f))
  shut q false b e f out = record { mark = refl; empty = refl; older = let above = first.from in omega arith; bank = inl refl }
  shut q true false e f out = record { mark = refl; empty = refl; older = let above = first.from in omega arith; bank = inl refl }

  pub opening_heads : Heads (opening_core s).words.control (opening_core s).shape (opening_core s).words.head
  opening_heads = record {
    old = λ q _ o. subst (λ (l : Link). (l.generation ≡ s.first.generation) × (l.mark ≡ Val)) (sym (opened q o)) (refl, refl);
    new = λ q _ n. absurd (false≢true n.0);
    other = λ q _ out _. shut q (leb (first_head_of s.first.generation) q) (ltb q (first_head_of s.first.generation + 2 ^ opening_log)) refl refl out;
    order = λ p q _ _ _ _ n. absurd (false≢true n.0);
  }

  pub opening_sorted : Sorted (opening_core s).shape (opening_core s).words.head (opening_core s).words.link (opening_core s).words.event (opening_core s).chain
  opening_sorted = record { rises = λ _ _. tt; belongs = λ _ _ _ i. absurd i; generation = λ _ _ _ i. absurd i }

  pub opening_marks : Marks s.layout (opening_core s).words.control (opening_core s).words.head (opening_core s).words.link (opening_core s).words.twin (opening_core s).holding
  opening_marks = record { mark = λ _ _. tt; first = λ q r _ is _. absurd (hand_listed (home_of s.layout r) q is); bare = λ _ _ _ _. refl; aged = λ r _ out _. absurd (out (home_of s.layout r) refl) }

  pub opening_standing : Standing s.layout.workers (opening_core s).words.head (opening_core s).words.link (opening_core s).words.twin (opening_core s).words.event (opening_core s).rows
  opening_standing = record { each = λ _ _ _ i. absurd i }

  pub opening_copying : Copying s.layout.workers (opening_core s).words.head (opening_core s).words.link (opening_core s).words.twin (opening_core s).words.event (opening_core s).old
  opening_copying = record { each = λ _ s _ is. absurd (no_old s is) }

  pub opening_lanes : Lanes s.layout (opening_core s).shape (ground_of (opening_core s)) (opening_core s).words.event
  opening_lanes = record {
    is_row = λ r v. absurd (off_on v.1 v.2.on);
    rises = λ r v _. absurd (off_on v.1 v.2.on);
    stays = λ r v _. absurd (off_on v.1 v.2.on);
    generation = λ r v _. absurd (off_on v.1 v.2.on);
    twins = λ r v _ _. absurd (off_on v.1 v.2.on);
  }

  pub opening_writing : Writing s.layout.workers (opening_core s).words.link (opening_core s).words.twin (opening_core s).words.event (opening_core s).hand (opening_core s).written
  opening_writing = record { placed = λ _ _ _ i. absurd i; in_hand_is = λ _ _ _ i. absurd i; stands = λ _ _ _ i. absurd i }

  pub opening_naming : Naming s.layout (opening_core s).words.head (opening_core s).words.link (opening_core s).words.event (opening_core s).named (opening_core s).holding
  opening_naming = record { named = λ r q _ at _. absurd (hand_listed (home_of s.layout r) q at); place = λ k d _ has. absurd (no_name d has) }

  -- the control word of a new table fits
  opening_fits : Fits s (opening_core s).words.control (opening_core s).shape (opening_core s).words.control
  opening_fits = record { spelled = opening_control s first; first = le_refl _; low = le_refl _; size = refl; next = λ e. absurd (false≢true e); same = λ _ _. refl }

  pub opening_sizes : Sizes s (opening_core s).words.control (opening_core s).shape (opening_core s).words.head (opening_core s).words.link (opening_core s).holding
  opening_sizes = record { now = opening_fits; heads = λ q _. low (leb (first_head_of s.first.generation) q && ltb q (first_head_of s.first.generation + 2 ^ opening_log)); rows = λ _ _ _. omega arith }
    where
      low : (t : Bool) → (cond t (open_head s.first.generation) shut_head).generation ≤ s.first.generation + 0
      low true = omega arith
      low false = omega arith

  pub opening_dues : Dues s.layout.workers (opening_core s).words.control (opening_core s).shape (opening_core s).settling (opening_core s).copying (opening_core s).named
  opening_dues = record { settles = λ k d _ is. absurd (no_settle d is); copies = λ k d _ is. absurd (no_copy d is); named = λ k d _ has. absurd (no_name d has) }

  pub opening_steady : Steady s (opening_core s).words.control (opening_core s).words.link (opening_core s).holding (opening_core s).named
  opening_steady = record { still = λ _. refl; first = λ _. refl; rows = λ r _ _ out. absurd (out (home_of s.layout r) refl); named = λ k d _ _ has. absurd (no_name d has); single = λ _ _ _. refl }

  pub opening_copies : Copies (rows_of_core (opening_core s)) (ground_of (opening_core s))
  opening_copies = record {
    bound = λ o t b. absurd (hand_listed (home_of s.layout o) b.listed_is.0 b.listed_is.1);
    one = λ o p t b _. absurd (hand_listed (home_of s.layout o) b.listed_is.0 b.listed_is.1);
    owned = λ t _ out _. absurd (out (home_of s.layout t) refl);
    apart = λ o t b _. absurd (hand_listed (home_of s.layout o) b.listed_is.0 b.listed_is.1);
    alone = λ j k d e _ _ is _ _. absurd (no_copy d is);
    left = λ r v _ _. absurd (off_on v.1 v.2.on);
    debt = λ k d _ is. absurd (no_copy d is);
  }

  pub opening_rooms : Rooms s.layout.workers (opening_core s).copying (opening_core s).named
  opening_rooms = record { ordered = λ _ _ _. refl; room = λ k d _ is. absurd (no_copy d is) }

  pub opening_bare : Bare (opening_core s).words.control (opening_core s).shape (opening_core s).words.head (opening_core s).chain
  opening_bare = record { bare = λ moving. absurd (false≢true moving) }

  pub opening_unlinked : Unlinked s.layout.workers (opening_core s).history (opening_core s).old
  opening_unlinked = record { each = λ k t _ is. absurd (no_old t is) }

  pub opening_ends : Ends (ending_of (opening_core s))
  opening_ends = record {
    opened = λ g q _ low high is. let same : g ≡ s.first.generation = omega arith in let here = ap (λ (l : Link). l.generation) (opened q (subst (λ n. IsHeadIn n (shape_of (opening_core s).words.control) q) same is)) in omega arith;
    loaded = λ k h n _ is. absurd (no_helper h is);
    sealed = λ k h n _ is. absurd (no_helper h is);
    low = omega arith;
    high = λ later. absurd (omega arith);
    pinned = λ is. absurd (omega arith);
    past = λ some. absurd (omega arith);
    pins = λ k h p _ is. absurd (no_helper h is);
    older = λ k w x _ is. absurd (no_walk w is);
  }

  none_live : (r : ℕ) → IsLive s.layout (opening_core s).words.link (opening_core s).words.twin (opening_core s).holding r → ⊥
  none_live r live = hand_listed _ live.1.0 live.1.1

  pub opening_carriers : Carriers s.layout (opening_core s).history (opening_core s).words.link (opening_core s).words.twin (opening_core s).words.event (opening_core s).holding
  opening_carriers = record { carried = λ e p. let low = p.put.1 in absurd (omega arith); pending = λ r live. absurd (none_live r live); one = λ r t live _ _. absurd (none_live r live) }

  pub opening_told : Told s.layout.workers (opening_core s).history (opening_core s).deal (opening_core s).own (opening_core s).begun
  opening_told = record {
    legal = tt;
    spans = omega arith;
    since = [];
    extends = refl;
    each = λ _ _. refl;
    inside = λ _ i. absurd i;
    sourced = λ _ _ i. absurd i;
    begun_low = λ _ _. omega arith;
    began = λ j _ e. absurd (no_begin e.0 e.1 e.2);
  }

  pub opening_settling : Settling s.layout.workers (opening_core s).history (opening_core s).settling
  opening_settling = record { owed = λ _ d _ is. absurd (no_settle d is); unsettled = λ e put _. let low = put.1 in absurd (omega arith); lone = λ _ _ d _ _ _ is _ _. absurd (no_settle d is) }

  pub opening_walkers : Walkers (present_of (opening_core s)) (takes_of (opening_core s)) (opening_core s).words.link (opening_core s).words.event
  opening_walkers = record { seen = λ _ x _ is. absurd (no_sight x is); walked = λ _ w _ is. absurd (no_walk w is) }

  pub opening_ahead : Ahead (opening_core s).history (opening_core s).words.current
  opening_ahead = record { each = λ e settled. let low = settled.1 in absurd (omega arith) }
