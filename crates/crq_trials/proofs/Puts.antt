-- What tests show before they put an event.
use Rattle.std.proofs.Common.{◌≡◌, ⊎_elim, ℕ, ◌/◌, min, List, ◌++◌, arith, refl}
use Rattle.std.specs.List.{All}
use Rattle.crq_base.specs.declared.event.Event.{Event}
use Rattle.crq_base.specs.declared.entry.Entry.{Entry}
use Rattle.crq_base.specs.declared.entry.Entry.TheVariants.{Put}
use Rattle.crq_base.proofs.Elements.{in_left, in_right}
use Rattle.crq_set.specs.Views.{MayPut}
use Rattle.crq_set.specs.Plain.{plain_view, plain_setup}
use Rattle.crq_set.proofs.EventSets.{in_all}

whose : (source : ℕ) → min source 0 ≡ 0
whose source = omega arith

-- the entry puts no event of this source and number
abbrev pub IsOther : Event → Entry → Type 0
IsOther e x = (k : ℕ) (f : Event) → x ≡ Put k f → f.src ≡ e.src → f.seq ≡ e.seq → ⊥

-- the one pass may put an event of a new source or number
pub may_put : (h : List Entry) (dealt span rows : ℕ) (e : Event) → let v = plain_view h dealt span in All (IsOther e) (v.dealt ++ v.own) → MayPut (plain_setup rows) v e
may_put h dealt span rows e all =
    let v = plain_view h dealt span in
    (whose (e.src / span), λ k f seen. in_all (IsOther e) (v.dealt ++ v.own) (Put k f) all (⊎_elim (in_left (Put k f) v.dealt v.own) (in_right (Put k f) v.dealt v.own) seen) k f refl)
