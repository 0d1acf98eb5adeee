-- What a caller stands on that looks at a list.
use Rattle.std.proofs.Common.{ℕ, refl, sym, ap, ◌∙◌, subst, arith}
use Rattle.crq_base.specs.declared.words.Link.{Link}
use Rattle.crq_rule.specs.declared.pass.Pass.{Pass}
use Rattle.crq_rule.specs.declared.pass.Table.{Table}
use Rattle.crq_rule.specs.declared.view.Caller.{Caller}
use Rattle.crq_rule.specs.Ranks.{at_head, at_row}
use Rattle.crq_base.specs.Lists.{In}
use Rattle.crq_rule.specs.ListKinds.{no_take, new_stand}
use Rattle.crq_rule.specs.CopyKinds.{stand_on}
use Rattle.crq_rows.specs.Passes.{caller}
use Rattle.crq_list.specs.Swaps.{Saw}
use Rattle.crq_move.proofs.LoadLaws.{front_stand}
use Rattle.crq_move.proofs.FirstStands.{first_in, walked_next}
use Rattle.crq_move_trials.specs.Looking.{HasCome}

-- on the row that a head names
pub come_first : (table : Table) (old new : Pass) (q : ℕ) (l : Link) → Saw table old new (at_head q) no_take l → HasCome table l.row new
come_first table old new q l s some = let p : Caller = caller table old in let stand = new_stand (at_head q) l s.event in
    let on = first_in l.row (caller table new).position.rows stand (ap (λ (c : Caller). stand_on l.row c.position.rows) s.part ∙ front_stand q p.sight p.walk l s.event p.position.rows some) in (s.event, (stand, on.0, on.1, refl))

-- and on the one that a row names
pub come_next : (table : Table) (old new : Pass) (r : ℕ) (l : Link) → Saw table old new (at_row r) no_take l → HasCome table l.row new
come_next table old new r l s some = let p : Caller = caller table old in
    let on = subst (λ (c : Caller). In (new_stand (at_row r) l s.event) c.position.rows) (sym s.part) (walked_next r l s.event p.position.rows (λ none. omega arith)) in (s.event, (new_stand (at_row r) l s.event, on, refl, refl))
