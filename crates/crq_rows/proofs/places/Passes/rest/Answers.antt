use Rattle.std.proofs.Common.{set, refl, ap, ◌∙◌}
use Rattle.crq_rule.specs.declared.pass.Seating.{Seating}
use Rattle.crq_rule.specs.declared.pass.Seating.TheVariants.{Resting}
use Rattle.crq_rows.proofs.Slots.{set_set}
use Rattle.crq_rows.proofs.places.Passes.rest.Goals as goal

pub returns : goal.returns
returns c = let l = c.lift-seat.ensures in let pass = c.lift-seat.result in let left : Seating = Resting record { free = pass.free; debts = pass.debts } in
    (pass, l.was, refl, ap (λ xs. set xs c.args.number left) l.now ∙ set_set c.args.self.now.places.items c.args.number _ left)
