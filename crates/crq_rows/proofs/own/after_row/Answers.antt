use Rattle.std.proofs.Common.{◌≡◌, ◌+◌, ◌*◌, sym, refl, ap, ◌∙◌, subst, arith}
use Rattle.std.proofs.lemmas.List.{nil_from_length}
use Rattle.crq_rows.specs.Passes.{caller}
use Rattle.crq_rows.specs.Owning.{LookedTo}
use Rattle.crq_rows.proofs.Owns.{looked_to}
use Rattle.crq_rows.proofs.own.after_row.Goals as goal

pub returns-in_default : goal.returns-in_default
returns-in_default c = let l = c.args.table.now.start.layout in let q = caller c.args.table.now c.args.pass.now in let high = c.requires.home.1 in let low = c.if-row-last_home.false in let is = c.last_home.ensures in
    let at : c.args.row ≡ c.args.pass.now.number * l.home + l.home = omega arith in let last = at ∙ ap (λ j. j * l.home + l.home) (sym c.requires.of.sits.numbered) in
    let item = c.in_default.ensures.item in let hand = sym c.requires.of.free ∙ nil_from_length c.args.pass.now.free.items (omega arith) in
    (last, refl, record { none = hand; epoch = c.args.epoch; looked = subst (λ n. LookedTo l c.args.epoch n q) (ap (λ n. n + 1) last) (looked_to l c.args.epoch (c.args.row + 1) q c.requires.looked hand) })
