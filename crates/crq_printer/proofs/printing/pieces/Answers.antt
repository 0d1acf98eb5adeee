use Rattle.std.proofs.Common.{◌<◌, ◌^◌, length, ap, ◌∙◌, arith, Bor}
use Rattle.std.proofs.lemmas.List.{length-map}
use Rattle.rayon.specs.Lists.{enumerate_from}
use Rattle.crq_sim.specs.declared.traces.ObjectTrace.{ObjectTrace}
use Rattle.crq_printer.proofs.Pieces.{pieces_joined}
use Rattle.crq_printer.proofs.printing.pieces.Goals as goal

pub returns : goal.returns
returns g c =
    let made = c.in_ok-collect.ensures in
    let chain = made.1 in
    let zs = chain.1.0 in
    let base = c.map.ensures.base in
    let same = chain.1.1 ∙ ap (λ it. it.base.slice.now) base ∙ ap (λ it. it.slice.now) c.enumerate.ensures.base ∙ c.par_iter.ensures in
    let numbered = chain.1.2 ∙ ap (λ it. enumerate_from it.offset zs) base ∙ ap (λ n. enumerate_from n zs) c.enumerate.ensures.offset in
    let few : length zs < 2 ^ 64 = omega (arith, ap length same, length-map zs (λ (z : Bor ObjectTrace). z.now)) in
    pieces_joined c.args.traces.now zs made.0 c.in_ok-collect.field-0 few same (rw numbered at chain.2) made.2
