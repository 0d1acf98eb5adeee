use Rattle.std.proofs.Common.{Some, sym, ap, ◌∙◌}
use Rattle.std.proofs.lemmas.Option.{get_or_from_slice_get}
use Rattle.crq_rows.proofs.Slots.{set_set}
use Rattle.crq_rows.proofs.places.Passes.wake.Goals as goal

pub returns : goal.returns
returns c = let xs = c.args.self.now.places.items in let at = c.requires.1 in
    let same = c.in-Resting.ensures.value ∙ (c.index_mut.ensures.value ∙ get_or_from_slice_get xs c.args.number _ _ at) in
    (c.in-Resting.rest, at ∙ ap Some (sym same), set_set xs c.args.number _ _)
