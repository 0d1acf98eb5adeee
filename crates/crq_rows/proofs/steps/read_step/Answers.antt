use Rattle.std.proofs.Common.{◌≡◌, sym, subst}
use Rattle.crq_base.specs.declared.kinds.StepKind.TheVariants.{Read}
use Rattle.crq_base.specs.declared.event.Event.{Event}
use Rattle.crq_rule.specs.ListKinds.{StandsOn, event_word}
use Rattle.crq_rule.specs.Moves.{Moves}
use Rattle.crq_rows.proofs.Readings.{read_words}
use Rattle.crq_rows.specs.Passes.{caller}
use Rattle.crq_rows.specs.Reading.{stays}
use Rattle.crq_rows.proofs.Reached.{stand_row, row_below}
use Rattle.crq_rows.proofs.steps.read_step.Goals as goal

pub row_word-at-requires-clause-row : goal.row_word-at-requires-clause-row
row_word-at-requires-clause-row c = stand_row c.args.table.now c.args.pass.now c.requires.of c.args.row c.requires.stands.0 c.requires.stands.1

pub load_as-requires-clause-word : goal.load_as-requires-clause-word
load_as-requires-clause-word c = row_below c.args.table.now c.args.row c.args.place _ (stand_row c.args.table.now c.args.pass.now c.requires.of c.args.row c.requires.stands.0 c.requires.stands.1) c.row_word-at.ensures

pub load_as-requires-clause-moves : goal.load_as-requires-clause-moves
load_as-requires-clause-moves c = let table = c.args.table.now in let key = table.start in let p = caller table c.args.pass.now in let r = c.args.row in let n = c.args.place in let on = c.requires.stands in
    subst (λ w. Moves Read key p w (λ n. n) (λ _. stays) (λ w p. (e : Event) → StandsOn p.position.rows r e → w ≡ event_word e n)) (sym c.row_word-at.ensures)
    (read_words key p r n (stand_row table c.args.pass.now c.requires.of r on.0 on.1) on.0 on.1 c.requires.place.0)
