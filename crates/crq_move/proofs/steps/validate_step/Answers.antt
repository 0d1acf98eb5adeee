use Rattle.std.proofs.Common.{◌==◌, ℕ, sym, subst}
use prog.Atomic.{either}
use Rattle.crq_base.specs.declared.kinds.StepKind.TheVariants.{Validate}
use Rattle.crq_base.specs.Words.{link_word}
use Rattle.crq_rule.specs.Places.{index, link}
use Rattle.crq_rule.specs.CopyKinds.{valid_link, validates}
use Rattle.crq_rule.specs.Moves.{Moves, wins, quiet}
use Rattle.crq_rule.proofs.Glue.{moves_flat}
use Rattle.crq_rule.proofs.CopySteps.{validate_moves}
use Rattle.crq_rows.specs.Passes.{caller}
use Rattle.crq_rows.proofs.Reached.{stand_row}
use Rattle.crq_list.proofs.StepLaws.{place_below}
use Rattle.crq_move.proofs.EmptySteps.{validated_aside, word_left}
use Rattle.crq_move.proofs.steps.validate_step.Goals as goal

pub row_word-word-requires-clause-row : goal.row_word-word-requires-clause-row
row_word-word-requires-clause-row c = let on = c.requires.may.on in stand_row c.args.table.now c.args.pass.now c.requires.of c.args.row on.0 on.1

pub exchange_as-found-requires-clause-word : goal.exchange_as-found-requires-clause-word
exchange_as-found-requires-clause-word c = let on = c.requires.may.on in place_below c.args.table.now (link c.args.row) _ (stand_row c.args.table.now c.args.pass.now c.requires.of c.args.row on.0 on.1) c.row_word-word.ensures

pub exchange_as-found-requires-clause-aside : goal.exchange_as-found-requires-clause-aside
exchange_as-found-requires-clause-aside c = validated_aside (link_word c.args.from) c.args.row c.args.from

pub exchange_as-found-requires-clause-moves : goal.exchange_as-found-requires-clause-moves
exchange_as-found-requires-clause-moves c = let key = c.args.table.now.start in let p = caller c.args.table.now c.args.pass.now in let l = c.args.from in let r = c.args.row in let f = wins (link_word l) (validates r l) in
    subst (λ (z : ℕ × ℕ × ℕ). Moves Validate key p z.0 (λ n. either (n == z.1) z.2 n) f quiet) (λ i. (sym c.row_word-word.ensures i, sym c.pack-old.ensures i, sym c.pack.ensures i))
    (moves_flat Validate key p _ (λ n. either (n == link_word l) (link_word (valid_link l)) n) f quiet (validate_moves key p r l c.requires.bits c.requires.may))

pub returns : goal.returns
returns c = let l = c.args.from in let r = c.args.row in
    word_left Validate c.args.table.now c.args.pass.now c.exchange_as-found.new.pass (index c.args.table.now.start.layout (link r)) (link_word l) (link_word (valid_link l)) (validates r l) c.row_word-word.result c.pack-old.result c.pack.result c.exchange_as-found.result
    c.row_word-word.ensures c.pack-old.ensures c.pack.ensures c.exchange_as-found.ensures.exchanged
