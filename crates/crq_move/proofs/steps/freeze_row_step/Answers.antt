use Rattle.std.proofs.Common.{◌==◌, ℕ, sym, subst}
use prog.Atomic.{either}
use Rattle.crq_base.specs.declared.kinds.StepKind.TheVariants.{FreezeNode}
use Rattle.crq_base.specs.Words.{link_word}
use Rattle.crq_rule.specs.Places.{index, link}
use Rattle.crq_rule.specs.MoveKinds.{frozen_link, freezes_row}
use Rattle.crq_rule.specs.Moves.{Moves, wins, quiet}
use Rattle.crq_rule.proofs.Glue.{moves_flat}
use Rattle.crq_rule.proofs.MoveSteps.{freeze_row_moves}
use Rattle.crq_rows.specs.Passes.{caller}
use Rattle.crq_list.proofs.StepLaws.{place_below}
use Rattle.crq_move.proofs.EmptySteps.{on_row, frozen_aside, word_left}
use Rattle.crq_move.proofs.steps.freeze_row_step.Goals as goal

pub row_word-word-requires-clause-row : goal.row_word-word-requires-clause-row
row_word-word-requires-clause-row c = let on = c.requires.may.on in on_row c.args.table.now c.args.pass.now on.0 c.args.row c.requires.of on.1 on.2

pub exchange_as-found-requires-clause-word : goal.exchange_as-found-requires-clause-word
exchange_as-found-requires-clause-word c = let on = c.requires.may.on in place_below c.args.table.now (link c.args.row) _ (on_row c.args.table.now c.args.pass.now on.0 c.args.row c.requires.of on.1 on.2) c.row_word-word.ensures

pub exchange_as-found-requires-clause-aside : goal.exchange_as-found-requires-clause-aside
exchange_as-found-requires-clause-aside c = frozen_aside (link_word c.args.from) c.args.row c.args.from

pub exchange_as-found-requires-clause-moves : goal.exchange_as-found-requires-clause-moves
exchange_as-found-requires-clause-moves c = let key = c.args.table.now.start in let p = caller c.args.table.now c.args.pass.now in let l = c.args.from in let r = c.args.row in let f = wins (link_word l) (freezes_row r l) in
    subst (λ (z : ℕ × ℕ × ℕ). Moves FreezeNode key p z.0 (λ n. either (n == z.1) z.2 n) f quiet) (λ i. (sym c.row_word-word.ensures i, sym c.pack-old.ensures i, sym c.pack.ensures i))
    (moves_flat FreezeNode key p _ (λ n. either (n == link_word l) (link_word (frozen_link l)) n) f quiet (freeze_row_moves key p r l c.requires.bits c.requires.may))

pub returns : goal.returns
returns c = let l = c.args.from in let r = c.args.row in
    word_left FreezeNode c.args.table.now c.args.pass.now c.exchange_as-found.new.pass (index c.args.table.now.start.layout (link r)) (link_word l) (link_word (frozen_link l)) (freezes_row r l) c.row_word-word.result c.pack-old.result c.pack.result c.exchange_as-found.result
    c.row_word-word.ensures c.pack-old.ensures c.pack.ensures c.exchange_as-found.ensures.exchanged
