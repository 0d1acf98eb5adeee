use Rattle.std.proofs.Common.{◌==◌, ℕ, None, sym, ap, ◌∙◌, subst}
use prog.Atomic.{either}
use Rattle.crq_base.specs.declared.kinds.StepKind.TheVariants.{Discard}
use Rattle.crq_base.specs.Words.{link_word}
use Rattle.crq_rule.specs.declared.debts.Debts.{Debts}
use Rattle.crq_rule.specs.declared.pass.Pass.{Pass}
use Rattle.crq_rule.specs.Places.{index, link}
use Rattle.crq_rule.specs.CopyKinds.{dead_link, discards, front_name}
use Rattle.crq_rule.specs.Moves.{Moves, MovesBy, By, wins, quiet}
use Rattle.crq_rule.proofs.Glue.{moves_flat}
use Rattle.crq_rule.proofs.CopySteps.{discard_moves}
use Rattle.crq_rows.specs.Passes.{caller}
use Rattle.crq_list.proofs.StepLaws.{place_below}
use Rattle.crq_move.specs.Names.{names_lost}
use Rattle.crq_move.proofs.EmptySteps.{on_row, discarded, not_discarded}
use Rattle.crq_move.proofs.steps.discard_step.Goals as goal

pub row_word-word-requires-clause-row : goal.row_word-word-requires-clause-row
row_word-word-requires-clause-row c = let on = c.requires.may.on in on_row c.args.table.now c.args.pass.now on.0 c.args.row c.requires.of on.1 on.2

pub exchange_seated-found-requires-clause-word : goal.exchange_seated-found-requires-clause-word
exchange_seated-found-requires-clause-word c = let on = c.requires.may.on in place_below c.args.table.now (link c.args.row) _ (on_row c.args.table.now c.args.pass.now on.0 c.args.row c.requires.of on.1 on.2) c.row_word-word.ensures

pub exchange_seated-found-requires-clause-moves : goal.exchange_seated-found-requires-clause-moves
exchange_seated-found-requires-clause-moves c = let key = c.args.table.now.start in let p = caller c.args.table.now c.args.pass.now in let l = c.args.from in let r = c.args.row in let n = front_name c.args.at r c.args.event.now l in let f = wins (link_word l) (discards r l n None) in
    let g = λ (n : ℕ). either (n == link_word l) (link_word (dead_link l)) n in
    subst (λ (z : ℕ × ℕ × ℕ). Moves Discard key p z.0 (λ n. either (n == z.1) z.2 n) f quiet) (λ i. (sym c.row_word-word.ensures i, sym c.pack-old.ensures i, sym c.pack.ensures i))
    (moves_flat Discard key p _ g f quiet (subst (λ o. MovesBy Discard key p (index key.layout (link r)) g (By (wins (link_word l) (discards r l n o)) quiet)) c.requires.may.none (discard_moves key p c.args.at r c.args.event.now l c.requires.bits c.requires.may)))

pub returns-then-found-old : goal.returns-then-found-old
returns-then-found-old c = let l = c.args.from in let r = c.args.row in
    not_discarded c.args.table.now c.args.pass.now c.exchange_seated-found.new.pass c.row_word-word.result c.pack-old.result c.pack.result c.exchange_seated-found.result (index c.args.table.now.start.layout (link r)) (link_word l) (link_word (dead_link l)) r l (front_name c.args.at c.args.row c.args.event.now c.args.from)
    c.requires.of c.row_word-word.ensures c.pack-old.ensures c.pack.ensures c.if-found-old.true c.exchange_seated-found.ensures.exchanges

pub returns : goal.returns
returns c = let l = c.args.from in let r = c.args.row in let mid = c.exchange_seated-found.new.pass in let step = c.exchange_seated-found.ensures.exchanges in let n = front_name c.args.at c.args.row c.args.event.now c.args.from in
    discarded c.args.table.now c.args.pass.now mid (record mid { debts = c.name_too.new.debts }) c.row_word-word.result c.pack-old.result c.pack.result c.exchange_seated-found.result (index c.args.table.now.start.layout (link r)) (link_word l) (link_word (dead_link l)) r l n c.args.pass.now.debts.copy
    c.requires.of c.requires.room (sym c.requires.may.none ∙ c.requires.of.debts.copy) c.row_word-word.ensures c.pack-old.ensures c.pack.ensures c.if-found-old.false step (ap (λ (z : Debts). record mid { debts = z }) (c.name_too.ensures ∙ ap (λ (q : Pass). names_lost n q.debts.copy q.debts) step.same))
