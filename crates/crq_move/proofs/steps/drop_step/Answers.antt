use Rattle.std.proofs.Common.{◌==◌, ℕ, None, refl, sym, ap, ◌∙◌, subst}
use prog.Atomic.{either}
use Rattle.crq_base.specs.declared.kinds.StepKind.TheVariants.{Discard}
use Rattle.crq_base.specs.Words.{link_word}
use Rattle.crq_rule.specs.declared.debts.Debts.{Debts}
use Rattle.crq_rule.specs.declared.pass.Pass.{Pass}
use Rattle.crq_rule.specs.Places.{index, link}
use Rattle.crq_rule.specs.CopyKinds.{dead_link, discards, lost_name}
use Rattle.crq_rule.specs.Moves.{Moves, wins, quiet}
use Rattle.crq_rule.proofs.Glue.{moves_flat}
use Rattle.crq_rule.proofs.CopySteps.{drop_moves}
use Rattle.crq_rows.specs.Passes.{caller}
use Rattle.crq_move.specs.Names.{names_lost}
use Rattle.crq_move.proofs.EmptySteps.{discarded, not_discarded}
use Rattle.crq_move.proofs.steps.drop_step.Goals as goal

pub exchange_seated-found-requires-clause-moves : goal.exchange_seated-found-requires-clause-moves
exchange_seated-found-requires-clause-moves c = let key = c.args.table.now.start in let p = caller c.args.table.now c.args.pass.now in let l = c.args.from in let d = c.args.debt.now in let f = wins (link_word l) (discards d.copy l (lost_name d) None) in
    subst (λ (z : ℕ × ℕ × ℕ). Moves Discard key p z.0 (λ n. either (n == z.1) z.2 n) f quiet) (λ i. (sym c.row_word-word.ensures i, sym c.pack-old.ensures i, sym c.pack.ensures i))
    (moves_flat Discard key p _ (λ n. either (n == link_word l) (link_word (dead_link l)) n) f quiet (drop_moves key p d l c.requires.bits c.requires.may))

pub returns-then-found-old : goal.returns-then-found-old
returns-then-found-old c = let l = c.args.from in let r = c.args.debt.now.copy in
    not_discarded c.args.table.now c.args.pass.now c.exchange_seated-found.new.pass c.row_word-word.result c.pack-old.result c.pack.result c.exchange_seated-found.result (index c.args.table.now.start.layout (link r)) (link_word l) (link_word (dead_link l)) r l (lost_name c.args.debt.now)
    c.requires.of c.row_word-word.ensures c.pack-old.ensures c.pack.ensures c.if-found-old.true c.exchange_seated-found.ensures.exchanges

pub returns : goal.returns
returns c = let l = c.args.from in let r = c.args.debt.now.copy in let mid = c.exchange_seated-found.new.pass in let step = c.exchange_seated-found.ensures.exchanges in let n = lost_name c.args.debt.now in
    discarded c.args.table.now c.args.pass.now mid (record mid { debts = c.name_too.new.debts }) c.row_word-word.result c.pack-old.result c.pack.result c.exchange_seated-found.result (index c.args.table.now.start.layout (link r)) (link_word l) (link_word (dead_link l)) r l n None
    c.requires.of c.requires.room refl c.row_word-word.ensures c.pack-old.ensures c.pack.ensures c.if-found-old.false step (ap (λ (z : Debts). record mid { debts = z }) (c.name_too.ensures ∙ ap (λ (q : Pass). names_lost n None q.debts) step.same))
