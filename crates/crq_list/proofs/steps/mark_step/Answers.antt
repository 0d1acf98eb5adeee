use Rattle.std.proofs.Common.{◌==◌, ℕ, cond, Some, sym, refl, ap, ◌∙◌, subst, eq-eqb, ne_eqb}
use prog.Atomic.{either}
use Rattle.crq_base.specs.declared.kinds.StepKind.TheVariants.{Mark}
use Rattle.crq_base.specs.declared.words.Mark.TheVariants.{Del}
use Rattle.crq_base.specs.Words.{link_word}
use Rattle.crq_rule.specs.Ranks.{at_row, cell_place}
use Rattle.crq_rule.specs.ListKinds.{marks, cut_debt}
use Rattle.crq_rule.specs.Moves.{Moves, wins, quiet}
use Rattle.crq_rule.proofs.Glue.{moves_flat}
use Rattle.crq_rule.proofs.ListSteps.{mark_moves}
use Rattle.crq_rows.specs.Passes.{caller}
use Rattle.crq_list.proofs.StepLaws.{cell_is, place_below, marked}
use Rattle.crq_list.proofs.steps.mark_step.Goals as goal

pub word_of-word-requires : goal.word_of-word-requires
word_of-word-requires c = cell_is c.args.table.now c.args.pass.now (at_row c.args.row) c.requires.of (c.args.event.now, c.requires.may.on)

pub exchange_seated-found-requires-clause-word : goal.exchange_seated-found-requires-clause-word
exchange_seated-found-requires-clause-word c = place_below c.args.table.now (cell_place (at_row c.args.row)) _ (cell_is c.args.table.now c.args.pass.now (at_row c.args.row) c.requires.of (c.args.event.now, c.requires.may.on)) c.word_of-word.ensures

pub exchange_seated-found-requires-clause-moves : goal.exchange_seated-found-requires-clause-moves
exchange_seated-found-requires-clause-moves c = let key = c.args.table.now.start in let p = caller c.args.table.now c.args.pass.now in let l = c.args.link in let x = c.args.control.now in let e = c.args.event.now in let f = wins (link_word l) (marks x c.args.row e) in
    subst (λ (z : ℕ × ℕ × ℕ). Moves Mark key p z.0 (λ n. either (n == z.1) z.2 n) f quiet) (λ i. (sym c.word_of-word.ensures i, sym c.pack-old.ensures i, sym c.pack.ensures i))
    (moves_flat Mark key p _ (λ n. either (n == link_word l) (link_word (record l { mark = Del })) n) f quiet (mark_moves key p x c.args.row e l c.requires.bits c.requires.present c.requires.may))

pub head_of-requires : goal.head_of-requires
head_of-requires c = (c.requires.of.lawful.sighted (record { table = c.args.control.now; current = c.requires.may.sight.0 }) c.requires.may.sight.1).0

pub returns-then-won : goal.returns-then-won
returns-then-won c = let found = c.exchange_seated-found.result in let from = c.pack-old.result in let mid = c.exchange_seated-found.new.pass in let x = c.args.control.now in let r = c.args.row in let e = c.args.event.now in
    let owed = cut_debt x r e in
    marked c.args.table.now c.args.pass.now mid (record mid { debts = record mid.debts { cut = Some (record owed { head = c.head_of.result }) } }) (at_row r) c.word_of-word.result from c.pack.result found (found == from) c.args.link x r e c.requires.of c.requires.may.free c.word_of-word.ensures c.pack-old.ensures c.pack.ensures c.exchange_seated-found.ensures.exchanges refl refl
    ((λ i. record mid.debts { cut = Some (record owed { head = c.head_of.ensures i }) }) ∙ ap (λ b. cond b (record mid.debts { cut = Some owed }) mid.debts) (sym (eq-eqb found from c.if-won.true)))

pub returns-else-won : goal.returns-else-won
returns-else-won c = let found = c.exchange_seated-found.result in let from = c.pack-old.result in let mid = c.exchange_seated-found.new.pass in let x = c.args.control.now in let r = c.args.row in let e = c.args.event.now in
    marked c.args.table.now c.args.pass.now mid mid (at_row r) c.word_of-word.result from c.pack.result found (found == from) c.args.link x r e c.requires.of c.requires.may.free c.word_of-word.ensures c.pack-old.ensures c.pack.ensures c.exchange_seated-found.ensures.exchanges refl refl
    (ap (λ b. cond b (record mid.debts { cut = Some (cut_debt x r e) }) mid.debts) (sym (ne_eqb found from c.if-won.false)))
