use Rattle.std.proofs.Common.{◌==◌, ℕ, cond, sym, refl, ap, ◌∙◌, subst, arith, eq-eqb, ne_eqb}
use prog.Atomic.{either}
use Rattle.crq_base.specs.declared.kinds.StepKind.TheVariants.{Link}
use Rattle.crq_base.specs.Words.{link_word}
use Rattle.crq_rule.specs.Ranks.{head_of, cell_place}
use Rattle.crq_rule.specs.ListKinds.{links, unhanded}
use Rattle.crq_rule.specs.Moves.{Moves, wins, quiet}
use Rattle.crq_rule.proofs.Glue.{moves_flat}
use Rattle.crq_rule.proofs.ListSteps.{link_moves}
use Rattle.crq_rows.specs.Passes.{caller}
use Rattle.crq_rows.proofs.Reached.{hand_row}
use Rattle.crq_list.specs.Spots.{cell}
use Rattle.crq_list.proofs.StepLaws.{cell_is, comes_walk, place_below, links_found, wins_found, exchanges_found, linked}
use Rattle.crq_list.proofs.steps.link_step.Goals as goal

pub word_of-word-requires : goal.word_of-word-requires
word_of-word-requires c = let may = c.requires.may.1 in cell_is c.args.table.now c.args.pass.now (cell c.args.spot) c.requires.of (comes_walk (head_of c.requires.may.0) _ (cell c.args.spot) c.args.row c.args.event.now may.after)

pub pack-old-requires : goal.pack-old-requires
pack-old-requires c = c.requires.may.1.expected.0

pub pack-new-requires : goal.pack-new-requires
pack-new-requires c = let table = c.args.table.now in let may = c.requires.may.1 in let row = hand_row table c.args.pass.now c.requires.of c.args.row may.in_hand_is in let fit = table.start.layout.all_fit in
    record { generation = may.expected.0.generation; row = omega arith }

pub exchange_seated-found-requires-clause-word : goal.exchange_seated-found-requires-clause-word
exchange_seated-found-requires-clause-word c = let may = c.requires.may.1 in place_below c.args.table.now (cell_place (cell c.args.spot)) _
    (cell_is c.args.table.now c.args.pass.now (cell c.args.spot) c.requires.of (comes_walk (head_of c.requires.may.0) _ (cell c.args.spot) c.args.row c.args.event.now may.after)) c.word_of-word.ensures

pub exchange_seated-found-requires-clause-moves : goal.exchange_seated-found-requires-clause-moves
exchange_seated-found-requires-clause-moves c = let key = c.args.table.now.start in let p = caller c.args.table.now c.args.pass.now in let l = c.args.link in let r = c.args.row in let e = c.args.event.now in let x = c.requires.may.0 in
    let f = wins (link_word l) (links x r e) in let g = wins (link_word l) (links_found r e) in
    let moves = subst (λ (z : ℕ × ℕ × ℕ). Moves Link key p z.0 (λ n. either (n == z.1) z.2 n) f quiet) (λ i. (sym c.word_of-word.ensures i, sym c.pack-old.ensures i, sym c.pack-new.ensures i))
    (moves_flat Link key p _ (λ n. either (n == link_word l) (link_word (record l { row = r })) n) f quiet (link_moves key p x (cell c.args.spot) l r e c.requires.may.1)) in
    λ c' ws inv words b is. let m = moves c' ws inv words b is in (m.0, m.1, m.2, m.3, wins_found x (link_word l) r e _ p c.requires.may.1.control ∙ m.4, m.5)

pub returns-then-won : goal.returns-then-won
returns-then-won c x may = let table = c.args.table.now in let found = c.exchange_seated-found.result in let from = c.pack-old.result in let mid = c.exchange_seated-found.new.pass in let r = c.args.row in let e = c.args.event.now in
    linked table c.args.pass.now mid (record mid { free = c.forget.new.free }) (cell c.args.spot) c.word_of-word.result from c.pack-new.result found (found == from) c.args.link x r e c.requires.of may.settled c.word_of-word.ensures c.pack-old.ensures c.pack-new.ensures
    (exchanges_found table c.args.pass.now mid _ x (link_word c.args.link) r e found may.control c.exchange_seated-found.ensures.exchanges) refl refl
    (c.forget.ensures.items ∙ ap (λ b. cond b (unhanded r mid.free.items) mid.free.items) (sym (eq-eqb found from c.if-won.true))) c.forget.ensures.room

pub returns-else-won : goal.returns-else-won
returns-else-won c x may = let table = c.args.table.now in let found = c.exchange_seated-found.result in let from = c.pack-old.result in let mid = c.exchange_seated-found.new.pass in let r = c.args.row in let e = c.args.event.now in
    linked table c.args.pass.now mid mid (cell c.args.spot) c.word_of-word.result from c.pack-new.result found (found == from) c.args.link x r e c.requires.of may.settled c.word_of-word.ensures c.pack-old.ensures c.pack-new.ensures
    (exchanges_found table c.args.pass.now mid _ x (link_word c.args.link) r e found may.control c.exchange_seated-found.ensures.exchanges) refl refl
    (ap (λ b. cond b (unhanded r mid.free.items) mid.free.items) (sym (ne_eqb found from c.if-won.false))) refl
