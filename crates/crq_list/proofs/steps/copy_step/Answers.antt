use Rattle.std.proofs.Common.{◌==◌, ℕ, cond, Some, eqb, sym, refl, ap, ◌∙◌, subst, arith, eq-eqb, ne_eqb}
use prog.Atomic.{either}
use Rattle.crq_base.specs.declared.kinds.StepKind.TheVariants.{Copy}
use Rattle.crq_base.specs.Words.{link_word}
use Rattle.crq_rule.specs.declared.debts.CopyDebt.{CopyDebt}
use Rattle.crq_rule.specs.Places.{index}
use Rattle.crq_rule.specs.Ranks.{next_list, cell_place}
use Rattle.crq_rule.specs.ListKinds.{unhanded}
use Rattle.crq_rule.specs.Moves.{Moves, MovesBy, By, wins, quiet}
use Rattle.crq_rule.proofs.Glue.{moves_flat}
use Rattle.crq_rule.proofs.CopySteps.{copy_moves}
use Rattle.crq_rows.specs.Passes.{caller}
use Rattle.crq_rows.proofs.Reached.{hand_row}
use Rattle.crq_list.specs.Spots.{cell}
use Rattle.crq_list.specs.Swaps.{owes_copy}
use Rattle.crq_list.proofs.StepLaws.{cell_is, comes_walk, place_below}
use Rattle.crq_list.proofs.CopyLaws.{copied}
use Rattle.crq_list.proofs.steps.copy_step.Goals as goal

pub word_of-word-requires : goal.word_of-word-requires
word_of-word-requires c = let may = c.requires.may.2 in cell_is c.args.table.now c.args.pass.now (cell c.args.spot) c.requires.of (comes_walk (next_list c.requires.may.0) _ (cell c.args.spot) _ _ may.after)

pub pack-old-requires : goal.pack-old-requires
pack-old-requires c = c.requires.may.2.expected.0

pub pack-new-requires : goal.pack-new-requires
pack-new-requires c = let table = c.args.table.now in let may = c.requires.may.2 in let row = hand_row table c.args.pass.now c.requires.of c.args.debt.now.copy may.in_hand_is in let fit = table.start.layout.all_fit in
    record { generation = may.expected.0.generation; row = omega arith }

pub exchange_seated-found-requires-clause-word : goal.exchange_seated-found-requires-clause-word
exchange_seated-found-requires-clause-word c = let may = c.requires.may.2 in place_below c.args.table.now (cell_place (cell c.args.spot)) _
    (cell_is c.args.table.now c.args.pass.now (cell c.args.spot) c.requires.of (comes_walk (next_list c.requires.may.0) _ (cell c.args.spot) _ _ may.after)) c.word_of-word.ensures

pub exchange_seated-found-requires-clause-moves : goal.exchange_seated-found-requires-clause-moves
exchange_seated-found-requires-clause-moves c = let key = c.args.table.now.start in let p = caller c.args.table.now c.args.pass.now in let l = c.args.link in let d = c.args.debt.now in let may = c.requires.may in
    let f = wins (link_word l) (owes_copy d) in
    subst (λ (z : ℕ × ℕ × ℕ). Moves Copy key p z.0 (λ n. either (n == z.1) z.2 n) f quiet) (λ i. (sym c.word_of-word.ensures i, sym c.pack-old.ensures i, sym c.pack-new.ensures i))
    (moves_flat Copy key p _ (λ n. either (n == link_word l) (link_word (record l { row = d.copy })) n) f quiet
    (subst (λ (z : CopyDebt). MovesBy Copy key p (index key.layout (cell_place (cell c.args.spot))) (λ w. either (eqb w (link_word l)) (link_word (record l { row = d.copy })) w) (By (wins (link_word l) (owes_copy z)) quiet)) may.3
    (copy_moves key p may.0 (cell c.args.spot) l d.copy may.1 d.last may.2)))

pub returns-then-won : goal.returns-then-won
returns-then-won c = let table = c.args.table.now in let found = c.exchange_seated-found.result in let from = c.pack-old.result in let mid = c.exchange_seated-found.new.pass in let d = c.args.debt.now in
    copied table c.args.pass.now mid (record mid { free = c.forget.new.free; debts = record mid.debts { copy = Some d } }) (cell c.args.spot) c.word_of-word.result from c.pack-new.result found (found == from) c.args.link d c.requires.of c.word_of-word.ensures c.pack-old.ensures c.pack-new.ensures
    c.exchange_seated-found.ensures.exchanges refl refl
    (c.forget.ensures.items ∙ ap (λ b. cond b (unhanded d.copy mid.free.items) mid.free.items) (sym (eq-eqb found from c.if-won.true))) c.forget.ensures.room
    (ap (λ b. cond b (record mid.debts { copy = Some d }) mid.debts) (sym (eq-eqb found from c.if-won.true)))

pub returns-else-won : goal.returns-else-won
returns-else-won c = let table = c.args.table.now in let found = c.exchange_seated-found.result in let from = c.pack-old.result in let mid = c.exchange_seated-found.new.pass in let d = c.args.debt.now in
    copied table c.args.pass.now mid mid (cell c.args.spot) c.word_of-word.result from c.pack-new.result found (found == from) c.args.link d c.requires.of c.word_of-word.ensures c.pack-old.ensures c.pack-new.ensures
    c.exchange_seated-found.ensures.exchanges refl refl
    (ap (λ b. cond b (unhanded d.copy mid.free.items) mid.free.items) (sym (ne_eqb found from c.if-won.false))) refl
    (ap (λ b. cond b (record mid.debts { copy = Some d }) mid.debts) (sym (ne_eqb found from c.if-won.false)))
