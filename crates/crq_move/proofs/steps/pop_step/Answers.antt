use Rattle.std.proofs.Common.{◌==◌, ℕ, sym, refl, subst}
use prog.Atomic.{either}
use Rattle.crq_base.specs.declared.kinds.StepKind.TheVariants.{Pop}
use Rattle.crq_base.specs.Words.{link_word}
use Rattle.crq_rule.specs.Places.{index, head}
use Rattle.crq_rule.specs.ListKinds.{cuts}
use Rattle.crq_rule.specs.Moves.{Moves, wins, quiet}
use Rattle.crq_rule.proofs.Glue.{moves_flat}
use Rattle.crq_rule.proofs.MoveSteps.{pop_moves}
use Rattle.crq_rows.specs.Passes.{caller}
use Rattle.crq_list.proofs.StepLaws.{cut_aside}
use Rattle.crq_move.proofs.EmptySteps.{word_left}
use Rattle.crq_move.proofs.steps.pop_step.Goals as goal

pub pack-requires : goal.pack-requires
pack-requires c = let on = c.requires.may.on in let last = c.requires.of.lawful.last on.0 c.args.last on.1 on.3 in record { generation = c.requires.bits.generation; row = last.row }

pub exchange_as-found-requires-clause-aside : goal.exchange_as-found-requires-clause-aside
exchange_as-found-requires-clause-aside c = cut_aside (link_word c.args.from) c.args.from.row

pub exchange_as-found-requires-clause-moves : goal.exchange_as-found-requires-clause-moves
exchange_as-found-requires-clause-moves c = let key = c.args.table.now.start in let p = caller c.args.table.now c.args.pass.now in let l = c.args.from in let last = c.args.last in let f = wins (link_word l) (cuts l.row) in
    subst (λ (z : ℕ × ℕ × ℕ). Moves Pop key p z.0 (λ n. either (n == z.1) z.2 n) f quiet) (λ i. (sym c.head-word.ensures i, sym c.pack-old.ensures i, sym c.pack.ensures i))
    (moves_flat Pop key p _ (λ n. either (n == link_word l) (link_word (record l { row = last.row })) n) f quiet (pop_moves key p c.args.at l.row l last c.requires.bits c.requires.frozen refl c.requires.may))

pub returns : goal.returns
returns c = let l = c.args.from in
    word_left Pop c.args.table.now c.args.pass.now c.exchange_as-found.new.pass (index c.args.table.now.start.layout (head c.args.at)) (link_word l) (link_word (record l { row = c.args.last.row })) (cuts l.row) c.head-word.result c.pack-old.result c.pack.result c.exchange_as-found.result
    c.head-word.ensures c.pack-old.ensures c.pack.ensures c.exchange_as-found.ensures.exchanged
