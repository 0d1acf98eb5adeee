use Rattle.std.proofs.Common.{◌==◌, ℕ, sym, refl, ap, subst}
use prog.Atomic.{either}
use Rattle.crq_base.specs.declared.kinds.StepKind.TheVariants.{Cut}
use Rattle.crq_base.specs.Words.{link_word}
use Rattle.crq_rule.specs.declared.pass.Pass.{Pass}
use Rattle.crq_rule.specs.Ranks.{cell_place}
use Rattle.crq_rule.specs.ListKinds.{cuts}
use Rattle.crq_rule.specs.Moves.{Moves, wins, quiet}
use Rattle.crq_rule.proofs.Glue.{moves_flat}
use Rattle.crq_rule.proofs.ListSteps.{cut_moves}
use Rattle.crq_rows.specs.Passes.{caller}
use Rattle.crq_list.specs.Spots.{cell}
use Rattle.crq_list.proofs.StepLaws.{cell_is, place_below, cut_aside, swapped}
use Rattle.crq_list.proofs.steps.cut_step.Goals as goal

pub word_of-word-requires : goal.word_of-word-requires
word_of-word-requires c = cell_is c.args.table.now c.args.pass.now (cell c.args.spot) c.requires.of c.requires.may.cell_is

pub pack-requires : goal.pack-requires
pack-requires c = let on = c.requires.may.on in let last = c.requires.of.lawful.last on.0 c.args.last on.1 on.3 in record { generation = c.requires.bits.generation; row = last.row }

pub exchange_as-found-requires-clause-word : goal.exchange_as-found-requires-clause-word
exchange_as-found-requires-clause-word c = place_below c.args.table.now (cell_place (cell c.args.spot)) _ (cell_is c.args.table.now c.args.pass.now (cell c.args.spot) c.requires.of c.requires.may.cell_is) c.word_of-word.ensures

pub exchange_as-found-requires-clause-aside : goal.exchange_as-found-requires-clause-aside
exchange_as-found-requires-clause-aside c = cut_aside (link_word c.args.link) c.args.link.row

pub exchange_as-found-requires-clause-moves : goal.exchange_as-found-requires-clause-moves
exchange_as-found-requires-clause-moves c = let key = c.args.table.now.start in let p = caller c.args.table.now c.args.pass.now in let l = c.args.link in let f = wins (link_word l) (cuts l.row) in
    subst (λ (z : ℕ × ℕ × ℕ). Moves Cut key p z.0 (λ n. either (n == z.1) z.2 n) f quiet) (λ i. (sym c.word_of-word.ensures i, sym c.pack-old.ensures i, sym c.pack.ensures i))
    (moves_flat Cut key p _ (λ n. either (n == link_word l) (link_word (record l { row = c.args.last.row })) n) f quiet (cut_moves key p (cell c.args.spot) l l.row c.args.last c.requires.bits c.requires.present refl c.requires.may))

pub returns : goal.returns
returns c = let x = c.exchange_as-found.ensures.exchanged in let l = c.args.link in record {
  swapped = swapped Cut c.args.table.now c.args.pass.now c.exchange_as-found.new.pass (cell c.args.spot) l (record l { row = c.args.last.row }) (cuts l.row) c.word_of-word.result c.pack-old.result c.pack.result c.exchange_as-found.result _
      c.word_of-word.ensures c.pack-old.ensures c.pack.ensures x.is x.turns (ap (λ (q : Pass). q.number) x.same) x.part refl;
  free = ap (λ (q : Pass). q.free.items) x.same;
  debts = ap (λ (q : Pass). q.debts) x.same;
}
