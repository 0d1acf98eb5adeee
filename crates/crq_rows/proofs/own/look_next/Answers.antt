use Rattle.std.proofs.Common.{sym, ◌∙◌}
use Rattle.std.proofs.lemmas.Bool.{false≢true}
use Rattle.crq_rows.proofs.Owns.{own_ripe, own_passed, own_unripe}
use Rattle.crq_rows.proofs.own.look_next.Goals as goal

pub returns-then-look : goal.returns-then-look
returns-then-look c = let r = c.look.ensures in own_ripe c.args.table.now c.args.pass.now _ c.args.epoch c.args.row r.0 c.requires.op r.1 (r.2.0 c.if-look.true)

pub after_row-requires-clause-looked : goal.after_row-requires-clause-looked
after_row-requires-clause-looked c = let r = c.look.ensures in own_passed c.args.table.now c.args.pass.now _ c.args.epoch c.args.row r.0 c.requires.op r.1 (λ ripe. false≢true (sym c.if-look.false ∙ r.2.1 ripe))

pub returns : goal.returns
returns c = let r = c.look.ensures in own_unripe c.args.table.now c.args.pass.now _ c.args.epoch c.args.row r.0 c.requires.op r.1 _ _ c.after_row.ensures
