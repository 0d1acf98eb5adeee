use Rattle.std.proofs.Common.{sym, subst}
use Rattle.crq_base.specs.declared.kinds.StepKind.TheVariants.{Walk}
use Rattle.crq_base.specs.Words.{IsLinkWord}
use Rattle.crq_base.proofs.WordLaws.{link_below}
use Rattle.crq_rule.specs.Places.{link}
use Rattle.crq_rule.specs.Ranks.{at_row}
use Rattle.crq_rule.specs.ListKinds.{no_take}
use Rattle.crq_rule.specs.Moves.{MovesBy, Walked}
use Rattle.crq_rule.proofs.ListSteps.{walk_moves}
use Rattle.crq_rows.specs.Passes.{caller}
use Rattle.crq_rows.proofs.Reached.{stand_row}
use Rattle.crq_list.proofs.StepLaws.{place_below, walked_aside, saw}
use Rattle.crq_move.proofs.steps.row_step.Goals as goal

pub row_word-word-requires-clause-row : goal.row_word-word-requires-clause-row
row_word-word-requires-clause-row c = let on = c.requires.on in stand_row c.args.table.now c.args.pass.now c.requires.of c.args.row on.0 on.1

pub load_turning-found-requires-clause-word : goal.load_turning-found-requires-clause-word
load_turning-found-requires-clause-word c = let on = c.requires.on in place_below c.args.table.now (link c.args.row) _ (stand_row c.args.table.now c.args.pass.now c.requires.of c.args.row on.0 on.1) c.row_word-word.ensures

pub load_turning-found-requires-clause-aside : goal.load_turning-found-requires-clause-aside
load_turning-found-requires-clause-aside c = walked_aside (at_row c.args.row) no_take

pub load_turning-found-requires-clause-moves : goal.load_turning-found-requires-clause-moves
load_turning-found-requires-clause-moves c = let table = c.args.table.now in let p = caller table c.args.pass.now in let at = at_row c.args.row in let on = c.requires.on in
    subst (λ w. MovesBy Walk table.start p w (λ n. n) (Walked at no_take)) (sym c.row_word-word.ensures) (walk_moves table.start p at no_take (c.requires.of.lawful.on on.1.0 on.1.1) on tt)

pub from_word-requires : goal.from_word-requires
from_word-requires c = let w = c.load_turning-found.ensures.after.1 in subst IsLinkWord w.word (link_below w.link w.is_link)

pub returns : goal.returns
returns c = let link = c.from_word.ensures in
    saw c.args.table.now c.args.pass.now c.load_turning-found.new.pass (at_row c.args.row) no_take c.row_word-word.result c.load_turning-found.result c.from_word.result c.requires.of c.row_word-word.ensures link.0 link.1 c.load_turning-found.ensures
