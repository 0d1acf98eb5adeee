use Rattle.std.proofs.Common.{sym, subst}
use Rattle.crq_base.specs.declared.kinds.StepKind.TheVariants.{Walk}
use Rattle.crq_rule.specs.Moves.{MovesBy, Walked}
use Rattle.crq_rule.specs.Ranks.{cell_place}
use Rattle.crq_rule.proofs.ListSteps.{walk_moves}
use Rattle.crq_base.specs.Words.{IsLinkWord}
use Rattle.crq_base.proofs.WordLaws.{link_below}
use Rattle.crq_rows.specs.Passes.{caller}
use Rattle.crq_list.specs.Spots.{cell, aim_of}
use Rattle.crq_list.proofs.StepLaws.{cell_is, place_below, walked_aside, saw}
use Rattle.crq_list.proofs.steps.walk_step.Goals as goal

pub word_of-word-requires : goal.word_of-word-requires
word_of-word-requires c = cell_is c.args.table.now c.args.pass.now (cell c.args.spot) c.requires.of c.requires.may

pub load_turning-found-requires-clause-word : goal.load_turning-found-requires-clause-word
load_turning-found-requires-clause-word c = place_below c.args.table.now (cell_place (cell c.args.spot)) _ (cell_is c.args.table.now c.args.pass.now (cell c.args.spot) c.requires.of c.requires.may) c.word_of-word.ensures

pub load_turning-found-requires-clause-aside : goal.load_turning-found-requires-clause-aside
load_turning-found-requires-clause-aside c = walked_aside (cell c.args.spot) (aim_of c.args.taken)

pub load_turning-found-requires-clause-moves : goal.load_turning-found-requires-clause-moves
load_turning-found-requires-clause-moves c = let table = c.args.table.now in let p = caller table c.args.pass.now in let at = cell c.args.spot in
    subst (λ w. MovesBy Walk table.start p w (λ n. n) (Walked at (aim_of c.args.taken))) (sym c.word_of-word.ensures) (walk_moves table.start p at (aim_of c.args.taken) c.requires.on c.requires.may c.requires.seek)

pub from_word-requires : goal.from_word-requires
from_word-requires c = let w = c.load_turning-found.ensures.after.1 in subst IsLinkWord w.word (link_below w.link w.is_link)

pub returns : goal.returns
returns c = let link = c.from_word.ensures in
    saw c.args.table.now c.args.pass.now c.load_turning-found.new.pass (cell c.args.spot) (aim_of c.args.taken) c.word_of-word.result c.load_turning-found.result c.from_word.result c.requires.of c.word_of-word.ensures link.0 link.1 c.load_turning-found.ensures
