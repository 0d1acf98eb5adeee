use Rattle.std.proofs.Common.{sym, subst}
use Rattle.crq_base.specs.declared.kinds.StepKind.TheVariants.{Walk}
use Rattle.crq_base.specs.Words.{IsLinkWord}
use Rattle.crq_base.proofs.WordLaws.{link_below}
use Rattle.crq_rule.specs.Ranks.{at_head}
use Rattle.crq_rule.specs.ListKinds.{no_take}
use Rattle.crq_rule.specs.Moves.{MovesBy, Walked}
use Rattle.crq_rule.proofs.ListSteps.{walk_moves}
use Rattle.crq_rows.specs.Passes.{caller}
use Rattle.crq_list.proofs.StepLaws.{walked_aside, saw}
use Rattle.crq_move.proofs.steps.head_step.Goals as goal

pub load_turning-found-requires-clause-aside : goal.load_turning-found-requires-clause-aside
load_turning-found-requires-clause-aside c = walked_aside (at_head c.args.head) no_take

pub load_turning-found-requires-clause-moves : goal.load_turning-found-requires-clause-moves
load_turning-found-requires-clause-moves c = let table = c.args.table.now in let p = caller table c.args.pass.now in let at = at_head c.args.head in
    subst (λ w. MovesBy Walk table.start p w (λ n. n) (Walked at no_take)) (sym c.head-word.ensures) (walk_moves table.start p at no_take c.requires.on c.requires.head tt)

pub from_word-requires : goal.from_word-requires
from_word-requires c = let w = c.load_turning-found.ensures.after.1 in subst IsLinkWord w.word (link_below w.link w.is_link)

pub returns : goal.returns
returns c = let link = c.from_word.ensures in
    saw c.args.table.now c.args.pass.now c.load_turning-found.new.pass (at_head c.args.head) no_take c.head-word.result c.load_turning-found.result c.from_word.result c.requires.of c.head-word.ensures link.0 link.1 c.load_turning-found.ensures
