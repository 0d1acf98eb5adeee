use Rattle.std.proofs.Common.{sym, subst}
use Rattle.crq_base.specs.declared.kinds.StepKind.TheVariants.{Walk}
use Rattle.crq_base.specs.Words.{IsLinkWord}
use Rattle.crq_base.proofs.WordLaws.{link_below}
use Rattle.crq_rule.specs.Moves.{MovesBy, FoundCopy}
use Rattle.crq_rule.proofs.CopySteps.{copy_load_moves}
use Rattle.crq_rows.specs.Passes.{caller}
use Rattle.crq_move.proofs.EmptySteps.{copy_found, dead_gone, other_stays}
use Rattle.crq_move.proofs.steps.copy_link_step.Goals as goal

pub load_seated-found-requires-clause-moves : goal.load_seated-found-requires-clause-moves
load_seated-found-requires-clause-moves c = let key = c.args.table.now.start in let p = caller c.args.table.now c.args.pass.now in let d = c.args.debt.now in
    subst (λ w. MovesBy Walk key p w (λ n. n) (FoundCopy d)) (sym c.row_word-word.ensures) (copy_load_moves key p d c.requires.owes)

pub from_word-link-requires : goal.from_word-link-requires
from_word-link-requires c = let w = c.load_seated-found.ensures.after.1 in subst IsLinkWord w.word (link_below w.link w.is_link)

pub returns-in-Del : goal.returns-in-Del
returns-in-Del c = let link = c.from_word-link.ensures in let mid = c.load_seated-found.new.pass in
    copy_found c.args.table.now c.args.pass.now mid _ c.args.debt.now c.row_word-word.result c.load_seated-found.result c.from_word-link.result c.requires.of c.row_word-word.ensures link.0 link.1 c.load_seated-found.ensures (dead_gone mid c.from_word-link.result c.in-Del.is)

pub returns-in_default : goal.returns-in_default
returns-in_default c = let link = c.from_word-link.ensures in let mid = c.load_seated-found.new.pass in
    copy_found c.args.table.now c.args.pass.now mid mid c.args.debt.now c.row_word-word.result c.load_seated-found.result c.from_word-link.result c.requires.of c.row_word-word.ensures link.0 link.1 c.load_seated-found.ensures (other_stays mid c.from_word-link.result c.in_default.not-Del)
