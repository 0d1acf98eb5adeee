use Rattle.std.proofs.Common.{◌==◌, ℕ, sym, subst}
use prog.Atomic.{either}
use Rattle.crq_base.specs.declared.kinds.StepKind.TheVariants.{Announce}
use Rattle.crq_base.specs.Words.{IsControlWord}
use Rattle.crq_base.proofs.WordLaws.{control_below}
use Rattle.crq_rule.specs.Moves.{MovesBy, FoundAnnounce}
use Rattle.crq_rule.proofs.MoveSteps.{announce_moves}
use Rattle.crq_rows.specs.Passes.{caller}
use Rattle.crq_move.proofs.StepLaws.{announced_aside, announced, not_announced}
use Rattle.crq_move.proofs.steps.announce_step.Goals as goal

pub exchange_turning-seen-requires-clause-aside : goal.exchange_turning-seen-requires-clause-aside
exchange_turning-seen-requires-clause-aside c = announced_aside c.args.found.now c.args.log c.args.shift

pub exchange_turning-seen-requires-clause-moves : goal.exchange_turning-seen-requires-clause-moves
exchange_turning-seen-requires-clause-moves c = let key = c.args.table.now.start in let p = caller c.args.table.now c.args.pass.now in let x = c.args.found.now in let R = FoundAnnounce x c.args.log c.args.shift in let may = c.requires.may in
    subst (λ (z : ℕ × ℕ × ℕ). MovesBy Announce key p z.0 (λ n. either (n == z.1) z.2 n) R) (λ i. (sym c.control-word.ensures i, sym c.pack-old.ensures i, sym c.pack.ensures i))
    (announce_moves key p x c.args.log c.args.shift (c.requires.of.lawful.controlled x may.control).0 may)

pub from_word-requires : goal.from_word-requires
from_word-requires c = let w = c.exchange_turning-seen.ensures.after.1 in subst IsControlWord w.word (control_below w.control w.is_control)

pub returns-then-seen-old : goal.returns-then-seen-old
returns-then-seen-old c = announced c.args.table.now c.args.pass.now c.exchange_turning-seen.new.pass c.args.found.now c.args.log c.args.shift c.control-word.result c.pack-old.result c.pack.result c.exchange_turning-seen.result
    c.control-word.ensures c.pack-old.ensures c.pack.ensures c.exchange_turning-seen.ensures c.if-seen-old.true

pub returns : goal.returns
returns c = let y = c.from_word.ensures in not_announced c.args.table.now c.args.pass.now c.exchange_turning-seen.new.pass c.args.found.now c.args.log c.args.shift c.control-word.result c.pack-old.result c.pack.result c.exchange_turning-seen.result
    c.control-word.ensures c.pack-old.ensures c.pack.ensures c.exchange_turning-seen.ensures c.from_word.result y.0 y.1 c.if-seen-old.false
