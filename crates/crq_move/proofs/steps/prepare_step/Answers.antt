use Rattle.std.proofs.Common.{◌==◌, ℕ, ◌+◌, arith, sym, subst}
use prog.Atomic.{either}
use Rattle.crq_base.specs.declared.kinds.StepKind.TheVariants.{Prepare}
use Rattle.crq_base.specs.declared.words.Link.{Link}
use Rattle.crq_base.specs.Words.{link_word}
use Rattle.crq_rule.specs.Places.{head}
use Rattle.crq_rule.specs.Ranks.{next_of}
use Rattle.crq_rule.specs.MoveKinds.{leaves_head, prepared_link}
use Rattle.crq_rule.specs.Moves.{Moves, wins, quiet}
use Rattle.crq_rule.proofs.Glue.{moves_flat}
use Rattle.crq_rule.proofs.MoveSteps.{prepare_moves}
use Rattle.crq_rows.specs.Passes.{caller}
use Rattle.crq_list.proofs.StepLaws.{place_below}
use Rattle.crq_move.proofs.Orders.{head_low}
use Rattle.crq_move.proofs.StepLaws.{left_aside, head_left}
use Rattle.crq_move.proofs.steps.prepare_step.Goals as goal

pub pack-requires : goal.pack-requires
pack-requires c = record { generation = c.requires.room; row = omega arith }

pub head-word-requires : goal.head-word-requires
head-word-requires c = let x = c.args.control.now in let may = c.requires.may in head_low (x.generation + 1) (next_of x) c.args.head (c.requires.of.lawful.controlled x may.control).0.new_log may.head

pub exchange_as-found-requires-clause-word : goal.exchange_as-found-requires-clause-word
exchange_as-found-requires-clause-word c = let x = c.args.control.now in let may = c.requires.may in place_below c.args.table.now (head c.args.head) _ (head_low (x.generation + 1) (next_of x) c.args.head (c.requires.of.lawful.controlled x may.control).0.new_log may.head) c.head-word.ensures

pub exchange_as-found-requires-clause-aside : goal.exchange_as-found-requires-clause-aside
exchange_as-found-requires-clause-aside c = left_aside (link_word c.args.link) c.args.head (prepared_link c.args.control.now)

pub exchange_as-found-requires-clause-moves : goal.exchange_as-found-requires-clause-moves
exchange_as-found-requires-clause-moves c = let key = c.args.table.now.start in let p = caller c.args.table.now c.args.pass.now in let x = c.args.control.now in let l = c.args.link in let q = c.args.head in let may = c.requires.may in let left : Link = prepared_link x in let f = wins (link_word l) (leaves_head q left) in
    subst (λ (z : ℕ × ℕ × ℕ). Moves Prepare key p z.0 (λ n. either (n == z.1) z.2 n) f quiet) (λ i. (sym c.head-word.ensures i, sym c.pack-old.ensures i, sym c.pack.ensures i))
    (moves_flat Prepare key p _ (λ n. either (n == link_word l) (link_word left) n) f quiet (prepare_moves key p x q l c.requires.bits (head_low (x.generation + 1) (next_of x) q (c.requires.of.lawful.controlled x may.control).0.new_log may.head) may))

pub returns : goal.returns
returns c = head_left Prepare c.args.table.now c.args.pass.now c.exchange_as-found.new.pass c.args.head c.args.link (prepared_link c.args.control.now) c.head-word.result c.pack-old.result c.pack.result c.exchange_as-found.result
    c.head-word.ensures c.pack-old.ensures c.pack.ensures c.exchange_as-found.ensures.exchanged
