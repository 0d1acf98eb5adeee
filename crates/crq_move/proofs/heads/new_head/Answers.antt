use Rattle.std.proofs.Common.{◌+◌, ◌*◌, ◌%◌, ◌^◌, ◌<◌, arith, sym, subst}
use Rattle.crq_move.proofs.Orders.{head_fits}
use Rattle.crq_move.proofs.heads.new_head.Goals as goal

pub overflow_add-result-2 : goal.overflow_add-result-2
overflow_add-result-2 c = let x = c.args.control.now in let low = head_fits (x.generation + 1) x.new_log c.args.number c.args.at c.requires.bits.new_log c.requires.place in let fits = subst (λ z. (x.generation + 1) % 2 * 32768 + z < 2 ^ 32) (sym c.woven.ensures) low in omega arith
