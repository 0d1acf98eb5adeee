use Rattle.std.proofs.Common.{◌+◌, ◌*◌, ◌%◌, ◌^◌, ◌<◌, arith, sym, subst}
use Rattle.crq_move.proofs.Orders.{head_fits}
use Rattle.crq_move.proofs.heads.old_head.Goals as goal

pub overflow_add-result : goal.overflow_add-result
overflow_add-result c = let x = c.args.control.now in let low = head_fits x.generation x.log c.args.number c.args.at c.requires.bits.log c.requires.place in let fits = subst (λ z. x.generation % 2 * 32768 + z < 2 ^ 32) (sym c.woven.ensures) low in omega arith
