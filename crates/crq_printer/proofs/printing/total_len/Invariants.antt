use Rattle.std.proofs.Common.{◌≡◌, ℕ, ◌-◌, ◌^◌, min, take, Vec, Global, vec_len}
use Rattle.std.specs.List.{sum_by}
use Rattle.crq_printer.proofs.printing.total_len.Given as goal

abbrev pub invariant-loop-piece : goal.invariant-loop-piece
invariant-loop-piece l = l.total ≡ min (sum_by (λ (p : Vec ℕ Global). vec_len p) (take l.piece-index l.pieces)) (2 ^ 64 - 1)
