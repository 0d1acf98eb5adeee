use Rattle.std.proofs.Common.{◌≡◌, ℕ, ◌++◌, take, Vec, Global}
use Rattle.std.specs.List.{flat_map}
use Rattle.crq_printer.proofs.printing.push_pieces.Given as goal

abbrev pub invariant-loop-piece : goal.invariant-loop-piece
invariant-loop-piece l = l.text.items ≡ l.fn.text.items ++ flat_map (λ (p : Vec ℕ Global). p.items) (take l.piece-index l.pieces)
