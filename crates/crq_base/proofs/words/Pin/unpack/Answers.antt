use Rattle.std.proofs.Common.{Some, ap, sym, ◌∙◌, arith}
use Rattle.crq_base.proofs.WordLaws.{pin_one, pin_read, pin_below}
use Rattle.crq_base.proofs.words.Pin.unpack.Goals as goal

pub returns-then-word-ne0-clause-packed : goal.returns-then-word-ne0-clause-packed
returns-then-word-ne0-clause-packed c pin h e = let b = pin_below pin h in absurd (omega arith)

pub returns-clause-found : goal.returns-clause-found
returns-clause-found c = pin_read c.args.word (omega arith)

pub returns-clause-packed : goal.returns-clause-packed
returns-clause-packed c pin h e = let r = returns-clause-found c in ap Some (pin_one _ pin r.0 h (r.1 ∙ sym e))
