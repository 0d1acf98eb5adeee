use Rattle.std.proofs.Common.{Some, ap, sym, ◌∙◌, arith}
use Rattle.crq_base.proofs.WordLaws.{current_one, current_read}
use Rattle.crq_base.proofs.words.Current.unpack.Goals as goal

pub returns-clause-found : goal.returns-clause-found
returns-clause-found c = current_read c.args.word (omega arith)

pub returns-clause-packed : goal.returns-clause-packed
returns-clause-packed c current h e = let r = returns-clause-found c in ap Some (current_one _ current r.0 h (r.1 ∙ sym e))
