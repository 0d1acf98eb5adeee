use Rattle.std.proofs.Common.{◌+◌, ◌*◌, ℕ, subst}
use Rattle.std.specs.Fmt.{HasWritten}
use Rattle.crq_top.specs.Explained.{row_words}
use Rattle.crq_top.proofs.explanation.FewRowsDisplay.fmt.Goals as goal

pub returns-clause-writes : goal.returns-clause-writes
returns-clause-writes g c = λ plain ok. subst (λ (n : ℕ). HasWritten g.W.Write.write_str_gives c.args.f.now (row_words c.args.self.now.window c.args.self.now.pending (2 * n + 2)) c.write.new.self)
    c.from.ensures (c.write.ensures.writes plain ok)
