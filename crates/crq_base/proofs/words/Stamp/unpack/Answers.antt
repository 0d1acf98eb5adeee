use Rattle.std.proofs.Common.{Some, ap, sym, ◌∙◌, ◌-◌, arith}
use Rattle.crq_base.proofs.WordLaws.{stamp_one, stamp_below, kept_read, tag_read}
use Rattle.crq_base.proofs.words.Stamp.unpack.Goals as goal

pub returns-in-0-clause-found : goal.returns-in-0-clause-found
returns-in-0-clause-found c = kept_read c.args.word c.in-0.is

pub returns-in-0-clause-packed : goal.returns-in-0-clause-packed
returns-in-0-clause-packed c stamp h e =
    let r = returns-in-0-clause-found c in ap Some (stamp_one _ stamp r.0 h (r.1 ∙ sym e))

pub returns-in-1-to-4611686018427387905-clause-found : goal.returns-in-1-to-4611686018427387905-clause-found
returns-in-1-to-4611686018427387905-clause-found c = tag_read c.args.word (c.args.word - 1) (omega arith) (omega arith)

pub returns-in-1-to-4611686018427387905-clause-packed : goal.returns-in-1-to-4611686018427387905-clause-packed
returns-in-1-to-4611686018427387905-clause-packed c stamp h e =
    let r = returns-in-1-to-4611686018427387905-clause-found c in ap Some (stamp_one _ stamp r.0 h (r.1 ∙ sym e))

pub returns-in_default-clause-packed : goal.returns-in_default-clause-packed
returns-in_default-clause-packed c stamp h e = let b = stamp_below stamp h in absurd (omega arith)
