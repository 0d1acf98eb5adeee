use Rattle.std.proofs.Common.{sym}
use Rattle.crq_set.proofs.MakerLaws.{last_seen}
use Rattle.crq_set.proofs.plain_maker.PlainMaker.last.Goals as goal

pub returns-clause-last : goal.returns-clause-last
returns-clause-last c =
    let at = rw c.deref.ensures.value at c.in_ok-last.ensures.value in
    rw c.as_slice.ensures.value (last_seen (λ h. h.items) c.args.self.now.histories.items c.in_ok-last.field-0.now (sym at))
