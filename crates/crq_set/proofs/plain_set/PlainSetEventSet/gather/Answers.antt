use Rattle.crq_set.proofs.PlainLaws.{plain_gathers}
use Rattle.crq_set.proofs.plain_set.PlainSetEventSet.gather.Goals as goal

pub returns-clause-gathers : goal.returns-clause-gathers
returns-clause-gathers c =
    let of = c.requires.of c.unwrap-pass.result c.unwrap-pass.ensures in
    rw c.unwrap-pass.ensures (plain_gathers _ _ _ _ of)
