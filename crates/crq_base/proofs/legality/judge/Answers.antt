use Rattle.std.proofs.Common.{take, get_or}
use Rattle.crq_base.specs.declared.entry.Entry.TheVariants.{Begin}
use Rattle.crq_base.proofs.Verdicts.{wrong_not, legal_at, legal_next}
use Rattle.crq_base.proofs.legality.judge.Goals as goal

pub returns-in-Some-clause-legal : goal.returns-in-Some-clause-legal
returns-in-Some-clause-legal c legal =
    absurd (wrong_not (take c.loop-index.index c.args.history.now) (get_or c.args.history.now c.loop-index.index (Begin 0)) c.in-Some.fault c.in-Some.ensures (legal_at c.args.history.now c.loop-index.index (Begin 0) c.loop-index-test.true legal))

pub loop-index-preserved : goal.loop-index-preserved
loop-index-preserved c =
    legal_next c.args.history.now c.loop-index.index (Begin 0) c.loop-index-test.true c.loop-index.invariant c.in_default.ensures
