use Rattle.std.proofs.Common.{MatchOption, subst, sym, refl}
use Rattle.std.proofs.lemmas.Bool.{false≢true}
use Rattle.crq_base.specs.Histories.{MayFollow}
use Rattle.crq_base.specs.Faults.{IsWrong}
use Rattle.crq_base.proofs.Verdicts.{take_end, miss_end}
use Rattle.crq_base.proofs.legality.fault_of.Goals as goal

pub returns-else-has_done : goal.returns-else-has_done
returns-else-has_done c =
    subst (λ x. MatchOption c.unfound.result (MayFollow c.args.history.now x) (λ fault. IsWrong c.args.history.now x fault)) (sym c.in-Take.is)
    (take_end c.args.history.now c.in-Take.caller c.in-Take.event c.unfound.result (c.if-not-has_done.ensures.0 refl) (λ t. false≢true (c.if-has_done.ensures.1 t)) c.unfound.ensures)

pub returns-in-Miss : goal.returns-in-Miss
returns-in-Miss c =
    subst (λ x. MatchOption c.unfound-in-Miss.result (MayFollow c.args.history.now x) (λ fault. IsWrong c.args.history.now x fault)) (sym c.in-Miss.is)
    (miss_end c.args.history.now c.in-Miss.caller c.in-Miss.limit c.unfound-in-Miss.result c.unfound-in-Miss.ensures)
