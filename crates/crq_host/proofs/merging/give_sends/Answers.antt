use Rattle.std.proofs.Common.{ap, ◌∷◌, [], length, subst, arith, get_or, ◌≤◌, ◌<◌}
use Rattle.std.proofs.lemmas.List.{take_all, get_or_default}
use Rattle.crq_host.specs.Shares.{AreDue}
use Rattle.crq_host.specs.declared.worker.Worker.{Worker}
use Rattle.crq_host.proofs.MergeLaws.{giving_next, sends_kept}
use Rattle.crq_host.proofs.merging.give_sends.Goals as goal

pub loop-at-preserved : goal.loop-at-preserved
loop-at-preserved g c =
    let d = c.index-workers-from-in-loop-at.result in
    let kept = ap (λ v. length v.items) (sends_kept c.args.span c.args.from c.loop-at.at c.args.workers.now c.loop-at.workers d c.requires.from c.loop-at.invariant) in
    let same = ap (λ (w : Worker _). length w.sends.items) (get_or_default c.args.workers.now c.args.from c.index-workers-from.result d c.requires.from) in
    let n = c.len-at-end.ensures in
    let v = (get_or c.args.workers.now c.args.from c.index-workers-from.result).sends.ok.0 in
    let t = c.loop-at-test.true in
    let lt : c.loop-at.at < length (get_or c.loop-at.workers c.args.from d).sends.items = omega arith in
    giving_next c.args.span c.args.from c.loop-at.at c.args.workers.now c.loop-at.workers c.give.new.workers d c.index-event.result.now c.requires.from lt c.loop-at.invariant c.in_ok-give.ensures.kept
    (subst (λ e. AreDue c.args.span (e ∷ []) c.loop-at.workers c.give.new.workers) c.index-event.ensures c.in_ok-give.ensures.due)

pub returns-clause-due : goal.returns-clause-due
returns-clause-due g c = λ d.
    let same = ap (λ (w : Worker _). length w.sends.items) (get_or_default c.args.workers.now c.args.from c.index-workers-from.result d c.requires.from) in
    let n = c.len-at-end.ensures in
    let v = (get_or c.args.workers.now c.args.from c.index-workers-from.result).sends.ok.0 in
    let t = c.loop-at-test.false in
    let le : length (get_or c.args.workers.now c.args.from d).sends.items ≤ c.loop-at.at = omega arith in
    subst (λ es. AreDue c.args.span es c.args.workers.now c.loop-at.workers) (take_all c.loop-at.at (get_or c.args.workers.now c.args.from d).sends.items le) (c.loop-at.invariant.due d)
