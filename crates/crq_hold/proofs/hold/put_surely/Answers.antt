use Rattle.std.proofs.Common.{◌≡◌, Result, Ok, Err, refl, sym, ◌∙◌, subst}
use Rattle.std.specs.Result.{is_ok}
use mathlib.Core.Bool.{true, false}
use Rattle.crq_base.specs.declared.answers.Short.{Short}
use Rattle.crq_hold.specs.Workers.{PutAndTook}
use Rattle.crq_hold.specs.Waiting.{waited_puts}
use Rattle.crq_hold.proofs.Working.{went_none, went_both}
use Rattle.crq_hold.proofs.hold.put_surely.Goals as goal

refused : (r : Result (Unit {0}) Short) → is_ok r ≡ false → waited_puts r ≡ 0
refused (Ok u) e = absurd (cc)
refused (Err short) e = refl

accepted : (r : Result (Unit {0}) Short) → is_ok r ≡ true → waited_puts r ≡ 1
accepted (Ok u) e = refl
accepted (Err short) e = absurd (cc)

pub loop-init : goal.loop-init
loop-init g c = (went_none _ _ c.requires.worker, c.requires.settled)

pub put_waiting-requires : goal.put_waiting-requires
put_waiting-requires g c = c.loop.invariant.0.on.worker

pub loop-preserved : goal.loop-preserved
loop-preserved g c = let e = c.put_waiting.ensures in let l = c.loop.invariant in
    (went_both l.0 (subst (λ n. PutAndTook c.args.queue.now.table c.loop.worker c.put_waiting.new.self n 0) (refused c.put_waiting.result (sym c.is_ok.ensures.value ∙ c.if-is_ok.false)) e.counts), e.settled l.1)

pub returns-then-is_ok-clause-put : goal.returns-then-is_ok-clause-put
returns-then-is_ok-clause-put g c = went_both c.loop.invariant.0 (subst (λ n. PutAndTook c.args.queue.now.table c.loop.worker c.put_waiting.new.self n 0) (accepted c.put_waiting.result (sym c.is_ok.ensures.value ∙ c.if-is_ok.true)) c.put_waiting.ensures.counts)

pub returns-then-is_ok-clause-settled : goal.returns-then-is_ok-clause-settled
returns-then-is_ok-clause-settled g c = c.put_waiting.ensures.settled c.loop.invariant.1
