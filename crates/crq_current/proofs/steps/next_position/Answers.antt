use Rattle.std.proofs.Common.{◌≡◌, ◌+◌, ◌*◌, ◌/◌, ◌%◌, ◌^◌, ap, ◌∙◌, arith}
use Rattle.crq_rule.specs.CurrentKinds.{next_position}
use Rattle.crq_current.proofs.StepLaws.{next_number}
use Rattle.crq_current.proofs.steps.next_position.Goals as goal

pub returns-then-tick-from : goal.returns-then-tick-from
returns-then-tick-from c = let x = c.args.control.now in let y = c.args.from in
    let is : (c.from.result / 2 ^ x.shift + 1) * 2 ^ x.shift % 2 ^ 64 ≡ (next_position x y).tick = ap (λ t. (t / 2 ^ x.shift + 1) * 2 ^ x.shift % 2 ^ 64) c.from.ensures ∙ next_number x y c.requires (omega arith) in
    let more = c.if-tick-from.true in let top = c.from-2.ensures in omega arith

pub returns : goal.returns
returns c = let x = c.args.control.now in let y = c.args.from in λ i. record {
  epoch = y.epoch;
  tick = (ap (λ t. (t / 2 ^ x.shift + 1) * 2 ^ x.shift % 2 ^ 64) c.from.ensures ∙ next_number x y c.requires (omega arith)) i;
}
