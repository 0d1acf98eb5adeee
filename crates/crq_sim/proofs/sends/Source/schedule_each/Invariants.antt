use Rattle.std.proofs.Common.{◌≡◌, ◌≤◌, length, map, take}
use Rattle.crq_sim.specs.Reactions.{scheduled}
use Rattle.crq_sim.proofs.sends.Source.schedule_each.Given as goal

abbrev pub invariant-loop-target : goal.invariant-loop-target
invariant-loop-target l =
    (l.sends ≡ scheduled l.self.until l.self.object l.self.sent (map (λ target. record { time = l.time; dst = target; load = l.load }) (take l.target-index l.targets)))
    × (length l.sends ≤ l.target-index)
