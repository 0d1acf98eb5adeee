-- Where the counters of a calendar may begin.
use Rattle.std.specs.Prelude.{◌≤◌, ◌-◌, ◌^◌}
use Rattle.crq_base.specs.declared.first.First.{First}

pub record IsFirst (first : First) : Type 0 where
  pub epoch : first.epoch ≤ 2 ^ 32 - 64
  pub from : 1 ≤ first.generation
  pub upto : first.generation ≤ 2 ^ 30 - 2
  pub guard : first.guard ≤ 2 ^ 62
