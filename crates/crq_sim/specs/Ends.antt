-- Why a run under a cap on events leaves no traces.
use Rattle.std.specs.Prelude.{ℕ}
use Rattle.crq_sim.specs.declared.serial_run.SimEnd.{SimEnd}
use Rattle.crq_sim.specs.declared.serial_run.SimEnd.TheVariants.{Memory, Events}
use Rattle.crq_sim.specs.Models.{ModelData}
use Rattle.crq_sim.specs.Runs.{IsOverWithin}
use Rattle.crq_sim.specs.Windows.{IsInWindow}

-- want of memory says nothing; else the run has more events than the cap, and the window is that of the first event past it
abbrev pub IsEndOf : ModelData → ℕ → SimEnd → Type 0
IsEndOf m cap Memory = Unit {0}
IsEndOf m cap (Events window) = (IsOverWithin m cap → ⊥) × IsInWindow m window cap
