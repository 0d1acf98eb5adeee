use Rattle.std.proofs.Common.{◌≡◌}
use Rattle.crq_sim.specs.Shown.{Shows, Tracks}
use Rattle.crq_sim.proofs.serial_run.serial.Given as goal

abbrev pub invariant-loop-event : goal.invariant-loop-event
invariant-loop-event l = record {
  shows : Shows l.model l.run;
  made : l.run.made ≡ l._event;
  tracks : Tracks l.model l.window.events l.window.number l.window.edge;
  passed : l.window.events ≡ l._event;
}
