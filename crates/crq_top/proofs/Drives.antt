-- What a drive leaves of the run over one event list, and the cause of an ending without a text.
use Rattle.std.proofs.Common.{◌≡◌, ℕ, List, Result, Ok, Err, IfErr, ap, sym, subst}
use Rattle.std.specs.Global.{Vec}
use Rattle.crq_base.specs.declared.entry.Entry.{Entry}
use Rattle.crq_host.specs.declared.drive_end.DriveEnd.{DriveEnd}
use Rattle.crq_host.specs.declared.drive_end.DriveEnd.TheVariants as drive_ends
use Rattle.crq_host.specs.Drives.{Caps, IsDriven, DriveStops}
use Rattle.crq_printer.specs.Texts.{trace_text_of}
use Rattle.crq_sim.specs.declared.outcome.Outcome.{Outcome}
use Rattle.crq_sim.specs.Models.{ModelData}
use Rattle.crq_sim.proofs.RunLemmas.{over_within}
use Rattle.crq_top.specs.Commands.{Asked, run}
use Rattle.crq_top.specs.declared.ending.Ending.{Ending}
use Rattle.crq_top.specs.Meanings.{caps, IsModelOf, IsCause}
use Rattle.crq_top.specs.Runs.{LeavesText, LeavesNone, ending_after}
use Rattle.crq_top.specs.Sessions.{Resources}

pub driven_leaves : (m : ModelData) (caps : Caps) (old new : List (List Entry)) (outcome : Outcome) → IsDriven m caps old new outcome → LeavesText m caps old new (trace_text_of outcome.traces)
driven_leaves m caps old new outcome h =
    let over = over_within m h.events caps.events outcome.traces h.few h.over h.traces in
    record { goes = h.goes; is_text = (over.0, ap trace_text_of over.1); history = (outcome.windows, (h.events, h.last, h.over), h.history) }

-- the cause of the ending of a command whose drive has no outcome
module _ (r : Resources) (model : List ℕ) (workers rows events : ℕ) (m : ModelData) (is : IsModelOf r.files_before.found (run model workers rows events) m) where
  by_end : (end : DriveEnd) → DriveStops m (caps events rows) r.closed_before r.closed_after end → IsCause r (run model workers rows events) (ending_after end)
  by_end drive_ends.Memory h = h
  by_end (drive_ends.Events window) h = record { model = m; is_model = is; stops = h }
  by_end (drive_ends.Rows window pending) h = record { model = m; is_model = is; stops = h }

  run_cause : (e : Ending) → LeavesNone m (caps events rows) r.closed_before r.closed_after e → IsCause r (run model workers rows events) e
  run_cause e h = subst (IsCause r (run model workers rows events)) (sym h.1) (by_end h.0 h.2)

-- the same of a command that is known to be this one
cause_of_run : (r : Resources) (a : Asked) (model : List ℕ) (workers rows events : ℕ) (m : ModelData) (e : Ending) → a ≡ run model workers rows events → IsModelOf r.files_before.found a m
    → LeavesNone m (caps events rows) r.closed_before r.closed_after e → IsCause r a e
cause_of_run r a model workers rows events m e same is h =
    subst (λ b. IsCause r b e) (sym same) (run_cause r model workers rows events m (subst (λ b. IsModelOf r.files_before.found b m) same is) e h)

pub causes_of_run : (r : Resources) (a : Asked) (model : List ℕ) (workers rows events : ℕ) (m : ModelData) (result : Result (Vec ℕ) Ending) → a ≡ run model workers rows events → IsModelOf r.files_before.found a m
    → IfErr result (λ e. LeavesNone m (caps events rows) r.closed_before r.closed_after e) → IfErr result (λ e. IsCause r a e)
causes_of_run r a model workers rows events m (Ok text) same is h = tt
causes_of_run r a model workers rows events m (Err e) same is h = cause_of_run r a model workers rows events m e same is h
