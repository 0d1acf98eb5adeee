use Rattle.std.proofs.Common.{Ok, subst}
use Rattle.crq_host.specs.Workers.{TellsShort, shorts_of}
use Rattle.crq_host.proofs.Crews.{none_short}
use Rattle.crq_host.specs.Shares.{Begun}
use Rattle.crq_host.proofs.ShareLaws.{run_is, window_done, passes_run, passes_all}
use Rattle.crq_host.proofs.window_run.run_window.Goals as goal

pub returns-in_ok-share_out-in-Ok-clause-done : goal.returns-in_ok-share_out-in-Ok-clause-done
returns-in_ok-share_out-in-Ok-clause-done g c =
    let b : Begun = record { model = c.args.model.now; states = c.args.states.now.items; events = c.args.events.now; groups = c.args.groups.now } in
    let r = c.run_groups.ensures in
    let none = none_short c.run_groups.new.workers (Ok c.in-Ok.field-0) (subst (TellsShort (shorts_of c.run_groups.new.workers)) c.in-Ok.is c.first_short.ensures) in
    let e = c.in_ok-share_out-in-Ok.ensures in
    let run = run_is b c.as_slice.result.now c.args.workers.now c.run_groups.new.workers c.as_slice.ensures.value c.requires.some r.count c.requires.can none r.ran in
    window_done b c.args.span _ _ _ c.args.workers.now c.run_groups.new.workers c.share_out.new.workers r.count c.requires.ready r.others (c.in_ok-merge-in-Ok.ensures b run) e.kept e.due

pub merge-requires : goal.merge-requires
merge-requires g c =
    let b : Begun = record { model = c.args.model.now; states = c.args.states.now.items; events = c.args.events.now; groups = c.args.groups.now } in
    let r = c.run_groups.ensures in
    let none = none_short c.run_groups.new.workers (Ok c.in-Ok.field-0) (subst (TellsShort (shorts_of c.run_groups.new.workers)) c.in-Ok.is c.first_short.ensures) in
    (b, run_is b c.as_slice.result.now c.args.workers.now c.run_groups.new.workers c.as_slice.ensures.value c.requires.some r.count c.requires.can none r.ran)

pub returns-in-Err-clause-passes : goal.returns-in-Err-clause-passes
returns-in-Err-clause-passes g c = passes_run c.args.workers.now c.run_groups.new.workers c.run_groups.ensures.count c.run_groups.ensures.others

pub returns-in_ok-share_out-in-Ok-clause-passes : goal.returns-in_ok-share_out-in-Ok-clause-passes
returns-in_ok-share_out-in-Ok-clause-passes g c =
    passes_all c.args.workers.now c.run_groups.new.workers c.share_out.new.workers (passes_run c.args.workers.now c.run_groups.new.workers c.run_groups.ensures.count c.run_groups.ensures.others) c.in_ok-share_out-in-Ok.ensures.kept
