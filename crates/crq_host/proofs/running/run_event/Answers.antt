use Rattle.std.proofs.Common.{ap, ◌∙◌, ◌++◌, refl}
use Rattle.crq_host.proofs.RunLaws.{event_ran}
use Rattle.crq_host.proofs.running.run_event.Goals as goal

pub returns-clause-ran : goal.returns-clause-ran
returns-clause-ran g c =
    event_ran _ _ _ _ _ _ c.react-sends.ensures.state c.in_ok-push.ensures.items
    (c.in_ok-extend_from_slice.ensures.items ∙ ap (λ xs. c.args.worker.now.sends.items ++ xs) (c.as_slice.ensures.value ∙ c.react-sends.ensures.sends)) refl
