use Rattle.std.proofs.Common.{◌≡◌, Some, refl, sym, ◌∙◌, subst, rules}
use Rattle.std.specs.List.{Contains, filter_map}
use Rattle.std.proofs.lemmas.Bool.{false≢true}
use Rattle.std.proofs.lemmas.List.{take_all}
use Rattle.crq_base.specs.declared.entry.Entry.TheVariants.{Begin}
use Rattle.crq_base.specs.Faults.{event_of}
use Rattle.crq_base.proofs.Deeds.{done_at, not_done_more}
use Rattle.crq_base.proofs.legality.has_done.Goals as goal

pub returns-then-eq : goal.returns-then-eq
returns-then-eq c =
    let same : c.event_of.result ≡ Some c.args.event.now = search rules in
    (λ _. done_at (event_of c.args.deed) c.args.history.now c.loop-entry.entry-index (Begin 0) c.args.event.now c.loop-entry-test.true (sym c.event_of.ensures ∙ same), λ _. refl)

pub loop-entry-preserved : goal.loop-entry-preserved
loop-entry-preserved c =
    let other : c.event_of.result ≡ Some c.args.event.now → ⊥ = search rules in
    not_done_more (event_of c.args.deed) c.args.history.now c.loop-entry.entry-index (Begin 0) c.args.event.now c.loop-entry-test.true (λ e. other (c.event_of.ensures ∙ e)) c.loop-entry.invariant

pub returns : goal.returns
returns c = (λ t. absurd (false≢true t), λ some. absurd (c.loop-entry.invariant (subst (λ h. Contains (filter_map (event_of c.args.deed) h) c.args.event.now) (sym (take_all c.loop-entry.entry-index c.args.history.now c.loop-entry-test.false)) some)))
