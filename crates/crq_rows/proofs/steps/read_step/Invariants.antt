use Rattle.std.specs.Prelude.{◌≡◌}
use Rattle.crq_base.specs.declared.kinds.StepKind.TheVariants.{Read}
use Rattle.crq_base.specs.declared.event.Event.{Event}
use Rattle.crq_rule.specs.ListKinds.{StandsOn, event_word}
use Rattle.crq_rows.specs.Reading.{stays}
use Rattle.crq_rows.proofs.steps.read_step.Given as goal

abbrev pub ghosts-load_as : goal.ghosts-load_as
ghosts-load_as a = record { kind = Read; change = λ _. stays; tells = λ w p. (e : Event) → StandsOn p.position.rows a._said.now.0 e → w ≡ event_word e a._said.now.1 }
