use Rattle.std.proofs.Common.{◌<◌, ◌^◌}
use Rattle.std.proofs.lemmas.List.Elements.{All-more}
use Rattle.crq_sim.specs.declared.model.Start.{Start}
use Rattle.crq_reader.specs.Canonical.{names_in, start_data}
use Rattle.crq_reader.proofs.TextLaws.{viewed_more}
use Rattle.crq_reader.proofs.text.starts_value.Goals as goal

pub loop-start-preserved : goal.loop-start-preserved
loop-start-preserved c =
    let none : Start = record { time = 0; object = 0; load = 0 } in
    record {
      seen =
          viewed_more (start_data (names_in c.args.objects.now)) c.args.starts.now c.loop-start.start-index c.loop-start.values.items c.push.new.self.items c.in_ok-value.value none c.in_ok-push.ensures.items
          c.loop-start-test.true c.in_ok-value.ensures.value c.loop-start.invariant.seen;
      ticks = All-more (λ (s : Start). s.time < 2 ^ 32) c.args.starts.now c.loop-start.start-index none c.loop-start-test.true c.loop-start.invariant.ticks c.in_ok-value.ensures.ticks;
    }
