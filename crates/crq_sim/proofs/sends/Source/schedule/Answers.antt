use Rattle.std.proofs.Common.{◌<◌, ◌≤◌, ◌+◌, ◌++◌, ◌∷◌, [], ap, sym, ◌∙◌, arith, length}
use Rattle.std.proofs.lemmas.List.{append-nil}
use Rattle.crq_sim.proofs.ScheduleLemmas.{event_of, scheduled_due, scheduled_past, scheduled_none}
use Rattle.crq_sim.proofs.sends.Source.schedule.Goals as goal

pub returns-then-post-until : goal.returns-then-post-until
returns-then-post-until c =
    let due : c.args.post.time ≤ c.args.self.now.until = omega arith in
    rw (scheduled_due c.args.self.now.until c.args.self.now.object (c.args.self.now.sent + length c.args.sends.now) c.args.post [] due, scheduled_none)
    (c.push.ensures ∙ ap (λ n. c.args.sends.now ++ event_of c.args.post c.args.self.now.object (c.args.self.now.sent + n) ∷ []) c.len.ensures.value)

pub returns-else-post-until : goal.returns-else-post-until
returns-else-post-until c =
    let late : c.args.self.now.until < c.args.post.time = omega arith in
    rw (scheduled_past c.args.self.now.until c.args.self.now.object (c.args.self.now.sent + length c.args.sends.now) c.args.post [] late, scheduled_none) (sym (append-nil c.args.sends.now))
