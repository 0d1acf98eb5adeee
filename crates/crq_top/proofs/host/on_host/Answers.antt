use Rattle.std.proofs.Common.{refl, inl, inr, ap, ⊎_elim}
use Rattle.crq_top.proofs.host.on_host.Goals as goal

pub returns-clause-exits : goal.returns-clause-exits
returns-clause-exits g c = record {
  errors = _;
  ends = ⊎_elim (λ ran. inl (_, record { before = refl; after = refl }, ran)) (λ unread. inr (unread.0, ap g.M.SetMaker.closed unread.3)) c.program.ensures.runs;
}
