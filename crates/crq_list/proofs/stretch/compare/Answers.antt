use Rattle.std.proofs.Common.{◌≡◌, false, refl, subst, ap, ◌∙◌}
use Rattle.crq_list.specs.declared.seek.SeekState.{SeekState}
use Rattle.crq_list.specs.declared.seek.SeekState.TheVariants.{Reading}
use Rattle.crq_list.specs.declared.seek.SeekEnd.{SeekEnd}
use Rattle.crq_list.specs.declared.parts.Progress.{Progress}
use Rattle.crq_list.specs.declared.parts.Progress.TheVariants.{More}
use Rattle.crq_list.specs.Seeking.{SeekStepped, seek_exchanges}
use Rattle.crq_list.proofs.Stretching.{one_more, the_last, fell}
use Rattle.crq_list.proofs.stretch.compare.Goals as goal

pub read-told-requires-clause-of : goal.read-told-requires-clause-of
read-told-requires-clause-of c = c.loop-next.invariant.0

pub read-told-requires-clause-seek : goal.read-told-requires-clause-seek
read-told-requires-clause-seek c = let s = c.requires.seek in (s.0, s.1, (c.loop-next.invariant.1 s.0 s.1 s.2).0)

pub returns-in_default : goal.returns-in_default
returns-in_default c n x at = let g = c.loop-next.invariant.1 n x at in the_last SeekState (Progress SeekEnd) (SeekStepped n c.args.table.now x c.args.sought.now) seek_exchanges More _ _ _ _ _ _ _ g.1 (c.read-told.ensures.stepped n x g.0)

pub returns-in_default-2 : goal.returns-in_default-2
returns-in_default-2 c n x at = let g = c.loop-next.invariant.1 n x at in the_last SeekState (Progress SeekEnd) (SeekStepped n c.args.table.now x c.args.sought.now) seek_exchanges More _ _ _ _ _ _ _ g.1 (c.read-told.ensures.stepped n x g.0)

pub loop-next-smaller : goal.loop-next-smaller
loop-next-smaller c = let s = c.requires.seek in let g = c.loop-next.invariant.1 s.0 s.1 s.2 in let now = c.in-Reading-More in let at : c.read-told.result.0 ≡ Reading c.args.before now.next = now.is-0 ∙ ap (λ b. Reading b now.next) ((c.read-told.ensures.same now.field-0-0).0 now.next now.is-0) in
    let step = subst (λ (z : SeekState × Progress SeekEnd). SeekStepped s.0 c.args.table.now s.1 c.args.sought.now (Reading c.args.before c.loop-next.place) z.0 c.loop-next.pass c.read-told.new.pass z.1) (λ i. (at i, now.is-1 i)) (c.read-told.ensures.stepped s.0 s.1 g.0) in
    fell false _ _ refl step.answers.1

pub loop-next-preserved : goal.loop-next-preserved
loop-next-preserved c = let s = c.requires.seek in let g = c.loop-next.invariant in let now = c.in-Reading-More in let at : c.read-told.result.0 ≡ Reading c.args.before now.next = now.is-0 ∙ ap (λ b. Reading b now.next) ((c.read-told.ensures.same now.field-0-0).0 now.next now.is-0) in (
  (c.read-told.ensures.stepped s.0 s.1 (g.1 s.0 s.1 s.2).0).is,
  λ n x begun. let here = g.1 n x begun in
      let step = subst (λ (z : SeekState × Progress SeekEnd). SeekStepped n c.args.table.now x c.args.sought.now (Reading c.args.before c.loop-next.place) z.0 c.loop-next.pass c.read-told.new.pass z.1) (λ i. (at i, now.is-1 i)) (c.read-told.ensures.stepped n x here.0) in
      (step.answers.0, one_more SeekState (Progress SeekEnd) (SeekStepped n c.args.table.now x c.args.sought.now) seek_exchanges More _ _ _ _ _ _ here.1 step refl),
)
