use Rattle.std.proofs.Common.{◌≡◌, false, refl, subst, ap, ◌∙◌, arith}
use Rattle.crq_list.specs.declared.seek.SeekState.{SeekState}
use Rattle.crq_list.specs.declared.seek.SeekState.TheVariants.{Reading, Passing}
use Rattle.crq_list.specs.declared.seek.SeekEnd.{SeekEnd}
use Rattle.crq_list.specs.declared.parts.Progress.{Progress}
use Rattle.crq_list.specs.declared.parts.Progress.TheVariants.{More}
use Rattle.crq_list.specs.Seeking.{SeekStepped, seek_exchanges}
use Rattle.crq_list.proofs.Stretching.{one_more, the_last, fell}
use Rattle.crq_list.proofs.stretch.pass_rows.Goals as goal

pub pass_row-told-requires-clause-of : goal.pass_row-told-requires-clause-of
pass_row-told-requires-clause-of c = c.loop-next.invariant.0

pub pass_row-told-requires-clause-seek : goal.pass_row-told-requires-clause-seek
pass_row-told-requires-clause-seek c = let s = c.requires.seek in (s.0, s.1, (c.loop-next.invariant.1 s.0 s.1 s.2).0)

pub returns-in_default : goal.returns-in_default
returns-in_default c n x at = let g = c.loop-next.invariant.1 n x at in the_last SeekState (Progress SeekEnd) (SeekStepped n c.args.table.now x c.args.sought.now) seek_exchanges More _ _ _ _ _ _ _ g.1 (c.pass_row-told.ensures n x g.0)

pub returns-in_default-2 : goal.returns-in_default-2
returns-in_default-2 c n x at = let g = c.loop-next.invariant.1 n x at in the_last SeekState (Progress SeekEnd) (SeekStepped n c.args.table.now x c.args.sought.now) seek_exchanges More _ _ _ _ _ _ _ g.1 (c.pass_row-told.ensures n x g.0)

pub read-told-requires-clause-of : goal.read-told-requires-clause-of
read-told-requires-clause-of c = let s = c.requires.seek in (c.pass_row-told.ensures s.0 s.1 (c.loop-next.invariant.1 s.0 s.1 s.2).0).is

pub read-told-requires-clause-seek : goal.read-told-requires-clause-seek
read-told-requires-clause-seek c = let s = c.requires.seek in let g = c.loop-next.invariant.1 s.0 s.1 s.2 in let now = c.in-Reading-More in
    let step = subst (λ (z : SeekState × Progress SeekEnd). SeekStepped s.0 c.args.table.now s.1 c.args.sought.now (Passing c.loop-next.before) z.0 c.loop-next.pass c.pass_row-told.new.pass z.1) (λ i. (now.is-0 i, now.is-1 i)) (c.pass_row-told.ensures s.0 s.1 g.0) in
    (s.0, s.1, step.answers.0)

pub returns-in_default-told : goal.returns-in_default-told
returns-in_default-told c n x at = let g = c.loop-next.invariant.1 n x at in let now = c.in-Reading-More in
    let step = subst (λ (z : SeekState × Progress SeekEnd). SeekStepped n c.args.table.now x c.args.sought.now (Passing c.loop-next.before) z.0 c.loop-next.pass c.pass_row-told.new.pass z.1) (λ i. (now.is-0 i, now.is-1 i)) (c.pass_row-told.ensures n x g.0) in
    the_last SeekState (Progress SeekEnd) (SeekStepped n c.args.table.now x c.args.sought.now) seek_exchanges More _ _ _ _ _ _ _
    (one_more SeekState (Progress SeekEnd) (SeekStepped n c.args.table.now x c.args.sought.now) seek_exchanges More _ _ _ _ _ _ g.1 step refl) (c.read-told.ensures.stepped n x step.answers.0)

pub returns-in_default-told-2 : goal.returns-in_default-told-2
returns-in_default-told-2 c n x at = let g = c.loop-next.invariant.1 n x at in let now = c.in-Reading-More in
    let step = subst (λ (z : SeekState × Progress SeekEnd). SeekStepped n c.args.table.now x c.args.sought.now (Passing c.loop-next.before) z.0 c.loop-next.pass c.pass_row-told.new.pass z.1) (λ i. (now.is-0 i, now.is-1 i)) (c.pass_row-told.ensures n x g.0) in
    the_last SeekState (Progress SeekEnd) (SeekStepped n c.args.table.now x c.args.sought.now) seek_exchanges More _ _ _ _ _ _ _
    (one_more SeekState (Progress SeekEnd) (SeekStepped n c.args.table.now x c.args.sought.now) seek_exchanges More _ _ _ _ _ _ g.1 step refl) (c.read-told.ensures.stepped n x step.answers.0)

pub loop-next-smaller : goal.loop-next-smaller
loop-next-smaller c = let s = c.requires.seek in let g = c.loop-next.invariant.1 s.0 s.1 s.2 in let now = c.in-Reading-More in let then = c.in-Passing-More in let passing : c.read-told.result.0 ≡ Passing now.next = then.is-0 ∙ ap Passing ((c.read-told.ensures.same then.field-0-0).1 then.is-0) in
    let step = subst (λ (z : SeekState × Progress SeekEnd). SeekStepped s.0 c.args.table.now s.1 c.args.sought.now (Passing c.loop-next.before) z.0 c.loop-next.pass c.pass_row-told.new.pass z.1) (λ i. (now.is-0 i, now.is-1 i)) (c.pass_row-told.ensures s.0 s.1 g.0) in
    let next = subst (λ (z : SeekState × Progress SeekEnd). SeekStepped s.0 c.args.table.now s.1 c.args.sought.now (Reading now.next now.place) z.0 c.pass_row-told.new.pass c.read-told.new.pass z.1) (λ i. (passing i, then.is-1 i)) (c.read-told.ensures.stepped s.0 s.1 step.answers.0) in
    let first = fell false _ _ refl step.answers.1 in let second = fell false _ _ refl next.answers.1 in omega arith

pub loop-next-preserved : goal.loop-next-preserved
loop-next-preserved c = let s = c.requires.seek in let g = c.loop-next.invariant.1 in let now = c.in-Reading-More in let then = c.in-Passing-More in let passing : c.read-told.result.0 ≡ Passing now.next = then.is-0 ∙ ap Passing ((c.read-told.ensures.same then.field-0-0).1 then.is-0) in let table = c.args.table.now in let sought = c.args.sought.now in (
  (c.read-told.ensures.stepped s.0 s.1 (subst (λ (z : SeekState × Progress SeekEnd). SeekStepped s.0 table s.1 sought (Passing c.loop-next.before) z.0 c.loop-next.pass c.pass_row-told.new.pass z.1) (λ i. (now.is-0 i, now.is-1 i)) (c.pass_row-told.ensures s.0 s.1 (g s.0 s.1 s.2).0)).answers.0).is,
  λ n x at. let here = g n x at in
      let step = subst (λ (z : SeekState × Progress SeekEnd). SeekStepped n table x sought (Passing c.loop-next.before) z.0 c.loop-next.pass c.pass_row-told.new.pass z.1) (λ i. (now.is-0 i, now.is-1 i)) (c.pass_row-told.ensures n x here.0) in
      let next = subst (λ (z : SeekState × Progress SeekEnd). SeekStepped n table x sought (Reading now.next now.place) z.0 c.pass_row-told.new.pass c.read-told.new.pass z.1) (λ i. (passing i, then.is-1 i)) (c.read-told.ensures.stepped n x step.answers.0) in
      let on = one_more SeekState (Progress SeekEnd) (SeekStepped n table x sought) seek_exchanges More _ _ _ _ _ _ here.1 step refl in
      (next.answers.0, one_more SeekState (Progress SeekEnd) (SeekStepped n table x sought) seek_exchanges More _ _ _ _ _ _ on next refl),
)
