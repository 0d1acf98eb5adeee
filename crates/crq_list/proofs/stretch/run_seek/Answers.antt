use Rattle.crq_list.specs.Stretches.{ends}
use Rattle.crq_list.proofs.Stretching.{seek_holds}
use Rattle.crq_list.proofs.stretch.run_seek.Goals as goal

pub then_retire-told-requires-clause-of : goal.then_retire-told-requires-clause-of
then_retire-told-requires-clause-of c = let s = c.requires.seek in (seek_holds s.0 c.args.table.now s.1 c.args.sought.now _ _ _ _ _ (c.then_tag-told.ensures s.0 s.1 c.args.seek.now c.args.pass.now (ends _ _ _ _ _ (c.step-answer.ensures s.0 s.1 s.2)))).0

pub then_retire-told-requires-clause-seek : goal.then_retire-told-requires-clause-seek
then_retire-told-requires-clause-seek c more = let s = c.requires.seek in (s.0, s.1, (seek_holds s.0 c.args.table.now s.1 c.args.sought.now _ _ _ _ _ (c.then_tag-told.ensures s.0 s.1 c.args.seek.now c.args.pass.now (ends _ _ _ _ _ (c.step-answer.ensures s.0 s.1 s.2)))).1 more)

pub then_load-told-requires-clause-of : goal.then_load-told-requires-clause-of
then_load-told-requires-clause-of c = let s = c.requires.seek in (seek_holds s.0 c.args.table.now s.1 c.args.sought.now _ _ _ _ _ (c.then_retire-told.ensures s.0 s.1 c.args.seek.now c.args.pass.now (c.then_tag-told.ensures s.0 s.1 c.args.seek.now c.args.pass.now (ends _ _ _ _ _ (c.step-answer.ensures s.0 s.1 s.2))))).0

pub then_load-told-requires-clause-seek : goal.then_load-told-requires-clause-seek
then_load-told-requires-clause-seek c more = let s = c.requires.seek in (s.0, s.1, (seek_holds s.0 c.args.table.now s.1 c.args.sought.now _ _ _ _ _ (c.then_retire-told.ensures s.0 s.1 c.args.seek.now c.args.pass.now (c.then_tag-told.ensures s.0 s.1 c.args.seek.now c.args.pass.now (ends _ _ _ _ _ (c.step-answer.ensures s.0 s.1 s.2))))).1 more)

pub then_compare-told-requires-clause-of : goal.then_compare-told-requires-clause-of
then_compare-told-requires-clause-of c = let s = c.requires.seek in (seek_holds s.0 c.args.table.now s.1 c.args.sought.now _ _ _ _ _ (c.then_load-told.ensures s.0 s.1 c.args.seek.now c.args.pass.now (c.then_retire-told.ensures s.0 s.1 c.args.seek.now c.args.pass.now (c.then_tag-told.ensures s.0 s.1 c.args.seek.now c.args.pass.now (ends _ _ _ _ _ (c.step-answer.ensures s.0 s.1 s.2)))))).0

pub then_compare-told-requires-clause-seek : goal.then_compare-told-requires-clause-seek
then_compare-told-requires-clause-seek c more = let s = c.requires.seek in (s.0, s.1, (seek_holds s.0 c.args.table.now s.1 c.args.sought.now _ _ _ _ _ (c.then_load-told.ensures s.0 s.1 c.args.seek.now c.args.pass.now (c.then_retire-told.ensures s.0 s.1 c.args.seek.now c.args.pass.now (c.then_tag-told.ensures s.0 s.1 c.args.seek.now c.args.pass.now (ends _ _ _ _ _ (c.step-answer.ensures s.0 s.1 s.2)))))).1 more)

pub then_pass-after-requires-clause-of : goal.then_pass-after-requires-clause-of
then_pass-after-requires-clause-of c = let s = c.requires.seek in (seek_holds s.0 c.args.table.now s.1 c.args.sought.now _ _ _ _ _ (c.then_compare-told.ensures s.0 s.1 c.args.seek.now c.args.pass.now (c.then_load-told.ensures s.0 s.1 c.args.seek.now c.args.pass.now (c.then_retire-told.ensures s.0 s.1 c.args.seek.now c.args.pass.now (c.then_tag-told.ensures s.0 s.1 c.args.seek.now c.args.pass.now (ends _ _ _ _ _ (c.step-answer.ensures s.0 s.1 s.2))))))).0

pub then_pass-after-requires-clause-seek : goal.then_pass-after-requires-clause-seek
then_pass-after-requires-clause-seek c more = let s = c.requires.seek in (s.0, s.1, (seek_holds s.0 c.args.table.now s.1 c.args.sought.now _ _ _ _ _ (c.then_compare-told.ensures s.0 s.1 c.args.seek.now c.args.pass.now (c.then_load-told.ensures s.0 s.1 c.args.seek.now c.args.pass.now (c.then_retire-told.ensures s.0 s.1 c.args.seek.now c.args.pass.now (c.then_tag-told.ensures s.0 s.1 c.args.seek.now c.args.pass.now (ends _ _ _ _ _ (c.step-answer.ensures s.0 s.1 s.2))))))).1 more)

pub returns : goal.returns
returns c n x at = c.then_pass-after.ensures n x c.args.seek.now c.args.pass.now (c.then_compare-told.ensures n x c.args.seek.now c.args.pass.now (c.then_load-told.ensures n x c.args.seek.now c.args.pass.now (c.then_retire-told.ensures n x c.args.seek.now c.args.pass.now (c.then_tag-told.ensures n x c.args.seek.now c.args.pass.now (ends _ _ _ _ _ (c.step-answer.ensures n x at))))))
