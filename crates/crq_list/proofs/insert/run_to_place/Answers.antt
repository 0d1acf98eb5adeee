use Rattle.std.proofs.Common.{sym, subst}
use Rattle.crq_list.specs.declared.parts.Progress.{Progress}
use Rattle.crq_list.specs.declared.insert.InsertEnd.{InsertEnd}
use Rattle.crq_list.specs.declared.insert.InsertState.{InsertState}
use Rattle.crq_list.specs.declared.insert.InsertState.TheVariants.{Seeking}
use Rattle.crq_list.specs.Inserting.{InsertStretch}
use Rattle.crq_list.proofs.Stretching.{insert_stretch}
use Rattle.crq_list.proofs.insert.run_to_place.Goals as goal

pub returns : goal.returns
returns c n x i = let op = c.args.op.now in let told = insert_stretch n c.args.table.now x op c.args.seek c.run_seek-walked.new.seek c.args.pass.now c.run_seek-walked.new.pass c.run_seek-walked.result c.requires.of i (c.run_seek-walked.ensures n x i.at.0) in
    subst (λ (z : InsertState × Progress InsertEnd). InsertStretch n c.args.table.now x (record op { state = Seeking c.args.seek }) (record op { state = z.0 }) c.args.pass.now c.run_seek-walked.new.pass z.1) (sym c.after_seek.ensures) told
