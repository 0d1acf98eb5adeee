use Rattle.std.proofs.Common.{sym, subst}
use Rattle.crq_list.specs.declared.parts.Progress.{Progress}
use Rattle.crq_list.specs.declared.insert.InsertEnd.{InsertEnd}
use Rattle.crq_list.specs.declared.insert.InsertState.{InsertState}
use Rattle.crq_list.specs.declared.insert.InsertState.TheVariants.{Seeking}
use Rattle.crq_list.specs.Inserting.{InsertStepped}
use Rattle.crq_list.proofs.Stretching.{seek_told}
use Rattle.crq_list.proofs.insert.seek_place.Goals as goal

pub returns : goal.returns
returns c n x i = let op = c.args.op.now in let told = seek_told n c.args.table.now x op c.args.seek c.step-walked.new.self c.args.pass.now c.step-walked.new.pass c.step-walked.result c.requires.of i (c.step-walked.ensures n x i.at.0) in
    subst (λ (z : InsertState × Progress InsertEnd). InsertStepped n c.args.table.now x (record op { state = Seeking c.args.seek }) (record op { state = z.0 }) c.args.pass.now c.step-walked.new.pass z.1) (sym c.after_seek.ensures) told
