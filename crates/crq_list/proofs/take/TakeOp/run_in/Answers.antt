use Rattle.crq_list.specs.declared.take.TakeState.TheVariants.{Load, Reading, Marking}
use Rattle.crq_list.specs.Stretches.{ends}
use Rattle.crq_list.proofs.Stretching.{take_from}
use Rattle.std.proofs.Common.{refl}
use Rattle.crq_list.proofs.take.TakeOp.run_in.Goals as goal

pub returns-in-Reading : goal.returns-in-Reading
returns-in-Reading c n x i = let b = c.in-Reading in take_from n c.args.table.now x c.args.self.now (Reading b.row b.link b.place b.event b.first) c.args.pass.now _ _ c.read_event.result _ b.is refl refl (c.read_event.ensures n x) i

pub returns-in-Marking : goal.returns-in-Marking
returns-in-Marking c n x i = let b = c.in-Marking in take_from n c.args.table.now x c.args.self.now (Marking b.row b.link b.event b.first) c.args.pass.now _ _ (Load, c.mark-told.result) _ b.is refl refl (λ t. ends _ _ _ _ _ (c.mark-told.ensures n x t)) i
