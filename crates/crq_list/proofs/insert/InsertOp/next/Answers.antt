use Rattle.std.proofs.Common.{refl}
use Rattle.crq_list.specs.declared.insert.InsertState.TheVariants.{Seeking, Placing, Linking}
use Rattle.crq_list.specs.Stretches.{ends}
use Rattle.crq_list.proofs.Stretching.{insert_from}
use Rattle.crq_list.proofs.insert.InsertOp.next.Goals as goal

pub returns-in-Seeking : goal.returns-in-Seeking
returns-in-Seeking c n x i = insert_from n c.args.table.now x c.args.self.now (Seeking c.in-Seeking.seek) c.args.pass.now c.seek_place.new.pass _ c.seek_place.result _ c.in-Seeking.is refl refl (λ at. ends _ _ _ _ _ (c.seek_place.ensures n x at)) i

pub returns-in-Placing : goal.returns-in-Placing
returns-in-Placing c n x i = insert_from n c.args.table.now x c.args.self.now (Placing c.in-Placing.before) c.args.pass.now c.place_row.new.pass _ c.place_row.result _ c.in-Placing.is refl refl (λ at. ends _ _ _ _ _ (c.place_row.ensures n x at)) i

pub returns-in-Linking : goal.returns-in-Linking
returns-in-Linking c n x i = insert_from n c.args.table.now x c.args.self.now (Linking c.in-Linking.before) c.args.pass.now c.link_row.new.pass _ c.link_row.result _ c.in-Linking.is refl refl (λ at. ends _ _ _ _ _ (c.link_row.ensures n x at)) i
