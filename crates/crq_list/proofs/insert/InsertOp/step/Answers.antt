use Rattle.crq_list.specs.declared.insert.InsertState.TheVariants.{Writing, Seeking, Placing, Linking}
use Rattle.crq_list.proofs.InsertLaws.{steps_from}
use Rattle.crq_list.proofs.insert.InsertOp.step.Goals.{in-Writing, in-Seeking, in-Placing, in-Linking}
use Rattle.crq_list.proofs.insert.InsertOp.step.Goals as goal

pub returns : goal.returns
returns c n x i = let t = c.args.table.now in let op = c.args.self.now in let old = c.args.pass.now in let new' = c.match-self.pass in let r' = c.match-self.state in elim c.match-self.branch [
  | in-Writing w ↦ steps_from n t x op (Writing w.in-Writing.place) old w.write_word.new.pass new' w.write_word.result r' w.in-Writing.is w.pass-is w.state-is (w.write_word.ensures n x) i
  | in-Seeking w ↦ steps_from n t x op (Seeking w.in-Seeking.seek) old w.seek_place.new.pass new' w.seek_place.result r' w.in-Seeking.is w.pass-is w.state-is (w.seek_place.ensures n x) i
  | in-Placing w ↦ steps_from n t x op (Placing w.in-Placing.before) old w.place_row.new.pass new' w.place_row.result r' w.in-Placing.is w.pass-is w.state-is (w.place_row.ensures n x) i
  | in-Linking w ↦ steps_from n t x op (Linking w.in-Linking.before) old w.link_row.new.pass new' w.link_row.result r' w.in-Linking.is w.pass-is w.state-is (w.link_row.ensures n x) i
]
