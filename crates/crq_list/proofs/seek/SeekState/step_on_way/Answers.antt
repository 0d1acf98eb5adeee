use Rattle.crq_list.specs.declared.seek.SeekState.TheVariants.{Passing, Cutting, Tagging, Retiring}
use Rattle.crq_list.proofs.SeekSteps.{step_as}
use Rattle.crq_list.proofs.seek.SeekState.step_on_way.Goals as goal

pub returns-in-Passing : goal.returns-in-Passing
returns-in-Passing c = step_as c.args.table.now c.args.sought.now c.args.pass.now c.pass_row.new.pass c.args.self.now (Passing c.in-Passing.before) c.pass_row.result.0 c.pass_row.result.1 c.in-Passing.is c.pass_row.ensures

pub returns-in-Cutting : goal.returns-in-Cutting
returns-in-Cutting c = step_as c.args.table.now c.args.sought.now c.args.pass.now c.cut_row.new.pass c.args.self.now (Cutting c.in-Cutting.before c.in-Cutting.last) c.cut_row.result.0 c.cut_row.result.1 c.in-Cutting.is c.cut_row.ensures

pub returns-in-Tagging : goal.returns-in-Tagging
returns-in-Tagging c = step_as c.args.table.now c.args.sought.now c.args.pass.now c.tag.new.pass c.args.self.now (Tagging c.in-Tagging.spot c.in-Tagging.row) c.tag.result.0 c.tag.result.1 c.in-Tagging.is c.tag.ensures

pub returns-in-Retiring : goal.returns-in-Retiring
returns-in-Retiring c = step_as c.args.table.now c.args.sought.now c.args.pass.now c.retire.new.pass c.args.self.now (Retiring c.in-Retiring.spot c.in-Retiring.row c.in-Retiring.epoch) c.retire.result.0 c.retire.result.1 c.in-Retiring.is c.retire.ensures
