use Rattle.crq_list.specs.declared.seek.SeekState.TheVariants.{Load, Reading, Passing, Cutting, Tagging, Retiring}
use Rattle.crq_list.proofs.SeekSteps.{step_as}
use Rattle.crq_list.proofs.seek.SeekState.step.Goals as goal

pub returns-in-Load : goal.returns-in-Load
returns-in-Load c = step_as c.args.table.now c.args.sought.now c.args.pass.now c.load.new.pass c.args.self.now (Load c.in-Load.spot) c.load.result.0 c.load.result.1 c.in-Load.is c.load.ensures

pub returns-in-Reading : goal.returns-in-Reading
returns-in-Reading c = step_as c.args.table.now c.args.sought.now c.args.pass.now c.read.new.pass c.args.self.now (Reading c.in-Reading.before c.in-Reading.place) c.read.result.0 c.read.result.1 c.in-Reading.is c.read.ensures.stepped

pub returns-in-Passing : goal.returns-in-Passing
returns-in-Passing c = step_as c.args.table.now c.args.sought.now c.args.pass.now c.pass_row.new.pass c.args.self.now (Passing c.in-Passing.before) c.pass_row.result.0 c.pass_row.result.1 c.in-Passing.is c.pass_row.ensures

pub returns-in-Cutting : goal.returns-in-Cutting
returns-in-Cutting c = step_as c.args.table.now c.args.sought.now c.args.pass.now c.cut_row.new.pass c.args.self.now (Cutting c.in-Cutting.before c.in-Cutting.last) c.cut_row.result.0 c.cut_row.result.1 c.in-Cutting.is c.cut_row.ensures

pub returns-in-Tagging : goal.returns-in-Tagging
returns-in-Tagging c = step_as c.args.table.now c.args.sought.now c.args.pass.now c.tag.new.pass c.args.self.now (Tagging c.in-Tagging.spot c.in-Tagging.row) c.tag.result.0 c.tag.result.1 c.in-Tagging.is c.tag.ensures

pub returns-in-Retiring : goal.returns-in-Retiring
returns-in-Retiring c = step_as c.args.table.now c.args.sought.now c.args.pass.now c.retire.new.pass c.args.self.now (Retiring c.in-Retiring.spot c.in-Retiring.row c.in-Retiring.epoch) c.retire.result.0 c.retire.result.1 c.in-Retiring.is c.retire.ensures
