use Rattle.crq_rule.specs.Places.{index}
use Rattle.crq_rule.specs.ListKinds.{row_place}
use Rattle.crq_list.proofs.InsertLaws.{spelled, writes_next, writes_last}
use Rattle.crq_list.proofs.insert.write_word.Goals as goal

pub write_step-requires-clause-spelled : goal.write_step-requires-clause-spelled
write_step-requires-clause-spelled c = let i = c.requires.op.2 in spelled c.args.op.now.event c.args.place c.word_at-word.result i.event i.at.1 i.at.2 c.word_at-word.ensures

pub returns-then-place-lt5 : goal.returns-then-place-lt5
returns-then-place-lt5 c n x i = writes_next n c.args.table.now x c.args.op.now c.args.pass.now c.write_step.new.pass c.requires.of c.args.place c.word_at-word.result
    (index c.args.table.now.start.layout (row_place c.args.op.now.row c.args.place)) c.word_at-word.ensures i c.write_step.ensures c.if-place-lt5.true

pub returns-else-place-lt5 : goal.returns-else-place-lt5
returns-else-place-lt5 c n x i = writes_last n c.args.table.now x c.args.op.now c.args.pass.now c.write_step.new.pass c.requires.of c.args.place c.word_at-word.result
    (index c.args.table.now.start.layout (row_place c.args.op.now.row c.args.place)) c.word_at-word.ensures i c.write_step.ensures c.if-place-lt5.false
