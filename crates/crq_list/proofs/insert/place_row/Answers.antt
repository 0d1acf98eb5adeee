use Rattle.std.proofs.Common.{refl, sym, ap, ◌∙◌}
use Rattle.crq_base.specs.Words.{link_word}
use Rattle.crq_rule.specs.ListKinds.{new_link}
use Rattle.crq_list.proofs.InsertLaws.{writes_link}
use Rattle.crq_list.proofs.insert.place_row.Goals as goal

pub write_step-requires-clause-spelled : goal.write_step-requires-clause-spelled
write_step-requires-clause-spelled c = let bits = c.requires.op.2.at.0.passed.bits in (new_link (record c.args.before.link { mark = c.mark.result }), record { generation = bits.generation; row = bits.row }, refl, sym c.pack-word.ensures)

pub returns : goal.returns
returns c n x i = writes_link n c.args.table.now x c.args.op.now c.args.pass.now c.write_step.new.pass c.args.before c.pack-word.result (c.pack-word.ensures ∙ ap (λ m. link_word (record c.args.before.link { mark = m })) c.mark.ensures) c.requires.of i c.write_step.ensures
