use Rattle.std.proofs.Common.{subst}
use Rattle.crq_base.specs.declared.kinds.StepKind.TheVariants.{Validate}
use Rattle.crq_base.specs.Words.{link_word}
use Rattle.crq_rule.specs.Places.{index, link}
use Rattle.crq_rule.specs.CopyKinds.{valid_link, validates}
use Rattle.crq_move.specs.Steps.{WordLeft}
use Rattle.crq_move.proofs.TwinLaws.{may_validate, validate_won, validate_lost}
use Rattle.crq_move.proofs.empty.MoveOp.validate.Goals as goal

pub validate_step-requires-clause-may : goal.validate_step-requires-clause-may
validate_step-requires-clause-may c = let o = c.requires.op in may_validate o.0 c.args.table.now o.1 c.args.self.now c.args.pass.now c.args.pass.now c.requires.of o.2 c.args.head c.args.last c.args.twin c.args.link c.requires.state

pub returns-then-validate_step : goal.returns-then-validate_step
returns-then-validate_step c n x at = let s = c.validate_step in let table = c.args.table.now in let old = c.args.pass.now in let t = c.args.twin in let l = c.args.link in
    let left = subst (WordLeft Validate table old s.new.pass (index table.start.layout (link t)) (link_word l) (link_word (valid_link l)) (validates t l) old.debts) c.if-validate_step.true s.ensures in
    validate_won n table x c.args.self.now old s.new.pass c.requires.of at c.args.head c.args.last t l c.requires.state c.requires.room left

pub returns-else-validate_step : goal.returns-else-validate_step
returns-else-validate_step c n x at = let s = c.validate_step in let table = c.args.table.now in let old = c.args.pass.now in let t = c.args.twin in let l = c.args.link in
    let left = subst (WordLeft Validate table old s.new.pass (index table.start.layout (link t)) (link_word l) (link_word (valid_link l)) (validates t l) old.debts) c.if-validate_step.false s.ensures in
    validate_lost n table x c.args.self.now old s.new.pass c.requires.of at c.args.head c.args.last t l c.requires.state c.requires.room left
