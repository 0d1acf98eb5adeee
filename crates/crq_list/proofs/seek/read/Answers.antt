use Rattle.std.proofs.Common.{◌≡◌, ◌<◌, ℕ, inl, inr, ◌∙◌, sym, subst, arith}
use Rattle.crq_list.proofs.SeekSteps.{reads_next, reads_up, reads_past}
use Rattle.crq_list.proofs.seek.read.Goals as goal

pub returns-then-found-wanted-clause-stepped : goal.returns-then-found-wanted-clause-stepped
returns-then-found-wanted-clause-stepped c = λ n x at. reads_up n c.args.table.now x c.args.sought.now c.args.pass.now c.read_step.new.pass c.args.before c.args.place c.read_step.result (c.in-Some.event, c.in-Some.row) c.in-Some.is
    c.requires.of c.read_step.ensures.stepped c.read_step.ensures.word at (inl (subst (λ (z : ℕ × ℕ). z.0 < z.1) (λ i. (c.part_of-found.ensures i, c.key_part-wanted.ensures i)) c.if-found-wanted.true))

pub returns-then-found-wanted-2-clause-stepped : goal.returns-then-found-wanted-2-clause-stepped
returns-then-found-wanted-2-clause-stepped c = λ n x at. reads_past n c.args.table.now x c.args.sought.now c.args.pass.now c.read_step.new.pass c.args.before c.args.place c.read_step.result (c.in-Some.event, c.in-Some.row) c.in-Some.is
    c.requires.of c.read_step.ensures.stepped c.read_step.ensures.word at (inl (subst (λ (z : ℕ × ℕ). z.0 < z.1) (λ i. (c.key_part-wanted.ensures i, c.part_of-found.ensures i)) c.if-found-wanted-2.true))

pub returns-then-place-lt4-clause-stepped : goal.returns-then-place-lt4-clause-stepped
returns-then-place-lt4-clause-stepped c = let same : c.part_of-found.result ≡ c.key_part-wanted.result = omega arith in λ n x at.
    reads_next n c.args.table.now x c.args.sought.now c.args.pass.now c.read_step.new.pass c.args.before c.args.place c.read_step.result (c.in-Some.event, c.in-Some.row) c.in-Some.is
    c.requires.of c.read_step.ensures.stepped c.read_step.ensures.word at (sym c.part_of-found.ensures ∙ (same ∙ c.key_part-wanted.ensures)) c.if-place-lt4.true

pub returns-then-before-row-clause-stepped : goal.returns-then-before-row-clause-stepped
returns-then-before-row-clause-stepped c = let same : c.part_of-found.result ≡ c.key_part-wanted.result = omega arith in λ n x at.
    reads_up n c.args.table.now x c.args.sought.now c.args.pass.now c.read_step.new.pass c.args.before c.args.place c.read_step.result (c.in-Some.event, c.in-Some.row) c.in-Some.is
    c.requires.of c.read_step.ensures.stepped c.read_step.ensures.word at (inr (sym c.part_of-found.ensures ∙ (same ∙ c.key_part-wanted.ensures), c.if-place-lt4.false, c.if-before-row.true))

pub returns-clause-stepped : goal.returns-clause-stepped
returns-clause-stepped c = let same : c.part_of-found.result ≡ c.key_part-wanted.result = omega arith in λ n x at.
    reads_past n c.args.table.now x c.args.sought.now c.args.pass.now c.read_step.new.pass c.args.before c.args.place c.read_step.result (c.in-Some.event, c.in-Some.row) c.in-Some.is
    c.requires.of c.read_step.ensures.stepped c.read_step.ensures.word at (inr (sym c.part_of-found.ensures ∙ (same ∙ c.key_part-wanted.ensures), c.if-place-lt4.false, omega arith))

pub returns-then-found-wanted-clause-same : goal.returns-then-found-wanted-clause-same
returns-then-found-wanted-clause-same c other = (λ next is. cc, λ is. cc)

pub returns-then-found-wanted-2-clause-same : goal.returns-then-found-wanted-2-clause-same
returns-then-found-wanted-2-clause-same c other = (λ next is. cc, λ is. cc)

pub returns-then-place-lt4-clause-same : goal.returns-then-place-lt4-clause-same
returns-then-place-lt4-clause-same c other = (λ next is. cc, λ is. cc)

pub returns-then-before-row-clause-same : goal.returns-then-before-row-clause-same
returns-then-before-row-clause-same c other = (λ next is. cc, λ is. cc)

pub returns-clause-same : goal.returns-clause-same
returns-clause-same c other = (λ next is. cc, λ is. cc)
