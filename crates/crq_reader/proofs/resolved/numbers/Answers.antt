use Rattle.std.proofs.Common.{◌≡◌, ◌++◌, ◌∷◌, [], List, ℕ, inr, sym, ◌∙◌, rules}
use Rattle.serde_json.specs.Find.{as_str}
use Rattle.serde_json.specs.View.{view}
use Rattle.crq_reader.specs.Drafts.{flaw_seen}
use Rattle.crq_reader.specs.Language.{known, names_of}
use Rattle.crq_reader.specs.declared.member.Member.TheVariants.{Targets}
use Rattle.crq_reader.proofs.EachLaws.{kept_next, kept_fault, kept_end}
use Rattle.crq_reader.proofs.resolved.numbers.Goals as goal

pub returns-in-Err-clause-err : goal.returns-in-Err-clause-err
returns-in-Err-clause-err c =
    let step = λ (_ : List ℕ) (t : List ℕ). known Targets (names_of c.args.drafts.now) t in
    inr (sym c.loop-value.invariant
    ∙ kept_fault step as_str view c.loop-value.numbers.items c.args.names.now c.loop-value.value-index c.value-item.result c.in-Some.name.now (flaw_seen c.in-Err.flaw) c.loop-value-test.true c.value-item.is
    (sym c.in-Some.ensures) (sym c.in-Err.ensures))

pub loop-value-preserved : goal.loop-value-preserved
loop-value-preserved c =
    let step = λ (_ : List ℕ) (t : List ℕ). known Targets (names_of c.args.drafts.now) t in
    let pushed : c.push.new.self.items ≡ c.loop-value.numbers.items ++ c.in-Ok.number ∷ [] = search rules in
    rw pushed
    (kept_next step as_str view c.loop-value.numbers.items c.args.names.now c.loop-value.value-index c.value-item.result c.in-Some.name.now c.in-Ok.number c.loop-value-test.true c.value-item.is
    (sym c.in-Some.ensures) (sym c.in-Ok.ensures) ∙ c.loop-value.invariant)

pub returns-clause-ok : goal.returns-clause-ok
returns-clause-ok c =
    let step = λ (_ : List ℕ) (t : List ℕ). known Targets (names_of c.args.drafts.now) t in
    sym c.loop-value.invariant ∙ kept_end step as_str view c.loop-value.numbers.items c.args.names.now c.loop-value.value-index c.loop-value-test.false
