use Rattle.std.proofs.Common.{◌≡◌, ◌+◌, ◌++◌, ◌∷◌, [], length, Err, sym, ap, ap₂, ◌∙◌, arith, length-append, rules}
use Rattle.std.proofs.lemmas.List.{length-map}
use Rattle.serde_json.specs.View.{view}
use Rattle.crq_reader.specs.Language.{told, in_start, next_start, names_of, starts_of, Named}
use Rattle.crq_reader.specs.Drafts.{header_seen, flaw_seen}
use Rattle.crq_reader.proofs.EachLaws.{each_next, each_fault, each_end}
use Rattle.crq_reader.proofs.FaultLaws.{fault_told}
use Rattle.crq_reader.proofs.starts.read_starts.Goals as goal

pub returns-in-Err-clause-err : goal.returns-in-Err-clause-err
returns-in-Err-clause-err c =
    let names = names_of c.args.drafts.now in
    let h = header_seen c.args.header.now in
    let flaw = flaw_seen c.in-Err.flaw in
    let i = length c.loop-value.starts.items + 1 in
    let objects = length names in
    let count : c.len.result + 1 ≡ i = ap (λ n. n + 1) (c.len.ensures ∙ c.loop-value.starts.ok.0) in
    let all : c.len-in-Err.result ≡ objects = c.len-in-Err.ensures.len ∙ sym (length-map c.args.drafts.now (λ (o : Named). o.name)) in
    let fault =
    each_fault (next_start names) view c.loop-value.starts.items c.args.header.now.starts.now c.loop-value.value-index c.value-item.result (in_start objects i flaw)
    c.loop-value-test.true c.value-item.is (ap (told (in_start objects i)) (sym c.in-Err.ensures)) in
    let first : starts_of h names ≡ Err (in_start c.len-in-Err.result (c.len.result + 1) flaw) = sym c.loop-value.invariant.rest ∙ fault ∙ sym (ap₂ (λ n k. Err (in_start n k flaw)) all count) in
    fault_told c.in_start.result _ (starts_of h names) c.in_start.ensures first

pub loop-value-preserved : goal.loop-value-preserved
loop-value-preserved c =
    let i = length c.loop-value.starts.items + 1 in
    let objects = length (names_of c.args.drafts.now) in
    let next =
    each_next (next_start (names_of c.args.drafts.now)) view c.loop-value.starts.items c.args.header.now.starts.now c.loop-value.value-index c.value-item.result c.in-Ok.start
    c.loop-value-test.true c.value-item.is (ap (told (in_start objects i)) (sym c.in-Ok.ensures)) in
    let pushed : c.push.new.self.items ≡ c.loop-value.starts.items ++ c.in-Ok.start ∷ [] = search rules in
    record {
      read = omega (arith, ap length pushed, length-append c.loop-value.starts.items (c.in-Ok.start ∷ []));
      rest = rw pushed (next ∙ c.loop-value.invariant.rest);
    }

pub returns-clause-ok : goal.returns-clause-ok
returns-clause-ok c =
    sym c.loop-value.invariant.rest ∙ each_end (next_start (names_of c.args.drafts.now)) view c.loop-value.starts.items c.args.header.now.starts.now c.loop-value.value-index c.loop-value-test.false
