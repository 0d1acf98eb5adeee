use Rattle.std.proofs.Common.{◌≡◌, ◌+◌, ◌++◌, ◌∷◌, [], length, Err, sym, ap, ◌∙◌, arith, length-append, rules}
use Rattle.serde_json.specs.View.{view}
use Rattle.crq_reader.specs.Language.{told, in_object, next_named, named_objects}
use Rattle.crq_reader.specs.Drafts.{named_seen, header_seen, flaw_seen}
use Rattle.crq_reader.proofs.EachLaws.{each_next, each_fault, each_end}
use Rattle.crq_reader.proofs.FaultLaws.{fault_told}
use Rattle.crq_reader.proofs.ReadLaws.{named_tells}
use Rattle.crq_reader.proofs.objects.read_objects.Goals as goal

pub returns-in-Err-clause-err : goal.returns-in-Err-clause-err
returns-in-Err-clause-err c =
    let h = header_seen c.args.header.now in
    let k = length c.loop-value.drafts + 1 in
    let flaw = flaw_seen c.in-Err.flaw in
    let fault =
    each_fault (next_named h) view c.loop-value.drafts c.args.header.now.objects.now c.loop-value.value-index c.value-item.result (in_object k flaw) c.loop-value-test.true c.value-item.is
    (ap (told (in_object k)) (sym c.in-Err.ensures)) in
    let first : named_objects h ≡ Err (in_object (c.len-k.result + 1) flaw) = sym c.loop-value.invariant.rest ∙ fault ∙ ap (λ n. Err (in_object (n + 1) flaw)) (sym c.len-k.ensures.len) in
    fault_told c.in_object.result _ (named_objects h) c.in_object.ensures.told first

pub push-requires-clause-named : goal.push-requires-clause-named
push-requires-clause-named c = (named_tells (header_seen c.args.header.now) c.loop-value.drafts (view c.value-item.result) (named_seen c.in-Ok.draft) (sym c.in-Ok.ensures)).named

pub push-requires-clause-new : goal.push-requires-clause-new
push-requires-clause-new c = (named_tells (header_seen c.args.header.now) c.loop-value.drafts (view c.value-item.result) (named_seen c.in-Ok.draft) (sym c.in-Ok.ensures)).new

pub loop-value-preserved : goal.loop-value-preserved
loop-value-preserved c =
    let k = length c.loop-value.drafts + 1 in
    let next =
    each_next (next_named (header_seen c.args.header.now)) view c.loop-value.drafts c.args.header.now.objects.now c.loop-value.value-index c.value-item.result (named_seen c.in-Ok.draft) c.loop-value-test.true c.value-item.is
    (ap (told (in_object k)) (sym c.in-Ok.ensures)) in
    let pushed : c.push.new.self ≡ c.loop-value.drafts ++ named_seen c.in-Ok.draft ∷ [] = search rules in
    record {
      read = omega (arith, ap length pushed, length-append c.loop-value.drafts (named_seen c.in-Ok.draft ∷ []));
      rest = rw pushed (next ∙ c.loop-value.invariant.rest);
    }

pub returns-clause-ok : goal.returns-clause-ok
returns-clause-ok c =
    sym c.loop-value.invariant.rest ∙ each_end (next_named (header_seen c.args.header.now)) view c.loop-value.drafts c.args.header.now.objects.now c.loop-value.value-index c.loop-value-test.false
