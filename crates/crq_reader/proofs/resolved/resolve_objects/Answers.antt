use Rattle.std.proofs.Common.{◌≡◌, ◌+◌, ◌++◌, ◌∷◌, [], length, Err, sym, ap, ◌∙◌, arith, length-append, rules}
use Rattle.crq_reader.specs.Language.{told, in_object, next_object, names_of, object_of, objects_of}
use Rattle.crq_reader.specs.Drafts.{named_seen, flaw_seen}
use Rattle.crq_reader.proofs.DraftLaws.{named_at}
use Rattle.crq_reader.proofs.EachLaws.{each_next, each_fault, each_end}
use Rattle.crq_reader.proofs.FaultLaws.{flaw_told}
use Rattle.crq_reader.proofs.resolved.resolve_objects.Goals as goal

pub object-requires : goal.object-requires
object-requires c =
    named_at c.args.drafts.now c.as_slice-draft-items.result.now c.loop-draft.draft-index c.draft-item.result c.as_slice-draft-items.ensures.value c.as_slice-draft-items.ensures.named c.loop-draft-test.true c.draft-item.is

pub returns-in-Err-clause-err : goal.returns-in-Err-clause-err
returns-in-Err-clause-err c =
    let names = names_of c.args.drafts.now in
    let k = length c.loop-draft.objects.items + 1 in
    let flaw = flaw_seen c.in-Err.flaw in
    let count : c.len.result ≡ length c.loop-draft.objects.items = c.len.ensures ∙ c.loop-draft.objects.ok.0 in
    flaw_told c.in_object.result (in_object (c.len.result + 1)) c.in-Err.flaw (object_of names (named_seen c.draft-item.result)) (objects_of c.args.drafts.now) c.in_object.ensures.told c.in_object.ensures.memory c.in-Err.ensures.err
    (λ first.
    sym c.loop-draft.invariant.rest
    ∙ each_fault (next_object names) named_seen c.loop-draft.objects.items c.as_slice-draft-items.result.now c.loop-draft.draft-index c.draft-item.result (in_object k flaw)
    c.loop-draft-test.true c.draft-item.is (ap (told (in_object k)) first)
    ∙ ap (λ n. Err (in_object (n + 1) flaw)) (sym count))

pub loop-draft-preserved : goal.loop-draft-preserved
loop-draft-preserved c =
    let k = length c.loop-draft.objects.items + 1 in
    let next =
    each_next (next_object (names_of c.args.drafts.now)) named_seen c.loop-draft.objects.items c.as_slice-draft-items.result.now c.loop-draft.draft-index c.draft-item.result c.in-Ok.object
    c.loop-draft-test.true c.draft-item.is (ap (told (in_object k)) c.in-Ok.ensures.ok) in
    let pushed : c.push.new.self.items ≡ c.loop-draft.objects.items ++ c.in-Ok.object ∷ [] = search rules in
    record {
      read = omega (arith, ap length pushed, length-append c.loop-draft.objects.items (c.in-Ok.object ∷ []));
      rest = rw pushed (next ∙ c.loop-draft.invariant.rest);
    }

pub returns-clause-ok : goal.returns-clause-ok
returns-clause-ok c =
    sym c.loop-draft.invariant.rest
    ∙ each_end (next_object (names_of c.args.drafts.now)) named_seen c.loop-draft.objects.items c.as_slice-draft-items.result.now c.loop-draft.draft-index c.loop-draft-test.false
