use Rattle.std.proofs.Common.{◌++◌, ◌∷◌, [], length, ap, ◌∙◌, arith}
use Rattle.std.proofs.lemmas.List.{length-map}
use Rattle.crq_reader.specs.Drafts.{named_seen}
use Rattle.crq_reader.proofs.DraftLaws.{pushed}
use Rattle.crq_reader.proofs.drafts.Drafts.push.Goals as goal

pub invariant_of-self-2 : goal.invariant_of-self-2
invariant_of-self-2 c =
    let items = c.self.inside.objects.items in
    let same = ap length c.self.view_is in
    pushed c.self.inside.numbers c.insert.new.self items _ c.args.draft _
    (c.push_reserved.ensures.items ∙ ap (λ xs. xs ++ c.args.draft ∷ []) c.reserve.ensures.items) (omega (arith, length-map items named_seen))
    (omega (arith, length-map items named_seen)) c.self.invariant.0 c.self.invariant.1 c.requires.named (cc) c.in_ok-insert.ensures.updates
