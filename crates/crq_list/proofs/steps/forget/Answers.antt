use Rattle.std.proofs.Common.{◌≡◌, ◌<◌, OnSome, slice_index, length, remove, sym, ap, ◌∙◌, subst, arith}
use Rattle.std.proofs.lemmas.Grind.{get_or_default_zero}
use Rattle.crq_rule.specs.ListKinds.{unhanded}
use Rattle.crq_list.proofs.StepLaws.{unhanded_at, unhanded_none}
use Rattle.crq_list.proofs.steps.forget.Goals as goal

pub returns-then-index-row-clause-items : goal.returns-then-index-row-clause-items
returns-then-index-row-clause-items c = let loop = c.loop-at.invariant in let xs = c.loop-at.free.items in let at = c.loop-at.at in let row = c.args.row in
    let inside : at < length xs = subst (λ n. at < n) loop.1 c.loop-at-test.true in
    let some = c.remove.ensures.succeeds 0 (subst (λ n. at < n) (c.len-at-end.ensures ∙ sym (ap (λ q. q.len) loop.0)) c.loop-at-test.true) in
    let gone : c.remove.new.self.items ≡ remove xs at = subst (λ z. OnSome z (c.remove.new.self.items ≡ remove xs at)) some c.remove.ensures.items in
    let is : slice_index xs at ≡ row = sym (get_or_default_zero xs at c.index.result.now inside) ∙ (sym c.index.ensures ∙ c.if-index-row.true) in
    gone ∙ (sym (unhanded_at row xs at loop.2 inside is) ∙ ap (λ q. unhanded row q.items) loop.0)

pub returns-clause-items : goal.returns-clause-items
returns-clause-items c = let loop = c.loop-at.invariant in let xs = c.loop-at.free.items in let row = c.args.row in let end = loop.1 in let past = c.loop-at-test.false in
    sym (unhanded_none row xs (λ k b. loop.2 k (omega arith))) ∙ ap (λ q. unhanded row q.items) loop.0
