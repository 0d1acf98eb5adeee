use Rattle.std.proofs.Common.{[], arith, refl, ap, sym, subst, ◌++◌, ◌∷◌, ◌∙◌}
use Rattle.std.proofs.lemmas.List.{with_items_is}
use Rattle.crq_host.specs.Courses.{all_taken}
use Rattle.crq_host.specs.Shares.{AreEach, IsCleared}
use Rattle.crq_host.proofs.course.Course.collect.Goals as goal

pub returns : goal.returns
returns g c =
    let old = c.args.self.now.workers in
    let cleared = subst (λ ws. AreEach IsCleared ws c.clear-2.new.workers) c.as_mut_slice.ensures.value c.clear-2.ensures in
    record {
      counts = refl;
      events = c.in_ok-add_taken.ensures ∙ ap (λ ws. c.push_reserved.new.self.items ++ all_taken ws) c.as_slice.ensures.value
          ∙ ap (λ xs. xs ++ all_taken old.items) (c.push_reserved.ensures.items ∙ ap (λ xs. xs ++ c.args.first ∷ []) (c.reserve.ensures.items ∙ c.clear.ensures.items));
      cleared = subst (AreEach IsCleared old.items) (sym (with_items_is old c.clear-2.new.workers (let n = cleared.count in let o = old.ok.0 in omega arith))) cleared;
    }
