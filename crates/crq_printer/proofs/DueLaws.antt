-- Lines of objects that follow one another.
use Rattle.std.proofs.Common.{◌≡◌, ℕ, ◌+◌, ◌<◌, List, [], ◌∷◌, ◌++◌, length, get_or, sym, ap, ◌∙◌, arith, append_assoc, length-append}
use Rattle.std.proofs.lemmas.List.{append-nil}
use Rattle.std.proofs.lemmas.List.Sums.{sum_by_push}
use Rattle.crq_sim.specs.declared.model.BehaviourName.{BehaviourName}
use Rattle.crq_sim.specs.declared.traces.ObjectTrace.{ObjectTrace}
use Rattle.crq_printer.specs.Texts.{heading_line, object_lines, lines_from, end_line, steps_in}
use Rattle.crq_printer.specs.Reading.{IsTraceOf, AreTracesFrom, IsReadable}

pub same_tail : {X : Type 0} (xs ys us vs : List X) → length xs ≡ length ys → xs ++ us ≡ ys ++ vs → us ≡ vs
same_tail [] [] us vs same e = e
same_tail [] (y ∷ ys) us vs same e = absurd (omega arith)
same_tail (x ∷ xs) [] us vs same e = absurd (omega arith)
same_tail (x ∷ xs) (y ∷ ys) us vs same e = same_tail xs ys us vs (omega arith) cc

pub no_end_heading : (total number : ℕ) (name : List ℕ) (kind : BehaviourName) (count : ℕ) → end_line total ≡ heading_line number name kind count → ⊥
no_end_heading total number name kind count e = absurd (omega (arith, ap (λ (bs : List ℕ). get_or bs 0 0) e))

pub lines_from_push : (number at : ℕ) (done : List ObjectTrace) (o : ObjectTrace) → at ≡ number + length done → lines_from number (done ++ o ∷ []) ≡ lines_from number done ++ object_lines at o
lines_from_push number at [] o place =
    let same : number ≡ at = omega arith in
    append-nil (object_lines number o) ∙ ap (λ (n : ℕ). object_lines n o) same
lines_from_push number at (d ∷ done) o place =
    ap (λ (ls : List (List ℕ)). object_lines number d ++ ls) (lines_from_push (number + 1) at done o (omega arith)) ∙ sym (append_assoc (object_lines number d) (lines_from (number + 1) done) (object_lines at o))

traces_push : (number at : ℕ) (done : List ObjectTrace) (o : ObjectTrace) → at ≡ number + length done → AreTracesFrom number done → IsTraceOf at o → AreTracesFrom number (done ++ o ∷ [])
traces_push number at [] o place all is = (let same : number ≡ at = omega arith in (rw same is, tt))
traces_push number at (d ∷ done) o place all is = (all.0, traces_push (number + 1) at done o (omega arith) all.1 is)

pub readable_push : (at : ℕ) (done : List ObjectTrace) (o : ObjectTrace) → at ≡ 1 + length done → length done < 65535 → IsReadable done → IsTraceOf at o → IsReadable (done ++ o ∷ [])
readable_push at done o place few readable is = record {
  few = omega (arith, length-append done (o ∷ []));
  traces = traces_push 1 at done o place readable.traces is;
}

pub steps_in_push : (done : List ObjectTrace) (o : ObjectTrace) → steps_in (done ++ o ∷ []) ≡ steps_in done + length o.steps
steps_in_push done o = sum_by_push (λ (x : ObjectTrace). length x.steps) done o
