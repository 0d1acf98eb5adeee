-- The lines of steps, one after another.
use Rattle.std.proofs.Common.{◌≡◌, ℕ, ◌+◌, ◌-◌, ◌<◌, List, [], ◌∷◌, ◌++◌, map, length, take, drop, get_or, refl, sym, ap, ◌∙◌, arith, append_assoc, length-drop}
use Rattle.std.specs.List.{concat}
use Rattle.std.proofs.lemmas.List.{map_more, take_all, append-nil}
use Rattle.crq_sim.specs.declared.traces.Step.{Step}
use Rattle.crq_printer.specs.Texts.{step_line}

pub concat-append : (xs ys : List (List ℕ)) → concat (xs ++ ys) ≡ concat xs ++ concat ys
concat-append [] ys = refl
concat-append (x ∷ xs) ys = ap (λ (zs : List ℕ). x ++ zs) (concat-append xs ys) ∙ sym (append_assoc x (concat xs) (concat ys))

pub concat_push : (xs : List (List ℕ)) (y : List ℕ) → concat (xs ++ y ∷ []) ≡ concat xs ++ y
concat_push xs y = concat-append xs (y ∷ []) ∙ ap (λ (zs : List ℕ). concat xs ++ zs) (append-nil y)

-- the line of the next step, which was written at the end of a buffer
pub line_pushed : (old now next buffer : List ℕ) (steps : List Step) (i start : ℕ) (d : Step) → i < length steps → length buffer ≡ 126
    → now ≡ old ++ concat (map step_line (take i steps)) → drop start buffer ≡ step_line (get_or steps i d) → next ≡ now ++ take (126 - start) (drop start buffer)
    → next ≡ old ++ concat (map step_line (take (i + 1) steps))
line_pushed old now next buffer steps i start d lt long before written after =
    let lines = map step_line (take i steps) in
    let whole : take (126 - start) (drop start buffer) ≡ drop start buffer = take_all (126 - start) (drop start buffer) (omega (arith, length-drop start buffer)) in
    let joined : concat (map step_line (take (i + 1) steps)) ≡ concat lines ++ step_line (get_or steps i d) = ap concat (map_more step_line steps i d lt) ∙ concat_push lines (step_line (get_or steps i d)) in
    after ∙ ap (λ (bs : List ℕ). now ++ bs) (whole ∙ written) ∙ ap (λ (bs : List ℕ). bs ++ step_line (get_or steps i d)) before
    ∙ append_assoc old (concat lines) (step_line (get_or steps i d)) ∙ ap (λ (bs : List ℕ). old ++ bs) (sym joined)
