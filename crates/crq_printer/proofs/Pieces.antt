-- Pieces of a trace text, each made by a call that may fail.
use Rattle.std.proofs.Common.{◌≡◌, ℕ, ◌+◌, ◌<◌, ◌%◌, ◌^◌, List, [], ◌∷◌, ◌++◌, map, length, Result, Ok, Err, IfOk, MatchResult, Contains, refl, sym, ap, ◌∙◌, arith, Vec, Bor, Global, codes}
use Rattle.std.specs.Fmt.{decimal}
use Rattle.std.proofs.lemmas.List.{append-nil}
use Rattle.std.specs.List.{AllZip, concat, flat_map}
use Rattle.std.specs.declared.alloc.AllocError.{AllocError}
use Rattle.rayon.specs.Lists.{enumerate_from}
use Rattle.crq_sim.specs.declared.traces.ObjectTrace.{ObjectTrace}
use Rattle.crq_printer.proofs.StepLines.{concat-append}
use Rattle.crq_printer.specs.Texts.{object_lines, lines_from, line, steps_in, trace_text_of}

abbrev items : Vec ℕ Global → List ℕ
items v = v.items

abbrev IsPiece : ℕ × Bor ObjectTrace → Result (Vec ℕ Global) AllocError → Type 0
IsPiece p r = IfOk r (λ v. v.items ≡ concat (object_lines (p.0 + 1) p.1.now))

-- pieces of objects one after another are the lines of these objects
in_order : (number : ℕ) (zs : List (Bor ObjectTrace)) (vs : List (Vec ℕ Global)) → number + length zs < 2 ^ 64
    → AllZip IsPiece (enumerate_from number zs) (map Ok vs)
    → flat_map items vs ≡ concat (lines_from (number + 1) (map (λ (z : Bor ObjectTrace). z.now) zs))
in_order number [] [] few each = refl
in_order number [] (v ∷ vs) few each = absurd each
in_order number (z ∷ zs) [] few each = absurd each
in_order number (z ∷ zs) (v ∷ vs) few each =
    let next : (number + 1) % 2 ^ 64 ≡ number + 1 = omega arith in
    let rest = in_order (number + 1) zs vs (omega arith) (rw next at each.1) in
    let rows = lines_from (number + 1 + 1) (map (λ (z : Bor ObjectTrace). z.now) zs) in
    ap (λ (bs : List ℕ). bs ++ flat_map items vs) each.0 ∙ ap (λ (bs : List ℕ). concat (object_lines (number + 1) z.now) ++ bs) rest ∙ sym (concat-append (object_lines (number + 1) z.now) rows)

pub pieces_joined : (ts : List ObjectTrace) (zs : List (Bor ObjectTrace)) (rs : List (Result (Vec ℕ Global) AllocError)) (r : Result (Vec (Vec ℕ Global) Global) AllocError)
    → length zs < 2 ^ 64 → map (λ (z : Bor ObjectTrace). z.now) zs ≡ ts → AllZip IsPiece (enumerate_from 0 zs) rs
    → MatchResult r (λ c. (ys : List (Vec ℕ Global)) × (rs ≡ map Ok ys) × (c.items ≡ ys)) (λ e. Contains rs (Err e))
    → IfOk r (λ ps. flat_map items ps.items ≡ concat (lines_from 1 ts))
pieces_joined ts zs rs (Ok c) few same each made =
    ap (λ (ys : List (Vec ℕ Global)). flat_map items ys) made.2 ∙ in_order 0 zs made.0 (omega arith) (rw made.1 at each) ∙ ap (λ (us : List ObjectTrace). concat (lines_from 1 us)) same
pieces_joined ts zs rs (Err e) few same each made = tt

-- the first line, the pieces and the last line
pub text_joined : (ts : List ObjectTrace) (ps : List (Vec ℕ Global)) (total : ℕ) (r : Result (Vec ℕ Global) AllocError) → flat_map items ps ≡ concat (lines_from 1 ts) → steps_in ts ≡ total
    → IfOk r (λ t. t.items ≡ (codes "trace 1\n" ++ flat_map items ps) ++ line (codes "end" ∷ decimal total ∷ [])) → IfOk r (λ t. t.items ≡ trace_text_of ts)
unfolding trace_text_of
text_joined ts ps total (Ok t) pieces steps joined =
    let end : List ℕ = line (codes "end" ∷ decimal (steps_in ts) ∷ []) in
    joined ∙ ap (λ (bs : List ℕ). (codes "trace 1\n" ++ bs) ++ line (codes "end" ∷ decimal total ∷ [])) pieces
    ∙ ap (λ (n : ℕ). (codes "trace 1\n" ++ concat (lines_from 1 ts)) ++ line (codes "end" ∷ decimal n ∷ [])) (sym steps)
    ∙ ap (λ (bs : List ℕ). codes "trace 1\n" ++ bs) (ap (λ (bs : List ℕ). concat (lines_from 1 ts) ++ bs) (sym (append-nil end)) ∙ sym (concat-append (lines_from 1 ts) (end ∷ [])))
text_joined ts ps total (Err e) pieces steps joined = tt
