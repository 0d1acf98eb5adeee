-- Lines, each of which has its newline at its end and nowhere else.
use Rattle.std.proofs.Common.{◌≡◌, true, ℕ, ◌+◌, ◌*◌, ◌<◌, ◌≤◌, ◌^◌, List, [], ◌∷◌, ◌++◌, map, length, codes, refl, sym, ap, ◌∙◌, arith, append_assoc, length-append}
use Rattle.std.specs.Prelude.{All}
use Rattle.std.specs.Fmt.{decimal}
use Rattle.std.specs.List.{concat, AllByRecursion}
use Rattle.std.proofs.lemmas.List.Sums.{sum_by-cons}
use Rattle.std.proofs.lemmas.List.Elements.{All-head, All-tail}
use Rattle.crq_sim.specs.Names.{is_name}
use Rattle.crq_sim.specs.declared.model.BehaviourName.{BehaviourName}
use Rattle.crq_sim.specs.declared.model.BehaviourName.TheVariants.{Relay, Phold, Station, Fan, Sink}
use Rattle.crq_sim.specs.declared.traces.Step.{Step}
use Rattle.crq_sim.specs.declared.traces.ObjectTrace.{ObjectTrace}
use Rattle.crq_printer.specs.Fields.{Lacks}
use Rattle.crq_sim.specs.Kinds.{kind_word}
use Rattle.crq_printer.specs.Texts.{step_line, heading_line, object_lines, lines_from, first_line, end_line, steps_in, trace_lines}
use Rattle.crq_printer.specs.Reading.{IsStepOf, IsTraceOf, AreTracesFrom, IsReadable}
use Rattle.crq_printer.proofs.FieldLaws.{same_field, numeral_lacks, sum_lacks, name_lacks, Lacks-from_test}

pub record IsLine (bytes : List ℕ) : Type 0 where
  pub words : List ℕ
  pub lacks : Lacks 10 words
  pub whole : bytes ≡ words ++ 10 ∷ []

abbrev pub AreLines : List (List ℕ) → Type 0
AreLines lines = AllByRecursion IsLine lines

Lacks-append : (b : ℕ) (xs ys : List ℕ) → Lacks b xs → Lacks b ys → Lacks b (xs ++ ys)
Lacks-append b [] ys hx hy = hy
Lacks-append b (x ∷ xs) ys hx hy = (hx.0, Lacks-append b xs ys hx.1 hy)

-- one more field before a line
with_field : (field bytes : List ℕ) → Lacks 10 field → IsLine bytes → IsLine (field ++ (32 ∷ bytes))
with_field field bytes lacks is = record {
  words = field ++ (32 ∷ is.words);
  lacks = Lacks-append 10 field (32 ∷ is.words) lacks (λ e. omega arith, is.lacks);
  whole = ap (λ (bs : List ℕ). field ++ (32 ∷ bs)) is.whole ∙ sym (append_assoc field (32 ∷ is.words) (10 ∷ []));
}

last_field : (field : List ℕ) → Lacks 10 field → IsLine (field ++ (10 ∷ []))
last_field field lacks = record { words = field; lacks = lacks; whole = refl }

kind_one_line : (k : BehaviourName) → Lacks 10 (kind_word k)
kind_one_line Relay = Lacks-from_test 10 (codes "relay") refl
kind_one_line Phold = Lacks-from_test 10 (codes "phold") refl
kind_one_line Station = Lacks-from_test 10 (codes "station") refl
kind_one_line Fan = Lacks-from_test 10 (codes "fan") refl
kind_one_line Sink = Lacks-from_test 10 (codes "sink") refl

numeral : (n : ℕ) → n < 2 ^ 64 → Lacks 10 (decimal n)
numeral n small = numeral_lacks 10 n (omega arith) small

pub step_is_line : (number : ℕ) (s : Step) → IsStepOf number s → IsLine (step_line s)
step_is_line number s is =
    with_field (decimal s.event.time) _ (numeral s.event.time (omega (arith, is.time)))
    (with_field (decimal s.event.src) _ (numeral s.event.src (omega (arith, is.src)))
    (with_field (decimal s.event.seq) _ (numeral s.event.seq is.seq)
    (with_field (decimal s.event.load) _ (numeral s.event.load is.load)
    (with_field (decimal s.count) _ (numeral s.count is.count) (last_field (decimal s.word) (numeral s.word is.word))))))

pub heading_is_line : (number : ℕ) (name : List ℕ) (kind : BehaviourName) (count : ℕ) → number < 2 ^ 64 → is_name name ≡ true → count < 2 ^ 64 → IsLine (heading_line number name kind count)
heading_is_line number name kind count small named few =
    with_field (codes "object") _ (Lacks-from_test 10 (codes "object") refl)
    (with_field (decimal number) _ (numeral number small)
    (with_field name _ (name_lacks 10 name (omega arith) named)
    (with_field (kind_word kind) _ (kind_one_line kind) (last_field (decimal count) (numeral count few)))))

pub first_is_line : IsLine first_line
first_is_line = with_field (codes "trace") _ (Lacks-from_test 10 (codes "trace") refl) (last_field (codes "1") (Lacks-from_test 10 (codes "1") refl))

pub end_is_line : (total : ℕ) → total < 10 ^ 64 → IsLine (end_line total)
end_is_line total small = with_field (codes "end") _ (Lacks-from_test 10 (codes "end") refl) (last_field (decimal total) (sum_lacks 10 total (omega arith) small))

steps_are_lines : (number : ℕ) (steps : List Step) → All (IsStepOf number) steps → AreLines (map step_line steps)
steps_are_lines number [] all = tt
steps_are_lines number (s ∷ steps) all = (step_is_line number s (All-head (IsStepOf number) s steps all), steps_are_lines number steps (All-tail (IsStepOf number) s steps all))

lines_join : (xs ys : List (List ℕ)) → AreLines xs → AreLines ys → AreLines (xs ++ ys)
lines_join [] ys hx hy = hy
lines_join (x ∷ xs) ys hx hy = (hx.0, lines_join xs ys hx.1 hy)

pub lines_front : (xs ys : List (List ℕ)) → AreLines (xs ++ ys) → AreLines xs
lines_front [] ys h = tt
lines_front (x ∷ xs) ys h = (h.0, lines_front xs ys h.1)

pub lines_back : (xs ys : List (List ℕ)) → AreLines (xs ++ ys) → AreLines ys
lines_back [] ys h = h
lines_back (x ∷ xs) ys h = lines_back xs ys h.1

pub object_is_lines : (number : ℕ) (o : ObjectTrace) → number < 2 ^ 64 → IsTraceOf number o → AreLines (object_lines number o)
object_is_lines number o small is = (heading_is_line number o.name o.behaviour (length o.steps) small is.name is.count, steps_are_lines number o.steps is.steps)

-- no line is empty
pub lines_long : (lines : List (List ℕ)) → AreLines lines → length lines ≤ length (concat lines)
lines_long [] all = omega arith
lines_long (l ∷ lines) all =
    let rest = lines_long lines all.1 in
    omega (arith, length-append l (concat lines), ap length (all.0).whole, length-append (all.0).words (10 ∷ []))

traces_are_lines : (number : ℕ) (ts : List ObjectTrace) → number + length ts < 2 ^ 64 → AreTracesFrom number ts → AreLines (lines_from number ts)
traces_are_lines number [] few all = tt
traces_are_lines number (o ∷ ts) few all =
    lines_join (object_lines number o) (lines_from (number + 1) ts) (heading_is_line number o.name o.behaviour (length o.steps) (omega arith) (all.0).name (all.0).count, steps_are_lines number o.steps (all.0).steps) (traces_are_lines (number + 1) ts (omega arith) all.1)

-- the sum of the counts is below a bound on each times their number
pub steps_few : (number : ℕ) (ts : List ObjectTrace) → AreTracesFrom number ts → steps_in ts ≤ length ts * 2 ^ 64
steps_few number [] all = omega arith
steps_few number (o ∷ ts) all = (let rest = steps_few (number + 1) ts all.1 in let few = (all.0).count in omega (arith, sum_by-cons (λ (t : ObjectTrace). length t.steps) o ts))

pub text_is_lines : (ts : List ObjectTrace) → IsReadable ts → AreLines (trace_lines ts)
text_is_lines ts is =
    let end = end_is_line (steps_in ts) (omega (arith, steps_few 1 ts is.traces, is.few)) in
    (first_is_line, lines_join (lines_from 1 ts) (end_line (steps_in ts) ∷ []) (traces_are_lines 1 ts (omega (arith, is.few)) is.traces) (end, tt))

pub same_first : (x y : List ℕ) (xs ys : List ℕ) → IsLine x → IsLine y → x ++ xs ≡ y ++ ys → (x ≡ y) × (xs ≡ ys)
same_first x y xs ys hx hy e =
    let wx : x ++ xs ≡ hx.words ++ 10 ∷ xs = ap (λ (bs : List ℕ). bs ++ xs) hx.whole ∙ append_assoc hx.words (10 ∷ []) xs in
    let wy : y ++ ys ≡ hy.words ++ 10 ∷ ys = ap (λ (bs : List ℕ). bs ++ ys) hy.whole ∙ append_assoc hy.words (10 ∷ []) ys in
    let same = same_field 10 hx.words hy.words xs ys hx.lacks hy.lacks (sym wx ∙ e ∙ wy) in
    (hx.whole ∙ ap (λ (bs : List ℕ). bs ++ 10 ∷ []) same.0 ∙ sym hy.whole, same.1)

no_nil : (words rest : List ℕ) → [] ≡ (words ++ 10 ∷ []) ++ rest → ⊥
no_nil [] rest e = absurd (cc)
no_nil (w ∷ words) rest e = absurd (cc)

no_empty_line : (y ys : List ℕ) → IsLine y → [] ≡ y ++ ys → ⊥
no_empty_line y ys hy e = absurd (no_nil hy.words ys (e ∙ ap (λ (bs : List ℕ). bs ++ ys) hy.whole))

-- no lines make no bytes
pub no_lines : (lines : List (List ℕ)) → AreLines lines → [] ≡ concat lines → lines ≡ []
no_lines [] all e = refl
no_lines (l ∷ lines) all e = absurd (no_empty_line l (concat lines) all.0 e)

-- bytes that begin with lines are lines that begin with these
pub record Begins (xs ys : List (List ℕ)) (rest : List ℕ) : Type 0 where
  pub more : List (List ℕ)
  pub lines : xs ≡ ys ++ more
  pub bytes : rest ≡ concat more

pub lines_begin : (xs ys : List (List ℕ)) (rest : List ℕ) → AreLines xs → AreLines ys → concat xs ≡ concat ys ++ rest → Begins xs ys rest
lines_begin xs [] rest hx hy e = record { more = xs; lines = refl; bytes = sym e }
lines_begin [] (y ∷ ys) rest hx hy e = absurd (no_empty_line y (concat ys ++ rest) hy.0 (e ∙ append_assoc y (concat ys) rest))
lines_begin (x ∷ xs) (y ∷ ys) rest hx hy e =
    let same = same_first x y (concat xs) (concat ys ++ rest) hx.0 hy.0 (e ∙ append_assoc y (concat ys) rest) in
    let tail = lines_begin xs ys rest hx.1 hy.1 same.1 in
    record { more = tail.more; lines = ap (λ (z : List ℕ). z ∷ xs) same.0 ∙ ap (λ (zs : List (List ℕ)). y ∷ zs) tail.lines; bytes = tail.bytes }
