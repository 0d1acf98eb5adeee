-- The lines that are due, and the first one that isn't.
use Rattle.std.proofs.Common.{◌≡◌, true, ℕ, zero, suc, ◌+◌, ◌-◌, ◌*◌, ◌<◌, ◌≤◌, ◌^◌, ◌⊎◌, inl, inr, List, [], ◌∷◌, ◌++◌, map, length, refl, sym, ap, ap₂, subst, ◌∙◌, arith, append_assoc, length-append, Result, Ok, Err, IfOk, IfErr}
use Rattle.std.specs.Prelude.{All}
use Rattle.std.specs.List.{concat}
use Rattle.std.proofs.lemmas.List.{length-map}
use Rattle.std.proofs.lemmas.List.Sums.{sum_by-cons}
use Rattle.std.proofs.lemmas.List.Elements.{All-head, All-tail}
use Rattle.crq_sim.specs.Names.{is_name}
use Rattle.crq_sim.specs.declared.model.BehaviourName.{BehaviourName}
use Rattle.crq_sim.specs.declared.traces.Step.{Step}
use Rattle.crq_sim.specs.declared.traces.ObjectTrace.{ObjectTrace}
use Rattle.crq_printer.specs.Texts.{step_line, heading_line, lines_from, first_line, end_line, steps_in, trace_lines, trace_text_of}
use Rattle.crq_printer.specs.Reading.{IsStepOf, AreTracesFrom, IsReadable, IsTraceText, Progress, nothing, within, whole, IsDue, AreDue, IsFirstUndue, FaultIs}
use Rattle.crq_printer.specs.Parts.{NoStep, NoHeading}
use Rattle.crq_printer.specs.declared.reading.TraceFault.{TraceFault}
use Rattle.crq_printer.specs.declared.reading.TraceFault.TheVariants.{Line, Memory}
use Rattle.crq_printer.proofs.HeadingFields.{same_count}
use Rattle.crq_printer.proofs.LineLaws.{IsLine, AreLines, first_is_line, heading_is_line, step_is_line, end_is_line, text_is_lines, lines_begin, same_first}
use Rattle.crq_printer.proofs.DueLaws.{no_end_heading}

-- ---- the lines of traces are due one after another

due_join : (p m q : Progress) (xs ys : List (List ℕ)) → AreDue p xs m → AreDue m ys q → AreDue p (xs ++ ys) q
due_join p m q [] ys h k = subst (λ (x : Progress). AreDue x ys q) (sym h) k
due_join p m q (x ∷ xs) ys h k = (h.0, h.1, due_join h.0 m q xs ys h.2 k)

steps_due : (number left total more : ℕ) (steps : List Step) → All (IsStepOf number) steps → left ≡ length steps + more → AreDue (within number left total) (map step_line steps) (within number more (total + length steps))
steps_due number left total more [] all e =
    let same : left ≡ more = omega arith in
    let none : total ≡ total + 0 = omega arith in
    ap₂ (λ (a b : ℕ). within number a b) same none
steps_due number zero total more (s ∷ steps) all e = absurd (omega arith)
steps_due number (suc left) total more (s ∷ steps) all e =
    let rest = steps_due number left (total + 1) more steps (All-tail (IsStepOf number) s steps all) (omega arith) in
    let sum : (total + 1) + length steps ≡ total + length (s ∷ steps) = omega arith in
    (within number left (total + 1), (s, All-head (IsStepOf number) s steps all, refl, refl), subst (λ (n : ℕ). AreDue (within number left (total + 1)) (map step_line steps) (within number more n)) sum rest)

objects_due : (objects total : ℕ) (ts : List ObjectTrace) → AreTracesFrom (objects + 1) ts → objects + length ts ≤ 65535
    → AreDue (within objects 0 total) (lines_from (objects + 1) ts) (within (objects + length ts) 0 (total + steps_in ts))
objects_due objects total [] all few =
    let same : objects ≡ objects + 0 = omega arith in
    let none : total ≡ total + 0 = omega arith in
    ap₂ (λ (a b : ℕ). within a 0 b) same none
objects_due objects total (o ∷ ts) all few =
    let count = length o.steps in
    let steps = steps_due (objects + 1) count total 0 o.steps (all.0).steps (omega arith) in
    let rest = objects_due (objects + 1) (total + count) ts all.1 (omega arith) in
    let number : (objects + 1) + length ts ≡ objects + length (o ∷ ts) = omega arith in
    let sum : (total + count) + steps_in ts ≡ total + steps_in (o ∷ ts) = omega (arith, sum_by-cons (λ (x : ObjectTrace). length x.steps) o ts) in
    let joined = due_join (within (objects + 1) count total) (within (objects + 1) 0 (total + count)) _ (map step_line o.steps) (lines_from (objects + 1 + 1) ts) steps rest in (
      within (objects + 1) count total,
      inl (record { name = o.name; kind = o.behaviour; count = count; named = (all.0).name; fits = (all.0).count; few = omega arith; is = refl; behind = refl }),
      subst (λ (q : Progress). AreDue (within (objects + 1) count total) (map step_line o.steps ++ lines_from (objects + 1 + 1) ts) q) (ap₂ (λ (a b : ℕ). within a 0 b) number sum) joined,
    )

-- the lines of the objects that were read
pub done_due : (done : List ObjectTrace) → IsReadable done → AreDue nothing (first_line ∷ lines_from 1 done) (within (length done) 0 (steps_in done))
done_due done is =
    let lines = objects_due 0 0 done is.traces (omega (arith, is.few)) in
    let number : 0 + length done ≡ length done = omega arith in
    let sum : 0 + steps_in done ≡ steps_in done = omega arith in
    (within 0 0 0, (refl, refl), subst (λ (q : Progress). AreDue (within 0 0 0) (lines_from 1 done) q) (ap₂ (λ (a b : ℕ). within a 0 b) number sum) lines)

all_due : (ts : List ObjectTrace) → IsReadable ts → AreDue nothing (trace_lines ts) whole
all_due ts is = due_join nothing (within (length ts) 0 (steps_in ts)) whole (first_line ∷ lines_from 1 ts) (end_line (steps_in ts) ∷ []) (done_due ts is) (whole, inr (refl, refl), refl)

-- ---- what a line leaves is determined

due_same : (p q q' : Progress) (l : List ℕ) → IsDue p l q → IsDue p l q' → q ≡ q'
due_same nothing q q' l h k = h.1 ∙ sym k.1
due_same (within objects zero total) q q' l (inl h) (inl k) =
    let counts = same_count (objects + 1) h.name k.name h.kind k.kind h.count k.count (omega (arith, h.few)) h.named k.named h.fits k.fits (sym h.is ∙ k.is) in
    h.behind ∙ ap (λ (n : ℕ). within (objects + 1) n total) counts ∙ sym k.behind
due_same (within objects zero total) q q' l (inl h) (inr k) = absurd (no_end_heading total (objects + 1) h.name h.kind h.count (sym k.0 ∙ h.is))
due_same (within objects zero total) q q' l (inr h) (inl k) = absurd (no_end_heading total (objects + 1) k.name k.kind k.count (sym h.0 ∙ k.is))
due_same (within objects zero total) q q' l (inr h) (inr k) = h.1 ∙ sym k.1
due_same (within objects (suc left) total) q q' l h k = h.3 ∙ sym k.3
due_same whole q q' l h k = absurd h

dues_same : (p q q' : Progress) (ls : List (List ℕ)) → AreDue p ls q → AreDue p ls q' → q ≡ q'
dues_same p q q' [] h k = sym h ∙ k
dues_same p q q' (l ∷ ls) h k = dues_same h.0 q q' ls h.2 (subst (λ (x : Progress). AreDue x ls q') (due_same p k.0 h.0 l k.1 h.1) k.2)

due_split : (p q : Progress) (xs ys : List (List ℕ)) → AreDue p (xs ++ ys) q → (m : Progress) × AreDue p xs m × AreDue m ys q
due_split p q [] ys h = (p, refl, h)
due_split p q (x ∷ xs) ys h = (let later = due_split h.0 q xs ys h.2 in (later.0, (h.0, h.1, later.1), later.2))

-- ---- lines that are due are lines

abbrev IsSmall : Progress → Type 0
IsSmall nothing = Unit {0}
IsSmall (within objects left total) = (objects ≤ 65535) × (total + left ≤ objects * 2 ^ 64)
IsSmall whole = Unit {0}

due_is_line : (p q : Progress) (l : List ℕ) → IsSmall p → IsDue p l q → IsLine l × IsSmall q
due_is_line nothing q l small h = (subst IsLine (sym h.0) first_is_line, subst IsSmall (sym h.1) (omega arith, omega arith))
due_is_line (within objects zero total) q l small (inl h) =
    (subst IsLine (sym h.is) (heading_is_line (objects + 1) h.name h.kind h.count (omega (arith, h.few)) h.named h.fits), subst IsSmall (sym h.behind) (omega (arith, h.few), omega (arith, small.1, h.fits)))
due_is_line (within objects zero total) q l small (inr h) = (subst IsLine (sym h.0) (end_is_line total (omega (arith, small.0, small.1))), subst IsSmall (sym h.1) tt)
due_is_line (within objects (suc left) total) q l small h = (subst IsLine (sym h.2) (step_is_line objects h.0 h.1), subst IsSmall (sym h.3) (small.0, omega (arith, small.1)))
due_is_line whole q l small h = absurd h

dues_are_lines : (p q : Progress) (ls : List (List ℕ)) → IsSmall p → AreDue p ls q → AreLines ls
dues_are_lines p q [] small h = tt
dues_are_lines p q (l ∷ ls) small h = (let one = due_is_line p h.0 l small h.1 in (one.0, dues_are_lines h.0 q ls one.1 h.2))

-- ---- the first line that isn't due

abbrev IsUndue : Progress → List ℕ → Type 0
IsUndue p rest = (next more : List ℕ) (after : Progress) → rest ≡ next ++ more → IsDue p next after → ⊥

stops : (p : Progress) (rest : List ℕ) (more : List (List ℕ)) → IsUndue p rest → (p ≡ whole → rest ≡ [] → ⊥) → AreDue p more whole → rest ≡ concat more → ⊥
stops p rest [] undue unfinished h bytes = unfinished h bytes
stops p rest (l ∷ ls) undue unfinished h bytes = undue l (concat ls) h.0 bytes h.1

refused : (text rest : List ℕ) (before : List (List ℕ)) (p : Progress) → text ≡ concat before ++ rest → AreDue nothing before p → IsUndue p rest → (p ≡ whole → rest ≡ [] → ⊥) → IsTraceText text → ⊥
unfolding trace_text_of
refused text rest before p parts due undue unfinished is =
    let begin = lines_begin (trace_lines is.0) before rest (text_is_lines is.0 is.1) (dues_are_lines nothing p before tt due) (is.2 ∙ parts) in
    let split = due_split nothing whole before begin.more (subst (λ (ls : List (List ℕ)). AreDue nothing ls whole) begin.lines (all_due is.0 is.1)) in
    let same = dues_same nothing split.0 p before split.1 due in
    stops p rest begin.more undue unfinished (subst (λ (x : Progress). AreDue x begin.more whole) same split.2) begin.bytes

fault : (n : ℕ) (text rest : List ℕ) (before : List (List ℕ)) (p : Progress) → text ≡ concat before ++ rest → n ≡ length before + 1 → AreDue nothing before p → IsUndue p rest → (p ≡ whole → rest ≡ [] → ⊥) → IsFirstUndue n text
fault n text rest before p parts number due undue unfinished = record {
  before = before;
  rest = rest;
  progress = p;
  parts = parts;
  number = number;
  due = due;
  undue = undue;
  unfinished = unfinished;
  refused = refused text rest before p parts due undue unfinished;
}

-- a text has one first line that isn't due
same_length : (p m m' : Progress) (xs ys : List (List ℕ)) (r r' : List ℕ) → IsSmall p → AreDue p xs m → AreDue p ys m' → concat xs ++ r ≡ concat ys ++ r' → IsUndue m r → IsUndue m' r' → length xs ≡ length ys
same_length p m m' [] [] r r' small h k e undue undue' = refl
same_length p m m' [] (y ∷ ys) r r' small h k e undue undue' = absurd (undue y (concat ys ++ r') k.0 (e ∙ append_assoc y (concat ys) r') (subst (λ (x : Progress). IsDue x y k.0) h k.1))
same_length p m m' (x ∷ xs) [] r r' small h k e undue undue' = absurd (undue' x (concat xs ++ r) h.0 (sym e ∙ append_assoc x (concat xs) r) (subst (λ (z : Progress). IsDue z x h.0) k h.1))
same_length p m m' (x ∷ xs) (y ∷ ys) r r' small h k e undue undue' =
    let one = due_is_line p h.0 x small h.1 in
    let other = due_is_line p k.0 y small k.1 in
    let first = same_first x y (concat xs ++ r) (concat ys ++ r') one.0 other.0 (sym (append_assoc x (concat xs) r) ∙ e ∙ append_assoc y (concat ys) r') in
    let next = due_same p k.0 h.0 y k.1 (subst (λ (l : List ℕ). IsDue p l h.0) first.0 h.1) in
    let rest = same_length h.0 m m' xs ys r r' one.1 h.2 (subst (λ (z : Progress). AreDue z ys m') next k.2) first.1 undue undue' in
    omega arith

pub one_line : (text : List ℕ) (n k : ℕ) → IsFirstUndue n text → IsFirstUndue k text → n ≡ k
one_line text n k h g =
    let same = same_length nothing h.progress g.progress h.before g.before h.rest g.rest tt h.due g.due (sym h.parts ∙ g.parts) h.undue g.undue in
    omega (arith, h.number, g.number, same)

pub exact : (text : List ℕ) (r : Result (List ObjectTrace) TraceFault) → IfOk r (λ ts. IsReadable ts) → IfOk r (λ ts. trace_text_of ts ≡ text) → IfErr r (λ e. FaultIs e text)
    → (n : ℕ) → IsFirstUndue n text → (r ≡ Err (Line n)) ⊎ (r ≡ Err Memory)
exact text (Ok ts) is same f n undue = absurd (undue.refused (ts, is, same))
exact text (Err (Line k)) is same f n undue = inl (ap (λ (l : ℕ). Err (Line l)) (one_line text k n f undue))
exact text (Err Memory) is same f n undue = inr refl

within_not_whole : (objects left total : ℕ) → within objects left total ≡ whole → ⊥
within_not_whole objects left total e = absurd (cc)

begins_with : (rest next more bytes : List ℕ) → rest ≡ next ++ more → next ≡ bytes → rest ≡ bytes ++ more
begins_with rest next more bytes e is = e ∙ ap (λ (bs : List ℕ). bs ++ more) is

pub start_wrong : (text : List ℕ) → ((back : List ℕ) → text ≡ first_line ++ back → ⊥) → IsFirstUndue 1 text
start_wrong text none = fault 1 text text [] nothing refl refl refl (λ next more after e due. none more (begins_with text next more first_line e due.0)) (λ e empty. absurd (cc))

module _ (done : List ObjectTrace) (readable : IsReadable done) (at : ℕ) (place : at ≡ 1 + length done) where
  no_object : (rest next more : List ℕ) (after : Progress) → ((back : List ℕ) → rest ≡ end_line (steps_in done) ++ back → ⊥) → NoHeading at rest ⊎ (65535 ≤ length done) → rest ≡ next ++ more
      → IsDue (within (length done) zero (steps_in done)) next after → ⊥
  no_object rest next more after none (inl head) e (inl h) =
      let number : length done + 1 ≡ at = omega arith in
      head h.name h.kind h.count more h.named h.fits (begins_with rest next more _ e (h.is ∙ ap (λ (n : ℕ). heading_line n h.name h.kind h.count) number))
  no_object rest next more after none (inr many) e (inl h) = absurd (omega (arith, h.few))
  no_object rest next more after none heads e (inr h) = none more (begins_with rest next more _ e h.0)

  pub heading_wrong : (text rest : List ℕ) (n : ℕ) → text ≡ concat (first_line ∷ lines_from 1 done) ++ rest → n ≡ length (lines_from 1 done) + 2
      → ((back : List ℕ) → rest ≡ end_line (steps_in done) ++ back → ⊥) → NoHeading at rest ⊎ (65535 ≤ length done) → IsFirstUndue n text
  heading_wrong text rest n parts number none heads =
      fault n text rest (first_line ∷ lines_from 1 done) (within (length done) 0 (steps_in done)) parts (omega arith) (done_due done readable)
      (λ next more after e due. no_object rest next more after none heads e due) (λ e empty. within_not_whole _ _ _ e)

  pub end_wrong : (text rest : List ℕ) (n : ℕ) → text ≡ concat (trace_lines done) ++ rest → n ≡ length (lines_from 1 done) + 3 → (rest ≡ [] → ⊥) → IsFirstUndue n text
  end_wrong text rest n parts number some =
      fault n text rest (trace_lines done) whole parts (omega (arith, length-append (lines_from 1 done) (end_line (steps_in done) ∷ []))) (all_due done readable) (λ next more after e due. due) (λ e empty. some empty)

  module _ (name : List ℕ) (kind : BehaviourName) (count : ℕ) (named : is_name name ≡ true) (few : count < 2 ^ 64) (read : List Step) (steps : All (IsStepOf at) read) (fewer : length read < count) where
    rows : List (List ℕ)
    rows = heading_line at name kind count ∷ map step_line read

    rows_due : (left : ℕ) → count ≡ length read + suc left → length done < 65535 → AreDue (within (length done) 0 (steps_in done)) rows (within at (suc left) (steps_in done + length read))
    unfolding rows
    rows_due left e more_objects =
        let number : at ≡ length done + 1 = omega arith in (
          within at count (steps_in done),
          inl (record { name = name; kind = kind; count = count; named = named; fits = few; few = omega arith; is = ap (λ (n : ℕ). heading_line n name kind count) number; behind = ap (λ (n : ℕ). within n count (steps_in done)) number }),
          steps_due at count (steps_in done) (suc left) read steps e,
        )

    pub step_wrong : (text rest : List ℕ) (n : ℕ) → length done < 65535 → text ≡ concat (first_line ∷ (lines_from 1 done ++ (heading_line at name kind count ∷ map step_line read))) ++ rest → n ≡ length (lines_from 1 done) + 3 + length read → NoStep at rest → IsFirstUndue n text
    unfolding rows
    step_wrong text rest n more_objects parts number none =
        let left = count - length read - 1 in
        let split : count ≡ length read + suc left = omega arith in
        let due = due_join nothing (within (length done) 0 (steps_in done)) (within at (suc left) (steps_in done + length read)) (first_line ∷ lines_from 1 done) rows (done_due done readable) (rows_due left split more_objects) in
        fault n text rest (first_line ∷ (lines_from 1 done ++ rows)) (within at (suc left) (steps_in done + length read)) parts (omega (arith, length-append (lines_from 1 done) rows, length-map read step_line)) due
        (λ next more after e h. none h.0 more h.1 (begins_with rest next more (step_line h.0) e h.2)) (λ e empty. within_not_whole _ _ _ e)
