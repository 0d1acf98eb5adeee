-- Traces that are read one after another.
use Rattle.std.proofs.Common.{◌≡◌, true, false, eqb, ℕ, ◌+◌, ◌<◌, ◌≤◌, inl, inr, List, [], ◌∷◌, ◌++◌, map, length, refl, sym, ap, ◌∙◌, arith, append_assoc, length-append}
use Rattle.std.specs.List.{concat}
use Rattle.std.proofs.lemmas.List.{append-nil, length-map, nil_from_length}
use Rattle.std.proofs.lemmas.Bool.Decides.{nat_tests}
use Rattle.crq_sim.specs.declared.traces.ObjectTrace.{ObjectTrace}
use Rattle.crq_printer.specs.Texts.{step_line, heading_line, object_lines, lines_from, first_line, end_line, steps_in, trace_lines, trace_text_of}
use Rattle.crq_printer.specs.Reading.{IsTraceOf, IsReadable, IsFirstUndue, FaultIs}
use Rattle.crq_printer.specs.Parts.{IsPartWrong, PartFault}
use Rattle.crq_printer.specs.declared.reading.TraceFault.{TraceFault}
use Rattle.crq_printer.specs.declared.reading.TraceFault.TheVariants.{Line, Memory}
use Rattle.crq_printer.proofs.StepLines.{concat-append}
use Rattle.crq_printer.proofs.LineLaws.{object_is_lines, lines_long}
use Rattle.crq_printer.proofs.DueLaws.{lines_from_push, readable_push, steps_in_push}
use Rattle.crq_printer.proofs.FaultLaws.{heading_wrong, step_wrong, end_wrong}

no_length : (n : ℕ) → true ≡ eqb n 0 → n ≡ 0
no_length n h = grind (arith, nat_tests)

some_length : (n : ℕ) → false ≡ eqb n 0 → n ≡ 0 → ⊥
some_length n h e = grind (arith, nat_tests)

pub is_nothing : (bs : List ℕ) → true ≡ eqb (length bs) 0 → bs ≡ []
is_nothing bs h = nil_from_length bs (no_length (length bs) h)

pub is_something : (bs : List ℕ) → false ≡ eqb (length bs) 0 → bs ≡ [] → ⊥
is_something bs h e = some_length (length bs) h (ap length e)

-- these traces were read, with so many steps, and what is left of the text begins on this line
pub record IsProgress (text rest : List ℕ) (done : List ObjectTrace) (total line : ℕ) : Type 0 where
  pub readable : IsReadable done
  pub parts : text ≡ concat (first_line ∷ lines_from 1 done) ++ rest
  pub count : total ≡ steps_in done
  pub place : line ≡ length (lines_from 1 done) + 2
  pub room : line + length rest ≤ length text
  pub few : total + length rest ≤ length text

pub none_done : (text rest : List ℕ) → text ≡ first_line ++ rest → IsProgress text rest [] 0 2
none_done text rest parts = record {
  readable = record { few = omega arith; traces = tt };
  parts = parts;
  count = refl;
  place = refl;
  room = omega (arith, ap length parts);
  few = omega (arith, ap length parts);
}

module _ (text rest : List ℕ) (done : List ObjectTrace) (total line at : ℕ) (so_far : IsProgress text rest done total line) (next : at ≡ 1 + length done) where
  pub object_done : (o : ObjectTrace) (behind : List ℕ) → length done < 65535 → IsTraceOf at o → rest ≡ concat (object_lines at o) ++ behind → IsProgress text behind (done ++ o ∷ []) (total + length o.steps) (line + (1 + length o.steps))
  object_done o behind few is parts =
      let L = lines_from 1 done in
      let O = object_lines at o in
      let push = lines_from_push 1 at done o next in
      let joined : concat (first_line ∷ lines_from 1 (done ++ o ∷ [])) ≡ concat (first_line ∷ L) ++ concat O = ap (λ (ls : List (List ℕ)). concat (first_line ∷ ls)) push ∙ concat-append (first_line ∷ L) O in
      let long = lines_long O (object_is_lines at o (omega (arith, (so_far.readable).few)) is) in
      let steps : length O ≡ 1 + length o.steps = omega (arith, length-map o.steps step_line) in
      let bytes : length rest ≡ length (concat O) + length behind = ap length parts ∙ length-append (concat O) behind in
      record {
        readable = readable_push at done o next few so_far.readable is;
        parts = so_far.parts ∙ ap (λ (bs : List ℕ). concat (first_line ∷ L) ++ bs) parts ∙ sym (append_assoc (concat (first_line ∷ L)) (concat O) behind) ∙ ap (λ (bs : List ℕ). bs ++ behind) (sym joined);
        count = omega (arith, so_far.count, steps_in_push done o);
        place = omega (arith, so_far.place, ap length push, length-append L O, steps);
        room = omega (arith, so_far.room, long, steps, bytes);
        few = omega (arith, so_far.few, long, steps, bytes);
      }

  pub many_wrong : ((back : List ℕ) → rest ≡ end_line total ++ back → ⊥) → 65535 ≤ length done → IsFirstUndue line text
  many_wrong none many = heading_wrong done so_far.readable at next text rest line so_far.parts so_far.place (rw so_far.count at none) (inr many)

  part_of : (n : ℕ) → length done < 65535 → ((back : List ℕ) → rest ≡ end_line total ++ back → ⊥) → IsPartWrong at rest line n → IsFirstUndue n text
  part_of n few none (inl wrong) = heading_wrong done so_far.readable at next text rest n so_far.parts (omega (arith, so_far.place, wrong.1)) (rw so_far.count at none) (inl wrong.0)
  part_of n few none (inr o) =
      let w = o.wrong in
      let L = lines_from 1 done in
      let rows = heading_line at o.name o.kind o.count ∷ map step_line w.read in
      let bytes : rest ≡ concat rows ++ w.rest = o.parts ∙ ap (λ (bs : List ℕ). heading_line at o.name o.kind o.count ++ bs) w.parts ∙ sym (append_assoc (heading_line at o.name o.kind o.count) (concat (map step_line w.read)) w.rest) in
      let whole : text ≡ concat (first_line ∷ (L ++ rows)) ++ w.rest =
      so_far.parts ∙ ap (λ (bs : List ℕ). concat (first_line ∷ L) ++ bs) bytes ∙ sym (append_assoc (concat (first_line ∷ L)) (concat rows) w.rest) ∙ ap (λ (bs : List ℕ). bs ++ w.rest) (sym (concat-append (first_line ∷ L) rows)) in
      step_wrong done so_far.readable at next o.name o.kind o.count o.named o.few w.read w.steps w.fewer text w.rest n few whole (omega (arith, so_far.place, w.place)) w.none

  pub part_wrong : (e : TraceFault) → length done < 65535 → ((back : List ℕ) → rest ≡ end_line total ++ back → ⊥) → PartFault at rest line e → FaultIs e text
  part_wrong (Line n) few none wrong = part_of n few none wrong
  part_wrong Memory few none wrong = tt

  ended : (behind : List ℕ) → rest ≡ end_line total ++ behind → text ≡ concat (trace_lines done) ++ behind
  ended behind parts =
      let L = lines_from 1 done in
      let end = end_line (steps_in done) in
      let bytes : rest ≡ concat (end ∷ []) ++ behind = parts ∙ ap (λ (n : ℕ). end_line n ++ behind) so_far.count ∙ ap (λ (bs : List ℕ). bs ++ behind) (sym (append-nil end)) in
      so_far.parts ∙ ap (λ (bs : List ℕ). concat (first_line ∷ L) ++ bs) bytes ∙ sym (append_assoc (concat (first_line ∷ L)) (concat (end ∷ [])) behind) ∙ ap (λ (bs : List ℕ). bs ++ behind) (sym (concat-append (first_line ∷ L) (end ∷ [])))

  pub more_wrong : (behind : List ℕ) → rest ≡ end_line total ++ behind → (behind ≡ [] → ⊥) → IsFirstUndue (line + 1) text
  more_wrong behind parts some = end_wrong done so_far.readable at next text behind (line + 1) (ended behind parts) (omega (arith, so_far.place)) some

  pub all_done : (behind : List ℕ) → rest ≡ end_line total ++ behind → behind ≡ [] → trace_text_of done ≡ text
  unfolding trace_text_of
  all_done behind parts nothing = sym (ended behind parts ∙ ap (λ (bs : List ℕ). concat (trace_lines done) ++ bs) nothing ∙ append-nil (concat (trace_lines done)))
