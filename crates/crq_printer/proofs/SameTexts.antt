-- Traces with the same text are the same.
use Rattle.std.proofs.Common.{◌≡◌, true, ℕ, ◌+◌, ◌<◌, ◌^◌, subst, cond, eqb, List, [], ◌∷◌, ◌++◌, map, length, get_or, refl, sym, ap, ◌∙◌, arith, append_assoc}
use Rattle.std.specs.Prelude.{All}
use Rattle.std.specs.List.{concat}
use Rattle.std.proofs.lemmas.List.{append-nil, length-map}
use Rattle.std.proofs.lemmas.List.Elements.{All-head, All-tail}
use Rattle.crq_sim.specs.Names.{is_name}
use Rattle.crq_sim.specs.declared.model.BehaviourName.{BehaviourName}
use Rattle.crq_sim.specs.declared.model.BehaviourName.TheVariants.{Relay, Phold, Station, Fan, Sink}
use Rattle.crq_sim.specs.declared.traces.Step.{Step}
use Rattle.crq_sim.specs.declared.traces.ObjectTrace.{ObjectTrace}
use Rattle.crq_sim.specs.Kinds.{kind_word}
use Rattle.crq_printer.specs.Texts.{step_line, heading_line, heading, lines_from, end_line, steps_in, trace_lines, trace_text_of}
use Rattle.crq_printer.specs.Reading.{IsStepOf, AreTracesFrom, IsReadable}
use Rattle.crq_printer.proofs.FieldLaws.{same_field, same_number, kind_lacks}
use Rattle.crq_printer.proofs.StepFields.{behind_time, behind_src, behind_seq, behind_load, behind_count}
use Rattle.crq_printer.proofs.HeadingFields.{behind_object, behind_number, behind_name, behind_kind, object_read, number_read, name_read}
use Rattle.crq_printer.proofs.LineLaws.{AreLines, text_is_lines, lines_begin, lines_back, no_lines}
use Rattle.crq_printer.proofs.DueLaws.{no_end_heading, same_tail}

same_step : (number : ℕ) (s t : Step) → IsStepOf number s → IsStepOf number t → step_line s ≡ step_line t → s ≡ t
same_step number s t hs ht e =
    let time = same_number 32 s.event.time t.event.time (behind_time s []) (behind_time t []) (omega arith) (omega (arith, hs.time)) (omega (arith, ht.time)) e in
    let src = same_number 32 s.event.src t.event.src (behind_src s []) (behind_src t []) (omega arith) (omega (arith, hs.src)) (omega (arith, ht.src)) time.1 in
    let seq = same_number 32 s.event.seq t.event.seq (behind_seq s []) (behind_seq t []) (omega arith) hs.seq ht.seq src.1 in
    let load = same_number 32 s.event.load t.event.load (behind_load s []) (behind_load t []) (omega arith) hs.load ht.load seq.1 in
    let count = same_number 32 s.count t.count (behind_count s []) (behind_count t []) (omega arith) hs.count ht.count load.1 in
    let word = same_number 10 s.word t.word [] [] (omega arith) hs.word ht.word count.1 in
    let dst = hs.dst ∙ sym ht.dst in
    λ i. record { event = record { time = time.0 i; src = src.0 i; seq = seq.0 i; dst = dst i; load = load.0 i }; count = count.0 i; word = word.0 i }

same_steps : (number : ℕ) (ss ts : List Step) → All (IsStepOf number) ss → All (IsStepOf number) ts → map step_line ss ≡ map step_line ts → ss ≡ ts
same_steps number [] [] hs ht e = refl
same_steps number [] (t ∷ ts) hs ht e = absurd (cc)
same_steps number (s ∷ ss) [] hs ht e = absurd (cc)
same_steps number (s ∷ ss) (t ∷ ts) hs ht e =
    let first = same_step number s t (All-head (IsStepOf number) s ss hs) (All-head (IsStepOf number) t ts ht) cc in
    let rest = same_steps number ss ts (All-tail (IsStepOf number) s ss hs) (All-tail (IsStepOf number) t ts ht) cc in
    ap (λ (x : Step). x ∷ ss) first ∙ ap (λ (xs : List Step). t ∷ xs) rest

-- the second letter tells the kinds apart
kind_by_letter : ℕ → BehaviourName
kind_by_letter c = cond (eqb c 101) Relay (cond (eqb c 104) Phold (cond (eqb c 116) Station (cond (eqb c 97) Fan Sink)))

letter_of_kind : (k : BehaviourName) → kind_by_letter (get_or (kind_word k) 1 0) ≡ k
unfolding kind_by_letter
letter_of_kind Relay = refl
letter_of_kind Phold = refl
letter_of_kind Station = refl
letter_of_kind Fan = refl
letter_of_kind Sink = refl

same_kind : (k l : BehaviourName) → kind_word k ≡ kind_word l → k ≡ l
same_kind k l e = sym (letter_of_kind k) ∙ ap (λ (bs : List ℕ). kind_by_letter (get_or bs 1 0)) e ∙ letter_of_kind l

pub record SameHeading (name name' : List ℕ) (kind kind' : BehaviourName) (count count' : ℕ) : Type 0 where
  names : name ≡ name'
  kinds : kind ≡ kind'
  counts : count ≡ count'

same_heading : (number : ℕ) (name name' : List ℕ) (kind kind' : BehaviourName) (count count' : ℕ) → number < 2 ^ 64 → is_name name ≡ true → is_name name' ≡ true → count < 2 ^ 64 → count' < 2 ^ 64
    → heading_line number name kind count ≡ heading_line number name' kind' count' → SameHeading name name' kind kind' count count'
same_heading number name name' kind kind' count count' small is is' few few' e =
    let whole = e ∙ sym (append-nil (heading_line number name' kind' count')) in
    let object = object_read number small name' is' kind' count' [] (heading_line number name kind count) (behind_object number name kind count []) refl whole in
    let digits = number_read number small name' is' kind' count' [] (behind_object number name kind count []) (behind_number name kind count []) refl object in
    let names = name_read number small name' is' kind' count' [] (behind_number name kind count []) (behind_name kind count []) name is refl digits in
    let kinds = same_field 32 (kind_word kind) (kind_word kind') (behind_kind count []) (behind_kind count' []) (kind_lacks kind) (kind_lacks kind') names.1 in
    let counts = same_number 10 count count' [] [] (omega arith) few few' kinds.1 in
    record { names = names.0; kinds = same_kind kind kind' kinds.0; counts = counts.0 }

same_front : {X : Type 0} (xs ys us vs : List X) → length xs ≡ length ys → xs ++ us ≡ ys ++ vs → xs ≡ ys
same_front [] [] us vs same e = refl
same_front [] (y ∷ ys) us vs same e = absurd (omega arith)
same_front (x ∷ xs) [] us vs same e = absurd (omega arith)
same_front {X} (x ∷ xs) (y ∷ ys) us vs same e =
    let first : x ≡ y = cc in
    ap (λ (z : X). z ∷ xs) first ∙ ap (λ (zs : List X). y ∷ zs) (same_front xs ys us vs (omega arith) cc)

same_traces : (number total total' : ℕ) (ts us : List ObjectTrace) → number + length ts < 2 ^ 64 → AreTracesFrom number ts → AreTracesFrom number us
    → lines_from number ts ++ end_line total ∷ [] ≡ lines_from number us ++ end_line total' ∷ [] → ts ≡ us
same_traces number total total' [] [] small all all' e = refl
same_traces number total total' [] (u ∷ us) small all all' e = absurd (no_end_heading total number u.name u.behaviour (length u.steps) cc)
same_traces number total total' (t ∷ ts) [] small all all' e = absurd (no_end_heading total' number t.name t.behaviour (length t.steps) cc)
same_traces number total total' (t ∷ ts) (u ∷ us) small all all' e =
    let head : heading number t ≡ heading number u = cc in
    let body : (map step_line t.steps ++ lines_from (number + 1) ts) ++ end_line total ∷ [] ≡ (map step_line u.steps ++ lines_from (number + 1) us) ++ end_line total' ∷ [] = cc in
    let same = same_heading number t.name u.name t.behaviour u.behaviour (length t.steps) (length u.steps) (omega arith) (all.0).name (all'.0).name (all.0).count (all'.0).count head in
    let apart = sym (append_assoc (map step_line t.steps) (lines_from (number + 1) ts) (end_line total ∷ [])) ∙ body ∙ append_assoc (map step_line u.steps) (lines_from (number + 1) us) (end_line total' ∷ []) in
    let long : length (map step_line t.steps) ≡ length (map step_line u.steps) = omega (arith, same.counts, length-map t.steps step_line, length-map u.steps step_line) in
    let steps = same_steps number t.steps u.steps (all.0).steps (all'.0).steps (same_front (map step_line t.steps) (map step_line u.steps) _ _ long apart) in
    let first : t ≡ u = λ i. record { name = same.names i; behaviour = same.kinds i; steps = steps i } in
    let rest = same_traces (number + 1) total total' ts us (omega arith) all.1 all'.1 (same_tail (map step_line t.steps) (map step_line u.steps) _ _ long apart) in
    ap (λ (x : ObjectTrace). x ∷ ts) first ∙ ap (λ (xs : List ObjectTrace). u ∷ xs) rest

whole_lines : (ts us : List ObjectTrace) (more : List (List ℕ)) → AreLines more → trace_lines ts ≡ trace_lines us ++ more → [] ≡ concat more → trace_lines ts ≡ trace_lines us
whole_lines ts us more lines e nothing = e ∙ ap (λ (ls : List (List ℕ)). trace_lines us ++ ls) (no_lines more lines nothing) ∙ append-nil (trace_lines us)

pub same_texts : (ts us : List ObjectTrace) → IsReadable ts → IsReadable us → trace_text_of ts ≡ trace_text_of us → ts ≡ us
unfolding trace_text_of
same_texts ts us hts hus e =
    let begin = lines_begin (trace_lines ts) (trace_lines us) [] (text_is_lines ts hts) (text_is_lines us hus) (e ∙ sym (append-nil (concat (trace_lines us)))) in
    let more = lines_back (trace_lines us) begin.more (subst (λ (ls : List (List ℕ)). AreLines ls) begin.lines (text_is_lines ts hts)) in
    let lines = whole_lines ts us begin.more more begin.lines begin.bytes in
    same_traces 1 (steps_in ts) (steps_in us) ts us (omega (arith, hts.few)) hts.traces hus.traces cc
