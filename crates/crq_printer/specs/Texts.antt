-- Traces and outcomes as text.
use Rattle.std.specs.Prelude.{ℕ, ◌+◌, ◌*◌, ◌%◌, ◌^◌, max, List, [], ◌∷◌, ◌++◌, map, length, codes}
use Rattle.std.specs.Fmt.{decimal}
use Rattle.std.specs.List.{concat, flat_map, sum_by, fold}
use Rattle.crq_sim.specs.Kinds.{kind_word}
use Rattle.crq_sim.specs.declared.model.BehaviourName.{BehaviourName}
use Rattle.crq_sim.specs.declared.traces.Step.{Step}
use Rattle.crq_sim.specs.declared.traces.ObjectTrace.{ObjectTrace}
use Rattle.crq_sim.specs.declared.outcome.Outcome.{Outcome}

-- a line: the fields with one space between them, and a newline after the last
abbrev pub line : List (List ℕ) → List ℕ
line [] = 10 ∷ []
line (field ∷ []) = field ++ (10 ∷ [])
line (field ∷ next ∷ fields) = field ++ (32 ∷ line (next ∷ fields))

-- the event, and the object's count and word after it
abbrev pub step_line : Step → List ℕ
step_line s = line (decimal s.event.time ∷ decimal s.event.src ∷ decimal s.event.seq ∷ decimal s.event.load ∷ decimal s.count ∷ decimal s.word ∷ [])

-- the line before an object's steps: its number, name and kind, and how many steps follow
abbrev pub heading_line : ℕ → List ℕ → BehaviourName → ℕ → List ℕ
heading_line number name kind count = line (codes "object" ∷ decimal number ∷ name ∷ kind_word kind ∷ decimal count ∷ [])

abbrev pub heading : ℕ → ObjectTrace → List ℕ
heading number o = heading_line number o.name o.behaviour (length o.steps)

abbrev pub object_lines : ℕ → ObjectTrace → List (List ℕ)
object_lines number o = heading number o ∷ map step_line o.steps

-- the lines of objects whose first one has this number
abbrev pub lines_from : ℕ → List ObjectTrace → List (List ℕ)
lines_from number [] = []
lines_from number (o ∷ os) = object_lines number o ++ lines_from (number + 1) os

-- how many steps there are
abbrev pub steps_in : List ObjectTrace → ℕ
steps_in ts = sum_by (λ (o : ObjectTrace). length o.steps) ts

abbrev pub first_line : List ℕ
first_line = line (codes "trace" ∷ codes "1" ∷ [])

-- the last line, with the sum of the objects' counts
abbrev pub end_line : ℕ → List ℕ
end_line total = line (codes "end" ∷ decimal total ∷ [])

-- the lines of a trace text; the objects are numbered from 1
abbrev pub trace_lines : List ObjectTrace → List (List ℕ)
trace_lines ts = first_line ∷ (lines_from 1 ts ++ end_line (steps_in ts) ∷ [])

unfoldable pub trace_text_of : List ObjectTrace → List ℕ
trace_text_of ts = concat (trace_lines ts)

-- the steps of all objects, one object after another
abbrev pub all_steps : List ObjectTrace → List Step
all_steps ts = flat_map (λ (o : ObjectTrace). o.steps) ts

-- the greatest time of a step, or 0
abbrev pub last_time : List Step → ℕ
last_time steps = fold (λ t (s : Step). max t s.event.time) 0 steps

-- what one step adds to the sum
abbrev pub step_sum : Step → ℕ
step_sum s = (s.event.time + 1) * (s.event.src + 1) + s.event.load + s.word

-- a line for each number, with its word before it
abbrev pub summary_lines : ℕ → ℕ → ℕ → ℕ → ℕ → ℕ → ℕ → List (List ℕ)
summary_lines objects events windows tables peak last sum =
    line (codes "objects" ∷ decimal objects ∷ [])
    ∷ line (codes "events" ∷ decimal events ∷ [])
    ∷ line (codes "windows" ∷ decimal windows ∷ [])
    ∷ line (codes "tables" ∷ decimal tables ∷ [])
    ∷ line (codes "peak" ∷ decimal peak ∷ [])
    ∷ line (codes "last" ∷ decimal last ∷ [])
    ∷ line (codes "sum" ∷ decimal sum ∷ [])
    ∷ []

unfoldable pub summary_text_of : Outcome → List ℕ
summary_text_of o =
    concat (summary_lines (length o.traces) (steps_in o.traces) o.windows (length o.tables) o.peak (last_time (all_steps o.traces)) (sum_by step_sum (all_steps o.traces) % 2 ^ 64))
