-- PHOLD models (Fujimoto 1990) whose seeds and starts are drawn.
use Rattle.std.specs.Prelude.{ℕ, zero, suc, ◌+◌, ◌*◌, ◌%◌, ◌++◌, map, codes}
use Rattle.std.specs.Fmt.{decimal}
use Rattle.std.specs.List.{range_with_len}
use Rattle.crq_sim.specs.declared.model.Behaviour.TheVariants.{Phold}
use Rattle.crq_sim.specs.declared.model.Object.{Object}
use Rattle.crq_sim.specs.declared.model.Start.{Start}
use Rattle.crq_sim.specs.Draws.{drawn, next_state}
use Rattle.crq_sim.specs.Models.{ModelData}

-- the state of a generator after so many draws
unfoldable pub state_after_draws : ℕ → ℕ → ℕ
state_after_draws seed zero = seed
state_after_draws seed (suc n) = next_state (state_after_draws seed n)

-- the draws of a generator, counted from 0
abbrev pub draw_at : ℕ → ℕ → ℕ
draw_at seed n = drawn (state_after_draws seed n)

-- the objects, counted from 0: one draw for the seed of each
abbrev pub generated_object : ℕ → ℕ → Object
generated_object seed i = record { name = codes "p" ++ decimal (i + 1); behaviour = Phold (draw_at seed i) 240 }

-- the starts, counted from 0: after the seeds of so many objects two draws for each, its object and then its time
abbrev pub generated_start : ℕ → ℕ → ℕ → Start
generated_start seed objects i = record { time = draw_at seed (objects + 2 * i + 1) % 256; object = 1 + draw_at seed (objects + 2 * i) % objects; load = i }

abbrev pub generated : ℕ → ℕ → ℕ → ModelData
generated seed objects population = record {
  lookahead = 16;
  until = 2000;
  objects = map (generated_object seed) (range_with_len 0 objects);
  starts = map (generated_start seed objects) (range_with_len 0 population);
}
