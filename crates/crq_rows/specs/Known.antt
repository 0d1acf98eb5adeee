-- What a caller last knew of a word, and whether its exchanges expected that.
use Rattle.std.specs.Prelude.{◌≡◌, ◌≢◌, ℕ, ◌==◌, ◌+◌, ◌-◌, ◌^◌, min, cond, Bool, true, false, List, [], ◌∷◌, ◌++◌, drop, Option, Some, None}
use Rattle.crq_base.specs.declared.kinds.StepKind.{StepKind}
use Rattle.crq_base.specs.declared.kinds.StepKind.TheVariants.{Tick, Link, Mark, Cut, Settle, Raise, Announce, Prepare, FreezeHead, FreezeNode, Copy, Bind, Validate, Discard, Pop, Pin, Pass, Finish}
use Rattle.crq_rule.specs.declared.view.Guard.TheVariants.{Off}
use Rattle.crq_rule.specs.declared.view.Made.{Made}
use Rattle.crq_rule.specs.declared.view.Caller.{Caller}

-- the kinds that exchange a word
abbrev pub is_exchange : StepKind → Bool
is_exchange Tick = true
is_exchange Link = true
is_exchange Mark = true
is_exchange Cut = true
is_exchange Settle = true
is_exchange Raise = true
is_exchange Announce = true
is_exchange Prepare = true
is_exchange FreezeHead = true
is_exchange FreezeNode = true
is_exchange Copy = true
is_exchange Bind = true
is_exchange Validate = true
is_exchange Discard = true
is_exchange Pop = true
is_exchange Pin = true
is_exchange Pass = true
is_exchange Finish = true
is_exchange _ = false

abbrev pub is_tick : StepKind → Bool
is_tick Tick = true
is_tick _ = false

abbrev pub is_link : StepKind → Bool
is_link Link = true
is_link _ = false

-- what its word is known to be after the step: what was found, or the new word of an exchange that found what it expected
abbrev pub known_by : Made → ℕ
known_by m = cond (is_exchange m.kind) (cond (m.found == m.first) m.second m.found) m.found

abbrev pub rather : Option ℕ → Option ℕ → Option ℕ
rather (Some a) b = Some a
rather None b = b

-- what the last of these steps on the word w made known of it
abbrev pub last_known : List Made → ℕ → Option ℕ
last_known [] w = None
last_known (m ∷ ms) w = rather (last_known ms w) (cond (m.word == w) (Some (known_by m)) None)

-- the step, if it is an exchange, expects what the steps since the first n made known of its word, and another word is to stand there
abbrev pub Expects : ℕ → List Made → Made → Type 0
Expects n made m = is_exchange m.kind ≡ true → (last_known (drop n made) m.word ≡ Some m.first) × (m.first ≢ m.second)

-- who the caller is, what it was dealt, found and told, its guard, its permit and what its take saw stay
pub record Stays (p q : Caller) : Type 0 where
  pub number : q.number ≡ p.number
  pub start : q.start ≡ p.start
  pub deal : q.deal ≡ p.deal
  pub found : q.found ≡ p.found
  pub guard : q.guard ≡ p.guard
  pub permit : q.permit ≡ p.permit
  pub sight : q.sight ≡ p.sight
  pub told : q.told ≡ p.told

-- one step more was made, which expects what it should. The epoch is only raised without a guard, and only the step that links a row changes what event is owed
pub record Works (n : ℕ) (exchanges : Bool) (p q : Caller) : Type 0 where
  pub stays : Stays p q
  pub step : Made
  pub made : q.made ≡ p.made ++ step ∷ []
  pub kind : is_exchange step.kind ≡ exchanges
  pub expects : Expects n p.made step
  pub timed : is_tick step.kind ≡ true → p.guard ≡ Off
  pub settle : is_link step.kind ≡ false → q.debts.settle ≡ p.debts.settle

-- the exchanges counted after a step
abbrev pub turns_after : Bool → ℕ → ℕ
turns_after exchanges turns = cond exchanges (min (turns + 1) (2 ^ 32 - 1)) turns
