-- The counters of a table by number, and what each call makes of them.
use Rattle.std.specs.Prelude.{ℕ, min, Bool, false, List, map, Some, None, Ok, Err, Option, Result}
use Rattle.std.specs.List.{filter_map, position, reduce}
use Rattle.std.specs.Option.{option_map}
use Rattle.staircase.specs.Of.{Stair}
use Rattle.staircase.specs.Counting.{full, elapsed, charged, is_empty, bound}
use Rattle.staircase.specs.declared.counter.Counter.{Counter}
use Rattle.staircase.specs.declared.counters.Broken.{Broken}
use Rattle.staircase.specs.declared.counters.Counters.{Counters}

-- by number
abbrev pub counters_of : Counters → List (Option Counter)
counters_of c = c.slots.counters

-- as a new table has them
abbrev pub fresh : List (Option Stair) → List (Option Counter)
fresh table = map (option_map full) table

-- each by its own timer
abbrev pub all_elapsed : List (Option Counter) → List (Option Counter)
all_elapsed cs = map (option_map elapsed) cs

abbrev pub all_charged : List (Option Counter) → List (Option Counter)
all_charged cs = map (option_map charged) cs

-- there, and without tokens
abbrev pub empty_there : Option Counter → Bool
empty_there None = false
empty_there (Some c) = is_empty c

-- the lowest number whose counter has no token
abbrev pub lowest_empty : List (Option Counter) → Option ℕ
lowest_empty cs = position empty_there cs

-- what an arrival answers: the staircase named for its refusal
abbrev pub refusal_of : Result (Unit {0}) Broken → Option ℕ
refusal_of (Ok done) = None
refusal_of (Err b) = Some b.staircase

-- after a sample: nothing changes if it is refused
abbrev pub sampled : Option ℕ → List (Option Counter) → List (Option Counter)
sampled None cs = all_charged cs
sampled (Some number) cs = cs

abbrev pub arrived : List (Option Counter) → List (Option Counter)
arrived cs = sampled (lowest_empty cs) cs

-- the least bound of those that are there
abbrev pub least_bound : List (Option Counter) → ℕ → Option ℕ
least_bound cs horizon = reduce min (filter_map (option_map (λ c. bound c horizon)) cs)
