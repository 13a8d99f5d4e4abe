-- Runs of calls from a new table on, and what is read off them.
use Rattle.std.specs.Prelude.{◌≡◌, ℕ, suc, List, [], ◌∷◌, Some, None, Option}
use Rattle.staircase.specs.Tables.{all_elapsed, lowest_empty, arrived, least_bound}
use Rattle.staircase.specs.declared.counter.Counter.{Counter}

-- A call and its answer: a tick; a sample, and the number of the staircase that it was refused for, if it was; a bound
-- asked for a horizon, and the number told.
pub data Moment : Type 0 where
  tick : Moment
  sample : Option ℕ → Moment
  bound : ℕ → ℕ → Moment

-- Any calls in any order, each as its contract has it. The newest moment comes first.
pub data Run (start : List (Option Counter)) : List Moment → List (Option Counter) → Type 0 where
  begins : Run start [] start
  ticks : {ms : List Moment} {cs : List (Option Counter)} → Run start ms cs → Run start (tick ∷ ms) (all_elapsed cs)
  arrives : {ms : List Moment} {cs : List (Option Counter)} → Run start ms cs → Run start (sample (lowest_empty cs) ∷ ms) (arrived cs)
  asks : {ms : List Moment} {cs : List (Option Counter)} {horizon n : ℕ} → Run start ms cs → Some n ≡ least_bound cs horizon → Run start (bound horizon n ∷ ms) cs

-- how many ticks were made: what a clock that began at 0 shows
abbrev pub clock : List Moment → ℕ
clock [] = 0
clock (tick ∷ ms) = suc (clock ms)
clock (sample refusal ∷ ms) = clock ms
clock (bound horizon n ∷ ms) = clock ms

-- the ticks in which the accepted samples fell, each in the one that the clock showed
abbrev pub fell : List Moment → List ℕ
fell [] = []
fell (tick ∷ ms) = fell ms
fell (sample None ∷ ms) = clock ms ∷ fell ms
fell (sample (Some number) ∷ ms) = fell ms
fell (bound horizon n ∷ ms) = fell ms
