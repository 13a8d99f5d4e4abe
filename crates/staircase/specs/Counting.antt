-- One counter: its limits, what a tick and a sample make of it, and its bound.
use Rattle.std.specs.Prelude.{◌≡◌, ℕ, ◌+◌, ◌-◌, ◌*◌, ◌/◌, ◌≤◌, min, Bool, true, if◌then◌else◌, List, length, IfSome, Option, ◌==◌, nat_le}
use Rattle.std.specs.List.{All}
use Rattle.staircase.specs.Limits.{Within, most_burst, most_step, any_there}
use Rattle.staircase.specs.Of.{Stair}
use Rattle.staircase.specs.declared.counter.Counter.{Counter}

-- Burst and step are those of a staircase, there are at most as many tokens as the burst, and the timer is at most the step.
abbrev pub Proper : Counter → Type 0
Proper c = Within most_burst c.burst × Within most_step c.step × (c.tokens ≤ c.burst) × Within c.step c.timer

-- every counter that stands in a place is within its limits
abbrev pub AllProper : List (Option Counter) → Type 0
AllProper cs = All (λ o. IfSome o Proper) cs

-- four places, one of them at least with a counter, and every counter within its limits
pub record Sound (cs : List (Option Counter)) : Type 0 where
  pub counters : length cs ≡ 4
  pub some : any_there cs ≡ true
  pub limits : AllProper cs

-- a new counter is full
abbrev pub full : Stair → Counter
full s = record { burst = s.burst; step = s.step; tokens = s.burst; timer = s.step }

-- the same counter with these tokens and this timer
abbrev pub holding : Counter → ℕ → ℕ → Counter
holding c tokens timer = record { burst = c.burst; step = c.step; tokens = tokens; timer = timer }

-- after a tick: a timer that has run out is set to the step again and brings a token, unless there are as many as the burst
abbrev pub elapsed : Counter → Counter
elapsed c = if nat_le c.timer 1 then holding c (min c.burst (c.tokens + 1)) c.step else holding c c.tokens (c.timer - 1)

-- after a sample: the timer of a full counter is set to the step, and a token is taken
abbrev pub charged : Counter → Counter
charged c = holding c (c.tokens - 1) (if c.tokens == c.burst then c.step else c.timer)

-- a counter without tokens
abbrev pub is_empty : Counter → Bool
is_empty c = c.tokens == 0

-- the ticks that it takes to fill up if no sample comes: a step for each token that it lacks, less what the timer has run
abbrev pub until_full : Counter → ℕ
until_full c = if c.tokens == c.burst then 0 else (c.burst - c.tokens) * c.step - (c.step - c.timer)

-- the most samples that it lets come in the present tick and so many more
abbrev pub bound : Counter → ℕ → ℕ
bound c horizon = (c.burst * c.step - until_full c + horizon) / c.step
