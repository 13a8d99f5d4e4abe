-- The limits of figures and tables, and what a making answers to keep them.
use Rattle.std.specs.Prelude.{ℕ, ◌≤◌, Bool, ◌&&◌, if◌then◌else◌, List, is_some, Some, None, Option, nat_le}
use Rattle.std.specs.List.{list_any}

-- a figure of 1 to `most`
abbrev pub Within : ℕ → ℕ → Type 0
Within most n = (1 ≤ n) × (n ≤ most)

abbrev pub within : ℕ → ℕ → Bool
within most n = nat_le 1 n && nat_le n most

-- the value itself where it is within its limits, and nothing where it is not
abbrev pub limited : ℕ → ℕ → Option ℕ
limited most n = if within most n then Some n else None

-- what figures go up to: samples for burst and capacity, ticks for step and break-even
abbrev pub most_burst : ℕ
most_burst = 255

abbrev pub most_step : ℕ
most_step = 10000

abbrev pub most_capacity : ℕ
most_capacity = 256

abbrev pub most_break_even : ℕ
most_break_even = 60000

-- some place is taken
abbrev pub any_there : {A : Type 0} → List (Option A) → Bool
any_there xs = list_any is_some xs

-- the places themselves where one is taken, and nothing where all are free
abbrev pub tabled : {A : Type 0} → List (Option A) → Option (List (Option A))
tabled xs = if any_there xs then Some xs else None
