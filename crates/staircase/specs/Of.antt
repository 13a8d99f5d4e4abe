-- What figures, staircases and tables are to their users.
use Rattle.std.specs.Prelude.{ℕ, List, map, Option}
use Rattle.std.specs.Option.{option_map}
use Rattle.staircase.specs.declared.figures.Limited.{Limited}
use Rattle.staircase.specs.declared.table.Staircase.{Staircase}
use Rattle.staircase.specs.declared.table.Table.{Table}

abbrev pub value_of : {most : ℕ} → Limited most → ℕ
value_of f = f.value

-- a staircase by its two figures
pub record Stair : Type 0 where
  pub burst : ℕ
  pub step : ℕ

abbrev pub stair_of : Staircase → Stair
stair_of s = record { burst = value_of s.burst; step = value_of s.step }

-- by number, from 0 on
abbrev pub staircases_of : Table → List (Option Staircase)
staircases_of t = t.staircases

abbrev pub stairs_of : Table → List (Option Stair)
stairs_of t = map (option_map stair_of) (staircases_of t)
