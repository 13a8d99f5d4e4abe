-- The lines that tell what a record or a sheet says.
use Rattle.std.specs.Prelude.{ℕ, ◌+◌, Bool, true, false, List, [], ◌∷◌, ◌++◌, Some, None, Ok, Err, codes, decimal, Option, Result}
use Rattle.fault.specs.Text.{text}
use Rattle.fault.specs.declared.Fault.{Fault}
use Rattle.staircase.specs.Of.{Stair}
use Rattle.record.specs.Setups.{Content}

-- a line feed
abbrev pub end : List ℕ
end = 10 ∷ []

-- of the staircase of that number, if it is there
abbrev pub stair_line : ℕ → Option Stair → List ℕ
stair_line number None = []
stair_line number (Some s) = codes "staircase " ++ (decimal number ++ (codes ": burst " ++ (decimal s.burst ++ (codes ", step " ++ (decimal s.step ++ end)))))

-- one after another, numbered from `number` on
abbrev pub stair_lines : ℕ → List (Option Stair) → List ℕ
stair_lines number [] = []
stair_lines number (s ∷ ss) = stair_line number s ++ stair_lines (number + 1) ss

-- a figure that was not given is marked
abbrev pub mark : Bool → List ℕ
mark true = []
mark false = codes " (default)"

abbrev pub figure_line : List ℕ → ℕ → Bool → List ℕ
figure_line name value stated = name ++ (codes " " ++ (decimal value ++ (mark stated ++ end)))

abbrev pub figure_lines : Content → List ℕ
figure_lines c = figure_line (codes "capacity") c.capacity c.capacity_stated ++ figure_line (codes "break-even") c.break_even c.break_even_stated

abbrev pub content_lines : Content → List ℕ
content_lines c = stair_lines 0 c.staircases ++ figure_lines c

-- what is said, or the fault
abbrev pub report_lines : Result Content Fault → List ℕ
report_lines (Ok c) = content_lines c
report_lines (Err f) = text f ++ end
