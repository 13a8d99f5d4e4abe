-- What the words of a line ask for.
use Rattle.std.specs.Prelude.{ℕ, if◌then◌else◌, List, [], Some, None, codes, Option}
use Rattle.std.specs.Str.{bytes_eq}
use Rattle.staircase.specs.Limits.{tabled}
use Rattle.staircase.specs.Of.{staircases_of}
use Rattle.staircase.specs.declared.table.Staircase.{Staircase}
use Rattle.replay.specs.declared.calls.Call.TheVariants.{Ticks, Sample, Bound}
use Rattle.replay.specs.declared.lines.Line.{Line}
use Rattle.replay.specs.declared.lines.Line.TheVariants.{Begin, Make}

-- a word by itself
abbrev pub alone : List ℕ → Option Line
alone name = if bytes_eq name (codes "sample") then Some (Make Sample) else None

-- a word and a number
abbrev pub counting : List ℕ → ℕ → Option Line
counting name number =
    if bytes_eq name (codes "ticks") then Some (Make (Ticks number))
    else if bytes_eq name (codes "bound") then Some (Make (Bound number))
    else None

-- the staircases that a line begins with; a call begins with none
abbrev pub begun : Line → List (Option Staircase)
begun (Begin table) = staircases_of table
begun (Make call) = []

-- a word and the staircases of a table, of which there is one at least
abbrev pub beginning : List ℕ → List (Option Staircase) → Option (List (Option Staircase))
beginning name staircases = if bytes_eq name (codes "table") then tabled staircases else None
