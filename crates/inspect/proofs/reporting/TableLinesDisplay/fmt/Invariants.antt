use Rattle.std.proofs.Common.{◌≡◌, ℕ, List, ◌++◌, map, Option}
use Rattle.std.specs.Array.Iter.{array_into_iter_items}
use Rattle.std.specs.Fmt.{HasWritten, IsPlainFormatter}
use Rattle.std.specs.Iterator.Adapters.{enumerate_source, enumerate_count}
use Rattle.std.specs.List.{flat_map}
use Rattle.std.specs.Option.{option_map}
use Rattle.staircase.specs.Of.{stair_of, stairs_of}
use Rattle.staircase.specs.declared.table.Staircase.{Staircase}
use Rattle.inspect.specs.Report.{stair_line, stair_lines}
use Rattle.inspect.proofs.reporting.TableLinesDisplay.fmt.Given as goal

-- the lines of the places so far
abbrev pub written : List (ℕ × Option Staircase) → List ℕ
written places = flat_map (λ p. stair_line p.0 (option_map stair_of p.1)) places

abbrev pub invariant-loop-number : goal.invariant-loop-number
invariant-loop-number g l = record {
  so_far : IsPlainFormatter l.initial.f → HasWritten g.W.Write.write_str_gives l.initial.f (written l.yielded) l.f;
  whole : written l.yielded ++ stair_lines (enumerate_count l.number-iterator) (map (option_map stair_of) (array_into_iter_items (enumerate_source l.number-iterator))) ≡ stair_lines 0 (stairs_of l.self.0);
}
