use Rattle.std.proofs.Common.{◌≡◌, ◌++◌, map, take, drop}
use Rattle.std.specs.Option.{option_map}
use Rattle.staircase.specs.Counting.{charged}
use Rattle.staircase.proofs.slots.Slots.charge.Given as goal

abbrev pub invariant-loop-place : goal.invariant-loop-place
invariant-loop-place l = l.place-items ≡ map (option_map charged) (take l.place-index l.initial.place-items) ++ drop l.place-index l.initial.place-items
