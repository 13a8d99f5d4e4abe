use Rattle.std.proofs.Common.{◌≡◌}
use Rattle.staircase.specs.Tables.{counters_of}
use Rattle.replay.specs.Replayed.{elapsed_by}
use Rattle.replay.proofs.calls.pass.Given as goal

abbrev pub invariant-loop-done : goal.invariant-loop-done
invariant-loop-done l = counters_of l.counters ≡ elapsed_by l._done (counters_of l.initial.counters)
