-- What a call is answered, as text too, and what it leaves of the counters.
use Rattle.std.specs.Prelude.{ℕ, zero, suc, List, ◌++◌, Some, None, Ok, Err, codes, decimal, Option, Result}
use Rattle.std.specs.Option.{option_map}
use Rattle.staircase.specs.Tables.{all_elapsed, lowest_empty, arrived, least_bound}
use Rattle.staircase.specs.declared.counter.Counter.{Counter}
use Rattle.staircase.specs.declared.counters.Broken.{Broken}
use Rattle.replay.specs.declared.calls.Answer.{Answer}
use Rattle.replay.specs.declared.calls.Answer.TheVariants.{Sample as Judged, Bound as Told}
use Rattle.replay.specs.declared.calls.Call.{Call}
use Rattle.replay.specs.declared.calls.Call.TheVariants.{Ticks, Sample, Bound}

-- after so many ticks
abbrev pub elapsed_by : ℕ → List (Option Counter) → List (Option Counter)
elapsed_by zero cs = cs
elapsed_by (suc n) cs = all_elapsed (elapsed_by n cs)

abbrev pub left : Call → List (Option Counter) → List (Option Counter)
left (Ticks count) cs = elapsed_by count cs
left Sample cs = arrived cs
left (Bound horizon) cs = cs

-- a sample is accepted, or refused for the staircase of that number
abbrev pub judgement : Option ℕ → Result (Unit {0}) Broken
judgement None = Ok tt
judgement (Some number) = Err (record { staircase = number })

-- ticks are not answered
abbrev pub answered : Call → List (Option Counter) → Option Answer
answered (Ticks count) cs = None
answered Sample cs = Some (Judged (judgement (lowest_empty cs)))
answered (Bound horizon) cs = option_map Told (least_bound cs horizon)

abbrev pub text : Answer → List ℕ
text (Judged (Ok done)) = codes "accepted"
text (Judged (Err broken)) = codes "refused " ++ decimal broken.staircase
text (Told n) = codes "bound " ++ decimal n
