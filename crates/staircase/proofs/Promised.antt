-- The promise of a table's counters over every run.
use Rattle.std.proofs.Common.{◌≡◌, true, List, Option}
use Rattle.staircase.specs.Limits.{any_there}
use Rattle.staircase.specs.Of.{Stair}
use Rattle.staircase.specs.Tables.{fresh}
use Rattle.staircase.specs.Runs.{Moment, Run, begins, ticks, arrives, asks, clock, fell}
use Rattle.staircase.specs.Promise.{AllRight, Promise}
use Rattle.staircase.specs.declared.counter.Counter.{Counter}
use Rattle.staircase.proofs.Judging.{judged}
use Rattle.staircase.proofs.Bounding.{most_told}
use Rattle.staircase.proofs.Numbered.{any_there_lem}
use Rattle.staircase.proofs.Reached.{Lawful, counter_of, good}

module _ (table : List (Option Stair)) (lawful : Lawful table) (any : any_there table ≡ true) where
  right : {ms : List Moment} {cs : List (Option Counter)} → Run (fresh table) ms cs → AllRight table ms
  right begins = tt
  right (ticks run) = (tt, right run)
  right (arrives {ms = ms} {cs = cs} run) =
      (judged table (fell ms) (clock ms) cs (good table lawful run), right run)
  right (asks {ms = ms} {cs = cs} {horizon = h} {n = n} run e) =
      let g = good table lawful run in
      let s = any_there_lem table any in
      let c = counter_of g s.0 s.1 s.2 in
      (most_told table (fell ms) (clock ms) cs g c.0 (s.0, c.1) h n e, right run)

  pub promised : Promise table (fresh table)
  promised ms cs run = right run
