use Rattle.std.proofs.Common.{◌≡◌, Ok, Err, Result}
use Rattle.std.specs.Result.{OnOk}
use Rattle.record.specs.Layout.{table_width}
use Rattle.record.specs.Steps.{cursor_of, past}
use Rattle.record.proofs.Moves.{past_table}
use Rattle.record.proofs.reading.table.Goals as goal

on_ok : {T E P : Type 0} (r : Result T E) → P → OnOk r P
on_ok (Ok x) p = p
on_ok (Err e) p = tt

pub returns-clause-moved : goal.returns-clause-moved
returns-clause-moved c =
    let start = cursor_of c.args.reader.now in
    let moved : cursor_of c.staircase-4.new.self ≡ past (table_width c.args.map.0) start =
    cc (past_table c.args.map.0 start, c.in_ok-staircase.ensures.moved, c.in_ok-staircase-2.ensures.moved, c.in_ok-staircase-3.ensures.moved, c.in_ok-staircase-4.ensures.moved)
    in
    on_ok _ moved
