-- How a table record is read.
use Rattle.std.specs.Prelude.{ℕ, suc, ◌+◌, ◌*◌, Bool, true, false, ◌||◌, if◌then◌else◌, List, [], ◌∷◌, length, drop, Some, None, Ok, Err, Option, Result, nat_lt, slice_index}
use Rattle.staircase.specs.Of.{Stair}
use Rattle.record.specs.Layout.{Fields, placed, stands, width, called_for}
use Rattle.record.specs.Limits.{first_beyond}
use Rattle.record.specs.Setups.{Content, meaning}
use Rattle.record.specs.declared.faults.RecordFault.{RecordFault}
use Rattle.record.specs.declared.faults.RecordFault.TheVariants.{Empty, UnknownBits, NoStaircase, Short, Long, Beyond}

-- ────────────────────────────────── the fields in the bytes

-- the number in the two bytes from place i on
abbrev pub number_at : List ℕ → ℕ → ℕ
number_at bytes i = slice_index bytes i * 256 + slice_index bytes (i + 1)

abbrev pub stair_in : Bool → List ℕ → Option Stair
stair_in false bytes = None
stair_in true bytes = Some (record { burst = slice_index bytes 0; step = number_at bytes 1 })

abbrev pub figure_in : Bool → List ℕ → Option ℕ
figure_in false bytes = None
figure_in true bytes = Some (number_at bytes 0)

-- what is left of the bytes after the bit map, once the fields of the bits below k are taken off
abbrev pub past1 : ℕ → List ℕ → List ℕ
past1 bits bytes = drop (width bits 0) bytes

abbrev pub past2 : ℕ → List ℕ → List ℕ
past2 bits bytes = drop (width bits 1) (past1 bits bytes)

abbrev pub past3 : ℕ → List ℕ → List ℕ
past3 bits bytes = drop (width bits 2) (past2 bits bytes)

abbrev pub past4 : ℕ → List ℕ → List ℕ
past4 bits bytes = drop (width bits 3) (past3 bits bytes)

abbrev pub past5 : ℕ → List ℕ → List ℕ
past5 bits bytes = drop (width bits 4) (past4 bits bytes)

-- the fields after a bit map
abbrev pub fields_after : ℕ → List ℕ → Fields
fields_after bits bytes = record {
  staircase0 = stair_in (stands bits 0) bytes;
  staircase1 = stair_in (stands bits 1) (past1 bits bytes);
  staircase2 = stair_in (stands bits 2) (past2 bits bytes);
  staircase3 = stair_in (stands bits 3) (past3 bits bytes);
  capacity = figure_in (stands bits 4) (past4 bits bytes);
  break_even = figure_in (stands bits 5) (past5 bits bytes);
}

-- ────────────────────────────────── the bit map and the length, then the limits

-- a bit that stands for no field is set
abbrev pub unknown : ℕ → Bool
unknown bits = stands bits 6 || stands bits 7

abbrev pub some_staircase : ℕ → Bool
some_staircase bits = stands bits 0 || (stands bits 1 || (stands bits 2 || stands bits 3))

-- the record's length against the bit map
abbrev pub length_checked : ℕ → ℕ → Result (Unit {0}) RecordFault
length_checked bits n =
    if nat_lt n (called_for bits) then Err (Short n)
    else if nat_lt (called_for bits) n then Err (Long (called_for bits))
    else Ok tt

-- the bit map by itself, and then the length
abbrev pub bits_checked : ℕ → ℕ → Result (Unit {0}) RecordFault
bits_checked bits n =
    if unknown bits then Err UnknownBits
    else if some_staircase bits then length_checked bits n
    else Err NoStaircase

-- a value that stands unless some field is beyond its limits
abbrev pub unless : {A : Type 0} → Option ℕ → A → Result A RecordFault
unless None x = Ok x
unless (Some o) x = Err (Beyond o)

abbrev pub judgement : Fields → Result Content RecordFault
judgement f = unless (first_beyond 1 (placed f)) (meaning f)

abbrev pub passing : Result (Unit {0}) RecordFault → Result Content RecordFault → Result Content RecordFault
passing (Ok u) r = r
passing (Err e) r = Err e

-- the bit map and the length first, then the fields
abbrev pub reading : List ℕ → Result Content RecordFault
reading [] = Err Empty
reading (bits ∷ bytes) = passing (bits_checked bits (suc (length bytes))) (judgement (fields_after bits bytes))
