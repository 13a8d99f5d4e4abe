-- What each step of the reader gives, and where it leaves the reader.
use Rattle.std.specs.Prelude.{ℕ, ◌+◌, ◌*◌, Bool, true, false, if◌then◌else◌, List, [], ◌∷◌, drop, is_some, Some, None, Ok, Err, Option, Result}
use Rattle.std.specs.Option.{unwrap_or, option_map}
use Rattle.std.specs.Result.{result_map_both}
use Rattle.staircase.specs.Limits.{any_there, within, most_burst, most_step, most_capacity, most_break_even}
use Rattle.staircase.specs.Of.{Stair, stair_of, stairs_of, value_of}
use Rattle.staircase.specs.declared.figures.Limited.{Limited}
use Rattle.staircase.specs.declared.table.Staircase.{Staircase}
use Rattle.staircase.specs.declared.table.Table.{Table}
use Rattle.record.specs.Layout.{stands, width, table_width}
use Rattle.record.specs.Setups.{Content, default_capacity, default_break_even}
use Rattle.record.specs.declared.faults.RecordFault.{RecordFault}
use Rattle.record.specs.declared.faults.RecordFault.TheVariants.{NoStaircase, Short, Beyond}
use Rattle.record.specs.declared.reader.Reader.{Reader}

-- what is left of a record, and the offset at which that begins
pub record Cursor : Type 0 where
  pub rest : List ℕ
  pub offset : ℕ

abbrev pub cursor_of : Reader → Cursor
cursor_of r = record { rest = r.rest.now; offset = r.offset }

-- n bytes further on
abbrev pub past : ℕ → Cursor → Cursor
past n c = record { rest = drop n c.rest; offset = c.offset + n }

-- ────────────────────────────────── the answers

abbrev pub table_of : Result Table RecordFault → Result (List (Option Stair)) RecordFault
table_of r = result_map_both stairs_of (λ e. e) r

abbrev pub figure_of : {most : ℕ} → Result (Limited most) RecordFault → Result ℕ RecordFault
figure_of r = result_map_both value_of (λ e. e) r

abbrev pub staircase_of : Result (Option Staircase) RecordFault → Result (Option Stair) RecordFault
staircase_of r = result_map_both (option_map stair_of) (λ e. e) r

abbrev pub field_of : {most : ℕ} → Result (Option (Limited most)) RecordFault → Result (Option ℕ) RecordFault
field_of r = result_map_both (option_map value_of) (λ e. e) r

abbrev pub and_then : {A B : Type 0} → Result A RecordFault → (A → Result B RecordFault) → Result B RecordFault
and_then (Ok x) f = f x
and_then (Err e) f = Err e

abbrev pub first_byte : List ℕ → ℕ → Result ℕ RecordFault
first_byte [] o = Err (Short o)
first_byte (b ∷ bs) o = Ok b

abbrev pub first_pair : List ℕ → ℕ → Result ℕ RecordFault
first_pair [] o = Err (Short o)
first_pair (h ∷ []) o = Err (Short (o + 1))
first_pair (h ∷ (l ∷ bs)) o = Ok (h * 256 + l)

abbrev pub byte_read : Cursor → Result ℕ RecordFault
byte_read c = first_byte c.rest c.offset

abbrev pub pair_read : Cursor → Result ℕ RecordFault
pair_read c = first_pair c.rest c.offset

-- a field that begins at the offset o
abbrev pub judged : ℕ → ℕ → ℕ → Result ℕ RecordFault
judged most o n = if within most n then Ok n else Err (Beyond o)

abbrev pub burst_read : Cursor → Result ℕ RecordFault
burst_read c = and_then (byte_read c) (judged most_burst c.offset)

abbrev pub figure_read : ℕ → Cursor → Result ℕ RecordFault
figure_read most c = and_then (pair_read c) (judged most c.offset)

abbrev pub stair_read : Bool → Cursor → Result (Option Stair) RecordFault
stair_read false c = Ok None
stair_read true c = and_then (burst_read c) (λ b. and_then (figure_read most_step (past 1 c)) (λ s. Ok (Some (record { burst = b; step = s }))))

abbrev pub field_read : ℕ → Bool → Cursor → Result (Option ℕ) RecordFault
field_read most false c = Ok None
field_read most true c = and_then (figure_read most c) (λ n. Ok (Some n))

abbrev pub tabled_read : List (Option Stair) → Result (List (Option Stair)) RecordFault
tabled_read ss = if any_there ss then Ok ss else Err NoStaircase

abbrev pub table_read : ℕ → Cursor → Result (List (Option Stair)) RecordFault
table_read bits c =
    and_then (stair_read (stands bits 0) c) (λ s₀.
    and_then (stair_read (stands bits 1) (past (width bits 0) c)) (λ s₁.
    and_then (stair_read (stands bits 2) (past (width bits 1) (past (width bits 0) c))) (λ s₂.
    and_then (stair_read (stands bits 3) (past (width bits 2) (past (width bits 1) (past (width bits 0) c)))) (λ s₃.
    tabled_read (s₀ ∷ s₁ ∷ s₂ ∷ s₃ ∷ [])))))

-- the bits say which fields there are; defaults stand for the figures that are left out
abbrev pub setup_read : ℕ → Cursor → Result Content RecordFault
setup_read bits c =
    and_then (table_read bits c) (λ ss.
    and_then (field_read most_capacity (stands bits 4) (past (table_width bits) c)) (λ q.
    and_then (field_read most_break_even (stands bits 5) (past (width bits 4) (past (table_width bits) c))) (λ e.
    Ok (record {
      staircases = ss;
      capacity = unwrap_or q default_capacity;
      break_even = unwrap_or e default_break_even;
      capacity_stated = is_some q;
      break_even_stated = is_some e;
    }))))
