-- When a table record is taken, and with what; when it is refused, and as what.
use Rattle.std.specs.Prelude.{◌≡◌, ℕ, ◌<◌, true, false, ◌⊎◌, ◌↔◌, List, [], length, Ok, Err, Result, slice_index}
use Rattle.staircase.specs.Limits.{any_there}
use Rattle.record.specs.Layout.{Fields, placed, bit_map, layout, stands, called_for}
use Rattle.record.specs.Limits.{Each, Kept, FirstBeyond}
use Rattle.record.specs.Setups.{Content, meaning}
use Rattle.record.specs.declared.faults.RecordFault.{RecordFault}
use Rattle.record.specs.declared.faults.RecordFault.TheVariants.{Empty, UnknownBits, NoStaircase, Short, Long, Beyond}

-- some fields that keep their limits, a staircase among them, are laid out in these bytes, and they mean c
pub record Says (bytes : List ℕ) (c : Content) : Type 0 where
  pub fields : Fields
  pub some : any_there (meaning fields).staircases ≡ true
  pub limits : Each Kept (placed fields)
  pub laid : layout fields ≡ bytes
  pub means : meaning fields ≡ c

-- the first byte is the bit map
abbrev pub bits_of : List ℕ → ℕ
bits_of bytes = slice_index bytes 0

-- what each refusal says of a record
abbrev pub Condition : List ℕ → RecordFault → Type 0
Condition bytes Empty = bytes ≡ []
Condition bytes UnknownBits = (stands (bits_of bytes) 6 ≡ true) ⊎ (stands (bits_of bytes) 7 ≡ true)
Condition bytes NoStaircase = (k : ℕ) → k < 4 → stands (bits_of bytes) k ≡ false
Condition bytes (Short n) = (length bytes < called_for (bits_of bytes)) × (n ≡ length bytes)
Condition bytes (Long n) = (called_for (bits_of bytes) < length bytes) × (n ≡ called_for (bits_of bytes))
Condition bytes (Beyond o) = (f : Fields) × (layout f ≡ bytes) × FirstBeyond 1 (placed f) o

-- the order in which they are told
abbrev pub order : RecordFault → ℕ
order Empty = 0
order UnknownBits = 1
order NoStaircase = 2
order (Short n) = 3
order (Long n) = 4
order (Beyond o) = 5

-- this refusal applies, and none before it
pub record First (bytes : List ℕ) (e : RecordFault) : Type 0 where
  pub applies : Condition bytes e
  pub none_before : (d : RecordFault) → order d < order e → Condition bytes d → ⊥

pub record Exact (bytes : List ℕ) (r : Result Content RecordFault) : Type 0 where
  pub taken : (c : Content) → (r ≡ Ok c) ↔ Says bytes c
  pub refused : (e : RecordFault) → (r ≡ Err e) ↔ First bytes e

-- what a bit map calls for is the length of every layout that begins with it
abbrev pub Lengths : Type 0
Lengths = (f : Fields) → length (layout f) ≡ called_for (bit_map f)
