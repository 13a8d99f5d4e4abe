-- What can stand in a table record, and the bytes that it is laid out in.
use Rattle.std.specs.Prelude.{ℕ, ◌+◌, ◌*◌, ◌/◌, ◌%◌, ◌^◌, Bool, if◌then◌else◌, List, [], ◌∷◌, ◌++◌, is_some, Some, None, Option, ◌==◌, nat_lt}
use Rattle.staircase.specs.Limits.{most_burst, most_step, most_capacity, most_break_even}
use Rattle.staircase.specs.Of.{Stair}

-- each field where it stands, and nothing where it is left out
pub record Fields : Type 0 where
  pub staircase0 : Option Stair
  pub staircase1 : Option Stair
  pub staircase2 : Option Stair
  pub staircase3 : Option Stair
  pub capacity : Option ℕ
  pub break_even : Option ℕ

-- ────────────────────────────────── from fields to bytes

-- a figure of 1 to `most` that stands in a record, and its bytes there
pub record Placed : Type 0 where
  pub most : ℕ
  pub value : ℕ
  pub bytes : List ℕ

abbrev pub together : List Placed → List ℕ
together [] = []
together (p ∷ ps) = p.bytes ++ together ps

abbrev pub in_one_byte : ℕ → ℕ → Placed
in_one_byte most n = record { most = most; value = n; bytes = n ∷ [] }

-- the high byte first
abbrev pub in_two_bytes : ℕ → ℕ → Placed
in_two_bytes most n = record { most = most; value = n; bytes = n / 256 ∷ n % 256 ∷ [] }

-- the burst, then the step
abbrev pub stair_placed : Option Stair → List Placed
stair_placed None = []
stair_placed (Some s) = in_one_byte most_burst s.burst ∷ in_two_bytes most_step s.step ∷ []

abbrev pub figure_placed : ℕ → Option ℕ → List Placed
figure_placed most None = []
figure_placed most (Some n) = in_two_bytes most n ∷ []

-- the figures of all fields that stand, in the order of the bits
abbrev pub placed : Fields → List Placed
placed f =
    stair_placed f.staircase0 ++ (stair_placed f.staircase1 ++ (stair_placed f.staircase2 ++ (stair_placed f.staircase3
    ++ (figure_placed most_capacity f.capacity ++ figure_placed most_break_even f.break_even))))

abbrev pub bit : {A : Type 0} → Option A → ℕ
bit v = if is_some v then 1 else 0

-- bits 0 to 3 for the staircases, 4 for the capacity, 5 for the break-even
abbrev pub bit_map : Fields → ℕ
bit_map f = bit f.staircase0 + 2 * bit f.staircase1 + 4 * bit f.staircase2 + 8 * bit f.staircase3 + 16 * bit f.capacity + 32 * bit f.break_even

-- the bit map, and then what stands
abbrev pub layout : Fields → List ℕ
layout f = bit_map f ∷ together (placed f)

-- ────────────────────────────────── what a bit map calls for

-- bit k of a bit map is set
abbrev pub stands : ℕ → ℕ → Bool
stands bits k = bits / 2 ^ k % 2 == 1

-- the bytes of a field that takes n of them, where it stands
abbrev pub wide : Bool → ℕ → ℕ
wide there n = if there then n else 0

-- the bytes that the field of bit k takes
abbrev pub width : ℕ → ℕ → ℕ
width bits k = wide (stands bits k) (if nat_lt k 4 then 3 else 2)

-- the bytes that the staircases take
abbrev pub table_width : ℕ → ℕ
table_width bits = width bits 0 + width bits 1 + width bits 2 + width bits 3

-- the length that a bit map calls for: its own byte and those of the fields
abbrev pub called_for : ℕ → ℕ
called_for bits = 1 + (table_width bits + width bits 4 + width bits 5)
