-- A fault of a known layer as one number, for callers that can take no more.
use Rattle.std.specs.Prelude.{◌≡◌, ℕ, ◌+◌, ◌*◌, ◌/◌, ◌%◌}
use Rattle.fault.specs.declared.Fault.{Fault}

abbrev pub packed : Fault → ℕ
packed f = f.number * 65536 + f.place

-- number and place can be read off again
pub record Apart (f : Fault) (n : ℕ) : Type 0 where
  pub number : n / 65536 ≡ f.number
  pub place : n % 65536 ≡ f.place
