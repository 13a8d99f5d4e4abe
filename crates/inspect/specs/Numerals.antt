-- Numbers on the command line.
use Rattle.std.specs.Prelude.{ℕ, ◌+◌, ◌-◌, ◌*◌, min, if◌then◌else◌, List, [], ◌∷◌, Some, None, Option, nat_le}
use Rattle.std.specs.Option.{option_and_then}

abbrev pub greatest : ℕ
greatest = 4294967295

abbrev pub digit_of : ℕ → Option ℕ
digit_of b = if nat_le 48 b then (if nat_le b 57 then Some (b - 48) else None) else None

-- one digit more behind `value`
abbrev pub appended : ℕ → ℕ → ℕ
appended value digit = min (min (value * 10) greatest + digit) greatest

-- `value` so far, and then the rest of the digits
abbrev pub numeral_from : ℕ → List ℕ → Option ℕ
numeral_from value [] = Some value
numeral_from value (b ∷ bs) = option_and_then (λ d. numeral_from (appended value d) bs) (digit_of b)

-- decimal digits, one at least
abbrev pub numeral : List ℕ → Option ℕ
numeral [] = None
numeral (b ∷ bs) = numeral_from 0 (b ∷ bs)
