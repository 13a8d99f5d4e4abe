-- Whole steps in a stretch of ticks: division by an unknown step.
use Rattle.std.proofs.Common.{ℕ, ◌+◌, ◌*◌, ◌/◌, ◌<◌, ◌≤◌, ◌↔◌, mul-le-mul_right, div-lt_iff_lt-mul, mul-le-mul_left, div-mul-le_self, arith}
use Rattle.std.proofs.Math.Nat.{lt-div-mul-add, mul-add-div_right}
use Rattle.std.proofs.lemmas.Nat.{le-div}

div_at_most : (x d q : ℕ) → 0 < d → x < (q + 1) * d → x / d ≤ q
div_at_most x d q pos h = let k : x / d < q + 1 = (div-lt_iff_lt-mul pos).1 h in omega arith

pub div_grows : (x y d : ℕ) → 0 < d → x ≤ y → x / d ≤ y / d
div_grows x y d pos h = le-div (x / d) y d pos (omega (arith, div-mul-le_self x d))

-- of a stretch in two parts and the tick between them
pub div_parts : (x y d : ℕ) → 0 < d → (x + 1 + y) / d ≤ x / d + y / d + 1
div_parts x y d pos =
    let h : x < x / d * d + d = lt-div-mul-add pos in
    let k : y < y / d * d + d = lt-div-mul-add pos in
    div_at_most (x + 1 + y) d (x / d + y / d + 1) pos (omega arith)

pub div_wider : (x d e : ℕ) → 0 < d → d ≤ e → x / e ≤ x / d
div_wider x d e pos h = le-div (x / e) x d pos (omega (arith, mul-le-mul_left (x / e) h, div-mul-le_self x e))

-- a count of samples, and the count times the step
pub by_step : (n burst step more : ℕ) → 0 < step → (n ≤ burst + more / step) ↔ (n * step ≤ burst * step + more)
by_step n burst step more pos = (
  λ h. omega (arith, mul-le-mul_right step h, div-mul-le_self more step),
  λ h. omega (arith, le-div n (burst * step + more) step pos h, mul-add-div_right pos burst more),
)
