-- Streams of samples, and when they keep a staircase.
use Rattle.std.specs.Prelude.{◌≡◌, ℕ, zero, suc, ◌+◌, ◌-◌, ◌/◌, ◌≤◌, if◌then◌else◌, List, [], ◌∷◌, Some, None, Option, ◌==◌, nat_le, slice_index_or}
use Rattle.staircase.specs.Of.{Stair}

-- how many samples fall in each tick, from tick 0 on, without end
abbrev pub Stream : Type 0
Stream = ℕ → ℕ

-- how many fall in the tick `from` and the `more` ticks after it
abbrev pub brought : Stream → ℕ → ℕ → ℕ
brought c from zero = c from
brought c from (suc more) = brought c from more + c (from + suc more)

-- Wherever a stretch begins, it has at most the burst, and one sample more for each whole step from its first tick to its last.
abbrev pub Keeps : Stair → Stream → Type 0
Keeps s c = (from more : ℕ) → brought c from more ≤ s.burst + more / s.step

-- The table has this staircase under this number.
abbrev pub Numbered : List (Option Stair) → ℕ → Stair → Type 0
Numbered table number s = slice_index_or table number None ≡ Some s

abbrev pub KeepsAll : List (Option Stair) → Stream → Type 0
KeepsAll table c = (number : ℕ) (s : Stair) → Numbered table number s → Keeps s c

-- the stream of samples that fell in these ticks
abbrev pub falls : List ℕ → Stream
falls [] t = 0
falls (x ∷ xs) t = (if x == t then 1 else 0) + falls xs t

-- and then of a continuation, whose tick 0 is the tick `now`
abbrev pub followed : List ℕ → ℕ → Stream → Stream
followed came now c t = falls came t + (if nat_le now t then c (t - now) else 0)

-- The samples that came and the continuation together keep every staircase.
abbrev pub Continues : List (Option Stair) → List ℕ → ℕ → Stream → Type 0
Continues table came now c = KeepsAll table (followed came now c)
