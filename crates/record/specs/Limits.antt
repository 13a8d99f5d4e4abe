-- The limits of what stands in a record, and the first figure that breaks them.
use Rattle.std.specs.Prelude.{◌≡◌, ℕ, ◌+◌, Bool, if◌then◌else◌, List, [], ◌∷◌, ◌++◌, length, Some, None, Option}
use Rattle.staircase.specs.Limits.{Within, within}
use Rattle.record.specs.Layout.{Placed, together}

abbrev pub Kept : Placed → Type 0
Kept p = Within p.most p.value

abbrev pub kept : Placed → Bool
kept p = within p.most p.value

abbrev pub Each : {A : Type 0} → (A → Type 0) → List A → Type 0
Each P [] = Unit {0}
Each P (x ∷ xs) = P x × Each P xs

-- of the figures that begin at the offset `start`, the first beyond its limits begins at the offset o: those before it
-- keep theirs, and their bytes lie between
pub record FirstBeyond (start : ℕ) (ps : List Placed) (o : ℕ) : Type 0 where
  pub before : List Placed
  pub figure : Placed
  pub after : List Placed
  pub split : ps ≡ before ++ (figure ∷ after)
  pub good : Each Kept before
  pub beyond : Kept figure → ⊥
  pub place : start + length (together before) ≡ o

-- the same, found by going through them
abbrev pub first_beyond : ℕ → List Placed → Option ℕ
first_beyond o [] = None
first_beyond o (p ∷ ps) = if kept p then first_beyond (o + length p.bytes) ps else Some o
