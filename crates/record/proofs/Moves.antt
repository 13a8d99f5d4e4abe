-- One move of a reader after another.
use Rattle.std.proofs.Common.{◌≡◌, ℕ, add_assoc}
use Rattle.std.proofs.lemmas.List.{drop-drop}
use Rattle.record.specs.Layout.{width, table_width}
use Rattle.record.specs.Steps.{Cursor, past}

pub past_table : (bits : ℕ) (c : Cursor) → past (width bits 3) (past (width bits 2) (past (width bits 1) (past (width bits 0) c))) ≡ past (table_width bits) c
past_table bits c = simp (drop-drop, add_assoc)
