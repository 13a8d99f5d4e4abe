-- Reading field by field, each against its limits, is judging all the fields of the record.
use Rattle.std.proofs.Common.{◌≡◌, ℕ, suc, ◌+◌, ◌≤◌, Bool, true, false, List, [], ◌∷◌, length, None, Option, Result, sym, refl, ap, ◌∙◌, arith, length-drop, ◌||◌}
use Rattle.std.specs.Option.{option_or}
use Rattle.staircase.specs.Limits.{any_there, most_capacity, most_break_even}
use Rattle.record.specs.Layout.{Fields, Placed, together, stair_placed, figure_placed, placed, stands, wide, width, table_width, called_for}
use Rattle.record.specs.Limits.{first_beyond}
use Rattle.record.specs.Setups.{meaning}
use Rattle.record.specs.Steps.{Cursor, past, and_then, stair_read, field_read, tabled_read, table_read, setup_read}
use Rattle.record.specs.Reading.{stair_in, figure_in, past1, past2, past3, past4, past5, fields_after, some_staircase, unless, judgement}
use Rattle.record.specs.declared.faults.RecordFault.{RecordFault}
use Rattle.record.proofs.Moves.{past_table}
use Rattle.record.proofs.Firsts.{first_beyond-append}

-- ────────────────────────────────── one field

stair_judged : (s : Bool) (bs : List ℕ) (o : ℕ) → wide s 3 ≤ length bs → stair_read s (record { rest = bs; offset = o }) ≡ unless (first_beyond o (stair_placed (stair_in s bs))) (stair_in s bs)
stair_judged false bs o h = refl
stair_judged true [] o h = absurd (omega arith)
stair_judged true (x ∷ []) o h = absurd (omega arith)
stair_judged true (x ∷ y ∷ []) o h = absurd (omega arith)
stair_judged true (x ∷ y ∷ z ∷ bs) o h = grind arith

field_judged : (most : ℕ) (s : Bool) (bs : List ℕ) (o : ℕ) → wide s 2 ≤ length bs → field_read most s (record { rest = bs; offset = o }) ≡ unless (first_beyond o (figure_placed most (figure_in s bs))) (figure_in s bs)
field_judged most false bs o h = refl
field_judged most true [] o h = absurd (omega arith)
field_judged most true (x ∷ []) o h = absurd (omega arith)
field_judged most true (x ∷ y ∷ bs) o h = grind arith

-- ────────────────────────────────── one after another

goes_on : {A B : Type 0} (r : Result A RecordFault) (a : Option ℕ) (v : A) (k : A → Result B RecordFault) (b : Option ℕ) (w : B) → r ≡ unless a v → k v ≡ unless b w → and_then r k ≡ unless (option_or a b) w
goes_on r a v k b w e f = grind arith

regroup :
    (a b c d e g : Option ℕ) →
    option_or (option_or a (option_or b (option_or c (option_or d None)))) (option_or e (option_or g None)) ≡ option_or a (option_or b (option_or c (option_or d (option_or e g))))
regroup a b c d e g = grind arith

some_in : (s₀ s₁ s₂ s₃ : Bool) (r₀ r₁ r₂ r₃ : List ℕ) → (s₀ || (s₁ || (s₂ || s₃))) ≡ true → any_there (stair_in s₀ r₀ ∷ stair_in s₁ r₁ ∷ stair_in s₂ r₂ ∷ stair_in s₃ r₃ ∷ []) ≡ true
some_in s₀ s₁ s₂ s₃ r₀ r₁ r₂ r₃ e = grind arith

abbrev span : List Placed → ℕ
span ps = length (together ps)

stair_width : (s : Bool) (bs : List ℕ) → span (stair_placed (stair_in s bs)) ≡ wide s 3
stair_width s bs = grind arith

figure_width : (most : ℕ) (s : Bool) (bs : List ℕ) → span (figure_placed most (figure_in s bs)) ≡ wide s 2
figure_width most s bs = grind arith

module _ (bits : ℕ) (r₀ : List ℕ) (some : some_staircase bits ≡ true) (size : suc (length r₀) ≡ called_for bits) where
  abbrev o₁ : ℕ
  o₁ = 1 + width bits 0

  abbrev o₂ : ℕ
  o₂ = o₁ + width bits 1

  abbrev o₃ : ℕ
  o₃ = o₂ + width bits 2

  abbrev o₄ : ℕ
  o₄ = o₃ + width bits 3

  abbrev o₅ : ℕ
  o₅ = o₄ + width bits 4

  abbrev f : Fields
  f = fields_after bits r₀

  abbrev first₀ : Option ℕ
  first₀ = first_beyond 1 (stair_placed f.staircase0)

  abbrev first₁ : Option ℕ
  first₁ = first_beyond o₁ (stair_placed f.staircase1)

  abbrev first₂ : Option ℕ
  first₂ = first_beyond o₂ (stair_placed f.staircase2)

  abbrev first₃ : Option ℕ
  first₃ = first_beyond o₃ (stair_placed f.staircase3)

  abbrev first₄ : Option ℕ
  first₄ = first_beyond o₄ (figure_placed most_capacity f.capacity)

  abbrev first₅ : Option ℕ
  first₅ = first_beyond o₅ (figure_placed most_break_even f.break_even)

  abbrev start : Cursor
  start = record { rest = r₀; offset = 1 }

  table_judged : table_read bits start ≡ unless (option_or first₀ (option_or first₁ (option_or first₂ (option_or first₃ None)))) (meaning f).staircases
  table_judged =
      let there = some_in (stands bits 0) (stands bits 1) (stands bits 2) (stands bits 3) r₀ (past1 bits r₀) (past2 bits r₀) (past3 bits r₀) some in
      let last : tabled_read (meaning f).staircases ≡ unless None (meaning f).staircases = rw there refl in
      goes_on _ _ _ _ _ _ (stair_judged (stands bits 0) r₀ 1 (omega arith))
      (goes_on _ _ _ _ _ _ (stair_judged (stands bits 1) (past1 bits r₀) o₁ (simp length-drop (omega arith)))
      (goes_on _ _ _ _ _ _ (stair_judged (stands bits 2) (past2 bits r₀) o₂ (simp length-drop (omega arith)))
      (goes_on _ _ _ _ _ _ (stair_judged (stands bits 3) (past3 bits r₀) o₃ (simp length-drop (omega arith))) last)))

  behind_table : past (table_width bits) start ≡ record { rest = past4 bits r₀; offset = o₄ }
  behind_table = sym (past_table bits start)

  firsts : first_beyond 1 (placed f) ≡ option_or first₀ (option_or first₁ (option_or first₂ (option_or first₃ (option_or first₄ first₅))))
  firsts = simp (first_beyond-append, stair_width, figure_width)

  pub setup_judged : setup_read bits start ≡ judgement f
  setup_judged =
      let capacity = ap (field_read most_capacity (stands bits 4)) behind_table ∙ field_judged most_capacity (stands bits 4) (past4 bits r₀) o₄ (simp length-drop (omega arith)) in
      let break_even = ap (λ (c : Cursor). field_read most_break_even (stands bits 5) (past (width bits 4) c)) behind_table ∙ field_judged most_break_even (stands bits 5) (past5 bits r₀) o₅ (simp length-drop (omega arith)) in
      goes_on _ _ _ _ _ _ table_judged (goes_on _ _ _ _ _ _ capacity (goes_on _ _ _ _ None _ break_even refl))
      ∙ ap (λ (o : Option ℕ). unless o (meaning f)) (regroup first₀ first₁ first₂ first₃ first₄ first₅ ∙ sym firsts)
