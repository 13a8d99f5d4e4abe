-- Layouts are read back, and what is read lays out to the bytes again.
use Rattle.std.proofs.Common.{◌≡◌, ℕ, suc, ◌+◌, ◌*◌, ◌/◌, ◌%◌, ◌^◌, ◌<◌, ◌≤◌, Bool, true, false, if◌then◌else◌, eqb, List, [], ◌∷◌, ◌++◌, length, get_or, drop, is_some, Some, None, Option, sym, refl, ap, ◌∙◌, append_assoc, append-nil, arith, length-append, length-drop, ◌||◌}
use Rattle.std.specs.List.{All}
use Rattle.std.proofs.lemmas.List.{drop_all}
use Rattle.std.proofs.lemmas.List.Elements.{All-drop}
use Rattle.std.proofs.lemmas.Bool.Decides.{nat_tests}
use Rattle.staircase.specs.Limits.{any_there}
use Rattle.staircase.specs.Of.{Stair}
use Rattle.record.specs.Layout.{Fields, Placed, together, stair_placed, figure_placed, placed, bit, bit_map, layout, stands, wide, called_for}
use Rattle.record.specs.Reading.{stair_in, figure_in, past1, past2, past3, past4, past5, fields_after, some_staircase}
use Rattle.record.specs.Setups.{meaning}
use Rattle.record.specs.Exact.{Lengths}

-- ────────────────────────────────── the bytes of one field

abbrev two_bytes : ℕ → List ℕ
two_bytes n = n / 256 ∷ n % 256 ∷ []

abbrev stair_bytes : Option Stair → List ℕ
stair_bytes None = []
stair_bytes (Some s) = s.burst ∷ two_bytes s.step

abbrev figure_bytes : Option ℕ → List ℕ
figure_bytes None = []
figure_bytes (Some n) = two_bytes n

stair_together : (v : Option Stair) → together (stair_placed v) ≡ stair_bytes v
stair_together v = grind arith

figure_together : (most : ℕ) (v : Option ℕ) → together (figure_placed most v) ≡ figure_bytes v
figure_together most v = grind arith

pub together-append : (ps qs : List Placed) → together (ps ++ qs) ≡ together ps ++ together qs
together-append [] qs = refl
together-append (p ∷ ps) qs = ap (λ (l : List ℕ). p.bytes ++ l) (together-append ps qs) ∙ sym (append_assoc p.bytes (together ps) (together qs))

-- the fields of a record
abbrev pub fields_in : List ℕ → Fields
fields_in bytes = fields_after (get_or bytes 0 0) (drop 1 bytes)

-- each is a byte
abbrev pub Byte : ℕ → Type 0
Byte b = b < 256

abbrev pub Bytes : List ℕ → Type 0
Bytes bytes = All Byte bytes

-- ────────────────────────────────── one field and back

two_back : (n : ℕ) → n / 256 * 256 + n % 256 ≡ n
two_back n = omega arith

two_forth : (h l : ℕ) → l < 256 → two_bytes (h * 256 + l) ≡ h ∷ l ∷ []
two_forth h l p =
    let a : (h * 256 + l) / 256 ≡ h = omega arith in
    let b : (h * 256 + l) % 256 ≡ l = omega arith in
    rw (a, b)

stair_back : (v : Option Stair) (bs : List ℕ) → stair_in (is_some v) (stair_bytes v ++ bs) ≡ v
stair_back v bs = grind arith

stair_rest : (v : Option Stair) (bs : List ℕ) → drop (wide (is_some v) 3) (stair_bytes v ++ bs) ≡ bs
stair_rest v bs = grind arith

figure_back : (v : Option ℕ) (bs : List ℕ) → figure_in (is_some v) (figure_bytes v ++ bs) ≡ v
figure_back v bs = grind arith

last_back : (v : Option ℕ) → figure_in (is_some v) (figure_bytes v) ≡ v
last_back v = grind (arith, two_back)

figure_rest : (v : Option ℕ) (bs : List ℕ) → drop (wide (is_some v) 2) (figure_bytes v ++ bs) ≡ bs
figure_rest v bs = grind arith

stair_forth : (s : Bool) (bs : List ℕ) → Bytes bs → wide s 3 ≤ length bs → stair_bytes (stair_in s bs) ++ drop (wide s 3) bs ≡ bs
stair_forth false bs p h = refl
stair_forth true [] p h = absurd (omega arith)
stair_forth true (x ∷ []) p h = absurd (omega arith)
stair_forth true (x ∷ y ∷ []) p h = absurd (omega arith)
stair_forth true (x ∷ y ∷ z ∷ bs) p h = ap (λ (l : List ℕ). x ∷ (l ++ bs)) (two_forth y z (p 2 0 (omega arith)))

figure_forth : (s : Bool) (bs : List ℕ) → Bytes bs → wide s 2 ≤ length bs → figure_bytes (figure_in s bs) ++ drop (wide s 2) bs ≡ bs
figure_forth false bs p h = refl
figure_forth true [] p h = absurd (omega arith)
figure_forth true (x ∷ []) p h = absurd (omega arith)
figure_forth true (x ∷ y ∷ bs) p h = ap (λ (l : List ℕ). l ++ bs) (two_forth x y (p 1 0 (omega arith)))

pub stair_some : (s : Bool) (bs : List ℕ) → is_some (stair_in s bs) ≡ s
stair_some s bs = grind arith

pub figure_some : (s : Bool) (bs : List ℕ) → is_some (figure_in s bs) ≡ s
figure_some s bs = grind arith

pub stair_long : (v : Option Stair) → length (stair_bytes v) ≡ wide (is_some v) 3
stair_long v = grind arith

pub figure_long : (v : Option ℕ) → length (figure_bytes v) ≡ wide (is_some v) 2
figure_long v = grind arith

-- ────────────────────────────────── the bit map

bit_small : {A : Type 0} (v : Option A) → bit v ≤ 1
bit_small v = grind arith

bit_tells : {A : Type 0} (v : Option A) (n : ℕ) → n ≡ bit v → eqb n 1 ≡ is_some v
bit_tells v n e = grind arith

-- the binary digits of a bit map, and none above them
record Digits (m a b c d e g : ℕ) : Type 0 where
  at0 : m / 2 ^ 0 % 2 ≡ a
  at1 : m / 2 ^ 1 % 2 ≡ b
  at2 : m / 2 ^ 2 % 2 ≡ c
  at3 : m / 2 ^ 3 % 2 ≡ d
  at4 : m / 2 ^ 4 % 2 ≡ e
  at5 : m / 2 ^ 5 % 2 ≡ g
  at6 : m / 2 ^ 6 % 2 ≡ 0
  at7 : m / 2 ^ 7 % 2 ≡ 0

digits : (a b c d e g : ℕ) → a ≤ 1 → b ≤ 1 → c ≤ 1 → d ≤ 1 → e ≤ 1 → g ≤ 1 → Digits (a + 2 * b + 4 * c + 8 * d + 16 * e + 32 * g) a b c d e g
digits a b c d e g ha hb hc hd he hg = record {
  at0 = omega arith;
  at1 = omega arith;
  at2 = omega arith;
  at3 = omega arith;
  at4 = omega arith;
  at5 = omega arith;
  at6 = omega arith;
  at7 = omega arith;
}

digits_of : (f : Fields) → Digits (bit_map f) (bit f.staircase0) (bit f.staircase1) (bit f.staircase2) (bit f.staircase3) (bit f.capacity) (bit f.break_even)
digits_of f =
    digits _ _ _ _ _ _ (bit_small f.staircase0) (bit_small f.staircase1) (bit_small f.staircase2) (bit_small f.staircase3) (bit_small f.capacity) (bit_small f.break_even)

-- ────────────────────────────────── what the six bits of a map make of the bytes

abbrev fields_by : Bool → Bool → Bool → Bool → Bool → Bool → List ℕ → Fields
fields_by s₀ s₁ s₂ s₃ s₄ s₅ r₀ =
    let r₁ = drop (wide s₀ 3) r₀ in
    let r₂ = drop (wide s₁ 3) r₁ in
    let r₃ = drop (wide s₂ 3) r₂ in
    let r₄ = drop (wide s₃ 3) r₃ in
    let r₅ = drop (wide s₄ 2) r₄ in
    record { staircase0 = stair_in s₀ r₀; staircase1 = stair_in s₁ r₁; staircase2 = stair_in s₂ r₂; staircase3 = stair_in s₃ r₃; capacity = figure_in s₄ r₄; break_even = figure_in s₅ r₅ }

abbrev widths_of : Bool → Bool → Bool → Bool → Bool → Bool → ℕ
widths_of s₀ s₁ s₂ s₃ s₄ s₅ = 1 + (wide s₀ 3 + wide s₁ 3 + wide s₂ 3 + wide s₃ 3 + wide s₄ 2 + wide s₅ 2)

abbrev some_of : Bool → Bool → Bool → Bool → Bool
some_of s₀ s₁ s₂ s₃ = s₀ || (s₁ || (s₂ || s₃))

abbrev body : Fields → List ℕ
body f = stair_bytes f.staircase0 ++ (stair_bytes f.staircase1 ++ (stair_bytes f.staircase2 ++ (stair_bytes f.staircase3 ++ (figure_bytes f.capacity ++ figure_bytes f.break_even))))

body_laid : (f : Fields) → together (placed f) ≡ body f
body_laid f = simp (together-append, stair_together, figure_together)

some_there : (a b c d : Option Stair) → some_of (is_some a) (is_some b) (is_some c) (is_some d) ≡ any_there (a ∷ b ∷ c ∷ d ∷ [])
some_there a b c d = grind arith

fields_back :
    (a b c d : Option Stair) (e g : Option ℕ) →
    let f : Fields = record { staircase0 = a; staircase1 = b; staircase2 = c; staircase3 = d; capacity = e; break_even = g } in
    fields_by (is_some a) (is_some b) (is_some c) (is_some d) (is_some e) (is_some g) (body f) ≡ f
fields_back a b c d e g = simp (stair_rest, stair_back, figure_rest, figure_back, last_back)

module _ (f : Fields) where
  stands0 : stands (bit_map f) 0 ≡ is_some f.staircase0
  stands0 = bit_tells f.staircase0 _ (digits_of f).at0

  stands1 : stands (bit_map f) 1 ≡ is_some f.staircase1
  stands1 = bit_tells f.staircase1 _ (digits_of f).at1

  stands2 : stands (bit_map f) 2 ≡ is_some f.staircase2
  stands2 = bit_tells f.staircase2 _ (digits_of f).at2

  stands3 : stands (bit_map f) 3 ≡ is_some f.staircase3
  stands3 = bit_tells f.staircase3 _ (digits_of f).at3

  stands4 : stands (bit_map f) 4 ≡ is_some f.capacity
  stands4 = bit_tells f.capacity _ (digits_of f).at4

  stands5 : stands (bit_map f) 5 ≡ is_some f.break_even
  stands5 = bit_tells f.break_even _ (digits_of f).at5

  pub stands6 : stands (bit_map f) 6 ≡ false
  stands6 = ap (λ (n : ℕ). eqb n 1) (digits_of f).at6

  pub stands7 : stands (bit_map f) 7 ≡ false
  stands7 = ap (λ (n : ℕ). eqb n 1) (digits_of f).at7

  pub some_stands : some_staircase (bit_map f) ≡ any_there (meaning f).staircases
  some_stands = (λ i. some_of (stands0 i) (stands1 i) (stands2 i) (stands3 i)) ∙ some_there f.staircase0 f.staircase1 f.staircase2 f.staircase3

  long : length (layout f) ≡ called_for (bit_map f)
  long =
      let widths : called_for (bit_map f) ≡ widths_of (is_some f.staircase0) (is_some f.staircase1) (is_some f.staircase2) (is_some f.staircase3) (is_some f.capacity) (is_some f.break_even) =
      λ i. widths_of (stands0 i) (stands1 i) (stands2 i) (stands3 i) (stands4 i) (stands5 i) in
      ap (λ (l : List ℕ). suc (length l)) (body_laid f)
      ∙ simp length-append (omega (arith, stair_long f.staircase0, stair_long f.staircase1, stair_long f.staircase2, stair_long f.staircase3, figure_long f.capacity, figure_long f.break_even))

  pub back : fields_in (layout f) ≡ f
  back = rw (body_laid f, stands0, stands1, stands2, stands3, stands4, stands5) (fields_back f.staircase0 f.staircase1 f.staircase2 f.staircase3 f.capacity f.break_even)

pub lengths : Lengths
lengths f = long f

-- ────────────────────────────────── from bytes to fields and back to bytes

digit_back : (n : ℕ) → n < 2 → (if eqb n 1 then 1 else 0) ≡ n
digit_back n h = grind (arith, nat_tests)

-- the binary digits of a number below 64 make it up
made_up : (n : ℕ) → n < 64 → n / 2 ^ 0 % 2 + 2 * (n / 2 ^ 1 % 2) + 4 * (n / 2 ^ 2 % 2) + 8 * (n / 2 ^ 3 % 2) + 16 * (n / 2 ^ 4 % 2) + 32 * (n / 2 ^ 5 % 2) ≡ n
made_up n h =
    let h₁ : n / 2 / 2 ≡ n / 4 = omega arith in
    let h₂ : n / 4 / 2 ≡ n / 8 = omega arith in
    let h₃ : n / 8 / 2 ≡ n / 16 = omega arith in
    let h₄ : n / 16 / 2 ≡ n / 32 = omega arith in
    omega arith

bits_back : (bits : ℕ) (bytes : List ℕ) → bits < 64 → bit_map (fields_after bits bytes) ≡ bits
bits_back bits bytes h =
    let some = λ (k : ℕ) (xs : List ℕ). ap (λ (b : Bool). if b then 1 else 0) (stair_some (stands bits k) xs) ∙ digit_back (bits / 2 ^ k % 2) (omega arith) in
    let more = λ (k : ℕ) (xs : List ℕ). ap (λ (b : Bool). if b then 1 else 0) (figure_some (stands bits k) xs) ∙ digit_back (bits / 2 ^ k % 2) (omega arith) in
    omega (arith, some 0 bytes, some 1 (past1 bits bytes), some 2 (past2 bits bytes), some 3 (past3 bits bytes), more 4 (past4 bits bytes), more 5 (past5 bits bytes), made_up bits h)

last_forth : (s : Bool) (bs : List ℕ) → Bytes bs → length bs ≡ wide s 2 → figure_bytes (figure_in s bs) ≡ bs
last_forth s bs p h =
    sym (append-nil (figure_bytes (figure_in s bs)))
    ∙ ap (λ (l : List ℕ). figure_bytes (figure_in s bs) ++ l) (sym (drop_all (wide s 2) bs (omega arith)))
    ∙ figure_forth s bs p (omega arith)

body_forth :
    (s₀ s₁ s₂ s₃ s₄ s₅ : Bool) (bytes : List ℕ) → Bytes bytes → suc (length bytes) ≡ widths_of s₀ s₁ s₂ s₃ s₄ s₅ →
    body (fields_by s₀ s₁ s₂ s₃ s₄ s₅ bytes) ≡ bytes
body_forth s₀ s₁ s₂ s₃ s₄ s₅ r₀ p₀ e =
    let r₁ = drop (wide s₀ 3) r₀ in
    let r₂ = drop (wide s₁ 3) r₁ in
    let r₃ = drop (wide s₂ 3) r₂ in
    let r₄ = drop (wide s₃ 3) r₃ in
    let r₅ = drop (wide s₄ 2) r₄ in
    let n₁ = length-drop (wide s₀ 3) r₀ in
    let n₂ = length-drop (wide s₁ 3) r₁ in
    let n₃ = length-drop (wide s₂ 3) r₂ in
    let n₄ = length-drop (wide s₃ 3) r₃ in
    let n₅ = length-drop (wide s₄ 2) r₄ in
    let p₁ = All-drop Byte (wide s₀ 3) r₀ p₀ in
    let p₂ = All-drop Byte (wide s₁ 3) r₁ p₁ in
    let p₃ = All-drop Byte (wide s₂ 3) r₂ p₂ in
    let p₄ = All-drop Byte (wide s₃ 3) r₃ p₃ in
    let p₅ = All-drop Byte (wide s₄ 2) r₄ p₄ in
    let e₅ = last_forth s₅ r₅ p₅ (omega arith) in
    let e₄ = ap (λ (l : List ℕ). figure_bytes (figure_in s₄ r₄) ++ l) e₅ ∙ figure_forth s₄ r₄ p₄ (omega arith) in
    let e₃ = ap (λ (l : List ℕ). stair_bytes (stair_in s₃ r₃) ++ l) e₄ ∙ stair_forth s₃ r₃ p₃ (omega arith) in
    let e₂ = ap (λ (l : List ℕ). stair_bytes (stair_in s₂ r₂) ++ l) e₃ ∙ stair_forth s₂ r₂ p₂ (omega arith) in
    let e₁ = ap (λ (l : List ℕ). stair_bytes (stair_in s₁ r₁) ++ l) e₂ ∙ stair_forth s₁ r₁ p₁ (omega arith) in
    ap (λ (l : List ℕ). stair_bytes (stair_in s₀ r₀) ++ l) e₁ ∙ stair_forth s₀ r₀ p₀ (omega arith)

pub forth : (bits : ℕ) (bytes : List ℕ) → bits < 64 → Bytes bytes → suc (length bytes) ≡ called_for bits → layout (fields_after bits bytes) ≡ bits ∷ bytes
forth bits bytes h p e =
    ap (λ (l : List ℕ). bit_map (fields_after bits bytes) ∷ l) (body_laid (fields_after bits bytes))
    ∙ λ i. bits_back bits bytes h i ∷ body_forth (stands bits 0) (stands bits 1) (stands bits 2) (stands bits 3) (stands bits 4) (stands bits 5) bytes p e i
