-- Reading is exact: what it takes, what it refuses, and nothing else.
use Rattle.std.proofs.Common.{◌≡◌, ℕ, zero, suc, ◌/◌, ◌%◌, ◌^◌, ◌<◌, ◌≤◌, Bool, true, false, ltb, ◌⊎◌, List, [], ◌∷◌, length, get_or, drop, Some, None, Ok, Err, Option, Result, sym, refl, ap, ◌∙◌, subst, inl, inr, arith, ◌||◌}
use Rattle.std.proofs.lemmas.Bool.{cases_Bool, both_ways, ltb-true, ltb-false, lt-ltb, le-ltb, eqb-false}
use Rattle.std.proofs.lemmas.Bool.Decides.{nat_tests}
use Rattle.std.proofs.lemmas.List.Elements.{All-drop}
use Rattle.staircase.specs.Limits.{any_there}
use Rattle.record.specs.Layout.{Fields, placed, bit_map, layout, stands, called_for}
use Rattle.record.specs.Limits.{Each, Kept, first_beyond}
use Rattle.record.specs.Setups.{Content, meaning}
use Rattle.record.specs.Reading.{fields_after, unknown, some_staircase, unless, judgement, reading}
use Rattle.record.specs.Exact.{Says, bits_of, Condition, order, First, Exact}
use Rattle.record.specs.declared.faults.RecordFault.{RecordFault}
use Rattle.record.specs.declared.faults.RecordFault.TheVariants.{Empty, UnknownBits, NoStaircase, Short, Long, Beyond}
use Rattle.record.proofs.Firsts.{first_said, said_first, each_found, found_each}
use Rattle.record.proofs.Laid.{fields_in, Byte, Bytes, lengths, back, forth, stands6, stands7, some_stands}

-- ────────────────────────────────── the tests of a bit map

known_not : (a b : Bool) → (a || b) ≡ true → (a ≡ true) ⊎ (b ≡ true)
known_not a b e = grind arith

not_known : (a b : Bool) → (a ≡ true) ⊎ (b ≡ true) → (a || b) ≡ true
not_known a b h = grind arith

none_first : (a b : Bool) → (a || b) ≡ false → (a ≡ false) × (b ≡ false)
none_first a b e = grind arith

no_stairs : (bits : ℕ) → some_staircase bits ≡ false → (k : ℕ) → k < 4 → stands bits k ≡ false
no_stairs bits e zero h = grind arith
no_stairs bits e (suc zero) h = grind arith
no_stairs bits e (suc (suc zero)) h = grind arith
no_stairs bits e (suc (suc (suc zero))) h = grind arith
no_stairs bits e (suc (suc (suc (suc k)))) h = absurd (omega arith)

pub stairs_no : (bits : ℕ) → ((k : ℕ) → k < 4 → stands bits k ≡ false) → some_staircase bits ≡ false
stairs_no bits h = rw (h 0 (omega arith), h 1 (omega arith), h 2 (omega arith), h 3 (omega arith)) refl

-- a byte without bits 6 and 7 is below 64
low : (bits : ℕ) → bits < 256 → unknown bits ≡ false → bits < 64
low bits h e =
    let none : (stands bits 6 ≡ false) × (stands bits 7 ≡ false) = none_first _ _ e in
    omega (arith, eqb-false (bits / 2 ^ 6 % 2) 1 none.0, eqb-false (bits / 2 ^ 7 % 2) 1 none.1)

-- ────────────────────────────────── what reading comes to

module _ (b : ℕ) (bs : List ℕ) where
  abbrev size : ℕ
  size = suc (length bs)

  pub at_unknown : unknown b ≡ true → reading (b ∷ bs) ≡ Err UnknownBits
  at_unknown u = rw u refl

  at_none : unknown b ≡ false → some_staircase b ≡ false → reading (b ∷ bs) ≡ Err NoStaircase
  at_none u s = rw (u, s) refl

  at_short : unknown b ≡ false → some_staircase b ≡ true → ltb size (called_for b) ≡ true → reading (b ∷ bs) ≡ Err (Short size)
  at_short u s l = rw (u, s, l) refl

  at_long : unknown b ≡ false → some_staircase b ≡ true → ltb size (called_for b) ≡ false → ltb (called_for b) size ≡ true → reading (b ∷ bs) ≡ Err (Long (called_for b))
  at_long u s l g = rw (u, s, l, g) refl

  at_fields : unknown b ≡ false → some_staircase b ≡ true → ltb size (called_for b) ≡ false → ltb (called_for b) size ≡ false → reading (b ∷ bs) ≡ judgement (fields_after b bs)
  at_fields u s l g = rw (u, s, l, g) refl

-- ────────────────────────────────── which refusal comes first

-- none of those before the nth applies
none_below :
    (bytes : List ℕ) (n : ℕ) → n ≤ 5 →
    (0 < n → Condition bytes Empty → ⊥) →
    (1 < n → Condition bytes UnknownBits → ⊥) →
    (2 < n → Condition bytes NoStaircase → ⊥) →
    (3 < n → called_for (bits_of bytes) ≤ length bytes) →
    (4 < n → length bytes ≤ called_for (bits_of bytes)) →
    (d : RecordFault) → order d < n → Condition bytes d → ⊥
none_below bytes n m e u s l g Empty h c = e h c
none_below bytes n m e u s l g UnknownBits h c = u h c
none_below bytes n m e u s l g NoStaircase h c = s h c
none_below bytes n m e u s l g (Short k) h c = let q = l h in omega (arith, c.0)
none_below bytes n m e u s l g (Long k) h c = let q = g h in omega (arith, c.0)
none_below bytes n m e u s l g (Beyond o) h c = omega arith

-- what the answer says of the record
abbrev Good : List ℕ → Result Content RecordFault → Type 0
Good bytes (Ok c) = Says bytes c
Good bytes (Err e) = First bytes e

not_empty : (b : ℕ) (bs : List ℕ) → (b ∷ bs) ≡ [] → ⊥
not_empty b bs e = cc

judged_good :
    (b : ℕ) (bs : List ℕ) (o : Option ℕ) → first_beyond 1 (placed (fields_after b bs)) ≡ o →
    unknown b ≡ false → some_staircase b ≡ true → suc (length bs) ≡ called_for b →
    Bytes (b ∷ bs) →
    Good (b ∷ bs) (unless o (meaning (fields_after b bs)))
judged_good b bs None e u s n p =
    let laid = forth b bs (low b (p 0 0 (omega arith)) u) (All-drop Byte 1 (b ∷ bs) p) n in
    record {
      fields = fields_after b bs;
      some = sym (some_stands (fields_after b bs)) ∙ ap some_staircase (ap (λ (l : List ℕ). get_or l 0 0) laid) ∙ s;
      limits = each_found 1 _ e;
      laid = laid;
      means = refl;
    }
judged_good b bs (Some o) e u s n p =
    record {
      applies = (fields_after b bs, forth b bs (low b (p 0 0 (omega arith)) u) (All-drop Byte 1 (b ∷ bs) p) n, first_said 1 _ o e);
      none_before = none_below (b ∷ bs) 5 (omega arith) (λ _. not_empty b bs) (λ _ c. both_ways _ u (not_known _ _ c)) (λ _ c. both_ways _ (stairs_no b c) s) (λ _. omega arith) (λ _. omega arith);
    }

good : (bytes : List ℕ) → Bytes bytes → Good bytes (reading bytes)
good [] p = record { applies = refl; none_before = λ d h c. omega arith }
good (b ∷ bs) p =
    let here = b ∷ bs in
    elim (cases_Bool (unknown b)) [
      | inl u ↦ subst (Good here) (sym (at_unknown b bs u)) (record {
        applies = known_not _ _ u;
        none_before = none_below here 1 (omega arith) (λ _. not_empty b bs) (λ h. absurd (omega arith)) (λ h. absurd (omega arith)) (λ h. absurd (omega arith)) (λ h. absurd (omega arith));
      })
      | inr u ↦ elim (cases_Bool (some_staircase b)) [
        | inr s ↦ subst (Good here) (sym (at_none b bs u s)) (record {
          applies = no_stairs b s;
          none_before = none_below here 2 (omega arith) (λ _. not_empty b bs) (λ _ c. both_ways _ u (not_known _ _ c)) (λ h. absurd (omega arith)) (λ h. absurd (omega arith)) (λ h. absurd (omega arith));
        })
        | inl s ↦ elim (cases_Bool (ltb (size b bs) (called_for b))) [
          | inl l ↦ subst (Good here) (sym (at_short b bs u s l)) (record {
            applies = (ltb-true _ _ l, refl);
            none_before = none_below here 3 (omega arith) (λ _. not_empty b bs) (λ _ c. both_ways _ u (not_known _ _ c)) (λ _ c. both_ways _ (stairs_no b c) s) (λ h. absurd (omega arith)) (λ h. absurd (omega arith));
          })
          | inr l ↦ elim (cases_Bool (ltb (called_for b) (size b bs))) [
            | inl g ↦ subst (Good here) (sym (at_long b bs u s l g)) (record {
              applies = (ltb-true _ _ g, refl);
              none_before = none_below here 4 (omega arith) (λ _. not_empty b bs) (λ _ c. both_ways _ u (not_known _ _ c)) (λ _ c. both_ways _ (stairs_no b c) s) (λ _. ltb-false _ _ l) (λ h. absurd (omega arith));
            })
            | inr g ↦
                let n : suc (length bs) ≡ called_for b = omega (arith, ltb-false _ _ l, ltb-false _ _ g) in
                subst (Good here) (sym (at_fields b bs u s l g)) (judged_good b bs _ refl u s n p)
          ]
        ]
      ]
    ]

-- ────────────────────────────────── and back

-- a layout of fields within their limits is taken
laid_taken : (f : Fields) → any_there (meaning f).staircases ≡ true → Each Kept (placed f) → reading (layout f) ≡ Ok (meaning f)
laid_taken f some limits =
    let n = lengths f in
    at_fields (bit_map f) (drop 1 (layout f)) (rw (stands6 f, stands7 f) refl) (some_stands f ∙ some) (le-ltb _ _ (omega arith)) (le-ltb _ _ (omega arith))
    ∙ ap judgement (back f)
    ∙ ap (λ (o : Option ℕ). unless o (meaning f)) (found_each 1 (placed f) limits)

not_unknown : (b : ℕ) → ((stands b 6 ≡ true) ⊎ (stands b 7 ≡ true) → ⊥) → unknown b ≡ false
not_unknown b h = grind arith

pub has_stairs : (b : ℕ) → (((k : ℕ) → k < 4 → stands b k ≡ false) → ⊥) → some_staircase b ≡ true
has_stairs b h = grind (arith, no_stairs)

not_below : (m n : ℕ) → (m < n → ⊥) → ltb m n ≡ false
not_below m n h = grind (arith, nat_tests)

beyond_found : (bytes : List ℕ) (o : ℕ) → Condition bytes (Beyond o) → first_beyond 1 (placed (fields_in bytes)) ≡ Some o
beyond_found bytes o (f, laid, first) = ap (λ (l : List ℕ). first_beyond 1 (placed (fields_in l))) (sym laid) ∙ ap (λ (g : Fields). first_beyond 1 (placed g)) (back f) ∙ said_first 1 (placed f) o first

module _ (b : ℕ) (bs : List ℕ) (e : RecordFault) (h : First (b ∷ bs) e) where
  bits_pass : 1 < order e → unknown b ≡ false
  bits_pass l = not_unknown b (h.none_before UnknownBits l)

  staircases_pass : 2 < order e → some_staircase b ≡ true
  staircases_pass l = has_stairs b (h.none_before NoStaircase l)

applies_first : (bytes : List ℕ) (e : RecordFault) → First bytes e → reading bytes ≡ Err e
applies_first [] Empty h = refl
applies_first [] _ h = absurd (h.none_before Empty (omega arith) refl)
applies_first (b ∷ bs) Empty h = absurd (not_empty b bs h.applies)
applies_first (b ∷ bs) UnknownBits h = at_unknown b bs (not_known _ _ h.applies)
applies_first (b ∷ bs) NoStaircase h = at_none b bs (bits_pass b bs _ h (omega arith)) (stairs_no b h.applies)
applies_first (b ∷ bs) (Short n) h =
    at_short b bs (bits_pass b bs _ h (omega arith)) (staircases_pass b bs _ h (omega arith)) (lt-ltb _ _ h.applies.0)
    ∙ ap (λ (k : ℕ). Err (Short k)) (sym h.applies.1)
applies_first (b ∷ bs) (Long n) h =
    at_long b bs (bits_pass b bs _ h (omega arith)) (staircases_pass b bs _ h (omega arith)) (le-ltb _ _ (omega (arith, h.applies.0))) (lt-ltb _ _ h.applies.0)
    ∙ ap (λ (k : ℕ). Err (Long k)) (sym h.applies.1)
applies_first (b ∷ bs) (Beyond o) h =
    at_fields b bs (bits_pass b bs _ h (omega arith)) (staircases_pass b bs _ h (omega arith))
    (not_below _ _ (λ l. h.none_before (Short (size b bs)) (omega arith) (l, refl)))
    (not_below _ _ (λ l. h.none_before (Long (called_for b)) (omega arith) (l, refl)))
    ∙ ap (λ (q : Option ℕ). unless q (meaning (fields_after b bs))) (beyond_found (b ∷ bs) o h.applies)

pub exact : (bytes : List ℕ) → Bytes bytes → Exact bytes (reading bytes)
exact bytes p = record {
  taken = λ c. ((λ e. subst (Good bytes) e (good bytes p)), (λ s. ap reading (sym s.laid) ∙ laid_taken s.fields s.some s.limits ∙ ap (λ (x : Content). Ok x) s.means));
  refused = λ e. ((λ q. subst (Good bytes) q (good bytes p)), applies_first bytes e);
}
