-- The first field beyond its limits, as found and as said.
use Rattle.std.proofs.Common.{◌≡◌, ℕ, ◌+◌, true, List, [], ◌∷◌, ◌++◌, length, Some, None, refl, ap, ◌∙◌, inl, inr, add-zero, arith, length-append}
use Rattle.std.proofs.lemmas.Bool.{cases_Bool, both_ways}
use Rattle.std.proofs.lemmas.Bool.Decides.{nat_tests}
use Rattle.std.specs.Option.{option_or}
use Rattle.staircase.specs.Limits.{Within, within}
use Rattle.record.specs.Layout.{Placed, together}
use Rattle.record.specs.Limits.{Kept, kept, Each, FirstBeyond, first_beyond}

pub within_true : (most n : ℕ) → within most n ≡ true → Within most n
within_true most n e = grind (arith, nat_tests)

pub true_within : (most n : ℕ) → Within most n → within most n ≡ true
true_within most n h = grind (arith, nat_tests)

pub first_beyond-append : (o : ℕ) (xs ys : List Placed) → first_beyond o (xs ++ ys) ≡ option_or (first_beyond o xs) (first_beyond (o + length (together xs)) ys)
first_beyond-append o [] ys = simp add-zero
first_beyond-append o (x ∷ xs) ys = grind (arith, length-append, first_beyond-append (o + length x.bytes) xs ys)

pub first_said : (start : ℕ) (ps : List Placed) (o : ℕ) → first_beyond start ps ≡ Some o → FirstBeyond start ps o
first_said start [] o e = let z : ◌≡◌ {A = ℕ} 0 1 = cc in absurd (omega arith)
first_said start (p ∷ ps) o e =
    elim (cases_Bool (kept p)) [
      | inl h ↦
          let s = first_said (start + length p.bytes) ps o (rw h at e) in
          record {
            before = p ∷ s.before;
            figure = s.figure;
            after = s.after;
            split = ap (λ (l : List Placed). p ∷ l) s.split;
            good = (within_true p.most p.value h, s.good);
            beyond = s.beyond;
            place = simp length-append (omega (arith, s.place));
          }
      | inr h ↦
          let q : Some start ≡ Some o = rw h at e in
          let r : start ≡ o = cc in
          record { before = []; figure = p; after = ps; split = refl; good = tt; beyond = λ k. both_ways (kept p) h (true_within p.most p.value k); place = omega arith }
    ]

pub each_found : (start : ℕ) (ps : List Placed) → first_beyond start ps ≡ None → Each Kept ps
each_found start [] e = tt
each_found start (p ∷ ps) e = grind (arith, within_true, each_found (start + length p.bytes) ps)

pub found_each : (start : ℕ) (ps : List Placed) → Each Kept ps → first_beyond start ps ≡ None
found_each start [] h = refl
found_each start (p ∷ ps) h = grind (arith, true_within, found_each (start + length p.bytes) ps h.1)

found_after : (start : ℕ) (before : List Placed) (p : Placed) (after : List Placed) → Each Kept before → (Kept p → ⊥) → first_beyond start (before ++ (p ∷ after)) ≡ Some (start + length (together before))
found_after start [] p after g b = grind (arith, within_true, add-zero)
found_after start (x ∷ before) p after g b = grind (arith, true_within, length-append, found_after (start + length x.bytes) before p after g.1 b)

pub said_first : (start : ℕ) (ps : List Placed) (o : ℕ) → FirstBeyond start ps o → first_beyond start ps ≡ Some o
said_first start ps o s = ap (first_beyond start) s.split ∙ found_after start s.before s.figure s.after s.good s.beyond ∙ ap (λ (n : ℕ). Some n) s.place
