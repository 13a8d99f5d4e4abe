-- Reading a sonde sheet is exact.
use Rattle.std.proofs.Common.{◌≡◌, ℕ, suc, ◌*◌, ◌/◌, ◌<◌, true, false, leb, Ok, Err, Result, sym, refl, ap, ◌∙◌, subst, inl, inr, div-lt_iff_lt-mul, div-mul-le_self, add-one, arith}
use native.Mathlib.Nat.{div-eq_of_lt-le}
use Rattle.std.proofs.lemmas.Bool.{cases_Bool, cases_lt, leb-true, leb-false, le-leb, lt-leb}
use Rattle.std.proofs.lemmas.Bool.Decides.{nat_tests}
use Rattle.staircase.specs.Limits.{Within, within, most_burst, most_step}
use Rattle.record.specs.Setups.{Content}
use Rattle.record.specs.Sheets.{sheet_content, burst_of, sheet_read, Describes, Refuses, SheetExact}
use Rattle.record.specs.declared.faults.SheetFault.{SheetFault}
use Rattle.record.specs.declared.faults.SheetFault.TheVariants.{Period, Jitter, Distance}
use Rattle.record.specs.declared.sheet.Sheet.{Sheet}
use Rattle.record.proofs.Firsts.{within_true, true_within}

false_within : (most n : ℕ) → (Within most n → ⊥) → within most n ≡ false
false_within most n h = grind (arith, nat_tests)

within_false : (most n : ℕ) → within most n ≡ false → Within most n → ⊥
within_false most n e h = grind (arith, nat_tests)

module _ (s : Sheet) where
  abbrev p : ℕ
  p = s.period

  abbrev j : ℕ
  j = s.jitter

  at_period : within most_step p ≡ false → sheet_read s ≡ Err Period
  at_period a = rw a refl

  at_jitter : within most_step p ≡ true → within most_burst (burst_of s) ≡ false → sheet_read s ≡ Err Jitter
  at_jitter a b = rw (a, b) refl

  at_distance : within most_step p ≡ true → within most_burst (burst_of s) ≡ true → leb s.distance most_step ≡ false → sheet_read s ≡ Err Distance
  at_distance a b c = rw (a, b, c) refl

  at_content : within most_step p ≡ true → within most_burst (burst_of s) ≡ true → leb s.distance most_step ≡ true → sheet_read s ≡ Ok (sheet_content (burst_of s) p s.distance)
  at_content a b c = rw (a, b, c) refl

  -- the burst keeps its limit exactly where the jitter holds fewer periods than that
  burst_kept : 0 < p → j < most_burst * p → Within most_burst (burst_of s)
  burst_kept h k = let d = (div-lt_iff_lt-mul {k = p} {x = j} {y = most_burst} h).1 k in (omega arith, omega arith)

  kept_burst : 0 < p → Within most_burst (burst_of s) → j < most_burst * p
  kept_burst h k = (div-lt_iff_lt-mul {k = p} {x = j} {y = most_burst} h).0 (omega arith)

  no_more : 0 < p → j < suc (j / p) * p
  no_more h = (div-lt_iff_lt-mul {k = p} {x = j} {y = suc (j / p)} h).0 (omega arith)

  abbrev Good : Result Content SheetFault → Type 0
  Good (Ok c) = Describes s c
  Good (Err e) = Refuses s e

  good : Good (sheet_read s)
  good =
      elim (cases_Bool (within most_step p)) [
        | inr a ↦ subst Good (sym (at_period a)) (within_false most_step p a)
        | inl a ↦ elim (cases_Bool (within most_burst (burst_of s))) [
          | inr b ↦ subst Good (sym (at_jitter a b)) (
            within_true most_step p a,
            elim (cases_lt j (most_burst * p)) [
              | inl k ↦ absurd (within_false most_burst (burst_of s) b (burst_kept (within_true most_step p a).0 k))
              | inr k ↦ k
            ],
          )
          | inl b ↦ elim (cases_Bool (leb s.distance most_step)) [
            | inr c ↦ subst Good (sym (at_distance a b c)) (within_true most_step p a, kept_burst (within_true most_step p a).0 (within_true most_burst (burst_of s) b), leb-false _ _ c)
            | inl c ↦ subst Good (sym (at_content a b c)) (record {
              periods = j / p;
              held = div-mul-le_self j p;
              no_more = no_more (within_true most_step p a).0;
              period = within_true most_step p a;
              burst = omega (arith, (within_true most_burst (burst_of s) b).1);
              distance = leb-true _ _ c;
              content = ap (λ (n : ℕ). sheet_content n p s.distance) (omega arith);
            })
          ]
        ]
      ]

  described : (c : Content) → Describes s c → sheet_read s ≡ Ok c
  described c d =
      let n : j / p ≡ d.periods = div-eq_of_lt-le p d.held (rw add-one d.no_more) in
      let b : burst_of s ≡ suc d.periods = omega arith in
      at_content (true_within _ _ d.period) (true_within most_burst (burst_of s) (omega arith, omega (arith, d.burst))) (le-leb _ _ d.distance)
      ∙ ap (λ (m : ℕ). Ok (sheet_content m p s.distance)) b
      ∙ ap (λ (x : Content). Ok x) (sym d.content)

  refuses : (e : SheetFault) → Refuses s e → sheet_read s ≡ Err e
  refuses Period h = at_period (false_within most_step p h)
  refuses Jitter h = at_jitter (true_within _ _ h.0) (false_within most_burst (burst_of s) (λ k. let l = kept_burst h.0.0 k in omega (arith, h.1)))
  refuses Distance h = at_distance (true_within _ _ h.0) (true_within _ _ (burst_kept h.0.0 h.1)) (lt-leb _ _ h.2)

  sheet_exact : SheetExact s (sheet_read s)
  sheet_exact = record {
    taken = λ c. ((λ e. subst Good e good), described c);
    refused = λ e. ((λ q. subst Good q good), refuses e);
  }

pub exact_sheet : (s : Sheet) (r : Result Content SheetFault) → r ≡ sheet_read s → SheetExact s r
exact_sheet s r e = subst (SheetExact s) (sym e) (sheet_exact s)
