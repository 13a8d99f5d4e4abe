use Rattle.std.proofs.Common.{◌≡◌, ℕ, ◌<◌, Bool, true, false, get_or, sym, subst, rules, tests, arith}
use Rattle.std.specs.Bool.{MatchBool}
use Rattle.std.specs.List.{range_with_len, HoldsAt, AllWithin}
use Rattle.std.proofs.lemmas.Bool.{both_ways}
use Rattle.std.proofs.lemmas.Iterator.{YieldsList-from_range, cases_from_any}
use Rattle.std.proofs.lemmas.List.FromFn.{get_or-range_with_len}
use Rattle.record.specs.Layout.{stands}
use Rattle.record.specs.Reading.{some_staircase}
use Rattle.record.proofs.Exactly.{stairs_no, has_stairs}
use Rattle.record.proofs.bits.BitMap.has_staircase.Goals as goal

counted : (k : ℕ) → k < 4 → get_or (range_with_len 0 4) k 0 ≡ k
counted k l = omega (arith, get_or-range_with_len 0 4 k 0 l)

module _ (bits : ℕ) where
  abbrev Yes : ℕ → Type 0
  Yes k = stands bits k ≡ true

  abbrev No : ℕ → Type 0
  No k = stands bits k ≡ false

  some_found : (b : Bool) → MatchBool b ((k : ℕ) × (k < 4) × HoldsAt Yes (range_with_len 0 4) k) (AllWithin No (range_with_len 0 4) 0 4) → b ≡ some_staircase bits
  some_found true (k, l, found) = sym (has_stairs bits (λ none. both_ways (stands bits k) (none k l) (subst Yes (counted k l) (found 0))))
  some_found false none = sym (stairs_no bits (λ k l. subst No (counted k l) (none k 0 (omega arith) l)))

pub returns : goal.returns
returns c =
    let bits = c.args.self.0 in
    some_found bits c.any.result (cases_from_any _ _ c.any.result (Yes bits) (No bits) c.any.ensures.ran (YieldsList-from_range 0 4 4 (search rules) (omega arith)) (λ x q k. search (rules, tests)) (λ x q k. search (rules, tests)))
