-- The steps of reading, put together.
use Rattle.std.proofs.Common.{◌≡◌, ℕ, suc, ◌-◌, ◌≤◌, true, List, length, get_or, take, drop, Ok, Result, sym, ap, ◌∙◌, subst, arith, length-drop, w8, Fits}
use Rattle.std.proofs.lemmas.List.{take_rest}
use Rattle.std.proofs.lemmas.List.Elements.{All-from_get_or}
use Rattle.std.proofs.lemmas.Bool.Decides.{nat_tests}
use Rattle.record.specs.Layout.{called_for}
use Rattle.record.specs.Setups.{Content}
use Rattle.record.specs.Steps.{Cursor, setup_read}
use Rattle.record.specs.Reading.{some_staircase, bits_checked, judgement, passing, reading}
use Rattle.record.specs.Exact.{Exact}
use Rattle.record.specs.declared.faults.RecordFault.{RecordFault}
use Rattle.record.proofs.Laid.{fields_in, Byte}
use Rattle.record.proofs.Stepwise.{setup_judged}
use Rattle.record.proofs.Exactly.{exact}

at_some : (xs : List ℕ) → 1 ≤ length xs → reading xs ≡ passing (bits_checked (get_or xs 0 0) (length xs)) (judgement (fields_in xs))
at_some xs h = grind arith

checked : (bits n : ℕ) → Ok tt ≡ bits_checked bits n → (some_staircase bits ≡ true) × (n ≡ called_for bits)
checked bits n e = grind (arith, nat_tests)

pub at_setup : (xs : List ℕ) (c : Cursor) → 1 ≤ length xs → Ok tt ≡ bits_checked (get_or xs 0 0) (length xs) → c ≡ record { rest = take (length xs - 1) (drop 1 xs); offset = 1 } → setup_read (get_or xs 0 0) c ≡ reading xs
at_setup xs c h e q =
    let k = checked (get_or xs 0 0) (length xs) e in
    let n : suc (length (drop 1 xs)) ≡ called_for (get_or xs 0 0) = omega (arith, length-drop 1 xs, k.1) in
    ap (setup_read (get_or xs 0 0)) (q ∙ (λ i. record { rest = take_rest xs 1 i; offset = 1 }))
    ∙ setup_judged (get_or xs 0 0) (drop 1 xs) k.0 n
    ∙ ap (λ (r : Result (Unit {0}) RecordFault). passing r (judgement (fields_in xs))) e
    ∙ sym (at_some xs h)

pub exact_read : (bytes : List ℕ) (r : Result Content RecordFault) → r ≡ reading bytes → ((i : ℕ) → Fits w8 (get_or bytes i 0)) → Exact bytes r
exact_read bytes r e f = subst (Exact bytes) (sym e) (exact bytes (All-from_get_or Byte bytes 0 (λ i l. (f i).fits)))
