-- The one number for the firmware says what reading says.
use Rattle.std.proofs.Common.{◌≡◌, ℕ, ◌≤◌, List, Ok, Err, Result, refl, arith}
use Rattle.std.specs.Result.{MatchResult}
use Rattle.fault.specs.Packed.{Apart}
use Rattle.record.specs.Setups.{Content, content_of, said}
use Rattle.record.specs.Exact.{Exact}
use Rattle.record.specs.Faults.{record_fault}
use Rattle.record.specs.Checks.{Verdict}
use Rattle.record.specs.declared.faults.RecordFault.{RecordFault}
use Rattle.record.specs.declared.setup.Setup.{Setup}

numbered : (e : RecordFault) → 1 ≤ (record_fault e).number
numbered e = grind arith

pub taken_told : (bytes : List ℕ) (c : Content) → Exact bytes (Ok c) → Verdict bytes 0
taken_told bytes c x = record {
  passes = ((λ _. (c, (x.taken c).0 refl)), (λ _. refl));
  number = λ e f. cc ((x.refused e).1 f);
  place = λ e f. cc ((x.refused e).1 f);
}

pub refused_told : (bytes : List ℕ) (e : RecordFault) (n : ℕ) → Exact bytes (Err e) → Apart (record_fault e) n → Verdict bytes n
refused_told bytes e n x a = record {
  passes = ((λ z. absurd (omega (arith, numbered e, a.number))), (λ s. cc ((x.taken s.0).1 s.1)));
  number = λ d f. cc (a.number, (x.refused d).1 f);
  place = λ d f. cc (a.place, (x.refused d).1 f);
}

pub told : (bytes : List ℕ) (r : Result Setup RecordFault) (n : ℕ) → Exact bytes (said r) → MatchResult r (λ _. n ≡ 0) (λ e. Apart (record_fault e) n) → Verdict bytes n
told bytes (Ok s) n x m = rw m (taken_told bytes (content_of s) x)
told bytes (Err e) n x m = refused_told bytes e n x m
