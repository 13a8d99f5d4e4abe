-- What the firmware is told of a record, in one number.
use Rattle.std.specs.Prelude.{◌≡◌, ℕ, ◌/◌, ◌%◌, ◌↔◌, List, Ok, Err, Result}
use Rattle.fault.specs.Packed.{packed}
use Rattle.record.specs.Setups.{Content}
use Rattle.record.specs.Exact.{Says, First}
use Rattle.record.specs.Faults.{record_fault}
use Rattle.record.specs.declared.faults.RecordFault.{RecordFault}

-- 0 for a record that is taken
abbrev pub verdict : Result Content RecordFault → ℕ
verdict (Ok c) = 0
verdict (Err e) = packed (record_fault e)

-- 0 exactly where the record says something; else the number and the place of its first refusal can be read off
pub record Verdict (bytes : List ℕ) (n : ℕ) : Type 0 where
  pub passes : (n ≡ 0) ↔ ((c : Content) × Says bytes c)
  pub number : (e : RecordFault) → First bytes e → n / 65536 ≡ (record_fault e).number
  pub place : (e : RecordFault) → First bytes e → n % 65536 ≡ (record_fault e).place
