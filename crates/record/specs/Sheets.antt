-- What a sonde sheet says: its period, its jitter and its least distance make one staircase or two.
use Rattle.std.specs.Prelude.{◌≡◌, ℕ, zero, suc, ◌+◌, ◌*◌, ◌/◌, ◌<◌, ◌≤◌, false, not, if◌then◌else◌, ◌↔◌, [], ◌∷◌, Some, None, Ok, Err, Option, Result, nat_le}
use Rattle.staircase.specs.Limits.{Within, within, most_burst, most_step}
use Rattle.staircase.specs.Of.{Stair}
use Rattle.record.specs.Setups.{Content, default_capacity, default_break_even}
use Rattle.record.specs.declared.faults.SheetFault.{SheetFault}
use Rattle.record.specs.declared.faults.SheetFault.TheVariants.{Period, Jitter, Distance}
use Rattle.record.specs.declared.sheet.Sheet.{Sheet}

-- no two samples come closer than the least distance; 0 is for none
abbrev pub apart : ℕ → Option Stair
apart zero = None
apart (suc d) = Some (record { burst = 1; step = suc d })

abbrev pub distance_read : ℕ → Result (Option Stair) SheetFault
distance_read d = if nat_le d most_step then Ok (apart d) else Err Distance

-- a burst and a period, a least distance, and the defaults
abbrev pub sheet_content : ℕ → ℕ → ℕ → Content
sheet_content burst period distance = record {
  staircases = Some (record { burst = burst; step = period }) ∷ apart distance ∷ None ∷ None ∷ [];
  capacity = default_capacity;
  break_even = default_break_even;
  capacity_stated = false;
  break_even_stated = false;
}

abbrev pub burst_of : Sheet → ℕ
burst_of s = 1 + s.jitter / s.period

abbrev pub sheet_read : Sheet → Result Content SheetFault
sheet_read s =
    if not (within most_step s.period) then Err Period
    else if not (within most_burst (burst_of s)) then Err Jitter
    else if nat_le s.distance most_step then Ok (sheet_content (burst_of s) s.period s.distance)
    else Err Distance

-- ────────────────────────────────── when it is taken, and when not

-- the burst is one more than the whole periods that the jitter holds
pub record Describes (s : Sheet) (c : Content) : Type 0 where
  pub periods : ℕ
  pub held : periods * s.period ≤ s.jitter
  pub no_more : s.jitter < suc periods * s.period
  pub period : Within most_step s.period
  pub burst : suc periods ≤ most_burst
  pub distance : s.distance ≤ most_step
  pub content : c ≡ sheet_content (suc periods) s.period s.distance

-- as many whole periods as the greatest burst has samples would make it one more
abbrev pub Refuses : Sheet → SheetFault → Type 0
Refuses s Period = Within most_step s.period → ⊥
Refuses s Jitter = Within most_step s.period × (most_burst * s.period ≤ s.jitter)
Refuses s Distance = Within most_step s.period × (s.jitter < most_burst * s.period) × (most_step < s.distance)

pub record SheetExact (s : Sheet) (r : Result Content SheetFault) : Type 0 where
  pub taken : (c : Content) → (r ≡ Ok c) ↔ Describes s c
  pub refused : (e : SheetFault) → (r ≡ Err e) ↔ Refuses s e
