-- What the counters of a table promise of every run: each answer is right, by the samples that were accepted before it.
use Rattle.std.specs.Prelude.{◌≡◌, ℕ, ◌<◌, ◌≤◌, ◌↔◌, List, [], ◌∷◌, Some, None, Option}
use Rattle.staircase.specs.Of.{Stair}
use Rattle.staircase.specs.Streams.{Stream, brought, Keeps, Numbered, KeepsAll, falls, Continues}
use Rattle.staircase.specs.Runs.{Moment, tick, sample, bound, Run, clock, fell}
use Rattle.staircase.specs.declared.counter.Counter.{Counter}

-- Of the staircases that the stream breaks, the one of this number is the lowest.
pub record LowestBroken (table : List (Option Stair)) (c : Stream) (number : ℕ) : Type 0 where
  pub staircase : Stair
  pub there : Numbered table number staircase
  pub broken : Keeps staircase c → ⊥
  pub lower : (n : ℕ) (s : Stair) → n < number → Numbered table n s → Keeps s c

-- A sample with which the stream is this one is accepted exactly if the stream keeps every staircase, and refused for a
-- number exactly if that is the lowest broken one's.
pub record Judged (table : List (Option Stair)) (c : Stream) (refusal : Option ℕ) : Type 0 where
  pub accepted : (refusal ≡ None) ↔ KeepsAll table c
  pub refused : (number : ℕ) → (refusal ≡ Some number) ↔ LowestBroken table c number

-- A continuation brings n samples in the present tick and the `horizon` ticks after it, and none brings more.
pub record Most (table : List (Option Stair)) (came : List ℕ) (now horizon n : ℕ) : Type 0 where
  pub continuation : Stream
  pub keeps : Continues table came now continuation
  pub brings : brought continuation 0 horizon ≡ n
  pub never_more : (c : Stream) → Continues table came now c → brought c 0 horizon ≤ n

-- the answer of a moment, after the ones before it
abbrev pub Right : List (Option Stair) → Moment → List Moment → Type 0
Right table tick before = Unit {0}
Right table (sample refusal) before = Judged table (falls (clock before ∷ fell before)) refusal
Right table (bound horizon n) before = Most table (fell before) (clock before) horizon n

abbrev pub AllRight : List (Option Stair) → List Moment → Type 0
AllRight table [] = Unit {0}
AllRight table (m ∷ before) = Right table m before × AllRight table before

abbrev pub Promise : List (Option Stair) → List (Option Counter) → Type 0
Promise table start = (ms : List Moment) (cs : List (Option Counter)) → Run start ms cs → AllRight table ms
