-- The least of the bounds is brought by one continuation, at every horizon at once.
use Rattle.std.proofs.Common.{◌≡◌, ℕ, zero, suc, ◌+◌, ◌-◌, ◌*◌, ◌/◌, ◌<◌, ◌≤◌, ◌⊎◌, inl, inr, le-div_iff_mul-le, zero-add, arith}
use Rattle.std.proofs.Math.Nat.{mul-add-div_right}
use Rattle.std.proofs.lemmas.Bool.{cases_lt}
use Rattle.std.proofs.lemmas.Nat.{le-div}
use Rattle.staircase.specs.Streams.{Stream, brought}
use Rattle.staircase.proofs.Division.{div_grows, div_parts, div_wider, by_step}
use Rattle.staircase.proofs.Levels.{level, since_start, Peak, peak}

-- the stream that has brought so many by each tick
abbrev pub steps : (ℕ → ℕ) → Stream
steps C zero = C 0
steps C (suc t) = C (suc t) - C t

module _ (C : ℕ → ℕ) (grows : (t : ℕ) → C t ≤ C (suc t)) where
  pub steps_bring : (h : ℕ) → brought (steps C) 0 h ≡ C h
  steps_bring zero = omega arith
  steps_bring (suc h) = rw (zero-add (suc h)) (omega (arith, steps_bring h, grows h))

  pub steps_bring_later : (from more : ℕ) → C from + brought (steps C) (suc from) more ≡ C (suc from + more)
  steps_bring_later from zero =
      let e : suc from + 0 ≡ suc from = omega arith in
      rw e (omega (arith, grows from))
  steps_bring_later from (suc more) =
      let e : suc from + suc more ≡ suc (suc from + more) = omega arith in
      rw e (omega (arith, steps_bring_later from more, grows (suc from + more)))

-- what a counter of these three numbers lets come by a horizon; `w` is the ticks that it takes to fill up
abbrev pub most : ℕ → ℕ → ℕ → ℕ → ℕ
most burst step w h = (burst * step - w + h) / step

-- Some counters, each with its burst, its step and its ticks until full; and the least of their bounds.
module _
    {A : Type 0} (There : A → Type 0) (burst step left : A → ℕ)
    (some_burst : (a : A) → There a → 1 ≤ burst a) (some_step : (a : A) → There a → 1 ≤ step a)
    (fits : (a : A) → There a → left a ≤ burst a * step a)
    (ordered : (a b : A) → There a → There b → step a ≤ step b → left a ≤ left b)
    (C : ℕ → ℕ)
    (below : (a : A) → There a → (h : ℕ) → C h ≤ most (burst a) (step a) (left a) h)
    (attained : (h : ℕ) → (a : A) × There a × (most (burst a) (step a) (left a) h ≡ C h))
  where
    abbrev allowed : A → ℕ → ℕ
    allowed a h = most (burst a) (step a) (left a) h

    pub grows : (h : ℕ) → C h ≤ C (suc h)
    grows h =
        let least = attained (suc h) in
        let a = least.0 in
        omega (
          arith,
          least.2,
          below a least.1 h,
          div_grows (burst a * step a - left a + h) (burst a * step a - left a + suc h) (step a) (some_step a least.1) (omega arith),
        )

    -- the counter with the least bound has the larger step
    coarse : (i j : A) → There i → There j → step i ≤ step j → (a d : ℕ) → allowed j (suc a + d) ≤ allowed j a + burst i + d / step i
    coarse i j ti tj h a d =
        let x : ℕ = burst j * step j - left j + a in
        let p : allowed j (suc a + d) ≤ (x + 1 + d) / step j = div_grows _ _ (step j) (some_step j tj) (omega arith) in
        omega (arith, some_burst i ti, div_parts x d (step j) (some_step j tj), div_wider d (step i) (step j) (some_step i ti) h)

    -- or the smaller
    fine : (i j : A) → There i → There j → step j ≤ step i → (a d : ℕ) → allowed i (suc a + d) ≤ allowed j a + burst i + d / step i
    fine i j ti tj h a d = pick (cases_lt a (left j))
      where
        pick : (a < left j) ⊎ (left j ≤ a) → allowed i (suc a + d) ≤ allowed j a + burst i + d / step i
        pick (inl l) =
            let p : allowed i (suc a + d) ≤ (burst i * step i + d) / step i =
            div_grows _ _ (step i) (some_step i ti) (omega (arith, fits i ti, ordered j i tj ti h)) in
            omega (arith, mul-add-div_right (some_step i ti) (burst i) d)
        pick (inr l) =
            let x : ℕ = a - left j in
            let p : allowed i (suc a + d) ≤ (burst i * step i + (x + 1 + d)) / step i =
            div_grows _ _ (step i) (some_step i ti) (omega (arith, fits i ti, ordered j i tj ti h)) in
            let q : (burst j * step j + x) / step j ≤ allowed j a = div_grows _ _ (step j) (some_step j tj) (omega (arith, fits j tj)) in
            omega (
              arith,
              some_burst j tj,
              mul-add-div_right (some_step i ti) (burst i) (x + 1 + d),
              div_parts x d (step i) (some_step i ti),
              div_wider x (step j) (step i) (some_step j tj) h,
              mul-add-div_right (some_step j tj) (burst j) x,
            )

    window : (i : A) → There i → (a d : ℕ) → C (suc a + d) ≤ C a + burst i + d / step i
    window i ti a d = pick (attained a)
      where
        pick : (j : A) × There j × (allowed j a ≡ C a) → C (suc a + d) ≤ C a + burst i + d / step i
        pick (j, tj, e) = go (cases_lt (step i) (step j))
          where
            go : (step i < step j) ⊎ (step j ≤ step i) → C (suc a + d) ≤ C a + burst i + d / step i
            go (inl h) = omega (arith, below j tj (suc a + d), coarse i j ti tj (omega arith) a d)
            go (inr h) = omega (arith, below i ti (suc a + d), fine i j ti tj h a d)

    -- No counter is overdrawn by it.
    pub steps_under : (i : A) → There i → (t : ℕ) → level (step i) (left i) (steps C) t ≤ burst i * step i
    steps_under i ti t = pick (peak (step i) (left i) (steps C) t)
      where
        pick : Peak (step i) (left i) (steps C) t → level (step i) (left i) (steps C) t ≤ burst i * step i
        pick (inl e) =
            let b : C t * step i ≤ burst i * step i - left i + t = (le-div_iff_mul-le (some_step i ti)).0 (below i ti t) in
            let m : brought (steps C) 0 t * step i ≡ C t * step i = rw (steps_bring C grows t) in
            omega (arith, fits i ti)
        pick (inr (from, more, at, e)) =
            let b : brought (steps C) (suc from) more ≤ burst i + more / step i = omega (arith, steps_bring_later C grows from more, window i ti from more) in
            omega (arith, (by_step (brought (steps C) (suc from) more) (burst i) (step i) more (some_step i ti)).0 b)

-- No stream that overdraws none of them brings more.
pub under_most : (burst step left : ℕ) → 1 ≤ step → left ≤ burst * step → (c : Stream) → ((t : ℕ) → level step left c t ≤ burst * step) →
    (h : ℕ) → brought c 0 h ≤ most burst step left h
under_most burst step left pos fits c u h =
    le-div (brought c 0 h) (burst * step - left + h) step pos (omega (arith, since_start step left c h, u h))
