-- A stream keeps a staircase exactly if its level, one number that rises by the step with each sample and falls by one
-- with each tick, never passes burst × step.
use Rattle.std.proofs.Common.{◌≡◌, ℕ, zero, suc, ◌+◌, ◌-◌, ◌*◌, ◌<◌, ◌≤◌, ◌⊎◌, ◌↔◌, inl, inr, add-zero, add-suc, mul-le-mul_left, zero-add, arith}
use Rattle.std.proofs.lemmas.Bool.{cases_lt}
use Rattle.staircase.specs.Of.{Stair}
use Rattle.staircase.specs.Streams.{Stream, brought, Keeps}
use Rattle.staircase.proofs.Division.{by_step}

-- after the samples of tick t, from `start` before those of tick 0
abbrev pub level : ℕ → ℕ → Stream → ℕ → ℕ
level step start c zero = start + c 0 * step
level step start c (suc t) = level step start c t - 1 + c (suc t) * step

module _ (step start : ℕ) (c : Stream) where
  -- ────────────────────────────────── no stretch is above the level

  pub since_start : (t : ℕ) → start + brought c 0 t * step ≤ level step start c t + t
  since_start zero = omega arith
  since_start (suc t) = rw zero-add (omega (arith, since_start t))

  last_tick : (t : ℕ) → c t * step ≤ level step start c t
  last_tick zero = omega arith
  last_tick (suc t) = omega arith

  since : (from more : ℕ) → brought c from more * step ≤ level step start c (from + more) + more
  since from zero = rw (add-zero from) (omega (arith, last_tick from))
  since from (suc more) = rw (add-suc from more) (omega (arith, since from more))

  -- ────────────────────────────────── and some stretch is at it

  abbrev pub Peak : ℕ → Type 0
  Peak t =
      (level step start c t + t ≡ start + brought c 0 t * step)
      ⊎ ((from : ℕ) × (more : ℕ) × (suc from + more ≡ t) × (level step start c t + more ≡ brought c (suc from) more * step))

  pub peak : (t : ℕ) → Peak t
  peak zero = inl (omega arith)
  peak (suc t) = pick (peak t) (cases_lt 0 (level step start c t))
    where
      pick : Peak t → (0 < level step start c t) ⊎ (level step start c t ≤ 0) → Peak (suc t)
      pick p (inr empty) = inr (t, 0, omega arith, omega arith)
      pick (inl e) (inl some) = inl (rw zero-add (omega arith))
      pick (inr (from, more, at, e)) (inl some) =
          let next : suc from + suc more ≡ suc t = omega arith in
          inr (from, suc more, next, rw next (omega arith))

-- ────────────────────────────────── the level and the staircase

module _ (s : Stair) (pos : 0 < s.step) (c : Stream) where
  abbrev pub Under : Type 0
  Under = (t : ℕ) → level s.step 0 c t ≤ s.burst * s.step

  keeps_under : Keeps s c → Under
  keeps_under k t = pick (peak s.step 0 c t)
    where
      pick : Peak s.step 0 c t → level s.step 0 c t ≤ s.burst * s.step
      pick (inl e) = omega (arith, (by_step (brought c 0 t) s.burst s.step t pos).0 (k 0 t))
      pick (inr (from, more, at, e)) = omega (arith, (by_step (brought c (suc from) more) s.burst s.step more pos).0 (k (suc from) more))

  under_keeps : Under → Keeps s c
  under_keeps u from more = (by_step (brought c from more) s.burst s.step more pos).1 (omega (arith, since s.step 0 c from more, u (from + more)))

  pub keeps_is : Keeps s c ↔ Under
  keeps_is = (keeps_under, under_keeps)

-- Of two levels of one stream, the one with the smaller step is the lower.
pub ordered : (small large : ℕ) (c : Stream) → small ≤ large → (t : ℕ) → level small 0 c t ≤ level large 0 c t
ordered small large c h zero = omega (arith, mul-le-mul_left (c 0) h)
ordered small large c h (suc t) = omega (arith, mul-le-mul_left (c (suc t)) h, ordered small large c h t)
