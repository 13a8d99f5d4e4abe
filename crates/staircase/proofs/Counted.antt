-- A counter is one number, the ticks that it takes to fill up: a tick lowers it by one, a sample raises it by the step.
use Rattle.std.proofs.Common.{◌≡◌, ℕ, zero, suc, ◌+◌, ◌-◌, ◌*◌, ◌<◌, ◌≤◌, min, ◌⊎◌, ◌↔◌, sym, refl, ap, ◌∙◌, subst, inl, inr, mul-le-mul_right, arith}
use Rattle.std.proofs.lemmas.Bool.{cases_lt, cases_eq, le-leb, lt-leb, eq-eqb, ne_eqb}
use Rattle.staircase.specs.Counting.{Proper, holding, elapsed, charged, until_full}
use Rattle.staircase.specs.declared.counter.Counter.{Counter}

-- ────────────────────────────────── full, or lacking tokens

pub full_left : (c : Counter) → c.tokens ≡ c.burst → until_full c ≡ 0
full_left c e = rw (eq-eqb c.tokens c.burst e) refl

lacking_left : (c : Counter) (n : ℕ) → Proper c → c.burst ≡ c.tokens + suc n → until_full c ≡ n * c.step + c.timer
lacking_left c n p e =
    let lacks : c.burst - c.tokens ≡ suc n = omega arith in
    rw (ne_eqb c.tokens c.burst (λ e. omega arith), lacks) (omega (arith, p.3.1))

data State (c : Counter) : Type 0 where
  is_full : c.tokens ≡ c.burst → State c
  lacks : (n : ℕ) → c.burst ≡ c.tokens + suc n → State c

state : (c : Counter) → Proper c → State c
state c p = pick (cases_lt c.tokens c.burst)
  where
    pick : (c.tokens < c.burst) ⊎ (c.burst ≤ c.tokens) → State c
    pick (inl h) = lacks (c.burst - c.tokens - 1) (omega arith)
    pick (inr h) = is_full (omega (arith, p.2))

-- ────────────────────────────────── tokens

pub some_token : (c : Counter) → Proper c → (1 ≤ c.tokens) ↔ (until_full c + c.step ≤ c.burst * c.step)
some_token c p = pick (state c p)
  where
    pick : State c → (1 ≤ c.tokens) ↔ (until_full c + c.step ≤ c.burst * c.step)
    pick (is_full e) = (λ h. omega (arith, full_left c e, mul-le-mul_right c.step p.0.0), λ h. omega (arith, p.0.0))
    pick (lacks n e) = (forth, back c.tokens b)
      where
        b : c.burst * c.step ≡ (c.tokens + suc n) * c.step
        b = ap (λ x. x * c.step) e

        forth : 1 ≤ c.tokens → until_full c + c.step ≤ c.burst * c.step
        forth h = omega (arith, b, lacking_left c n p e, mul-le-mul_right c.step h, p.3.1)

        back : (k : ℕ) → c.burst * c.step ≡ (k + suc n) * c.step → until_full c + c.step ≤ c.burst * c.step → 1 ≤ k
        back zero i h = absurd (omega (arith, lacking_left c n p e, p.3.0))
        back (suc k) i h = omega arith

pub left_fits : (c : Counter) → Proper c → until_full c ≤ c.burst * c.step
left_fits c p = pick (state c p)
  where
    pick : State c → until_full c ≤ c.burst * c.step
    pick (is_full e) = omega (arith, full_left c e)
    pick (lacks n e) =
        let b : c.burst * c.step ≡ (c.tokens + suc n) * c.step = ap (λ x. x * c.step) e in
        omega (arith, lacking_left c n p e, p.3.1)

-- ────────────────────────────────── a tick

elapses : (c : Counter) → c.timer ≤ 1 → elapsed c ≡ holding c (min c.burst (c.tokens + 1)) c.step
elapses c h = rw (le-leb c.timer 1 h) refl

runs : (c : Counter) → 1 < c.timer → elapsed c ≡ holding c c.tokens (c.timer - 1)
runs c h = rw (lt-leb c.timer 1 h) refl

pub elapsed_proper : (c : Counter) → Proper c → Proper (elapsed c)
elapsed_proper c p = pick (cases_lt 1 c.timer)
  where
    pick : (1 < c.timer) ⊎ (c.timer ≤ 1) → Proper (elapsed c)
    pick (inl h) = rw (runs c h) (p.0, p.1, p.2, (omega arith, omega (arith, p.3.1)))
    pick (inr h) = rw (elapses c h) (p.0, p.1, omega arith, (p.1.0, omega arith))

pub elapsed_left : (c : Counter) → Proper c → until_full (elapsed c) ≡ until_full c - 1
elapsed_left c p = pick (cases_lt 1 c.timer) (state c p)
  where
    pick : (1 < c.timer) ⊎ (c.timer ≤ 1) → State c → until_full (elapsed c) ≡ until_full c - 1
    pick (inl h) (is_full e) = rw (runs c h) (omega (arith, full_left c e, full_left (holding c c.tokens (c.timer - 1)) e))
    pick (inl h) (lacks n e) =
        rw (runs c h)
        (omega (arith, lacking_left c n p e, lacking_left (holding c c.tokens (c.timer - 1)) n (rw (runs c h) at (elapsed_proper c p)) e))
    pick (inr h) (is_full e) =
        rw (elapses c h)
        (omega (arith, full_left c e, full_left (holding c (min c.burst (c.tokens + 1)) c.step) (omega arith)))
    pick (inr h) (lacks zero e) =
        rw (elapses c h)
        (omega (arith, lacking_left c 0 p e, full_left (holding c (min c.burst (c.tokens + 1)) c.step) (omega arith)))
    pick (inr h) (lacks (suc n) e) =
        rw (elapses c h)
        (omega (
          arith,
          p.3.0,
          lacking_left c (suc n) p e,
          lacking_left (holding c (min c.burst (c.tokens + 1)) c.step) n (rw (elapses c h) at (elapsed_proper c p)) (omega arith),
        ))

-- ────────────────────────────────── a sample

restarts : (c : Counter) → c.tokens ≡ c.burst → charged c ≡ holding c (c.tokens - 1) c.step
restarts c e = rw (eq-eqb c.tokens c.burst e) refl

goes_on : (c : Counter) → (c.tokens ≡ c.burst → ⊥) → charged c ≡ holding c (c.tokens - 1) c.timer
goes_on c h = rw (ne_eqb c.tokens c.burst h) refl

pub charged_proper : (c : Counter) → Proper c → Proper (charged c)
charged_proper c p = pick (cases_eq c.tokens c.burst)
  where
    pick : (c.tokens ≡ c.burst) ⊎ (c.tokens ≡ c.burst → ⊥) → Proper (charged c)
    pick (inl e) = subst Proper (sym (restarts c e)) (p.0, p.1, omega (arith, p.2), (p.1.0, omega arith))
    pick (inr h) = subst Proper (sym (goes_on c h)) (p.0, p.1, omega (arith, p.2), p.3)

pub charged_left : (c : Counter) → Proper c → 1 ≤ c.tokens → until_full (charged c) ≡ until_full c + c.step
charged_left c p h = pick (state c p)
  where
    pick : State c → until_full (charged c) ≡ until_full c + c.step
    pick (is_full e) =
        ap until_full (restarts c e)
        ∙ (omega (arith, full_left c e, lacking_left (holding c (c.tokens - 1) c.step) 0 (subst Proper (restarts c e) (charged_proper c p)) (omega arith)))
    pick (lacks n e) =
        let some : c.tokens ≡ c.burst → ⊥ = λ i. omega arith in
        ap until_full (goes_on c some)
        ∙ (omega (arith, lacking_left c n p e, lacking_left (holding c (c.tokens - 1) c.timer) (suc n) (subst Proper (goes_on c some) (charged_proper c p)) (omega arith)))
