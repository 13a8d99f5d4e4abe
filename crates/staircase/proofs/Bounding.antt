-- The least bound is what one continuation brings, and none brings more.
use Rattle.std.proofs.Common.{◌≡◌, ℕ, ◌*◌, ◌≤◌, ◌↔◌, List, get_or, Some, None, Option, unwrap_or, sym, ap, ◌∙◌, subst, arith}
use Rattle.staircase.specs.Of.{Stair}
use Rattle.staircase.specs.Counting.{until_full, bound}
use Rattle.staircase.specs.Tables.{least_bound}
use Rattle.staircase.specs.Streams.{Stream, brought, Keeps, falls, followed, Continues}
use Rattle.staircase.specs.Promise.{Most}
use Rattle.staircase.specs.declared.counter.Counter.{Counter}
use Rattle.staircase.proofs.Levels.{level, ordered}
use Rattle.staircase.proofs.Joined.{continued_is}
use Rattle.staircase.proofs.Densest.{steps, steps_bring, grows, steps_under, under_most}
use Rattle.staircase.proofs.Counted.{left_fits}
use Rattle.staircase.proofs.Numbered.{Least, told, least_there}
use Rattle.staircase.proofs.Reached.{counted, Exact, Good, counter_of, stair_of_lem, kept_by}

module _ (table : List (Option Stair)) (came : List ℕ) (now : ℕ) (cs : List (Option Counter)) (g : Good table came now cs) where
  abbrev There : Counter → Type 0
  There c = (i : ℕ) × (get_or cs i None ≡ Some c)

  exact_of : (c : Counter) → There c → Exact came now c
  exact_of c (i, e) = g.exact i c e

  some_burst : (c : Counter) → There c → 1 ≤ c.burst
  some_burst c t = (exact_of c t).proper.0.0

  some_step : (c : Counter) → There c → 1 ≤ c.step
  some_step c t = (exact_of c t).proper.1.0

  fits : (c : Counter) → There c → until_full c ≤ c.burst * c.step
  fits c t = left_fits c (exact_of c t).proper

  in_order : (c d : Counter) → There c → There d → c.step ≤ d.step → until_full c ≤ until_full d
  in_order c d t u h = omega (arith, (exact_of c t).left, (exact_of d u).left, ordered c.step d.step (falls came) h now)

  -- a continuation, as a counter sees it
  continues_is : (i : ℕ) (c : Counter) → get_or cs i None ≡ Some c → (more : Stream) →
      Keeps (counted c) (followed came now more) ↔ ((k : ℕ) → level c.step (until_full c) more k ≤ c.burst * c.step)
  continues_is i c e more =
      let x = g.exact i c e in
      subst (λ (w : ℕ). Keeps (counted c) (followed came now more) ↔ ((k : ℕ) → level c.step w more k ≤ c.burst * c.step)) (sym x.left)
      (continued_is came now g.old more (counted c) x.proper.1.0 (kept_by g i c e))

  module _ (first : (c : Counter) × There c) where
    -- the least of the bounds
    abbrev C : ℕ → ℕ
    C h = unwrap_or (least_bound cs h) 0

    told_c : (h : ℕ) → least_bound cs h ≡ Some (C h)
    told_c h =
        let l = least_there (λ c. bound c h) cs first.1.0 first.0 first.1.1 in
        l.1 ∙ sym (ap (λ (o : Option ℕ). Some (unwrap_or o 0)) l.1)

    least_c : (h : ℕ) → Least (λ c. bound c h) cs (C h)
    least_c h = told (λ c. bound c h) cs (C h) (told_c h)

    below : (c : Counter) → There c → (h : ℕ) → C h ≤ bound c h
    below c (i, e) h = (least_c h).below i c e

    attained : (h : ℕ) → (c : Counter) × There c × (bound c h ≡ C h)
    attained h = let l = least_c h in (l.one, (l.number, l.there), l.gives)

    -- what the densest continuation brings
    brings : (h : ℕ) → brought (steps C) 0 h ≡ C h
    brings h = steps_bring C (grows There (λ c. c.burst) (λ c. c.step) until_full some_burst some_step fits in_order C below attained) h

    densest_continues : Continues table came now (steps C)
    densest_continues i s e =
        let c = counter_of g i s e in
        subst (λ (x : Stair). Keeps x (followed came now (steps C))) c.2
        ((continues_is i c.0 c.1 (steps C)).1
        (steps_under There (λ c. c.burst) (λ c. c.step) until_full some_burst some_step fits in_order C below attained c.0 (i, c.1)))

    none_brings_more : (more : Stream) → Continues table came now more → (h : ℕ) → brought more 0 h ≤ C h
    none_brings_more more k h =
        let l = attained h in
        let c = l.0 in
        let i = l.1.0 in
        let e = l.1.1 in
        omega (
          arith,
          l.2,
          under_most c.burst c.step (until_full c) (some_step c (i, e)) (fits c (i, e)) more
              ((continues_is i c e more).0 (k i (counted c) (stair_of_lem g i c e))) h,
        )

  pub most_told : (c : Counter) → There c → (h n : ℕ) → Some n ≡ least_bound cs h → Most table came now h n
  most_told c t h n e =
      let same : Some n ≡ Some (C (c, t) h) = e ∙ told_c (c, t) h in
      let is : C (c, t) h ≡ n = cc in
      record {
        continuation = steps (C (c, t));
        keeps = densest_continues (c, t);
        brings = brings (c, t) h ∙ is;
        never_more = λ more k. omega (arith, none_brings_more (c, t) more k h);
      }
