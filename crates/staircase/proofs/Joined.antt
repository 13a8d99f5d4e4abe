-- What came and a continuation behind it keep a staircase exactly if the continuation's level, which begins where the
-- other stands, never passes burst × step.
use Rattle.std.proofs.Common.{◌≡◌, ℕ, zero, suc, ◌+◌, ◌-◌, ◌*◌, ◌<◌, ◌≤◌, true, leb, ◌⊎◌, ◌↔◌, List, ◌∷◌, sym, refl, subst, inl, inr, add-zero, add-suc, arith}
use mathlib.Core.Path.{fun_ext}
use Rattle.std.proofs.lemmas.Bool.{cases_lt, cases_order, le-leb, lt-leb, eq-eqb, ne_eqb}
use Rattle.staircase.specs.Of.{Stair}
use Rattle.staircase.specs.Streams.{Stream, Keeps, falls, followed}
use Rattle.staircase.proofs.Levels.{level, keeps_is}

-- ────────────────────────────────── levels look back only

level_alike : (step start : ℕ) (c d : Stream) (t : ℕ) → ((k : ℕ) → k ≤ t → c k ≡ d k) → level step start c t ≡ level step start d t
level_alike step start c d zero same = rw (same 0 (omega arith))
level_alike step start c d (suc t) same = rw (same (suc t) (omega arith), level_alike step start c d t (λ k h. same k (omega arith)))

level_raised : (step start : ℕ) (c d : Stream) (t n : ℕ) → ((k : ℕ) → k < t → c k ≡ d k) → c t ≡ d t + n → level step start c t ≡ level step start d t + n * step
level_raised step start c d zero n same e = rw e (omega arith)
level_raised step start c d (suc t) n same e = rw (e, level_alike step start c d t (λ k h. same k (omega arith))) (omega arith)

-- nothing fell after `now`
abbrev pub Old : List ℕ → ℕ → Type 0
Old fell now = (t : ℕ) → now < t → falls fell t ≡ 0

module _ (fell : List ℕ) (now : ℕ) (old : Old fell now) where
  -- the level that the continuation begins at
  abbrev pub standing : ℕ → ℕ
  standing step = level step 0 (falls fell) now

  -- ────────────────────────────────── a continuation

  module _ (c : Stream) where
    before : (t : ℕ) → t < now → followed fell now c t ≡ falls fell t
    before t h = rw (lt-leb now t h) (omega arith)

    present : followed fell now c now ≡ falls fell now + c 0
    present =
        let e : leb now now ≡ true = le-leb now now (omega arith) in
        let f : now - now ≡ 0 = omega arith in
        rw (e, f)

    after : (k : ℕ) → followed fell now c (suc (now + k)) ≡ c (suc k)
    after k =
        let e : leb now (suc (now + k)) ≡ true = le-leb now (suc (now + k)) (omega arith) in
        let f : suc (now + k) - now ≡ suc k = omega arith in
        rw (e, f) (omega (arith, old (suc (now + k)) (omega arith)))

    level_before : (step t : ℕ) → t < now → level step 0 (followed fell now c) t ≡ level step 0 (falls fell) t
    level_before step t h = level_alike step 0 (followed fell now c) (falls fell) t (λ k l. before k (omega arith))

    level_later : (step k : ℕ) → level step 0 (followed fell now c) (now + k) ≡ level step (standing step) c k
    level_later step zero = rw add-zero (level_raised step 0 (followed fell now c) (falls fell) now (c 0) before present)
    level_later step (suc k) = rw (add-suc, after k, level_later step k)

    pub continued_is : (s : Stair) → 0 < s.step → Keeps s (falls fell) →
        Keeps s (followed fell now c) ↔ ((k : ℕ) → level s.step (standing s.step) c k ≤ s.burst * s.step)
    continued_is s pos kept = (forth, back)
      where
        all : Stream
        all = followed fell now c

        forth : Keeps s all → (k : ℕ) → level s.step (standing s.step) c k ≤ s.burst * s.step
        forth keep k = rw (level_later s.step k) at ((keeps_is s pos all).0 keep (now + k))

        back : ((k : ℕ) → level s.step (standing s.step) c k ≤ s.burst * s.step) → Keeps s all
        back under = (keeps_is s pos all).1 (λ t. pick t (cases_lt t now))
          where
            pick : (t : ℕ) → (t < now) ⊎ (now ≤ t) → level s.step 0 all t ≤ s.burst * s.step
            pick t (inl h) = rw (level_before s.step t h) ((keeps_is s pos (falls fell)).0 kept t)
            pick t (inr h) =
                let e : now + (t - now) ≡ t = omega arith in
                rw (← e, level_later s.step (t - now)) (under (t - now))

  -- ────────────────────────────────── one more sample

  abbrev single : Stream
  single zero = 1
  single (suc t) = 0

  single_level : (step start k : ℕ) → level step start single k ≤ start + step
  single_level step start zero = omega arith
  single_level step start (suc k) = omega (arith, single_level step start k)

  earlier : (t : ℕ) → t < now → falls (now ∷ fell) t ≡ falls fell t
  earlier t h = rw (ne_eqb now t (λ e. omega arith)) (omega arith)

  at_now : falls (now ∷ fell) now ≡ falls fell now + 1
  at_now = rw (eq-eqb now now refl) (omega arith)

  pub old_more : Old (now ∷ fell) now
  old_more t h = rw (ne_eqb now t (λ e. omega arith)) (omega (arith, old t h))

  one_more : followed fell now single ≡ falls (now ∷ fell)
  one_more = fun_ext (λ t. pick t (cases_order now t))
    where
      pick : (t : ℕ) → (now ≡ t) ⊎ ((now < t) ⊎ (t < now)) → followed fell now single t ≡ falls (now ∷ fell) t
      pick t (inl e) = rw (← e) (omega (arith, present single, at_now))
      pick t (inr (inl h)) =
          let e : t ≡ suc (now + (t - now - 1)) = omega arith in
          rw e (omega (arith, after single (t - now - 1), old_more (suc (now + (t - now - 1))) (omega arith)))
      pick t (inr (inr h)) = omega (arith, before single t h, earlier t h)

  pub sampled_is : (s : Stair) → 0 < s.step → Keeps s (falls fell) → Keeps s (falls (now ∷ fell)) ↔ (standing s.step + s.step ≤ s.burst * s.step)
  sampled_is s pos kept = (forth, back)
    where
      forth : Keeps s (falls (now ∷ fell)) → standing s.step + s.step ≤ s.burst * s.step
      forth keep = omega (arith, (continued_is single s pos kept).0 (subst (Keeps s) (sym one_more) keep) 0)

      back : standing s.step + s.step ≤ s.burst * s.step → Keeps s (falls (now ∷ fell))
      back room = subst (Keeps s) one_more ((continued_is single s pos kept).1 (λ k. omega (arith, single_level s.step (standing s.step) k)))

  pub level_more : (step : ℕ) → level step 0 (falls (now ∷ fell)) now ≡ standing step + step
  level_more step = omega (arith, level_raised step 0 (falls (now ∷ fell)) (falls fell) now 1 earlier at_now)
