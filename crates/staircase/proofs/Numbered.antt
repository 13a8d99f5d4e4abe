-- What stands under a number, where numbers may be missing: the lowest without a token, the least of bounds.
use Rattle.std.proofs.Common.{◌≡◌, ℕ, zero, suc, ◌<◌, ◌≤◌, min, true, false, ◌⊎◌, List, [], ◌∷◌, map, fold, length, get_or, Some, None, Option, sym, refl, ap, ◌∙◌, subst, inl, inr, arith}
use Rattle.std.proofs.lemmas.Bool.{cases_lt, eqb-true, eqb-false, lt-ltb, le-ltb, false≢true}
use Rattle.std.proofs.lemmas.List.{get_or_past}
use Rattle.std.proofs.lemmas.Option.{none-some}
use Rattle.std.proofs.Math.ListN.{get_or-map}
use Rattle.std.proofs.Math.Nat.{pos_of_ne-zero}
use Rattle.std.proofs.lemmas.List.Sums.{fails_before_first, passes_at_first}
use Rattle.std.specs.List.{filter_map, reduce, position_or_len}
use Rattle.std.specs.Option.{option_map}
use Rattle.staircase.specs.Limits.{any_there}
use Rattle.staircase.specs.Tables.{empty_there, lowest_empty}
use Rattle.staircase.specs.declared.counter.Counter.{Counter}

module _ {A : Type 0} where
  pub any_there_lem : (os : List (Option A)) → any_there os ≡ true → (i : ℕ) × (x : A) × (get_or os i None ≡ Some x)
  any_there_lem [] h = absurd (false≢true h)
  any_there_lem (None ∷ os) h = let r = any_there_lem os h in (suc r.0, r.1, r.2)
  any_there_lem (Some x ∷ os) h = (0, x, refl)

-- ────────────────────────────────── under a map

module _ {A B : Type 0} (f : A → B) where
  pub mapped_some : (o : Option A) (y : B) → option_map f o ≡ Some y → (x : A) × (o ≡ Some x) × (f x ≡ y)
  mapped_some None y e = absurd (none-some y e)
  mapped_some (Some x) y e = (x, refl, cc)

  -- what stands under a number in the map, stood there before
  pub from_map : (os : List (Option A)) (i : ℕ) (y : B) → get_or (map (option_map f) os) i None ≡ Some y → (x : A) × (get_or os i None ≡ Some x) × (f x ≡ y)
  from_map os i y e = mapped_some (get_or os i None) y (sym (get_or-map (option_map f) os i None) ∙ e)

  pub any_mapped : (os : List (Option A)) → any_there (map (option_map f) os) ≡ any_there os
  any_mapped [] = refl
  any_mapped (None ∷ os) = any_mapped os
  any_mapped (Some x ∷ os) = refl

-- ────────────────────────────────── the lowest without a token

pub record Lowest (cs : List (Option Counter)) (number : ℕ) : Type 0 where
  pub counter : Counter
  pub there : get_or cs number None ≡ Some counter
  pub empty : counter.tokens ≡ 0
  pub lower : (j : ℕ) (c : Counter) → j < number → get_or cs j None ≡ Some c → 1 ≤ c.tokens

-- what the answer says of the counters
abbrev pub Found : List (Option Counter) → Option ℕ → Type 0
Found cs None = (i : ℕ) (c : Counter) → get_or cs i None ≡ Some c → 1 ≤ c.tokens
Found cs (Some number) = Lowest cs number

-- a place with an empty counter, and one without
emptied : (o : Option Counter) → empty_there o ≡ true → (c : Counter) × (o ≡ Some c) × (c.tokens ≡ 0)
emptied None e = absurd (false≢true e)
emptied (Some c) e = (c, refl, eqb-true c.tokens 0 e)

some_left : (o : Option Counter) (c : Counter) → empty_there o ≡ false → o ≡ Some c → 1 ≤ c.tokens
some_left None c e is = absurd (none-some c is)
some_left (Some d) c e is = let same : d ≡ c = cc in rw same at (pos_of_ne-zero (eqb-false d.tokens 0 e))

pub found : (cs : List (Option Counter)) → Found cs (lowest_empty cs)
found cs = pick (cases_lt first (length cs))
  where
    first : ℕ
    first = position_or_len empty_there cs

    before : (i : ℕ) (c : Counter) → i < first → get_or cs i None ≡ Some c → 1 ≤ c.tokens
    before i c h e = some_left (get_or cs i None) c (fails_before_first empty_there cs i None h) e

    inside : (i : ℕ) (c : Counter) → get_or cs i None ≡ Some c → (i < length cs) ⊎ (length cs ≤ i) → i < length cs
    inside i c e (inl h) = h
    inside i c e (inr h) = absurd (none-some c (sym (get_or_past cs i None h) ∙ e))

    pick : (first < length cs) ⊎ (length cs ≤ first) → Found cs (lowest_empty cs)
    pick (inl h) =
        let c = emptied (get_or cs first None) (passes_at_first empty_there cs None h) in
        rw (lt-ltb first (length cs) h) (record { counter = c.0; there = c.1; empty = c.2; lower = λ j c l e. before j c l e })
    pick (inr h) = rw (le-ltb first (length cs) h) (λ i c e. before i c (omega (arith, inside i c e (cases_lt i (length cs)))) e)

-- ────────────────────────────────── the least of those that are there

module _ {A : Type 0} (f : A → ℕ) where
  abbrev those : List (Option A) → List ℕ
  those os = filter_map (option_map f) os

  -- none of them gives less than n
  abbrev Below : List (Option A) → ℕ → Type 0
  Below os n = (i : ℕ) (x : A) → get_or os i None ≡ Some x → n ≤ f x

  below_none : (os : List (Option A)) (n : ℕ) → Below os n → Below (None ∷ os) n
  below_none os n b zero x e = absurd (none-some x e)
  below_none os n b (suc i) x e = b i x e

  below_some : (y : A) (os : List (Option A)) (n : ℕ) → n ≤ f y → Below os n → Below (Some y ∷ os) n
  below_some y os n h b zero x e = let same : y ≡ x = cc in omega (arith, h, ap f same)
  below_some y os n h b (suc i) x e = b i x e

  -- one of them gives n, and none gives less
  pub record Least (os : List (Option A)) (n : ℕ) : Type 0 where
    pub number : ℕ
    pub one : A
    pub there : get_or os number None ≡ Some one
    pub gives : f one ≡ n
    pub below : Below os n

  behind : (o : Option A) (os : List (Option A)) (n : ℕ) → Below (o ∷ os) n → Least os n → Least (o ∷ os) n
  behind o os n b l = record { number = suc l.number; one = l.one; there = l.there; gives = l.gives; below = b }

  -- n, or the least of them if that is less
  record Folded (n : ℕ) (os : List (Option A)) (m : ℕ) : Type 0 where
    given : (m ≡ n) ⊎ Least os m
    under : m ≤ n
    below : Below os m

  past_none : (n m : ℕ) (os : List (Option A)) → Folded n os m → Folded n (None ∷ os) m
  past_none n m os r = record { given = given r.given; under = r.under; below = below }
    where
      below : Below (None ∷ os) m
      below = below_none os m r.below

      given : (m ≡ n) ⊎ Least os m → (m ≡ n) ⊎ Least (None ∷ os) m
      given (inl e) = inl e
      given (inr l) = inr (behind None os m below l)

  past_some : (n m : ℕ) (y : A) (os : List (Option A)) → Folded (min n (f y)) os m → Folded n (Some y ∷ os) m
  past_some n m y os r = record { given = given r.given; under = omega (arith, r.under); below = below }
    where
      below : Below (Some y ∷ os) m
      below = below_some y os m (omega (arith, r.under)) r.below

      lesser : m ≡ min n (f y) → (n < f y) ⊎ (f y ≤ n) → (m ≡ n) ⊎ Least (Some y ∷ os) m
      lesser e (inl h) = inl (omega arith)
      lesser e (inr h) = inr (record { number = 0; one = y; there = refl; gives = omega arith; below = below })

      given : (m ≡ min n (f y)) ⊎ Least os m → (m ≡ n) ⊎ Least (Some y ∷ os) m
      given (inl e) = lesser e (cases_lt n (f y))
      given (inr l) = inr (behind (Some y) os m below l)

  folded : (n : ℕ) (os : List (Option A)) → Folded n os (fold min n (those os))
  folded n [] = record { given = inl refl; under = omega arith; below = λ i x e. absurd (none-some x e) }
  folded n (None ∷ os) = past_none n (fold min n (those os)) os (folded n os)
  folded n (Some y ∷ os) = past_some n (fold min (min n (f y)) (those os)) y os (folded (min n (f y)) os)

  -- what the answer says of them
  pub told : (os : List (Option A)) (n : ℕ) → reduce min (those os) ≡ Some n → Least os n
  told [] n e = absurd (none-some n e)
  told (None ∷ os) n e = let l = told os n e in behind None os n (below_none os n l.below) l
  told (Some y ∷ os) n e = let same : fold min (f y) (those os) ≡ n = cc in subst (Least (Some y ∷ os)) same (first (fold min (f y) (those os)) (folded (f y) os))
    where
      first : (m : ℕ) → Folded (f y) os m → Least (Some y ∷ os) m
      first m r = pick r.given
        where
          below : Below (Some y ∷ os) m
          below = below_some y os m r.under r.below

          pick : (m ≡ f y) ⊎ Least os m → Least (Some y ∷ os) m
          pick (inl e) = record { number = 0; one = y; there = refl; gives = sym e; below = below }
          pick (inr l) = behind (Some y) os m below l

  -- where there is one, there is a least
  pub least_there : (os : List (Option A)) (i : ℕ) (x : A) → get_or os i None ≡ Some x → (n : ℕ) × (reduce min (those os) ≡ Some n)
  least_there [] i x e = absurd (none-some x e)
  least_there (None ∷ os) zero x e = absurd (none-some x e)
  least_there (None ∷ os) (suc i) x e = least_there os i x e
  least_there (Some y ∷ os) i x e = (fold min (f y) (those os), refl)
