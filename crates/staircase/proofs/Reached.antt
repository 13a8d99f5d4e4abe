-- What holds of the counters after every run: each is at the level of the samples that were accepted.
use Rattle.std.proofs.Common.{◌≡◌, ℕ, zero, suc, ◌+◌, ◌-◌, ◌*◌, ◌≤◌, min, Bool, true, false, cond, leb, ◌↔◌, List, [], ◌∷◌, map, get_or, Some, None, Option, sym, refl, ap, ◌∙◌, subst, arith}
use Rattle.std.proofs.Math.ListN.{get_or-map}
use Rattle.std.specs.Option.{option_map}
use Rattle.staircase.specs.Limits.{Within, most_burst, most_step}
use Rattle.staircase.specs.Of.{Stair}
use Rattle.staircase.specs.Counting.{Proper, full, holding, elapsed, charged, until_full}
use Rattle.staircase.specs.Tables.{fresh, all_elapsed, all_charged, sampled, lowest_empty}
use Rattle.staircase.specs.Streams.{brought, Keeps, Numbered, KeepsAll, falls}
use Rattle.staircase.specs.Runs.{Moment, sample, Run, begins, ticks, arrives, asks, clock, fell}
use Rattle.staircase.specs.declared.counter.Counter.{Counter}
use Rattle.staircase.proofs.Levels.{level}
use Rattle.staircase.proofs.Joined.{Old, old_more, sampled_is, level_more}
use Rattle.staircase.proofs.Counted.{full_left, some_token, elapsed_proper, elapsed_left, charged_proper, charged_left}
use Rattle.staircase.proofs.Numbered.{mapped_some, from_map, Found, found}

-- the staircase of a counter
abbrev pub counted : Counter → Stair
counted c = record { burst = c.burst; step = c.step }

-- a staircase within its limits
abbrev pub Figures : Stair → Type 0
Figures s = Within most_burst s.burst × Within most_step s.step

abbrev pub Lawful : List (Option Stair) → Type 0
Lawful table = (i : ℕ) (s : Stair) → Numbered table i s → Figures s

-- A counter takes as long to fill up as the samples that came leave it to.
pub record Exact (came : List ℕ) (now : ℕ) (c : Counter) : Type 0 where
  pub proper : Proper c
  pub left : until_full c ≡ level c.step 0 (falls came) now

-- The samples that came by the tick `now` keep the table, and its counters are those that they leave.
pub record Good (table : List (Option Stair)) (came : List ℕ) (now : ℕ) (cs : List (Option Counter)) : Type 0 where
  pub old : Old came now
  pub shape : (i : ℕ) → option_map counted (get_or cs i None) ≡ get_or table i None
  pub exact : (i : ℕ) (c : Counter) → get_or cs i None ≡ Some c → Exact came now c
  pub kept : KeepsAll table (falls came)

-- ────────────────────────────────── a good table

module _ {table : List (Option Stair)} {came : List ℕ} {now : ℕ} {cs : List (Option Counter)} (g : Good table came now cs) where
  -- the counter of a staircase
  pub counter_of : (i : ℕ) (s : Stair) → Numbered table i s → (c : Counter) × (get_or cs i None ≡ Some c) × (counted c ≡ s)
  counter_of i s e = mapped_some counted (get_or cs i None) s (g.shape i ∙ e)

  -- and the staircase of a counter
  pub stair_of_lem : (i : ℕ) (c : Counter) → get_or cs i None ≡ Some c → Numbered table i (counted c)
  stair_of_lem i c e = sym (g.shape i) ∙ ap (option_map counted) e

  pub kept_by : (i : ℕ) (c : Counter) → get_or cs i None ≡ Some c → Keeps (counted c) (falls came)
  kept_by i c e = g.kept i (counted c) (stair_of_lem i c e)

  -- A counter has a token exactly if one more sample keeps its staircase.
  pub token_is : (i : ℕ) (c : Counter) → get_or cs i None ≡ Some c → Keeps (counted c) (falls (now ∷ came)) ↔ (1 ≤ c.tokens)
  token_is i c e =
      let x = g.exact i c e in
      let keeps = sampled_is came now g.old (counted c) x.proper.1.0 (kept_by i c e) in
      let token = some_token c x.proper in
      (λ h. token.1 (omega (arith, keeps.0 h, x.left)), λ h. keeps.1 (omega (arith, token.0 h, x.left)))

  pub all_kept : ((i : ℕ) (c : Counter) → get_or cs i None ≡ Some c → 1 ≤ c.tokens) → KeepsAll table (falls (now ∷ came))
  all_kept some i s e =
      let c = counter_of i s e in
      subst (λ (x : Stair). Keeps x (falls (now ∷ came))) c.2 ((token_is i c.0 c.1).1 (some i c.0 c.1))

-- ────────────────────────────────── a new table

nothing_came : (from more : ℕ) → brought (falls []) from more ≡ 0
nothing_came from zero = refl
nothing_came from (suc more) = omega (arith, nothing_came from more)

fresh_good : (table : List (Option Stair)) → Lawful table → Good table [] 0 (fresh table)
fresh_good table lawful = record { old = λ t h. refl; shape = shape; exact = exact; kept = λ i s e from more. omega (arith, nothing_came from more) }
  where
    back : (o : Option Stair) → option_map counted (option_map full o) ≡ o
    back None = refl
    back (Some s) = refl

    shape : (i : ℕ) → option_map counted (get_or (fresh table) i None) ≡ get_or table i None
    shape i = ap (option_map counted) (get_or-map (option_map full) table i None) ∙ back (get_or table i None)

    new : (s : Stair) → Figures s → Exact [] 0 (full s)
    new s l = record {
      proper = (l.0, l.1, omega arith, (l.1.0, omega arith));
      left = omega (arith, full_left (full s) refl);
    }

    exact : (i : ℕ) (c : Counter) → get_or (fresh table) i None ≡ Some c → Exact [] 0 c
    exact i c e = let s = from_map full table i c e in subst (Exact [] 0) s.2 (new s.0 (lawful i s.0 s.1))

-- ────────────────────────────────── a tick and a sample

elapsed_counted : (c : Counter) → counted (elapsed c) ≡ counted c
elapsed_counted c = pick (leb c.timer 1)
  where
    pick : (b : Bool) → counted (cond b (holding c (min c.burst (c.tokens + 1)) c.step) (holding c c.tokens (c.timer - 1))) ≡ counted c
    pick true = refl
    pick false = refl

module _ (table : List (Option Stair)) (came : List ℕ) (now : ℕ) (cs : List (Option Counter)) where
  -- a change that keeps burst and step
  same_shape : (f : Counter → Counter) → ((c : Counter) → counted (f c) ≡ counted c) → Good table came now cs →
      (i : ℕ) → option_map counted (get_or (map (option_map f) cs) i None) ≡ get_or table i None
  same_shape f same g i = ap (option_map counted) (get_or-map (option_map f) cs i None) ∙ keep (get_or cs i None) ∙ g.shape i
    where
      keep : (o : Option Counter) → option_map counted (option_map f o) ≡ option_map counted o
      keep None = refl
      keep (Some c) = ap (λ (s : Stair). Some s) (same c)

  tick_good : Good table came now cs → Good table came (suc now) (all_elapsed cs)
  tick_good g = record { old = λ t h. g.old t (omega arith); shape = same_shape elapsed elapsed_counted g; exact = exact; kept = g.kept }
    where
      later : (c : Counter) → Exact came now c → Exact came (suc now) (elapsed c)
      later c x = record { proper = elapsed_proper c x.proper; left = left }
        where
          left : until_full (elapsed c) ≡ level (elapsed c).step 0 (falls came) (suc now)
          left =
              let none : falls came (suc now) * c.step ≡ 0 = rw (g.old (suc now) (omega arith)) (omega arith) in
              let one_less : until_full c - 1 ≡ level c.step 0 (falls came) (suc now) = omega (arith, x.left) in
              elapsed_left c x.proper ∙ one_less ∙ sym (ap (λ (s : Stair). level s.step 0 (falls came) (suc now)) (elapsed_counted c))

      exact : (i : ℕ) (c : Counter) → get_or (all_elapsed cs) i None ≡ Some c → Exact came (suc now) c
      exact i c e = let d = from_map elapsed cs i c e in subst (Exact came (suc now)) d.2 (later d.0 (g.exact i d.0 d.1))

  sample_good : ((i : ℕ) (c : Counter) → get_or cs i None ≡ Some c → 1 ≤ c.tokens) → Good table came now cs → Good table (now ∷ came) now (all_charged cs)
  sample_good some g = record { old = old_more came now g.old; shape = same_shape charged (λ c. refl) g; exact = exact; kept = all_kept g some }
    where
      more : (c : Counter) → 1 ≤ c.tokens → Exact came now c → Exact (now ∷ came) now (charged c)
      more c h x = record {
        proper = charged_proper c x.proper;
        left = omega (arith, charged_left c x.proper h, x.left, level_more came now g.old c.step);
      }

      exact : (i : ℕ) (c : Counter) → get_or (all_charged cs) i None ≡ Some c → Exact (now ∷ came) now c
      exact i c e =
          let d = from_map charged cs i c e in
          subst (Exact (now ∷ came) now) d.2 (more d.0 (some i d.0 d.1) (g.exact i d.0 d.1))

pub good : (table : List (Option Stair)) → Lawful table → {ms : List Moment} {cs : List (Option Counter)} → Run (fresh table) ms cs → Good table (fell ms) (clock ms) cs
good table lawful begins = fresh_good table lawful
good table lawful (ticks {ms = ms} {cs = cs} run) = tick_good table (fell ms) (clock ms) cs (good table lawful run)
good table lawful (arrives {ms = ms} {cs = cs} run) = judged (lowest_empty cs) (found cs) (good table lawful run)
  where
    judged : (o : Option ℕ) → Found cs o → Good table (fell ms) (clock ms) cs → Good table (fell (sample o ∷ ms)) (clock (sample o ∷ ms)) (sampled o cs)
    judged None f g = sample_good table (fell ms) (clock ms) cs f g
    judged (Some n) f g = g
good table lawful (asks run e) = good table lawful run
