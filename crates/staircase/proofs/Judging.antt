-- The next sample is accepted exactly if it keeps every staircase, and otherwise refused for the lowest one that it breaks.
use Rattle.std.proofs.Common.{◌≡◌, ℕ, ◌<◌, ◌⊎◌, List, ◌∷◌, Some, None, Option, sym, refl, ap, subst, inl, inr, arith}
use Rattle.std.proofs.lemmas.Option.{none-some}
use Rattle.std.proofs.lemmas.Bool.{cases_order}
use Rattle.staircase.specs.Of.{Stair}
use Rattle.staircase.specs.Tables.{lowest_empty}
use Rattle.staircase.specs.Streams.{Stream, Keeps, falls}
use Rattle.staircase.specs.Promise.{LowestBroken, Judged}
use Rattle.staircase.specs.declared.counter.Counter.{Counter}
use Rattle.staircase.proofs.Numbered.{Lowest, Found, found}
use Rattle.staircase.proofs.Reached.{counted, Good, counter_of, stair_of_lem, token_is, all_kept}

module _ (table : List (Option Stair)) (came : List ℕ) (now : ℕ) (cs : List (Option Counter)) (g : Good table came now cs) where
  abbrev next : Stream
  next = falls (now ∷ came)

  lowest_broken : (n : ℕ) → Lowest cs n → LowestBroken table next n
  lowest_broken n l = record {
    staircase = counted l.counter;
    there = stair_of_lem g n l.counter l.there;
    broken = λ k. omega (arith, (token_is g n l.counter l.there).0 k, l.empty);
    lower = λ i s h e.
        let c = counter_of g i s e in
        subst (λ (x : Stair). Keeps x next) c.2 ((token_is g i c.0 c.1).1 (l.lower i c.0 h c.1));
  }

  only_one : (m n : ℕ) → LowestBroken table next m → LowestBroken table next n → m ≡ n
  only_one m n a b = pick (cases_order m n)
    where
      pick : (m ≡ n) ⊎ ((m < n) ⊎ (n < m)) → m ≡ n
      pick (inl e) = e
      pick (inr (inl h)) = absurd (a.broken (b.lower m a.staircase h a.there))
      pick (inr (inr h)) = absurd (b.broken (a.lower n b.staircase h b.there))

  judged_as : (o : Option ℕ) → Found cs o → Judged table next o
  judged_as None f = record {
    accepted = (λ e. all_kept g f, λ k. refl);
    refused = λ n. (λ e. absurd (none-some n e), λ b. absurd (b.broken (all_kept g f n b.staircase b.there)));
  }
  judged_as (Some m) f =
      let b = lowest_broken m f in
      record {
        accepted = (λ e. absurd (none-some m (sym e)), λ k. absurd (b.broken (k m b.staircase b.there)));
        refused = λ n. (λ e. let same : m ≡ n = cc in subst (LowestBroken table next) same b, λ d. ap (λ (i : ℕ). Some i) (only_one m n b d));
      }

  pub judged : Judged table next (lowest_empty cs)
  judged = judged_as (lowest_empty cs) (found cs)
