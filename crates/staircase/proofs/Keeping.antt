-- Changed counters are still a table's, and new ones keep the promise over runs.
use Rattle.std.proofs.Common.{◌≡◌, true, List, map, Some, None, IfSome, Option, sym, ◌∙◌, subst}
use Rattle.std.proofs.lemmas.List.{length-map}
use Rattle.std.proofs.lemmas.List.Elements.{All-map, All-weaker}
use Rattle.std.specs.Option.{option_map}
use Rattle.staircase.specs.Limits.{any_there}
use Rattle.staircase.specs.Of.{Stair, stair_of}
use Rattle.staircase.specs.Counting.{Proper, Sound}
use Rattle.staircase.specs.Tables.{fresh}
use Rattle.staircase.specs.Promise.{Promise}
use Rattle.staircase.specs.declared.counter.Counter.{Counter}
use Rattle.staircase.specs.declared.table.Staircase.{Staircase}
use Rattle.staircase.proofs.Numbered.{from_map, any_mapped}
use Rattle.staircase.proofs.Reached.{Figures, Lawful}
use Rattle.staircase.proofs.Promised.{promised}

pub changed_sound : (f : Counter → Counter) → ((c : Counter) → Proper c → Proper (f c)) → (cs : List (Option Counter)) → Sound cs → Sound (map (option_map f) cs)
changed_sound f keeps cs sound = record {
  counters = length-map cs (option_map f) ∙ sound.counters;
  some = any_mapped f cs ∙ sound.some;
  limits = All-map (λ o. IfSome o Proper) (option_map f) cs (All-weaker (λ o. IfSome o Proper) (λ o. IfSome (option_map f o) Proper) still cs sound.limits);
}
  where
    still : (o : Option Counter) → IfSome o Proper → IfSome (option_map f o) Proper
    still None p = p
    still (Some c) p = keeps c p

-- ────────────────────────────────── a new table

module _ (ss : List (Option Staircase)) where
  abbrev stairs : List (Option Stair)
  stairs = map (option_map stair_of) ss

  -- A staircase's figures are within their limits.
  lawful : Lawful stairs
  lawful i s e =
      let x = from_map stair_of ss i s e in
      subst Figures x.2 (x.0.burst.limits, x.0.step.limits)

  pub fresh_promised : (start : List (Option Counter)) → start ≡ fresh stairs → any_there ss ≡ true → Promise stairs start
  fresh_promised start is some = subst (Promise stairs) (sym is) (promised stairs lawful (any_mapped stair_of ss ∙ some))
