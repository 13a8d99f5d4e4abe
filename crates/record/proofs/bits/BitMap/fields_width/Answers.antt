use Rattle.std.proofs.Common.{◌≡◌, ℕ, ◌≤◌, sum, map, [], ◌∷◌, rules, arith}
use Rattle.std.proofs.lemmas.Iterator.{YieldsList-from_range, YieldsList-from_map}
use Rattle.std.proofs.lemmas.Iterator.Consumers.{sum_from_yields_List, fits_from_yields_list}
use Rattle.record.specs.Layout.{width}
use Rattle.record.proofs.bits.BitMap.fields_width.Goals as goal

narrow : (bits k : ℕ) → width bits k ≤ 3
narrow bits k = grind arith

all_narrow : (bits : ℕ) → sum (map (width bits) (0 ∷ 1 ∷ 2 ∷ 3 ∷ 4 ∷ 5 ∷ [])) ≤ 18
all_narrow bits = omega (arith, narrow bits 0, narrow bits 1, narrow bits 2, narrow bits 3, narrow bits 4, narrow bits 5)

pub sum-requires-clause-fits : goal.sum-requires-clause-fits
sum-requires-clause-fits c = fits_from_yields_list c.map.result _ (YieldsList-from_map _ (width c.args.self.0) (YieldsList-from_range 0 6 6 c.map.ensures.source (omega arith)) c.map.ensures.closure (λ x r q k. search rules)) (omega (arith, all_narrow c.args.self.0))

pub returns : goal.returns
returns c =
    let total : c.sum.result ≡ sum (map (width c.args.self.0) (0 ∷ 1 ∷ 2 ∷ 3 ∷ 4 ∷ 5 ∷ [])) = sum_from_yields_List c.map.result _ c.sum.ensures.ran (YieldsList-from_map _ (width c.args.self.0) (YieldsList-from_range 0 6 6 c.map.ensures.source (omega arith)) c.map.ensures.closure (λ x r q k. search rules)) in
    record { value = omega arith; few = omega (arith, all_narrow c.args.self.0) }
