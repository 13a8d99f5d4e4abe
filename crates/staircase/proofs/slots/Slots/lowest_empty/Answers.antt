use Rattle.std.proofs.Common.{◌≡◌, tests, rules}
use Rattle.std.proofs.lemmas.Iterator.{YieldsList-from_slice}
use Rattle.std.proofs.lemmas.Iterator.Search.{position_from_yields_List}
use Rattle.staircase.specs.Tables.{empty_there, lowest_empty}
use Rattle.staircase.proofs.slots.Slots.lowest_empty.Goals as goal

pub returns : goal.returns
returns c =
    let counters = c.args.self.now.counters in
    let found : c.position.result ≡ lowest_empty counters =
    position_from_yields_List empty_there _ _ _ c.position.ensures.ran (YieldsList-from_slice counters cc) (λ x b q k. search (rules, tests)) in
    search (rules, tests)
