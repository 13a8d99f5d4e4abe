use Rattle.std.proofs.Common.{refl, ◌∙◌}
use Rattle.staircase.specs.Counting.{bound}
use Rattle.staircase.proofs.Numbered.{any_there_lem, least_there}
use Rattle.staircase.proofs.slots.Slots.bound.Goals as goal

pub unwrap-requires : goal.unwrap-requires
unwrap-requires c =
    let counters = c.args.self.now.counters in
    let one = any_there_lem counters c.requires.some in
    rw (c.least_bound.ensures ∙ (least_there (λ d. bound d c.args.horizon) counters one.0 one.1 one.2).1) refl
