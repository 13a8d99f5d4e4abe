use Rattle.std.proofs.Common.{◌≡◌, sym, subst, arith}
use Rattle.std.proofs.lemmas.Grind.{common_steps}
use Rattle.staircase.specs.Counting.{Sound, elapsed}
use Rattle.staircase.specs.Tables.{all_elapsed}
use Rattle.staircase.proofs.Counted.{elapsed_proper}
use Rattle.staircase.proofs.Keeping.{changed_sound}
use Rattle.staircase.proofs.slots.Slots.tick.Goals as goal

pub returns-clause-sound : goal.returns-clause-sound
returns-clause-sound c =
    let before = c.args.self.now.counters in
    let after : c.loop-place.place-items ≡ all_elapsed before = grind (arith, common_steps) in
    subst Sound (sym after) (changed_sound elapsed elapsed_proper before c.requires)
