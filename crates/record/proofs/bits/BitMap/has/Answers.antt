use Rattle.std.proofs.Common.{◌/◌, ◌^◌}
use Rattle.std.proofs.lemmas.Nat.{and_mask}
use Rattle.record.proofs.bits.BitMap.has.Goals as goal

pub returns : goal.returns
returns c = simp (and_mask (c.args.self.0 / 2 ^ c.args.bit) 1)
