use Rattle.std.proofs.Common.{◌∙◌, rules}
use Rattle.record.proofs.Whole.{at_setup}
use Rattle.record.proofs.reading.split.Goals as goal

pub returns : goal.returns
returns c = c.setup.ensures ∙ at_setup c.args.bytes.now _ (search rules) c.in_ok-check.ensures c.after_bit_map.ensures
