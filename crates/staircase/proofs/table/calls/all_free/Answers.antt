use Rattle.std.proofs.Common.{not, ap, is_some, tests, rules}
use Rattle.std.proofs.lemmas.Iterator.{YieldsList-from_slice}
use Rattle.std.proofs.lemmas.Iterator.Search.{any_from_yields_List}
use Rattle.staircase.proofs.table.calls.all_free.Goals as goal

pub returns : goal.returns
returns c = ap not (any_from_yields_List is_some _ _ _ c.any.ensures.ran (YieldsList-from_slice c.args.staircases.now cc) (λ x b q k. search (rules, tests)))
