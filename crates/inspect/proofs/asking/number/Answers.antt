use Rattle.std.proofs.Common.{rules}
use Rattle.inspect.proofs.Digits.{numeral_read}
use Rattle.inspect.proofs.asking.number.Goals as goal

pub returns : goal.returns
returns c =
    let read = numeral_read _ _ (λ f f' value b r called. search rules) _ _ _ _ _ c.try_fold.ensures.ran in
    search rules
