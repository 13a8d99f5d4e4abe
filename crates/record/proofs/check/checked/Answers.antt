use Rattle.std.proofs.Common.{rules}
use Rattle.std.proofs.lemmas.Result.{MatchResult-weaker}
use Rattle.record.proofs.Verdicts.{told}
use Rattle.record.proofs.check.checked.Goals as goal

pub returns-clause-tells : goal.returns-clause-tells
returns-clause-tells c = told _ c.read.result _ c.read.ensures.exact (MatchResult-weaker c.read.result c.map_or_else.ensures (λ x p. search rules) (λ e p. search rules))
