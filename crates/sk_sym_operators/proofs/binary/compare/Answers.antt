use Rattle.std.proofs.Common.{true≢false, sym}
use Rattle.sk_sym_operators.proofs.Meaning.{unlike}
use Rattle.sk_sym_operators.proofs.binary.compare.Goals as goal

pub returns-then-not-alike-clause-equality : goal.returns-then-not-alike-clause-equality
returns-then-not-alike-clause-equality c = unlike (λ same. true≢false (sym (c.if-not-alike.ensures.1 same))) c.in_ok-r.ensures.there c.in_ok-r.ensures.value
