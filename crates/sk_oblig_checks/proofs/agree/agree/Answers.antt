use Rattle.std.proofs.Common.{true≢false, sym}
use Rattle.sk_oblig_checks.proofs.Agreeing.{agrees}
use Rattle.sk_oblig_checks.proofs.Unlike.{unlike}
use Rattle.sk_oblig_checks.proofs.agree.agree.Goals as goal

pub returns-then-not-alike-clause-agrees : goal.returns-then-not-alike-clause-agrees
returns-then-not-alike-clause-agrees c = agrees (unlike (λ same. true≢false (sym (c.if-not-alike.ensures.1 same))) c.in_ok-r.ensures.there c.in_ok-r.ensures.value)

pub returns-clause-agrees : goal.returns-clause-agrees
returns-clause-agrees c = agrees c.in_ok-r-2.ensures.equality
