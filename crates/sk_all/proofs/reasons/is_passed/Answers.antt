-- what the solver tells
use Rattle.std.specs.Prelude.{◌++◌}
use Rattle.sk_all.proofs.Passing.{some_told, none_told}
use Rattle.sk_all.proofs.reasons.is_passed.Goals as goal

pub returns-in-Sat-clause-some : goal.returns-in-Sat-clause-some
returns-in-Sat-clause-some g c = λ h. some_told c.in_ok-encoded.encoded c.args.expanded.now c.args.bounds.now c.in_ok-query.query (c.args.kept.now ++ c.args.others.now) c.in_ok-refuted.field-0 c.in-Sat.field-0 c.in-Sat.is c.in_ok-refuted.ensures c.in_ok-query.ensures c.in_ok-encoded.ensures.asks

pub returns-in-Unsat-clause-none : goal.returns-in-Unsat-clause-none
returns-in-Unsat-clause-none g c = λ h. none_told c.in_ok-encoded.encoded c.args.expanded.now c.args.bounds.now c.in_ok-query.query (c.args.kept.now ++ c.args.others.now) c.in_ok-refuted.field-0 c.in-Unsat.field-0 c.requires.askable c.in-Unsat.is c.in_ok-refuted.ensures c.in_ok-query.ensures c.in_ok-encoded.ensures.asks
