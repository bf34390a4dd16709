use Rattle.std.proofs.Common.{◌≡◌, drop, ◌+◌}
use Rattle.sk_sym_sites.specs.Counts.{exprs_count, fields_count}
use Rattle.sk_sym_sites.proofs.passing.+pass_expr.Given as goal

-- the sites passed so far, and those that are left
abbrev pub invariant-pass_exprs-loop-e : goal.invariant-pass_exprs-loop-e
invariant-pass_exprs-loop-e l = l.at + exprs_count (drop l.e-index l.es) ≡ l.fn.at + exprs_count l.es

abbrev pub invariant-pass_fields-loop-x : goal.invariant-pass_fields-loop-x
invariant-pass_fields-loop-x l = l.at + fields_count (drop l.x-index l.given) ≡ l.fn.at + fields_count l.given
