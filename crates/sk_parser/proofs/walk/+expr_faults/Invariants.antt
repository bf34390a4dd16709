use Rattle.std.proofs.Common.{◌≡◌, drop, map, flat_map}
use Rattle.sk_tree.specs.Patterns.{join, expr_patterns}
use Rattle.sk_parser_laws.specs.Faults.{all_seen, set_patterns}
use Rattle.sk_parser.specs.Met.{tally}
use Rattle.sk_parser.proofs.walk.+expr_faults.Given as goal

abbrev pub invariant-see_exprs-loop-expr : goal.invariant-see_exprs-loop-expr
invariant-see_exprs-loop-expr l =
    all_seen (tally l.met) (flat_map expr_patterns (drop l.expr-index l.exprs))
    ≡ all_seen (tally l.fn.faults) (join (map expr_patterns l.exprs))

abbrev pub invariant-see_sets-loop-field : goal.invariant-see_sets-loop-field
invariant-see_sets-loop-field l =
    all_seen (tally l.met) (flat_map set_patterns (drop l.field-index l.fields))
    ≡ all_seen (tally l.fn.faults) (join (map set_patterns l.fields))
