use Rattle.std.proofs.Common.{◌≡◌, drop, map, flat_map}
use Rattle.sk_tree.specs.Patterns.{join, stmt_patterns}
use Rattle.sk_parser_laws.specs.Faults.{all_seen}
use Rattle.sk_parser.specs.Met.{tally}
use Rattle.sk_parser.proofs.walk.+stmt_faults.Given as goal

abbrev pub invariant-see_stmts-loop-stmt : goal.invariant-see_stmts-loop-stmt
invariant-see_stmts-loop-stmt l =
    all_seen (tally l.met) (flat_map stmt_patterns (drop l.stmt-index l.stmts))
    ≡ all_seen (tally l.fn.faults) (join (map stmt_patterns l.stmts))
