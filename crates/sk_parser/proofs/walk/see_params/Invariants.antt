use Rattle.std.proofs.Common.{◌≡◌, drop, flat_map}
use Rattle.sk_tree.specs.Patterns.{param_patterns}
use Rattle.sk_parser_laws.specs.Faults.{all_seen}
use Rattle.sk_parser.specs.Met.{tally}
use Rattle.sk_parser.proofs.walk.see_params.Given as goal

abbrev pub invariant-loop-param : goal.invariant-loop-param
invariant-loop-param l =
    all_seen (tally l.met) (flat_map param_patterns (drop l.param-index l.params))
    ≡ all_seen (tally l.fn.faults) (flat_map param_patterns l.params)
