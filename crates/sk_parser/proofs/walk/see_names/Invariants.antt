use Rattle.std.proofs.Common.{◌≡◌, drop, flat_map}
use Rattle.sk_tree.specs.Patterns.{declared_patterns}
use Rattle.sk_parser_laws.specs.Faults.{all_seen}
use Rattle.sk_parser.specs.Met.{tally}
use Rattle.sk_parser.proofs.walk.see_names.Given as goal

abbrev pub invariant-loop-name : goal.invariant-loop-name
invariant-loop-name l =
    all_seen (tally l.met) (flat_map declared_patterns (drop l.name-index l.names))
    ≡ all_seen (tally l.fn.faults) (flat_map declared_patterns l.names)
