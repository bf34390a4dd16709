use Rattle.std.proofs.Common.{◌≡◌, drop, flat_map}
use Rattle.sk_tree.specs.Patterns.{item_patterns}
use Rattle.sk_parser_laws.specs.Faults.{all_seen}
use Rattle.sk_parser.specs.Met.{tally}
use Rattle.sk_parser.proofs.walk.see_items.Given as goal

abbrev pub invariant-loop-item : goal.invariant-loop-item
invariant-loop-item l =
    all_seen (tally l.met) (flat_map item_patterns (drop l.item-index l.items))
    ≡ all_seen (tally l.fn.faults) (flat_map item_patterns l.items)
