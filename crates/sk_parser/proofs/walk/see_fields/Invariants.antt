use Rattle.std.proofs.Common.{◌≡◌, drop, flat_map}
use Rattle.sk_tree.specs.Patterns.{field_patterns}
use Rattle.sk_parser_laws.specs.Faults.{all_seen}
use Rattle.sk_parser.specs.Met.{tally}
use Rattle.sk_parser.proofs.walk.see_fields.Given as goal

abbrev pub invariant-loop-field : goal.invariant-loop-field
invariant-loop-field l =
    all_seen (tally l.met) (flat_map field_patterns (drop l.field-index l.fields))
    ≡ all_seen (tally l.fn.faults) (flat_map field_patterns l.fields)
