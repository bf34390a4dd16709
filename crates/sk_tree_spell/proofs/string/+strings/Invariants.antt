use Rattle.std.proofs.Common.{◌≡◌, drop, ◌++◌, map, flat_map, length}
use Rattle.std.specs.Vec.Iter.{into_iter_items, into_iter_len}
use Rattle.sk_tree.specs.Strings.{strings_of, pairs, rows}
use Rattle.sk_tree_spell.specs.Counts.{prefixed}
use Rattle.sk_tree_spell.proofs.string.+strings.Given as goal

abbrev pub invariant-push_choices-loop-part : goal.invariant-push_choices-loop-part
invariant-push_choices-loop-part l =
    l.out.items ++ prefixed l.front (flat_map (λ s. s) (map strings_of (drop l.part-index l.parts)))
    ≡ l.fn.out.items ++ prefixed l.front (flat_map (λ s. s) (map strings_of l.parts))

abbrev pub invariant-row-loop-part : goal.invariant-row-loop-part
invariant-row-loop-part l =
    pairs l.fronts.items (rows (map strings_of (drop l.part-index l.parts)))
    ≡ prefixed l.fn.front (rows (map strings_of l.parts))

abbrev pub invariant-longer-loop-front : goal.invariant-longer-loop-front
invariant-longer-loop-front l =
    (l.out.items ++ pairs (into_iter_items l.front-iterator) (strings_of l.part) ≡ pairs l.fn.fronts.items (strings_of l.part))
    × (into_iter_len l.front-iterator ≡ length (into_iter_items l.front-iterator))
