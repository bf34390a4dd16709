use Rattle.std.proofs.Common.{◌≡◌, drop, ◌++◌, map}
use Rattle.sk_tree.specs.Spell.{each, spell_length}
use Rattle.sk_tree_spell.proofs.stmt.push_lengths.Given as goal

abbrev pub invariant-loop-length : goal.invariant-loop-length
invariant-loop-length l =
    l.out.items ++ each (map spell_length (drop l.length-index l.lengths))
    ≡ l.fn.out.items ++ each (map spell_length l.lengths)
