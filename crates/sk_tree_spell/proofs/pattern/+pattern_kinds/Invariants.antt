use Rattle.std.proofs.Common.{◌≡◌, drop, ◌++◌, map}
use Rattle.sk_tree.specs.declared.token.Mark.TheVariants as mark
use Rattle.sk_tree.specs.Spell.{sign, each, between, spell_pattern}
use Rattle.sk_tree_spell.specs.Separated.{separated}
use Rattle.sk_tree_spell.proofs.pattern.+pattern_kinds.Given as goal

abbrev pub invariant-push_choices-loop-part : goal.invariant-push_choices-loop-part
invariant-push_choices-loop-part l =
    l.out.items ++ separated l.is_first (sign mark.Bar) (map spell_pattern (drop l.part-index l.parts))
    ≡ l.fn.out.items ++ between (sign mark.Bar) (map spell_pattern l.parts)

abbrev pub invariant-push_parts-loop-part : goal.invariant-push_parts-loop-part
invariant-push_parts-loop-part l =
    l.out.items ++ each (map spell_pattern (drop l.part-index l.parts))
    ≡ l.fn.out.items ++ each (map spell_pattern l.parts)
