use Rattle.std.proofs.Common.{◌≡◌, drop, ◌++◌, map}
use Rattle.sk_tree.specs.Spell.{each, spell_field}
use Rattle.sk_tree_spell.proofs.item.push_fields.Given as goal

abbrev pub invariant-loop-field : goal.invariant-loop-field
invariant-loop-field l =
    l.out.items ++ each (map spell_field (drop l.field-index l.fields))
    ≡ l.fn.out.items ++ each (map spell_field l.fields)
