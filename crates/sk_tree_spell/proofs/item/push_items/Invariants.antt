use Rattle.std.proofs.Common.{◌≡◌, drop, ◌++◌, map}
use Rattle.sk_tree.specs.Spell.{each, spell_item}
use Rattle.sk_tree_spell.proofs.item.push_items.Given as goal

abbrev pub invariant-loop-item : goal.invariant-loop-item
invariant-loop-item l =
    l.out.items ++ each (map spell_item (drop l.item-index l.items))
    ≡ l.fn.out.items ++ each (map spell_item l.items)
