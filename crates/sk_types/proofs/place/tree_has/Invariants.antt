use Rattle.std.proofs.Common.{◌≡◌, drop}
use Rattle.std.specs.List.{list_any}
use Rattle.sk_types.specs.Places.{item_has}
use Rattle.sk_types.proofs.place.tree_has.Given as goal

-- what is to come decides
abbrev pub invariant-loop-item : goal.invariant-loop-item
invariant-loop-item l = list_any (item_has l.span) l.tree.items ≡ list_any (item_has l.span) (drop l.item-index l.tree.items)
