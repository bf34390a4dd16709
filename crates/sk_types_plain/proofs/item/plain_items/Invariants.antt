use Rattle.std.proofs.Common.{◌≡◌, drop, ◌++◌}
use Rattle.sk_types_rules.specs.Plain.{plain_items}
use Rattle.sk_types_plain.proofs.item.plain_items.Given as goal

-- the items that are made and those to come
abbrev pub invariant-loop-item : goal.invariant-loop-item
invariant-loop-item l = l.made ++ plain_items (drop l.item-index l.items) ≡ plain_items l.items
