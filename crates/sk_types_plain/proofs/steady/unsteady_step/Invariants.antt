use Rattle.std.proofs.Common.{◌≡◌, drop}
use Rattle.std.specs.List.{list_all}
use Rattle.sk_types_rules.specs.Plain.{item_steps}
use Rattle.sk_types_plain.proofs.steady.unsteady_step.Given as goal

-- the items to come decide
abbrev pub invariant-loop-item : goal.invariant-loop-item
invariant-loop-item l = list_all item_steps l.tree.items ≡ list_all item_steps (drop l.item-index l.tree.items)
