use Rattle.std.proofs.Common.{◌≡◌, drop, ◌++◌}
use Rattle.std.specs.Prelude.{map}
use Rattle.sk_types.proofs.names.add_names.Given as goal

-- the names so far and those to come
abbrev pub invariant-loop-item : goal.invariant-loop-item
invariant-loop-item g l = l.fn.made ++ map g.T.Named.name_of l.items ≡ l.made ++ map g.T.Named.name_of (drop l.item-index l.items)
