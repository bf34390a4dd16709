use Rattle.std.proofs.Common.{◌≡◌, drop}
use Rattle.std.specs.Prelude.{[]}
use Rattle.sk_types_laws.specs.Whole.{typed_top}
use Rattle.sk_types_names.specs.Envs.{top_seen}
use Rattle.sk_types.specs.Tops.{typed_after}
use Rattle.sk_types.proofs.items.typed_top.Given as goal

-- what is typed so far and what is to come
abbrev pub invariant-loop-item : goal.invariant-loop-item
invariant-loop-item l = typed_top l.bounds (top_seen l.top) [] l.items ≡ typed_after l.bounds (top_seen l.top) l.typed (drop l.item-index l.items)
