use Rattle.std.proofs.Common.{◌≡◌, drop}
use Rattle.std.specs.Prelude.{[]}
use Rattle.sk_types_laws.specs.Whole.{bodies_of}
use Rattle.sk_types_names.specs.Envs.{top_seen}
use Rattle.sk_types.specs.Tops.{bodies_after}
use Rattle.sk_types.proofs.bodies.bodies_of.Given as goal

-- what is made so far and what is to come
abbrev pub invariant-loop-item : goal.invariant-loop-item
invariant-loop-item l = bodies_of l.bounds (top_seen l.top) [] l.items ≡ bodies_after l.bounds (top_seen l.top) l.whole (drop l.item-index l.items)
