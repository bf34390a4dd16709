use Rattle.std.proofs.Common.{◌≡◌, drop}
use Rattle.sk_types_laws.specs.Whole.{named_top}
use Rattle.sk_types_names.specs.Envs.{top_seen}
use Rattle.sk_types.specs.Tops.{joined}
use Rattle.sk_types.proofs.names.named_top.Given as goal

-- what is named so far and what is to come
abbrev pub invariant-loop-item : goal.invariant-loop-item
invariant-loop-item l = named_top l.items ≡ joined (top_seen l.names) (named_top (drop l.item-index l.items))
