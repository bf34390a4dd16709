use Rattle.std.proofs.Common.{◌≡◌, drop}
use Rattle.sk_adt_tags.specs.Tags.{variant_at}
use Rattle.sk_adt_tags.proofs.ground.variant_at.Given as goal

abbrev pub invariant-loop-i : goal.invariant-loop-i
invariant-loop-i l = variant_at l.i (drop l.i l.variants) l.left ≡ variant_at 0 l.variants l.fn.field
