use Rattle.std.proofs.Common.{◌∙◌, ◌<◌, length, slice_get, sym, ap, arith}
use Rattle.std.proofs.lemmas.Option.{slice_get-get_or}
use Rattle.sk_cnf.specs.declared.leaf.Leaf.TheVariants.{Hole}
use Rattle.sk_cnf.proofs.DistinctLaws.{stands_once}
use Rattle.sk_cnf.proofs.growing.named.Goals as goal

pub name_leaf-requires-clause-new : goal.name_leaf-requires-clause-new
name_leaf-requires-clause-new c =
    let within : c.loop-i.i < length c.args.leaves.now = omega arith in
    λ j h. stands_once c.args.leaves.now c.loop-i.i _ (slice_get-get_or c.args.leaves.now c.loop-i.i (Hole 0 0) within) c.requires j (ap (λ l. slice_get l j) (sym c.loop-i.invariant.keys) ∙ h)
