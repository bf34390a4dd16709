use Rattle.std.proofs.Common.{◌<◌, List, length, slice_get, ◌≡◌, ap, sym, subst, ◌∙◌, arith}
use Rattle.sk_dag.specs.declared.node.BoolId.{BoolId}
use Rattle.sk_oblig.proofs.Whole.{simple_there}
use Rattle.sk_oblig_asking.proofs.Moved.{moved_value}
use Rattle.sk_oblig_asking.proofs.moving.moved.Goals as goal

pub first-simple-requires : goal.first-simple-requires
first-simple-requires c =
    let long : length c.in_ok-made.made.roots ≡ 1 = c.in_ok-made.ensures.roots.length in
    subst (λ (rs : List BoolId). 0 < length rs) (sym c.as_slice.ensures) (omega (arith, long))

pub graft-requires-clause-root : goal.graft-requires-clause-root
graft-requires-clause-root c = simple_there c.args.root c.first-simple.result c.in_ok-made.made.roots c.in_ok-made.ensures.roots (ap (λ (rs : List BoolId). slice_get rs 0) (sym c.as_slice.ensures) ∙ c.first-simple.ensures)

pub returns-clause-value : goal.returns-clause-value
returns-clause-value c = moved_value c.args.root c.first-simple.result c.in_ok-r.r c.in_ok-made.made.roots c.in_ok-made.ensures.roots (ap (λ (rs : List BoolId). slice_get rs 0) (sym c.as_slice.ensures) ∙ c.first-simple.ensures) c.in_ok-r.ensures.value
