use Rattle.std.proofs.Common.{Some, ap}
use Rattle.sk_prog.specs.declared.ty.Ty.TheVariants as ty
use Rattle.sk_sym_literals.proofs.Holes.{chosen_row, chosen_as, one_site, hole_as}
use Rattle.sk_sym_literals.proofs.hole.hole_row.Goals as goal

pub returns-in_ok-made-in-Bit-clause-chosen : goal.returns-in_ok-made-in-Bit-clause-chosen
returns-in_ok-made-in-Bit-clause-chosen c = hole_as c.args.dag.now.bits c.args.site (ap (λ e. Some (ty.Array e c.args.count)) c.in-Bit.is) (chosen_row c.in_ok-made-in-Bit.ensures.chosen)

pub returns-in_ok-r-in_default-clause-chosen : goal.returns-in_ok-r-in_default-clause-chosen
returns-in_ok-r-in_default-clause-chosen c = chosen_as (λ a. one_site a.values c.args.dag.now.bits c.args.count c.args.site c.args.elem c.in_default.not-Bit) c.in_ok-r-in_default.ensures.chosen
