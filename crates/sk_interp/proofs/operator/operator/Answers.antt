use Rattle.std.proofs.Common.{sym, subst}
use Rattle.sk_interp.specs.Records.{Computes}
use Rattle.sk_interp.proofs.Operating.{others}
use Rattle.sk_interp.proofs.operator.operator.Goals as goal

pub returns-in_default : goal.returns-in_default
returns-in_default c =
    let is = others c.args.bits c.args.span c.args.op c.args.v.now c.args.w.now c.in_default.not-Eq c.in_default.not-Ne in
    subst (λ m. Computes c.on_operands.result m) (sym is) c.on_operands.ensures
