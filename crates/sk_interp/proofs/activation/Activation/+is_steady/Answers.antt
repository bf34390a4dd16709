use Rattle.std.proofs.Common.{◌∙◌, IsTrue, sym, subst}
use Rattle.sk_interp.specs.Paths.{IsSteady, is_arithmetic}
use Rattle.sk_interp.specs.Calling.{does_in}
use Rattle.sk_interp.proofs.Paths.{steady_binary}
use Rattle.sk_interp.proofs.activation.Activation.+is_steady.Goals as goal

pub returns-then-is_steady-2 : goal.returns-then-is_steady-2
returns-then-is_steady-2 t c =
    let may : IsTrue (is_arithmetic c.in-Binary.op) = sym c.is_arithmetic.ensures ∙ c.if-not-is_arithmetic.false in
    let left = subst (λ x. IsSteady (does_in c.args.self.now x)) c.get-in-Binary.ensures (c.is_steady-in-Binary.ensures c.if-is_steady-2.true) in
    λ h. steady_binary c.args.self.now c.args.e.now c.in-Binary.op c.in-Binary.left c.in-Binary.right c.in-Binary.is may left (subst (λ x. IsSteady (does_in c.args.self.now x)) c.get-then-is_steady-2.ensures (c.is_steady-then-is_steady-2.ensures h))
