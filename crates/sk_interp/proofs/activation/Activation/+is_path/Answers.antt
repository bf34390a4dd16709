use Rattle.std.proofs.Common.{subst}
use Rattle.sk_interp.specs.Paths.{IsSteady, IsPath}
use Rattle.sk_interp.specs.Calling.{does_in}
use Rattle.sk_interp.proofs.Paths.{path_index}
use Rattle.sk_interp.proofs.activation.Activation.+is_path.Goals as goal

pub returns-then-is_steady : goal.returns-then-is_steady
returns-then-is_steady t c =
    let index = subst (λ x. IsSteady (does_in c.args.self.now x)) c.get.ensures (c.is_steady.ensures c.if-is_steady.true) in
    λ h. path_index c.args.self.now c.args.e.now c.in-Index.base c.in-Index.index c.in-Index.is index (subst (λ x. IsPath (does_in c.args.self.now x)) c.get-then-is_steady.ensures (c.is_path.ensures h))
