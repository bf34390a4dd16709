use Rattle.std.proofs.Common.{◌∙◌, subst}
use Rattle.sk_model.specs.Operators.{shift}
use Rattle.sk_interp.specs.Records.{Computes}
use Rattle.sk_interp.proofs.operator.on_array_and_number.Goals as goal

pub returns : goal.returns
returns c = subst (λ a. Computes c.shifted.result (shift c.args.span c.args.op a c.args.n.now)) (c.as_slice.ensures.value ∙ c.in_ok-a.ensures) c.shifted.ensures
