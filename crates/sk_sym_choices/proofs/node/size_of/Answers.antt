use Rattle.std.proofs.Common.{arith}
use Rattle.sk_sym_choices.proofs.node.size_of.Goals as goal

pub returns : goal.returns
returns c = λ values h. h.each c.args.site _ (omega arith)
