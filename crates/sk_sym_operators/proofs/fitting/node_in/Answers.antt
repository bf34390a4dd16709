use Rattle.std.proofs.Common.{sym, ap, ◌∙◌}
use Rattle.sk_dag.specs.declared.shape.Shape.TheViews.{out-Shape, outs-Bit}
use Rattle.sk_sym_operators.specs.Fitting.{node_in}
use Rattle.sk_sym_operators.proofs.FitRows.{node_other}
use Rattle.sk_sym_operators.proofs.fitting.node_in.Goals as goal

pub returns-in-Bit : goal.returns-in-Bit
returns-in-Bit c = sym (ap (λ s. node_in c.args.no (out-Shape s)) c.in-Bit.is ∙ ap (node_in c.args.no) (outs-Bit c.in-Bit.id))

pub returns-in_default : goal.returns-in_default
returns-in_default c = node_other c.args.no c.args.s.now c.in_default.not-Bit
