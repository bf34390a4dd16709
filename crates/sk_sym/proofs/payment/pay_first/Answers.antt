use Rattle.std.proofs.Common.{OnOk, subst, sym}
use Rattle.sk_prog.specs.declared.prog.FunKind.{FunKind}
use Rattle.sk_sym_state.specs.Meaning.{Executes}
use Rattle.sk_sym.specs.Paying.{pays, first_paid, program_pays}
use Rattle.sk_sym.proofs.payment.pay_first.Goals as goal

pub returns-in-Harness-clause-pays : goal.returns-in-Harness-clause-pays
returns-in-Harness-clause-pays c = subst (λ (k : FunKind). OnOk c.pay_planned.result (Executes c.args.setting.now c.args.dag.now c.pay_planned.new.dag c.args.state.now c.pay_planned.new.state (λ e. pays c.args.dag.now.bits (first_paid k (program_pays c.args.setting.now e))))) (sym c.in-Harness.is) c.pay_planned.ensures.pays
