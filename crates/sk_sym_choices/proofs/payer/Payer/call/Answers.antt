use Rattle.std.proofs.Common.{◌≡◌, List, get_or, subst, ap, ◌∙◌}
use Rattle.sk_dag.proofs.EvalLemmas.{Keeps-trans}
use Rattle.sk_dag.specs.declared.node.BoolId.{BoolId}
use Rattle.sk_sym_choices.specs.declared.guard.Test.{Test}
use Rattle.sk_sym_choices.specs.Payments.{IsUnder}
use Rattle.sk_sym_choices.proofs.Turns.{there_keeps}
use Rattle.sk_sym_choices.proofs.Ledger.{call_marks}
use Rattle.sk_sym_choices.proofs.payer.Payer.call.Goals as goal

pub returns-clause-marked : goal.returns-clause-marked
returns-clause-marked c =
    let under = subst (λ (ts : List Test). IsUnder c.args.self.now c.under.new.dag c.args.node ts c.in_ok-when.when) c.as_slice.ensures c.in_ok-when.ensures.under in
    let before : c.node_at-before.result ≡ get_or c.args.table.now c.args.c.now.f c.in_ok-when.when = c.node_at-before.ensures ∙ ap (λ (ns : List BoolId). get_or ns c.args.c.now.f c.in_ok-when.when) c.as_slice-2.ensures in
    rw c.set.ensures (call_marks c.args.c.now under c.in_ok-either.ensures.keeps (there_keeps (Keeps-trans c.in_ok-when.ensures.keeps c.in_ok-either.ensures.keeps) c.requires.table) c.in_ok-either.ensures.there before c.in_ok-either.ensures.value)
