use Rattle.std.proofs.Common.{List, refl, subst}
use Rattle.sk_sym_choices.specs.declared.guard.Test.{Test}
use Rattle.sk_sym_choices.specs.Payments.{IsUnder}
use Rattle.sk_sym_choices.proofs.Ledger.{owed_keeps, owe_pays}
use Rattle.sk_sym_choices.proofs.payer.Payer.owe.Goals as goal

pub returns-clause-owed : goal.returns-clause-owed
returns-clause-owed c =
    let under = subst (λ (ts : List Test). IsUnder c.args.self.now c.under.new.dag c.args.node ts c.in_ok-when.when) c.as_slice.ensures c.in_ok-when.ensures.under in
    rw c.in_ok-push.ensures.ok (owe_pays c.args.o.now (record { span = c.args.o.now.span; site = c.args.o.now.site; when = c.in_ok-when.when }) under refl refl (owed_keeps c.in_ok-when.ensures.keeps c.requires.made))
