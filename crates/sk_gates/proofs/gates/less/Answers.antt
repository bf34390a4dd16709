use Rattle.std.proofs.Common.{◌∙◌, ap}
use Rattle.sk_gates.proofs.SharingLaws.{Adds-put, Continues-put, empty}
use Rattle.sk_gates.proofs.ExtensionLaws.{Continues-adds, Continues-trans, on_err, Adds-then}
use Rattle.sk_gates.proofs.WordLaws.{less_said}
use Rattle.sk_gates.proofs.gates.less.Goals as goal

pub returns-clause-gate : goal.returns-clause-gate
returns-clause-gate c = Adds-then _ _ _ (Adds-put _ (c.in_ok-gates.ensures ∙ ap empty c.vars.ensures) c.in_ok-below.ensures.gate c.clauses.ensures c.in_ok-append.ensures.vars c.in_ok-append.ensures.clauses) c.in_ok-r.ensures.gate (λ v p q.
    less_said v c.args.a.now c.args.b.now _ _ _ _ c.as_slice.ensures c.as_slice-2.ensures c.in_ok-x.ensures.length (c.in_ok-x.ensures.value v) (c.in_ok-y.ensures.value v) c.args.signed c.in_ok-below.below c.in_ok-r.r p q)

pub append-requires : goal.append-requires
append-requires c = Continues-put _ _ (c.in_ok-gates.ensures ∙ ap empty c.vars.ensures) c.in_ok-below.ensures.gate c.clauses.ensures

pub returns-in_err-r-clause-err : goal.returns-in_err-r-clause-err
returns-in_err-r-clause-err c = on_err _ (Continues-trans (Continues-adds (Adds-put _ (c.in_ok-gates.ensures ∙ ap empty c.vars.ensures) c.in_ok-below.ensures.gate c.clauses.ensures c.in_ok-append.ensures.vars c.in_ok-append.ensures.clauses)) c.in_err-r.ensures.err)
