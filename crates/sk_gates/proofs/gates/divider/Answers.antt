use Rattle.sk_gates.specs.Words.{quotient_of, remainder_of}
use Rattle.std.proofs.Common.{◌∙◌, ap}
use Rattle.sk_gates.proofs.SharingLaws.{Adds-put, Continues-put, empty}
use Rattle.sk_gates.proofs.ExtensionLaws.{Continues-adds, Continues-trans, on_err, Adds-then, Adds-both}
use Rattle.sk_gates.proofs.WordLaws.{division_is}
use Rattle.sk_gates.proofs.gates.divider.Goals as goal

pub returns-clause-gate : goal.returns-clause-gate
returns-clause-gate c = Adds-then _ _ _ (Adds-put _ (c.in_ok-gates.ensures ∙ ap empty c.vars.ensures) c.in_ok-quotient.ensures.gate c.clauses.ensures c.in_ok-append.ensures.vars c.in_ok-append.ensures.clauses) (Adds-both _ _ c.in_ok-q.ensures.gate c.in_ok-r.ensures.gate) (λ v p q. (
  division_is v c.args.a.now c.args.b.now _ _ _ _ c.as_slice.ensures c.as_slice-2.ensures c.in_ok-x.ensures.length (c.in_ok-x.ensures.value v) (c.in_ok-y.ensures.value v) quotient_of c.in_ok-quotient.quotient _ c.in_ok-q.q c.as_slice-3.ensures p.0 q.0,
  division_is v c.args.a.now c.args.b.now _ _ _ _ c.as_slice.ensures c.as_slice-2.ensures c.in_ok-x.ensures.length (c.in_ok-x.ensures.value v) (c.in_ok-y.ensures.value v) remainder_of c.in_ok-quotient.remainder _ c.in_ok-r.r c.as_slice-4.ensures p.1 q.1,
))

pub append-requires : goal.append-requires
append-requires c = Continues-put _ _ (c.in_ok-gates.ensures ∙ ap empty c.vars.ensures) c.in_ok-quotient.ensures.gate c.clauses.ensures

pub returns-in_err-q-clause-err : goal.returns-in_err-q-clause-err
returns-in_err-q-clause-err c = on_err _ (Continues-trans (Continues-adds (Adds-put _ (c.in_ok-gates.ensures ∙ ap empty c.vars.ensures) c.in_ok-quotient.ensures.gate c.clauses.ensures c.in_ok-append.ensures.vars c.in_ok-append.ensures.clauses)) c.in_err-q.ensures.err)

pub returns-in_err-r-clause-err : goal.returns-in_err-r-clause-err
returns-in_err-r-clause-err c = on_err _ (Continues-trans (Continues-trans (Continues-adds (Adds-put _ (c.in_ok-gates.ensures ∙ ap empty c.vars.ensures) c.in_ok-quotient.ensures.gate c.clauses.ensures c.in_ok-append.ensures.vars c.in_ok-append.ensures.clauses)) (Continues-adds c.in_ok-q.ensures.gate)) c.in_err-r.ensures.err)
