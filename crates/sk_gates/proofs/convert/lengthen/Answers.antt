use Rattle.std.proofs.Common.{◌≡◌, ◌+◌, ◌∙◌, ap, arith}
use Rattle.sk_clause.specs.Problem.{Problem}
use Rattle.sk_gates.proofs.ExtensionLaws.{on_err}
use Rattle.sk_gates.proofs.SharingLaws.{Continues-longer}
use Rattle.sk_gates.proofs.convert.lengthen.Goals as goal

pub loop-init : goal.loop-init
loop-init c = record {
  grown = λ i. record c.args.to.now { vars = (let e : c.args.to.now.vars ≡ c.vars-counter.result = omega (arith, c.vars-counter.ensures) in e) i };
  least = omega (arith, c.vars-counter.ensures);
}

pub loop-preserved : goal.loop-preserved
loop-preserved c = record {
  grown = c.in_ok-fresh.ensures.ok.1 ∙ ap (λ (p : Problem). record p { vars = p.vars + 1 }) c.loop.invariant.grown;
  least = omega (arith, c.loop.invariant.least);
}

pub returns-clause-ok : goal.returns-clause-ok
returns-clause-ok c =
    let e : c.loop.counter ≡ c.args.vars = omega arith in
    c.loop.invariant.grown ∙ ap (λ n. record c.args.to.now { vars = n }) e

pub returns-in_err-fresh-clause-err : goal.returns-in_err-fresh-clause-err
returns-in_err-fresh-clause-err c =
    on_err _ (Continues-longer c.loop.counter c.loop.invariant.least (c.in_err-fresh.ensures.err ∙ c.loop.invariant.grown))
