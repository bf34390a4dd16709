use Rattle.std.proofs.Common.{◌≡◌, [], ◌+◌, ◌∙◌, ap, arith}
use Rattle.sk_clause.specs.Problem.{Problem}
use Rattle.sk_gates.proofs.convert.apart.Goals as goal

pub loop-init : goal.loop-init
loop-init c = record {
  grown = λ i. record { vars = c.new-clauses.ensures.vars i; clauses = c.new-clauses.ensures.clauses i };
}

pub loop-preserved : goal.loop-preserved
loop-preserved c = record {
  grown = c.in_ok-fresh.ensures.ok.1 ∙ ap (λ (p : Problem). record p { vars = p.vars + 1 }) c.loop.invariant.grown;
}

pub returns : goal.returns
returns c =
    let e : c.loop.counter ≡ c.args.vars = omega arith in
    c.new.ensures ∙ c.loop.invariant.grown ∙ ap (λ n. record { vars = n; clauses = [] }) e
