use Rattle.sk_rup.proofs.log.refutes.Goals as goal

pub returns : goal.returns
returns c =
    let front = c.ends_empty.ensures.0 c.if-not-ends_empty.false in
    ((λ t. (c.in_ok-each.ensures.0 t, front)), (λ r. c.in_ok-each.ensures.1 r.0))
