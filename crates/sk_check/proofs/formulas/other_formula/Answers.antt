use Rattle.sk_check.proofs.Asked.{same_asks}
use Rattle.sk_check.proofs.formulas.other_formula.Goals as goal

pub returns-then-same : goal.returns-then-same
returns-then-same c = same_asks c.args.expanded.now c.args.bounds.now c.args.query.now c.in_ok-own.own c.args.listed.now (c.is_same-same.ensures.0 c.if-same.true) c.in_ok-own.ensures.asks

pub returns : goal.returns
returns c = (
  c.in_ok-own.ensures.asks,
  λ same. (
      let t = c.is_same-same.ensures.1 same in
      let f = c.if-same.false in
      cc),
)
