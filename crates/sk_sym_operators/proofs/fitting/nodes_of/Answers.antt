use Rattle.std.proofs.Common.{◌≡◌, ap, ◌∙◌, arith}
use Rattle.sk_sym_operators.specs.Fitting.{nodes_of}
use Rattle.sk_sym_operators.proofs.FitRows.{nodes_more}
use Rattle.sk_sym_operators.proofs.fitting.nodes_of.Goals as goal

pub loop-i-preserved : goal.loop-i-preserved
loop-i-preserved c = record {
  made = rw (c.in_ok-push.ensures.ok, c.loop-i.invariant.made, c.node_at.ensures) (nodes_more c.args.no c.args.list.now c.loop-i.i);
}

pub returns : goal.returns
returns c =
    let whole : c.loop-i.i ≡ c.args.count = omega (arith, c.loop-i-test.false, c.loop-i.auto.i-end) in
    c.loop-i.invariant.made ∙ ap (nodes_of c.args.no c.args.list.now) whole
