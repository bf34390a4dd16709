use Rattle.std.proofs.Common.{◌≡◌, ◌+◌, ◌*◌, replicate, ap, subst, ◌∙◌, arith}
use Rattle.sk_dag.proofs.EvalLemmas.{Keeps-trans}
use Rattle.sk_oblig_queries.specs.Said.{rows_said}
use Rattle.sk_oblig_queries.specs.Widths.{elem_width}
use Rattle.sk_oblig_arguments.specs.Arguments.{AllRead}
use Rattle.sk_oblig_arguments.proofs.Reading.{rows_more}
use Rattle.sk_oblig_arguments.proofs.argument.rows_at.Goals as goal

pub loop-k-preserved : goal.loop-k-preserved
loop-k-preserved c = record {
  keeps = Keeps-trans c.loop-k.invariant.keeps c.in_ok-row.ensures.keeps;
  read = rows_more c.args.elem c.args.length c.loop-k.k c.in_ok-row.ensures.keeps c.loop-k.invariant.read c.in_ok-row.ensures.read c.in_ok-push.ensures.ok (c.in_ok-at.ensures.at ∙ ap (λ j. c.args.first + j * c.from-in-loop-k.result) c.from.ensures ∙ ap (λ j. c.args.first + c.args.length * j) c.from-in-loop-k.ensures);
}

pub returns-clause-read : goal.returns-clause-read
returns-clause-read c =
    let all : c.loop-k.k ≡ c.args.count = omega (arith, c.loop-k.auto.k-end, c.loop-k-test.false) in
    subst (λ k. AllRead c.loop-k.dag (λ inbits. replicate (c.args.length * k) (elem_width inbits c.args.elem)) (rows_said c.args.elem c.args.length k) c.args.first c.loop-k.made) all c.loop-k.invariant.read
