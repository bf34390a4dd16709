use Rattle.std.proofs.Common.{◌≡◌, ◌+◌, replicate, ap, subst, ◌∙◌, arith}
use Rattle.sk_dag.proofs.EvalLemmas.{Keeps-trans}
use Rattle.sk_oblig_queries.specs.Said.{row_said}
use Rattle.sk_oblig_queries.specs.Widths.{elem_width}
use Rattle.sk_oblig_arguments.specs.Arguments.{AllRead}
use Rattle.sk_oblig_arguments.proofs.Reading.{row_more}
use Rattle.sk_oblig_arguments.proofs.argument.row_at.Goals as goal

pub loop-k-preserved : goal.loop-k-preserved
loop-k-preserved c = record {
  keeps = Keeps-trans c.loop-k.invariant.keeps c.in_ok-one.ensures.keeps;
  read = row_more c.args.elem c.loop-k.k c.in_ok-one.ensures.keeps c.loop-k.invariant.read c.in_ok-one.ensures.reads c.in_ok-push.ensures.ok (c.in_ok-at.ensures.at ∙ ap (λ j. c.args.first + j) c.from.ensures);
}

pub returns-clause-read : goal.returns-clause-read
returns-clause-read c =
    let all : c.loop-k.k ≡ c.args.length = omega (arith, c.loop-k.auto.k-end, c.loop-k-test.false) in
    subst (λ k. AllRead c.loop-k.dag (λ inbits. replicate k (elem_width inbits c.args.elem)) (row_said c.args.elem k) c.args.first c.loop-k.made) all c.loop-k.invariant.read
