use Rattle.std.proofs.Common.{ap, ◌∙◌}
use Rattle.sk_oblig_queries.specs.Said.{elem_said, row_said}
use Rattle.sk_oblig_queries.proofs.Steps.{row_next}
use Rattle.sk_oblig_queries.proofs.inputs.row_said.Goals as goal

pub loop-place-preserved : goal.loop-place-preserved
loop-place-preserved c = row_next c.args.elem c.args.length c.loop-place._place c.loop-place.rest.now c.behind-rest.result.now c.loop-place.row c.push.new.self (row_said c.args.elem c.args.length c.args.numbers.now) c.in_ok-value.value c.loop-place-test.true (c.in_ok-value.ensures ∙ ap (elem_said c.args.elem) c.first_of.ensures) c.behind-rest.ensures c.in_ok-push.ensures.ok c.loop-place.invariant
