use Rattle.std.proofs.Common.{ap, subst, not, ◌∙◌}
use Rattle.sk_dag.specs.Eval.{word_value}
use Rattle.sk_arr.specs.Places.{is_within}
use Rattle.sk_arr.specs.Steps.{IsReadFrom}
use Rattle.sk_arr.proofs.ReadLaws.{read_done}
use Rattle.sk_arr.proofs.index.read.Goals as goal

pub returns-clause-read : goal.returns-clause-read
returns-clause-read c = read_done
    (subst (λ l. IsReadFrom c.element.new.dag l c.args.index c.in_ok-value.value) c.as_slice.ensures c.in_ok-value.ensures.read)
    c.in_ok-outside.ensures.keeps c.in_ok-outside.ensures.there
    (λ h more e. c.in_ok-outside.ensures.value h more e ∙ ap (λ n. not (is_within n (word_value h e c.args.index))) c.len.ensures)
