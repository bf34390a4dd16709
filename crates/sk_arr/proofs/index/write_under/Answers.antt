use Rattle.std.proofs.Common.{ap, subst, not, ◌∙◌}
use Rattle.sk_dag.specs.Eval.{word_value}
use Rattle.sk_arr.specs.Places.{is_within}
use Rattle.sk_arr.specs.Steps.{AreWritten}
use Rattle.sk_arr.proofs.WriteLaws.{written_done}
use Rattle.sk_arr.proofs.index.write_under.Goals as goal

pub returns-clause-written : goal.returns-clause-written
returns-clause-written c = written_done
    (subst (λ l. AreWritten c.written.new.dag c.args.guard l c.args.index c.args.value.now c.in_ok-made.made) c.as_slice.ensures c.in_ok-made.ensures.written)
    c.in_ok-outside.ensures.keeps c.in_ok-outside.ensures.there
    (λ h more e. c.in_ok-outside.ensures.value h more e ∙ ap (λ n. not (is_within n (word_value h e c.args.index))) c.len.ensures)
