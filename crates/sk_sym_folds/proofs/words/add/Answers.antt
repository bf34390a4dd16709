use Rattle.std.proofs.Common.{◌+ℤ◌, sym, ap, ◌∙◌}
use Rattle.sk_base.specs.Word.{wrapped}
use Rattle.sk_dag.specs.Eval.{word_value}
use Rattle.sk_simplify.proofs.RuleLemmas.{add_zero_left}
use Rattle.sk_sym_folds.proofs.words.add.Goals as goal

pub returns-then-is_number-clause-value : goal.returns-then-is_number-clause-value
returns-then-is_number-clause-value c = λ g m e.
    sym (ap (λ z. wrapped c.args.dag.now.bits (z +ℤ word_value g e c.args.b)) (c.is_number.ensures.value c.if-is_number.true g m e)
    ∙ add_zero_left c.args.dag.now.bits _ (c.known_words.ensures.second_range g m e))
