use Rattle.std.proofs.Common.{◌-ℤ◌, sym, ap, ◌∙◌}
use Rattle.sk_base.specs.Word.{wrapped}
use Rattle.sk_dag.specs.Eval.{word_value}
use Rattle.sk_simplify.proofs.RuleLemmas.{sub_zero}
use Rattle.sk_sym_folds.proofs.Makers.{sub_same}
use Rattle.sk_sym_folds.proofs.words.sub.Goals as goal

pub returns-then-is_number-clause-value : goal.returns-then-is_number-clause-value
returns-then-is_number-clause-value c = λ g m e.
    sym (ap (λ z. wrapped c.args.dag.now.bits (word_value g e c.args.a -ℤ z)) (c.is_number.ensures.value c.if-is_number.true g m e)
    ∙ sub_zero c.args.dag.now.bits _ (c.known_words.ensures.first_range g m e))

pub returns-then-a-b-clause-value : goal.returns-then-a-b-clause-value
returns-then-a-b-clause-value c = λ g m e.
    c.in_ok-r-2.ensures.value g m e ∙ sym (sub_same c.args.dag.now.bits g e c.args.a c.args.b c.if-a-b.true)
