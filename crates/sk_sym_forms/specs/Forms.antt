-- What the forms of a program do with the values of their parts.
use Rattle.std.specs.Prelude.{ℕ, Some}
use Rattle.sk_base.specs.declared.span.Span.{Span}
use Rattle.sk_prog.specs.declared.value.Value.{Value}
use Rattle.sk_model.specs.Step.{Comp, pure, fail, skip}
use Rattle.sk_model.specs.Operators.{operator, unary_operator, to_int}
use Rattle.sk_model.specs.Heap.{read_field, write}
use Rattle.sk_model.specs.Eval.{padded_at, indexed, sliced, choose}
use Rattle.sk_model.specs.Exec.{Flow, Onward, Returns, onward, pay}
use Rattle.sk_sym_forms.specs.declared.act.Act.{Act}
use Rattle.sk_sym_forms.specs.declared.act.Act.TheVariants as act
use Rattle.sk_sym_forms.specs.declared.double.Double.{Double}
use Rattle.sk_sym_forms.specs.declared.double.Double.TheVariants as double
use Rattle.sk_sym_forms.specs.declared.single.Single.{Single}
use Rattle.sk_sym_forms.specs.declared.single.Single.TheVariants as single

-- what is done with the value of an expression's part
abbrev pub single_does : ℕ → Span → Single → Value → Comp Value
single_does width span (single.Unary op) v = unary_operator width span op v
single_does width span single.ToInt v = to_int span v
single_does width span (single.Pad t) v = pure (padded_at t v)
single_does width span (single.Member s field) v = read_field span field v

-- what is done with the values of two
abbrev pub double_does : ℕ → Span → Double → Value → Value → Comp Value
double_does width span (double.Operator op) v w = operator width span op v w
double_does width span double.Index v w = indexed span v w
double_does width span (double.Slice n) v w = sliced span n v w

-- what a statement does with the value of its expression
abbrev pub act_does : Span → Act → Value → Comp Flow
act_does span act.Assert v = choose span (pure Onward) (fail span) v
act_does span act.Assume v = choose span (pure Onward) (skip span) v
act_does span act.Minimize v = pay span v
act_does span act.Drop v = pure Onward
act_does span act.Return v = pure (Returns (Some v))
act_does span (act.Declare slot) v = onward (write slot v)
