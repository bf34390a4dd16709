-- Why an expression that is to be constant is none: the first fault of its parts, in the order in which they stand, an
-- operator's after those of its operands.
use Rattle.std.specs.Prelude.{List, Option, Some, None, if◌then◌else◌}
use Rattle.std.specs.Option.{option_or}
use Rattle.sk_base.specs.declared.span.Span.{Span}
use Rattle.sk_tree.specs.declared.token.Mark.{Mark}
use Rattle.sk_tree.specs.declared.token.Mark.TheVariants as mark
use Rattle.sk_tree.specs.declared.expr.Expr.{Expr}
use Rattle.sk_tree.specs.declared.expr.EForm.TheOpen as E
use Rattle.sk_tree.specs.declared.expr.EForm.TheFolds.{fold-Expr}
use Rattle.sk_types_rules.specs.declared.scope.Variable.{Variable}
use Rattle.sk_types_rules.specs.Rules.{◌>>=◌, in_range}
use Rattle.sk_types_rules.specs.Scope.{Context, Meaning, AVariable, AStruct, AConstant, AFunction, Nothing, lookup, meaning_of}
use Rattle.sk_types_rules.specs.Constants.{number_named, natural}
use Rattle.sk_types_laws.specs.declared.fault.Rule.{Rule}
use Rattle.sk_types_laws.specs.declared.fault.Rule.TheVariants as rule
use Rattle.sk_types_laws.specs.declared.fault.Typing.{Typing}
use Rattle.sk_types_laws.specs.declared.fault.Typing.TheVariants.{Fault}

abbrev pub breaks : Rule → Span → Typing
breaks r s = Fault (record { rule = r; span = s })

-- A variable has a value, but none that is constant; so has a constant that stands later. All else has no value.
abbrev pub rule_of_name : Meaning → Rule
rule_of_name (AVariable v) = rule.NotConstant
rule_of_name (AConstant c) = rule.NotConstant
rule_of_name (AStruct s) = rule.UnknownName
rule_of_name (AFunction f) = rule.UnknownName
rule_of_name Nothing = rule.UnknownName

abbrev pub unless_there : {A : Type 0} → Option A → Typing → Option Typing
unless_there None why = Some why
unless_there (Some a) why = None

-- Constants are computed by `+`, `-` and `*` alone.
abbrev pub operator_fault : Mark → Span → Option Typing
operator_fault mark.Plus s = None
operator_fault mark.Minus s = None
operator_fault mark.Star s = None
operator_fault _ s = Some (breaks rule.NotConstant s)

module _ (context : Context) (scope : List Variable) where
  -- the first fault of a form, where its expression has a span
  abbrev pub form_fault : E.EForm-F (Span → Option Typing) (Option Typing) (Unit {0}) → Span → Option Typing
  form_fault (E.Number n) s = if in_range context.bounds n then None else Some (breaks rule.LiteralRange s)
  form_fault (E.Word x) s = unless_there (number_named (lookup scope x) context.known x >>= natural context.bounds) (breaks (rule_of_name (meaning_of context.top scope x)) s)
  form_fault (E.Paren a) s = a
  form_fault (E.Binary m a b) s = option_or (option_or a b) (operator_fault m s)
  form_fault E.True s = Some (breaks rule.NotConstant s)
  form_fault E.False s = Some (breaks rule.NotConstant s)
  form_fault E.Null s = Some (breaks rule.NotConstant s)
  form_fault (E.Hole n) s = Some (breaks rule.NotConstant s)
  form_fault (E.Pattern pattern strings) s = Some (breaks rule.NotConstant s)
  form_fault (E.Call x args) s = Some (breaks rule.NotConstant s)
  form_fault (E.New x fields) s = Some (breaks rule.NotConstant s)
  form_fault (E.Braces es) s = Some (breaks rule.NotConstant s)
  form_fault (E.Member a x) s = Some (breaks rule.NotConstant s)
  form_fault (E.Index a i) s = Some (breaks rule.NotConstant s)
  form_fault (E.Slice a i n) s = Some (breaks rule.NotConstant s)
  form_fault (E.Unary m a) s = Some (breaks rule.NotConstant s)
  form_fault (E.Cond c a b) s = Some (breaks rule.NotConstant s)

  -- the first fault of the parts of an expression that is to be constant
  abbrev pub part_fault : Expr → Option Typing
  part_fault = fold-Expr (Span → Option Typing) (Option Typing) (Unit {0}) form_fault (λ x. x.form x.span) (λ x. tt)

-- Where each part is constant by itself, what it comes to is out of range.
abbrev pub fault_or_range : Option Typing → Span → Typing
fault_or_range None s = breaks rule.NotConstant s
fault_or_range (Some why) s = why
