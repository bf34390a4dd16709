-- Whether an expression has a fault by itself, whatever type its place wants.
use Rattle.std.specs.Prelude.{◌≡◌, Bool, true, false, not, ◌||◌, ◌&&◌, List, [], ◌∷◌, map, Option, Some, None, is_none}
use Rattle.sk_tree.specs.declared.expr.Expr.{Expr}
use Rattle.sk_tree.specs.declared.expr.EForm.{EForm}
use Rattle.sk_tree.specs.declared.expr.EForm.TheOpen as E
use Rattle.sk_tree.specs.declared.expr.EForm.TheFolds.{para-EForm, para-Expr}
use Rattle.sk_tree.specs.declared.expr.NewField.{NewField}
use Rattle.sk_types_rules.specs.declared.rules.Own.{Own}
use Rattle.sk_types_rules.specs.declared.rules.Own.TheVariants.{Wrong, Loose, Firm}
use Rattle.sk_types_rules.specs.declared.scope.Variable.{Variable}
use Rattle.sk_types_rules.specs.Rules.{bit, width_fits}
use Rattle.sk_types_rules.specs.Scope.{Context}
use Rattle.sk_types_laws.specs.declared.fault.Typing.{Typing}
use Rattle.sk_types_laws.specs.declared.fault.Typing.TheVariants.{Fault, Memory}
use Rattle.sk_types_laws.specs.Elaborate.{At}
use Rattle.sk_types_laws.specs.Parts.{part}

-- What has a type of its own has a fault where it is not made at that type. What is no expression of the language has one. What takes the type of its place
-- has those of its parts.
abbrev pub by_own : Own → At → Bool → Bool
by_own (Firm t) at faulty = is_none (at t)
by_own Wrong at faulty = true
by_own Loose at faulty = faulty

-- each of these has a fault
abbrev pub all_faulty : List (Expr × Bool) → Bool
all_faulty [] = true
all_faulty (e ∷ es) = e.1 && all_faulty es

-- one of these has a fault
abbrev pub some_faulty : List (Expr × Bool) → Bool
some_faulty [] = false
some_faulty (e ∷ es) = e.1 || some_faulty es

module _ (context : Context) (scope : List Variable) where
  abbrev pub not_at_bit : Expr → Bool
  not_at_bit e = is_none ((part context scope e).at bit)

  -- Of the forms that take the type of their place, `null` has no fault, a hole one of its width, a pattern one where no string is without, and all others have
  -- those of their parts.
  abbrev pub eform_faulty : E.EForm-F (EForm × Bool) (Expr × Bool) (NewField × Unit {0}) → Bool
  eform_faulty (E.Paren e) = e.1
  eform_faulty (E.Cond c a b) = (not_at_bit c.0 || a.1) || b.1
  eform_faulty (E.Hole n) = not (width_fits context.bounds n)
  eform_faulty (E.Pattern pattern es) = all_faulty es
  eform_faulty (E.Braces es) = some_faulty es
  eform_faulty (E.Unary m e) = e.1
  eform_faulty (E.Binary m a b) = a.1 || b.1
  eform_faulty E.Null = false
  eform_faulty (E.Number n) = false
  eform_faulty E.True = false
  eform_faulty E.False = false
  eform_faulty (E.Word x) = false
  eform_faulty (E.Call x es) = false
  eform_faulty (E.New x es) = false
  eform_faulty (E.Member e x) = false
  eform_faulty (E.Index e i) = false
  eform_faulty (E.Slice e i n) = false

  abbrev pub expr_faulty : E.Expr-F (EForm × Bool) (Expr × Bool) (NewField × Unit {0}) → Bool
  expr_faulty x = by_own (part context scope (record { span = x.span; form = x.form.0 })).own (part context scope (record { span = x.span; form = x.form.0 })).at x.form.1

  -- whether a form has a fault that takes the type of its place
  abbrev pub form_faulty : EForm → Bool
  form_faulty = para-EForm Bool Bool (Unit {0}) eform_faulty expr_faulty (λ x. tt)

  -- whether an expression has a fault by itself
  abbrev pub is_faulty : Expr → Bool
  is_faulty = para-Expr Bool Bool (Unit {0}) eform_faulty expr_faulty (λ x. tt)

  -- expressions, each with whether it has a fault
  abbrev pub judged : List Expr → List (Expr × Bool)
  judged es = map (λ e. (e, is_faulty e)) es

-- What a search for a fault answers: one where there is one, and none where there is none, unless memory runs out.
abbrev pub Finds : Option Typing → Bool → Type 0
Finds None faulty = faulty ≡ false
Finds (Some (Fault f)) faulty = faulty ≡ true
Finds (Some Memory) faulty = Unit {0}
