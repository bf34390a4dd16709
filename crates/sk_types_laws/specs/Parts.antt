-- What a tree is where variables are in scope, as one fold: its own type, what it becomes at each type, the type of the
-- variable that it names, and its whole number where it is constant.
use Rattle.std.specs.Prelude.{ℕ, ℤ, pos, List, map, length, Option, Some, None}
use Rattle.sk_tree.specs.declared.expr.Expr.{Expr}
use Rattle.sk_tree.specs.declared.expr.EForm.{EForm}
use Rattle.sk_tree.specs.declared.expr.EForm.TheOpen as E
use Rattle.sk_tree.specs.declared.expr.EForm.TheFolds.{fold-EForm, fold-Expr, fold-NewField}
use Rattle.sk_tree.specs.declared.expr.NewField.{NewField}
use Rattle.sk_prog.specs.declared.ty.Ty.{Ty}
use Rattle.sk_prog.specs.declared.ids.StructId.{StructId}
use Rattle.sk_prog.specs.declared.expr.BinOp.{BinOp}
use Rattle.sk_prog.specs.declared.expr.UnOp.{UnOp}
use Rattle.sk_prog.specs.declared.expr.PEForm.TheVariants as pform
use Rattle.sk_types_rules.specs.declared.rules.Own.{Own}
use Rattle.sk_types_rules.specs.declared.rules.Own.TheVariants.{Wrong, Loose, Firm}
use Rattle.sk_types_rules.specs.declared.scope.Variable.{Variable}
use Rattle.sk_types_rules.specs.declared.scope.Place.{Place}
use Rattle.sk_types_rules.specs.Rules.{◌>>=◌, only_if, bit, operator_of, unary_of, operation_own, unary_own, choice, number_own, in_range}
use Rattle.sk_types_rules.specs.Scope.{lookup, Context, meaning_of}
use Rattle.sk_types_rules.specs.Constants.{number_named, computed, natural}
use Rattle.sk_types_rules.specs.Sorts.{named, struct_meant, reference_to, reference_meant, member_of, array_meant, slice_of}
use Rattle.sk_types_laws.specs.Owns.{own_type, callee_result}
use Rattle.sk_types_laws.specs.Elaborate.{At, FormAt, Item, Argument, Setting, firm_at, number_at, named_at, null_at, hole_at, strings_at, pattern_at, element_wanted, braces_at, callee_meant, called, call_at, record_at, member_at, index_at, slice_at, unary_at, binary_at, cond_at, paren_at}

pub record Part : Type 0 where
  pub own : Own
  pub at : At
  pub variable : Option Ty
  pub whole : Option ℤ

-- a form, where its expression has a span
pub record FormPart : Type 0 where
  pub own : Own
  pub at : FormAt
  pub variable : Option Ty
  pub whole : Option ℤ

-- a form that names no variable and is no constant
abbrev pub form_part_of : Own → FormAt → FormPart
form_part_of o f = record { own = o; at = f; variable = None; whole = None }

abbrev pub new_own : Option StructId → Own
new_own None = Wrong
new_own (Some r) = Firm (reference_to r)

abbrev pub any_unary_own : Option UnOp → Own → Own
any_unary_own None x = Wrong
any_unary_own (Some o) x = unary_own o x

abbrev pub any_binary_own : Option BinOp → Own → Own → Own
any_binary_own None x y = Wrong
any_binary_own (Some o) x y = operation_own o x y

abbrev pub place_type : Option Place → Option Ty
place_type o = o >>= λ v. Some v.ty

abbrev pub item_part : Part → Item
item_part p = record { own = p.own; at = p.at }

abbrev pub argument_part : Part → Argument
argument_part p = record { variable = p.variable; at = p.at }

abbrev pub at_part : Part → At
at_part p = p.at

abbrev pub length_part : Context → Part → Option ℕ
length_part context p = p.whole >>= natural context.bounds

abbrev pub expr_part : E.Expr-F FormPart Part Setting → Part
expr_part x = record { own = x.form.own; at = x.form.at x.span; variable = x.form.variable; whole = x.form.whole }

abbrev pub set_part : E.NewField-F FormPart Part Setting → Setting
set_part x = record { name = x.name; at = x.value.at }

module _ (context : Context) (scope : List Variable) where
  abbrev pub eform_part : E.EForm-F FormPart Part Setting → FormPart
  eform_part (E.Number n) = record { own = number_own n; at = number_at context.bounds n; variable = None; whole = only_if (in_range context.bounds n) (pos n) }
  eform_part E.True = form_part_of (Firm bit) (firm_at bit (Some pform.True))
  eform_part E.False = form_part_of (Firm bit) (firm_at bit (Some pform.False))
  eform_part E.Null = form_part_of Loose null_at
  eform_part (E.Word x) = record { own = (named (meaning_of context.top scope x)).own; at = named_at (meaning_of context.top scope x) x; variable = place_type (lookup scope x); whole = number_named (lookup scope x) context.known x }
  eform_part (E.Hole n) = form_part_of Loose (hole_at context.bounds n)
  eform_part (E.Pattern pattern es) = form_part_of Loose (λ s t. pattern_at (strings_at t (map item_part es)) s t)
  eform_part (E.Paren e) = record { own = e.own; at = paren_at e.at; variable = None; whole = e.whole }
  eform_part (E.Call x es) = form_part_of (own_type (callee_result (callee_meant context.top (meaning_of context.top scope x)))) (call_at (called (callee_meant context.top (meaning_of context.top scope x)) (map argument_part es)))
  eform_part (E.New x es) = form_part_of (new_own (struct_meant (meaning_of context.top scope x))) (record_at context.top (struct_meant (meaning_of context.top scope x)) es)
  eform_part (E.Braces es) = form_part_of Loose (λ s t. braces_at (element_wanted t (length es)) (map at_part es) s t)
  eform_part (E.Member e x) = form_part_of (own_type (member_of context.top (reference_meant e.own) x)) (member_at context.top (reference_meant e.own) e.at x)
  eform_part (E.Index e i) = form_part_of (own_type (array_meant e.own)) (index_at e.own e.at i.at)
  eform_part (E.Slice e i n) = form_part_of (own_type (slice_of e.own (length_part context n))) (slice_at e.own (length_part context n) e.at i.at)
  eform_part (E.Unary m e) = form_part_of (any_unary_own (unary_of m) e.own) (unary_at (unary_of m) e.own e.at)
  eform_part (E.Binary m a b) = record { own = any_binary_own (operator_of m) a.own b.own; at = binary_at (operator_of m) a.own b.own a.at b.at; variable = None; whole = a.whole >>= λ x. b.whole >>= λ y. computed m x y }
  eform_part (E.Cond c a b) = form_part_of (choice a.own b.own) (cond_at c.at a.at b.at)

  abbrev pub form_part : EForm → FormPart
  form_part = fold-EForm FormPart Part Setting eform_part expr_part set_part

  abbrev pub part : Expr → Part
  part = fold-Expr FormPart Part Setting eform_part expr_part set_part

  abbrev pub setting : NewField → Setting
  setting = fold-NewField FormPart Part Setting eform_part expr_part set_part

  -- the number of a constant expression
  abbrev pub length_of : Expr → Option ℕ
  length_of e = length_part context (part e)

  -- the parts of lists

  abbrev pub ats : List Expr → List At
  ats es = map at_part (map part es)

  abbrev pub items : List Expr → List Item
  items es = map item_part (map part es)

  abbrev pub arguments : List Expr → List Argument
  arguments es = map argument_part (map part es)

  abbrev pub settings : List NewField → List Setting
  settings es = map setting es
