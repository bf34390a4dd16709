-- What an expression is by itself, apart from any typed program: its own type, and the types that it can
-- have where its place wants one. By this a pattern keeps or drops a string.
use Rattle.std.specs.Prelude.{ℕ, nat_le, Bool, true, false, ◌&&◌, ◌||◌, if◌then◌else◌, List, [], ◌∷◌, map, length, Option, Some, None, slice_get}
use Rattle.std.specs.List.{list_all}
use Rattle.sk_tree.specs.declared.expr.Expr.{Expr}
use Rattle.sk_tree.specs.declared.expr.EForm.{EForm}
use Rattle.sk_tree.specs.declared.expr.EForm.TheVariants as eform
use Rattle.sk_tree.specs.declared.expr.EForm.TheOpen as E
use Rattle.sk_tree.specs.declared.expr.EForm.TheFolds.{para-Expr}
use Rattle.sk_tree.specs.declared.expr.NewField.{NewField}
use Rattle.sk_tree.specs.declared.item.Base.{Base}
use Rattle.sk_tree.specs.declared.item.Base.TheVariants as base
use Rattle.sk_tree.specs.declared.item.TyTree.{TyTree}
use Rattle.sk_prog.specs.declared.ty.Ty.{Ty}
use Rattle.sk_prog.specs.declared.ty.Ty.TheVariants as ty
use Rattle.sk_prog.specs.declared.ty.Elem.{Elem}
use Rattle.sk_prog.specs.declared.ty.Elem.TheVariants as elem
use Rattle.sk_prog.specs.declared.ids.StructId.{StructId}
use Rattle.sk_prog.specs.declared.expr.BinOp.{BinOp}
use Rattle.sk_prog.specs.declared.expr.BinOp.TheVariants as op
use Rattle.sk_prog.specs.declared.expr.UnOp.{UnOp}
use Rattle.sk_prog.specs.declared.expr.UnOp.TheVariants as unary
use Rattle.sk_prog.specs.declared.prog.FunKind.{FunKind}
use Rattle.sk_prog.specs.declared.prog.FunKind.TheVariants as pkind
use Rattle.sk_prog.specs.declared.prog.FieldDef.{FieldDef}
use Rattle.sk_prog.specs.declared.prog.ParamDef.{ParamDef}
use Rattle.sk_types_rules.specs.declared.rules.Own.{Own}
use Rattle.sk_types_rules.specs.declared.rules.Own.TheVariants.{Wrong, Loose, Firm}
use Rattle.sk_types_rules.specs.declared.rules.Class.{Class}
use Rattle.sk_types_rules.specs.declared.scope.Variable.{Variable}
use Rattle.sk_types_rules.specs.Rules.{◌>>=◌, only_if, int, bit, ty_eq, fits, is_reference, is_bits, is_length, is_grid, element_of, count_of, array_of, operator_of, unary_of, class_of, operand, loose_takes, result_of, operation_own, unary_own, choice, number_own, number_fits, in_range, hole_takes, width_fits}
use Rattle.sk_types_rules.specs.Scope.{lookup, all_distinct, Signature, Top, Context, Meaning, AVariable, AStruct, AConstant, AFunction, Nothing, meaning_of, field_of}
use Rattle.sk_types_rules.specs.Constants.{constant_number}

-- the own type of an expression, and the types at which it can stand
pub record Sort : Type 0 where
  pub own : Own
  pub at : Ty → Bool

-- an expression with a type of its own stands where that type fits
abbrev pub firm : Ty → Bool → Sort
firm u good = record { own = Firm u; at = λ t. good && fits u t }

abbrev pub wrong : Sort
wrong = record { own = Wrong; at = λ t. false }

-- Where its place decides, it stands at the types that pass this test. By itself it would be an integer or a
-- bit, so it is no base of `.` and `[`, and is not shifted.
abbrev pub loose : (Ty → Bool) → Sort
loose test = record { own = Loose; at = test }

-- Names

abbrev pub named : Meaning → Sort
named (AVariable v) = firm v.ty true
named (AConstant c) = firm int true
named (AStruct s) = wrong
named (AFunction f) = wrong
named Nothing = wrong

abbrev pub struct_meant : Meaning → Option StructId
struct_meant (AStruct s) = Some s
struct_meant (AVariable v) = None
struct_meant (AConstant c) = None
struct_meant (AFunction f) = None
struct_meant Nothing = None

-- the type of the variable that an expression names, where it is a name of one
abbrev pub variable_type : List Variable → EForm → Option Ty
variable_type scope (eform.Word x) = lookup scope x >>= λ v. Some v.ty
variable_type scope _ = None

abbrev pub is_some_type : Option Ty → Ty → Bool
is_some_type None t = false
is_some_type (Some u) t = ty_eq u t

-- Structs

abbrev pub reference_to : StructId → Ty
reference_to s = ty.One (elem.Reference s)

abbrev pub reference_meant : Own → Option StructId
reference_meant (Firm (ty.One (elem.Reference s))) = Some s
reference_meant _ = None

-- the type of a struct's field
abbrev pub field_type : Top → StructId → List ℕ → Option Ty
field_type top s x = slice_get top.structs s.index >>= λ d. field_of d x >>= λ i. slice_get d.fields i >>= λ (f : FieldDef). Some f.ty

abbrev pub any_at : (Ty → Bool) → Option Ty → Bool
any_at at None = false
any_at at (Some t) = at t

abbrev pub firm_of : Option Ty → Bool → Sort
firm_of None good = wrong
firm_of (Some t) good = firm t good

-- Operators: the operands are wanted at the operand type.

abbrev pub binary_at : Class → Own → Sort → Sort → Ty → Bool
binary_at k Wrong a b t = false
binary_at k Loose a b t = loose_takes k t && (a.at t && b.at t)
binary_at k (Firm u) a b t = a.at u && (b.at u && fits (result_of k u) t)

abbrev pub logic : Sort → Sort → Sort
logic a b = firm bit (a.at bit && b.at bit)

abbrev pub shift_by : Own → Sort → Sort → Sort
shift_by (Firm u) a b = firm u (a.at u && b.at int)
shift_by Loose a b = wrong
shift_by Wrong a b = wrong

abbrev pub binary_sort : BinOp → Sort → Sort → Sort
binary_sort op.AndThen a b = logic a b
binary_sort op.OrElse a b = logic a b
binary_sort op.Shl a b = shift_by (operation_own op.Shl a.own b.own) a b
binary_sort op.Shr a b = shift_by (operation_own op.Shr a.own b.own) a b
binary_sort o a b = record { own = operation_own o a.own b.own; at = binary_at (class_of o) (operand (class_of o) a.own b.own) a b }

abbrev pub any_binary : Option BinOp → Sort → Sort → Sort
any_binary None a b = wrong
any_binary (Some o) a b = binary_sort o a b

abbrev pub flip_at : Own → Sort → Ty → Bool
flip_at Wrong a t = false
flip_at Loose a t = is_bits t && a.at t
flip_at (Firm u) a t = a.at u && fits u t

abbrev pub unary_sort : UnOp → Sort → Sort
unary_sort unary.Not a = firm bit (a.at bit)
unary_sort unary.Neg a = firm int (a.at int)
unary_sort unary.Flip a = record { own = unary_own unary.Flip a.own; at = flip_at (unary_own unary.Flip a.own) a }

abbrev pub any_unary : Option UnOp → Sort → Sort
any_unary None a = wrong
any_unary (Some o) a = unary_sort o a

-- Braces hold one expression or more. They stand at an array with at least as many elements, each at the type
-- of an element.
abbrev pub braces_at : List Sort → Ty → Option Ty → Bool
braces_at es t None = false
braces_at es t (Some u) = nat_le 1 (length es) && (nat_le (length es) (count_of t) && list_all (λ (e : Sort). e.at u) es)

-- A pattern stands at a type where a string does that it keeps: one whose own type that is, or a loose one.
abbrev pub may_keep : Own → Ty → Bool
may_keep Wrong t = false
may_keep Loose t = true
may_keep (Firm u) t = ty_eq u t

abbrev pub keeps : Sort → Ty → Bool
keeps a t = may_keep a.own t && a.at t

abbrev pub keeps_any : List Sort → Ty → Bool
keeps_any [] t = false
keeps_any (a ∷ rest) t = keeps a t || keeps_any rest t

-- the parts of a layer, each with its meaning: these are the meanings
abbrev pub sorts : List (Expr × Sort) → List Sort
sorts es = map (λ e. e.1) es

-- Arrays

abbrev pub array_meant : Own → Option Ty
array_meant (Firm u) = element_of u
array_meant Loose = None
array_meant Wrong = None

-- of a whole array, one with so many elements
abbrev pub sliced : Ty → ℕ → Option Ty
sliced u n = element_of u >>= λ t. if nat_le 1 n && nat_le n (count_of u) then array_of t n else None

-- whether it stands at its own type
abbrev pub at_own : Own → (Ty → Bool) → Bool
at_own (Firm u) at = at u
at_own Loose at = false
at_own Wrong at = false

abbrev pub own_at : Sort → Bool
own_at a = at_own a.own a.at

abbrev pub slice_of : Own → Option ℕ → Option Ty
slice_of (Firm u) (Some n) = sliced u n
slice_of _ _ = None

-- Calls

-- An argument is at its parameter's type; for `ref` it is a variable of exactly that type.
abbrev pub argument_fits : List Variable → ParamDef → Expr × Sort → Bool
argument_fits scope d e = if d.by_ref then is_some_type (variable_type scope e.0.form) d.ty else e.1.at d.ty

abbrev pub arguments_fit : List Variable → List ParamDef → List (Expr × Sort) → Bool
arguments_fit scope [] [] = true
arguments_fit scope (d ∷ ds) (e ∷ es) = argument_fits scope d e && arguments_fit scope ds es
arguments_fit scope [] (e ∷ es) = false
arguments_fit scope (d ∷ ds) [] = false

abbrev pub is_harness : FunKind → Bool
is_harness pkind.Harness = true
is_harness pkind.Plain = false
is_harness pkind.Generator = false

-- No harness is called. A call of a void function is no expression with a type.
abbrev pub call_sort : List Variable → Option Signature → List (Expr × Sort) → Sort
call_sort scope None es = wrong
call_sort scope (Some s) es = if is_harness s.kind then wrong else firm_of s.result (arguments_fit scope s.params es)

abbrev pub signature_meant : Top → Meaning → Option Signature
signature_meant top (AFunction f) = slice_get top.funs f.index
signature_meant top (AVariable v) = None
signature_meant top (AStruct s) = None
signature_meant top (AConstant c) = None
signature_meant top Nothing = None

-- Each named field of `new` is there and its value is at its type, and no field stands twice.
abbrev pub new_fits : Top → StructId → List (NewField × Sort) → Bool
new_fits top s fields = list_all (λ (f : NewField × Sort). any_at f.1.at (field_type top s f.0.name)) fields && all_distinct (map (λ (f : NewField × Sort). f.0.name) fields)

abbrev pub new_sort : Top → Option StructId → List (NewField × Sort) → Sort
new_sort top None fields = wrong
new_sort top (Some s) fields = firm (reference_to s) (new_fits top s fields)

abbrev pub member_of : Top → Option StructId → List ℕ → Option Ty
member_of top None x = None
member_of top (Some s) x = field_type top s x

-- Expressions

module _ (context : Context) (scope : List Variable) where
  abbrev pub eform_sort : E.EForm-F (EForm × Sort) (Expr × Sort) (NewField × Sort) → Sort
  eform_sort (E.Number n) = record { own = number_own n; at = λ t. in_range context.bounds n && number_fits n t }
  eform_sort E.True = firm bit true
  eform_sort E.False = firm bit true
  eform_sort E.Null = loose is_reference
  eform_sort (E.Word x) = named (meaning_of context.top scope x)
  eform_sort (E.Hole n) = loose (λ t. width_fits context.bounds n && hole_takes t)
  eform_sort (E.Pattern pattern strings) = loose (keeps_any (sorts strings))
  eform_sort (E.Paren e) = e.1
  eform_sort (E.Call x args) = call_sort scope (signature_meant context.top (meaning_of context.top scope x)) args
  eform_sort (E.New x fields) = new_sort context.top (struct_meant (meaning_of context.top scope x)) fields
  eform_sort (E.Braces es) = loose (λ t. braces_at (sorts es) t (element_of t))
  eform_sort (E.Member e x) = firm_of (member_of context.top (reference_meant e.1.own) x) (own_at e.1)
  eform_sort (E.Index e i) = firm_of (array_meant e.1.own) (own_at e.1 && i.1.at int)
  eform_sort (E.Slice e i n) = firm_of (slice_of e.1.own (constant_number context scope n.0)) (own_at e.1 && i.1.at int)
  eform_sort (E.Unary m e) = any_unary (unary_of m) e.1
  eform_sort (E.Binary m a b) = any_binary (operator_of m) a.1 b.1
  eform_sort (E.Cond c a b) = record { own = choice a.1.own b.1.own; at = λ t. c.1.at bit && (a.1.at t && b.1.at t) }

  -- what an expression is by itself, where these variables are in scope
  abbrev pub sort : Expr → Sort
  sort = para-Expr Sort Sort Sort eform_sort (λ x. x.form.1) (λ x. x.value.1)

  -- the type that an expression has by itself
  abbrev pub own : Expr → Own
  own e = (sort e).own

  -- the strings that a pattern keeps where this type is wanted, in order
  abbrev pub kept : Ty → List Expr → List Expr
  kept t [] = []
  kept t (e ∷ es) = if keeps (sort e) t then e ∷ kept t es else kept t es

  -- Targets: a variable, or a field or an element of a target.

  abbrev pub eform_target : E.EForm-F (EForm × Option Ty) (Expr × Option Ty) (NewField × Unit {0}) → Option Ty
  eform_target (E.Word x) = variable_type scope (eform.Word x)
  eform_target (E.Member e x) = e.1 >>= λ t. member_of context.top (reference_meant (Firm t)) x
  eform_target (E.Index e i) = e.1 >>= λ t. if (sort i.0).at int then element_of t else None
  eform_target (E.Number n) = None
  eform_target E.True = None
  eform_target E.False = None
  eform_target E.Null = None
  eform_target (E.Hole n) = None
  eform_target (E.Pattern pattern strings) = None
  eform_target (E.Paren e) = None
  eform_target (E.Call x args) = None
  eform_target (E.New x fields) = None
  eform_target (E.Braces es) = None
  eform_target (E.Slice e i n) = None
  eform_target (E.Unary m e) = None
  eform_target (E.Binary m a b) = None
  eform_target (E.Cond c a b) = None

  -- the type of a target
  abbrev pub target_type : Expr → Option Ty
  target_type = para-Expr (Option Ty) (Option Ty) (Unit {0}) eform_target (λ x. x.form.1) (λ x. tt)

  abbrev pub this_or : Option Ty → Option Ty → Option Ty
  this_or None other = other
  this_or (Some t) other = Some t

  -- A pattern as target has the type of its first string that is one, and keeps the targets of that type.
  abbrev pub first_target : List Expr → Option Ty
  first_target [] = None
  first_target (e ∷ es) = this_or (target_type e) (first_target es)

  abbrev pub kept_targets : Ty → List Expr → List Expr
  kept_targets t [] = []
  kept_targets t (e ∷ es) = if is_some_type (target_type e) t then e ∷ kept_targets t es else kept_targets t es

  -- Types as they are written: a base, and none, one or two lengths.

  abbrev pub base_elem : Base → Option Elem
  base_elem base.Int = Some elem.Int
  base_elem base.Bit = Some elem.Bit
  base_elem (base.Named x) = struct_meant (meaning_of context.top scope x) >>= λ s. Some (elem.Reference s)

  abbrev pub with_lengths : Elem → List (Option ℕ) → Option Ty
  with_lengths a [] = Some (ty.One a)
  with_lengths a (Some n ∷ []) = only_if (is_length n) (ty.Array a n)
  with_lengths a (Some n ∷ Some m ∷ []) = only_if (is_grid n m) (ty.Grid a n m)
  with_lengths a _ = None

  -- the type that is written
  abbrev pub written_type : TyTree → Option Ty
  written_type y = base_elem y.base >>= λ a. with_lengths a (map (constant_number context scope) y.lengths)
