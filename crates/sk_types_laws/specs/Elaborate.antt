-- What an expression becomes where a type is wanted, as a function of its tree. An expression with a type of its
-- own is made at that type, and coerced where another is wanted; one without is made at the type that is wanted.
use Rattle.std.specs.Prelude.{ℕ, nat_lt, nat_le, Bool, not, ◌&&◌, ◌||◌, if◌then◌else◌, List, [], ◌∷◌, map, length, Option, Some, None, slice_get}
use Rattle.sk_base.specs.declared.span.Span.{Span}
use Rattle.sk_base.specs.declared.bounds.Bounds.{Bounds}
use Rattle.sk_tree.specs.declared.expr.Expr.{Expr}
use Rattle.sk_tree.specs.declared.expr.EForm.{EForm}
use Rattle.sk_tree.specs.declared.expr.EForm.TheOpen as E
use Rattle.sk_tree.specs.declared.expr.EForm.TheFolds.{para-EForm, para-Expr, para-NewField}
use Rattle.sk_tree.specs.declared.expr.NewField.{NewField}
use Rattle.sk_prog.specs.declared.ty.Ty.{Ty}
use Rattle.sk_prog.specs.declared.ids.StructId.{StructId}
use Rattle.sk_prog.specs.declared.ids.FunId.{FunId}
use Rattle.sk_prog.specs.declared.expr.BinOp.{BinOp}
use Rattle.sk_prog.specs.declared.expr.UnOp.{UnOp}
use Rattle.sk_prog.specs.declared.expr.UnOp.TheVariants as unary
use Rattle.sk_prog.specs.declared.expr.PExpr.{PExpr}
use Rattle.sk_prog.specs.declared.expr.PEForm.{PEForm}
use Rattle.sk_prog.specs.declared.expr.PEForm.TheVariants as pform
use Rattle.sk_prog.specs.declared.expr.PField.{PField}
use Rattle.sk_prog.specs.declared.prog.FieldDef.{FieldDef}
use Rattle.sk_prog.specs.declared.prog.StructDef.{StructDef}
use Rattle.sk_prog.specs.declared.prog.ParamDef.{ParamDef}
use Rattle.sk_types_rules.specs.declared.rules.Own.{Own}
use Rattle.sk_types_rules.specs.declared.rules.Own.TheVariants.{Wrong, Loose, Firm}
use Rattle.sk_types_rules.specs.declared.rules.Fit.{Fit}
use Rattle.sk_types_rules.specs.declared.rules.Fit.TheVariants.{Misfit, Same, Widens, Pads}
use Rattle.sk_types_rules.specs.declared.rules.Class.{Class}
use Rattle.sk_types_rules.specs.declared.rules.Class.TheVariants.{Plus, Arithmetic, Order, Equality, Bitwise, Shift, Logic}
use Rattle.sk_types_rules.specs.declared.scope.Variable.{Variable}
use Rattle.sk_types_rules.specs.Rules.{◌>>=◌, only_if, int, bit, fit_of, is_reference, is_bits, element_of, count_of, operator_of, unary_of, class_of, operand, result_of, loose_takes, shifted, flipped, number_stands, in_range, hole_takes, width_fits}
use Rattle.sk_types_rules.specs.Scope.{Signature, Top, Context, Meaning, AVariable, AStruct, AConstant, AFunction, Nothing, meaning_of, field_of, all_distinct}
use Rattle.sk_types_rules.specs.Constants.{constant_number}
use Rattle.sk_types_rules.specs.Sorts.{own, may_keep, struct_meant, reference_to, reference_meant, variable_type, is_some_type, is_harness, sliced}
use Rattle.sk_types_laws.specs.declared.found.Found.{Found}
use Rattle.sk_types_laws.specs.declared.found.View.{View}
use Rattle.sk_types_laws.specs.declared.found.Wants.{Wants}
use Rattle.sk_types_laws.specs.declared.found.Called.{Called}

-- what an expression is at each type, and what a form is where its expression has a span
abbrev pub At : Type 0
At = Ty → Option PExpr

abbrev pub FormAt : Type 0
FormAt = Span → Ty → Option PExpr

abbrev pub typed : Span → Ty → PEForm → PExpr
typed s t f = record { span = s; ty = Some t; form = f }

-- An expression where another type is wanted. A coercion has the span of what it coerces.
abbrev pub coerced : Fit → Ty → PExpr → Option PExpr
coerced Misfit t p = None
coerced Same t p = Some p
coerced Widens t p = Some (typed p.span t (pform.ToInt p))
coerced Pads t p = Some (typed p.span t (pform.Pad p))

-- a form of this type, where another is wanted
abbrev pub firm_at : Ty → Option PEForm → FormAt
firm_at u o s t = o >>= λ f. coerced (fit_of u t) t (typed s u f)

abbrev pub firm_any : Option Ty → Option PEForm → FormAt
firm_any None o s t = None
firm_any (Some u) o s t = firm_at u o s t

-- Names and literals

abbrev pub number_at : Bounds → ℕ → FormAt
number_at bounds n s t =
    if in_range bounds n then
    (if nat_lt n 2 then only_if (number_stands n t) (typed s t (pform.Number n)) else firm_at int (Some (pform.Number n)) s t)
    else None

abbrev pub named_at : Meaning → List ℕ → FormAt
named_at (AVariable v) x s t = firm_at v.ty (Some (pform.Var v.slot x)) s t
named_at (AConstant c) x s t = firm_at int (Some (pform.Const c)) s t
named_at (AStruct r) x s t = None
named_at (AFunction f) x s t = None
named_at Nothing x s t = None

abbrev pub null_at : FormAt
null_at s t = only_if (is_reference t) (typed s t pform.Null)

abbrev pub hole_at : Bounds → Option ℕ → FormAt
hole_at bounds n s t = only_if (width_fits bounds n && hole_takes t) (typed s t (pform.Hole n))

-- Lists of parts

-- expressions at one type
abbrev pub all_at : Ty → List At → Option (List PExpr)
all_at u [] = Some []
all_at u (f ∷ fs) = f u >>= λ p. all_at u fs >>= λ ps. Some (p ∷ ps)

-- the type of the elements, where braces with so many stand at this type
abbrev pub element_wanted : Ty → ℕ → Option Ty
element_wanted t n = element_of t >>= λ u. if nat_le 1 n && nat_le n (count_of t) then Some u else None

abbrev pub braces_at : Option Ty → List At → FormAt
braces_at o fs s t = o >>= λ u. all_at u fs >>= λ ps. Some (typed s t (pform.Braces ps))

-- A string of a pattern: its own type, and what it is at each.
pub record Item : Type 0 where
  pub own : Own
  pub at : At

abbrev pub string_at : Ty → Item → Option PExpr
string_at t e = if may_keep e.own t then e.at t else None

abbrev pub with_string : Option PExpr → List PExpr → List PExpr
with_string None ps = ps
with_string (Some p) ps = p ∷ ps

abbrev pub strings_at : Ty → List Item → List PExpr
strings_at t [] = []
strings_at t (e ∷ es) = with_string (string_at t e) (strings_at t es)

-- A pattern keeps at least one string.
abbrev pub pattern_at : List PExpr → FormAt
pattern_at [] s t = None
pattern_at (p ∷ ps) s t = Some (typed s t (pform.Pattern (p ∷ ps)))

-- An argument: the type of the variable that it names, where it names one, and what it is at each type.
pub record Argument : Type 0 where
  pub variable : Option Ty
  pub at : At

-- what is handed to `ref` is a variable of exactly the parameter's type
abbrev pub may_pass : ParamDef → Option Ty → Bool
may_pass d v = not d.by_ref || is_some_type v d.ty

abbrev pub argument_at : ParamDef → Argument → Option PExpr
argument_at d e = if may_pass d e.variable then e.at d.ty else None

abbrev pub arguments_at : List ParamDef → List Argument → Option (List PExpr)
arguments_at [] [] = Some []
arguments_at (d ∷ ds) (e ∷ es) = argument_at d e >>= λ p. arguments_at ds es >>= λ ps. Some (p ∷ ps)
arguments_at [] (e ∷ es) = None
arguments_at (d ∷ ds) [] = None

-- A field of `new`: its name, and what its value is at each type.
pub record Setting : Type 0 where
  pub name : List ℕ
  pub at : At

-- the place and the type of a struct's field
abbrev pub field_found : StructDef → List ℕ → Option Found
field_found d x = field_of d x >>= λ i. slice_get d.fields i >>= λ (y : FieldDef). Some (record { field = i; ty = y.ty })

abbrev pub setting_at : StructDef → Setting → Option PField
setting_at d e = field_found d e.name >>= λ (y : Found). e.at y.ty >>= λ p. Some (record { field = y.field; value = p })

abbrev pub settings_at : StructDef → List Setting → Option (List PField)
settings_at d [] = Some []
settings_at d (e ∷ es) = setting_at d e >>= λ p. settings_at d es >>= λ ps. Some (p ∷ ps)

-- Calls and records

-- the function that a name means, where it may be called
pub record Callee : Type 0 where
  pub id : FunId
  pub signature : Signature

abbrev pub callable : FunId → Option Signature → Option Callee
callable f None = None
callable f (Some g) = if is_harness g.kind then None else Some (record { id = f; signature = g })

abbrev pub callee_meant : Top → Meaning → Option Callee
callee_meant top (AFunction f) = callable f (slice_get top.funs f.index)
callee_meant top (AVariable v) = None
callee_meant top (AStruct r) = None
callee_meant top (AConstant c) = None
callee_meant top Nothing = None

-- a call, which a void function gives no type
abbrev pub called : Option Callee → List Argument → Option Called
called o es = o >>= λ (g : Callee). arguments_at g.signature.params es >>= λ ps. Some (record { result = g.signature.result; form = pform.Call g.id ps })

abbrev pub call_at : Option Called → FormAt
call_at o s t = o >>= λ (c : Called). firm_any c.result (Some c.form) s t

abbrev pub record_form : StructId → StructDef → List Setting → Option PEForm
record_form r d es = if all_distinct (map (λ (e : Setting). e.name) es) then (settings_at d es >>= λ ps. Some (pform.New r ps)) else None

abbrev pub record_in : Top → StructId → List Setting → FormAt
record_in top r es s t = slice_get top.structs r.index >>= λ (d : StructDef). firm_at (reference_to r) (record_form r d es) s t

abbrev pub record_at : Top → Option StructId → List Setting → FormAt
record_at top None es s t = None
record_at top (Some r) es s t = record_in top r es s t

-- Parts of values

abbrev pub member_found : Top → StructId → List ℕ → Option Found
member_found top r x = slice_get top.structs r.index >>= λ (d : StructDef). field_found d x

abbrev pub member_in : Top → StructId → At → List ℕ → FormAt
member_in top r f x s t = member_found top r x >>= λ (y : Found). f (reference_to r) >>= λ p. firm_at y.ty (Some (pform.Member p r y.field)) s t

abbrev pub member_at : Top → Option StructId → At → List ℕ → FormAt
member_at top None f x s t = None
member_at top (Some r) f x s t = member_in top r f x s t

-- an array that is looked into, and what is looked at
abbrev pub viewed : Ty → Option Ty → Option View
viewed u o = o >>= λ t. Some (record { whole = u; part = t })

abbrev pub indexed : Own → Option View
indexed Wrong = None
indexed Loose = None
indexed (Firm u) = viewed u (element_of u)

abbrev pub index_at : Own → At → At → FormAt
index_at x f g s t = indexed x >>= λ (v : View). f v.whole >>= λ p. g int >>= λ q. firm_at v.part (Some (pform.Index p q)) s t

abbrev pub cut : Own → ℕ → Option View
cut Wrong n = None
cut Loose n = None
cut (Firm u) n = viewed u (sliced u n)

abbrev pub slice_at : Own → Option ℕ → At → At → FormAt
slice_at x o f g s t = o >>= λ n. cut x n >>= λ (v : View). f v.whole >>= λ p. g int >>= λ q. firm_at v.part (Some (pform.Slice p q n)) s t

-- Operators: the types at which the operands are wanted, and that of the result

abbrev pub flip_wants : Own → Ty → Option Ty
flip_wants Wrong t = None
flip_wants Loose t = only_if (is_bits t) t
flip_wants (Firm u) t = Some u

abbrev pub unary_wants : UnOp → Own → Ty → Option Ty
unary_wants unary.Not x t = Some bit
unary_wants unary.Neg x t = Some int
unary_wants unary.Flip x t = flip_wants (flipped x) t

abbrev pub unary_at : Option UnOp → Own → At → FormAt
unary_at r x f s t = r >>= λ o. unary_wants o x t >>= λ u. f u >>= λ p. firm_at u (Some (pform.Unary o p)) s t

abbrev pub wants : Ty → Ty → Ty → Wants
wants u v t = record { left = u; right = v; result = t }

abbrev pub operands_want : Class → Own → Ty → Option Wants
operands_want k Wrong t = None
operands_want k Loose t = only_if (loose_takes k t) (wants t t t)
operands_want k (Firm u) t = Some (wants u u (result_of k u))

abbrev pub shift_wants : Own → Option Wants
shift_wants Wrong = None
shift_wants Loose = None
shift_wants (Firm u) = Some (wants u int u)

abbrev pub binary_wants : Class → Own → Own → Ty → Option Wants
binary_wants Logic x y t = Some (wants bit bit bit)
binary_wants Shift x y t = shift_wants (shifted x)
binary_wants Plus x y t = operands_want Plus (operand Plus x y) t
binary_wants Arithmetic x y t = operands_want Arithmetic (operand Arithmetic x y) t
binary_wants Order x y t = operands_want Order (operand Order x y) t
binary_wants Equality x y t = operands_want Equality (operand Equality x y) t
binary_wants Bitwise x y t = operands_want Bitwise (operand Bitwise x y) t

abbrev pub binary_at : Option BinOp → Own → Own → At → At → FormAt
binary_at r x y f g s t = r >>= λ o. binary_wants (class_of o) x y t >>= λ (w : Wants). f w.left >>= λ p. g w.right >>= λ q. firm_at w.result (Some (pform.Binary o p q)) s t

abbrev pub cond_at : At → At → At → FormAt
cond_at f g h s t = f bit >>= λ p. g t >>= λ q. h t >>= λ r. Some (typed s t (pform.Cond p q r))

abbrev pub paren_at : At → FormAt
paren_at f s t = f t >>= λ p. Some (typed s t (pform.Paren p))

-- Expressions

module _ (context : Context) (scope : List Variable) where
  abbrev pub item_of : Expr × At → Item
  item_of e = record { own = own context scope e.0; at = e.1 }

  abbrev pub argument_of : Expr × At → Argument
  argument_of e = record { variable = variable_type scope e.0.form; at = e.1 }

  abbrev pub setting_of : NewField × At → Setting
  setting_of e = record { name = e.0.name; at = e.1 }

  abbrev pub at_of : Expr × At → At
  at_of e = e.1

  abbrev pub eform_at : E.EForm-F (EForm × FormAt) (Expr × At) (NewField × At) → FormAt
  eform_at (E.Number n) s t = number_at context.bounds n s t
  eform_at E.True s t = firm_at bit (Some pform.True) s t
  eform_at E.False s t = firm_at bit (Some pform.False) s t
  eform_at E.Null s t = null_at s t
  eform_at (E.Word x) s t = named_at (meaning_of context.top scope x) x s t
  eform_at (E.Hole n) s t = hole_at context.bounds n s t
  eform_at (E.Pattern pattern es) s t = pattern_at (strings_at t (map item_of es)) s t
  eform_at (E.Paren e) s t = paren_at e.1 s t
  eform_at (E.Call x es) s t = call_at (called (callee_meant context.top (meaning_of context.top scope x)) (map argument_of es)) s t
  eform_at (E.New x es) s t = record_at context.top (struct_meant (meaning_of context.top scope x)) (map setting_of es) s t
  eform_at (E.Braces es) s t = braces_at (element_wanted t (length es)) (map at_of es) s t
  eform_at (E.Member e x) s t = member_at context.top (reference_meant (own context scope e.0)) e.1 x s t
  eform_at (E.Index e i) s t = index_at (own context scope e.0) e.1 i.1 s t
  eform_at (E.Slice e i n) s t = slice_at (own context scope e.0) (constant_number context scope n.0) e.1 i.1 s t
  eform_at (E.Unary m e) s t = unary_at (unary_of m) (own context scope e.0) e.1 s t
  eform_at (E.Binary m a b) s t = binary_at (operator_of m) (own context scope a.0) (own context scope b.0) a.1 b.1 s t
  eform_at (E.Cond c a b) s t = cond_at c.1 a.1 b.1 s t

  -- what a form is, where its expression has a span
  abbrev pub form_at : EForm → FormAt
  form_at = para-EForm FormAt At At eform_at (λ x. x.form.1 x.span) (λ x. x.value.1)

  -- what an expression is at each type
  abbrev pub at : Expr → At
  at = para-Expr FormAt At At eform_at (λ x. x.form.1 x.span) (λ x. x.value.1)

  abbrev pub field_at : NewField → At
  field_at = para-NewField FormAt At At eform_at (λ x. x.form.1 x.span) (λ x. x.value.1)
