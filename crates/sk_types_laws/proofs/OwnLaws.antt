-- The own types that sorts have.
use Rattle.std.proofs.Common.{◌≡◌, Bool, true, false, List, Option, Some, None, refl}
use Rattle.std.specs.Prelude.{slice_get, if◌then◌else◌}
use Rattle.sk_tree.specs.declared.expr.Expr.{Expr}
use Rattle.sk_prog.specs.declared.ty.Ty.{Ty}
use Rattle.sk_prog.specs.declared.ids.FunId.{FunId}
use Rattle.sk_prog.specs.declared.expr.BinOp.{BinOp}
use Rattle.sk_prog.specs.declared.expr.BinOp.TheVariants as op
use Rattle.sk_prog.specs.declared.expr.UnOp.{UnOp}
use Rattle.sk_prog.specs.declared.expr.UnOp.TheVariants as unary
use Rattle.sk_types_rules.specs.declared.rules.Own.{Own}
use Rattle.sk_types_rules.specs.declared.rules.Own.TheVariants.{Wrong, Loose, Firm}
use Rattle.sk_types_rules.specs.declared.scope.Variable.{Variable}
use Rattle.sk_types_rules.specs.Rules.{operation_own, unary_own, shifted, firm_if, is_bit_array}
use Rattle.sk_types_rules.specs.Scope.{Signature, Top, Meaning, AVariable, AStruct, AConstant, AFunction, Nothing}
use Rattle.sk_types_rules.specs.Sorts.{Sort, firm_of, binary_sort, unary_sort, shift_by, is_harness, call_sort, signature_meant, wrong, arguments_fit}
use Rattle.sk_types_laws.specs.Elaborate.{callable, callee_meant}
use Rattle.sk_types_laws.specs.Owns.{own_type, callee_result}

pub firm_own : (o : Option Ty) (good : Bool) → (firm_of o good).own ≡ own_type o
firm_own None good = refl
firm_own (Some t) good = refl

shift_own : (o : Own) (b : Bool) (t : Ty) (x y : Sort) → (shift_by (firm_if b t) x y).own ≡ firm_if b t
shift_own o true t x y = refl
shift_own o false t x y = refl

shifted_own : (a : Own) (x y : Sort) → (shift_by (shifted a) x y).own ≡ shifted a
shifted_own Wrong x y = refl
shifted_own Loose x y = refl
shifted_own (Firm t) x y = shift_own Wrong (is_bit_array t) t x y

pub binary_own : (o : BinOp) (a b : Sort) → (binary_sort o a b).own ≡ operation_own o a.own b.own
binary_own op.Shl a b = shifted_own a.own a b
binary_own op.Shr a b = shifted_own a.own a b
binary_own op.AndThen a b = refl
binary_own op.OrElse a b = refl
binary_own op.Mul a b = refl
binary_own op.Div a b = refl
binary_own op.Rem a b = refl
binary_own op.Add a b = refl
binary_own op.Sub a b = refl
binary_own op.Lt a b = refl
binary_own op.Le a b = refl
binary_own op.Gt a b = refl
binary_own op.Ge a b = refl
binary_own op.Eq a b = refl
binary_own op.Ne a b = refl
binary_own op.And a b = refl
binary_own op.Xor a b = refl
binary_own op.Or a b = refl

pub unary_own_is : (o : UnOp) (a : Sort) → (unary_sort o a).own ≡ unary_own o a.own
unary_own_is unary.Not a = refl
unary_own_is unary.Neg a = refl
unary_own_is unary.Flip a = refl

called : (scope : List Variable) (f : FunId) (g : Signature) (es : List (Expr × Sort)) (b : Bool) → (if b then wrong else firm_of g.result (arguments_fit scope g.params es)).own ≡ own_type (callee_result (if b then None else Some (record { id = f; signature = g })))
called scope f g es true = refl
called scope f g es false = firm_own g.result (arguments_fit scope g.params es)

any_called : (scope : List Variable) (f : FunId) (o : Option Signature) (es : List (Expr × Sort)) → (call_sort scope o es).own ≡ own_type (callee_result (callable f o))
any_called scope f None es = refl
any_called scope f (Some g) es = called scope f g es (is_harness g.kind)

pub call_own : (top : Top) (scope : List Variable) (m : Meaning) (es : List (Expr × Sort)) → (call_sort scope (signature_meant top m) es).own ≡ own_type (callee_result (callee_meant top m))
call_own top scope (AFunction f) es = any_called scope f (slice_get top.funs f.index) es
call_own top scope (AVariable v) es = refl
call_own top scope (AStruct r) es = refl
call_own top scope (AConstant c) es = refl
call_own top scope Nothing es = refl

pub ruleset owns = (firm_own, binary_own, unary_own_is, call_own)
