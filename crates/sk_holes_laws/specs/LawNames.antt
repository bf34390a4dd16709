-- The laws of own types where an expression is filled.
use Rattle.std.specs.Prelude.{◌≡◌, List, Some}
use Rattle.sk_tree.specs.declared.expr.Expr.{Expr}
use Rattle.sk_prog.specs.declared.ty.Ty.{Ty}
use Rattle.sk_prog.specs.declared.expr.PExpr.{PExpr}
use Rattle.sk_types_rules.specs.declared.rules.Own.{Own}
use Rattle.sk_types_rules.specs.declared.rules.Class.{Class}
use Rattle.sk_types_rules.specs.declared.scope.Variable.{Variable}
use Rattle.sk_types_rules.specs.Rules.{operand, loose_takes, choice}
use Rattle.sk_types_rules.specs.Scope.{Context}
use Rattle.sk_types_rules.specs.Sorts.{own}
use Rattle.sk_types_rules.specs.Types.{Wanted, Means}
use Rattle.sk_types_laws.specs.Envs.{AreDistinct}
use Rattle.sk_holes_laws.specs.Owns.{MayStand, Stays}

-- The own type of what stands at a type fits it.
abbrev pub OwnsFit : Type 0
OwnsFit = (context : Context) (scope : List Variable) → AreDistinct context.top → (t : Ty) (e : Expr) (p : PExpr) → Means context scope p e → p.ty ≡ Some t → MayStand (own context scope e) t

-- What is wanted of two operands at a type is wanted of them where their own types stay, or are that type.
abbrev pub OperandsStay : Type 0
OperandsStay = (k : Class) (x y x' y' : Own) (t : Ty) → Wanted (operand k x y) (loose_takes k t) t → Stays x x' t → Stays y y' t → Wanted (operand k x' y') (loose_takes k t) t × Stays (operand k x y) (operand k x' y') t

-- So does the own type of `c ? a : b`, whose parts stand at the type of the whole.
abbrev pub ChoicesStay : Type 0
ChoicesStay = (x y x' y' : Own) (t : Ty) → MayStand x t → MayStand y t → Stays x x' t → Stays y y' t → Stays (choice x y) (choice x' y') t
