-- Of what means an expression at a type, the expression's own type fits that type.
use Rattle.std.proofs.Common.{◌≡◌, List, Some, ap, ◌∙◌}
use Rattle.sk_tree.specs.declared.expr.Expr.{Expr}
use Rattle.sk_prog.specs.declared.ty.Ty.{Ty}
use Rattle.sk_prog.specs.declared.expr.PExpr.{PExpr}
use Rattle.sk_types_rules.specs.declared.scope.Variable.{Variable}
use Rattle.sk_types_rules.specs.Scope.{Context}
use Rattle.sk_types_rules.specs.Sorts.{own}
use Rattle.sk_types_rules.specs.Types.{Means}
use Rattle.sk_types_laws.specs.Envs.{AreDistinct}
use Rattle.sk_types_laws.proofs.Complete.{complete}
use Rattle.sk_types_laws.proofs.Stands.{is_some, stands}
use Rattle.sk_holes_laws.specs.Owns.{MayStand}
use Rattle.sk_holes_laws.proofs.Standing.{may_stand}

pub own_fits : (context : Context) (scope : List Variable) → AreDistinct context.top → (t : Ty) (e : Expr) (p : PExpr) → Means context scope p e → p.ty ≡ Some t → MayStand (own context scope e) t
own_fits context scope distinct t e p means type = may_stand context scope e t (stands context scope e t ∙ ap is_some (complete context scope distinct p e t means type))
