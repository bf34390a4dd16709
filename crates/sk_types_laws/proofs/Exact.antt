-- The code of expressions answers what they mean: exactly that, and nothing exactly where they mean nothing.
use Rattle.std.proofs.Common.{◌≡◌, List, Some, None, sym, ap, ◌∙◌}
use Rattle.sk_tree.specs.declared.expr.Expr.{Expr}
use Rattle.sk_prog.specs.declared.ty.Ty.{Ty}
use Rattle.sk_prog.specs.declared.expr.PExpr.{PExpr}
use Rattle.sk_types_rules.specs.declared.scope.Variable.{Variable}
use Rattle.sk_types_rules.specs.Scope.{Context}
use Rattle.sk_types_rules.specs.Types.{IsAt}
use Rattle.sk_types_laws.specs.Envs.{AreDistinct}
use Rattle.sk_types_laws.specs.Elaborate.{At}
use Rattle.sk_types_laws.specs.Parts.{part}
use Rattle.sk_types_laws.specs.LawNames.{Exact}
use Rattle.sk_types_laws.proofs.Ats.{some_same}
use Rattle.sk_types_laws.proofs.Joined.{part_at}
use Rattle.sk_types_laws.proofs.Complete.{complete}
use Rattle.sk_types_laws.proofs.Sound.{sound}

pub found : (context : Context) (scope : List Variable) (t : Ty) (e : Expr) (p : PExpr) → (part context scope e).at t ≡ Some p → IsAt context scope t p e
found context scope t e p h = sound context scope e t p (sym (ap (λ (f : At). f t) (part_at context scope e)) ∙ h)

pub is_at : (context : Context) (scope : List Variable) → AreDistinct context.top → (t : Ty) (e : Expr) (p : PExpr) → IsAt context scope t p e → (part context scope e).at t ≡ Some p
is_at context scope good t e p m = ap (λ (f : At). f t) (part_at context scope e) ∙ complete context scope good p e t m.means m.type

pub once : (context : Context) (scope : List Variable) → AreDistinct context.top → (t : Ty) (e : Expr) (p q : PExpr) → (part context scope e).at t ≡ Some p → IsAt context scope t q e → p ≡ q
once context scope good t e p q h m = some_same p q (sym h ∙ is_at context scope good t e q m)

pub none : (context : Context) (scope : List Variable) → AreDistinct context.top → (t : Ty) (e : Expr) (q : PExpr) → (part context scope e).at t ≡ None → IsAt context scope t q e → ⊥
none context scope good t e q h m = let n = sym h ∙ is_at context scope good t e q m in cc

pub exact : Exact
exact context scope good t e p = (found context scope t e p, is_at context scope good t e p)
