-- What an expression is refused for.
use Rattle.std.proofs.Common.{List}
use Rattle.sk_tree.specs.declared.expr.Expr.{Expr}
use Rattle.sk_prog.specs.declared.ty.Ty.{Ty}
use Rattle.sk_prog.specs.declared.expr.PExpr.{PExpr}
use Rattle.sk_types_rules.specs.declared.scope.Variable.{Variable}
use Rattle.sk_types_rules.specs.Scope.{Context}
use Rattle.sk_types_rules.specs.Types.{IsAt}
use Rattle.sk_types_laws.specs.declared.fault.Typing.{Typing}
use Rattle.sk_types_laws.specs.declared.fault.Typing.TheVariants.{Fault, Memory}
use Rattle.sk_types_laws.specs.Envs.{AreDistinct}
use Rattle.sk_types_laws.specs.Parts.{part}
use Rattle.sk_types_laws.proofs.Exact.{none}
use Rattle.sk_types_names.specs.Gives.{Fails, IsMemory}

-- what is refused means nothing there
pub refuses : (context : Context) (scope : List Variable) → AreDistinct context.top → (t : Ty) (e : Expr) (why : Typing) → Fails why ((part context scope e).at t) → (p : PExpr) → IsAt context scope t p e → IsMemory why
refuses context scope good t e Memory h p m = tt
refuses context scope good t e (Fault f) h p m = none context scope good t e p h m
