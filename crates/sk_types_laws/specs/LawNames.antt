-- The laws of typing.
use Rattle.std.specs.Prelude.{◌≡◌, List, Some}
use Rattle.sk_base.specs.declared.bounds.Bounds.{Bounds}
use Rattle.sk_tree.specs.declared.expr.Expr.{Expr}
use Rattle.sk_tree.specs.declared.item.Tree.{Tree}
use Rattle.sk_prog.specs.declared.ty.Ty.{Ty}
use Rattle.sk_prog.specs.declared.expr.PExpr.{PExpr}
use Rattle.sk_prog.specs.declared.prog.Prog.{Prog}
use Rattle.sk_types_rules.specs.declared.scope.Variable.{Variable}
use Rattle.sk_types_rules.specs.Scope.{Context}
use Rattle.sk_types_rules.specs.Types.{IsAt, Types}
use Rattle.sk_types_laws.specs.Envs.{AreDistinct}
use Rattle.sk_types_laws.specs.Parts.{part}
use Rattle.sk_types_laws.specs.Whole.{prog_of}

-- What an expression becomes where a type is wanted is what it means there, and what it means there it becomes.
abbrev pub Exact : Type 0
Exact = (context : Context) (scope : List Variable) → AreDistinct context.top → (t : Ty) (e : Expr) (p : PExpr) → ((part context scope e).at t ≡ Some p → IsAt context scope t p e) × (IsAt context scope t p e → (part context scope e).at t ≡ Some p)

-- What a tree becomes is what it means, and what it means it becomes.
abbrev pub Whole : Type 0
Whole = (bounds : Bounds) (tree : Tree) (prog : Prog) → (prog_of bounds tree ≡ Some prog → Types tree bounds prog) × (Types tree bounds prog → prog_of bounds tree ≡ Some prog)

-- A tree means one program at most, spans included.
abbrev pub Once : Type 0
Once = (bounds : Bounds) (tree : Tree) (p q : Prog) → Types tree bounds p → Types tree bounds q → p ≡ q
