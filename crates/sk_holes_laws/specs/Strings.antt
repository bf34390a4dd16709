-- What a pattern becomes.
use Rattle.std.specs.Prelude.{◌≡◌, ℕ, List, map, Some, true, slice_get}
use Rattle.sk_base.specs.declared.span.Span.{Span}
use Rattle.sk_tree.specs.declared.expr.Expr.{Expr}
use Rattle.sk_tree.specs.Placed.{place_of, expr_placed, all_placed}
use Rattle.sk_prog.specs.declared.ty.Ty.{Ty}
use Rattle.sk_prog.specs.declared.expr.PExpr.{PExpr}
use Rattle.sk_types_rules.specs.declared.rules.Own.TheVariants.{Loose}
use Rattle.sk_types_rules.specs.declared.scope.Variable.{Variable}
use Rattle.sk_types_rules.specs.Scope.{Context}
use Rattle.sk_types_rules.specs.Sorts.{own, kept}
use Rattle.sk_types_rules.specs.Types.{Means, EachMeans}
use Rattle.sk_model.specs.Fill.{chosen}
use Rattle.sk_holes_laws.specs.Owns.{Stays}
use Rattle.sk_holes_laws.specs.Holes.{IsFilled}

-- what a string of a pattern of this type means: an expression that is loose, or of this type by itself
pub record IsString (context : Context) (scope : List Variable) (t : Ty) (p : PExpr) : Type 0 where
  pub tree : Expr
  pub means : Means context scope p tree
  pub type : p.ty ≡ Some t
  pub own : Stays Loose (own context scope tree) t
  pub placed : expr_placed tree ≡ true

-- Each string that a pattern keeps is one, where its operands stand where they may.
abbrev pub KeptAreStrings : Type 0
KeptAreStrings =
    (context : Context) (scope : List Variable) (t : Ty) (es : List Expr) (ps : List PExpr)
    → EachMeans (λ p. p) (Means context scope) t ps (kept context scope t es) → all_placed (map place_of es) ≡ true
    → (n : ℕ) (p : PExpr) → slice_get ps n ≡ Some p → IsString context scope t p

-- In the place of a pattern the chosen string keeps the rules, in parentheses or as it is.
abbrev pub StringsFill : Type 0
StringsFill =
    (context : Context) (scope : List Variable) (t : Ty) (p : PExpr) (span : Span)
    → IsString context scope t p → IsFilled context scope (chosen (Some t) span p) t
