-- What a hole becomes.
use Rattle.std.specs.Prelude.{◌≡◌, ◌<◌, ◌≤◌, ℕ, ◌+◌, List, [], ◌∷◌, Option, Some, true, IsTrue}
use Rattle.sk_base.specs.declared.span.Span.{Span}
use Rattle.sk_base.specs.declared.bounds.Bounds.{Bounds}
use Rattle.sk_tree.specs.declared.expr.Expr.{Expr}
use Rattle.sk_tree.specs.Placed.{place_of, expr_placed}
use Rattle.sk_prog.specs.declared.ty.Ty.{Ty}
use Rattle.sk_prog.specs.declared.ty.Ty.TheVariants as ty
use Rattle.sk_prog.specs.declared.expr.PExpr.{PExpr}
use Rattle.sk_types_rules.specs.declared.rules.Own.TheVariants.{Loose}
use Rattle.sk_types_rules.specs.declared.scope.Variable.{Variable}
use Rattle.sk_types_rules.specs.Rules.{hole_takes, width_fits}
use Rattle.sk_types_rules.specs.Scope.{Context}
use Rattle.sk_types_rules.specs.Sorts.{own}
use Rattle.sk_types_rules.specs.Types.{Means}
use Rattle.sk_model.specs.declared.expanded.Site.{Site}
use Rattle.sk_model.specs.Parts.{value}
use Rattle.sk_model.specs.Sites.{hole_sites}
use Rattle.sk_model.specs.Fill.{hole_part}
use Rattle.sk_holes_laws.specs.Owns.{Stays}

-- the values from a place on are below the sizes of these sites
abbrev pub Below : List ℕ → ℕ → List Site → Type 0
Below values i [] = Unit {0}
Below values i (s ∷ ss) = (value values i < s.size) × Below values (i + 1) ss

-- an integer has two bits or more, and more than a hole that names no width
pub record AreWide (bounds : Bounds) : Type 0 where
  pub two : 2 ≤ bounds.int_bits
  pub holes : bounds.cbits < bounds.int_bits

-- an array has an element
abbrev pub HasElements : Ty → Type 0
HasElements (ty.One a) = Unit {0}
HasElements (ty.Array a n) = 1 ≤ n
HasElements (ty.Grid a n m) = 1 ≤ m

-- A typed expression that means some tree at a type, in the place of a loose one. The tree is of the tightest
-- level, and its operands stand where they may.
pub record IsFilled (context : Context) (scope : List Variable) (p : PExpr) (t : Ty) : Type 0 where
  pub tree : Expr
  pub means : Means context scope p tree
  pub type : p.ty ≡ Some t
  pub own : Stays Loose (own context scope tree) t
  pub level : (place_of tree).level ≡ 1
  pub placed : expr_placed tree ≡ true

-- In the place of a hole that keeps the rules stands what keeps them, where its values are in range.
abbrev pub HolesFill : Type 0
HolesFill =
    (context : Context) (scope : List Variable) (values : List ℕ) (number : ℕ → ℕ) (width : Option ℕ) (t : Ty) (span : Span) (i : ℕ)
    → AreWide context.bounds → IsTrue (width_fits context.bounds width) → IsTrue (hole_takes t) → HasElements t
    → Below values i (hole_sites context.bounds width (Some t) span)
    → IsFilled context scope ((hole_part values number (Some t) span).at i) t
