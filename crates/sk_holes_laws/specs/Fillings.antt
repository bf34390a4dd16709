-- That the parts of a filling keep the rules, from what the parts of an expansion keep.
use Rattle.std.specs.Prelude.{◌≡◌, ℕ, Bool, false, IsTrue, List, Some, slice_get, slice_index_or}
use Rattle.sk_base.specs.declared.bounds.Bounds.{Bounds}
use Rattle.sk_prog.specs.declared.ty.Ty.{Ty}
use Rattle.sk_prog.specs.declared.expr.PExpr.{PExpr}
use Rattle.sk_prog.specs.declared.prog.StructDef.{StructDef}
use Rattle.sk_types_rules.specs.declared.scope.Variable.{Variable}
use Rattle.sk_types_rules.specs.Scope.{Signature, Known}
use Rattle.sk_model.specs.Parts.{rank}
use Rattle.sk_model.specs.Sites.{expr_sites}
use Rattle.sk_model.specs.Stands.{expr_standing}
use Rattle.sk_model.specs.Fill.{fill_expr}
use Rattle.sk_holes_laws.specs.Keeping.{SaidAt, SaidTarget}
use Rattle.sk_holes_laws.specs.Sizes.{Sized, SizedScope}
use Rattle.sk_holes_laws.specs.Filling.{context_with, Setting, Ready}

-- the names of an expansion and of a filling of it, for each function whether it stands, and the values of a choice
pub record Filling : Type 0 where
  pub bounds : Bounds
  pub structs : List StructDef
  pub consts : List (List ℕ)
  pub funs : List Signature
  pub again : List Signature
  pub known : List Known
  pub all : List Known
  pub stands : List Bool
  pub values : List ℕ

-- The function with this number stands, where there is one.
abbrev pub StandsIn : Filling → ℕ → Type 0
StandsIn f n = (s : Signature) → slice_get f.funs n ≡ Some s → IsTrue (slice_index_or f.stands n false)

abbrev pub IsSet : Filling → Type 0
IsSet f = Setting f.bounds f.structs f.consts f.funs f.again f.known f.all (StandsIn f) (rank f.stands)

abbrev pub ExprReady : Filling → PExpr → ℕ → Type 0
ExprReady f p i = Ready f.values (StandsIn f) (expr_sites f.bounds p) (expr_standing f.values p) i

-- A filled expression is at the type that it was at.
abbrev pub ExprsFill : Type 0
ExprsFill =
    (f : Filling) → IsSet f → (scope : List Variable) → SizedScope scope → (t : Ty) → Sized t → (p : PExpr) (i : ℕ) → ExprReady f p i
    → SaidAt (context_with f.bounds f.structs f.consts f.funs f.known) scope t p
    → SaidAt (context_with f.bounds f.structs f.consts f.again f.all) scope t (fill_expr f.values (rank f.stands) p i)

-- A filled target is one of the same type.
abbrev pub TargetsFill : Type 0
TargetsFill =
    (f : Filling) → IsSet f → (scope : List Variable) → SizedScope scope → (t : Ty) → Sized t → (p : PExpr) (i : ℕ) → ExprReady f p i
    → SaidTarget (context_with f.bounds f.structs f.consts f.funs f.known) scope t p
    → SaidTarget (context_with f.bounds f.structs f.consts f.again f.all) scope t (fill_expr f.values (rank f.stands) p i)
