-- What keeps the rules in an expanded program: its expressions and statements, each by itself. An expansion
-- has no text, since its repeats hold several copies. So nothing is said of a tree of it, but for its
-- expressions and for the types that it declares, each of which some tree means. What is asked of a statement
-- is what filling needs: in a place of which it says nothing, as the count of a repeat, anything may stand.
use Rattle.std.specs.Prelude.{◌≡◌, ℕ, Bool, true, false, not, IsTrue, List, [], ◌∷◌, map, length, Option, Some, None}
use Rattle.std.specs.List.{list_all, list_any}
use Rattle.sk_tree.specs.declared.expr.Expr.{Expr}
use Rattle.sk_tree.specs.declared.item.TyTree.{TyTree}
use Rattle.sk_tree.specs.Placed.{expr_placed, ty_placed}
use Rattle.sk_prog.specs.declared.ty.Ty.{Ty}
use Rattle.sk_prog.specs.declared.expr.PExpr.{PExpr}
use Rattle.sk_prog.specs.declared.stmt.PStmt.{PStmt}
use Rattle.sk_prog.specs.declared.stmt.PForm.{PForm}
use Rattle.sk_prog.specs.declared.stmt.PForm.TheOpen as S
use Rattle.sk_prog.specs.declared.stmt.PForm.TheFolds.{fold-PStmt, rec-PStmt}
use Rattle.sk_types_rules.specs.declared.scope.Variable.{Variable}
use Rattle.sk_types_rules.specs.Rules.{int, bit, in_range}
use Rattle.sk_types_rules.specs.Scope.{lookup, is_taken, Context}
use Rattle.sk_types_rules.specs.Sorts.{written_type}
use Rattle.sk_types_rules.specs.Types.{Means, IsTarget, after, is_declaration, is_call}

-- Expressions

-- an expression that some tree means, whose operands stand where they may
pub record Said (context : Context) (scope : List Variable) (p : PExpr) : Type 0 where
  pub tree : Expr
  pub means : Means context scope p tree
  pub placed : IsTrue (expr_placed tree)

-- an expression of this type
pub record SaidAt (context : Context) (scope : List Variable) (t : Ty) (p : PExpr) : Type 0 where
  pub said : Said context scope p
  pub type : p.ty ≡ Some t

-- a target of this type
pub record SaidTarget (context : Context) (scope : List Variable) (t : Ty) (p : PExpr) : Type 0 where
  pub tree : Expr
  pub target : IsTarget context scope t p tree
  pub placed : IsTrue (expr_placed tree)

-- a type that can be written here
pub record Written (context : Context) (scope : List Variable) (t : Ty) : Type 0 where
  pub tree : TyTree
  pub means : written_type context scope tree ≡ Some t
  pub placed : IsTrue (ty_placed tree)

abbrev pub AnySaidAt : Context → List Variable → Ty → Option PExpr → Type 0
AnySaidAt context scope t None = Unit {0}
AnySaidAt context scope t (Some p) = SaidAt context scope t p

-- Statements

abbrev pub form_block : S.PForm-F Bool Bool → Bool
form_block (S.Block ss) = true
form_block _ = false

abbrev pub is_block : PStmt → Bool
is_block = fold-PStmt Bool Bool form_block (λ s. s.form)

abbrev pub any_block : Option PStmt → Bool
any_block None = true
any_block (Some s) = is_block s

abbrev pub any_of : {Y : Type 0} → (Y → PStmt) → Option Y → Option PStmt
any_of v None = None
any_of v (Some p) = Some (v p)

-- What a statement keeps, from the slot at which the variables of its block begin and the variables in scope
-- before it.
abbrev pub Keeping : Type 1
Keeping = ℕ → List Variable → Type 0

-- statements that follow each other in one block
abbrev pub InBlock : {Y : Type 0} → (Y → PStmt) → (Y → Keeping) → ℕ → List Variable → List Y → Type 0
InBlock v k from scope [] = Unit {0}
InBlock v k from scope (p ∷ ps) = k p from scope × InBlock v k from (after (v p) scope) ps

-- statements that stand in the same scope, in a block round them
abbrev pub EachKeeps : {Y : Type 0} → (Y → Keeping) → List Variable → List Y → Type 0
EachKeeps k scope [] = Unit {0}
EachKeeps k scope (p ∷ ps) = k p (length scope) scope × EachKeeps k scope ps

abbrev pub AnyKeeps : {Y : Type 0} → (Y → Keeping) → ℕ → List Variable → Option Y → Type 0
AnyKeeps k from scope None = Unit {0}
AnyKeeps k from scope (Some p) = k p from scope

-- A declaration takes the next slot, and its block does not declare the name a second time.
pub record DeclareKeeps (context : Context) (from : ℕ) (scope : List Variable) (slot : ℕ) (x : List ℕ) (t : Ty) (p : Option PExpr) : Type 0 where
  pub type : Written context scope t
  pub next : slot ≡ length scope
  pub once : is_taken from (lookup scope x) ≡ false
  pub value : AnySaidAt context scope t p

-- The value of an assignment is of its target's type.
pub record AssignKeeps (context : Context) (scope : List Variable) (p q : PExpr) : Type 0 where
  pub type : Ty
  pub target : SaidTarget context scope type p
  pub value : SaidAt context scope type q

-- A void function returns nothing, and each other one a value of its result's type.
abbrev pub ReturnKeeps : Context → List Variable → Option Ty → Option PExpr → Type 0
ReturnKeeps context scope None None = Unit {0}
ReturnKeeps context scope (Some t) (Some p) = SaidAt context scope t p
ReturnKeeps context scope None (Some p) = ⊥
ReturnKeeps context scope (Some t) None = ⊥

module _ (context : Context) (result : Option Ty) where
  -- Bodies are blocks, and so is each copy that a repeat holds. A minrepeat holds as many copies as a number may
  -- say. Of what a reorder holds nothing is a declaration.
  abbrev pub form_keeps : (X Y : Type 0) → (X → PForm) → (Y → PStmt) → (X → Keeping) → (Y → Keeping) → S.PForm-F X Y → Keeping
  form_keeps X Y u v f k (S.Block ps) from scope = InBlock v k (length scope) scope ps
  form_keeps X Y u v f k (S.Declare slot x t value) from scope = DeclareKeeps context from scope slot x t value
  form_keeps X Y u v f k (S.Assign p q) from scope = AssignKeeps context scope p q
  form_keeps X Y u v f k (S.Call p) from scope = IsTrue (is_call p) × Said context scope p
  form_keeps X Y u v f k (S.If p a b) from scope = SaidAt context scope bit p × IsTrue (is_block (v a)) × k a from scope × IsTrue (any_block (any_of v b)) × AnyKeeps k from scope b
  form_keeps X Y u v f k (S.While p a) from scope = SaidAt context scope bit p × IsTrue (is_block (v a)) × k a from scope
  form_keeps X Y u v f k (S.Return p) from scope = ReturnKeeps context scope result p
  form_keeps X Y u v f k (S.Assert p) from scope = SaidAt context scope bit p
  form_keeps X Y u v f k (S.Assume p) from scope = SaidAt context scope bit p
  form_keeps X Y u v f k (S.Minimize p) from scope = SaidAt context scope int p
  form_keeps X Y u v f k (S.Repeat p copies) from scope = IsTrue (list_all is_block (map v copies)) × EachKeeps k scope copies
  form_keeps X Y u v f k (S.MinRepeat copies) from scope = IsTrue (in_range context.bounds (length copies)) × IsTrue (list_all is_block (map v copies)) × EachKeeps k scope copies
  form_keeps X Y u v f k (S.Reorder ps) from scope = IsTrue (not (list_any is_declaration (map v ps))) × EachKeeps k scope ps

  abbrev pub stmt_keeps : (X Y : Type 0) → (X → PForm) → (Y → PStmt) → (X → Keeping) → (Y → Keeping) → S.PStmt-F X Y → Keeping
  stmt_keeps X Y u v f k p from scope = f p.form from scope

  -- the statement keeps the rules of an expansion
  abbrev pub StmtKeeps : PStmt → Keeping
  StmtKeeps = rec-PStmt Keeping Keeping form_keeps stmt_keeps

  -- so do the statements of a block
  abbrev pub AllKeep : ℕ → List Variable → List PStmt → Type 0
  AllKeep from scope ps = InBlock (λ p. p) StmtKeeps from scope ps
