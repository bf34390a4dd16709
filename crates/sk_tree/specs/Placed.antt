-- Where operands stand: each binds at least as tightly as its place needs, and each `else` belongs to the
-- nearest `if` that could take it.
use Rattle.std.specs.Prelude.{ℕ, ◌-◌, nat_le, Bool, true, false, not, ◌&&◌, List, Option, Some, None}
use Rattle.std.specs.List.{list_all}
use Rattle.sk_tree.specs.declared.token.Mark.{Mark}
use Rattle.sk_tree.specs.declared.token.Mark.TheVariants as mark
use Rattle.sk_tree.specs.declared.expr.Expr.{Expr}
use Rattle.sk_tree.specs.declared.expr.EForm.TheOpen as E
use Rattle.sk_tree.specs.declared.expr.EForm.TheFolds.{fold-Expr}
use Rattle.sk_tree.specs.declared.stmt.Stmt.{Stmt}
use Rattle.sk_tree.specs.declared.stmt.Form.TheOpen as F
use Rattle.sk_tree.specs.declared.stmt.Form.TheFolds.{fold-Stmt}
use Rattle.sk_tree.specs.declared.stmt.Declared.{Declared}
use Rattle.sk_tree.specs.declared.item.TyTree.{TyTree}
use Rattle.sk_tree.specs.declared.item.Field.{Field}
use Rattle.sk_tree.specs.declared.item.Param.{Param}
use Rattle.sk_tree.specs.declared.item.FunItem.{FunItem}
use Rattle.sk_tree.specs.declared.item.Item.{Item}
use Rattle.sk_tree.specs.declared.item.Item.TheVariants as item
use Rattle.sk_tree.specs.declared.item.Tree.{Tree}

-- The level of a binary operator, tightest first; 0 for a mark that is none.
abbrev pub level_of : Mark → ℕ
level_of mark.Star = 3
level_of mark.Slash = 3
level_of mark.Percent = 3
level_of mark.Plus = 4
level_of mark.Minus = 4
level_of mark.ShiftLeft = 5
level_of mark.ShiftRight = 5
level_of mark.Less = 6
level_of mark.AtMost = 6
level_of mark.Greater = 6
level_of mark.AtLeast = 6
level_of mark.Equal = 7
level_of mark.NotEqual = 7
level_of mark.Ampersand = 8
level_of mark.Caret = 9
level_of mark.Bar = 10
level_of mark.AndThen = 11
level_of mark.OrElse = 12
level_of _ = 0

-- the level of an expression, and whether all operands in it stand where they may
pub record Place : Type 0 where
  pub level : ℕ
  pub placed : Bool

-- an operand that may be of at most this level
abbrev pub binds : ℕ → Place → Bool
binds k p = p.placed && nat_le p.level k

abbrev pub all_placed : List Place → Bool
all_placed ps = list_all (λ p. p.placed) ps

abbrev pub are_yes : List Bool → Bool
are_yes bs = list_all (λ b. b) bs

-- What stands by itself is of level 1.
abbrev pub alone : Bool → Place
alone placed = record { level = 1; placed = placed }

-- Binary operators group to the left: the right operand binds more tightly than the operator.
abbrev pub between : ℕ → Place → Place → Place
between k a b = record { level = k; placed = nat_le 3 k && binds k a && binds (k - 1) b }

-- `c ? a : b` is of level 13 and groups to the right.
abbrev pub choosing : Place → Place → Place → Place
choosing c a b = record { level = 13; placed = binds 12 c && a.placed && binds 13 b }

-- What stands behind a base, as `.x` or `[e]`, wants one of level 1. A unary operator wants an operand of
-- level 2. In parentheses, brackets and braces any expression may stand, and so may any as a string.
abbrev pub eform_place : E.EForm-F Place Place Bool → Place
eform_place (E.Number n) = alone true
eform_place E.True = alone true
eform_place E.False = alone true
eform_place E.Null = alone true
eform_place (E.Word x) = alone true
eform_place (E.Hole width) = alone true
eform_place (E.Pattern pattern strings) = alone (all_placed strings)
eform_place (E.Paren e) = alone e.placed
eform_place (E.Call x args) = alone (all_placed args)
eform_place (E.New x fields) = alone (are_yes fields)
eform_place (E.Braces es) = alone (all_placed es)
eform_place (E.Member e x) = alone (binds 1 e)
eform_place (E.Index e i) = alone (binds 1 e && i.placed)
eform_place (E.Slice e i n) = alone (binds 1 e && i.placed && n.placed)
eform_place (E.Unary op e) = record { level = 2; placed = binds 2 e }
eform_place (E.Binary op a b) = between (level_of op) a b
eform_place (E.Cond c a b) = choosing c a b

abbrev pub expr_place : E.Expr-F Place Place Bool → Place
expr_place x = x.form

abbrev pub field_placed : E.NewField-F Place Place Bool → Bool
field_placed x = x.value.placed

abbrev pub place_of : Expr → Place
place_of = fold-Expr Place Place Bool eform_place expr_place field_placed

-- whether all operands in an expression stand where they may
abbrev pub expr_placed : Expr → Bool
expr_placed e = (place_of e).placed

abbrev pub any_placed : Option Expr → Bool
any_placed None = true
any_placed (Some e) = expr_placed e

abbrev pub ty_placed : TyTree → Bool
ty_placed ty = list_all expr_placed ty.lengths

abbrev pub declared_placed : Declared → Bool
declared_placed d = any_placed d.value

-- whether all operands and each `else` in a statement stand where they may, and whether the statement ends in
-- an `if` without `else`, which would take an `else` behind it
pub record Stand : Type 0 where
  pub placed : Bool
  pub takes_else : Bool

-- a statement that ends in no statement
abbrev pub closed : Bool → Stand
closed placed = record { placed = placed; takes_else = false }

-- a statement that ends in its body
abbrev pub behind : Bool → Stand → Stand
behind placed body = record { placed = placed && body.placed; takes_else = body.takes_else }

abbrev pub all_stand : List Stand → Bool
all_stand ss = list_all (λ s. s.placed) ss

-- What stands before an `else` must not take it.
abbrev pub if_stand : Bool → Stand → Option Stand → Stand
if_stand c a None = record { placed = c && a.placed; takes_else = true }
if_stand c a (Some b) = behind (c && a.placed && not a.takes_else) b

abbrev pub form_stand : F.Form-F Stand Stand → Stand
form_stand (F.Block ss) = closed (all_stand ss)
form_stand F.Empty = closed true
form_stand (F.Declare ty names) = closed (ty_placed ty && list_all declared_placed names)
form_stand (F.Assign target value) = closed (expr_placed target && expr_placed value)
form_stand (F.Call e) = closed (expr_placed e)
form_stand (F.Step kind target by) = closed (expr_placed target && any_placed by)
form_stand (F.If c a b) = if_stand (expr_placed c) a b
form_stand (F.While c s) = behind (expr_placed c) s
form_stand (F.For a c n s) = behind (a.placed && expr_placed c && n.placed) s
form_stand (F.Return value) = closed (any_placed value)
form_stand (F.Assert e) = closed (expr_placed e)
form_stand (F.Assume e) = closed (expr_placed e)
form_stand (F.Minimize e) = closed (expr_placed e)
form_stand (F.Repeat c s) = behind (expr_placed c) s
form_stand (F.MinRepeat s) = behind true s
form_stand (F.Reorder ss) = closed (all_stand ss)

abbrev pub stand_of : Stmt → Stand
stand_of = fold-Stmt Stand Stand form_stand (λ s. s.form)

abbrev pub stmt_placed : Stmt → Bool
stmt_placed s = (stand_of s).placed

abbrev pub any_ty_placed : Option TyTree → Bool
any_ty_placed None = true
any_ty_placed (Some ty) = ty_placed ty

abbrev pub param_placed : Param → Bool
param_placed p = ty_placed p.ty

abbrev pub struct_field_placed : Field → Bool
struct_field_placed d = ty_placed d.ty

abbrev pub fun_placed : FunItem → Bool
fun_placed f = any_ty_placed f.result && list_all param_placed f.params && list_all stmt_placed f.body

abbrev pub item_placed : Item → Bool
item_placed (item.Pragma word text) = true
item_placed (item.Struct x fields) = list_all struct_field_placed fields
item_placed (item.Const x value) = expr_placed value
item_placed (item.Fun f) = fun_placed f

-- whether all operands and each `else` of a tree stand where they may
abbrev pub tree_placed : Tree → Bool
tree_placed tree = list_all item_placed tree.items
