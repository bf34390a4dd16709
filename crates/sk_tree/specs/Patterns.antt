-- The patterns of a tree, in order of the text. Strings hold none.
use Rattle.std.specs.Prelude.{List, [], ◌∷◌, ◌++◌, flat_map, Option, Some, None}
use Rattle.sk_tree.specs.declared.pattern.Pattern.{Pattern}
use Rattle.sk_tree.specs.declared.expr.Expr.{Expr}
use Rattle.sk_tree.specs.declared.expr.EForm.TheOpen as E
use Rattle.sk_tree.specs.declared.expr.EForm.TheFolds.{fold-Expr}
use Rattle.sk_tree.specs.declared.stmt.Stmt.{Stmt}
use Rattle.sk_tree.specs.declared.stmt.Form.TheOpen as F
use Rattle.sk_tree.specs.declared.stmt.Form.TheFolds.{fold-Stmt}
use Rattle.sk_tree.specs.declared.stmt.Declared.{Declared}
use Rattle.sk_tree.specs.declared.item.TyTree.{TyTree}
use Rattle.sk_tree.specs.declared.item.Field.{Field}
use Rattle.sk_tree.specs.declared.item.Param.{Param}
use Rattle.sk_tree.specs.declared.item.FunItem.{FunItem}
use Rattle.sk_tree.specs.declared.item.Item.{Item}
use Rattle.sk_tree.specs.declared.item.Item.TheVariants as item
use Rattle.sk_tree.specs.declared.item.Tree.{Tree}

abbrev pub Patterns : Type 0
Patterns = List Pattern

abbrev pub join : List Patterns → Patterns
join ps = flat_map (λ p. p) ps

abbrev pub any_patterns : {A : Type 0} → (A → Patterns) → Option A → Patterns
any_patterns f None = []
any_patterns f (Some a) = f a

abbrev pub eform_patterns : E.EForm-F Patterns Patterns Patterns → Patterns
eform_patterns (E.Number n) = []
eform_patterns E.True = []
eform_patterns E.False = []
eform_patterns E.Null = []
eform_patterns (E.Word x) = []
eform_patterns (E.Hole width) = []
eform_patterns (E.Pattern pattern strings) = pattern ∷ []
eform_patterns (E.Paren e) = e
eform_patterns (E.Call x args) = join args
eform_patterns (E.New x fields) = join fields
eform_patterns (E.Braces es) = join es
eform_patterns (E.Member e x) = e
eform_patterns (E.Index e i) = e ++ i
eform_patterns (E.Slice e i n) = e ++ i ++ n
eform_patterns (E.Unary op e) = e
eform_patterns (E.Binary op a b) = a ++ b
eform_patterns (E.Cond c a b) = c ++ a ++ b

abbrev pub expr_patterns : Expr → Patterns
expr_patterns = fold-Expr Patterns Patterns Patterns eform_patterns (λ x. x.form) (λ x. x.value)

abbrev pub ty_patterns : TyTree → Patterns
ty_patterns ty = flat_map expr_patterns ty.lengths

abbrev pub declared_patterns : Declared → Patterns
declared_patterns d = any_patterns expr_patterns d.value

abbrev pub form_patterns : F.Form-F Patterns Patterns → Patterns
form_patterns (F.Block ss) = join ss
form_patterns F.Empty = []
form_patterns (F.Declare ty names) = ty_patterns ty ++ flat_map declared_patterns names
form_patterns (F.Assign target value) = expr_patterns target ++ expr_patterns value
form_patterns (F.Call e) = expr_patterns e
form_patterns (F.Step kind target by) = expr_patterns target ++ any_patterns expr_patterns by
form_patterns (F.If c a b) = expr_patterns c ++ a ++ any_patterns (λ p. p) b
form_patterns (F.While c s) = expr_patterns c ++ s
form_patterns (F.For a c n s) = a ++ expr_patterns c ++ n ++ s
form_patterns (F.Return value) = any_patterns expr_patterns value
form_patterns (F.Assert e) = expr_patterns e
form_patterns (F.Assume e) = expr_patterns e
form_patterns (F.Minimize e) = expr_patterns e
form_patterns (F.Repeat c s) = expr_patterns c ++ s
form_patterns (F.MinRepeat s) = s
form_patterns (F.Reorder ss) = join ss

abbrev pub stmt_patterns : Stmt → Patterns
stmt_patterns = fold-Stmt Patterns Patterns form_patterns (λ s. s.form)

abbrev pub field_patterns : Field → Patterns
field_patterns d = ty_patterns d.ty

abbrev pub param_patterns : Param → Patterns
param_patterns p = ty_patterns p.ty

abbrev pub fun_patterns : FunItem → Patterns
fun_patterns f = any_patterns ty_patterns f.result ++ flat_map param_patterns f.params ++ flat_map stmt_patterns f.body

abbrev pub item_patterns : Item → Patterns
item_patterns (item.Pragma word text) = []
item_patterns (item.Struct x fields) = flat_map field_patterns fields
item_patterns (item.Const x value) = expr_patterns value
item_patterns (item.Fun f) = fun_patterns f

-- the patterns of a tree
abbrev pub patterns_of : Tree → Patterns
patterns_of tree = flat_map item_patterns tree.items
