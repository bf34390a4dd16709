-- The kinds of the tokens that spell a tree. Of a pattern they are those between `{|` and `|}`, and not its strings.
use Rattle.std.specs.Prelude.{ℕ, Bool, true, false, List, [], ◌∷◌, ◌++◌, map, Option, Some, None}
use Rattle.sk_tree.specs.declared.token.Kind.{Kind}
use Rattle.sk_tree.specs.declared.token.Kind.TheVariants as kind
use Rattle.sk_tree.specs.declared.token.Mark.{Mark}
use Rattle.sk_tree.specs.declared.token.Mark.TheVariants as mark
use Rattle.sk_tree.specs.declared.token.Key.{Key}
use Rattle.sk_tree.specs.declared.token.Key.TheVariants as key
use Rattle.sk_tree.specs.declared.pattern.Pattern.{Pattern}
use Rattle.sk_tree.specs.declared.pattern.Pattern.TheOpen as P
use Rattle.sk_tree.specs.declared.pattern.Pattern.TheFolds.{fold-Pattern}
use Rattle.sk_tree.specs.declared.expr.Expr.{Expr}
use Rattle.sk_tree.specs.declared.expr.EForm.TheOpen as E
use Rattle.sk_tree.specs.declared.expr.EForm.TheFolds.{fold-Expr}
use Rattle.sk_tree.specs.declared.stmt.Stmt.{Stmt}
use Rattle.sk_tree.specs.declared.stmt.Form.TheOpen as F
use Rattle.sk_tree.specs.declared.stmt.Form.TheFolds.{fold-Stmt}
use Rattle.sk_tree.specs.declared.stmt.Declared.{Declared}
use Rattle.sk_tree.specs.declared.stmt.StepKind.{StepKind}
use Rattle.sk_tree.specs.declared.stmt.StepKind.TheVariants as step
use Rattle.sk_tree.specs.declared.item.Base.{Base}
use Rattle.sk_tree.specs.declared.item.Base.TheVariants as base
use Rattle.sk_tree.specs.declared.item.TyTree.{TyTree}
use Rattle.sk_tree.specs.declared.item.Field.{Field}
use Rattle.sk_tree.specs.declared.item.Param.{Param}
use Rattle.sk_tree.specs.declared.item.FunKind.{FunKind}
use Rattle.sk_tree.specs.declared.item.FunKind.TheVariants as funkind
use Rattle.sk_tree.specs.declared.item.FunItem.{FunItem}
use Rattle.sk_tree.specs.declared.item.Item.{Item}
use Rattle.sk_tree.specs.declared.item.Item.TheVariants as item
use Rattle.sk_tree.specs.declared.item.Tree.{Tree}
use Rattle.sk_tree.specs.Spelt.{Role, InBlock, AsBody, AsFirst, AsNext}

abbrev pub Kinds : Type 0
Kinds = List Kind

-- the one, and then the other
infixr 5 ◌▹◌
abbrev pub ◌▹◌ : Kinds → Kinds → Kinds
ks ▹ ls = ks ++ ls

abbrev pub word : List ℕ → Kinds
word x = kind.Word x ∷ []

abbrev pub number : ℕ → Kinds
number n = kind.Number n ∷ []

abbrev pub text : List ℕ → Kinds
text bytes = kind.Text bytes ∷ []

abbrev pub sign : Mark → Kinds
sign m = kind.Mark m ∷ []

abbrev pub keyword : Key → Kinds
keyword k = kind.Key k ∷ []

-- one after another
abbrev pub each : List Kinds → Kinds
each [] = []
each (ks ∷ rest) = ks ▹ each rest

-- the same, with a separator before each
abbrev pub behind : Kinds → List Kinds → Kinds
behind by [] = []
behind by (ks ∷ rest) = by ▹ ks ▹ behind by rest

-- the same, with a separator between two
abbrev pub between : Kinds → List Kinds → Kinds
between by [] = []
between by (ks ∷ rest) = ks ▹ behind by rest

abbrev pub perhaps : {A : Type 0} → (A → Kinds) → Option A → Kinds
perhaps f None = []
perhaps f (Some a) = f a

-- Patterns

abbrev pub spell_part : P.Pattern-F Kinds → Kinds
spell_part (P.Choice ps) = between (sign mark.Bar) ps
spell_part (P.Seq ps) = each ps
spell_part (P.Maybe p) = p ▹ sign mark.Question
spell_part (P.Group p) = sign mark.OpenParen ▹ p ▹ sign mark.CloseParen
spell_part (P.One t) = t.kind ∷ []

abbrev pub spell_pattern : Pattern → Kinds
spell_pattern = fold-Pattern Kinds spell_part

-- Expressions

abbrev pub spell_eform : E.EForm-F Kinds Kinds Kinds → Kinds
spell_eform (E.Number n) = number n
spell_eform E.True = keyword key.True
spell_eform E.False = keyword key.False
spell_eform E.Null = keyword key.Null
spell_eform (E.Word x) = word x
spell_eform (E.Hole None) = sign mark.Hole
spell_eform (E.Hole (Some n)) = sign mark.Hole ▹ sign mark.OpenParen ▹ number n ▹ sign mark.CloseParen
spell_eform (E.Pattern pattern strings) = sign mark.OpenPattern ▹ spell_pattern pattern ▹ sign mark.ClosePattern
spell_eform (E.Paren e) = sign mark.OpenParen ▹ e ▹ sign mark.CloseParen
spell_eform (E.Call x args) = word x ▹ sign mark.OpenParen ▹ between (sign mark.Comma) args ▹ sign mark.CloseParen
spell_eform (E.New x fields) = keyword key.New ▹ word x ▹ sign mark.OpenParen ▹ between (sign mark.Comma) fields ▹ sign mark.CloseParen
spell_eform (E.Braces es) = sign mark.OpenBrace ▹ between (sign mark.Comma) es ▹ sign mark.CloseBrace
spell_eform (E.Member e x) = e ▹ sign mark.Dot ▹ word x
spell_eform (E.Index e i) = e ▹ sign mark.OpenBracket ▹ i ▹ sign mark.CloseBracket
spell_eform (E.Slice e i n) = e ▹ sign mark.OpenBracket ▹ i ▹ sign mark.DoubleColon ▹ n ▹ sign mark.CloseBracket
spell_eform (E.Unary op e) = sign op ▹ e
spell_eform (E.Binary op a b) = a ▹ sign op ▹ b
spell_eform (E.Cond c a b) = c ▹ sign mark.Question ▹ a ▹ sign mark.Colon ▹ b

abbrev pub spell_new_field : E.NewField-F Kinds Kinds Kinds → Kinds
spell_new_field x = word x.name ▹ sign mark.Assign ▹ x.value

abbrev pub spell_expr : Expr → Kinds
spell_expr = fold-Expr Kinds Kinds Kinds spell_eform (λ x. x.form) spell_new_field

-- Types

abbrev pub spell_base : Base → Kinds
spell_base base.Int = keyword key.Int
spell_base base.Bit = keyword key.Bit
spell_base (base.Named x) = word x

abbrev pub spell_length : Expr → Kinds
spell_length e = sign mark.OpenBracket ▹ spell_expr e ▹ sign mark.CloseBracket

abbrev pub spell_ty : TyTree → Kinds
spell_ty ty = spell_base ty.base ▹ each (map spell_length ty.lengths)

-- Statements

-- A statement of a `for`'s own has no `;`.
abbrev pub ending : Role → Kinds
ending InBlock = sign mark.Semicolon
ending AsBody = sign mark.Semicolon
ending AsFirst = []
ending AsNext = []

abbrev pub spell_declared : Declared → Kinds
spell_declared d = word d.name ▹ perhaps (λ value. sign mark.Assign ▹ spell_expr value) d.value

abbrev pub spell_step : StepKind → Kinds → Kinds → Kinds
spell_step step.PostInc target by = target ▹ sign mark.Increment
spell_step step.PostDec target by = target ▹ sign mark.Decrement
spell_step step.PreInc target by = sign mark.Increment ▹ target
spell_step step.PreDec target by = sign mark.Decrement ▹ target
spell_step step.Add target by = target ▹ sign mark.AddAssign ▹ by
spell_step step.Sub target by = target ▹ sign mark.SubAssign ▹ by

abbrev pub spell_parens : Expr → Kinds
spell_parens e = sign mark.OpenParen ▹ spell_expr e ▹ sign mark.CloseParen

-- The kinds of a form, in the role of its statement.
abbrev pub spell_form : F.Form-F (Role → Kinds) (Role → Kinds) → Role → Kinds
spell_form (F.Block ss) role = sign mark.OpenBrace ▹ each (map (λ s. s InBlock) ss) ▹ sign mark.CloseBrace
spell_form F.Empty role = sign mark.Semicolon
spell_form (F.Declare ty names) role = spell_ty ty ▹ between (sign mark.Comma) (map spell_declared names) ▹ ending role
spell_form (F.Assign target value) role = spell_expr target ▹ sign mark.Assign ▹ spell_expr value ▹ ending role
spell_form (F.Call e) role = spell_expr e ▹ sign mark.Semicolon
spell_form (F.Step kind target by) role = spell_step kind (spell_expr target) (perhaps spell_expr by) ▹ ending role
spell_form (F.If c a b) role = keyword key.If ▹ spell_parens c ▹ a AsBody ▹ perhaps (λ other. keyword key.Else ▹ other AsBody) b
spell_form (F.While c a) role = keyword key.While ▹ spell_parens c ▹ a AsBody
spell_form (F.For first c next body) role =
    keyword key.For ▹ sign mark.OpenParen ▹ first AsFirst ▹ sign mark.Semicolon ▹ spell_expr c ▹ sign mark.Semicolon
    ▹ next AsNext ▹ sign mark.CloseParen ▹ body AsBody
spell_form (F.Return value) role = keyword key.Return ▹ perhaps spell_expr value ▹ sign mark.Semicolon
spell_form (F.Assert e) role = keyword key.Assert ▹ spell_expr e ▹ sign mark.Semicolon
spell_form (F.Assume e) role = keyword key.Assume ▹ spell_expr e ▹ sign mark.Semicolon
spell_form (F.Minimize e) role = keyword key.Minimize ▹ spell_parens e ▹ sign mark.Semicolon
spell_form (F.Repeat c a) role = keyword key.Repeat ▹ spell_parens c ▹ a AsBody
spell_form (F.MinRepeat a) role = keyword key.Minrepeat ▹ a AsBody
spell_form (F.Reorder ss) role = keyword key.Reorder ▹ sign mark.OpenBrace ▹ each (map (λ s. s InBlock) ss) ▹ sign mark.CloseBrace

abbrev pub spell_stmt : Stmt → Role → Kinds
spell_stmt = fold-Stmt (Role → Kinds) (Role → Kinds) spell_form (λ s. s.form)

-- Items

abbrev pub spell_field : Field → Kinds
spell_field d = spell_ty d.ty ▹ word d.name ▹ sign mark.Semicolon

abbrev pub spell_ref : Bool → Kinds
spell_ref false = []
spell_ref true = keyword key.Ref

abbrev pub spell_param : Param → Kinds
spell_param p = spell_ref p.by_ref ▹ spell_ty p.ty ▹ word p.name

abbrev pub spell_kind : FunKind → Kinds
spell_kind funkind.Plain = []
spell_kind funkind.Harness = keyword key.Harness
spell_kind funkind.Generator = keyword key.Generator

abbrev pub spell_result : Option TyTree → Kinds
spell_result None = keyword key.Void
spell_result (Some ty) = spell_ty ty

abbrev pub spell_fun : FunItem → Kinds
spell_fun f =
    spell_kind f.kind ▹ spell_result f.result ▹ word f.name
    ▹ sign mark.OpenParen ▹ between (sign mark.Comma) (map spell_param f.params) ▹ sign mark.CloseParen
    ▹ perhaps (λ g. keyword key.Implements ▹ word g) f.implements
    ▹ sign mark.OpenBrace ▹ each (map (λ s. spell_stmt s InBlock) f.body) ▹ sign mark.CloseBrace

abbrev pub spell_item : Item → Kinds
spell_item (item.Pragma x bytes) = keyword key.Pragma ▹ word x ▹ text bytes ▹ sign mark.Semicolon
spell_item (item.Struct x fields) = keyword key.Struct ▹ word x ▹ sign mark.OpenBrace ▹ each (map spell_field fields) ▹ sign mark.CloseBrace
spell_item (item.Const x value) = keyword key.Int ▹ word x ▹ sign mark.Assign ▹ spell_expr value ▹ sign mark.Semicolon
spell_item (item.Fun f) = spell_fun f

-- the kinds of the tokens that spell a tree
abbrev pub spell : Tree → List Kind
spell tree = each (map spell_item tree.items)
