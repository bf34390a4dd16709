-- Tokens that spell a tree have the kinds that it spells.
use Rattle.std.proofs.Common.{◌≡◌, List, [], ◌∷◌, map, sym, ap, Option, Some, None, false, true}
use Rattle.sk_tree.specs.declared.token.Token.{Token}
use Rattle.sk_tree.specs.declared.token.Kind.TheVariants as kind
use Rattle.sk_tree.specs.declared.token.Mark.TheVariants as mark
use Rattle.sk_tree.specs.declared.token.Key.TheVariants as key
use Rattle.sk_tree.specs.declared.pattern.Pattern.{Pattern}
use Rattle.sk_tree.specs.declared.pattern.Pattern.TheOpen as P
use Rattle.sk_tree.specs.declared.pattern.Pattern.TheFolds.{map-Pattern, fold-roll-Pattern}
use Rattle.sk_tree.specs.declared.expr.Expr.{Expr}
use Rattle.sk_tree.specs.declared.expr.EForm.{EForm}
use Rattle.sk_tree.specs.declared.expr.NewField.{NewField}
use Rattle.sk_tree.specs.declared.expr.EForm.TheOpen as E
use Rattle.sk_tree.specs.declared.expr.EForm.TheViews.{roll-EForm}
use Rattle.sk_tree.specs.declared.expr.EForm.TheFolds.{map-EForm, fold-EForm, fold-NewField, fold-roll-EForm, fold-roll-Expr, fold-roll-NewField}
use Rattle.sk_tree.specs.declared.stmt.Stmt.{Stmt}
use Rattle.sk_tree.specs.declared.stmt.Form.{Form}
use Rattle.sk_tree.specs.declared.stmt.Form.TheOpen as F
use Rattle.sk_tree.specs.declared.stmt.Form.TheViews.{roll-Form}
use Rattle.sk_tree.specs.declared.stmt.Form.TheFolds.{map-Form, fold-Form, fold-roll-Form, fold-roll-Stmt}
use Rattle.sk_tree.specs.declared.stmt.Declared.{Declared}
use Rattle.sk_tree.specs.declared.stmt.StepKind.{StepKind}
use Rattle.sk_tree.specs.declared.stmt.StepKind.TheVariants as step
use Rattle.sk_tree.specs.declared.item.Base.{Base}
use Rattle.sk_tree.specs.declared.item.Base.TheVariants as base
use Rattle.sk_tree.specs.declared.item.TyTree.{TyTree}
use Rattle.sk_tree.specs.declared.item.Field.{Field}
use Rattle.sk_tree.specs.declared.item.Param.{Param}
use Rattle.sk_tree.specs.declared.item.FunKind.{FunKind}
use Rattle.sk_tree.specs.declared.item.FunKind.TheVariants as funkind
use Rattle.sk_tree.specs.declared.item.FunItem.{FunItem}
use Rattle.sk_tree.specs.declared.item.Item.{Item}
use Rattle.sk_tree.specs.declared.item.Item.TheVariants as item
use Rattle.sk_tree.specs.declared.item.Tree.{Tree}
use Rattle.sk_tree.specs.Phrase.{Phrase, One, Sign, Keyword, ◌▸◌, Each}
use Rattle.sk_tree.specs.Spelt.{PatternRole, AsChoice, AsSequence, AsPart, AsPlain, SpeltPart, SpeltPattern, SpeltExpr, SpeltTarget, SpeltBase, SpeltLength, SpeltTy, Role, InBlock, AsBody, AsFirst, AsNext, Ending, SpeltDeclared, SpeltStep, SpeltParens, SpeltStmt, SpeltField, SpeltRef, SpeltParam, SpeltKind, SpeltResult, SpeltFun, SpeltItem, SpeltTree}
use Rattle.sk_tree.specs.Spell.{Kinds, ◌▹◌, each, word, sign, keyword, perhaps, spell_part, spell_pattern, spell_eform, spell_new_field, spell_expr, spell_base, spell_length, spell_ty, ending, spell_declared, spell_step, spell_parens, spell_form, spell_stmt, spell_field, spell_ref, spell_param, spell_kind, spell_result, spell_fun, spell_item, spell}
use Rattle.sk_tree.proofs.Says.{kinds, Says, says_same, says_nothing, says_one, says_never, says_then, says_given, says_spans, says_each, says_between, all_each, all_between, all_perhaps}
use Rattle.sk_tree.proofs.Layers.{PatternLayer, pattern_parts, pattern_law, PartLayer, part_spelt, ExprLayer, expr_parts, expr_law, FormBy, FieldBy, LayerBy, form_by, expr_by, field_by, StmtLayer, stmt_parts, stmt_law, SpeltForm, FormLayer, form_is, stmt_is}

says_sign : (m : _) → Says (Sign m) (sign m)
says_sign m = says_one (kind.Mark m)

says_key : (k : _) → Says (Keyword k) (keyword k)
says_key k = says_one (kind.Key k)

says_word : (x : _) → Says (One (kind.Word x)) (word x)
says_word x = says_one (kind.Word x)

-- Patterns

abbrev PartSays : Pattern → Type 0
PartSays p = (role : PatternRole) → Says (SpeltPart p role) (spell_pattern p)

pattern_layer : (y : PatternLayer PartSays) (role : PatternRole) → Says (PartLayer (pattern_parts PartSays y) role) (spell_part (map-Pattern Pattern Kinds spell_pattern (pattern_parts PartSays y)))
pattern_layer (P.Choice ps) AsChoice = says_given (says_between (λ (q : (p : Pattern) × PartSays p). q.0) (λ p. SpeltPart p AsSequence) spell_pattern (λ q. q.1 AsSequence) (says_sign mark.Bar) ps)
pattern_layer (P.Seq ps) AsSequence = says_given (says_each (λ (q : (p : Pattern) × PartSays p). q.0) (λ p. SpeltPart p AsPart) spell_pattern (λ q. q.1 AsPart) ps)
pattern_layer (P.Maybe p) AsPart = says_then (p.1 AsPlain) (says_sign mark.Question)
pattern_layer (P.Group p) role = says_given (says_then (says_sign mark.OpenParen) (says_then (p.1 AsChoice) (says_sign mark.CloseParen)))
pattern_layer (P.One t) role = record { says = λ ts h. ap kinds h.1 }
pattern_layer _ _ = says_never _

pub part_says : (p : Pattern) (role : PatternRole) → Says (SpeltPart p role) (spell_pattern p)
part_says = pattern_law PartSays (λ y role. says_same (ap (λ (f : PatternRole → Phrase). f role) (sym (part_spelt (pattern_parts PartSays y)))) (sym (fold-roll-Pattern Kinds spell_part (pattern_parts PartSays y))) (pattern_layer y role))

-- Expressions

abbrev form_kinds : EForm → Kinds
form_kinds = fold-EForm Kinds Kinds Kinds spell_eform (λ x. x.form) spell_new_field

abbrev field_kinds : NewField → Kinds
field_kinds = fold-NewField Kinds Kinds Kinds spell_eform (λ x. x.form) spell_new_field

abbrev FormSays : EForm → Type 0
FormSays f = Says (FormBy SpeltPattern f) (form_kinds f)

abbrev ExprSays : Expr → Type 0
ExprSays e = Says (SpeltExpr e) (spell_expr e)

abbrev FieldSays : NewField → Type 0
FieldSays n = Says (FieldBy SpeltPattern n) (field_kinds n)

abbrev parts : ExprLayer FormSays ExprSays FieldSays → E.EForm-F EForm Expr NewField
parts y = expr_parts FormSays ExprSays FieldSays y

abbrev SaidExpr : Type 0
SaidExpr = (e : Expr) × ExprSays e

abbrev SaidField : Type 0
SaidField = (n : NewField) × FieldSays n

expr_layer : (y : ExprLayer FormSays ExprSays FieldSays) → Says (LayerBy SpeltPattern (parts y)) (spell_eform (map-EForm EForm Expr NewField Kinds Kinds Kinds form_kinds spell_expr field_kinds (parts y)))
expr_layer (E.Number n) = says_one (kind.Number n)
expr_layer E.True = says_key key.True
expr_layer E.False = says_key key.False
expr_layer E.Null = says_key key.Null
expr_layer (E.Word x) = says_word x
expr_layer (E.Hole None) = says_sign mark.Hole
expr_layer (E.Hole (Some n)) = says_then (says_sign mark.Hole) (says_then (says_sign mark.OpenParen) (says_then (says_one (kind.Number n)) (says_sign mark.CloseParen)))
expr_layer (E.Pattern pattern strings) = says_given (says_then (says_sign mark.OpenPattern) (says_then (part_says pattern AsChoice) (says_sign mark.ClosePattern)))
expr_layer (E.Paren e) = says_then (says_sign mark.OpenParen) (says_then e.1 (says_sign mark.CloseParen))
expr_layer (E.Call x args) = says_then (says_word x) (says_then (says_sign mark.OpenParen) (says_then (says_between (λ (q : SaidExpr). q.0) SpeltExpr spell_expr (λ q. q.1) (says_sign mark.Comma) args) (says_sign mark.CloseParen)))
expr_layer (E.New x fields) = says_then (says_key key.New) (says_then (says_word x) (says_then (says_sign mark.OpenParen) (says_then (says_between (λ (q : SaidField). q.0) (FieldBy SpeltPattern) field_kinds (λ q. q.1) (says_sign mark.Comma) fields) (says_sign mark.CloseParen))))
expr_layer (E.Braces es) = says_given (says_then (says_sign mark.OpenBrace) (says_then (says_between (λ (q : SaidExpr). q.0) SpeltExpr spell_expr (λ q. q.1) (says_sign mark.Comma) es) (says_sign mark.CloseBrace)))
expr_layer (E.Member e x) = says_then e.1 (says_then (says_sign mark.Dot) (says_word x))
expr_layer (E.Index e i) = says_then e.1 (says_then (says_sign mark.OpenBracket) (says_then i.1 (says_sign mark.CloseBracket)))
expr_layer (E.Slice e i n) = says_then e.1 (says_then (says_sign mark.OpenBracket) (says_then i.1 (says_then (says_sign mark.DoubleColon) (says_then n.1 (says_sign mark.CloseBracket)))))
expr_layer (E.Unary op e) = says_given (says_then (says_sign op) e.1)
expr_layer (E.Binary op a b) = says_then a.1 (says_then (says_sign op) b.1)
expr_layer (E.Cond c a b) = says_then c.1 (says_then (says_sign mark.Question) (says_then a.1 (says_then (says_sign mark.Colon) b.1)))

pub expr_says : (e : Expr) → Says (SpeltExpr e) (spell_expr e)
expr_says = expr_law FormSays ExprSays FieldSays in_form in_expr in_field
  where
    in_form : (y : ExprLayer FormSays ExprSays FieldSays) → FormSays (roll-EForm (parts y))
    in_form y = says_same (sym (form_by SpeltPattern (parts y))) (sym (fold-roll-EForm Kinds Kinds Kinds spell_eform (λ x. x.form) spell_new_field (parts y))) (expr_layer y)

    in_expr : (e : Expr) → FormSays e.form → ExprSays e
    in_expr e h = says_same (sym (expr_by SpeltPattern e)) (sym (fold-roll-Expr Kinds Kinds Kinds spell_eform (λ x. x.form) spell_new_field (record { span = e.span; form = e.form }))) (says_spans e.span h)

    in_field : (n : NewField) → ExprSays n.value → FieldSays n
    in_field n h = says_same (sym (field_by SpeltPattern n)) (sym (fold-roll-NewField Kinds Kinds Kinds spell_eform (λ x. x.form) spell_new_field (record { name = n.name; value = n.value }))) (says_then (says_word n.name) (says_then (says_sign mark.Assign) h))

target_says : (e : Expr) → Says (SpeltTarget e) (spell_expr e)
target_says e = says_given (expr_says e)

-- Types

base_says : (b : Base) → Says (SpeltBase b) (spell_base b)
base_says base.Int = says_key key.Int
base_says base.Bit = says_key key.Bit
base_says (base.Named x) = says_word x

length_says : (e : Expr) → Says (SpeltLength e) (spell_length e)
length_says e = says_then (says_sign mark.OpenBracket) (says_then (expr_says e) (says_sign mark.CloseBracket))

ty_says : (t : TyTree) → Says (SpeltTy t) (spell_ty t)
ty_says t = says_given (says_then (base_says t.base) (all_each SpeltLength spell_length length_says t.lengths))

-- Statements

ending_says : (role : Role) → Says (Ending role) (ending role)
ending_says InBlock = says_sign mark.Semicolon
ending_says AsBody = says_sign mark.Semicolon
ending_says AsFirst = says_nothing
ending_says AsNext = says_nothing

declared_says : (d : Declared) → Says (SpeltDeclared d) (spell_declared d)
declared_says d = says_then (says_word d.name) (all_perhaps (λ value. Sign mark.Assign ▸ SpeltExpr value) (λ value. sign mark.Assign ▹ spell_expr value) (λ value. says_then (says_sign mark.Assign) (expr_says value)) d.value)

step_says : (k : StepKind) (target : Expr) (by : Option Expr) → Says (SpeltStep k target by) (spell_step k (spell_expr target) (perhaps spell_expr by))
step_says step.PostInc target None = says_then (target_says target) (says_sign mark.Increment)
step_says step.PostDec target None = says_then (target_says target) (says_sign mark.Decrement)
step_says step.PreInc target None = says_then (says_sign mark.Increment) (target_says target)
step_says step.PreDec target None = says_then (says_sign mark.Decrement) (target_says target)
step_says step.Add target (Some e) = says_then (target_says target) (says_then (says_sign mark.AddAssign) (expr_says e))
step_says step.Sub target (Some e) = says_then (target_says target) (says_then (says_sign mark.SubAssign) (expr_says e))
step_says _ _ _ = says_never _

parens_says : (e : Expr) → Says (SpeltParens e) (spell_parens e)
parens_says e = says_then (says_sign mark.OpenParen) (says_then (expr_says e) (says_sign mark.CloseParen))

semicolon : Says (Sign mark.Semicolon) (sign mark.Semicolon)
semicolon = says_sign mark.Semicolon

abbrev kinds_of : Form → Role → Kinds
kinds_of = fold-Form (Role → Kinds) (Role → Kinds) spell_form (λ s. s.form)

abbrev AFormSays : Form → Type 0
AFormSays f = (role : Role) → Says (SpeltForm f role) (kinds_of f role)

abbrev StmtSays : Stmt → Type 0
StmtSays s = (role : Role) → Says (SpeltStmt s role) (spell_stmt s role)

abbrev SaidStmt : Type 0
SaidStmt = (s : Stmt) × StmtSays s

abbrev stmt_pieces : StmtLayer AFormSays StmtSays → F.Form-F Form Stmt
stmt_pieces y = stmt_parts AFormSays StmtSays y

each_stmt : (ss : List SaidStmt) → Says (Each (λ s. SpeltStmt s InBlock) (map (λ q. q.0) ss)) (each (map (λ (k : Role → Kinds). k InBlock) (map spell_stmt (map (λ q. q.0) ss))))
each_stmt [] = says_nothing
each_stmt (s ∷ ss) = says_then (s.1 InBlock) (each_stmt ss)

block_says : (ss : List SaidStmt) → Says (Sign mark.OpenBrace ▸ Each (λ s. SpeltStmt s InBlock) (map (λ q. q.0) ss) ▸ Sign mark.CloseBrace) (sign mark.OpenBrace ▹ each (map (λ (k : Role → Kinds). k InBlock) (map spell_stmt (map (λ q. q.0) ss))) ▹ sign mark.CloseBrace)
block_says ss = says_then (says_sign mark.OpenBrace) (says_then (each_stmt ss) (says_sign mark.CloseBrace))

form_layer : (y : StmtLayer AFormSays StmtSays) (role : Role) → Says (FormLayer (stmt_pieces y) role) (spell_form (map-Form Form Stmt (Role → Kinds) (Role → Kinds) kinds_of spell_stmt (stmt_pieces y)) role)
form_layer (F.Block ss) role = says_given (block_says ss)
form_layer F.Empty role = says_given semicolon
form_layer (F.Declare ty names) role = says_given (says_then (ty_says ty) (says_then (all_between SpeltDeclared spell_declared declared_says (says_sign mark.Comma) names) (ending_says role)))
form_layer (F.Assign target value) role = says_then (target_says target) (says_then (says_sign mark.Assign) (says_then (expr_says value) (ending_says role)))
form_layer (F.Call e) role = says_given (says_given (says_then (expr_says e) semicolon))
form_layer (F.Step k target by) role = says_given (says_then (step_says k target by) (ending_says role))
form_layer (F.If c a None) role = says_given (says_then (says_key key.If) (says_then (parens_says c) (says_then (a.1 AsBody) says_nothing)))
form_layer (F.If c a (Some b)) role = says_given (says_then (says_key key.If) (says_then (parens_says c) (says_then (a.1 AsBody) (says_then (says_key key.Else) (b.1 AsBody)))))
form_layer (F.While c a) role = says_given (says_then (says_key key.While) (says_then (parens_says c) (a.1 AsBody)))
form_layer (F.For first c next body) role = says_given (says_then (says_key key.For) (says_then (says_sign mark.OpenParen) (says_then (first.1 AsFirst) (says_then semicolon (says_then (expr_says c) (says_then semicolon (says_then (next.1 AsNext) (says_then (says_sign mark.CloseParen) (body.1 AsBody)))))))))
form_layer (F.Return value) role = says_given (says_then (says_key key.Return) (says_then (all_perhaps SpeltExpr spell_expr expr_says value) semicolon))
form_layer (F.Assert e) role = says_given (says_then (says_key key.Assert) (says_then (expr_says e) semicolon))
form_layer (F.Assume e) role = says_given (says_then (says_key key.Assume) (says_then (expr_says e) semicolon))
form_layer (F.Minimize e) role = says_given (says_then (says_key key.Minimize) (says_then (parens_says e) semicolon))
form_layer (F.Repeat c a) role = says_given (says_then (says_key key.Repeat) (says_then (parens_says c) (a.1 AsBody)))
form_layer (F.MinRepeat a) role = says_given (says_then (says_key key.Minrepeat) (a.1 AsBody))
form_layer (F.Reorder ss) role = says_given (says_then (says_key key.Reorder) (block_says ss))

pub stmt_says : (s : Stmt) (role : Role) → Says (SpeltStmt s role) (spell_stmt s role)
stmt_says = stmt_law AFormSays StmtSays in_form in_stmt
  where
    in_form : (y : StmtLayer AFormSays StmtSays) → AFormSays (roll-Form (stmt_pieces y))
    in_form y role = says_same (ap (λ (f : Role → Phrase). f role) (sym (form_is (stmt_pieces y)))) (ap (λ (f : Role → Kinds). f role) (sym (fold-roll-Form (Role → Kinds) (Role → Kinds) spell_form (λ s. s.form) (stmt_pieces y)))) (form_layer y role)

    in_stmt : (s : Stmt) → AFormSays s.form → StmtSays s
    in_stmt s h role = says_same (ap (λ (f : Role → Phrase). f role) (sym (stmt_is s))) (ap (λ (f : Role → Kinds). f role) (sym (fold-roll-Stmt (Role → Kinds) (Role → Kinds) spell_form (λ s. s.form) (record { span = s.span; form = s.form })))) (says_spans s.span (h role))

-- Items

field_says : (d : Field) → Says (SpeltField d) (spell_field d)
field_says d = says_then (ty_says d.ty) (says_then (says_word d.name) semicolon)

ref_says : (b : _) → Says (SpeltRef b) (spell_ref b)
ref_says false = says_nothing
ref_says true = says_key key.Ref

param_says : (p : Param) → Says (SpeltParam p) (spell_param p)
param_says p = says_then (ref_says p.by_ref) (says_then (ty_says p.ty) (says_word p.name))

kind_says : (k : FunKind) → Says (SpeltKind k) (spell_kind k)
kind_says funkind.Plain = says_nothing
kind_says funkind.Harness = says_key key.Harness
kind_says funkind.Generator = says_key key.Generator

result_says : (r : Option TyTree) → Says (SpeltResult r) (spell_result r)
result_says None = says_key key.Void
result_says (Some ty) = ty_says ty

fun_says : (f : FunItem) → Says (SpeltFun f) (spell_fun f)
fun_says f =
    says_then (kind_says f.kind) (says_then (result_says f.result) (says_then (says_word f.name) (says_then (says_sign mark.OpenParen) (says_then (all_between SpeltParam spell_param param_says (says_sign mark.Comma) f.params) (says_then (says_sign mark.CloseParen) (says_then (all_perhaps (λ g. Keyword key.Implements ▸ One (kind.Word g)) (λ g. keyword key.Implements ▹ word g) (λ g. says_then (says_key key.Implements) (says_word g)) f.implements) (says_then (says_sign mark.OpenBrace) (says_then (all_each (λ s. SpeltStmt s InBlock) (λ s. spell_stmt s InBlock) (λ s. stmt_says s InBlock) f.body) (says_sign mark.CloseBrace)))))))))

item_says : (i : Item) → Says (SpeltItem i) (spell_item i)
item_says (item.Pragma x text) = says_then (says_key key.Pragma) (says_then (says_word x) (says_then (says_one (kind.Text text)) semicolon))
item_says (item.Struct x fields) = says_then (says_key key.Struct) (says_then (says_word x) (says_then (says_sign mark.OpenBrace) (says_then (all_each SpeltField spell_field field_says fields) (says_sign mark.CloseBrace))))
item_says (item.Const x value) = says_then (says_key key.Int) (says_then (says_word x) (says_then (says_sign mark.Assign) (says_then (expr_says value) semicolon)))
item_says (item.Fun f) = fun_says f

pub tree_says : (tree : Tree) (tokens : List Token) → SpeltTree tree tokens → map (λ t. t.kind) tokens ≡ spell tree
tree_says tree tokens h = (all_each SpeltItem spell_item item_says tree.items).says tokens h
