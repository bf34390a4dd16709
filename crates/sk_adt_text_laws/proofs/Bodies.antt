-- No token `struct` stands in an item that is none, nor behind the first token of one, where each string of their patterns reads.
use Rattle.std.proofs.Common.{Bool, true, List, [], ◌∷◌, ◌++◌, Option, Some, None, refl, sym, ap, subst}
use Rattle.std.specs.Prelude.{map, flat_map}
use Rattle.sk_tree.specs.declared.token.Token.{Token}
use Rattle.sk_tree.specs.declared.token.Kind.TheVariants as kind
use Rattle.sk_tree.specs.declared.token.Mark.{Mark}
use Rattle.sk_tree.specs.declared.token.Mark.TheVariants as mark
use Rattle.sk_tree.specs.declared.token.Key.TheVariants as key
use Rattle.sk_tree.specs.declared.expr.Expr.{Expr}
use Rattle.sk_tree.specs.declared.stmt.Stmt.{Stmt}
use Rattle.sk_tree.specs.declared.stmt.Form.{Form}
use Rattle.sk_tree.specs.declared.stmt.Form.TheOpen as F
use Rattle.sk_tree.specs.declared.stmt.Form.TheViews.{roll-Form}
use Rattle.sk_tree.specs.declared.stmt.Form.TheFolds.{map-Form, fold-Form, fold-roll-Form, fold-roll-Stmt}
use Rattle.sk_tree.specs.declared.stmt.Declared.{Declared}
use Rattle.sk_tree.specs.declared.stmt.StepKind.{StepKind}
use Rattle.sk_tree.specs.declared.stmt.StepKind.TheVariants as step
use Rattle.sk_tree.specs.declared.item.Base.{Base}
use Rattle.sk_tree.specs.declared.item.Base.TheVariants as base
use Rattle.sk_tree.specs.declared.item.TyTree.{TyTree}
use Rattle.sk_tree.specs.declared.item.Field.{Field}
use Rattle.sk_tree.specs.declared.item.Param.{Param}
use Rattle.sk_tree.specs.declared.item.FunKind.{FunKind}
use Rattle.sk_tree.specs.declared.item.FunKind.TheVariants as funkind
use Rattle.sk_tree.specs.declared.item.FunItem.{FunItem}
use Rattle.sk_tree.specs.Phrase.{Phrase, Sign, Keyword, One, ◌▸◌, Each, Behind, Between, Perhaps}
use Rattle.sk_tree.specs.Patterns.{Patterns, join, any_patterns, expr_patterns, ty_patterns, declared_patterns, form_patterns, stmt_patterns, field_patterns, param_patterns, fun_patterns}
use Rattle.sk_tree.specs.Spelt.{SpeltBase, SpeltLength, SpeltTy, SpeltExpr, Role, InBlock, AsBody, AsFirst, AsNext, Ending, SpeltDeclared, SpeltStep, SpeltTarget, SpeltParens, SpeltStmt, SpeltField, SpeltRef, SpeltParam, SpeltKind, SpeltResult, SpeltFun}
use Rattle.sk_tree.proofs.Layers.{StmtLayer, stmt_parts, stmt_law, SpeltForm, FormLayer, form_is, stmt_is}
use Rattle.sk_adt_text_laws.proofs.Others.{Free, then, one, sign, word, given, spans, nothing, same, AllFit, parts_fit, Clean, expr_free}

abbrev pub Held : Patterns → Type 0
Held = AllFit Clean

pub halves : (ps qs : Patterns) → Held (ps ++ qs) → Held ps × Held qs
halves = parts_fit Clean

-- a list of parts
module _ {A : Type 0} (say : A → Phrase) (held : A → Patterns) (part : (a : A) → Held (held a) → Free (say a)) where
  pub each_free : (xs : List A) → Held (flat_map held xs) → Free (Each say xs)
  each_free [] c = nothing
  each_free (x ∷ xs) c = let r = halves (held x) (flat_map held xs) c in then (part x r.0) (each_free xs r.1)

  behind_free : (m : Mark) (xs : List A) → Held (flat_map held xs) → Free (Behind (Sign m) say xs)
  behind_free m [] c = nothing
  behind_free m (x ∷ xs) c = let r = halves (held x) (flat_map held xs) c in then (sign m) (then (part x r.0) (behind_free m xs r.1))

  between_free : (m : Mark) (xs : List A) → Held (flat_map held xs) → Free (Between (Sign m) say xs)
  between_free m [] c = nothing
  between_free m (x ∷ xs) c = let r = halves (held x) (flat_map held xs) c in then (part x r.0) (behind_free m xs r.1)

-- Types

base_free : (b : Base) → Free (SpeltBase b)
base_free base.Int = one (kind.Key key.Int) refl
base_free base.Bit = one (kind.Key key.Bit) refl
base_free (base.Named x) = word x

length_free : (e : Expr) → Held (expr_patterns e) → Free (SpeltLength e)
length_free e c = then (sign mark.OpenBracket) (then (expr_free e c) (sign mark.CloseBracket))

pub ty_free : (t : TyTree) → Held (ty_patterns t) → Free (SpeltTy t)
ty_free t c = given (then (base_free t.base) (each_free SpeltLength expr_patterns length_free t.lengths c))

-- Statements

any_free : (v : Option Expr) → Held (any_patterns expr_patterns v) → Free (Perhaps SpeltExpr v)
any_free None c = nothing
any_free (Some e) c = expr_free e c

value_free : (d : Declared) → Held (declared_patterns d) → Free (SpeltDeclared d)
value_free d c = then (word d.name) (go d.value c)
  where
    go : (v : Option Expr) → Held (any_patterns expr_patterns v) → Free (Perhaps (λ value. Sign mark.Assign ▸ SpeltExpr value) v)
    go None c = nothing
    go (Some e) c = then (sign mark.Assign) (expr_free e c)

target_free : (e : Expr) → Held (expr_patterns e) → Free (SpeltTarget e)
target_free e c = given (expr_free e c)

parens_free : (e : Expr) → Held (expr_patterns e) → Free (SpeltParens e)
parens_free e c = then (sign mark.OpenParen) (then (expr_free e c) (sign mark.CloseParen))

ending_free : (role : Role) → Free (Ending role)
ending_free InBlock = sign mark.Semicolon
ending_free AsBody = sign mark.Semicolon
ending_free AsFirst = nothing
ending_free AsNext = nothing

never : {P : Phrase} → ((ts : List Token) → P ts → ⊥) → Free P
never f = record { free = λ ts h. absurd (f ts h) }

step_free : (k : StepKind) (x : Expr) (by : Option Expr) → Held (expr_patterns x ++ any_patterns expr_patterns by) → Free (SpeltStep k x by)
step_free k x None c = go k (halves (expr_patterns x) [] c).0
  where
    go : (k : StepKind) → Held (expr_patterns x) → Free (SpeltStep k x None)
    go step.PostInc h = then (target_free x h) (sign mark.Increment)
    go step.PostDec h = then (target_free x h) (sign mark.Decrement)
    go step.PreInc h = then (sign mark.Increment) (target_free x h)
    go step.PreDec h = then (sign mark.Decrement) (target_free x h)
    go step.Add h = never (λ ts n. n)
    go step.Sub h = never (λ ts n. n)
step_free k x (Some e) c = go k (halves (expr_patterns x) (expr_patterns e) c)
  where
    go : (k : StepKind) → Held (expr_patterns x) × Held (expr_patterns e) → Free (SpeltStep k x (Some e))
    go step.PostInc h = never (λ ts n. n)
    go step.PostDec h = never (λ ts n. n)
    go step.PreInc h = never (λ ts n. n)
    go step.PreDec h = never (λ ts n. n)
    go step.Add h = then (target_free x h.0) (then (sign mark.AddAssign) (expr_free e h.1))
    go step.Sub h = then (target_free x h.0) (then (sign mark.SubAssign) (expr_free e h.1))

abbrev act_held : Form → Patterns
act_held = fold-Form Patterns Patterns form_patterns (λ s. s.form)

abbrev ActFree : Form → Type 0
ActFree f = (role : Role) → Held (act_held f) → Free (SpeltForm f role)

abbrev StmtFree : Stmt → Type 0
StmtFree s = (role : Role) → Held (stmt_patterns s) → Free (SpeltStmt s role)

abbrev Told : Type 0
Told = (s : Stmt) × StmtFree s

abbrev acts : StmtLayer ActFree StmtFree → F.Form-F Form Stmt
acts y = stmt_parts ActFree StmtFree y

abbrev tolds : List Told → List Stmt
tolds qs = map (λ (q : Told). q.0) qs

all_told : (qs : List Told) → Held (join (map stmt_patterns (tolds qs))) → Free (Each (λ s. SpeltStmt s InBlock) (tolds qs))
all_told [] c = nothing
all_told (q ∷ qs) c = let r = halves (stmt_patterns q.0) (join (map stmt_patterns (tolds qs))) c in then (q.1 InBlock r.0) (all_told qs r.1)

act_layer : (y : StmtLayer ActFree StmtFree) (role : Role) → Held (form_patterns (map-Form Form Stmt Patterns Patterns act_held stmt_patterns (acts y))) → Free (FormLayer (acts y) role)
act_layer (F.Block ss) role c = given (then (sign mark.OpenBrace) (then (all_told ss c) (sign mark.CloseBrace)))
act_layer F.Empty role c = given (sign mark.Semicolon)
act_layer (F.Declare y ds) role c =
    let r = halves (ty_patterns y) (flat_map declared_patterns ds) c in
    given (then (ty_free y r.0) (then (between_free SpeltDeclared declared_patterns value_free mark.Comma ds r.1) (ending_free role)))
act_layer (F.Assign x e) role c = let r = halves (expr_patterns x) (expr_patterns e) c in then (target_free x r.0) (then (sign mark.Assign) (then (expr_free e r.1) (ending_free role)))
act_layer (F.Call e) role c = given (given (then (expr_free e c) (sign mark.Semicolon)))
act_layer (F.Step k x by) role c = given (then (step_free k x by c) (ending_free role))
act_layer (F.If e a None) role c =
    let r = halves (expr_patterns e ++ stmt_patterns a.0) [] c in
    let q = halves (expr_patterns e) (stmt_patterns a.0) r.0 in
    given (then (one (kind.Key key.If) refl) (then (parens_free e q.0) (then (a.1 AsBody q.1) nothing)))
act_layer (F.If e a (Some b)) role c =
    let r = halves (expr_patterns e ++ stmt_patterns a.0) (stmt_patterns b.0) c in
    let q = halves (expr_patterns e) (stmt_patterns a.0) r.0 in
    given (then (one (kind.Key key.If) refl) (then (parens_free e q.0) (then (a.1 AsBody q.1) (then (one (kind.Key key.Else) refl) (b.1 AsBody r.1)))))
act_layer (F.While e a) role c = let r = halves (expr_patterns e) (stmt_patterns a.0) c in given (then (one (kind.Key key.While) refl) (then (parens_free e r.0) (a.1 AsBody r.1)))
act_layer (F.For a e n b) role c =
    let r = halves (stmt_patterns a.0 ++ expr_patterns e ++ stmt_patterns n.0) (stmt_patterns b.0) c in
    let q = halves (stmt_patterns a.0 ++ expr_patterns e) (stmt_patterns n.0) r.0 in
    let p = halves (stmt_patterns a.0) (expr_patterns e) q.0 in
    given
    (then (one (kind.Key key.For) refl) (then (sign mark.OpenParen) (then (a.1 AsFirst p.0) (then (sign mark.Semicolon) (then (expr_free e p.1) (then (sign mark.Semicolon)
    (then (n.1 AsNext q.1) (then (sign mark.CloseParen) (b.1 AsBody r.1)))))))))
act_layer (F.Return v) role c = given (then (one (kind.Key key.Return) refl) (then (any_free v c) (sign mark.Semicolon)))
act_layer (F.Assert e) role c = given (then (one (kind.Key key.Assert) refl) (then (expr_free e c) (sign mark.Semicolon)))
act_layer (F.Assume e) role c = given (then (one (kind.Key key.Assume) refl) (then (expr_free e c) (sign mark.Semicolon)))
act_layer (F.Minimize e) role c = given (then (one (kind.Key key.Minimize) refl) (then (parens_free e c) (sign mark.Semicolon)))
act_layer (F.Repeat e a) role c = let r = halves (expr_patterns e) (stmt_patterns a.0) c in given (then (one (kind.Key key.Repeat) refl) (then (parens_free e r.0) (a.1 AsBody r.1)))
act_layer (F.MinRepeat a) role c = given (then (one (kind.Key key.Minrepeat) refl) (a.1 AsBody c))
act_layer (F.Reorder ss) role c = given (then (one (kind.Key key.Reorder) refl) (then (sign mark.OpenBrace) (then (all_told ss c) (sign mark.CloseBrace))))

stmt_free : (s : Stmt) → StmtFree s
stmt_free = stmt_law ActFree StmtFree in_form in_stmt
  where
    in_form : (y : StmtLayer ActFree StmtFree) → ActFree (roll-Form (acts y))
    in_form y role c = same (ap (λ (R : Role → Phrase). R role) (sym (form_is (acts y)))) (act_layer y role (subst Held (fold-roll-Form Patterns Patterns form_patterns (λ s. s.form) (acts y)) c))

    in_stmt : (s : Stmt) → ActFree s.form → StmtFree s
    in_stmt s h role c = same (ap (λ (R : Role → Phrase). R role) (sym (stmt_is s))) (spans s.span (h role (subst Held (fold-roll-Stmt Patterns Patterns form_patterns (λ s. s.form) (record { span = s.span; form = s.form })) c)))

-- Items

pub field_free : (d : Field) → Held (field_patterns d) → Free (SpeltField d)
field_free d c = then (ty_free d.ty c) (then (word d.name) (sign mark.Semicolon))

ref_free : (b : Bool) → Free (SpeltRef b)
ref_free true = one (kind.Key key.Ref) refl
ref_free _ = nothing

param_free : (p : Param) → Held (param_patterns p) → Free (SpeltParam p)
param_free p c = then (ref_free p.by_ref) (then (ty_free p.ty c) (word p.name))

kind_free : (k : FunKind) → Free (SpeltKind k)
kind_free funkind.Plain = nothing
kind_free funkind.Harness = one (kind.Key key.Harness) refl
kind_free funkind.Generator = one (kind.Key key.Generator) refl

result_free : (t : Option TyTree) → Held (any_patterns ty_patterns t) → Free (SpeltResult t)
result_free None c = one (kind.Key key.Void) refl
result_free (Some t) c = ty_free t c

implements_free : (o : Option (List _)) → Free (Perhaps (λ g. Keyword key.Implements ▸ One (kind.Word g)) o)
implements_free None = nothing
implements_free (Some x) = then (one (kind.Key key.Implements) refl) (word x)

pub fun_free : (f : FunItem) → Held (fun_patterns f) → Free (SpeltFun f)
fun_free f c =
    let r = halves (any_patterns ty_patterns f.result ++ flat_map param_patterns f.params) (flat_map stmt_patterns f.body) c in
    let q = halves (any_patterns ty_patterns f.result) (flat_map param_patterns f.params) r.0 in
    then (kind_free f.kind) (then (result_free f.result q.0) (then (word f.name) (then (sign mark.OpenParen)
    (then (between_free SpeltParam param_patterns param_free mark.Comma f.params q.1) (then (sign mark.CloseParen) (then (implements_free f.implements)
    (then (sign mark.OpenBrace) (then (each_free (λ s. SpeltStmt s InBlock) stmt_patterns (λ s. stmt_free s InBlock) f.body r.1) (sign mark.CloseBrace)))))))))
