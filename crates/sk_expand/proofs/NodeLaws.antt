-- How many nodes the parts of programs have that are built.
use Rattle.std.proofs.Common.{◌≡◌, ℕ, suc, ◌+◌, List, [], ◌∷◌, ◌++◌, map, Option, Some, None, refl, ap, ◌∙◌, sym, arith}
use Rattle.sk_base.specs.declared.span.Span.{Span}
use Rattle.sk_base.specs.declared.name.Name.{Name}
use Rattle.sk_prog.specs.declared.ids.ConstId.{ConstId}
use Rattle.sk_prog.specs.declared.ids.FunId.{FunId}
use Rattle.sk_prog.specs.declared.ids.StructId.{StructId}
use Rattle.sk_prog.specs.declared.ty.Ty.{Ty}
use Rattle.sk_prog.specs.declared.ty.Ty.TheVariants as ty
use Rattle.sk_prog.specs.declared.ty.Elem.TheVariants as elem
use Rattle.sk_prog.specs.declared.expr.UnOp.{UnOp}
use Rattle.sk_prog.specs.declared.expr.BinOp.{BinOp}
use Rattle.sk_prog.specs.declared.expr.PExpr.{PExpr}
use Rattle.sk_prog.specs.declared.expr.PField.{PField}
use Rattle.sk_prog.specs.declared.expr.PEForm.{PEForm}
use Rattle.sk_prog.specs.declared.expr.PEForm.TheVariants as eform
use Rattle.sk_prog.specs.declared.expr.PEForm.TheOpen as P
use Rattle.sk_prog.specs.declared.expr.PEForm.TheViews as V
use Rattle.sk_prog.specs.declared.expr.PEForm.TheFolds.{fold-PEForm, fold-roll-PExpr, fold-roll-PEForm, fold-roll-PField}
use Rattle.sk_prog.specs.declared.stmt.PStmt.{PStmt}
use Rattle.sk_prog.specs.declared.stmt.PForm.{PForm}
use Rattle.sk_prog.specs.declared.stmt.PForm.TheVariants as form
use Rattle.sk_prog.specs.declared.stmt.PForm.TheOpen as S
use Rattle.sk_prog.specs.declared.stmt.PForm.TheViews as W
use Rattle.sk_prog.specs.declared.stmt.PForm.TheFolds.{fold-roll-PStmt, fold-roll-PForm}
use Rattle.sk_prog.specs.declared.prog.Fun.{Fun}
use Rattle.sk_base.specs.declared.bounds.Bounds.{Bounds}
use Rattle.sk_model.specs.Expand.{stub, Walk, CallWalk, as_walk, in_order, fun_id, walk_expr, eform_walk, expr_step, field_step}
use Rattle.sk_expand.specs.Walking.{followed}
use Rattle.sk_model.specs.Nodes.{eform_nodes, expr_nodes, value_nodes, form_nodes, stmt_nodes, stmts_nodes, funs_nodes}
use Rattle.sk_expand.specs.Nodes.{exprs_nodes, field_nodes, fields_nodes, nodes_of_eform, nodes_of_form, branch_nodes}

pub funs_append : (xs ys : List Fun) → funs_nodes (xs ++ ys) ≡ funs_nodes xs + funs_nodes ys
funs_append [] ys = omega arith
funs_append (x ∷ xs) ys = omega (arith, funs_append xs ys)

pub stmts_append : (xs ys : List PStmt) → stmts_nodes (xs ++ ys) ≡ stmts_nodes xs + stmts_nodes ys
stmts_append [] ys = omega arith
stmts_append (x ∷ xs) ys = omega (arith, stmts_append xs ys)

pub nodes_expr : (span : Span) (t : Option Ty) (f : PEForm) → expr_nodes (record { span = span; ty = t; form = f }) ≡ nodes_of_eform f
nodes_expr span t f = fold-roll-PExpr ℕ ℕ ℕ eform_nodes (λ e. e.form) (λ x. x.value) (record { span = span; ty = t; form = f })

pub nodes_field : (k : ℕ) (e : PExpr) → field_nodes (record { field = k; value = e }) ≡ expr_nodes e
nodes_field k e = fold-roll-PField ℕ ℕ ℕ eform_nodes (λ e. e.form) (λ x. x.value) (record { field = k; value = e })

pub nodes_stmt : (span : Span) (f : PForm) → stmt_nodes (record { span = span; form = f }) ≡ suc (nodes_of_form f)
nodes_stmt span f = fold-roll-PStmt ℕ ℕ form_nodes (λ s. suc s.form) (record { span = span; form = f })

pub nodes_number : (n : ℕ) → nodes_of_eform (eform.Number n) ≡ 1
nodes_number n = ap nodes_of_eform (sym (V.rolls-Number n)) ∙ fold-roll-PEForm ℕ ℕ ℕ eform_nodes (λ e. e.form) (λ x. x.value) (P.Number n)

pub nodes_true : nodes_of_eform eform.True ≡ 1
nodes_true = ap nodes_of_eform (sym (V.rolls-True)) ∙ fold-roll-PEForm ℕ ℕ ℕ eform_nodes (λ e. e.form) (λ x. x.value) (P.True)

pub nodes_false : nodes_of_eform eform.False ≡ 1
nodes_false = ap nodes_of_eform (sym (V.rolls-False)) ∙ fold-roll-PEForm ℕ ℕ ℕ eform_nodes (λ e. e.form) (λ x. x.value) (P.False)

pub nodes_null : nodes_of_eform eform.Null ≡ 1
nodes_null = ap nodes_of_eform (sym (V.rolls-Null)) ∙ fold-roll-PEForm ℕ ℕ ℕ eform_nodes (λ e. e.form) (λ x. x.value) (P.Null)

pub nodes_var : (slot : ℕ) (x : Name) → nodes_of_eform (eform.Var slot x) ≡ 1
nodes_var slot x = ap nodes_of_eform (sym (V.rolls-Var slot x)) ∙ fold-roll-PEForm ℕ ℕ ℕ eform_nodes (λ e. e.form) (λ x. x.value) (P.Var slot x)

pub nodes_const : (c : ConstId) → nodes_of_eform (eform.Const c) ≡ 1
nodes_const c = ap nodes_of_eform (sym (V.rolls-Const c)) ∙ fold-roll-PEForm ℕ ℕ ℕ eform_nodes (λ e. e.form) (λ x. x.value) (P.Const c)

pub nodes_hole : (bits : Option ℕ) → nodes_of_eform (eform.Hole bits) ≡ 1
nodes_hole bits = ap nodes_of_eform (sym (V.rolls-Hole bits)) ∙ fold-roll-PEForm ℕ ℕ ℕ eform_nodes (λ e. e.form) (λ x. x.value) (P.Hole bits)

pub nodes_pattern : (es : List PExpr) → nodes_of_eform (eform.Pattern es) ≡ suc (exprs_nodes es)
nodes_pattern es = ap nodes_of_eform (sym (V.rolls-Pattern es)) ∙ fold-roll-PEForm ℕ ℕ ℕ eform_nodes (λ e. e.form) (λ x. x.value) (P.Pattern es)

pub nodes_paren : (e : PExpr) → nodes_of_eform (eform.Paren e) ≡ suc (expr_nodes e)
nodes_paren e = ap nodes_of_eform (sym (V.rolls-Paren e)) ∙ fold-roll-PEForm ℕ ℕ ℕ eform_nodes (λ e. e.form) (λ x. x.value) (P.Paren e)

pub nodes_call : (f : FunId) (es : List PExpr) → nodes_of_eform (eform.Call f es) ≡ suc (exprs_nodes es)
nodes_call f es = ap nodes_of_eform (sym (V.rolls-Call f es)) ∙ fold-roll-PEForm ℕ ℕ ℕ eform_nodes (λ e. e.form) (λ x. x.value) (P.Call f es)

pub nodes_new : (d : StructId) (xs : List PField) → nodes_of_eform (eform.New d xs) ≡ suc (fields_nodes xs)
nodes_new d xs = ap nodes_of_eform (sym (V.rolls-New d xs)) ∙ fold-roll-PEForm ℕ ℕ ℕ eform_nodes (λ e. e.form) (λ x. x.value) (P.New d xs)

pub nodes_braces : (es : List PExpr) → nodes_of_eform (eform.Braces es) ≡ suc (exprs_nodes es)
nodes_braces es = ap nodes_of_eform (sym (V.rolls-Braces es)) ∙ fold-roll-PEForm ℕ ℕ ℕ eform_nodes (λ e. e.form) (λ x. x.value) (P.Braces es)

pub nodes_member : (e : PExpr) (d : StructId) (k : ℕ) → nodes_of_eform (eform.Member e d k) ≡ suc (expr_nodes e)
nodes_member e d k = ap nodes_of_eform (sym (V.rolls-Member e d k)) ∙ fold-roll-PEForm ℕ ℕ ℕ eform_nodes (λ e. e.form) (λ x. x.value) (P.Member e d k)

pub nodes_index : (e i : PExpr) → nodes_of_eform (eform.Index e i) ≡ suc (expr_nodes e + expr_nodes i)
nodes_index e i = ap nodes_of_eform (sym (V.rolls-Index e i)) ∙ fold-roll-PEForm ℕ ℕ ℕ eform_nodes (λ e. e.form) (λ x. x.value) (P.Index e i)

pub nodes_slice : (e i : PExpr) (n : ℕ) → nodes_of_eform (eform.Slice e i n) ≡ suc (expr_nodes e + expr_nodes i)
nodes_slice e i n = ap nodes_of_eform (sym (V.rolls-Slice e i n)) ∙ fold-roll-PEForm ℕ ℕ ℕ eform_nodes (λ e. e.form) (λ x. x.value) (P.Slice e i n)

pub nodes_unary : (o : UnOp) (e : PExpr) → nodes_of_eform (eform.Unary o e) ≡ suc (expr_nodes e)
nodes_unary o e = ap nodes_of_eform (sym (V.rolls-Unary o e)) ∙ fold-roll-PEForm ℕ ℕ ℕ eform_nodes (λ e. e.form) (λ x. x.value) (P.Unary o e)

pub nodes_binary : (o : BinOp) (a b : PExpr) → nodes_of_eform (eform.Binary o a b) ≡ suc (expr_nodes a + expr_nodes b)
nodes_binary o a b = ap nodes_of_eform (sym (V.rolls-Binary o a b)) ∙ fold-roll-PEForm ℕ ℕ ℕ eform_nodes (λ e. e.form) (λ x. x.value) (P.Binary o a b)

pub nodes_cond : (c a b : PExpr) → nodes_of_eform (eform.Cond c a b) ≡ suc (expr_nodes c + (expr_nodes a + expr_nodes b))
nodes_cond c a b = ap nodes_of_eform (sym (V.rolls-Cond c a b)) ∙ fold-roll-PEForm ℕ ℕ ℕ eform_nodes (λ e. e.form) (λ x. x.value) (P.Cond c a b)

pub nodes_to_int : (e : PExpr) → nodes_of_eform (eform.ToInt e) ≡ expr_nodes e
nodes_to_int e = ap nodes_of_eform (sym (V.rolls-ToInt e)) ∙ fold-roll-PEForm ℕ ℕ ℕ eform_nodes (λ e. e.form) (λ x. x.value) (P.ToInt e)

pub nodes_pad : (e : PExpr) → nodes_of_eform (eform.Pad e) ≡ expr_nodes e
nodes_pad e = ap nodes_of_eform (sym (V.rolls-Pad e)) ∙ fold-roll-PEForm ℕ ℕ ℕ eform_nodes (λ e. e.form) (λ x. x.value) (P.Pad e)

pub nodes_block : (ss : List PStmt) → nodes_of_form (form.Block ss) ≡ stmts_nodes ss
nodes_block ss = ap nodes_of_form (sym (W.rolls-Block ss)) ∙ fold-roll-PForm ℕ ℕ form_nodes (λ s. suc s.form) (S.Block ss)

pub nodes_declare : (slot : ℕ) (x : Name) (t : Ty) (e : Option PExpr) → nodes_of_form (form.Declare slot x t e) ≡ value_nodes e
nodes_declare slot x t e = ap nodes_of_form (sym (W.rolls-Declare slot x t e)) ∙ fold-roll-PForm ℕ ℕ form_nodes (λ s. suc s.form) (S.Declare slot x t e)

pub nodes_assign : (a b : PExpr) → nodes_of_form (form.Assign a b) ≡ expr_nodes a + expr_nodes b
nodes_assign a b = ap nodes_of_form (sym (W.rolls-Assign a b)) ∙ fold-roll-PForm ℕ ℕ form_nodes (λ s. suc s.form) (S.Assign a b)

pub nodes_called : (e : PExpr) → nodes_of_form (form.Call e) ≡ expr_nodes e
nodes_called e = ap nodes_of_form (sym (W.rolls-Call e)) ∙ fold-roll-PForm ℕ ℕ form_nodes (λ s. suc s.form) (S.Call e)

pub nodes_if : (c : PExpr) (a : PStmt) (b : Option PStmt) → nodes_of_form (form.If c a b) ≡ expr_nodes c + (stmt_nodes a + branch_nodes b)
nodes_if c a None = ap nodes_of_form (sym (W.rolls-If c a None)) ∙ fold-roll-PForm ℕ ℕ form_nodes (λ s. suc s.form) (S.If c a None)
nodes_if c a (Some b) = ap nodes_of_form (sym (W.rolls-If c a (Some b))) ∙ fold-roll-PForm ℕ ℕ form_nodes (λ s. suc s.form) (S.If c a (Some b))

pub nodes_while : (c : PExpr) (a : PStmt) → nodes_of_form (form.While c a) ≡ expr_nodes c + stmt_nodes a
nodes_while c a = ap nodes_of_form (sym (W.rolls-While c a)) ∙ fold-roll-PForm ℕ ℕ form_nodes (λ s. suc s.form) (S.While c a)

pub nodes_return : (e : Option PExpr) → nodes_of_form (form.Return e) ≡ value_nodes e
nodes_return e = ap nodes_of_form (sym (W.rolls-Return e)) ∙ fold-roll-PForm ℕ ℕ form_nodes (λ s. suc s.form) (S.Return e)

pub nodes_assert : (e : PExpr) → nodes_of_form (form.Assert e) ≡ expr_nodes e
nodes_assert e = ap nodes_of_form (sym (W.rolls-Assert e)) ∙ fold-roll-PForm ℕ ℕ form_nodes (λ s. suc s.form) (S.Assert e)

pub nodes_assume : (e : PExpr) → nodes_of_form (form.Assume e) ≡ expr_nodes e
nodes_assume e = ap nodes_of_form (sym (W.rolls-Assume e)) ∙ fold-roll-PForm ℕ ℕ form_nodes (λ s. suc s.form) (S.Assume e)

pub nodes_minimize : (e : PExpr) → nodes_of_form (form.Minimize e) ≡ expr_nodes e
nodes_minimize e = ap nodes_of_form (sym (W.rolls-Minimize e)) ∙ fold-roll-PForm ℕ ℕ form_nodes (λ s. suc s.form) (S.Minimize e)

pub nodes_repeat : (c : PExpr) (ss : List PStmt) → nodes_of_form (form.Repeat c ss) ≡ expr_nodes c + stmts_nodes ss
nodes_repeat c ss = ap nodes_of_form (sym (W.rolls-Repeat c ss)) ∙ fold-roll-PForm ℕ ℕ form_nodes (λ s. suc s.form) (S.Repeat c ss)

pub nodes_minrepeat : (ss : List PStmt) → nodes_of_form (form.MinRepeat ss) ≡ stmts_nodes ss
nodes_minrepeat ss = ap nodes_of_form (sym (W.rolls-MinRepeat ss)) ∙ fold-roll-PForm ℕ ℕ form_nodes (λ s. suc s.form) (S.MinRepeat ss)

pub nodes_reorder : (ss : List PStmt) → nodes_of_form (form.Reorder ss) ≡ stmts_nodes ss
nodes_reorder ss = ap nodes_of_form (sym (W.rolls-Reorder ss)) ∙ fold-roll-PForm ℕ ℕ form_nodes (λ s. suc s.form) (S.Reorder ss)

pub stub_nodes : (span : Span) → stmts_nodes (stub span) ≡ 2
stub_nodes span = rw (nodes_stmt span (form.Assert (record { span = span; ty = Some (ty.One elem.Bit); form = eform.False })), nodes_assert (record { span = span; ty = Some (ty.One elem.Bit); form = eform.False }), nodes_expr span (Some (ty.One elem.Bit)) eform.False, nodes_false) refl

pub ruleset stubs = (stub_nodes)

-- what the form of a call becomes
pub call_becomes : (bounds : Bounds) (calls : CallWalk) (span : Span) (f : FunId) (args : List PExpr) → fold-PEForm (Span → Walk PEForm) (Walk PExpr) (Walk PField) (eform_walk bounds calls) (expr_step bounds calls) (field_step bounds calls) (eform.Call f args) span ≡ followed (calls span f.index) (λ g. as_walk (λ xs. eform.Call (fun_id g) xs) (in_order (map (walk_expr bounds calls) args)))
call_becomes bounds calls span f args =
    ap (λ form. fold-PEForm (Span → Walk PEForm) (Walk PExpr) (Walk PField) (eform_walk bounds calls) (expr_step bounds calls) (field_step bounds calls) form span) (sym (V.rolls-Call f args))
    ∙ ap (λ (w : Span → Walk PEForm). w span) (fold-roll-PEForm (Span → Walk PEForm) (Walk PExpr) (Walk PField) (eform_walk bounds calls) (expr_step bounds calls) (field_step bounds calls) (P.Call f args))

pub ruleset lists = (funs_append)

pub ruleset fields = (funs_append, nodes_field)

pub ruleset news = (funs_append, nodes_new)

pub ruleset indexes = (funs_append, nodes_index)

pub ruleset slices = (funs_append, nodes_slice)

pub ruleset binaries = (funs_append, nodes_binary)

pub ruleset choices = (funs_append, nodes_cond)

pub ruleset call_forms = (funs_append, nodes_call)

pub ruleset eforms = (nodes_number, nodes_true, nodes_false, nodes_null, nodes_var, nodes_const, nodes_hole, nodes_pattern, nodes_paren, nodes_braces, nodes_member, nodes_unary, nodes_to_int, nodes_pad)

pub ruleset exprs = (nodes_expr)

pub ruleset declares = (nodes_declare)

pub ruleset assigns = (funs_append, nodes_assign)

pub ruleset branches = (funs_append, nodes_if)

pub ruleset loops = (funs_append, nodes_while)

pub ruleset repeats = (nodes_repeat)

pub ruleset minrepeats = (nodes_minrepeat)

pub ruleset forms = (nodes_block, nodes_called, nodes_return, nodes_assert, nodes_assume, nodes_minimize, nodes_reorder)

pub ruleset stmts = (nodes_stmt)
