-- One layer of a fold over a tree that is built.
use Rattle.std.proofs.Common.{◌≡◌, ℕ, List, map, Option, Some, None, subst, ap, ◌∙◌}
use Rattle.sk_base.specs.declared.span.Span.{Span}
use Rattle.sk_base.specs.declared.name.Name.{Name}
use Rattle.sk_prog.specs.declared.ids.ConstId.{ConstId}
use Rattle.sk_prog.specs.declared.ids.FunId.{FunId}
use Rattle.sk_prog.specs.declared.ids.StructId.{StructId}
use Rattle.sk_prog.specs.declared.ty.Ty.{Ty}
use Rattle.sk_prog.specs.declared.expr.UnOp.{UnOp}
use Rattle.sk_prog.specs.declared.expr.BinOp.{BinOp}
use Rattle.sk_prog.specs.declared.expr.PExpr.{PExpr}
use Rattle.sk_prog.specs.declared.expr.PField.{PField}
use Rattle.sk_prog.specs.declared.expr.PEForm.{PEForm}
use Rattle.sk_prog.specs.declared.expr.PEForm.TheVariants as eform
use Rattle.sk_prog.specs.declared.expr.PEForm.TheOpen as P
use Rattle.sk_prog.specs.declared.expr.PEForm.TheViews as V
use Rattle.sk_prog.specs.declared.expr.PEForm.TheFolds.{map-PEForm, fold-PEForm, fold-PExpr, fold-PField, fold-roll-PExpr, fold-roll-PEForm, fold-roll-PField}
use Rattle.sk_prog.specs.declared.stmt.PStmt.{PStmt}
use Rattle.sk_prog.specs.declared.stmt.PForm.{PForm}
use Rattle.sk_prog.specs.declared.stmt.PForm.TheVariants as form
use Rattle.sk_prog.specs.declared.stmt.PForm.TheOpen as S
use Rattle.sk_prog.specs.declared.stmt.PForm.TheViews as W
use Rattle.sk_prog.specs.declared.stmt.PForm.TheFolds.{map-PForm, fold-PForm, fold-PStmt, fold-roll-PStmt, fold-roll-PForm}
use Rattle.sk_model.specs.Parts.{Part}

module _ (A A' A'' : Type 0) (s : P.PEForm-F A A' A'' → A) (s' : P.PExpr-F A A' A'' → A') (s'' : P.PField-F A A' A'' → A'') where
  abbrev of_form : PEForm → A
  of_form = fold-PEForm A A' A'' s s' s''

  abbrev of_expr : PExpr → A'
  of_expr = fold-PExpr A A' A'' s s' s''

  abbrev of_field : PField → A''
  of_field = fold-PField A A' A'' s s' s''

  pub expr_layer : (x : P.PEForm-F PEForm PExpr PField) (form : PEForm) → V.roll-PEForm x ≡ form → (span : Span) (t : Option Ty) → of_expr (record { span = span; ty = t; form = form }) ≡ s' (record { span = span; ty = t; form = s (map-PEForm PEForm PExpr PField A A' A'' of_form of_expr of_field x) })
  expr_layer x form is span t = subst (λ f. of_expr (record { span = span; ty = t; form = f }) ≡ s' (record { span = span; ty = t; form = s (map-PEForm PEForm PExpr PField A A' A'' of_form of_expr of_field x) })) is
      (fold-roll-PExpr A A' A'' s s' s'' (record { span = span; ty = t; form = V.roll-PEForm x })
      ∙ ap (λ a. s' (record { span = span; ty = t; form = a })) (fold-roll-PEForm A A' A'' s s' s'' x))

  pub layer_field : (k : ℕ) (e : PExpr) → of_field (record { field = k; value = e }) ≡ s'' (record { field = k; value = of_expr e })
  layer_field k e = fold-roll-PField A A' A'' s s' s'' (record { field = k; value = e })

  pub layer_number : (span : Span) (t : Option Ty) (n : ℕ) → of_expr (record { span = span; ty = t; form = eform.Number n }) ≡ s' (record { span = span; ty = t; form = s (P.Number n) })
  layer_number span t n = expr_layer (P.Number n) (eform.Number n) (V.rolls-Number n) span t

  pub layer_true : (span : Span) (t : Option Ty) → of_expr (record { span = span; ty = t; form = eform.True }) ≡ s' (record { span = span; ty = t; form = s P.True })
  layer_true span t = expr_layer P.True eform.True V.rolls-True span t

  pub layer_false : (span : Span) (t : Option Ty) → of_expr (record { span = span; ty = t; form = eform.False }) ≡ s' (record { span = span; ty = t; form = s P.False })
  layer_false span t = expr_layer P.False eform.False V.rolls-False span t

  pub layer_null : (span : Span) (t : Option Ty) → of_expr (record { span = span; ty = t; form = eform.Null }) ≡ s' (record { span = span; ty = t; form = s P.Null })
  layer_null span t = expr_layer P.Null eform.Null V.rolls-Null span t

  pub layer_var : (span : Span) (t : Option Ty) (slot : ℕ) (x : Name) → of_expr (record { span = span; ty = t; form = eform.Var slot x }) ≡ s' (record { span = span; ty = t; form = s (P.Var slot x) })
  layer_var span t slot x = expr_layer (P.Var slot x) (eform.Var slot x) (V.rolls-Var slot x) span t

  pub layer_const : (span : Span) (t : Option Ty) (c : ConstId) → of_expr (record { span = span; ty = t; form = eform.Const c }) ≡ s' (record { span = span; ty = t; form = s (P.Const c) })
  layer_const span t c = expr_layer (P.Const c) (eform.Const c) (V.rolls-Const c) span t

  pub layer_hole : (span : Span) (t : Option Ty) (bits : Option ℕ) → of_expr (record { span = span; ty = t; form = eform.Hole bits }) ≡ s' (record { span = span; ty = t; form = s (P.Hole bits) })
  layer_hole span t bits = expr_layer (P.Hole bits) (eform.Hole bits) (V.rolls-Hole bits) span t

  pub layer_pattern : (span : Span) (t : Option Ty) (es : List PExpr) → of_expr (record { span = span; ty = t; form = eform.Pattern es }) ≡ s' (record { span = span; ty = t; form = s (P.Pattern (map of_expr es)) })
  layer_pattern span t es = expr_layer (P.Pattern es) (eform.Pattern es) (V.rolls-Pattern es) span t

  pub layer_paren : (span : Span) (t : Option Ty) (e : PExpr) → of_expr (record { span = span; ty = t; form = eform.Paren e }) ≡ s' (record { span = span; ty = t; form = s (P.Paren (of_expr e)) })
  layer_paren span t e = expr_layer (P.Paren e) (eform.Paren e) (V.rolls-Paren e) span t

  pub layer_call : (span : Span) (t : Option Ty) (f : FunId) (es : List PExpr) → of_expr (record { span = span; ty = t; form = eform.Call f es }) ≡ s' (record { span = span; ty = t; form = s (P.Call f (map of_expr es)) })
  layer_call span t f es = expr_layer (P.Call f es) (eform.Call f es) (V.rolls-Call f es) span t

  pub layer_new : (span : Span) (t : Option Ty) (d : StructId) (fs : List PField) → of_expr (record { span = span; ty = t; form = eform.New d fs }) ≡ s' (record { span = span; ty = t; form = s (P.New d (map of_field fs)) })
  layer_new span t d fs = expr_layer (P.New d fs) (eform.New d fs) (V.rolls-New d fs) span t

  pub layer_braces : (span : Span) (t : Option Ty) (es : List PExpr) → of_expr (record { span = span; ty = t; form = eform.Braces es }) ≡ s' (record { span = span; ty = t; form = s (P.Braces (map of_expr es)) })
  layer_braces span t es = expr_layer (P.Braces es) (eform.Braces es) (V.rolls-Braces es) span t

  pub layer_member : (span : Span) (t : Option Ty) (e : PExpr) (d : StructId) (k : ℕ) → of_expr (record { span = span; ty = t; form = eform.Member e d k }) ≡ s' (record { span = span; ty = t; form = s (P.Member (of_expr e) d k) })
  layer_member span t e d k = expr_layer (P.Member e d k) (eform.Member e d k) (V.rolls-Member e d k) span t

  pub layer_index : (span : Span) (t : Option Ty) (e : PExpr) (i : PExpr) → of_expr (record { span = span; ty = t; form = eform.Index e i }) ≡ s' (record { span = span; ty = t; form = s (P.Index (of_expr e) (of_expr i)) })
  layer_index span t e i = expr_layer (P.Index e i) (eform.Index e i) (V.rolls-Index e i) span t

  pub layer_slice : (span : Span) (t : Option Ty) (e : PExpr) (i : PExpr) (n : ℕ) → of_expr (record { span = span; ty = t; form = eform.Slice e i n }) ≡ s' (record { span = span; ty = t; form = s (P.Slice (of_expr e) (of_expr i) n) })
  layer_slice span t e i n = expr_layer (P.Slice e i n) (eform.Slice e i n) (V.rolls-Slice e i n) span t

  pub layer_unary : (span : Span) (t : Option Ty) (o : UnOp) (e : PExpr) → of_expr (record { span = span; ty = t; form = eform.Unary o e }) ≡ s' (record { span = span; ty = t; form = s (P.Unary o (of_expr e)) })
  layer_unary span t o e = expr_layer (P.Unary o e) (eform.Unary o e) (V.rolls-Unary o e) span t

  pub layer_binary : (span : Span) (t : Option Ty) (o : BinOp) (a : PExpr) (b : PExpr) → of_expr (record { span = span; ty = t; form = eform.Binary o a b }) ≡ s' (record { span = span; ty = t; form = s (P.Binary o (of_expr a) (of_expr b)) })
  layer_binary span t o a b = expr_layer (P.Binary o a b) (eform.Binary o a b) (V.rolls-Binary o a b) span t

  pub layer_cond : (span : Span) (t : Option Ty) (c : PExpr) (a : PExpr) (b : PExpr) → of_expr (record { span = span; ty = t; form = eform.Cond c a b }) ≡ s' (record { span = span; ty = t; form = s (P.Cond (of_expr c) (of_expr a) (of_expr b)) })
  layer_cond span t c a b = expr_layer (P.Cond c a b) (eform.Cond c a b) (V.rolls-Cond c a b) span t

  pub layer_to_int : (span : Span) (t : Option Ty) (e : PExpr) → of_expr (record { span = span; ty = t; form = eform.ToInt e }) ≡ s' (record { span = span; ty = t; form = s (P.ToInt (of_expr e)) })
  layer_to_int span t e = expr_layer (P.ToInt e) (eform.ToInt e) (V.rolls-ToInt e) span t

  pub layer_pad : (span : Span) (t : Option Ty) (e : PExpr) → of_expr (record { span = span; ty = t; form = eform.Pad e }) ≡ s' (record { span = span; ty = t; form = s (P.Pad (of_expr e)) })
  layer_pad span t e = expr_layer (P.Pad e) (eform.Pad e) (V.rolls-Pad e) span t

pub ruleset expr_layers = (layer_field, layer_number, layer_true, layer_false, layer_null, layer_var, layer_const, layer_hole, layer_pattern, layer_paren, layer_call, layer_new, layer_braces, layer_member, layer_index, layer_slice, layer_unary, layer_binary, layer_cond, layer_to_int, layer_pad)

module _ (B B' : Type 0) (s : S.PForm-F B B' → B) (s' : S.PStmt-F B B' → B') where
  abbrev of_pform : PForm → B
  of_pform = fold-PForm B B' s s'

  abbrev of_stmt : PStmt → B'
  of_stmt = fold-PStmt B B' s s'

  pub stmt_layer : (x : S.PForm-F PForm PStmt) (form : PForm) → W.roll-PForm x ≡ form → (span : Span) → of_stmt (record { span = span; form = form }) ≡ s' (record { span = span; form = s (map-PForm PForm PStmt B B' of_pform of_stmt x) })
  stmt_layer x form is span = subst (λ f. of_stmt (record { span = span; form = f }) ≡ s' (record { span = span; form = s (map-PForm PForm PStmt B B' of_pform of_stmt x) })) is
      (fold-roll-PStmt B B' s s' (record { span = span; form = W.roll-PForm x })
      ∙ ap (λ b. s' (record { span = span; form = b })) (fold-roll-PForm B B' s s' x))

  pub layer_of_block : (span : Span) (ss : List PStmt) → of_stmt (record { span = span; form = form.Block ss }) ≡ s' (record { span = span; form = s (S.Block (map of_stmt ss)) })
  layer_of_block span ss = stmt_layer (S.Block ss) (form.Block ss) (W.rolls-Block ss) span

  pub layer_of_declare : (span : Span) (slot : ℕ) (x : Name) (t : Ty) (e : Option PExpr) → of_stmt (record { span = span; form = form.Declare slot x t e }) ≡ s' (record { span = span; form = s (S.Declare slot x t e) })
  layer_of_declare span slot x t e = stmt_layer (S.Declare slot x t e) (form.Declare slot x t e) (W.rolls-Declare slot x t e) span

  pub layer_of_assign : (span : Span) (a : PExpr) (e : PExpr) → of_stmt (record { span = span; form = form.Assign a e }) ≡ s' (record { span = span; form = s (S.Assign a e) })
  layer_of_assign span a e = stmt_layer (S.Assign a e) (form.Assign a e) (W.rolls-Assign a e) span

  pub layer_of_call : (span : Span) (e : PExpr) → of_stmt (record { span = span; form = form.Call e }) ≡ s' (record { span = span; form = s (S.Call e) })
  layer_of_call span e = stmt_layer (S.Call e) (form.Call e) (W.rolls-Call e) span

  pub layer_of_if : (span : Span) (c : PExpr) (a : PStmt) → of_stmt (record { span = span; form = form.If c a None }) ≡ s' (record { span = span; form = s (S.If c (of_stmt a) None) })
  layer_of_if span c a = stmt_layer (S.If c a None) (form.If c a None) (W.rolls-If c a None) span

  pub layer_of_if_else : (span : Span) (c : PExpr) (a : PStmt) (b : PStmt) → of_stmt (record { span = span; form = form.If c a (Some b) }) ≡ s' (record { span = span; form = s (S.If c (of_stmt a) (Some (of_stmt b))) })
  layer_of_if_else span c a b = stmt_layer (S.If c a (Some b)) (form.If c a (Some b)) (W.rolls-If c a (Some b)) span

  pub layer_of_while : (span : Span) (c : PExpr) (a : PStmt) → of_stmt (record { span = span; form = form.While c a }) ≡ s' (record { span = span; form = s (S.While c (of_stmt a)) })
  layer_of_while span c a = stmt_layer (S.While c a) (form.While c a) (W.rolls-While c a) span

  pub layer_of_return : (span : Span) (e : Option PExpr) → of_stmt (record { span = span; form = form.Return e }) ≡ s' (record { span = span; form = s (S.Return e) })
  layer_of_return span e = stmt_layer (S.Return e) (form.Return e) (W.rolls-Return e) span

  pub layer_of_assert : (span : Span) (e : PExpr) → of_stmt (record { span = span; form = form.Assert e }) ≡ s' (record { span = span; form = s (S.Assert e) })
  layer_of_assert span e = stmt_layer (S.Assert e) (form.Assert e) (W.rolls-Assert e) span

  pub layer_of_assume : (span : Span) (e : PExpr) → of_stmt (record { span = span; form = form.Assume e }) ≡ s' (record { span = span; form = s (S.Assume e) })
  layer_of_assume span e = stmt_layer (S.Assume e) (form.Assume e) (W.rolls-Assume e) span

  pub layer_of_minimize : (span : Span) (e : PExpr) → of_stmt (record { span = span; form = form.Minimize e }) ≡ s' (record { span = span; form = s (S.Minimize e) })
  layer_of_minimize span e = stmt_layer (S.Minimize e) (form.Minimize e) (W.rolls-Minimize e) span

  pub layer_of_repeat : (span : Span) (c : PExpr) (ss : List PStmt) → of_stmt (record { span = span; form = form.Repeat c ss }) ≡ s' (record { span = span; form = s (S.Repeat c (map of_stmt ss)) })
  layer_of_repeat span c ss = stmt_layer (S.Repeat c ss) (form.Repeat c ss) (W.rolls-Repeat c ss) span

  pub layer_of_minrepeat : (span : Span) (ss : List PStmt) → of_stmt (record { span = span; form = form.MinRepeat ss }) ≡ s' (record { span = span; form = s (S.MinRepeat (map of_stmt ss)) })
  layer_of_minrepeat span ss = stmt_layer (S.MinRepeat ss) (form.MinRepeat ss) (W.rolls-MinRepeat ss) span

  pub layer_of_reorder : (span : Span) (ss : List PStmt) → of_stmt (record { span = span; form = form.Reorder ss }) ≡ s' (record { span = span; form = s (S.Reorder (map of_stmt ss)) })
  layer_of_reorder span ss = stmt_layer (S.Reorder ss) (form.Reorder ss) (W.rolls-Reorder ss) span

pub ruleset stmt_layers = (layer_of_block, layer_of_declare, layer_of_assign, layer_of_call, layer_of_if, layer_of_if_else, layer_of_while, layer_of_return, layer_of_assert, layer_of_assume, layer_of_minimize, layer_of_repeat, layer_of_minrepeat, layer_of_reorder)

-- the same of folds to functions, at an argument

module _ (A X Y A'' : Type 0) (s : P.PEForm-F A (X → Y) A'' → A) (s' : P.PExpr-F A (X → Y) A'' → X → Y) (s'' : P.PField-F A (X → Y) A'' → A'') where
  abbrev fun_expr : PExpr → X → Y
  fun_expr = fold-PExpr A (X → Y) A'' s s' s''

  abbrev fun_field : PField → A''
  fun_field = fold-PField A (X → Y) A'' s s' s''

  pub layer_number_at : (span : Span) (t : Option Ty) (n : ℕ) (k : X) → fun_expr (record { span = span; ty = t; form = eform.Number n }) k ≡ s' (record { span = span; ty = t; form = s (P.Number n) }) k
  layer_number_at span t n k = ap (λ f. f k) (layer_number A (X → Y) A'' s s' s'' span t n)

  pub layer_true_at : (span : Span) (t : Option Ty) (k : X) → fun_expr (record { span = span; ty = t; form = eform.True }) k ≡ s' (record { span = span; ty = t; form = s P.True }) k
  layer_true_at span t k = ap (λ f. f k) (layer_true A (X → Y) A'' s s' s'' span t)

  pub layer_false_at : (span : Span) (t : Option Ty) (k : X) → fun_expr (record { span = span; ty = t; form = eform.False }) k ≡ s' (record { span = span; ty = t; form = s P.False }) k
  layer_false_at span t k = ap (λ f. f k) (layer_false A (X → Y) A'' s s' s'' span t)

  pub layer_null_at : (span : Span) (t : Option Ty) (k : X) → fun_expr (record { span = span; ty = t; form = eform.Null }) k ≡ s' (record { span = span; ty = t; form = s P.Null }) k
  layer_null_at span t k = ap (λ f. f k) (layer_null A (X → Y) A'' s s' s'' span t)

  pub layer_var_at : (span : Span) (t : Option Ty) (slot : ℕ) (x : Name) (k : X) → fun_expr (record { span = span; ty = t; form = eform.Var slot x }) k ≡ s' (record { span = span; ty = t; form = s (P.Var slot x) }) k
  layer_var_at span t slot x k = ap (λ f. f k) (layer_var A (X → Y) A'' s s' s'' span t slot x)

  pub layer_const_at : (span : Span) (t : Option Ty) (c : ConstId) (k : X) → fun_expr (record { span = span; ty = t; form = eform.Const c }) k ≡ s' (record { span = span; ty = t; form = s (P.Const c) }) k
  layer_const_at span t c k = ap (λ f. f k) (layer_const A (X → Y) A'' s s' s'' span t c)

  pub layer_hole_at : (span : Span) (t : Option Ty) (bits : Option ℕ) (k : X) → fun_expr (record { span = span; ty = t; form = eform.Hole bits }) k ≡ s' (record { span = span; ty = t; form = s (P.Hole bits) }) k
  layer_hole_at span t bits k = ap (λ f. f k) (layer_hole A (X → Y) A'' s s' s'' span t bits)

  pub layer_pattern_at : (span : Span) (t : Option Ty) (es : List PExpr) (k : X) → fun_expr (record { span = span; ty = t; form = eform.Pattern es }) k ≡ s' (record { span = span; ty = t; form = s (P.Pattern (map fun_expr es)) }) k
  layer_pattern_at span t es k = ap (λ f. f k) (layer_pattern A (X → Y) A'' s s' s'' span t es)

  pub layer_paren_at : (span : Span) (t : Option Ty) (e : PExpr) (k : X) → fun_expr (record { span = span; ty = t; form = eform.Paren e }) k ≡ s' (record { span = span; ty = t; form = s (P.Paren (fun_expr e)) }) k
  layer_paren_at span t e k = ap (λ f. f k) (layer_paren A (X → Y) A'' s s' s'' span t e)

  pub layer_call_at : (span : Span) (t : Option Ty) (f : FunId) (es : List PExpr) (k : X) → fun_expr (record { span = span; ty = t; form = eform.Call f es }) k ≡ s' (record { span = span; ty = t; form = s (P.Call f (map fun_expr es)) }) k
  layer_call_at span t f es k = ap (λ f. f k) (layer_call A (X → Y) A'' s s' s'' span t f es)

  pub layer_new_at : (span : Span) (t : Option Ty) (d : StructId) (fs : List PField) (k : X) → fun_expr (record { span = span; ty = t; form = eform.New d fs }) k ≡ s' (record { span = span; ty = t; form = s (P.New d (map fun_field fs)) }) k
  layer_new_at span t d fs k = ap (λ f. f k) (layer_new A (X → Y) A'' s s' s'' span t d fs)

  pub layer_braces_at : (span : Span) (t : Option Ty) (es : List PExpr) (k : X) → fun_expr (record { span = span; ty = t; form = eform.Braces es }) k ≡ s' (record { span = span; ty = t; form = s (P.Braces (map fun_expr es)) }) k
  layer_braces_at span t es k = ap (λ f. f k) (layer_braces A (X → Y) A'' s s' s'' span t es)

  pub layer_member_at : (span : Span) (t : Option Ty) (e : PExpr) (d : StructId) (j : ℕ) (k : X) → fun_expr (record { span = span; ty = t; form = eform.Member e d j }) k ≡ s' (record { span = span; ty = t; form = s (P.Member (fun_expr e) d j) }) k
  layer_member_at span t e d j k = ap (λ f. f k) (layer_member A (X → Y) A'' s s' s'' span t e d j)

  pub layer_index_at : (span : Span) (t : Option Ty) (e : PExpr) (i : PExpr) (k : X) → fun_expr (record { span = span; ty = t; form = eform.Index e i }) k ≡ s' (record { span = span; ty = t; form = s (P.Index (fun_expr e) (fun_expr i)) }) k
  layer_index_at span t e i k = ap (λ f. f k) (layer_index A (X → Y) A'' s s' s'' span t e i)

  pub layer_slice_at : (span : Span) (t : Option Ty) (e : PExpr) (i : PExpr) (n : ℕ) (k : X) → fun_expr (record { span = span; ty = t; form = eform.Slice e i n }) k ≡ s' (record { span = span; ty = t; form = s (P.Slice (fun_expr e) (fun_expr i) n) }) k
  layer_slice_at span t e i n k = ap (λ f. f k) (layer_slice A (X → Y) A'' s s' s'' span t e i n)

  pub layer_unary_at : (span : Span) (t : Option Ty) (o : UnOp) (e : PExpr) (k : X) → fun_expr (record { span = span; ty = t; form = eform.Unary o e }) k ≡ s' (record { span = span; ty = t; form = s (P.Unary o (fun_expr e)) }) k
  layer_unary_at span t o e k = ap (λ f. f k) (layer_unary A (X → Y) A'' s s' s'' span t o e)

  pub layer_binary_at : (span : Span) (t : Option Ty) (o : BinOp) (a : PExpr) (b : PExpr) (k : X) → fun_expr (record { span = span; ty = t; form = eform.Binary o a b }) k ≡ s' (record { span = span; ty = t; form = s (P.Binary o (fun_expr a) (fun_expr b)) }) k
  layer_binary_at span t o a b k = ap (λ f. f k) (layer_binary A (X → Y) A'' s s' s'' span t o a b)

  pub layer_cond_at : (span : Span) (t : Option Ty) (c : PExpr) (a : PExpr) (b : PExpr) (k : X) → fun_expr (record { span = span; ty = t; form = eform.Cond c a b }) k ≡ s' (record { span = span; ty = t; form = s (P.Cond (fun_expr c) (fun_expr a) (fun_expr b)) }) k
  layer_cond_at span t c a b k = ap (λ f. f k) (layer_cond A (X → Y) A'' s s' s'' span t c a b)

  pub layer_to_int_at : (span : Span) (t : Option Ty) (e : PExpr) (k : X) → fun_expr (record { span = span; ty = t; form = eform.ToInt e }) k ≡ s' (record { span = span; ty = t; form = s (P.ToInt (fun_expr e)) }) k
  layer_to_int_at span t e k = ap (λ f. f k) (layer_to_int A (X → Y) A'' s s' s'' span t e)

  pub layer_pad_at : (span : Span) (t : Option Ty) (e : PExpr) (k : X) → fun_expr (record { span = span; ty = t; form = eform.Pad e }) k ≡ s' (record { span = span; ty = t; form = s (P.Pad (fun_expr e)) }) k
  layer_pad_at span t e k = ap (λ f. f k) (layer_pad A (X → Y) A'' s s' s'' span t e)

pub ruleset expr_layers_at = (layer_number_at, layer_true_at, layer_false_at, layer_null_at, layer_var_at, layer_const_at, layer_hole_at, layer_pattern_at, layer_paren_at, layer_call_at, layer_new_at, layer_braces_at, layer_member_at, layer_index_at, layer_slice_at, layer_unary_at, layer_binary_at, layer_cond_at, layer_to_int_at, layer_pad_at)

module _ (B X Y : Type 0) (s : S.PForm-F B (X → Y) → B) (s' : S.PStmt-F B (X → Y) → X → Y) where
  abbrev fun_stmt : PStmt → X → Y
  fun_stmt = fold-PStmt B (X → Y) s s'

  pub layer_of_block_at : (span : Span) (ss : List PStmt) (k : X) → fun_stmt (record { span = span; form = form.Block ss }) k ≡ s' (record { span = span; form = s (S.Block (map fun_stmt ss)) }) k
  layer_of_block_at span ss k = ap (λ f. f k) (layer_of_block B (X → Y) s s' span ss)

  pub layer_of_declare_at : (span : Span) (slot : ℕ) (x : Name) (t : Ty) (e : Option PExpr) (k : X) → fun_stmt (record { span = span; form = form.Declare slot x t e }) k ≡ s' (record { span = span; form = s (S.Declare slot x t e) }) k
  layer_of_declare_at span slot x t e k = ap (λ f. f k) (layer_of_declare B (X → Y) s s' span slot x t e)

  pub layer_of_assign_at : (span : Span) (a : PExpr) (e : PExpr) (k : X) → fun_stmt (record { span = span; form = form.Assign a e }) k ≡ s' (record { span = span; form = s (S.Assign a e) }) k
  layer_of_assign_at span a e k = ap (λ f. f k) (layer_of_assign B (X → Y) s s' span a e)

  pub layer_of_call_at : (span : Span) (e : PExpr) (k : X) → fun_stmt (record { span = span; form = form.Call e }) k ≡ s' (record { span = span; form = s (S.Call e) }) k
  layer_of_call_at span e k = ap (λ f. f k) (layer_of_call B (X → Y) s s' span e)

  pub layer_of_if_at : (span : Span) (c : PExpr) (a : PStmt) (k : X) → fun_stmt (record { span = span; form = form.If c a None }) k ≡ s' (record { span = span; form = s (S.If c (fun_stmt a) None) }) k
  layer_of_if_at span c a k = ap (λ f. f k) (layer_of_if B (X → Y) s s' span c a)

  pub layer_of_if_else_at : (span : Span) (c : PExpr) (a : PStmt) (b : PStmt) (k : X) → fun_stmt (record { span = span; form = form.If c a (Some b) }) k ≡ s' (record { span = span; form = s (S.If c (fun_stmt a) (Some (fun_stmt b))) }) k
  layer_of_if_else_at span c a b k = ap (λ f. f k) (layer_of_if_else B (X → Y) s s' span c a b)

  pub layer_of_while_at : (span : Span) (c : PExpr) (a : PStmt) (k : X) → fun_stmt (record { span = span; form = form.While c a }) k ≡ s' (record { span = span; form = s (S.While c (fun_stmt a)) }) k
  layer_of_while_at span c a k = ap (λ f. f k) (layer_of_while B (X → Y) s s' span c a)

  pub layer_of_return_at : (span : Span) (e : Option PExpr) (k : X) → fun_stmt (record { span = span; form = form.Return e }) k ≡ s' (record { span = span; form = s (S.Return e) }) k
  layer_of_return_at span e k = ap (λ f. f k) (layer_of_return B (X → Y) s s' span e)

  pub layer_of_assert_at : (span : Span) (e : PExpr) (k : X) → fun_stmt (record { span = span; form = form.Assert e }) k ≡ s' (record { span = span; form = s (S.Assert e) }) k
  layer_of_assert_at span e k = ap (λ f. f k) (layer_of_assert B (X → Y) s s' span e)

  pub layer_of_assume_at : (span : Span) (e : PExpr) (k : X) → fun_stmt (record { span = span; form = form.Assume e }) k ≡ s' (record { span = span; form = s (S.Assume e) }) k
  layer_of_assume_at span e k = ap (λ f. f k) (layer_of_assume B (X → Y) s s' span e)

  pub layer_of_minimize_at : (span : Span) (e : PExpr) (k : X) → fun_stmt (record { span = span; form = form.Minimize e }) k ≡ s' (record { span = span; form = s (S.Minimize e) }) k
  layer_of_minimize_at span e k = ap (λ f. f k) (layer_of_minimize B (X → Y) s s' span e)

  pub layer_of_repeat_at : (span : Span) (c : PExpr) (ss : List PStmt) (k : X) → fun_stmt (record { span = span; form = form.Repeat c ss }) k ≡ s' (record { span = span; form = s (S.Repeat c (map fun_stmt ss)) }) k
  layer_of_repeat_at span c ss k = ap (λ f. f k) (layer_of_repeat B (X → Y) s s' span c ss)

  pub layer_of_minrepeat_at : (span : Span) (ss : List PStmt) (k : X) → fun_stmt (record { span = span; form = form.MinRepeat ss }) k ≡ s' (record { span = span; form = s (S.MinRepeat (map fun_stmt ss)) }) k
  layer_of_minrepeat_at span ss k = ap (λ f. f k) (layer_of_minrepeat B (X → Y) s s' span ss)

  pub layer_of_reorder_at : (span : Span) (ss : List PStmt) (k : X) → fun_stmt (record { span = span; form = form.Reorder ss }) k ≡ s' (record { span = span; form = s (S.Reorder (map fun_stmt ss)) }) k
  layer_of_reorder_at span ss k = ap (λ f. f k) (layer_of_reorder B (X → Y) s s' span ss)

pub ruleset stmt_layers_at = (layer_of_block_at, layer_of_declare_at, layer_of_assign_at, layer_of_call_at, layer_of_if_at, layer_of_if_else_at, layer_of_while_at, layer_of_return_at, layer_of_assert_at, layer_of_assume_at, layer_of_minimize_at, layer_of_repeat_at, layer_of_minrepeat_at, layer_of_reorder_at)

-- the same of folds to parts

module _ (A Z A'' : Type 0) (s : P.PEForm-F A (Part Z) A'' → A) (s' : P.PExpr-F A (Part Z) A'' → Part Z) (s'' : P.PField-F A (Part Z) A'' → A'') where
  abbrev part_expr : PExpr → Part Z
  part_expr = fold-PExpr A (Part Z) A'' s s' s''

  abbrev part_field : PField → A''
  part_field = fold-PField A (Part Z) A'' s s' s''

  pub layer_number_count : (span : Span) (t : Option Ty) (n : ℕ) → (part_expr (record { span = span; ty = t; form = eform.Number n })).count ≡ (s' (record { span = span; ty = t; form = s (P.Number n) })).count
  layer_number_count span t n = ap (λ p. p.count) (layer_number A (Part Z) A'' s s' s'' span t n)

  pub layer_number_place : (span : Span) (t : Option Ty) (n : ℕ) (k : ℕ) → (part_expr (record { span = span; ty = t; form = eform.Number n })).at k ≡ (s' (record { span = span; ty = t; form = s (P.Number n) })).at k
  layer_number_place span t n k = ap (λ p. p.at k) (layer_number A (Part Z) A'' s s' s'' span t n)

  pub layer_true_count : (span : Span) (t : Option Ty) → (part_expr (record { span = span; ty = t; form = eform.True })).count ≡ (s' (record { span = span; ty = t; form = s P.True })).count
  layer_true_count span t = ap (λ p. p.count) (layer_true A (Part Z) A'' s s' s'' span t)

  pub layer_true_place : (span : Span) (t : Option Ty) (k : ℕ) → (part_expr (record { span = span; ty = t; form = eform.True })).at k ≡ (s' (record { span = span; ty = t; form = s P.True })).at k
  layer_true_place span t k = ap (λ p. p.at k) (layer_true A (Part Z) A'' s s' s'' span t)

  pub layer_false_count : (span : Span) (t : Option Ty) → (part_expr (record { span = span; ty = t; form = eform.False })).count ≡ (s' (record { span = span; ty = t; form = s P.False })).count
  layer_false_count span t = ap (λ p. p.count) (layer_false A (Part Z) A'' s s' s'' span t)

  pub layer_false_place : (span : Span) (t : Option Ty) (k : ℕ) → (part_expr (record { span = span; ty = t; form = eform.False })).at k ≡ (s' (record { span = span; ty = t; form = s P.False })).at k
  layer_false_place span t k = ap (λ p. p.at k) (layer_false A (Part Z) A'' s s' s'' span t)

  pub layer_null_count : (span : Span) (t : Option Ty) → (part_expr (record { span = span; ty = t; form = eform.Null })).count ≡ (s' (record { span = span; ty = t; form = s P.Null })).count
  layer_null_count span t = ap (λ p. p.count) (layer_null A (Part Z) A'' s s' s'' span t)

  pub layer_null_place : (span : Span) (t : Option Ty) (k : ℕ) → (part_expr (record { span = span; ty = t; form = eform.Null })).at k ≡ (s' (record { span = span; ty = t; form = s P.Null })).at k
  layer_null_place span t k = ap (λ p. p.at k) (layer_null A (Part Z) A'' s s' s'' span t)

  pub layer_var_count : (span : Span) (t : Option Ty) (slot : ℕ) (x : Name) → (part_expr (record { span = span; ty = t; form = eform.Var slot x })).count ≡ (s' (record { span = span; ty = t; form = s (P.Var slot x) })).count
  layer_var_count span t slot x = ap (λ p. p.count) (layer_var A (Part Z) A'' s s' s'' span t slot x)

  pub layer_var_place : (span : Span) (t : Option Ty) (slot : ℕ) (x : Name) (k : ℕ) → (part_expr (record { span = span; ty = t; form = eform.Var slot x })).at k ≡ (s' (record { span = span; ty = t; form = s (P.Var slot x) })).at k
  layer_var_place span t slot x k = ap (λ p. p.at k) (layer_var A (Part Z) A'' s s' s'' span t slot x)

  pub layer_const_count : (span : Span) (t : Option Ty) (c : ConstId) → (part_expr (record { span = span; ty = t; form = eform.Const c })).count ≡ (s' (record { span = span; ty = t; form = s (P.Const c) })).count
  layer_const_count span t c = ap (λ p. p.count) (layer_const A (Part Z) A'' s s' s'' span t c)

  pub layer_const_place : (span : Span) (t : Option Ty) (c : ConstId) (k : ℕ) → (part_expr (record { span = span; ty = t; form = eform.Const c })).at k ≡ (s' (record { span = span; ty = t; form = s (P.Const c) })).at k
  layer_const_place span t c k = ap (λ p. p.at k) (layer_const A (Part Z) A'' s s' s'' span t c)

  pub layer_hole_count : (span : Span) (t : Option Ty) (bits : Option ℕ) → (part_expr (record { span = span; ty = t; form = eform.Hole bits })).count ≡ (s' (record { span = span; ty = t; form = s (P.Hole bits) })).count
  layer_hole_count span t bits = ap (λ p. p.count) (layer_hole A (Part Z) A'' s s' s'' span t bits)

  pub layer_hole_place : (span : Span) (t : Option Ty) (bits : Option ℕ) (k : ℕ) → (part_expr (record { span = span; ty = t; form = eform.Hole bits })).at k ≡ (s' (record { span = span; ty = t; form = s (P.Hole bits) })).at k
  layer_hole_place span t bits k = ap (λ p. p.at k) (layer_hole A (Part Z) A'' s s' s'' span t bits)

  pub layer_pattern_count : (span : Span) (t : Option Ty) (es : List PExpr) → (part_expr (record { span = span; ty = t; form = eform.Pattern es })).count ≡ (s' (record { span = span; ty = t; form = s (P.Pattern (map part_expr es)) })).count
  layer_pattern_count span t es = ap (λ p. p.count) (layer_pattern A (Part Z) A'' s s' s'' span t es)

  pub layer_pattern_place : (span : Span) (t : Option Ty) (es : List PExpr) (k : ℕ) → (part_expr (record { span = span; ty = t; form = eform.Pattern es })).at k ≡ (s' (record { span = span; ty = t; form = s (P.Pattern (map part_expr es)) })).at k
  layer_pattern_place span t es k = ap (λ p. p.at k) (layer_pattern A (Part Z) A'' s s' s'' span t es)

  pub layer_paren_count : (span : Span) (t : Option Ty) (e : PExpr) → (part_expr (record { span = span; ty = t; form = eform.Paren e })).count ≡ (s' (record { span = span; ty = t; form = s (P.Paren (part_expr e)) })).count
  layer_paren_count span t e = ap (λ p. p.count) (layer_paren A (Part Z) A'' s s' s'' span t e)

  pub layer_paren_place : (span : Span) (t : Option Ty) (e : PExpr) (k : ℕ) → (part_expr (record { span = span; ty = t; form = eform.Paren e })).at k ≡ (s' (record { span = span; ty = t; form = s (P.Paren (part_expr e)) })).at k
  layer_paren_place span t e k = ap (λ p. p.at k) (layer_paren A (Part Z) A'' s s' s'' span t e)

  pub layer_call_count : (span : Span) (t : Option Ty) (f : FunId) (es : List PExpr) → (part_expr (record { span = span; ty = t; form = eform.Call f es })).count ≡ (s' (record { span = span; ty = t; form = s (P.Call f (map part_expr es)) })).count
  layer_call_count span t f es = ap (λ p. p.count) (layer_call A (Part Z) A'' s s' s'' span t f es)

  pub layer_call_place : (span : Span) (t : Option Ty) (f : FunId) (es : List PExpr) (k : ℕ) → (part_expr (record { span = span; ty = t; form = eform.Call f es })).at k ≡ (s' (record { span = span; ty = t; form = s (P.Call f (map part_expr es)) })).at k
  layer_call_place span t f es k = ap (λ p. p.at k) (layer_call A (Part Z) A'' s s' s'' span t f es)

  pub layer_new_count : (span : Span) (t : Option Ty) (d : StructId) (fs : List PField) → (part_expr (record { span = span; ty = t; form = eform.New d fs })).count ≡ (s' (record { span = span; ty = t; form = s (P.New d (map part_field fs)) })).count
  layer_new_count span t d fs = ap (λ p. p.count) (layer_new A (Part Z) A'' s s' s'' span t d fs)

  pub layer_new_place : (span : Span) (t : Option Ty) (d : StructId) (fs : List PField) (k : ℕ) → (part_expr (record { span = span; ty = t; form = eform.New d fs })).at k ≡ (s' (record { span = span; ty = t; form = s (P.New d (map part_field fs)) })).at k
  layer_new_place span t d fs k = ap (λ p. p.at k) (layer_new A (Part Z) A'' s s' s'' span t d fs)

  pub layer_braces_count : (span : Span) (t : Option Ty) (es : List PExpr) → (part_expr (record { span = span; ty = t; form = eform.Braces es })).count ≡ (s' (record { span = span; ty = t; form = s (P.Braces (map part_expr es)) })).count
  layer_braces_count span t es = ap (λ p. p.count) (layer_braces A (Part Z) A'' s s' s'' span t es)

  pub layer_braces_place : (span : Span) (t : Option Ty) (es : List PExpr) (k : ℕ) → (part_expr (record { span = span; ty = t; form = eform.Braces es })).at k ≡ (s' (record { span = span; ty = t; form = s (P.Braces (map part_expr es)) })).at k
  layer_braces_place span t es k = ap (λ p. p.at k) (layer_braces A (Part Z) A'' s s' s'' span t es)

  pub layer_member_count : (span : Span) (t : Option Ty) (e : PExpr) (d : StructId) (k : ℕ) → (part_expr (record { span = span; ty = t; form = eform.Member e d k })).count ≡ (s' (record { span = span; ty = t; form = s (P.Member (part_expr e) d k) })).count
  layer_member_count span t e d k = ap (λ p. p.count) (layer_member A (Part Z) A'' s s' s'' span t e d k)

  pub layer_member_place : (span : Span) (t : Option Ty) (e : PExpr) (d : StructId) (k : ℕ) (m : ℕ) → (part_expr (record { span = span; ty = t; form = eform.Member e d k })).at m ≡ (s' (record { span = span; ty = t; form = s (P.Member (part_expr e) d k) })).at m
  layer_member_place span t e d k m = ap (λ p. p.at m) (layer_member A (Part Z) A'' s s' s'' span t e d k)

  pub layer_index_count : (span : Span) (t : Option Ty) (e : PExpr) (i : PExpr) → (part_expr (record { span = span; ty = t; form = eform.Index e i })).count ≡ (s' (record { span = span; ty = t; form = s (P.Index (part_expr e) (part_expr i)) })).count
  layer_index_count span t e i = ap (λ p. p.count) (layer_index A (Part Z) A'' s s' s'' span t e i)

  pub layer_index_place : (span : Span) (t : Option Ty) (e : PExpr) (i : PExpr) (k : ℕ) → (part_expr (record { span = span; ty = t; form = eform.Index e i })).at k ≡ (s' (record { span = span; ty = t; form = s (P.Index (part_expr e) (part_expr i)) })).at k
  layer_index_place span t e i k = ap (λ p. p.at k) (layer_index A (Part Z) A'' s s' s'' span t e i)

  pub layer_slice_count : (span : Span) (t : Option Ty) (e : PExpr) (i : PExpr) (n : ℕ) → (part_expr (record { span = span; ty = t; form = eform.Slice e i n })).count ≡ (s' (record { span = span; ty = t; form = s (P.Slice (part_expr e) (part_expr i) n) })).count
  layer_slice_count span t e i n = ap (λ p. p.count) (layer_slice A (Part Z) A'' s s' s'' span t e i n)

  pub layer_slice_place : (span : Span) (t : Option Ty) (e : PExpr) (i : PExpr) (n : ℕ) (k : ℕ) → (part_expr (record { span = span; ty = t; form = eform.Slice e i n })).at k ≡ (s' (record { span = span; ty = t; form = s (P.Slice (part_expr e) (part_expr i) n) })).at k
  layer_slice_place span t e i n k = ap (λ p. p.at k) (layer_slice A (Part Z) A'' s s' s'' span t e i n)

  pub layer_unary_count : (span : Span) (t : Option Ty) (o : UnOp) (e : PExpr) → (part_expr (record { span = span; ty = t; form = eform.Unary o e })).count ≡ (s' (record { span = span; ty = t; form = s (P.Unary o (part_expr e)) })).count
  layer_unary_count span t o e = ap (λ p. p.count) (layer_unary A (Part Z) A'' s s' s'' span t o e)

  pub layer_unary_place : (span : Span) (t : Option Ty) (o : UnOp) (e : PExpr) (k : ℕ) → (part_expr (record { span = span; ty = t; form = eform.Unary o e })).at k ≡ (s' (record { span = span; ty = t; form = s (P.Unary o (part_expr e)) })).at k
  layer_unary_place span t o e k = ap (λ p. p.at k) (layer_unary A (Part Z) A'' s s' s'' span t o e)

  pub layer_binary_count : (span : Span) (t : Option Ty) (o : BinOp) (a : PExpr) (b : PExpr) → (part_expr (record { span = span; ty = t; form = eform.Binary o a b })).count ≡ (s' (record { span = span; ty = t; form = s (P.Binary o (part_expr a) (part_expr b)) })).count
  layer_binary_count span t o a b = ap (λ p. p.count) (layer_binary A (Part Z) A'' s s' s'' span t o a b)

  pub layer_binary_place : (span : Span) (t : Option Ty) (o : BinOp) (a : PExpr) (b : PExpr) (k : ℕ) → (part_expr (record { span = span; ty = t; form = eform.Binary o a b })).at k ≡ (s' (record { span = span; ty = t; form = s (P.Binary o (part_expr a) (part_expr b)) })).at k
  layer_binary_place span t o a b k = ap (λ p. p.at k) (layer_binary A (Part Z) A'' s s' s'' span t o a b)

  pub layer_cond_count : (span : Span) (t : Option Ty) (c : PExpr) (a : PExpr) (b : PExpr) → (part_expr (record { span = span; ty = t; form = eform.Cond c a b })).count ≡ (s' (record { span = span; ty = t; form = s (P.Cond (part_expr c) (part_expr a) (part_expr b)) })).count
  layer_cond_count span t c a b = ap (λ p. p.count) (layer_cond A (Part Z) A'' s s' s'' span t c a b)

  pub layer_cond_place : (span : Span) (t : Option Ty) (c : PExpr) (a : PExpr) (b : PExpr) (k : ℕ) → (part_expr (record { span = span; ty = t; form = eform.Cond c a b })).at k ≡ (s' (record { span = span; ty = t; form = s (P.Cond (part_expr c) (part_expr a) (part_expr b)) })).at k
  layer_cond_place span t c a b k = ap (λ p. p.at k) (layer_cond A (Part Z) A'' s s' s'' span t c a b)

  pub layer_to_int_count : (span : Span) (t : Option Ty) (e : PExpr) → (part_expr (record { span = span; ty = t; form = eform.ToInt e })).count ≡ (s' (record { span = span; ty = t; form = s (P.ToInt (part_expr e)) })).count
  layer_to_int_count span t e = ap (λ p. p.count) (layer_to_int A (Part Z) A'' s s' s'' span t e)

  pub layer_to_int_place : (span : Span) (t : Option Ty) (e : PExpr) (k : ℕ) → (part_expr (record { span = span; ty = t; form = eform.ToInt e })).at k ≡ (s' (record { span = span; ty = t; form = s (P.ToInt (part_expr e)) })).at k
  layer_to_int_place span t e k = ap (λ p. p.at k) (layer_to_int A (Part Z) A'' s s' s'' span t e)

  pub layer_pad_count : (span : Span) (t : Option Ty) (e : PExpr) → (part_expr (record { span = span; ty = t; form = eform.Pad e })).count ≡ (s' (record { span = span; ty = t; form = s (P.Pad (part_expr e)) })).count
  layer_pad_count span t e = ap (λ p. p.count) (layer_pad A (Part Z) A'' s s' s'' span t e)

  pub layer_pad_place : (span : Span) (t : Option Ty) (e : PExpr) (k : ℕ) → (part_expr (record { span = span; ty = t; form = eform.Pad e })).at k ≡ (s' (record { span = span; ty = t; form = s (P.Pad (part_expr e)) })).at k
  layer_pad_place span t e k = ap (λ p. p.at k) (layer_pad A (Part Z) A'' s s' s'' span t e)

pub ruleset expr_layers_part = (layer_number_count, layer_number_place, layer_true_count, layer_true_place, layer_false_count, layer_false_place, layer_null_count, layer_null_place, layer_var_count, layer_var_place, layer_const_count, layer_const_place, layer_hole_count, layer_hole_place, layer_pattern_count, layer_pattern_place, layer_paren_count, layer_paren_place, layer_call_count, layer_call_place, layer_new_count, layer_new_place, layer_braces_count, layer_braces_place, layer_member_count, layer_member_place, layer_index_count, layer_index_place, layer_slice_count, layer_slice_place, layer_unary_count, layer_unary_place, layer_binary_count, layer_binary_place, layer_cond_count, layer_cond_place, layer_to_int_count, layer_to_int_place, layer_pad_count, layer_pad_place)

module _ (B Z : Type 0) (s : S.PForm-F B (Part Z) → B) (s' : S.PStmt-F B (Part Z) → Part Z) where
  abbrev part_stmt : PStmt → Part Z
  part_stmt = fold-PStmt B (Part Z) s s'

  pub layer_of_block_count : (span : Span) (ss : List PStmt) → (part_stmt (record { span = span; form = form.Block ss })).count ≡ (s' (record { span = span; form = s (S.Block (map part_stmt ss)) })).count
  layer_of_block_count span ss = ap (λ p. p.count) (layer_of_block B (Part Z) s s' span ss)

  pub layer_of_block_place : (span : Span) (ss : List PStmt) (k : ℕ) → (part_stmt (record { span = span; form = form.Block ss })).at k ≡ (s' (record { span = span; form = s (S.Block (map part_stmt ss)) })).at k
  layer_of_block_place span ss k = ap (λ p. p.at k) (layer_of_block B (Part Z) s s' span ss)

  pub layer_of_declare_count : (span : Span) (slot : ℕ) (x : Name) (t : Ty) (e : Option PExpr) → (part_stmt (record { span = span; form = form.Declare slot x t e })).count ≡ (s' (record { span = span; form = s (S.Declare slot x t e) })).count
  layer_of_declare_count span slot x t e = ap (λ p. p.count) (layer_of_declare B (Part Z) s s' span slot x t e)

  pub layer_of_declare_place : (span : Span) (slot : ℕ) (x : Name) (t : Ty) (e : Option PExpr) (k : ℕ) → (part_stmt (record { span = span; form = form.Declare slot x t e })).at k ≡ (s' (record { span = span; form = s (S.Declare slot x t e) })).at k
  layer_of_declare_place span slot x t e k = ap (λ p. p.at k) (layer_of_declare B (Part Z) s s' span slot x t e)

  pub layer_of_assign_count : (span : Span) (a : PExpr) (e : PExpr) → (part_stmt (record { span = span; form = form.Assign a e })).count ≡ (s' (record { span = span; form = s (S.Assign a e) })).count
  layer_of_assign_count span a e = ap (λ p. p.count) (layer_of_assign B (Part Z) s s' span a e)

  pub layer_of_assign_place : (span : Span) (a : PExpr) (e : PExpr) (k : ℕ) → (part_stmt (record { span = span; form = form.Assign a e })).at k ≡ (s' (record { span = span; form = s (S.Assign a e) })).at k
  layer_of_assign_place span a e k = ap (λ p. p.at k) (layer_of_assign B (Part Z) s s' span a e)

  pub layer_of_call_count : (span : Span) (e : PExpr) → (part_stmt (record { span = span; form = form.Call e })).count ≡ (s' (record { span = span; form = s (S.Call e) })).count
  layer_of_call_count span e = ap (λ p. p.count) (layer_of_call B (Part Z) s s' span e)

  pub layer_of_call_place : (span : Span) (e : PExpr) (k : ℕ) → (part_stmt (record { span = span; form = form.Call e })).at k ≡ (s' (record { span = span; form = s (S.Call e) })).at k
  layer_of_call_place span e k = ap (λ p. p.at k) (layer_of_call B (Part Z) s s' span e)

  pub layer_of_if_count : (span : Span) (c : PExpr) (a : PStmt) → (part_stmt (record { span = span; form = form.If c a None })).count ≡ (s' (record { span = span; form = s (S.If c (part_stmt a) None) })).count
  layer_of_if_count span c a = ap (λ p. p.count) (layer_of_if B (Part Z) s s' span c a)

  pub layer_of_if_place : (span : Span) (c : PExpr) (a : PStmt) (k : ℕ) → (part_stmt (record { span = span; form = form.If c a None })).at k ≡ (s' (record { span = span; form = s (S.If c (part_stmt a) None) })).at k
  layer_of_if_place span c a k = ap (λ p. p.at k) (layer_of_if B (Part Z) s s' span c a)

  pub layer_of_if_else_count : (span : Span) (c : PExpr) (a : PStmt) (b : PStmt) → (part_stmt (record { span = span; form = form.If c a (Some b) })).count ≡ (s' (record { span = span; form = s (S.If c (part_stmt a) (Some (part_stmt b))) })).count
  layer_of_if_else_count span c a b = ap (λ p. p.count) (layer_of_if_else B (Part Z) s s' span c a b)

  pub layer_of_if_else_place : (span : Span) (c : PExpr) (a : PStmt) (b : PStmt) (k : ℕ) → (part_stmt (record { span = span; form = form.If c a (Some b) })).at k ≡ (s' (record { span = span; form = s (S.If c (part_stmt a) (Some (part_stmt b))) })).at k
  layer_of_if_else_place span c a b k = ap (λ p. p.at k) (layer_of_if_else B (Part Z) s s' span c a b)

  pub layer_of_while_count : (span : Span) (c : PExpr) (a : PStmt) → (part_stmt (record { span = span; form = form.While c a })).count ≡ (s' (record { span = span; form = s (S.While c (part_stmt a)) })).count
  layer_of_while_count span c a = ap (λ p. p.count) (layer_of_while B (Part Z) s s' span c a)

  pub layer_of_while_place : (span : Span) (c : PExpr) (a : PStmt) (k : ℕ) → (part_stmt (record { span = span; form = form.While c a })).at k ≡ (s' (record { span = span; form = s (S.While c (part_stmt a)) })).at k
  layer_of_while_place span c a k = ap (λ p. p.at k) (layer_of_while B (Part Z) s s' span c a)

  pub layer_of_return_count : (span : Span) (e : Option PExpr) → (part_stmt (record { span = span; form = form.Return e })).count ≡ (s' (record { span = span; form = s (S.Return e) })).count
  layer_of_return_count span e = ap (λ p. p.count) (layer_of_return B (Part Z) s s' span e)

  pub layer_of_return_place : (span : Span) (e : Option PExpr) (k : ℕ) → (part_stmt (record { span = span; form = form.Return e })).at k ≡ (s' (record { span = span; form = s (S.Return e) })).at k
  layer_of_return_place span e k = ap (λ p. p.at k) (layer_of_return B (Part Z) s s' span e)

  pub layer_of_assert_count : (span : Span) (e : PExpr) → (part_stmt (record { span = span; form = form.Assert e })).count ≡ (s' (record { span = span; form = s (S.Assert e) })).count
  layer_of_assert_count span e = ap (λ p. p.count) (layer_of_assert B (Part Z) s s' span e)

  pub layer_of_assert_place : (span : Span) (e : PExpr) (k : ℕ) → (part_stmt (record { span = span; form = form.Assert e })).at k ≡ (s' (record { span = span; form = s (S.Assert e) })).at k
  layer_of_assert_place span e k = ap (λ p. p.at k) (layer_of_assert B (Part Z) s s' span e)

  pub layer_of_assume_count : (span : Span) (e : PExpr) → (part_stmt (record { span = span; form = form.Assume e })).count ≡ (s' (record { span = span; form = s (S.Assume e) })).count
  layer_of_assume_count span e = ap (λ p. p.count) (layer_of_assume B (Part Z) s s' span e)

  pub layer_of_assume_place : (span : Span) (e : PExpr) (k : ℕ) → (part_stmt (record { span = span; form = form.Assume e })).at k ≡ (s' (record { span = span; form = s (S.Assume e) })).at k
  layer_of_assume_place span e k = ap (λ p. p.at k) (layer_of_assume B (Part Z) s s' span e)

  pub layer_of_minimize_count : (span : Span) (e : PExpr) → (part_stmt (record { span = span; form = form.Minimize e })).count ≡ (s' (record { span = span; form = s (S.Minimize e) })).count
  layer_of_minimize_count span e = ap (λ p. p.count) (layer_of_minimize B (Part Z) s s' span e)

  pub layer_of_minimize_place : (span : Span) (e : PExpr) (k : ℕ) → (part_stmt (record { span = span; form = form.Minimize e })).at k ≡ (s' (record { span = span; form = s (S.Minimize e) })).at k
  layer_of_minimize_place span e k = ap (λ p. p.at k) (layer_of_minimize B (Part Z) s s' span e)

  pub layer_of_repeat_count : (span : Span) (c : PExpr) (ss : List PStmt) → (part_stmt (record { span = span; form = form.Repeat c ss })).count ≡ (s' (record { span = span; form = s (S.Repeat c (map part_stmt ss)) })).count
  layer_of_repeat_count span c ss = ap (λ p. p.count) (layer_of_repeat B (Part Z) s s' span c ss)

  pub layer_of_repeat_place : (span : Span) (c : PExpr) (ss : List PStmt) (k : ℕ) → (part_stmt (record { span = span; form = form.Repeat c ss })).at k ≡ (s' (record { span = span; form = s (S.Repeat c (map part_stmt ss)) })).at k
  layer_of_repeat_place span c ss k = ap (λ p. p.at k) (layer_of_repeat B (Part Z) s s' span c ss)

  pub layer_of_minrepeat_count : (span : Span) (ss : List PStmt) → (part_stmt (record { span = span; form = form.MinRepeat ss })).count ≡ (s' (record { span = span; form = s (S.MinRepeat (map part_stmt ss)) })).count
  layer_of_minrepeat_count span ss = ap (λ p. p.count) (layer_of_minrepeat B (Part Z) s s' span ss)

  pub layer_of_minrepeat_place : (span : Span) (ss : List PStmt) (k : ℕ) → (part_stmt (record { span = span; form = form.MinRepeat ss })).at k ≡ (s' (record { span = span; form = s (S.MinRepeat (map part_stmt ss)) })).at k
  layer_of_minrepeat_place span ss k = ap (λ p. p.at k) (layer_of_minrepeat B (Part Z) s s' span ss)

  pub layer_of_reorder_count : (span : Span) (ss : List PStmt) → (part_stmt (record { span = span; form = form.Reorder ss })).count ≡ (s' (record { span = span; form = s (S.Reorder (map part_stmt ss)) })).count
  layer_of_reorder_count span ss = ap (λ p. p.count) (layer_of_reorder B (Part Z) s s' span ss)

  pub layer_of_reorder_place : (span : Span) (ss : List PStmt) (k : ℕ) → (part_stmt (record { span = span; form = form.Reorder ss })).at k ≡ (s' (record { span = span; form = s (S.Reorder (map part_stmt ss)) })).at k
  layer_of_reorder_place span ss k = ap (λ p. p.at k) (layer_of_reorder B (Part Z) s s' span ss)

pub ruleset stmt_layers_part = (layer_of_block_count, layer_of_block_place, layer_of_declare_count, layer_of_declare_place, layer_of_assign_count, layer_of_assign_place, layer_of_call_count, layer_of_call_place, layer_of_if_count, layer_of_if_place, layer_of_if_else_count, layer_of_if_else_place, layer_of_while_count, layer_of_while_place, layer_of_return_count, layer_of_return_place, layer_of_assert_count, layer_of_assert_place, layer_of_assume_count, layer_of_assume_place, layer_of_minimize_count, layer_of_minimize_place, layer_of_repeat_count, layer_of_repeat_place, layer_of_minrepeat_count, layer_of_minrepeat_place, layer_of_reorder_count, layer_of_reorder_place)

pub ruleset all_layers = (expr_layers, expr_layers_at, expr_layers_part, stmt_layers, stmt_layers_at, stmt_layers_part)
