-- What expressions and statements do, by their forms.
use Rattle.std.proofs.Common.{◌≡◌, ℕ, List, map, Option, Some, None, ap, subst, ◌∙◌}
use Rattle.sk_base.specs.declared.span.Span.{Span}
use Rattle.sk_base.specs.declared.name.Name.{Name}
use Rattle.sk_base.specs.declared.bounds.Bounds.{Bounds}
use Rattle.sk_prog.specs.declared.ids.ConstId.{ConstId}
use Rattle.sk_prog.specs.declared.ids.FunId.{FunId}
use Rattle.sk_prog.specs.declared.ids.StructId.{StructId}
use Rattle.sk_prog.specs.declared.ty.Ty.{Ty}
use Rattle.sk_prog.specs.declared.expr.UnOp.{UnOp}
use Rattle.sk_prog.specs.declared.expr.BinOp.{BinOp}
use Rattle.sk_prog.specs.declared.expr.PExpr.{PExpr}
use Rattle.sk_prog.specs.declared.expr.PField.{PField}
use Rattle.sk_prog.specs.declared.expr.PEForm.{PEForm}
use Rattle.sk_prog.specs.declared.expr.PEForm.TheVariants as eform
use Rattle.sk_prog.specs.declared.expr.PEForm.TheOpen as P
use Rattle.sk_prog.specs.declared.expr.PEForm.TheViews as V
use Rattle.sk_prog.specs.declared.expr.PEForm.TheFolds.{map-PEForm, fold-PEForm, fold-PField, fold-roll-PExpr, fold-roll-PEForm, fold-roll-PField}
use Rattle.sk_prog.specs.declared.stmt.PStmt.{PStmt}
use Rattle.sk_prog.specs.declared.stmt.PForm.{PForm}
use Rattle.sk_prog.specs.declared.stmt.PForm.TheVariants as form
use Rattle.sk_prog.specs.declared.stmt.PForm.TheOpen as S
use Rattle.sk_prog.specs.declared.stmt.PForm.TheViews as W
use Rattle.sk_prog.specs.declared.stmt.PForm.TheFolds.{map-PForm, fold-PForm, fold-roll-PStmt, fold-roll-PForm}
use Rattle.sk_prog.specs.declared.prog.Prog.{Prog}
use Rattle.sk_model.specs.Step.{State, Comp}
use Rattle.sk_model.specs.Eval.{Calls, Does, does, does_form}
use Rattle.sk_model.specs.Exec.{Flow, exec_stmt, exec_form}

module _ (prog : Prog) (width : ℕ) (call : Calls) where
  -- what a field of `new` does
  abbrev pub field_does : PField → ℕ × Does
  field_does = fold-PField (Option Ty → Does) Does (ℕ × Does) (does_form prog width call) (λ x. x.form x.ty) (λ x. (x.field, x.value))

  abbrev pub form_does : PEForm → Option Ty → Does
  form_does = fold-PEForm (Option Ty → Does) Does (ℕ × Does) (does_form prog width call) (λ x. x.form x.ty) (λ x. (x.field, x.value))

  does_of : (x : P.PEForm-F PEForm PExpr PField) (form : PEForm) → V.roll-PEForm x ≡ form → (span : Span) (t : Option Ty) → does prog width call (record { span = span; ty = t; form = form }) ≡ does_form prog width call (map-PEForm PEForm PExpr PField (Option Ty → Does) Does (ℕ × Does) form_does (does prog width call) field_does x) t
  does_of x form is span t = subst (λ f. does prog width call (record { span = span; ty = t; form = f }) ≡ does_form prog width call (map-PEForm PEForm PExpr PField (Option Ty → Does) Does (ℕ × Does) form_does (does prog width call) field_does x) t) is
      (fold-roll-PExpr (Option Ty → Does) Does (ℕ × Does) (does_form prog width call) (λ x. x.form x.ty) (λ x. (x.field, x.value)) (record { span = span; ty = t; form = V.roll-PEForm x })
      ∙ ap (λ d. d t) (fold-roll-PEForm (Option Ty → Does) Does (ℕ × Does) (does_form prog width call) (λ x. x.form x.ty) (λ x. (x.field, x.value)) x))

  pub does_number : (span : Span) (t : Option Ty) (n : ℕ) → does prog width call (record { span = span; ty = t; form = eform.Number n }) ≡ does_form prog width call {X = Option Ty → Does} (P.Number n) t
  does_number span t n = does_of (P.Number n) (eform.Number n) (V.rolls-Number n) span t

  pub does_true : (span : Span) (t : Option Ty) → does prog width call (record { span = span; ty = t; form = eform.True }) ≡ does_form prog width call {X = Option Ty → Does} (P.True) t
  does_true span t = does_of (P.True) (eform.True) (V.rolls-True) span t

  pub does_false : (span : Span) (t : Option Ty) → does prog width call (record { span = span; ty = t; form = eform.False }) ≡ does_form prog width call {X = Option Ty → Does} (P.False) t
  does_false span t = does_of (P.False) (eform.False) (V.rolls-False) span t

  pub does_null : (span : Span) (t : Option Ty) → does prog width call (record { span = span; ty = t; form = eform.Null }) ≡ does_form prog width call {X = Option Ty → Does} (P.Null) t
  does_null span t = does_of (P.Null) (eform.Null) (V.rolls-Null) span t

  pub does_var : (span : Span) (t : Option Ty) (slot : ℕ) (x : Name) → does prog width call (record { span = span; ty = t; form = eform.Var slot x }) ≡ does_form prog width call {X = Option Ty → Does} (P.Var slot x) t
  does_var span t slot x = does_of (P.Var slot x) (eform.Var slot x) (V.rolls-Var slot x) span t

  pub does_const : (span : Span) (t : Option Ty) (c : ConstId) → does prog width call (record { span = span; ty = t; form = eform.Const c }) ≡ does_form prog width call {X = Option Ty → Does} (P.Const c) t
  does_const span t c = does_of (P.Const c) (eform.Const c) (V.rolls-Const c) span t

  pub does_hole : (span : Span) (t : Option Ty) (bits : Option ℕ) → does prog width call (record { span = span; ty = t; form = eform.Hole bits }) ≡ does_form prog width call {X = Option Ty → Does} (P.Hole bits) t
  does_hole span t bits = does_of (P.Hole bits) (eform.Hole bits) (V.rolls-Hole bits) span t

  pub does_pattern : (span : Span) (t : Option Ty) (es : List PExpr) → does prog width call (record { span = span; ty = t; form = eform.Pattern es }) ≡ does_form prog width call {X = Option Ty → Does} (P.Pattern (map (does prog width call) es)) t
  does_pattern span t es = does_of (P.Pattern es) (eform.Pattern es) (V.rolls-Pattern es) span t

  pub does_paren : (span : Span) (t : Option Ty) (a : PExpr) → does prog width call (record { span = span; ty = t; form = eform.Paren a }) ≡ does_form prog width call {X = Option Ty → Does} (P.Paren (does prog width call a)) t
  does_paren span t a = does_of (P.Paren a) (eform.Paren a) (V.rolls-Paren a) span t

  pub does_call : (span : Span) (t : Option Ty) (f : FunId) (args : List PExpr) → does prog width call (record { span = span; ty = t; form = eform.Call f args }) ≡ does_form prog width call {X = Option Ty → Does} (P.Call f (map (does prog width call) args)) t
  does_call span t f args = does_of (P.Call f args) (eform.Call f args) (V.rolls-Call f args) span t

  pub does_new : (span : Span) (t : Option Ty) (d : StructId) (fields : List PField) → does prog width call (record { span = span; ty = t; form = eform.New d fields }) ≡ does_form prog width call {X = Option Ty → Does} (P.New d (map field_does fields)) t
  does_new span t d fields = does_of (P.New d fields) (eform.New d fields) (V.rolls-New d fields) span t

  pub does_braces : (span : Span) (t : Option Ty) (es : List PExpr) → does prog width call (record { span = span; ty = t; form = eform.Braces es }) ≡ does_form prog width call {X = Option Ty → Does} (P.Braces (map (does prog width call) es)) t
  does_braces span t es = does_of (P.Braces es) (eform.Braces es) (V.rolls-Braces es) span t

  pub does_member : (span : Span) (t : Option Ty) (a : PExpr) (d : StructId) (k : ℕ) → does prog width call (record { span = span; ty = t; form = eform.Member a d k }) ≡ does_form prog width call {X = Option Ty → Does} (P.Member (does prog width call a) d k) t
  does_member span t a d k = does_of (P.Member a d k) (eform.Member a d k) (V.rolls-Member a d k) span t

  pub does_index : (span : Span) (t : Option Ty) (a i : PExpr) → does prog width call (record { span = span; ty = t; form = eform.Index a i }) ≡ does_form prog width call {X = Option Ty → Does} (P.Index (does prog width call a) (does prog width call i)) t
  does_index span t a i = does_of (P.Index a i) (eform.Index a i) (V.rolls-Index a i) span t

  pub does_slice : (span : Span) (t : Option Ty) (a i : PExpr) (n : ℕ) → does prog width call (record { span = span; ty = t; form = eform.Slice a i n }) ≡ does_form prog width call {X = Option Ty → Does} (P.Slice (does prog width call a) (does prog width call i) n) t
  does_slice span t a i n = does_of (P.Slice a i n) (eform.Slice a i n) (V.rolls-Slice a i n) span t

  pub does_unary : (span : Span) (t : Option Ty) (o : UnOp) (a : PExpr) → does prog width call (record { span = span; ty = t; form = eform.Unary o a }) ≡ does_form prog width call {X = Option Ty → Does} (P.Unary o (does prog width call a)) t
  does_unary span t o a = does_of (P.Unary o a) (eform.Unary o a) (V.rolls-Unary o a) span t

  pub does_binary : (span : Span) (t : Option Ty) (o : BinOp) (a b : PExpr) → does prog width call (record { span = span; ty = t; form = eform.Binary o a b }) ≡ does_form prog width call {X = Option Ty → Does} (P.Binary o (does prog width call a) (does prog width call b)) t
  does_binary span t o a b = does_of (P.Binary o a b) (eform.Binary o a b) (V.rolls-Binary o a b) span t

  pub does_cond : (span : Span) (t : Option Ty) (c a b : PExpr) → does prog width call (record { span = span; ty = t; form = eform.Cond c a b }) ≡ does_form prog width call {X = Option Ty → Does} (P.Cond (does prog width call c) (does prog width call a) (does prog width call b)) t
  does_cond span t c a b = does_of (P.Cond c a b) (eform.Cond c a b) (V.rolls-Cond c a b) span t

  pub does_to_int : (span : Span) (t : Option Ty) (a : PExpr) → does prog width call (record { span = span; ty = t; form = eform.ToInt a }) ≡ does_form prog width call {X = Option Ty → Does} (P.ToInt (does prog width call a)) t
  does_to_int span t a = does_of (P.ToInt a) (eform.ToInt a) (V.rolls-ToInt a) span t

  pub does_pad : (span : Span) (t : Option Ty) (a : PExpr) → does prog width call (record { span = span; ty = t; form = eform.Pad a }) ≡ does_form prog width call {X = Option Ty → Does} (P.Pad (does prog width call a)) t
  does_pad span t a = does_of (P.Pad a) (eform.Pad a) (V.rolls-Pad a) span t

  pub field_does_is : (field : ℕ) (e : PExpr) → field_does (record { field = field; value = e }) ≡ (field, does prog width call e)
  field_does_is field e = fold-roll-PField (Option Ty → Does) Does (ℕ × Does) (does_form prog width call) (λ x. x.form x.ty) (λ x. (x.field, x.value)) (record { field = field; value = e })

pub ruleset expr_steps = (does_number, does_true, does_false, does_null, does_var, does_const, does_hole, does_pattern, does_paren, does_call, does_new, does_braces, does_member, does_index, does_slice, does_unary, does_binary, does_cond, does_to_int, does_pad, field_does_is)

module _ (prog : Prog) (bounds : Bounds) (call : Calls) where
  abbrev form_exec : PForm → Span → Comp Flow
  form_exec = fold-PForm (Span → Comp Flow) (Comp Flow) (exec_form prog bounds call) (λ s. s.form s.span)

  exec_of : (x : S.PForm-F PForm PStmt) (form : PForm) → W.roll-PForm x ≡ form → (span : Span) → exec_stmt prog bounds call (record { span = span; form = form }) ≡ exec_form prog bounds call (map-PForm PForm PStmt (Span → Comp Flow) (Comp Flow) form_exec (exec_stmt prog bounds call) x) span
  exec_of x form is span = subst (λ f. exec_stmt prog bounds call (record { span = span; form = f }) ≡ exec_form prog bounds call (map-PForm PForm PStmt (Span → Comp Flow) (Comp Flow) form_exec (exec_stmt prog bounds call) x) span) is
      (fold-roll-PStmt (Span → Comp Flow) (Comp Flow) (exec_form prog bounds call) (λ s. s.form s.span) (record { span = span; form = W.roll-PForm x })
      ∙ ap (λ m. m span) (fold-roll-PForm (Span → Comp Flow) (Comp Flow) (exec_form prog bounds call) (λ s. s.form s.span) x))

  pub exec_block : (span : Span) (ss : List PStmt) (s : State) → exec_stmt prog bounds call (record { span = span; form = form.Block ss }) s ≡ exec_form prog bounds call (S.Block (map (exec_stmt prog bounds call) ss)) span s
  exec_block span ss s = ap (λ m. m s) (exec_of (S.Block ss) (form.Block ss) (W.rolls-Block ss) span)

  pub exec_declare : (span : Span) (slot : ℕ) (x : Name) (t : Ty) (e : Option PExpr) (s : State) → exec_stmt prog bounds call (record { span = span; form = form.Declare slot x t e }) s ≡ exec_form prog bounds call (S.Declare slot x t e) span s
  exec_declare span slot x t e s = ap (λ m. m s) (exec_of (S.Declare slot x t e) (form.Declare slot x t e) (W.rolls-Declare slot x t e) span)

  pub exec_assign : (span : Span) (a e : PExpr) (s : State) → exec_stmt prog bounds call (record { span = span; form = form.Assign a e }) s ≡ exec_form prog bounds call (S.Assign a e) span s
  exec_assign span a e s = ap (λ m. m s) (exec_of (S.Assign a e) (form.Assign a e) (W.rolls-Assign a e) span)

  pub exec_call : (span : Span) (e : PExpr) (s : State) → exec_stmt prog bounds call (record { span = span; form = form.Call e }) s ≡ exec_form prog bounds call (S.Call e) span s
  exec_call span e s = ap (λ m. m s) (exec_of (S.Call e) (form.Call e) (W.rolls-Call e) span)

  pub exec_if : (span : Span) (c : PExpr) (a : PStmt) (s : State) → exec_stmt prog bounds call (record { span = span; form = form.If c a None }) s ≡ exec_form prog bounds call (S.If c (exec_stmt prog bounds call a) None) span s
  exec_if span c a s = ap (λ m. m s) (exec_of (S.If c a None) (form.If c a None) (W.rolls-If c a None) span)

  pub exec_if_else : (span : Span) (c : PExpr) (a b : PStmt) (s : State) → exec_stmt prog bounds call (record { span = span; form = form.If c a (Some b) }) s ≡ exec_form prog bounds call (S.If c (exec_stmt prog bounds call a) (Some (exec_stmt prog bounds call b))) span s
  exec_if_else span c a b s = ap (λ m. m s) (exec_of (S.If c a (Some b)) (form.If c a (Some b)) (W.rolls-If c a (Some b)) span)

  pub exec_while : (span : Span) (c : PExpr) (a : PStmt) (s : State) → exec_stmt prog bounds call (record { span = span; form = form.While c a }) s ≡ exec_form prog bounds call (S.While c (exec_stmt prog bounds call a)) span s
  exec_while span c a s = ap (λ m. m s) (exec_of (S.While c a) (form.While c a) (W.rolls-While c a) span)

  pub exec_return : (span : Span) (e : Option PExpr) (s : State) → exec_stmt prog bounds call (record { span = span; form = form.Return e }) s ≡ exec_form prog bounds call (S.Return e) span s
  exec_return span e s = ap (λ m. m s) (exec_of (S.Return e) (form.Return e) (W.rolls-Return e) span)

  pub exec_assert : (span : Span) (e : PExpr) (s : State) → exec_stmt prog bounds call (record { span = span; form = form.Assert e }) s ≡ exec_form prog bounds call (S.Assert e) span s
  exec_assert span e s = ap (λ m. m s) (exec_of (S.Assert e) (form.Assert e) (W.rolls-Assert e) span)

  pub exec_assume : (span : Span) (e : PExpr) (s : State) → exec_stmt prog bounds call (record { span = span; form = form.Assume e }) s ≡ exec_form prog bounds call (S.Assume e) span s
  exec_assume span e s = ap (λ m. m s) (exec_of (S.Assume e) (form.Assume e) (W.rolls-Assume e) span)

  pub exec_minimize : (span : Span) (e : PExpr) (s : State) → exec_stmt prog bounds call (record { span = span; form = form.Minimize e }) s ≡ exec_form prog bounds call (S.Minimize e) span s
  exec_minimize span e s = ap (λ m. m s) (exec_of (S.Minimize e) (form.Minimize e) (W.rolls-Minimize e) span)

  pub exec_repeat : (span : Span) (e : PExpr) (ss : List PStmt) (s : State) → exec_stmt prog bounds call (record { span = span; form = form.Repeat e ss }) s ≡ exec_form prog bounds call (S.Repeat e (map (exec_stmt prog bounds call) ss)) span s
  exec_repeat span e ss s = ap (λ m. m s) (exec_of (S.Repeat e ss) (form.Repeat e ss) (W.rolls-Repeat e ss) span)

  pub exec_minrepeat : (span : Span) (ss : List PStmt) (s : State) → exec_stmt prog bounds call (record { span = span; form = form.MinRepeat ss }) s ≡ exec_form prog bounds call (S.MinRepeat (map (exec_stmt prog bounds call) ss)) span s
  exec_minrepeat span ss s = ap (λ m. m s) (exec_of (S.MinRepeat ss) (form.MinRepeat ss) (W.rolls-MinRepeat ss) span)

  pub exec_reorder : (span : Span) (ss : List PStmt) (s : State) → exec_stmt prog bounds call (record { span = span; form = form.Reorder ss }) s ≡ exec_form prog bounds call (S.Reorder (map (exec_stmt prog bounds call) ss)) span s
  exec_reorder span ss s = ap (λ m. m s) (exec_of (S.Reorder ss) (form.Reorder ss) (W.rolls-Reorder ss) span)

pub ruleset stmt_steps = (exec_block, exec_declare, exec_assign, exec_call, exec_if, exec_if_else, exec_while, exec_return, exec_assert, exec_assume, exec_minimize, exec_repeat, exec_minrepeat, exec_reorder)
