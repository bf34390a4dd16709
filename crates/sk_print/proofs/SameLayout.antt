-- The layout of a program is that of the program without its spans.
use Rattle.std.proofs.Common.{◌≡◌, ℕ, true, false, List, [], ◌∷◌, ◌++◌, map, Option, Some, None, option_map, refl, sym, ap, ◌∙◌}
use Rattle.std.specs.Prelude.{slice_get, codes}
use Rattle.std.specs.List.{flat_map, join_by}
use Rattle.std.proofs.lemmas.Option.{slice_get-map}
use Rattle.sk_prog.specs.declared.ids.StructId.{StructId}
use Rattle.sk_prog.specs.declared.ids.ConstId.{ConstId}
use Rattle.sk_prog.specs.declared.ids.FunId.{FunId}
use Rattle.sk_prog.specs.declared.expr.PExpr.{PExpr}
use Rattle.sk_prog.specs.declared.expr.PEForm.TheOpen as P
use Rattle.sk_prog.specs.declared.expr.PEForm.TheFolds.{fold-PExpr}
use Rattle.sk_prog.specs.declared.stmt.PStmt.{PStmt}
use Rattle.sk_prog.specs.declared.stmt.PForm.TheOpen as S
use Rattle.sk_prog.specs.declared.stmt.PForm.TheFolds.{fold-PStmt}
use Rattle.sk_prog.specs.declared.prog.ConstDef.{ConstDef}
use Rattle.sk_prog.specs.declared.prog.Fun.{Fun}
use Rattle.sk_prog.specs.declared.prog.Prog.{Prog}
use Rattle.sk_prog.specs.Spanless.{spanless_expr, any_spanless, spanless_stmt, spanless_const, spanless_fun, spanless}
use Rattle.sk_prog.proofs.Unseen.{bare_layer, expr_unseen, stmt_unseen}
use Rattle.sk_print.specs.Layout.{looked_up, const_name, ty_layout, commas, kind_layout, result_layout, param_layout, fun_name, eform_layout, pfield_layout, expr_layout, initial_layout, returned_layout, Lines, plain, braced, if_layout, each_line, pform_layout, stmt_lines, stmt_layout, line, struct_layout, const_layout, implements_layout, head_layout, fun_layout, layout}
use Rattle.sk_print.specs.SpansUnseen.{SpansUnseen}

-- Names

looked_up_mapped : {A : Type 0} (name : A → List ℕ) (f : A → A) → ((a : A) → name (f a) ≡ name a) → (o : Option A) → looked_up name (option_map f o) ≡ looked_up name o
looked_up_mapped name f same None = refl
looked_up_mapped name f same (Some a) = same a

module _ (prog : Prog) where
  same_const : (c : ConstId) → const_name (spanless prog) c ≡ const_name prog c
  same_const c = ap (looked_up (λ d. d.name)) (slice_get-map spanless_const prog.consts c.index) ∙ looked_up_mapped (λ d. d.name) spanless_const (λ a. refl) (slice_get prog.consts c.index)

  same_fun : (f : FunId) → fun_name (spanless prog) f ≡ fun_name prog f
  same_fun f = ap (looked_up (λ d. d.name)) (slice_get-map spanless_fun prog.funs f.index) ∙ looked_up_mapped (λ d. d.name) spanless_fun (λ a. refl) (slice_get prog.funs f.index)

  -- Expressions

  same_form : (l : P.PEForm-F (List ℕ) (List ℕ) (StructId → List ℕ)) → eform_layout (spanless prog) l ≡ eform_layout prog l
  same_form (P.Const c) = same_const c
  same_form (P.Call f args) = ap (λ x. x ++ codes "(" ++ commas args ++ codes ")") (same_fun f)
  same_form (P.Hole None) = refl
  same_form (P.Hole (Some n)) = refl
  same_form _ = refl

  same_expr : (e : PExpr) → expr_layout (spanless prog) (spanless_expr e) ≡ expr_layout prog e
  same_expr e =
      (λ i. fold-PExpr (List ℕ) (List ℕ) (StructId → List ℕ) (λ l. same_form l i) (λ x. x.form) (pfield_layout prog) (spanless_expr e))
      ∙ expr_unseen (List ℕ) (List ℕ) (StructId → List ℕ) (eform_layout prog) (λ x. x.form) (pfield_layout prog) (λ x. refl) e

  same_here : (e : PExpr) → expr_layout prog (spanless_expr e) ≡ expr_layout prog e
  same_here = expr_unseen (List ℕ) (List ℕ) (StructId → List ℕ) (eform_layout prog) (λ x. x.form) (pfield_layout prog) (λ x. refl)

  same_there : (e : PExpr) → expr_layout (spanless prog) e ≡ expr_layout prog e
  same_there e = λ i. fold-PExpr (List ℕ) (List ℕ) (StructId → List ℕ) (λ l. same_form l i) (λ x. x.form) (pfield_layout prog) e

  -- Statements

  initial_here : (value : Option PExpr) → initial_layout prog (any_spanless value) ≡ initial_layout prog value
  initial_here None = refl
  initial_here (Some e) = ap (λ x. codes " = " ++ x) (same_here e)

  returned_here : (value : Option PExpr) → returned_layout prog (any_spanless value) ≡ returned_layout prog value
  returned_here None = refl
  returned_here (Some e) = ap (λ x. codes " " ++ x) (same_here e)

  initial_there : (value : Option PExpr) → initial_layout (spanless prog) value ≡ initial_layout prog value
  initial_there None = refl
  initial_there (Some e) = ap (λ x. codes " = " ++ x) (same_there e)

  returned_there : (value : Option PExpr) → returned_layout (spanless prog) value ≡ returned_layout prog value
  returned_there None = refl
  returned_there (Some e) = ap (λ x. codes " " ++ x) (same_there e)

  form_here : (l : S.PForm-F Lines Lines) → pform_layout prog (bare_layer l) ≡ pform_layout prog l
  form_here (S.Declare slot x t value) = λ i. plain (λ depth. line depth (ty_layout prog t ++ codes " " ++ x ++ initial_here value i ++ codes ";"))
  form_here (S.Assign target value) = λ i. plain (λ depth. line depth (same_here target i ++ codes " = " ++ same_here value i ++ codes ";"))
  form_here (S.Call e) = λ i. plain (λ depth. line depth (same_here e i ++ codes ";"))
  form_here (S.If c a b) = λ i. if_layout (same_here c i) a b
  form_here (S.While c a) = λ i. braced (codes "while (" ++ same_here c i ++ codes ") {") (a true)
  form_here (S.Return value) = λ i. plain (λ depth. line depth (codes "return" ++ returned_here value i ++ codes ";"))
  form_here (S.Assert e) = λ i. plain (λ depth. line depth (codes "assert " ++ same_here e i ++ codes ";"))
  form_here (S.Assume e) = λ i. plain (λ depth. line depth (codes "assume " ++ same_here e i ++ codes ";"))
  form_here (S.Minimize e) = λ i. plain (λ depth. line depth (codes "minimize(" ++ same_here e i ++ codes ");"))
  form_here (S.Repeat c copies) = λ i. braced (codes "repeat (" ++ same_here c i ++ codes ") {") (λ depth. each_line true depth copies)
  form_here (S.Block ss) = refl
  form_here (S.MinRepeat ss) = refl
  form_here (S.Reorder ss) = refl

  form_there : (l : S.PForm-F Lines Lines) → pform_layout (spanless prog) l ≡ pform_layout prog l
  form_there (S.Declare slot x t value) = λ i. plain (λ depth. line depth (ty_layout prog t ++ codes " " ++ x ++ initial_there value i ++ codes ";"))
  form_there (S.Assign target value) = λ i. plain (λ depth. line depth (same_there target i ++ codes " = " ++ same_there value i ++ codes ";"))
  form_there (S.Call e) = λ i. plain (λ depth. line depth (same_there e i ++ codes ";"))
  form_there (S.If c a b) = λ i. if_layout (same_there c i) a b
  form_there (S.While c a) = λ i. braced (codes "while (" ++ same_there c i ++ codes ") {") (a true)
  form_there (S.Return value) = λ i. plain (λ depth. line depth (codes "return" ++ returned_there value i ++ codes ";"))
  form_there (S.Assert e) = λ i. plain (λ depth. line depth (codes "assert " ++ same_there e i ++ codes ";"))
  form_there (S.Assume e) = λ i. plain (λ depth. line depth (codes "assume " ++ same_there e i ++ codes ";"))
  form_there (S.Minimize e) = λ i. plain (λ depth. line depth (codes "minimize(" ++ same_there e i ++ codes ");"))
  form_there (S.Repeat c copies) = λ i. braced (codes "repeat (" ++ same_there c i ++ codes ") {") (λ depth. each_line true depth copies)
  form_there (S.Block ss) = refl
  form_there (S.MinRepeat ss) = refl
  form_there (S.Reorder ss) = refl

  same_lines : (s : PStmt) → stmt_lines (spanless prog) (spanless_stmt s) ≡ stmt_lines prog s
  same_lines s =
      (λ i. fold-PStmt Lines Lines (λ l. form_there l i) (λ x. x.form) (spanless_stmt s))
      ∙ stmt_unseen Lines Lines (pform_layout prog) (λ x. x.form) form_here (λ x. refl) s

  -- Programs

  same_consts : (cs : List ConstDef) → flat_map (const_layout (spanless prog)) (map spanless_const cs) ≡ flat_map (const_layout prog) cs
  same_consts [] = refl
  same_consts (c ∷ cs) = λ i. line 0 (codes "int " ++ c.name ++ codes " = " ++ same_expr c.value i ++ codes ";") ++ same_consts cs i

  same_stmts : (ss : List PStmt) → flat_map (λ s. stmt_layout (spanless prog) s 1) (map spanless_stmt ss) ≡ flat_map (λ s. stmt_layout prog s 1) ss
  same_stmts [] = refl
  same_stmts (s ∷ ss) = λ i. same_lines s i false 1 ++ same_stmts ss i

  same_implements : (o : Option FunId) → implements_layout (spanless prog) o ≡ implements_layout prog o
  same_implements None = refl
  same_implements (Some f) = ap (λ x. codes " implements " ++ x) (same_fun f)

  same_head : (f : Fun) → head_layout (spanless prog) (spanless_fun f) ≡ head_layout prog f
  same_head f = λ i. kind_layout f.kind ++ result_layout prog f.result ++ codes " " ++ f.name ++ codes "(" ++ join_by (param_layout prog) (codes ", ") f.params ++ codes ")" ++ same_implements f.implements i ++ codes " {"

  same_funs : (fs : List Fun) → flat_map (fun_layout (spanless prog)) (map spanless_fun fs) ≡ flat_map (fun_layout prog) fs
  same_funs [] = refl
  same_funs (f ∷ fs) = λ i. (line 0 (same_head f i) ++ same_stmts f.body i ++ line 0 (codes "}")) ++ same_funs fs i

  same_layout : layout (spanless prog) ≡ layout prog
  same_layout = λ i. flat_map (struct_layout prog) prog.structs ++ same_consts prog.consts i ++ same_funs prog.funs i

pub spans_unseen : SpansUnseen
spans_unseen p q same = sym (same_layout p) ∙ ap layout same ∙ same_layout q
