-- A program is well-formed where it is without its spans.
use Rattle.std.proofs.Common.{◌≡◌, ℕ, Bool, ◌&&◌, List, [], ◌∷◌, length, map, Option, Some, None, refl, sym, ap, ◌∙◌}
use Rattle.std.specs.Prelude.{nat_lt, nat_le}
use Rattle.std.specs.List.{list_all}
use Rattle.std.proofs.lemmas.List.{length-map}
use Rattle.sk_prog.specs.declared.ids.StructId.{StructId}
use Rattle.sk_prog.specs.declared.ids.ConstId.{ConstId}
use Rattle.sk_prog.specs.declared.ids.FunId.{FunId}
use Rattle.sk_prog.specs.declared.expr.PExpr.{PExpr}
use Rattle.sk_prog.specs.declared.expr.PEForm.TheOpen as P
use Rattle.sk_prog.specs.declared.expr.PEForm.TheFolds.{fold-PExpr}
use Rattle.sk_prog.specs.declared.stmt.PStmt.{PStmt}
use Rattle.sk_prog.specs.declared.stmt.PForm.TheOpen as S
use Rattle.sk_prog.specs.declared.stmt.PForm.TheFolds.{fold-PStmt}
use Rattle.sk_prog.specs.declared.prog.ConstDef.{ConstDef}
use Rattle.sk_prog.specs.declared.prog.Fun.{Fun}
use Rattle.sk_prog.specs.declared.prog.Prog.{Prog}
use Rattle.sk_prog.specs.Names.{is_yes, any_yes}
use Rattle.sk_prog.specs.Spanless.{spanless_expr, any_spanless, spanless_stmt, spanless_const, spanless_fun, spanless}
use Rattle.sk_prog.specs.Fits.{is_name, has_const, has_fun, ty_fits, any_ty_fits, eform_fits, layer_fits, pfield_fits, expr_fits, any_expr_fits, form_fits, stmt_fits, struct_fits, const_fits, param_fits, implements_fits, fun_fits, prog_fits}
use Rattle.sk_prog.specs.SpansUnseen.{SpansUnseen}
use Rattle.sk_prog.proofs.Unseen.{bare_layer, expr_unseen, stmt_unseen}

module _ (prog : Prog) where
  same_const : (c : ConstId) → has_const (spanless prog) c ≡ has_const prog c
  same_const c = ap (nat_lt c.index) (length-map prog.consts spanless_const)

  same_fun : (f : FunId) → has_fun (spanless prog) f ≡ has_fun prog f
  same_fun f = ap (nat_lt f.index) (length-map prog.funs spanless_fun)

  module _ (slots : ℕ) where
    same_form : (l : P.PEForm-F Bool Bool (StructId → Bool)) → eform_fits (spanless prog) slots l ≡ eform_fits prog slots l
    same_form (P.Const c) = same_const c
    same_form (P.Call f args) = ap (λ b. b && list_all is_yes args) (same_fun f)
    same_form _ = refl

    same_there : (e : PExpr) → expr_fits (spanless prog) slots e ≡ expr_fits prog slots e
    same_there e = λ i. fold-PExpr Bool Bool (StructId → Bool) (λ l. same_form l i) (layer_fits prog slots) (pfield_fits prog slots) e

    same_here : (e : PExpr) → expr_fits prog slots (spanless_expr e) ≡ expr_fits prog slots e
    same_here = expr_unseen Bool Bool (StructId → Bool) (eform_fits prog slots) (layer_fits prog slots) (pfield_fits prog slots) (λ x. refl)

    any_there : (o : Option PExpr) → any_expr_fits (spanless prog) slots o ≡ any_expr_fits prog slots o
    any_there None = refl
    any_there (Some e) = same_there e

    any_here : (o : Option PExpr) → any_expr_fits prog slots (any_spanless o) ≡ any_expr_fits prog slots o
    any_here None = refl
    any_here (Some e) = same_here e

    form_there : (l : S.PForm-F Bool Bool) → form_fits (spanless prog) slots l ≡ form_fits prog slots l
    form_there (S.Block ss) = refl
    form_there (S.Declare slot x t value) = λ i. nat_lt slot slots && (is_name x && (ty_fits prog t && any_there value i))
    form_there (S.Assign target value) = λ i. same_there target i && same_there value i
    form_there (S.Call e) = same_there e
    form_there (S.If c a b) = λ i. same_there c i && (a && any_yes b)
    form_there (S.While c a) = λ i. same_there c i && a
    form_there (S.Return value) = any_there value
    form_there (S.Assert e) = same_there e
    form_there (S.Assume e) = same_there e
    form_there (S.Minimize e) = same_there e
    form_there (S.Repeat c copies) = λ i. same_there c i && list_all is_yes copies
    form_there (S.MinRepeat copies) = refl
    form_there (S.Reorder ss) = refl

    form_here : (l : S.PForm-F Bool Bool) → form_fits prog slots (bare_layer l) ≡ form_fits prog slots l
    form_here (S.Block ss) = refl
    form_here (S.Declare slot x t value) = λ i. nat_lt slot slots && (is_name x && (ty_fits prog t && any_here value i))
    form_here (S.Assign target value) = λ i. same_here target i && same_here value i
    form_here (S.Call e) = same_here e
    form_here (S.If c a b) = λ i. same_here c i && (a && any_yes b)
    form_here (S.While c a) = λ i. same_here c i && a
    form_here (S.Return value) = any_here value
    form_here (S.Assert e) = same_here e
    form_here (S.Assume e) = same_here e
    form_here (S.Minimize e) = same_here e
    form_here (S.Repeat c copies) = λ i. same_here c i && list_all is_yes copies
    form_here (S.MinRepeat copies) = refl
    form_here (S.Reorder ss) = refl

    same_stmt : (s : PStmt) → stmt_fits (spanless prog) slots (spanless_stmt s) ≡ stmt_fits prog slots s
    same_stmt s =
        (λ i. fold-PStmt Bool Bool (λ l. form_there l i) (λ x. x.form) (spanless_stmt s))
        ∙ stmt_unseen Bool Bool (form_fits prog slots) (λ x. x.form) form_here (λ x. refl) s

    same_stmts : (ss : List PStmt) → list_all (stmt_fits (spanless prog) slots) (map spanless_stmt ss) ≡ list_all (stmt_fits prog slots) ss
    same_stmts [] = refl
    same_stmts (s ∷ ss) = λ i. same_stmt s i && same_stmts ss i

  same_consts : (cs : List ConstDef) → list_all (const_fits (spanless prog)) (map spanless_const cs) ≡ list_all (const_fits prog) cs
  same_consts [] = refl
  same_consts (c ∷ cs) = λ i. (is_name c.name && (same_there 0 (spanless_expr c.value) ∙ same_here 0 c.value) i) && same_consts cs i

  same_implements : (o : Option FunId) → implements_fits (spanless prog) o ≡ implements_fits prog o
  same_implements None = refl
  same_implements (Some f) = same_fun f

  same_funs : (fs : List Fun) → list_all (fun_fits (spanless prog)) (map spanless_fun fs) ≡ list_all (fun_fits prog) fs
  same_funs [] = refl
  same_funs (f ∷ fs) = λ i. (is_name f.name && (any_ty_fits prog f.result && (list_all (param_fits prog) f.params && (nat_le (length f.params) f.slots && (same_implements f.implements i && same_stmts f.slots f.body i))))) && same_funs fs i

  same_fits : prog_fits (spanless prog) ≡ prog_fits prog
  unfolding prog_fits
  same_fits = λ i. list_all (struct_fits prog) prog.structs && (same_consts prog.consts i && same_funs prog.funs i)

pub spans_unseen : SpansUnseen
spans_unseen p q same = sym (same_fits p) ∙ ap prog_fits same ∙ same_fits q
