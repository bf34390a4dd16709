-- The texts of some forms, whose parts a prover of one step does not put together.
use Rattle.std.proofs.Common.{◌≡◌, ℕ, suc, Bool, true, false, map, List, ◌++◌, sym, ap, ◌∙◌, codes}
use Rattle.std.specs.Fmt.{decimal}
use Rattle.sk_prog.specs.declared.ids.StructId.{StructId}
use Rattle.sk_prog.specs.declared.expr.BinOp.{BinOp}
use Rattle.sk_prog.specs.declared.expr.PExpr.{PExpr}
use Rattle.sk_prog.specs.declared.expr.PEForm.{PEForm}
use Rattle.sk_prog.specs.declared.expr.PEForm.TheVariants as peform
use Rattle.sk_prog.specs.declared.expr.PField.{PField}
use Rattle.sk_prog.specs.declared.expr.PEForm.TheOpen as P
use Rattle.sk_prog.specs.declared.expr.PEForm.TheViews.{roll-PEForm}
use Rattle.sk_prog.specs.declared.expr.PEForm.TheFolds.{map-PEForm, fold-PEForm, fold-roll-PEForm, fold-roll-PExpr}
use Rattle.sk_prog.specs.declared.stmt.PStmt.{PStmt}
use Rattle.sk_prog.specs.declared.stmt.PForm.{PForm}
use Rattle.sk_prog.specs.declared.stmt.PForm.TheVariants as pform
use Rattle.sk_prog.specs.declared.stmt.PForm.TheOpen as S
use Rattle.sk_prog.specs.declared.stmt.PForm.TheViews.{roll-PForm}
use Rattle.sk_prog.specs.declared.stmt.PForm.TheFolds.{map-PForm, fold-PForm, fold-roll-PForm, fold-roll-PStmt}
use Rattle.sk_prog.specs.declared.prog.Prog.{Prog}
use Rattle.sk_print.specs.Layout.{op_layout, eform_layout, pfield_layout, expr_layout, set_layout, line, Lines, each_line, pform_layout, stmt_lines}

module _ (prog : Prog) where
  abbrev form_layout : PEForm → List ℕ
  form_layout = fold-PEForm (List ℕ) (List ℕ) (StructId → List ℕ) (eform_layout prog) (λ x. x.form) (pfield_layout prog)

  layer : (e : PExpr) (l : P.PEForm-F PEForm PExpr PField) → e.form ≡ roll-PEForm l → expr_layout prog e ≡ eform_layout prog (map-PEForm PEForm PExpr PField (List ℕ) (List ℕ) (StructId → List ℕ) form_layout (expr_layout prog) (set_layout prog) l)
  layer e l is =
      fold-roll-PExpr (List ℕ) (List ℕ) (StructId → List ℕ) (eform_layout prog) (λ x. x.form) (pfield_layout prog) (record { span = e.span; ty = e.ty; form = e.form })
      ∙ ap form_layout is
      ∙ fold-roll-PEForm (List ℕ) (List ℕ) (StructId → List ℕ) (eform_layout prog) (λ x. x.form) (pfield_layout prog) l

  pub binary_text : (e : PExpr) (o : BinOp) (a b : PExpr) → e.form ≡ peform.Binary o a b → expr_layout prog e ≡ expr_layout prog a ++ codes " " ++ op_layout o ++ codes " " ++ expr_layout prog b
  binary_text e o a b is = layer e (P.Binary o a b) (is ∙ sym (peform.rolls-Binary o a b))

  pub cond_text : (e c a b : PExpr) → e.form ≡ peform.Cond c a b → expr_layout prog e ≡ expr_layout prog c ++ codes " ? " ++ expr_layout prog a ++ codes " : " ++ expr_layout prog b
  cond_text e c a b is = layer e (P.Cond c a b) (is ∙ sym (peform.rolls-Cond c a b))

  pub slice_text : (e a i : PExpr) (n : ℕ) → e.form ≡ peform.Slice a i n → expr_layout prog e ≡ expr_layout prog a ++ codes "[" ++ expr_layout prog i ++ codes "::" ++ decimal n ++ codes "]"
  slice_text e a i n is = layer e (P.Slice a i n) (is ∙ sym (peform.rolls-Slice a i n))

  stmt_layer : (s : PStmt) (l : S.PForm-F PForm PStmt) → s.form ≡ roll-PForm l → stmt_lines prog s ≡ pform_layout prog (map-PForm PForm PStmt Lines Lines (fold-PForm Lines Lines (pform_layout prog) (λ x. x.form)) (stmt_lines prog) l)
  stmt_layer s l is =
      fold-roll-PStmt Lines Lines (pform_layout prog) (λ x. x.form) (record { span = s.span; form = s.form })
      ∙ ap (fold-PForm Lines Lines (pform_layout prog) (λ x. x.form)) is
      ∙ fold-roll-PForm Lines Lines (pform_layout prog) (λ x. x.form) l

  pub minrepeat_text : (s : PStmt) (ss : List PStmt) → s.form ≡ pform.MinRepeat ss → (is_body : Bool) (depth : ℕ) → stmt_lines prog s is_body depth ≡ line depth (codes "minrepeat {") ++ each_line true (suc depth) (map (stmt_lines prog) ss) ++ line depth (codes "}")
  minrepeat_text s ss is is_body depth = λ i. stmt_layer s (S.MinRepeat ss) (is ∙ sym (pform.rolls-MinRepeat ss)) i is_body depth

  pub reorder_text : (s : PStmt) (ss : List PStmt) → s.form ≡ pform.Reorder ss → (is_body : Bool) (depth : ℕ) → stmt_lines prog s is_body depth ≡ line depth (codes "reorder {") ++ each_line false (suc depth) (map (stmt_lines prog) ss) ++ line depth (codes "}")
  reorder_text s ss is is_body depth = λ i. stmt_layer s (S.Reorder ss) (is ∙ sym (pform.rolls-Reorder ss)) i is_body depth
