-- The examples, computed.
use Rattle.std.proofs.Common.{◌≡◌, ℕ, List, map, Option, None, Some}
use Rattle.sk_base.specs.declared.span.Span.{Span}
use Rattle.sk_base.specs.declared.name.Name.{Name}
use Rattle.sk_prog.specs.declared.ids.FunId.{FunId}
use Rattle.sk_prog.specs.declared.ids.StructId.{StructId}
use Rattle.sk_prog.specs.declared.ty.Ty.{Ty}
use Rattle.sk_prog.specs.declared.expr.BinOp.{BinOp}
use Rattle.sk_prog.specs.declared.expr.PExpr.{PExpr}
use Rattle.sk_prog.specs.declared.expr.PField.{PField}
use Rattle.sk_prog.specs.declared.expr.PEForm.TheOpen as P
use Rattle.sk_prog.specs.declared.expr.PEForm.TheVariants as eform
use Rattle.sk_prog.specs.declared.expr.PEForm.TheViews as V
use Rattle.sk_prog.specs.declared.stmt.PStmt.{PStmt}
use Rattle.sk_prog.specs.declared.stmt.PForm.TheOpen as S
use Rattle.sk_prog.specs.declared.stmt.PForm.TheVariants as form
use Rattle.sk_prog.specs.declared.stmt.PForm.TheViews as W
use Rattle.sk_prog.specs.declared.prog.Prog.{Prog}
use Rattle.sk_model.proofs.Layers.{expr_layer, layer_field, stmt_layer}
use Rattle.sk_adt.specs.declared.algebraic.Algebraic.{Algebraic}
use Rattle.sk_adt_tags.specs.Tags.{Part, Work, variant_at, tested, eform_part, part, form_work, work, breaks}
use Rattle.sk_adt_tags.specs.Fields.{field_part}
use Rattle.sk_adt_tag_laws.specs.Examples.{TagExamples}

module _ (types : List Algebraic) (prog : Prog) where
  part_number : (s : Span) (t : Option Ty) (n : ℕ) → part types prog (record { span = s; ty = t; form = eform.Number n }) ≡ eform_part types prog (P.Number n) s
  part_number s t n = expr_layer (Span → Part) Part (ℕ × Part) (eform_part types prog) (λ x. x.form x.span) (λ x. (x.field, x.value)) (P.Number n) (eform.Number n) (V.rolls-Number n) s t

  part_null : (s : Span) (t : Option Ty) → part types prog (record { span = s; ty = t; form = eform.Null }) ≡ eform_part types prog P.Null s
  part_null s t = expr_layer (Span → Part) Part (ℕ × Part) (eform_part types prog) (λ x. x.form x.span) (λ x. (x.field, x.value)) P.Null eform.Null V.rolls-Null s t

  part_var : (s : Span) (t : Option Ty) (slot : ℕ) (x : Name) → part types prog (record { span = s; ty = t; form = eform.Var slot x }) ≡ eform_part types prog (P.Var slot x) s
  part_var s t slot x = expr_layer (Span → Part) Part (ℕ × Part) (eform_part types prog) (λ x. x.form x.span) (λ x. (x.field, x.value)) (P.Var slot x) (eform.Var slot x) (V.rolls-Var slot x) s t

  part_call : (s : Span) (t : Option Ty) (f : FunId) (args : List PExpr) → part types prog (record { span = s; ty = t; form = eform.Call f args }) ≡ eform_part types prog (P.Call f (map (part types prog) args)) s
  part_call s t f args = expr_layer (Span → Part) Part (ℕ × Part) (eform_part types prog) (λ x. x.form x.span) (λ x. (x.field, x.value)) (P.Call f args) (eform.Call f args) (V.rolls-Call f args) s t

  part_new : (s : Span) (t : Option Ty) (d : StructId) (fs : List PField) → part types prog (record { span = s; ty = t; form = eform.New d fs }) ≡ eform_part types prog (P.New d (map (field_part types prog) fs)) s
  part_new s t d fs = expr_layer (Span → Part) Part (ℕ × Part) (eform_part types prog) (λ x. x.form x.span) (λ x. (x.field, x.value)) (P.New d fs) (eform.New d fs) (V.rolls-New d fs) s t

  part_member : (s : Span) (t : Option Ty) (e : PExpr) (d : StructId) (k : ℕ) → part types prog (record { span = s; ty = t; form = eform.Member e d k }) ≡ eform_part types prog (P.Member (part types prog e) d k) s
  part_member s t e d k = expr_layer (Span → Part) Part (ℕ × Part) (eform_part types prog) (λ x. x.form x.span) (λ x. (x.field, x.value)) (P.Member e d k) (eform.Member e d k) (V.rolls-Member e d k) s t

  part_binary : (s : Span) (t : Option Ty) (o : BinOp) (a b : PExpr) → part types prog (record { span = s; ty = t; form = eform.Binary o a b }) ≡ eform_part types prog (P.Binary o (part types prog a) (part types prog b)) s
  part_binary s t o a b = expr_layer (Span → Part) Part (ℕ × Part) (eform_part types prog) (λ x. x.form x.span) (λ x. (x.field, x.value)) (P.Binary o a b) (eform.Binary o a b) (V.rolls-Binary o a b) s t

  part_field : (k : ℕ) (e : PExpr) → field_part types prog (record { field = k; value = e }) ≡ (k, part types prog e)
  part_field k e = layer_field (Span → Part) Part (ℕ × Part) (eform_part types prog) (λ x. x.form x.span) (λ x. (x.field, x.value)) k e

  work_block : (s : Span) (ss : List PStmt) → work types prog (record { span = s; form = form.Block ss }) ≡ form_work types prog (S.Block (map (work types prog) ss))
  work_block s ss = stmt_layer Work Work (form_work types prog) (λ s. s.form) (S.Block ss) (form.Block ss) (W.rolls-Block ss) s

  work_assign : (s : Span) (p e : PExpr) → work types prog (record { span = s; form = form.Assign p e }) ≡ form_work types prog (S.Assign p e)
  work_assign s p e = stmt_layer Work Work (form_work types prog) (λ s. s.form) (S.Assign p e) (form.Assign p e) (W.rolls-Assign p e) s

  work_call : (s : Span) (e : PExpr) → work types prog (record { span = s; form = form.Call e }) ≡ form_work types prog (S.Call e)
  work_call s e = stmt_layer Work Work (form_work types prog) (λ s. s.form) (S.Call e) (form.Call e) (W.rolls-Call e) s

  work_return : (s : Span) (e : Option PExpr) → work types prog (record { span = s; form = form.Return e }) ≡ form_work types prog (S.Return e)
  work_return s e = stmt_layer Work Work (form_work types prog) (λ s. s.form) (S.Return e) (form.Return e) (W.rolls-Return e) s

  work_if : (s : Span) (c : PExpr) (a : PStmt) → work types prog (record { span = s; form = form.If c a None }) ≡ form_work types prog (S.If c (work types prog a) None)
  work_if s c a = stmt_layer Work Work (form_work types prog) (λ s. s.form) (S.If c a None) (form.If c a None) (W.rolls-If c a None) s

  work_else : (s : Span) (c : PExpr) (a b : PStmt) → work types prog (record { span = s; form = form.If c a (Some b) }) ≡ form_work types prog (S.If c (work types prog a) (Some (work types prog b)))
  work_else s c a b = stmt_layer Work Work (form_work types prog) (λ s. s.form) (S.If c a (Some b)) (form.If c a (Some b)) (W.rolls-If c a (Some b)) s

ruleset tag_steps = (part_number, part_null, part_var, part_call, part_new, part_member, part_binary, part_field, work_block, work_assign, work_call, work_return, work_if, work_else)

pub examples : TagExamples
unfolding variant_at tested breaks
examples = record {
  own = simp tag_steps;
  other = simp tag_steps;
  untested = simp tag_steps;
  otherwise = simp tag_steps;
  behind = simp tag_steps;
  own_set = simp tag_steps;
  other_set = simp tag_steps;
  assigned = simp tag_steps;
  passed = simp tag_steps;
  tag = simp tag_steps;
  tag_set = simp tag_steps;
  turned = simp tag_steps;
  inside = simp tag_steps;
  made = simp tag_steps;
  no_tag = simp tag_steps;
  no_variant = simp tag_steps;
  not_of_it = simp tag_steps;
  ordered = simp tag_steps;
}
