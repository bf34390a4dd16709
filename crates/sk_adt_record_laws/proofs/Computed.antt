-- The examples, computed.
use Rattle.std.proofs.Common.{◌≡◌, ℕ, List, [], ◌∷◌, map, Option, None, refl, ap}
use Rattle.std.specs.Prelude.{◌==◌, ◌++◌, count_by, nat_lt, slice_get, if◌then◌else◌}
use Rattle.sk_base.specs.declared.span.Span.{Span}
use Rattle.sk_base.specs.declared.bounds.Bounds.{Bounds}
use Rattle.sk_base.specs.declared.name.Name.{Name}
use Rattle.sk_base.specs.Word.{wrapped}
use Rattle.sk_prog.specs.declared.ids.StructId.{StructId}
use Rattle.sk_prog.specs.declared.ty.Ty.{Ty}
use Rattle.sk_prog.specs.declared.value.Value.{Value}
use Rattle.sk_prog.specs.declared.expr.BinOp.{BinOp}
use Rattle.sk_prog.specs.declared.expr.PExpr.{PExpr}
use Rattle.sk_prog.specs.declared.expr.PField.{PField}
use Rattle.sk_prog.specs.declared.expr.PEForm.TheOpen as P
use Rattle.sk_prog.specs.declared.expr.PEForm.TheVariants as eform
use Rattle.sk_prog.specs.declared.expr.PEForm.TheViews as V
use Rattle.sk_prog.specs.declared.expr.PEForm.TheFolds.{fold-PField}
use Rattle.sk_prog.specs.declared.stmt.PStmt.{PStmt}
use Rattle.sk_prog.specs.declared.stmt.PForm.TheOpen as S
use Rattle.sk_prog.specs.declared.stmt.PForm.TheVariants as form
use Rattle.sk_prog.specs.declared.stmt.PForm.TheViews as W
use Rattle.sk_prog.specs.declared.prog.Prog.{Prog}
use Rattle.sk_model.specs.Exec.{Flow}
use Rattle.sk_model.specs.RunningExamples.{small}
use Rattle.sk_model.proofs.Layers.{expr_layer, layer_field, stmt_layer}
use Rattle.sk_adt.specs.declared.algebraic.Algebraic.{Algebraic}
use Rattle.sk_adt_tags.specs.Tags.{variant_at}
use Rattle.sk_adt_records.specs.Steps.{State, Comp, fail}
use Rattle.sk_adt_records.specs.Eval.{Calls, Does, does, does_form}
use Rattle.sk_adt_records.specs.Exec.{exec_stmt, exec_form, exec_all}
use Rattle.sk_adt_records.specs.Run.{calls, body_of}
use Rattle.sk_adt_record_laws.specs.Examples.{RecordExamples}

module _ (types : List Algebraic) (prog : Prog) (width : ℕ) (call : Calls) where
  abbrev does' : PExpr → Does
  does' = does types prog width call

  abbrev field_does : PField → ℕ × Does
  field_does = fold-PField (Option Ty → Does) Does (ℕ × Does) (does_form types prog width call) (λ x. x.form x.ty) (λ x. (x.field, x.value))

  does_number : (s : Span) (t : Option Ty) (n : ℕ) → does' (record { span = s; ty = t; form = eform.Number n }) ≡ does_form types prog width call {X = Option Ty → Does} (P.Number n) t
  does_number s t n = expr_layer (Option Ty → Does) Does (ℕ × Does) (does_form types prog width call) (λ x. x.form x.ty) (λ x. (x.field, x.value)) (P.Number n) (eform.Number n) (V.rolls-Number n) s t

  does_null : (s : Span) (t : Option Ty) → does' (record { span = s; ty = t; form = eform.Null }) ≡ does_form types prog width call {X = Option Ty → Does} P.Null t
  does_null s t = expr_layer (Option Ty → Does) Does (ℕ × Does) (does_form types prog width call) (λ x. x.form x.ty) (λ x. (x.field, x.value)) P.Null eform.Null V.rolls-Null s t

  does_var : (s : Span) (t : Option Ty) (slot : ℕ) (x : Name) → does' (record { span = s; ty = t; form = eform.Var slot x }) ≡ does_form types prog width call {X = Option Ty → Does} (P.Var slot x) t
  does_var s t slot x = expr_layer (Option Ty → Does) Does (ℕ × Does) (does_form types prog width call) (λ x. x.form x.ty) (λ x. (x.field, x.value)) (P.Var slot x) (eform.Var slot x) (V.rolls-Var slot x) s t

  does_new : (s : Span) (t : Option Ty) (d : StructId) (fs : List PField) → does' (record { span = s; ty = t; form = eform.New d fs }) ≡ does_form types prog width call {X = Option Ty → Does} (P.New d (map field_does fs)) t
  does_new s t d fs = expr_layer (Option Ty → Does) Does (ℕ × Does) (does_form types prog width call) (λ x. x.form x.ty) (λ x. (x.field, x.value)) (P.New d fs) (eform.New d fs) (V.rolls-New d fs) s t

  does_member : (s : Span) (t : Option Ty) (a : PExpr) (d : StructId) (k : ℕ) → does' (record { span = s; ty = t; form = eform.Member a d k }) ≡ does_form types prog width call {X = Option Ty → Does} (P.Member (does' a) d k) t
  does_member s t a d k = expr_layer (Option Ty → Does) Does (ℕ × Does) (does_form types prog width call) (λ x. x.form x.ty) (λ x. (x.field, x.value)) (P.Member a d k) (eform.Member a d k) (V.rolls-Member a d k) s t

  does_binary : (s : Span) (t : Option Ty) (o : BinOp) (a b : PExpr) → does' (record { span = s; ty = t; form = eform.Binary o a b }) ≡ does_form types prog width call {X = Option Ty → Does} (P.Binary o (does' a) (does' b)) t
  does_binary s t o a b = expr_layer (Option Ty → Does) Does (ℕ × Does) (does_form types prog width call) (λ x. x.form x.ty) (λ x. (x.field, x.value)) (P.Binary o a b) (eform.Binary o a b) (V.rolls-Binary o a b) s t

  does_field : (k : ℕ) (e : PExpr) → field_does (record { field = k; value = e }) ≡ (k, does' e)
  does_field k e = layer_field (Option Ty → Does) Does (ℕ × Does) (does_form types prog width call) (λ x. x.form x.ty) (λ x. (x.field, x.value)) k e

module _ (types : List Algebraic) (prog : Prog) (bounds : Bounds) (call : Calls) where
  abbrev acts : PStmt → Comp Flow
  acts = exec_stmt types prog bounds call

  act_block : (s : Span) (ss : List PStmt) (z : State) → acts (record { span = s; form = form.Block ss }) z ≡ exec_form types prog bounds call (S.Block (map acts ss)) s z
  act_block s ss z = ap (λ m. m z) (stmt_layer (Span → Comp Flow) (Comp Flow) (exec_form types prog bounds call) (λ s. s.form s.span) (S.Block ss) (form.Block ss) (W.rolls-Block ss) s)

  act_declare : (s : Span) (slot : ℕ) (x : Name) (t : Ty) (e : Option PExpr) (z : State) → acts (record { span = s; form = form.Declare slot x t e }) z ≡ exec_form types prog bounds call (S.Declare slot x t e) s z
  act_declare s slot x t e z = ap (λ m. m z) (stmt_layer (Span → Comp Flow) (Comp Flow) (exec_form types prog bounds call) (λ s. s.form s.span) (S.Declare slot x t e) (form.Declare slot x t e) (W.rolls-Declare slot x t e) s)

  act_assign : (s : Span) (p e : PExpr) (z : State) → acts (record { span = s; form = form.Assign p e }) z ≡ exec_form types prog bounds call (S.Assign p e) s z
  act_assign s p e z = ap (λ m. m z) (stmt_layer (Span → Comp Flow) (Comp Flow) (exec_form types prog bounds call) (λ s. s.form s.span) (S.Assign p e) (form.Assign p e) (W.rolls-Assign p e) s)

  act_return : (s : Span) (e : Option PExpr) (z : State) → acts (record { span = s; form = form.Return e }) z ≡ exec_form types prog bounds call (S.Return e) s z
  act_return s e z = ap (λ m. m z) (stmt_layer (Span → Comp Flow) (Comp Flow) (exec_form types prog bounds call) (λ s. s.form s.span) (S.Return e) (form.Return e) (W.rolls-Return e) s)

  act_if : (s : Span) (c : PExpr) (a : PStmt) (z : State) → acts (record { span = s; form = form.If c a None }) z ≡ exec_form types prog bounds call (S.If c (acts a) None) s z
  act_if s c a z = ap (λ m. m z) (stmt_layer (Span → Comp Flow) (Comp Flow) (exec_form types prog bounds call) (λ s. s.form s.span) (S.If c a None) (form.If c a None) (W.rolls-If c a None) s)

call_1 : (types : List Algebraic) (prog : Prog) (span : Span) (f : ℕ) (args : List Value) (active : List ℕ) (s : State) → calls types prog small 1 active span f args s ≡ (if nat_lt (count_by (λ g. g == f) active) 1 then body_of (λ fun. exec_all types prog small (calls types prog small 0 (active ++ f ∷ [])) fun.body) span (slice_get prog.funs f) args else fail span) s
unfolding calls
call_1 types prog span f args active s = refl

ruleset run_steps = (does_number, does_null, does_var, does_new, does_member, does_binary, does_field, act_block, act_declare, act_assign, act_return, act_if, call_1)

pub examples : RecordExamples
unfolding wrapped variant_at
examples = record { own = simp run_steps; other = simp run_steps; tag = simp run_steps; own_set = simp run_steps; other_set = simp run_steps; is_b = simp run_steps; is_not_a = simp run_steps; of_null = simp run_steps; first = simp run_steps; not_first = simp run_steps; no_variant = simp run_steps }
