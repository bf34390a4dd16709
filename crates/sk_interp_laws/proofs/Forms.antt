-- What expressions do with a log, by their forms.
use Rattle.std.proofs.Common.{◌≡◌, ℕ, List, map, Option, ap, subst, ◌∙◌}
use Rattle.sk_base.specs.declared.span.Span.{Span}
use Rattle.sk_base.specs.declared.name.Name.{Name}
use Rattle.sk_prog.specs.declared.ids.ConstId.{ConstId}
use Rattle.sk_prog.specs.declared.ids.FunId.{FunId}
use Rattle.sk_prog.specs.declared.ids.StructId.{StructId}
use Rattle.sk_prog.specs.declared.ty.Ty.{Ty}
use Rattle.sk_prog.specs.declared.expr.BinOp.{BinOp}
use Rattle.sk_prog.specs.declared.expr.PExpr.{PExpr}
use Rattle.sk_prog.specs.declared.expr.PField.{PField}
use Rattle.sk_prog.specs.declared.expr.PEForm.{PEForm}
use Rattle.sk_prog.specs.declared.expr.PEForm.TheVariants as eform
use Rattle.sk_prog.specs.declared.expr.PEForm.TheOpen as P
use Rattle.sk_prog.specs.declared.expr.PEForm.TheViews as V
use Rattle.sk_prog.specs.declared.expr.PEForm.TheFolds.{map-PEForm, fold-PEForm, fold-PField, fold-roll-PExpr, fold-roll-PEForm, fold-roll-PField}
use Rattle.sk_prog.specs.declared.prog.Prog.{Prog}
use Rattle.sk_interp_laws.specs.Eval.{Calls, Does, does, does_form}

module _ {L : Type 0} (prog : Prog) (width : ℕ) (call : Calls L) where
  -- what a field of `new` does
  abbrev pub field_does : PField → ℕ × Does L
  field_does = fold-PField (Option Ty → Does L) (Does L) (ℕ × Does L) (does_form prog width call) (λ x. x.form x.ty) (λ x. (x.field, x.value))

  abbrev pub form_does : PEForm → Option Ty → Does L
  form_does = fold-PEForm (Option Ty → Does L) (Does L) (ℕ × Does L) (does_form prog width call) (λ x. x.form x.ty) (λ x. (x.field, x.value))

  does_of : (x : P.PEForm-F PEForm PExpr PField) (form : PEForm) → V.roll-PEForm x ≡ form → (span : Span) (t : Option Ty) → does prog width call (record { span = span; ty = t; form = form }) ≡ does_form prog width call (map-PEForm PEForm PExpr PField (Option Ty → Does L) (Does L) (ℕ × Does L) form_does (does prog width call) field_does x) t
  does_of x form is span t = subst (λ f. does prog width call (record { span = span; ty = t; form = f }) ≡ does_form prog width call (map-PEForm PEForm PExpr PField (Option Ty → Does L) (Does L) (ℕ × Does L) form_does (does prog width call) field_does x) t) is
      (fold-roll-PExpr (Option Ty → Does L) (Does L) (ℕ × Does L) (does_form prog width call) (λ x. x.form x.ty) (λ x. (x.field, x.value)) (record { span = span; ty = t; form = V.roll-PEForm x })
      ∙ ap (λ d. d t) (fold-roll-PEForm (Option Ty → Does L) (Does L) (ℕ × Does L) (does_form prog width call) (λ x. x.form x.ty) (λ x. (x.field, x.value)) x))

  pub does_number : (span : Span) (t : Option Ty) (n : ℕ) → does prog width call (record { span = span; ty = t; form = eform.Number n }) ≡ does_form prog width call {X = Option Ty → Does L} (P.Number n) t
  does_number span t n = does_of (P.Number n) (eform.Number n) (V.rolls-Number n) span t

  pub does_var : (span : Span) (t : Option Ty) (slot : ℕ) (x : Name) → does prog width call (record { span = span; ty = t; form = eform.Var slot x }) ≡ does_form prog width call {X = Option Ty → Does L} (P.Var slot x) t
  does_var span t slot x = does_of (P.Var slot x) (eform.Var slot x) (V.rolls-Var slot x) span t

  pub does_const : (span : Span) (t : Option Ty) (c : ConstId) → does prog width call (record { span = span; ty = t; form = eform.Const c }) ≡ does_form prog width call {X = Option Ty → Does L} (P.Const c) t
  does_const span t c = does_of (P.Const c) (eform.Const c) (V.rolls-Const c) span t

  pub does_paren : (span : Span) (t : Option Ty) (a : PExpr) → does prog width call (record { span = span; ty = t; form = eform.Paren a }) ≡ does_form prog width call {X = Option Ty → Does L} (P.Paren (does prog width call a)) t
  does_paren span t a = does_of (P.Paren a) (eform.Paren a) (V.rolls-Paren a) span t

  pub does_call : (span : Span) (t : Option Ty) (f : FunId) (args : List PExpr) → does prog width call (record { span = span; ty = t; form = eform.Call f args }) ≡ does_form prog width call {X = Option Ty → Does L} (P.Call f (map (does prog width call) args)) t
  does_call span t f args = does_of (P.Call f args) (eform.Call f args) (V.rolls-Call f args) span t

  pub does_new : (span : Span) (t : Option Ty) (d : StructId) (fields : List PField) → does prog width call (record { span = span; ty = t; form = eform.New d fields }) ≡ does_form prog width call {X = Option Ty → Does L} (P.New d (map field_does fields)) t
  does_new span t d fields = does_of (P.New d fields) (eform.New d fields) (V.rolls-New d fields) span t

  pub does_braces : (span : Span) (t : Option Ty) (es : List PExpr) → does prog width call (record { span = span; ty = t; form = eform.Braces es }) ≡ does_form prog width call {X = Option Ty → Does L} (P.Braces (map (does prog width call) es)) t
  does_braces span t es = does_of (P.Braces es) (eform.Braces es) (V.rolls-Braces es) span t

  pub does_member : (span : Span) (t : Option Ty) (a : PExpr) (d : StructId) (k : ℕ) → does prog width call (record { span = span; ty = t; form = eform.Member a d k }) ≡ does_form prog width call {X = Option Ty → Does L} (P.Member (does prog width call a) d k) t
  does_member span t a d k = does_of (P.Member a d k) (eform.Member a d k) (V.rolls-Member a d k) span t

  pub does_index : (span : Span) (t : Option Ty) (a i : PExpr) → does prog width call (record { span = span; ty = t; form = eform.Index a i }) ≡ does_form prog width call {X = Option Ty → Does L} (P.Index (does prog width call a) (does prog width call i)) t
  does_index span t a i = does_of (P.Index a i) (eform.Index a i) (V.rolls-Index a i) span t

  pub does_slice : (span : Span) (t : Option Ty) (a i : PExpr) (n : ℕ) → does prog width call (record { span = span; ty = t; form = eform.Slice a i n }) ≡ does_form prog width call {X = Option Ty → Does L} (P.Slice (does prog width call a) (does prog width call i) n) t
  does_slice span t a i n = does_of (P.Slice a i n) (eform.Slice a i n) (V.rolls-Slice a i n) span t

  pub does_binary : (span : Span) (t : Option Ty) (o : BinOp) (a b : PExpr) → does prog width call (record { span = span; ty = t; form = eform.Binary o a b }) ≡ does_form prog width call {X = Option Ty → Does L} (P.Binary o (does prog width call a) (does prog width call b)) t
  does_binary span t o a b = does_of (P.Binary o a b) (eform.Binary o a b) (V.rolls-Binary o a b) span t

  pub does_to_int : (span : Span) (t : Option Ty) (a : PExpr) → does prog width call (record { span = span; ty = t; form = eform.ToInt a }) ≡ does_form prog width call {X = Option Ty → Does L} (P.ToInt (does prog width call a)) t
  does_to_int span t a = does_of (P.ToInt a) (eform.ToInt a) (V.rolls-ToInt a) span t

  pub field_does_is : (field : ℕ) (e : PExpr) → field_does (record { field = field; value = e }) ≡ (field, does prog width call e)
  field_does_is field e = fold-roll-PField (Option Ty → Does L) (Does L) (ℕ × Does L) (does_form prog width call) (λ x. x.form x.ty) (λ x. (x.field, x.value)) (record { field = field; value = e })
