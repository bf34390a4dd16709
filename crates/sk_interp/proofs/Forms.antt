-- What expressions and statements do in an active call, by their forms.
use Rattle.std.proofs.Common.{◌≡◌, ℕ, List, [], ◌∷◌, length, map, Option, Some, false, refl, sym, ap, subst, ◌∙◌, suc}
use Rattle.std.specs.Prelude.{Result, nat_le}
use Rattle.sk_base.specs.declared.span.Span.{Span}
use Rattle.sk_base.specs.declared.name.Name.{Name}
use Rattle.sk_prog.specs.declared.ids.StructId.{StructId}
use Rattle.sk_prog.specs.declared.ty.Ty.{Ty}
use Rattle.sk_prog.specs.declared.value.Value.{Value}
use Rattle.sk_prog.specs.declared.expr.UnOp.{UnOp}
use Rattle.sk_prog.specs.declared.expr.PExpr.{PExpr}
use Rattle.sk_prog.specs.declared.expr.PEForm.{PEForm}
use Rattle.sk_prog.specs.declared.expr.PEForm.TheVariants as eform
use Rattle.sk_prog.specs.declared.stmt.PStmt.{PStmt}
use Rattle.sk_prog.specs.declared.stmt.PForm.TheVariants as form
use Rattle.sk_model.specs.Heap.{read_field, write}
use Rattle.sk_model.specs.Operators.{unary_operator, to_int}
use Rattle.sk_model.specs.Eval.{literal, padded_at}
use Rattle.sk_model.specs.Exec.{Flow}
use Rattle.sk_model.specs.Step as step
use Rattle.sk_model.proofs.Layers.{layer_unary, layer_cond, layer_pad, layer_of_declare, layer_of_assign, layer_of_reorder}
use Rattle.sk_interp_laws.specs.declared.log.Log.{Log}
use Rattle.sk_interp_laws.specs.Recording.{Recorded, Fails, Traced, pure, lift}
use Rattle.sk_interp_laws.specs.Eval.{Does, does_form, choose}
use Rattle.sk_interp_laws.specs.Exec.{assign, exec_form}
use Rattle.sk_interp_laws.specs.Kept.{kept}
use Rattle.sk_interp_laws.proofs.Forms.{does_number, does_member, does_to_int}
use Rattle.sk_interp.specs.declared.activation.Activation.{Activation}
use Rattle.sk_interp.specs.declared.stop.Stop.{Stop}
use Rattle.sk_interp.specs.Records.{Records, Computes}
use Rattle.sk_interp.specs.Calling.{followed, calls_in, does_in, exec_in, stored_in}

module _ (a : Activation) (e : PExpr) (span : Span) (s : Recorded Log) where
  -- an expression of this form, which does this
  value_by : (form : PEForm) (d : Does Log) → e.form ≡ form → does_in a (record { span = e.span; ty = e.ty; form = form }) ≡ d → (does_in a e).value span s ≡ d.value span s
  value_by form d is does =
      ap (λ f. (does_in a (record { span = e.span; ty = e.ty; form = f })).value span s) is
      ∙ ap (λ (x : Does Log). x.value span s) does

  -- a part, and what is done with its value
  one_gives : (r : Result Value Stop) (t : Recorded Log) (k : Value → Traced Log Value) (x y : PExpr) → (does_in a e).value span s ≡ followed ((does_in a x).value span) k s → y ≡ x → Records r t (followed ((does_in a y).value span) k s) → Records r t ((does_in a e).value span s)
  one_gives r t k x y does same h = subst (λ m. Records r t m) (sym does) (subst (λ z. Records r t (followed ((does_in a z).value span) k s)) same h)

  pub number_gives : (r : Result Value Stop) (n : ℕ) → e.form ≡ eform.Number n → Computes r (step.pure (literal a.bounds.int_bits e.ty n)) → Records r s ((does_in a e).value span s)
  number_gives r n is h = subst (λ m. Records r s m) (sym (value_by (eform.Number n) _ is (does_number a.prog.now a.bounds.int_bits (calls_in a) e.span e.ty n))) (h s)

  pub member_gives : (r : Result Value Stop) (t : Recorded Log) (x y : PExpr) (d : StructId) (field : ℕ) → e.form ≡ eform.Member x d field → y ≡ x → Records r t (followed ((does_in a y).value span) (λ v. lift (read_field span field v)) s) → Records r t ((does_in a e).value span s)
  member_gives r t x y d field is same h = one_gives r t (λ v. lift (read_field span field v)) x y (value_by (eform.Member x d field) _ is (does_member a.prog.now a.bounds.int_bits (calls_in a) e.span e.ty x d field)) same h

  pub to_int_gives : (r : Result Value Stop) (t : Recorded Log) (x y : PExpr) → e.form ≡ eform.ToInt x → y ≡ x → Records r t (followed ((does_in a y).value span) (λ v. lift (to_int span v)) s) → Records r t ((does_in a e).value span s)
  to_int_gives r t x y is same h = one_gives r t (λ v. lift (to_int span v)) x y (value_by (eform.ToInt x) _ is (does_to_int a.prog.now a.bounds.int_bits (calls_in a) e.span e.ty x)) same h

  pub unary_gives : (r : Result Value Stop) (t : Recorded Log) (o : UnOp) (x y : PExpr) → e.form ≡ eform.Unary o x → y ≡ x → Records r t (followed ((does_in a y).value span) (λ v. lift (unary_operator a.bounds.int_bits span o v)) s) → Records r t ((does_in a e).value span s)
  unary_gives r t o x y is same h =
      one_gives r t (λ v. lift (unary_operator a.bounds.int_bits span o v)) x y
      (value_by (eform.Unary o x) _ is (layer_unary (Option Ty → Does Log) (Does Log) (ℕ × Does Log) (does_form a.prog.now a.bounds.int_bits (calls_in a)) (λ z. z.form z.ty) (λ z. (z.field, z.value)) e.span e.ty o x)) same h

  pub pad_gives : (r : Result Value Stop) (t : Recorded Log) (x y : PExpr) → e.form ≡ eform.Pad x → y ≡ x → Records r t (followed ((does_in a y).value span) (λ v. pure (padded_at e.ty v)) s) → Records r t ((does_in a e).value span s)
  pad_gives r t x y is same h =
      one_gives r t (λ v. pure (padded_at e.ty v)) x y
      (value_by (eform.Pad x) _ is (layer_pad (Option Ty → Does Log) (Does Log) (ℕ × Does Log) (does_form a.prog.now a.bounds.int_bits (calls_in a)) (λ z. z.form z.ty) (λ z. (z.field, z.value)) e.span e.ty x)) same h

  abbrev chosen : PExpr → PExpr → PExpr → Traced Log Value
  chosen c x y = followed ((does_in a c).value span) (choose span ((does_in a x).value span) ((does_in a y).value span))

  pub cond_gives : (r : Result Value Stop) (t : Recorded Log) (c x y c' x' y' : PExpr) → e.form ≡ eform.Cond c x y → c' ≡ c → x' ≡ x → y' ≡ y → Records r t (followed ((does_in a c').value span) (choose span ((does_in a x').value span) ((does_in a y').value span)) s) → Records r t ((does_in a e).value span s)
  cond_gives r t c x y c' x' y' is ec ex ey h =
      let first = subst (λ z. Records r t (chosen z x' y' s)) ec h in
      let second = subst (λ z. Records r t (chosen c z y' s)) ex first in
      let third = subst (λ z. Records r t (chosen c x z s)) ey second in
      subst (λ m. Records r t m) (sym (value_by (eform.Cond c x y) _ is (layer_cond (Option Ty → Does Log) (Does Log) (ℕ × Does Log) (does_form a.prog.now a.bounds.int_bits (calls_in a)) (λ z. z.form z.ty) (λ z. (z.field, z.value)) e.span e.ty c x y))) third

-- as many as there were
as_many : {X Y : Type 0} (f : X → Y) (xs : List X) → length (map f xs) ≡ length xs
as_many f [] = refl
as_many f (x ∷ xs) = ap suc (as_many f xs)

module _ (a : Activation) (stmt : PStmt) (s : Recorded Log) where
  pub declare_does : (slot : ℕ) (name : Name) (ty : Ty) (value : Option PExpr) (e : PExpr) → stmt.form ≡ form.Declare slot name ty value → value ≡ Some e → exec_in a stmt s ≡ followed ((does_in a e).value stmt.span) (λ v. stored_in a stmt.span (write slot v) v) s
  declare_does slot name ty value e is some =
      ap (λ f. exec_in a (record { span = stmt.span; form = f }) s) is
      ∙ ap (λ v. exec_in a (record { span = stmt.span; form = form.Declare slot name ty v }) s) some
      ∙ ap (λ (m : Traced Log Flow). m s) (layer_of_declare (Span → Traced Log Flow) (Traced Log Flow) (exec_form kept a.depth a.prog.now a.bounds (calls_in a)) (λ z. z.form z.span) stmt.span slot name ty (Some e))

  pub assign_does : (target value : PExpr) → stmt.form ≡ form.Assign target value → exec_in a stmt s ≡ assign kept a.depth stmt.span (does_in a target) (does_in a value) s
  assign_does target value is =
      ap (λ f. exec_in a (record { span = stmt.span; form = f }) s) is
      ∙ ap (λ (m : Traced Log Flow). m s) (layer_of_assign (Span → Traced Log Flow) (Traced Log Flow) (exec_form kept a.depth a.prog.now a.bounds (calls_in a)) (λ z. z.form z.span) stmt.span target value)

  pub reorder_fails : (stmts : List PStmt) → stmt.form ≡ form.Reorder stmts → nat_le (length stmts) 1 ≡ false → exec_in a stmt s ≡ Fails stmt.span s.log
  reorder_fails stmts is many =
      ap (λ f. exec_in a (record { span = stmt.span; form = f }) s) is
      ∙ ap (λ (m : Traced Log Flow). m s) (layer_of_reorder (Span → Traced Log Flow) (Traced Log Flow) (exec_form kept a.depth a.prog.now a.bounds (calls_in a)) (λ z. z.form z.span) stmt.span stmts)
      ∙ rw (as_many (exec_in a) stmts, many) refl
