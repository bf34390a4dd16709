-- One layer of what the parts of a program do.
use Rattle.std.proofs.Common.{◌≡◌, ◌≢◌, ℕ, ◌+◌, List, [], ◌∷◌, ◌++◌, map, take, length, get_or, Option, Some, None, true, false, refl, sym, ap, subst, ◌∙◌, ◌<◌, arith}
use Rattle.std.specs.Prelude.{slice_get}
use Rattle.std.proofs.lemmas.List.{take_more}
use Rattle.sk_base.specs.declared.span.Span.{Span}
use Rattle.sk_base.specs.declared.name.Name.{Name}
use Rattle.sk_dag.specs.declared.env.Env.{Env}
use Rattle.sk_prog.specs.declared.ids.ConstId.{ConstId}
use Rattle.sk_prog.specs.declared.ids.StructId.{StructId}
use Rattle.sk_prog.specs.declared.ids.FunId.{FunId}
use Rattle.sk_prog.specs.declared.ty.Ty.{Ty}
use Rattle.sk_prog.specs.declared.value.Value.{Value}
use Rattle.sk_prog.specs.declared.value.Value.TheVariants as value
use Rattle.sk_prog.specs.declared.expr.BinOp.{BinOp}
use Rattle.sk_prog.specs.declared.expr.BinOp.TheVariants as op
use Rattle.sk_prog.specs.declared.expr.UnOp.{UnOp}
use Rattle.sk_prog.specs.declared.expr.PExpr.{PExpr}
use Rattle.sk_prog.specs.declared.expr.PEForm.{PEForm}
use Rattle.sk_prog.specs.declared.expr.PEForm.TheVariants as eform
use Rattle.sk_prog.specs.declared.expr.PEForm.TheOpen as P
use Rattle.sk_prog.specs.declared.stmt.PStmt.{PStmt}
use Rattle.sk_prog.specs.declared.stmt.PForm.{PForm}
use Rattle.sk_prog.specs.declared.stmt.PForm.TheVariants as form
use Rattle.sk_prog.specs.declared.stmt.PForm.TheOpen as S
use Rattle.sk_prog.specs.declared.stmt.PForm.TheViews as W
use Rattle.sk_model.specs.Parts.{Part, counts, in_turn}
use Rattle.sk_model.specs.Step.{State, Step, Goes, Fails, Skips, Comp, and_then, ◌>>=◌, pure}
use Rattle.sk_model.specs.Heap.{read, write}
use Rattle.sk_model.specs.Eval.{Does, literal, const_value, binary, choose}
use Rattle.sk_model.specs.Operators.{operator}
use Rattle.sk_model.specs.Exec.{Flow, Onward, Returns, unless_returned, one_by_one, onward, declare}
use Rattle.sk_model.specs.Open.{open_eform, open_field, open_form}
use Rattle.sk_model.proofs.Layers.{layer_number, layer_true, layer_false, layer_null, layer_var, layer_const, layer_hole, layer_paren, layer_unary, layer_member, layer_index, layer_slice, layer_braces, layer_call, layer_binary, layer_cond, layer_to_int, layer_pad, layer_of_block, layer_of_if, layer_of_if_else, stmt_layer}
use Rattle.sk_sym_walk.specs.declared.activation.Activation.{Activation}
use Rattle.sk_sym_forms.specs.declared.act.Act.TheVariants as act
use Rattle.sk_sym_forms.specs.declared.double.Double.TheVariants as double
use Rattle.sk_sym_forms.specs.declared.single.Single.TheVariants as single
use Rattle.sk_sym_walk.specs.Walk.{prog_of, values_at, calls_at, expr_part, stmt_part, all_part, eval_part, exec_all_at}
use Rattle.sk_sym_walk.specs.Parts.{siteless, then_parts, either_part, given, IsAs, hole_part, single_part, double_part, binary_part, braces_part, cond_part, act_part, branch_part}
use Rattle.sk_sym_walk.specs.Calls.{call_part}
use Rattle.sk_sym_walk.proofs.Sequences.{SamePart, same_part}

-- ---- expressions

module _ (a : Activation) (span : Span) (x : PExpr) where
  abbrev step : Env → P.PEForm-F (Option Ty → Part Does) (Part Does) (Part (ℕ × Does)) → Option Ty → Part Does
  step env = open_eform (prog_of a) a.bounds (values_at a env) (calls_at a env)

  abbrev field_step : Env → P.PField-F (Option Ty → Part Does) (Part Does) (Part (ℕ × Does)) → Part (ℕ × Does)
  field_step env = open_field (prog_of a) a.bounds (values_at a env) (calls_at a env)

  abbrev valued : Part Does → Part (Comp Value)
  valued p = record { count = p.count; at = λ i. (p.at i).value span }

  abbrev with_form : Env → PEForm → Part (Comp Value)
  with_form env f = eval_part a span (record { span = x.span; ty = x.ty; form = f }) env

  pub same_number : (n : ℕ) → x.form ≡ eform.Number n → SamePart (siteless (λ e. pure (literal a.bounds.int_bits x.ty n))) (eval_part a span x)
  same_number n is = same_part (λ env. ap (with_form env) is ∙ ap valued (layer_number (Option Ty → Part Does) (Part Does) (Part (ℕ × Does)) (step env) (λ e. e.form e.ty) (field_step env) x.span x.ty n))

  pub same_true : x.form ≡ eform.True → SamePart (given true) (eval_part a span x)
  same_true is = same_part (λ env. ap (with_form env) is ∙ ap valued (layer_true (Option Ty → Part Does) (Part Does) (Part (ℕ × Does)) (step env) (λ e. e.form e.ty) (field_step env) x.span x.ty))

  pub same_false : x.form ≡ eform.False → SamePart (given false) (eval_part a span x)
  same_false is = same_part (λ env. ap (with_form env) is ∙ ap valued (layer_false (Option Ty → Part Does) (Part Does) (Part (ℕ × Does)) (step env) (λ e. e.form e.ty) (field_step env) x.span x.ty))

  pub same_null : x.form ≡ eform.Null → SamePart (siteless (λ e. pure value.Null)) (eval_part a span x)
  same_null is = same_part (λ env. ap (with_form env) is ∙ ap valued (layer_null (Option Ty → Part Does) (Part Does) (Part (ℕ × Does)) (step env) (λ e. e.form e.ty) (field_step env) x.span x.ty))

  pub same_var : (slot : ℕ) (n : Name) → x.form ≡ eform.Var slot n → SamePart (siteless (λ e. read slot)) (eval_part a span x)
  same_var slot n is = same_part (λ env. ap (with_form env) is ∙ ap valued (layer_var (Option Ty → Part Does) (Part Does) (Part (ℕ × Does)) (step env) (λ e. e.form e.ty) (field_step env) x.span x.ty slot n))

  pub same_const : (k : ConstId) → x.form ≡ eform.Const k → SamePart (siteless (λ e. pure (const_value (slice_get (prog_of a).consts k.index)))) (eval_part a span x)
  same_const k is = same_part (λ env. ap (with_form env) is ∙ ap valued (layer_const (Option Ty → Part Does) (Part Does) (Part (ℕ × Does)) (step env) (λ e. e.form e.ty) (field_step env) x.span x.ty k))

  pub same_hole : (bits : Option ℕ) → x.form ≡ eform.Hole bits → SamePart (hole_part a x.ty) (eval_part a span x)
  same_hole bits is = same_part (λ env. ap (with_form env) is ∙ ap valued (layer_hole (Option Ty → Part Does) (Part Does) (Part (ℕ × Does)) (step env) (λ e. e.form e.ty) (field_step env) x.span x.ty bits))

  pub paren_is : (y : PExpr) → x.form ≡ eform.Paren y → (env : Env) → eval_part a span x env ≡ eval_part a span y env
  paren_is y is env = ap (with_form env) is ∙ ap valued (layer_paren (Option Ty → Part Does) (Part Does) (Part (ℕ × Does)) (step env) (λ e. e.form e.ty) (field_step env) x.span x.ty y)

  -- what stands inside more of them
  pub same_inside : (y z : PExpr) → x.form ≡ eform.Paren y → IsAs y z → SamePart (eval_part a span z) (eval_part a span x)
  same_inside y z is h = same_part (λ env. paren_is y is env ∙ h.same a span env)

  pub same_unary : (o : UnOp) (y : PExpr) → x.form ≡ eform.Unary o y → SamePart (single_part a span (single.Unary o) y) (eval_part a span x)
  same_unary o y is = same_part (λ env. ap (with_form env) is ∙ ap valued (layer_unary (Option Ty → Part Does) (Part Does) (Part (ℕ × Does)) (step env) (λ e. e.form e.ty) (field_step env) x.span x.ty o y))

  pub same_to_int : (y : PExpr) → x.form ≡ eform.ToInt y → SamePart (single_part a span single.ToInt y) (eval_part a span x)
  same_to_int y is = same_part (λ env. ap (with_form env) is ∙ ap valued (layer_to_int (Option Ty → Part Does) (Part Does) (Part (ℕ × Does)) (step env) (λ e. e.form e.ty) (field_step env) x.span x.ty y))

  pub same_pad : (y : PExpr) → x.form ≡ eform.Pad y → SamePart (single_part a span (single.Pad x.ty) y) (eval_part a span x)
  same_pad y is = same_part (λ env. ap (with_form env) is ∙ ap valued (layer_pad (Option Ty → Part Does) (Part Does) (Part (ℕ × Does)) (step env) (λ e. e.form e.ty) (field_step env) x.span x.ty y))

  pub same_member : (y : PExpr) (d : StructId) (k : ℕ) → x.form ≡ eform.Member y d k → SamePart (single_part a span (single.Member d k) y) (eval_part a span x)
  same_member y d k is = same_part (λ env. ap (with_form env) is ∙ ap valued (layer_member (Option Ty → Part Does) (Part Does) (Part (ℕ × Does)) (step env) (λ e. e.form e.ty) (field_step env) x.span x.ty y d k))

  pub same_index : (y z : PExpr) → x.form ≡ eform.Index y z → SamePart (double_part a span double.Index y z) (eval_part a span x)
  same_index y z is = same_part (λ env. ap (with_form env) is ∙ ap valued (layer_index (Option Ty → Part Does) (Part Does) (Part (ℕ × Does)) (step env) (λ e. e.form e.ty) (field_step env) x.span x.ty y z))

  pub same_slice : (y z : PExpr) (n : ℕ) → x.form ≡ eform.Slice y z n → SamePart (double_part a span (double.Slice n) y z) (eval_part a span x)
  same_slice y z n is = same_part (λ env. ap (with_form env) is ∙ ap valued (layer_slice (Option Ty → Part Does) (Part Does) (Part (ℕ × Does)) (step env) (λ e. e.form e.ty) (field_step env) x.span x.ty y z n))

  pub same_braces : (ys : List PExpr) → x.form ≡ eform.Braces ys → SamePart (braces_part a span x.ty ys) (eval_part a span x)
  same_braces ys is = same_part (λ env. ap (with_form env) is ∙ ap valued (layer_braces (Option Ty → Part Does) (Part Does) (Part (ℕ × Does)) (step env) (λ e. e.form e.ty) (field_step env) x.span x.ty ys))

  pub same_calling : (f : FunId) (ys : List PExpr) → x.form ≡ eform.Call f ys → SamePart (call_part a span f ys) (eval_part a span x)
  same_calling f ys is = same_part (λ env. ap (with_form env) is ∙ ap valued (layer_call (Option Ty → Part Does) (Part Does) (Part (ℕ × Does)) (step env) (λ e. e.form e.ty) (field_step env) x.span x.ty f ys))

  pub same_binary : (o : BinOp) (y z : PExpr) → x.form ≡ eform.Binary o y z → SamePart (binary_part a span o y z) (eval_part a span x)
  same_binary o y z is = same_part (λ env. ap (with_form env) is ∙ ap valued (layer_binary (Option Ty → Part Does) (Part Does) (Part (ℕ × Does)) (step env) (λ e. e.form e.ty) (field_step env) x.span x.ty o y z))

  pub same_cond : (c y z : PExpr) → x.form ≡ eform.Cond c y z → SamePart (cond_part a span c y z) (eval_part a span x)
  same_cond c y z is = record {
    count = λ env. ap (λ (p : Part (Comp Value)). p.count) (whole env);
    at = λ env i s.
        let apart : i + ((eval_part a span c env).count + (eval_part a span y env).count) ≡ (i + (eval_part a span c env).count) + (eval_part a span y env).count = omega arith in
        ap (λ (p : Part (Comp Value)). p.at i s) (whole env)
        ∙ ap (λ n. and_then ((eval_part a span c env).at i s) (choose span ((eval_part a span y env).at (i + (eval_part a span c env).count)) ((eval_part a span z env).at n))) apart;
  }
    where
      whole : (env : Env) → eval_part a span x env ≡ valued (step env (P.Cond (expr_part a c env) (expr_part a y env) (expr_part a z env)) x.ty)
      whole env = ap (with_form env) is ∙ ap valued (layer_cond (Option Ty → Part Does) (Part Does) (Part (ℕ × Does)) (step env) (λ e. e.form e.ty) (field_step env) x.span x.ty c y z)

-- all operators but `&&` and `||` evaluate both parts
pub same_eager : (a : Activation) (span : Span) (o : BinOp) (y z : PExpr) → o ≢ op.AndThen → o ≢ op.OrElse → SamePart (double_part a span (double.Operator o) y z) (binary_part a span o y z)
same_eager a span o y z e n = record { count = λ env. refl; at = λ env i s. eager o ((eval_part a span y env).at i) ((eval_part a span z env).at (i + (eval_part a span y env).count)) s e n }
  where
    eager : (o : BinOp) (m k : Comp Value) (s : State) → o ≢ op.AndThen → o ≢ op.OrElse → binary a.bounds.int_bits span o m k s ≡ and_then (m s) (λ v t. and_then (k t) (operator a.bounds.int_bits span o v))
    eager op.Mul m k s e n = refl
    eager op.Div m k s e n = refl
    eager op.Rem m k s e n = refl
    eager op.Add m k s e n = refl
    eager op.Sub m k s e n = refl
    eager op.Shl m k s e n = refl
    eager op.Shr m k s e n = refl
    eager op.Lt m k s e n = refl
    eager op.Le m k s e n = refl
    eager op.Gt m k s e n = refl
    eager op.Ge m k s e n = refl
    eager op.Eq m k s e n = refl
    eager op.Ne m k s e n = refl
    eager op.And m k s e n = refl
    eager op.Xor m k s e n = refl
    eager op.Or m k s e n = refl
    eager op.AndThen m k s e n = absurd (e refl)
    eager op.OrElse m k s e n = absurd (n refl)

-- `&&` and `||`, where the second part has a place of its own
pub same_also : (a : Activation) (span : Span) (o : BinOp) (y z : PExpr) → o ≡ op.AndThen → SamePart (then_parts (eval_part a span y) (either_part span (eval_part a span z) (given false))) (binary_part a span o y z)
same_also a span o y z is = subst (λ o. SamePart (then_parts (eval_part a span y) (either_part span (eval_part a span z) (given false))) (binary_part a span o y z)) (sym is) (record { count = λ env. omega arith; at = λ env i s. refl })

pub same_otherwise : (a : Activation) (span : Span) (o : BinOp) (y z : PExpr) → o ≡ op.OrElse → SamePart (then_parts (eval_part a span y) (either_part span (given true) (eval_part a span z))) (binary_part a span o y z)
same_otherwise a span o y z is = subst (λ o. SamePart (then_parts (eval_part a span y) (either_part span (given true) (eval_part a span z))) (binary_part a span o y z)) (sym is) (record {
  count = λ env. omega arith;
  at = λ env i s.
      let behind : i + (eval_part a span y env).count ≡ (i + (eval_part a span y env).count) + 0 = omega arith in
      ap (λ n. and_then ((eval_part a span y env).at i s) (choose span (pure (value.Bit true)) ((eval_part a span z env).at n))) behind;
})

-- ---- statements

module _ (a : Activation) (s : PStmt) where
  abbrev pub stmt_step : Env → S.PForm-F (Part (Span → Comp Flow)) (Part (Comp Flow)) → Part (Span → Comp Flow)
  stmt_step env = open_form (prog_of a) a.bounds (values_at a env) (calls_at a env)

  abbrev run_with : Part (Span → Comp Flow) → Part (Comp Flow)
  run_with p = record { count = p.count; at = λ i. p.at i s.span }

  abbrev with_pform : Env → PForm → Part (Comp Flow)
  with_pform env f = stmt_part a (record { span = s.span; form = f }) env

  pub same_block : (ss : List PStmt) → s.form ≡ form.Block ss → SamePart (all_part a ss) (stmt_part a s)
  same_block ss is = same_part (λ env. ap (with_pform env) is ∙ layer_of_block (Part (Span → Comp Flow)) (Part (Comp Flow)) (stmt_step env) (λ t. record { count = t.form.count; at = λ i. t.form.at i t.span }) s.span ss)

  pub same_assert : (x : PExpr) → s.form ≡ form.Assert x → SamePart (act_part a s.span act.Assert x) (stmt_part a s)
  same_assert x is = same_part (λ env. ap (with_pform env) is ∙ stmt_layer (Part (Span → Comp Flow)) (Part (Comp Flow)) (stmt_step env) (λ t. record { count = t.form.count; at = λ i. t.form.at i t.span }) (S.Assert x) (form.Assert x) (W.rolls-Assert x) s.span)

  pub same_assume : (x : PExpr) → s.form ≡ form.Assume x → SamePart (act_part a s.span act.Assume x) (stmt_part a s)
  same_assume x is = same_part (λ env. ap (with_pform env) is ∙ stmt_layer (Part (Span → Comp Flow)) (Part (Comp Flow)) (stmt_step env) (λ t. record { count = t.form.count; at = λ i. t.form.at i t.span }) (S.Assume x) (form.Assume x) (W.rolls-Assume x) s.span)

  pub same_minimize : (x : PExpr) → s.form ≡ form.Minimize x → SamePart (act_part a s.span act.Minimize x) (stmt_part a s)
  same_minimize x is = same_part (λ env. ap (with_pform env) is ∙ stmt_layer (Part (Span → Comp Flow)) (Part (Comp Flow)) (stmt_step env) (λ t. record { count = t.form.count; at = λ i. t.form.at i t.span }) (S.Minimize x) (form.Minimize x) (W.rolls-Minimize x) s.span)

  pub same_call : (x : PExpr) → s.form ≡ form.Call x → SamePart (act_part a s.span act.Drop x) (stmt_part a s)
  same_call x is = same_part (λ env. ap (with_pform env) is ∙ stmt_layer (Part (Span → Comp Flow)) (Part (Comp Flow)) (stmt_step env) (λ t. record { count = t.form.count; at = λ i. t.form.at i t.span }) (S.Call x) (form.Call x) (W.rolls-Call x) s.span)

  pub same_return : (x : PExpr) → s.form ≡ form.Return (Some x) → SamePart (act_part a s.span act.Return x) (stmt_part a s)
  same_return x is = same_part (λ env. ap (with_pform env) is ∙ stmt_layer (Part (Span → Comp Flow)) (Part (Comp Flow)) (stmt_step env) (λ t. record { count = t.form.count; at = λ i. t.form.at i t.span }) (S.Return (Some x)) (form.Return (Some x)) (W.rolls-Return (Some x)) s.span)

  pub same_end : s.form ≡ form.Return None → SamePart (siteless (λ e. pure (Returns None))) (stmt_part a s)
  same_end is = same_part (λ env. ap (with_pform env) is ∙ stmt_layer (Part (Span → Comp Flow)) (Part (Comp Flow)) (stmt_step env) (λ t. record { count = t.form.count; at = λ i. t.form.at i t.span }) (S.Return None) (form.Return None) (W.rolls-Return None) s.span)

  pub same_zero : (slot : ℕ) (n : Name) (t : Ty) → s.form ≡ form.Declare slot n t None → SamePart (siteless (λ e. declare s.span slot t None)) (stmt_part a s)
  same_zero slot n t is = same_part (λ env. ap (with_pform env) is ∙ stmt_layer (Part (Span → Comp Flow)) (Part (Comp Flow)) (stmt_step env) (λ t. record { count = t.form.count; at = λ i. t.form.at i t.span }) (S.Declare slot n t None) (form.Declare slot n t None) (W.rolls-Declare slot n t None) s.span)

  pub same_declare : (slot : ℕ) (n : Name) (t : Ty) (x : PExpr) → s.form ≡ form.Declare slot n t (Some x) → SamePart (act_part a s.span (act.Declare slot) x) (stmt_part a s)
  same_declare slot n t x is = record {
    count = λ env. ap (λ (p : Part (Comp Flow)). p.count) (whole env);
    at = λ env i at. ap (λ (p : Part (Comp Flow)). p.at i at) (whole env) ∙ one ((eval_part a s.span x env).at i at);
  }
    where
      whole : (env : Env) → stmt_part a s env ≡ run_with (stmt_step env (S.Declare slot n t (Some x)))
      whole env = ap (with_pform env) is ∙ stmt_layer (Part (Span → Comp Flow)) (Part (Comp Flow)) (stmt_step env) (λ t. record { count = t.form.count; at = λ i. t.form.at i t.span }) (S.Declare slot n t (Some x)) (form.Declare slot n t (Some x)) (W.rolls-Declare slot n t (Some x)) s.span

      one : (t : Step Value) → and_then (and_then t (write slot)) (λ u. pure Onward) ≡ and_then t (λ v. onward (write slot v))
      one (Goes v at) = refl
      one (Fails span) = refl
      one (Skips span) = refl

  pub same_if : (c : PExpr) (t : PStmt) → s.form ≡ form.If c t None → SamePart (branch_part a s.span c t None) (stmt_part a s)
  same_if c t is = same_part (λ env. ap (with_pform env) is ∙ layer_of_if (Part (Span → Comp Flow)) (Part (Comp Flow)) (stmt_step env) (λ t. record { count = t.form.count; at = λ i. t.form.at i t.span }) s.span c t)

  pub same_if_else : (c : PExpr) (t u : PStmt) → s.form ≡ form.If c t (Some u) → SamePart (branch_part a s.span c t (Some u)) (stmt_part a s)
  same_if_else c t u is = record {
    count = λ env. ap (λ (p : Part (Comp Flow)). p.count) (whole env);
    at = λ env i at.
        let apart : i + ((eval_part a s.span c env).count + (stmt_part a t env).count) ≡ (i + (eval_part a s.span c env).count) + (stmt_part a t env).count = omega arith in
        ap (λ (p : Part (Comp Flow)). p.at i at) (whole env)
        ∙ ap (λ n. and_then ((eval_part a s.span c env).at i at) (choose s.span ((stmt_part a t env).at (i + (eval_part a s.span c env).count)) ((stmt_part a u env).at n))) apart;
  }
    where
      whole : (env : Env) → stmt_part a s env ≡ run_with (stmt_step env (S.If c (stmt_part a t env) (Some (stmt_part a u env))))
      whole env = ap (with_pform env) is ∙ layer_of_if_else (Part (Span → Comp Flow)) (Part (Comp Flow)) (stmt_step env) (λ t. record { count = t.form.count; at = λ i. t.form.at i t.span }) s.span c t u

  -- with or without the other statement
  pub same_branch : (c : PExpr) (t : PStmt) (other : Option PStmt) → s.form ≡ form.If c t other → SamePart (branch_part a s.span c t other) (stmt_part a s)
  same_branch c t None is = same_if c t is
  same_branch c t (Some u) is = same_if_else c t u is

-- ---- lists of statements

pub counts_push : {A : Type 0} (ps : List (Part A)) (p : Part A) → counts (ps ++ p ∷ []) ≡ counts ps + p.count
counts_push [] p = omega arith
counts_push (q ∷ qs) p = omega (arith, counts_push qs p)

pub turn_push : {A : Type 0} (ps : List (Part A)) (p : Part A) (i : ℕ) → in_turn (ps ++ p ∷ []) i ≡ in_turn ps i ++ p.at (i + counts ps) ∷ []
turn_push [] p i = let e : i ≡ i + 0 = omega arith in ap (λ j. p.at j ∷ []) e
turn_push (q ∷ qs) p i = let e : (i + q.count) + counts qs ≡ i + (q.count + counts qs) = omega arith in ap (λ l. q.at i ∷ l) (turn_push qs p (i + q.count) ∙ ap (λ j. in_turn qs (i + q.count) ++ p.at j ∷ []) e)

pub map_push : {A B : Type 0} (f : A → B) (xs : List A) (x : A) → map f (xs ++ x ∷ []) ≡ map f xs ++ f x ∷ []
map_push f [] x = refl
map_push f (y ∷ ys) x = ap (λ l. f y ∷ l) (map_push f ys x)

pub nothing_more : (t : Step Flow) → and_then t (unless_returned (pure Onward)) ≡ t
nothing_more (Goes Onward s) = refl
nothing_more (Goes (Returns v) s) = refl
nothing_more (Fails span) = refl
nothing_more (Skips span) = refl

pub two_after : (t : Step Flow) (m n : Comp Flow) → and_then (and_then t (unless_returned m)) (unless_returned n) ≡ and_then t (unless_returned (m >>= unless_returned n))
two_after (Goes Onward s) m n = refl
two_after (Goes (Returns v) s) m n = refl
two_after (Fails span) m n = refl
two_after (Skips span) m n = refl

pub one_more : (ms : List (Comp Flow)) (m : Comp Flow) (s : State) → one_by_one (ms ++ m ∷ []) s ≡ and_then (one_by_one ms s) (unless_returned m)
one_more [] m s = nothing_more (m s)
one_more (n ∷ ms) m s = (λ i. and_then (n s) (unless_returned (λ t. one_more ms m t i))) ∙ sym (two_after (n s) (one_by_one ms) m)

module _ (a : Activation) (list : List PStmt) (i : ℕ) (stmt : PStmt) (l : i < length list) (is : stmt ≡ get_or list i stmt) (env : Env) where
  more : take (i + 1) list ≡ take i list ++ stmt ∷ []
  more = take_more list i stmt l ∙ ap (λ y. take i list ++ y ∷ []) (sym is)

  parts : PStmt → Part (Comp Flow)
  parts t = stmt_part a t env

  pub all_count : (all_part a (take (i + 1) list) env).count ≡ (all_part a (take i list) env).count + (stmt_part a stmt env).count
  all_count = ap (λ xs. counts (map (λ t. stmt_part a t env) xs)) more ∙ ap counts (map_push (λ t. stmt_part a t env) (take i list) stmt) ∙ counts_push (map (λ t. stmt_part a t env) (take i list)) (stmt_part a stmt env)

  pub all_more : (place : ℕ) (s : State) → exec_all_at a place (take (i + 1) list) env s ≡ and_then (exec_all_at a place (take i list) env s) (unless_returned ((stmt_part a stmt env).at (place + (all_part a (take i list) env).count)))
  all_more place s =
      ap (λ xs. exec_all_at a place xs env s) more
      ∙ ap (λ ps. one_by_one (in_turn ps place) s) (map_push (λ t. stmt_part a t env) (take i list) stmt)
      ∙ ap (λ ms. one_by_one ms s) (turn_push (map (λ t. stmt_part a t env) (take i list)) (stmt_part a stmt env) place)
      ∙ one_more (in_turn (map (λ t. stmt_part a t env) (take i list)) place) ((stmt_part a stmt env).at (place + (all_part a (take i list) env).count)) s
