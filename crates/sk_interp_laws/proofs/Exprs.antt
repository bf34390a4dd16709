-- What expressions do without steps and with logs.
use Rattle.std.proofs.Common.{◌≡◌, ℕ, List, [], ◌∷◌, map, Option, Bool, true, false, refl, sym, subst}
use Rattle.std.specs.Prelude.{if◌then◌else◌, slice_get}
use Rattle.sk_base.specs.declared.span.Span.{Span}
use Rattle.sk_prog.specs.declared.ids.FunId.{FunId}
use Rattle.sk_prog.specs.declared.ty.Ty.{Ty}
use Rattle.sk_prog.specs.declared.value.Value.{Value}
use Rattle.sk_prog.specs.declared.value.Value.TheVariants as value
use Rattle.sk_prog.specs.declared.expr.BinOp.{BinOp}
use Rattle.sk_prog.specs.declared.expr.BinOp.TheVariants as op
use Rattle.sk_prog.specs.declared.expr.PExpr.{PExpr}
use Rattle.sk_prog.specs.declared.expr.PField.{PField}
use Rattle.sk_prog.specs.declared.expr.PEForm.{PEForm}
use Rattle.sk_prog.specs.declared.expr.PEForm.TheOpen as P
use Rattle.sk_prog.specs.declared.expr.PEForm.TheViews as V
use Rattle.sk_prog.specs.declared.expr.PEForm.TheFolds.{map-PEForm, map-PExpr, map-PField, fold-PEForm, fold-PField, fold-roll-PEForm, fold-roll-PExpr, fold-roll-PField, ind-PExpr}
use Rattle.sk_prog.specs.declared.prog.ParamDef.{ParamDef}
use Rattle.sk_prog.specs.declared.prog.Prog.{Prog}
use Rattle.sk_model.specs.Step.{Comp}
use Rattle.sk_model.specs.Step as step
use Rattle.sk_model.specs.Heap.{Variable, Field, at_root, read, read_field, allocate, store}
use Rattle.sk_model.specs.Operators.{operator, unary_operator, to_int}
use Rattle.sk_model.specs.Eval.{literal, const_value, padded_at, indexed, sliced, params_of, result_value, add_index, unfilled}
use Rattle.sk_model.specs.Eval as plain
use Rattle.sk_interp_laws.specs.Recording.{Traced, and_then, lift}
use Rattle.sk_interp_laws.specs.Eval.{Calls, Does, does, does_form, in_order, fields_in_order, choose, binary, ref_args, copy_back, call_value}
use Rattle.sk_interp_laws.proofs.Agree.{Agrees, lifts, pures, fails, thens}

module _ {L M : Type 0} (h : L → M) where
  pub record DoesAgree (d : plain.Does) (t : Does L) (u : Does M) : Type 0 where
    pub value : (span : Span) → Agrees h (d.value span) (t.value span) (u.value span)
    pub target : (span : Span) → Agrees h (d.target span) (t.target span) (u.target span)

  -- fields of `new` are the same, and their values do the same
  pub record SetAgree (d : ℕ × plain.Does) (t : ℕ × Does L) (u : ℕ × Does M) : Type 0 where
    pub first : t.0 ≡ d.0
    pub second : u.0 ≡ d.0
    pub does : DoesAgree d.1 t.1 u.1

  pub chooses : {A : Type 0} (span : Span) (a b : Comp A) (ta tb : Traced L A) (ua ub : Traced M A) → Agrees h a ta ua → Agrees h b tb ub → (v : Value) → Agrees h (plain.choose span a b v) (choose span ta tb v) (choose span ua ub v)
  chooses span a b ta tb ua ub ha hb (value.Bit true) = ha
  chooses span a b ta tb ua ub ha hb (value.Bit false) = hb
  chooses span a b ta tb ua ub ha hb (value.Int n) = fails h span
  chooses span a b ta tb ua ub ha hb value.Null = fails h span
  chooses span a b ta tb ua ub ha hb (value.Place p) = fails h span
  chooses span a b ta tb ua ub ha hb (value.Array' shape vs) = fails h span

  module _ (width : ℕ) (span : Span) (a b : Comp Value) (ta tb : Traced L Value) (ua ub : Traced M Value) (ha : Agrees h a ta ua) (hb : Agrees h b tb ub) where
    eager : (o : BinOp) → Agrees h (λ s. step.and_then (a s) (λ v t. step.and_then (b t) (operator width span o v))) (λ s. and_then (ta s) (λ v t. and_then (tb t) (λ w. lift (operator width span o v w)))) (λ s. and_then (ua s) (λ v t. and_then (ub t) (λ w. lift (operator width span o v w))))
    eager o = thens h _ _ _ ha (λ v. thens h _ _ _ hb (λ w. lifts h (operator width span o v w)))

    binaries : (o : BinOp) → Agrees h (plain.binary width span o a b) (binary width span o ta tb) (binary width span o ua ub)
    binaries op.Mul = eager op.Mul
    binaries op.Div = eager op.Div
    binaries op.Rem = eager op.Rem
    binaries op.Add = eager op.Add
    binaries op.Sub = eager op.Sub
    binaries op.Shl = eager op.Shl
    binaries op.Shr = eager op.Shr
    binaries op.Lt = eager op.Lt
    binaries op.Le = eager op.Le
    binaries op.Gt = eager op.Gt
    binaries op.Ge = eager op.Ge
    binaries op.Eq = eager op.Eq
    binaries op.Ne = eager op.Ne
    binaries op.And = eager op.And
    binaries op.Xor = eager op.Xor
    binaries op.Or = eager op.Or
    binaries op.AndThen = thens h _ _ _ ha (chooses span _ _ _ _ _ _ hb (pures h (value.Bit false)))
    binaries op.OrElse = thens h _ _ _ ha (chooses span _ _ _ _ _ _ (pures h (value.Bit true)) hb)

  -- all parts of a list
  module _ {X : Type 0} (f : X → plain.Does) (g : X → Does L) (k : X → Does M) where
    abbrev pub Such : Type 0
    Such = (x : X) × DoesAgree (f x) (g x) (k x)

    abbrev items : List Such → List X
    items = map (λ q. q.0)

    pub orders : (span : Span) (qs : List Such) → Agrees h (plain.in_order span (map f (items qs))) (in_order span (map g (items qs))) (in_order span (map k (items qs)))
    orders span [] = pures h []
    orders span (q ∷ qs) = thens h _ _ _ (q.1.value span) (λ v. thens h _ _ _ (orders span qs) (λ vs. pures h (v ∷ vs)))

    copies_back : (span : Span) (ps : List ParamDef) (qs : List Such) (vs : List Value) → Agrees h (plain.copy_back span (plain.ref_args ps (map f (items qs))) vs) (copy_back span (ref_args ps (map g (items qs))) vs) (copy_back span (ref_args ps (map k (items qs))) vs)
    copies_back span [] qs vs = pures h tt
    copies_back span (p ∷ ps) [] vs = pures h tt
    copies_back span (p ∷ ps) (q ∷ qs) vs = by p.by_ref vs (λ ws. copies_back span ps qs ws)
      where
        by : (b : Bool) (vs : List Value) → ((ws : List Value) → Agrees h (plain.copy_back span (plain.ref_args ps (map f (items qs))) ws) (copy_back span (ref_args ps (map g (items qs))) ws) (copy_back span (ref_args ps (map k (items qs))) ws)) → Agrees h (plain.copy_back span (if b then f q.0 ∷ plain.ref_args ps (map f (items qs)) else plain.ref_args ps (map f (items qs))) vs) (copy_back span (if b then g q.0 ∷ ref_args ps (map g (items qs)) else ref_args ps (map g (items qs))) vs) (copy_back span (if b then k q.0 ∷ ref_args ps (map k (items qs)) else ref_args ps (map k (items qs))) vs)
        by true [] rest = pures h tt
        by true (v ∷ vs) rest = thens h _ _ _ (q.1.target span) (λ location. thens h _ _ _ (lifts h (store span location v)) (λ u. rest vs))
        by false vs rest = rest vs

  module _ {X : Type 0} (f : X → ℕ × plain.Does) (g : X → ℕ × Does L) (k : X → ℕ × Does M) where
    pub sets : (span : Span) (qs : List ((x : X) × SetAgree (f x) (g x) (k x))) → Agrees h (plain.fields_in_order span (map f (map (λ q. q.0) qs))) (fields_in_order span (map g (map (λ q. q.0) qs))) (fields_in_order span (map k (map (λ q. q.0) qs)))
    sets span [] = pures h []
    sets span (q ∷ qs) = thens h _ _ _ (q.1.does.value span) (λ v. thens h _ _ _ (sets span qs) (λ vs. rw (q.1.first, q.1.second) (pures h (((f q.0).0, v) ∷ vs))))

  module _ (prog : Prog) (width : ℕ) (call : plain.Calls) (tcall : Calls L) (ucall : Calls M) (same : (span : Span) (f : ℕ) (args : List Value) → Agrees h (call span f args) (tcall span f args) (ucall span f args)) where
    abbrev done_step : P.PEForm-F (Option Ty → plain.Does) plain.Does (ℕ × plain.Does) → Option Ty → plain.Does
    done_step = plain.does_form prog width call

    abbrev form_done : PEForm → Option Ty → plain.Does
    form_done = fold-PEForm (Option Ty → plain.Does) plain.Does (ℕ × plain.Does) done_step (λ x. x.form x.ty) (λ x. (x.field, x.value))

    abbrev field_done : PField → ℕ × plain.Does
    field_done = fold-PField (Option Ty → plain.Does) plain.Does (ℕ × plain.Does) done_step (λ x. x.form x.ty) (λ x. (x.field, x.value))

    abbrev done : PExpr → plain.Does
    done = plain.does prog width call

    module _ {N : Type 0} (ncall : Calls N) where
      abbrev form_traced : PEForm → Option Ty → Does N
      form_traced = fold-PEForm (Option Ty → Does N) (Does N) (ℕ × Does N) (does_form prog width ncall) (λ x. x.form x.ty) (λ x. (x.field, x.value))

      abbrev field_traced : PField → ℕ × Does N
      field_traced = fold-PField (Option Ty → Does N) (Does N) (ℕ × Does N) (does_form prog width ncall) (λ x. x.form x.ty) (λ x. (x.field, x.value))

      abbrev traced : PExpr → Does N
      traced = does prog width ncall

      abbrev traced_layer : P.PEForm-F PEForm PExpr PField → Option Ty → Does N
      traced_layer x t = does_form prog width ncall (map-PEForm PEForm PExpr PField (Option Ty → Does N) (Does N) (ℕ × Does N) form_traced traced field_traced x) t

    abbrev At_form : PEForm → Type 0
    At_form f = (t : Option Ty) → DoesAgree (form_done f t) (form_traced tcall f t) (form_traced ucall f t)

    abbrev At_expr : PExpr → Type 0
    At_expr e = DoesAgree (done e) (traced tcall e) (traced ucall e)

    abbrev At_field : PField → Type 0
    At_field x = SetAgree (field_done x) (field_traced tcall x) (field_traced ucall x)

    abbrev Form : Type 0
    Form = (f : PEForm) × At_form f

    abbrev Expr : Type 0
    Expr = (e : PExpr) × At_expr e

    abbrev Set : Type 0
    Set = (x : PField) × At_field x

    abbrev down : P.PEForm-F Form Expr Set → P.PEForm-F PEForm PExpr PField
    down = map-PEForm Form Expr Set PEForm PExpr PField (λ q. q.0) (λ q. q.0) (λ q. q.0)

    -- a form, by what its layer does
    rolled : (x : P.PEForm-F PEForm PExpr PField) → ((t : Option Ty) → DoesAgree (done_step (map-PEForm PEForm PExpr PField (Option Ty → plain.Does) plain.Does (ℕ × plain.Does) form_done done field_done x) t) (traced_layer tcall x t) (traced_layer ucall x t)) → At_form (V.roll-PEForm x)
    rolled x agree t =
        subst (λ (d : Option Ty → plain.Does). DoesAgree (d t) (form_traced tcall (V.roll-PEForm x) t) (form_traced ucall (V.roll-PEForm x) t)) (sym (fold-roll-PEForm (Option Ty → plain.Does) plain.Does (ℕ × plain.Does) done_step (λ x. x.form x.ty) (λ x. (x.field, x.value)) x))
        (subst (λ (d : Option Ty → Does L). DoesAgree (done_step (map-PEForm PEForm PExpr PField (Option Ty → plain.Does) plain.Does (ℕ × plain.Does) form_done done field_done x) t) (d t) (form_traced ucall (V.roll-PEForm x) t)) (sym (fold-roll-PEForm (Option Ty → Does L) (Does L) (ℕ × Does L) (does_form prog width tcall) (λ x. x.form x.ty) (λ x. (x.field, x.value)) x))
        (subst (λ (d : Option Ty → Does M). DoesAgree (done_step (map-PEForm PEForm PExpr PField (Option Ty → plain.Does) plain.Does (ℕ × plain.Does) form_done done field_done x) t) (traced_layer tcall x t) (d t)) (sym (fold-roll-PEForm (Option Ty → Does M) (Does M) (ℕ × Does M) (does_form prog width ucall) (λ x. x.form x.ty) (λ x. (x.field, x.value)) x)) (agree t)))

    call_values : (span : Span) (f : FunId) (es : List Expr) → Agrees h (plain.call_value prog width call span f (map done (map (λ q. q.0) es))) (call_value prog width tcall span f (map (traced tcall) (map (λ q. q.0) es))) (call_value prog width ucall span f (map (traced ucall) (map (λ q. q.0) es)))
    call_values span f es =
        thens h _ _ _ (orders done (traced tcall) (traced ucall) span es) (λ vs.
        thens h _ _ _ (same span f.index vs) (λ called.
        thens h _ _ _ (copies_back done (traced tcall) (traced ucall) span (params_of (slice_get prog.funs f.index)) es called.refs) (λ u.
        pures h (result_value called.result))))

    layer : (y : P.PEForm-F Form Expr Set) → At_form (V.roll-PEForm (down y))
    layer (P.Number n) = rolled (P.Number n) (λ t. record { value = λ span. pures h (literal width t n); target = λ span. fails h span })
    layer P.True = rolled P.True (λ t. record { value = λ span. pures h (value.Bit true); target = λ span. fails h span })
    layer P.False = rolled P.False (λ t. record { value = λ span. pures h (value.Bit false); target = λ span. fails h span })
    layer P.Null = rolled P.Null (λ t. record { value = λ span. pures h value.Null; target = λ span. fails h span })
    layer (P.Var slot x) = rolled (P.Var slot x) (λ t. record { value = λ span. lifts h (read slot); target = λ span. lifts h (at_root (Variable slot)) })
    layer (P.Const c) = rolled (P.Const c) (λ t. record { value = λ span. pures h (const_value (slice_get prog.consts c.index)); target = λ span. fails h span })
    layer (P.Hole bits) = rolled (P.Hole bits) (λ t. record { value = λ span. lifts h (unfilled t span); target = λ span. fails h span })
    layer (P.Pattern es) = rolled (down (P.Pattern es)) (λ t. record { value = λ span. fails h span; target = λ span. fails h span })
    layer (P.Paren a) = rolled (P.Paren a.0) (λ t. record { value = λ span. a.1.value span; target = λ span. fails h span })
    layer (P.Call f es) = rolled (down (P.Call f es)) (λ t. record { value = λ span. call_values span f es; target = λ span. fails h span })
    layer (P.New d xs) = rolled (down (P.New d xs)) (λ t. record { value = λ span. thens h _ _ _ (sets field_done (field_traced tcall) (field_traced ucall) span xs) (λ set. lifts h (allocate prog d set)); target = λ span. fails h span })
    layer (P.Braces es) = rolled (down (P.Braces es)) (λ t. record { value = λ span. thens h _ _ _ (orders done (traced tcall) (traced ucall) span es) (λ vs. pures h (padded_at t (value.Array vs))); target = λ span. fails h span })
    layer (P.Member a d k) = rolled (P.Member a.0 d k) (λ t. record { value = λ span. thens h _ _ _ (a.1.value span) (λ v. lifts h (read_field span k v)); target = λ span. thens h _ _ _ (a.1.value span) (λ v. lifts h (at_root (Field v k))) })
    layer (P.Index a b) = rolled (P.Index a.0 b.0) (λ t. record {
      value = λ span. thens h _ _ _ (a.1.value span) (λ v. thens h _ _ _ (b.1.value span) (λ i. lifts h (indexed span v i)));
      target = λ span. thens h _ _ _ (a.1.target span) (λ location. thens h _ _ _ (b.1.value span) (λ i. lifts h (add_index span location i)));
    })
    layer (P.Slice a b n) = rolled (P.Slice a.0 b.0 n) (λ t. record { value = λ span. thens h _ _ _ (a.1.value span) (λ v. thens h _ _ _ (b.1.value span) (λ i. lifts h (sliced span n v i))); target = λ span. fails h span })
    layer (P.Unary o a) = rolled (P.Unary o a.0) (λ t. record { value = λ span. thens h _ _ _ (a.1.value span) (λ v. lifts h (unary_operator width span o v)); target = λ span. fails h span })
    layer (P.Binary o a b) = rolled (P.Binary o a.0 b.0) (λ t. record { value = λ span. binaries width span _ _ _ _ _ _ (a.1.value span) (b.1.value span) o; target = λ span. fails h span })
    layer (P.Cond c a b) = rolled (P.Cond c.0 a.0 b.0) (λ t. record { value = λ span. thens h _ _ _ (c.1.value span) (chooses span _ _ _ _ _ _ (a.1.value span) (b.1.value span)); target = λ span. fails h span })
    layer (P.ToInt a) = rolled (P.ToInt a.0) (λ t. record { value = λ span. thens h _ _ _ (a.1.value span) (λ v. lifts h (to_int span v)); target = λ span. fails h span })
    layer (P.Pad a) = rolled (P.Pad a.0) (λ t. record { value = λ span. thens h _ _ _ (a.1.value span) (λ v. pures h (padded_at t v)); target = λ span. fails h span })

    expr_layer : (y : P.PExpr-F Form Expr Set) → At_expr (V.roll-PExpr (map-PExpr Form Expr Set PEForm PExpr PField (λ q. q.0) (λ q. q.0) (λ q. q.0) y))
    expr_layer y =
        let x : P.PExpr-F PEForm PExpr PField = map-PExpr Form Expr Set PEForm PExpr PField (λ q. q.0) (λ q. q.0) (λ q. q.0) y in
        subst (λ (d : plain.Does). DoesAgree d (traced tcall (V.roll-PExpr x)) (traced ucall (V.roll-PExpr x))) (sym (fold-roll-PExpr (Option Ty → plain.Does) plain.Does (ℕ × plain.Does) done_step (λ x. x.form x.ty) (λ x. (x.field, x.value)) x))
        (subst (λ (d : Does L). DoesAgree (form_done y.form.0 y.ty) d (traced ucall (V.roll-PExpr x))) (sym (fold-roll-PExpr (Option Ty → Does L) (Does L) (ℕ × Does L) (does_form prog width tcall) (λ x. x.form x.ty) (λ x. (x.field, x.value)) x))
        (subst (λ (d : Does M). DoesAgree (form_done y.form.0 y.ty) (form_traced tcall y.form.0 y.ty) d) (sym (fold-roll-PExpr (Option Ty → Does M) (Does M) (ℕ × Does M) (does_form prog width ucall) (λ x. x.form x.ty) (λ x. (x.field, x.value)) x)) (y.form.1 y.ty)))

    field_layer : (y : P.PField-F Form Expr Set) → At_field (V.roll-PField (map-PField Form Expr Set PEForm PExpr PField (λ q. q.0) (λ q. q.0) (λ q. q.0) y))
    field_layer y =
        let x : P.PField-F PEForm PExpr PField = map-PField Form Expr Set PEForm PExpr PField (λ q. q.0) (λ q. q.0) (λ q. q.0) y in
        subst (λ (d : ℕ × plain.Does). SetAgree d (field_traced tcall (V.roll-PField x)) (field_traced ucall (V.roll-PField x))) (sym (fold-roll-PField (Option Ty → plain.Does) plain.Does (ℕ × plain.Does) done_step (λ x. x.form x.ty) (λ x. (x.field, x.value)) x))
        (subst (λ (d : ℕ × Does L). SetAgree (y.field, done y.value.0) d (field_traced ucall (V.roll-PField x))) (sym (fold-roll-PField (Option Ty → Does L) (Does L) (ℕ × Does L) (does_form prog width tcall) (λ x. x.form x.ty) (λ x. (x.field, x.value)) x))
        (subst (λ (d : ℕ × Does M). SetAgree (y.field, done y.value.0) (y.field, traced tcall y.value.0) d) (sym (fold-roll-PField (Option Ty → Does M) (Does M) (ℕ × Does M) (does_form prog width ucall) (λ x. x.form x.ty) (λ x. (x.field, x.value)) x)) (record { first = refl; second = refl; does = y.value.1 })))

    pub exprs : (e : PExpr) → At_expr e
    exprs = ind-PExpr At_form At_expr At_field
        (λ x y is. subst (λ z. At_form (V.roll-PEForm z)) is (layer y))
        (λ x y is. subst (λ z. At_expr (V.roll-PExpr z)) is (expr_layer y))
        (λ x y is. subst (λ z. At_field (V.roll-PField z)) is (field_layer y))
