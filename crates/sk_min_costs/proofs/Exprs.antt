-- Expressions leave the cost as it is, where calls do.
use Rattle.std.proofs.Common.{◌≡◌, ℕ, zero, suc, ◌+◌, List, [], ◌∷◌, map, Option, refl, sym, subst}
use Rattle.std.specs.Prelude.{slice_get, if◌then◌else◌, Bool, true, false}
use Rattle.sk_base.specs.declared.span.Span.{Span}
use Rattle.sk_base.specs.declared.bounds.Bounds.{Bounds}
use Rattle.sk_prog.specs.declared.ids.FunId.{FunId}
use Rattle.sk_prog.specs.declared.ty.Ty.{Ty}
use Rattle.sk_prog.specs.declared.value.Value.{Value}
use Rattle.sk_prog.specs.declared.value.Value.TheVariants as value
use Rattle.sk_prog.specs.declared.expr.BinOp.{BinOp}
use Rattle.sk_prog.specs.declared.expr.BinOp.TheVariants as op
use Rattle.sk_prog.specs.declared.expr.PExpr.{PExpr}
use Rattle.sk_prog.specs.declared.expr.PField.{PField}
use Rattle.sk_prog.specs.declared.expr.PEForm.{PEForm}
use Rattle.sk_prog.specs.declared.expr.PEForm.TheVariants as eform
use Rattle.sk_prog.specs.declared.expr.PEForm.TheOpen as P
use Rattle.sk_prog.specs.declared.expr.PEForm.TheViews as V
use Rattle.sk_prog.specs.declared.expr.PEForm.TheFolds.{map-PEForm, fold-PEForm, fold-PField}
use Rattle.sk_prog.specs.declared.prog.ParamDef.{ParamDef}
use Rattle.sk_prog.specs.declared.prog.Prog.{Prog}
use Rattle.sk_model.specs.Parts.{Part, in_turn, pick, value as site_value}
use Rattle.sk_model.specs.Step.{Comp}
use Rattle.sk_model.specs.Heap.{Variable, Field}
use Rattle.sk_model.specs.Eval.{Calls, Does, literal, const_value, padded_at, in_order, fields_in_order, binary, params_of, ref_args, copy_back, result_value, call_value, eval_form, target_form, does_form}
use Rattle.sk_model.specs.Open.{nothing_done, open_eform, open_field, open_expr}
use Rattle.sk_model.proofs.Induction.{Each, ExprCases, expr_ind}
use Rattle.sk_model.proofs.Layers.{expr_layer, layer_field}
use Rattle.sk_holes_laws.specs.Filling.{Every}
use Rattle.sk_min_costs.proofs.Steps.{Costless, then_costless, pure_costless, fail_costless, choose_costless, read_costless, read_field_costless, store_costless, add_index_costless, indexed_costless, sliced_costless, operator_costless, unary_costless, to_int_costless}

-- as a value and as a target it leaves the cost as it is
pub record DoesCostless (d : Does) : Type 0 where
  pub value : (span : Span) → Costless (d.value span)
  pub target : (span : Span) → Costless (d.target span)

-- and so does each call
pub record CallsCostless (call : Calls) : Type 0 where
  pub each : (span : Span) (f : ℕ) (args : List Value) → Costless (call span f args)

abbrev FieldCostless : ℕ × Does → Type 0
FieldCostless x = DoesCostless x.1

order_costless : (span : Span) (ds : List Does) → Every DoesCostless ds → Costless (in_order span ds)
order_costless span [] h = pure_costless []
order_costless span (d ∷ ds) h = then_costless ((h.0).value span) (λ v. then_costless (order_costless span ds h.1) (λ vs. pure_costless (v ∷ vs)))

fields_costless : (span : Span) (xs : List (ℕ × Does)) → Every FieldCostless xs → Costless (fields_in_order span xs)
fields_costless span [] h = pure_costless []
fields_costless span (x ∷ xs) h = then_costless ((h.0).value span) (λ v. then_costless (fields_costless span xs h.1) (λ vs. pure_costless ((x.0, v) ∷ vs)))

if_each : {A : Type 0} (Q : A → Type 0) (b : Bool) (xs ys : List A) → Every Q xs → Every Q ys → Every Q (if b then xs else ys)
if_each Q true xs ys h g = h
if_each Q false xs ys h g = g

refs_costless : (ps : List ParamDef) (ds : List Does) → Every DoesCostless ds → Every DoesCostless (ref_args ps ds)
refs_costless [] ds h = tt
refs_costless (p ∷ ps) [] h = tt
refs_costless (p ∷ ps) (d ∷ ds) h = let rest = refs_costless ps ds h.1 in if_each DoesCostless p.by_ref (d ∷ ref_args ps ds) (ref_args ps ds) (h.0, rest) rest

copies_costless : (span : Span) (ds : List Does) (vs : List Value) → Every DoesCostless ds → Costless (copy_back span ds vs)
copies_costless span [] vs h = pure_costless tt
copies_costless span (d ∷ ds) [] h = pure_costless tt
copies_costless span (d ∷ ds) (v ∷ vs) h = then_costless ((h.0).target span) (λ location. then_costless (store_costless span location v) (λ u. copies_costless span ds vs h.1))

binary_costless : (width : ℕ) (span : Span) (o : BinOp) {a b : Comp Value} → Costless a → Costless b → Costless (binary width span o a b)
binary_costless width span op.AndThen h g = then_costless h (λ v. choose_costless span g (pure_costless (value.Bit false)) v)
binary_costless width span op.OrElse h g = then_costless h (λ v. choose_costless span (pure_costless (value.Bit true)) g v)
binary_costless width span o h g = then_costless h (λ v. then_costless g (λ w. operator_costless width span o v w))

module _ (prog : Prog) (width : ℕ) (call : Calls) (calls : CallsCostless call) where
  call_costless : (span : Span) (f : FunId) (ds : List Does) → Every DoesCostless ds → Costless (call_value prog width call span f ds)
  call_costless span f ds h =
      then_costless (order_costless span ds h)
      (λ vs. then_costless (calls.each span f.index vs)
      (λ called. then_costless (copies_costless span (ref_args (params_of (slice_get prog.funs f.index)) ds) called.refs (refs_costless (params_of (slice_get prog.funs f.index)) ds h))
      (λ u. pure_costless (result_value called.result))))

  abbrev Placed : Type 0
  Placed = P.PEForm-F (Unit {0}) Does (ℕ × Does)

  -- what the parts of a form do leaves the cost as it is; a hole and a pattern are no form that is done so
  abbrev PartsCostless : Placed → Type 0
  PartsCostless (P.Number n) = Unit {0}
  PartsCostless P.True = Unit {0}
  PartsCostless P.False = Unit {0}
  PartsCostless P.Null = Unit {0}
  PartsCostless (P.Var slot x) = Unit {0}
  PartsCostless (P.Const c) = Unit {0}
  PartsCostless (P.Hole bits) = ⊥
  PartsCostless (P.Pattern strings) = ⊥
  PartsCostless (P.Paren a) = DoesCostless a
  PartsCostless (P.Call f args) = Every DoesCostless args
  PartsCostless (P.New d fields) = Every FieldCostless fields
  PartsCostless (P.Braces parts) = Every DoesCostless parts
  PartsCostless (P.Member a d field) = DoesCostless a
  PartsCostless (P.Index a i) = DoesCostless a × DoesCostless i
  PartsCostless (P.Slice a i n) = DoesCostless a × DoesCostless i
  PartsCostless (P.Unary o a) = DoesCostless a
  PartsCostless (P.Binary o a b) = DoesCostless a × DoesCostless b
  PartsCostless (P.Cond c a b) = DoesCostless c × DoesCostless a × DoesCostless b
  PartsCostless (P.ToInt a) = DoesCostless a
  PartsCostless (P.Pad a) = DoesCostless a

  value_costless : (form : Placed) (t : Option Ty) (span : Span) → PartsCostless form → Costless (eval_form prog width call form t span)
  value_costless (P.Number n) t span h = pure_costless (literal width t n)
  value_costless P.True t span h = pure_costless (value.Bit true)
  value_costless P.False t span h = pure_costless (value.Bit false)
  value_costless P.Null t span h = pure_costless value.Null
  value_costless (P.Var slot x) t span h = read_costless slot
  value_costless (P.Const c) t span h = pure_costless (const_value (slice_get prog.consts c.index))
  value_costless (P.Hole bits) t span h = absurd h
  value_costless (P.Pattern strings) t span h = absurd h
  value_costless (P.Paren a) t span h = h.value span
  value_costless (P.Call f args) t span h = call_costless span f args h
  value_costless (P.New d fields) t span h = then_costless (fields_costless span fields h) (λ set. record { each = λ s. refl })
  value_costless (P.Braces parts) t span h = then_costless (order_costless span parts h) (λ vs. pure_costless (padded_at t (value.Array vs)))
  value_costless (P.Member a d field) t span h = then_costless (h.value span) (λ v. read_field_costless span field v)
  value_costless (P.Index a i) t span h = then_costless ((h.0).value span) (λ v. then_costless ((h.1).value span) (λ w. indexed_costless span v w))
  value_costless (P.Slice a i n) t span h = then_costless ((h.0).value span) (λ v. then_costless ((h.1).value span) (λ w. sliced_costless span n v w))
  value_costless (P.Unary o a) t span h = then_costless (h.value span) (λ v. unary_costless width span o v)
  value_costless (P.Binary o a b) t span h = binary_costless width span o ((h.0).value span) ((h.1).value span)
  value_costless (P.Cond c a b) t span h = then_costless ((h.0).value span) (λ v. choose_costless span ((h.1).value span) ((h.2).value span) v)
  value_costless (P.ToInt a) t span h = then_costless (h.value span) (λ v. to_int_costless span v)
  value_costless (P.Pad a) t span h = then_costless (h.value span) (λ v. pure_costless (padded_at t v))

  target_costless : (form : Placed) (span : Span) → PartsCostless form → Costless (target_form prog width call form span)
  target_costless (P.Var slot x) span h = pure_costless (record { root = Variable slot; indexes = [] })
  target_costless (P.Member a d field) span h = then_costless (h.value span) (λ v. pure_costless (record { root = Field v field; indexes = [] }))
  target_costless (P.Index a i) span h = then_costless ((h.0).target span) (λ location. then_costless ((h.1).value span) (λ w. add_index_costless span location w))
  target_costless form span h = record { each = λ s. tt }

  form_costless : (form : Placed) (t : Option Ty) → PartsCostless form → DoesCostless (does_form prog width call form t)
  form_costless form t h = record { value = λ span. value_costless form t span h; target = λ span. target_costless form span h }

module _ (prog : Prog) (bounds : Bounds) (values : List ℕ) (call : Calls) (calls : CallsCostless call) where
  abbrev Opens : Type 0
  Opens = Option Ty → Part Does

  abbrev opened : PExpr → Part Does
  opened = open_expr prog bounds values call

  abbrev opened_f : PEForm → Opens
  opened_f = fold-PEForm Opens (Part Does) (Part (ℕ × Does)) (open_eform prog bounds values call) (λ x. x.form x.ty) (open_field prog bounds values call)

  abbrev opened_x : PField → Part (ℕ × Does)
  opened_x = fold-PField Opens (Part Does) (Part (ℕ × Does)) (open_eform prog bounds values call) (λ x. x.form x.ty) (open_field prog bounds values call)

  abbrev At : PExpr → Type 0
  At e = (i : ℕ) → DoesCostless ((opened e).at i)

  abbrev AtField : PField → Type 0
  AtField x = (i : ℕ) → FieldCostless ((opened_x x).at i)

  row_costless : (es : List PExpr) (i : ℕ) → Each At es → Every DoesCostless (in_turn (map opened es) i)
  row_costless [] i h = tt
  row_costless (e ∷ es) i h = (h.0 i, row_costless es (i + (opened e).count) h.1)

  row_of_fields : (xs : List PField) (i : ℕ) → Each AtField xs → Every FieldCostless (in_turn (map opened_x xs) i)
  row_of_fields [] i h = tt
  row_of_fields (x ∷ xs) i h = (h.0 i, row_of_fields xs (i + (opened_x x).count) h.1)

  picked : (es : List PExpr) (v i : ℕ) → Each At es → DoesCostless (pick nothing_done (map opened es) v i)
  picked [] v i h = record { value = λ span. fail_costless span; target = λ span. fail_costless span }
  picked (e ∷ es) zero i h = h.0 i
  picked (e ∷ es) (suc v) i h = picked es v (i + (opened e).count) h.1

  abbrev Layer : Type 0
  Layer = P.PEForm-F PEForm PExpr PField

  rolled : (x : Layer) (f : PEForm) → V.roll-PEForm x ≡ f → (s : Span) (t : Option Ty) → ((i : ℕ) → DoesCostless ((open_eform prog bounds values call (map-PEForm PEForm PExpr PField Opens (Part Does) (Part (ℕ × Does)) opened_f opened opened_x x) t).at i)) → At (record { span = s; ty = t; form = f })
  rolled x f is s t h i = subst (λ (p : Part Does). DoesCostless (p.at i)) (sym (expr_layer Opens (Part Does) (Part (ℕ × Does)) (open_eform prog bounds values call) (λ x. x.form x.ty) (open_field prog bounds values call) x f is s t)) (h i)

  -- a form that does what its parts do
  abbrev does_so : (form : P.PEForm-F (Unit {0}) Does (ℕ × Does)) (t : Option Ty) → PartsCostless prog bounds.int_bits call calls form → DoesCostless (does_form prog bounds.int_bits call form t)
  does_so = form_costless prog bounds.int_bits call calls

  field_at : (k : ℕ) (e : PExpr) → At e → AtField (record { field = k; value = e })
  field_at k e h i = subst (λ (p : Part (ℕ × Does)). FieldCostless (p.at i)) (sym (layer_field Opens (Part Does) (Part (ℕ × Does)) (open_eform prog bounds values call) (λ x. x.form x.ty) (open_field prog bounds values call) k e)) (h i)

  cases : ExprCases At AtField
  cases = record {
    field = field_at;
    number = λ s t n. rolled (P.Number n) (eform.Number n) (V.rolls-Number n) s t (λ i. does_so (P.Number n) t tt);
    truth = λ s t. rolled P.True eform.True V.rolls-True s t (λ i. does_so P.True t tt);
    falsity = λ s t. rolled P.False eform.False V.rolls-False s t (λ i. does_so P.False t tt);
    null = λ s t. rolled P.Null eform.Null V.rolls-Null s t (λ i. does_so P.Null t tt);
    var = λ s t slot x. rolled (P.Var slot x) (eform.Var slot x) (V.rolls-Var slot x) s t (λ i. does_so (P.Var slot x) t tt);
    const = λ s t k. rolled (P.Const k) (eform.Const k) (V.rolls-Const k) s t (λ i. does_so (P.Const k) t tt);
    hole = λ s t bits. rolled (P.Hole bits) (eform.Hole bits) (V.rolls-Hole bits) s t (λ i. record { value = λ span. record { each = λ st. refl }; target = λ span. record { each = λ st. tt } });
    pattern = λ s t es h. rolled (P.Pattern es) (eform.Pattern es) (V.rolls-Pattern es) s t (λ i. picked es (site_value values i) (suc i) h);
    paren = λ s t e h. rolled (P.Paren e) (eform.Paren e) (V.rolls-Paren e) s t (λ i. does_so (P.Paren ((opened e).at i)) t (h i));
    call = λ s t f es h. rolled (P.Call f es) (eform.Call f es) (V.rolls-Call f es) s t (λ i. does_so (P.Call f (in_turn (map opened es) i)) t (row_costless es i h));
    new = λ s t d fs h. rolled (P.New d fs) (eform.New d fs) (V.rolls-New d fs) s t (λ i. does_so (P.New d (in_turn (map opened_x fs) i)) t (row_of_fields fs i h));
    braces = λ s t es h. rolled (P.Braces es) (eform.Braces es) (V.rolls-Braces es) s t (λ i. does_so (P.Braces (in_turn (map opened es) i)) t (row_costless es i h));
    member = λ s t e d k h. rolled (P.Member e d k) (eform.Member e d k) (V.rolls-Member e d k) s t (λ i. does_so (P.Member ((opened e).at i) d k) t (h i));
    index = λ s t e x h k. rolled (P.Index e x) (eform.Index e x) (V.rolls-Index e x) s t (λ i. does_so (P.Index ((opened e).at i) ((opened x).at (i + (opened e).count))) t (h i, k (i + (opened e).count)));
    slice = λ s t e x n h k. rolled (P.Slice e x n) (eform.Slice e x n) (V.rolls-Slice e x n) s t (λ i. does_so (P.Slice ((opened e).at i) ((opened x).at (i + (opened e).count)) n) t (h i, k (i + (opened e).count)));
    unary = λ s t o e h. rolled (P.Unary o e) (eform.Unary o e) (V.rolls-Unary o e) s t (λ i. does_so (P.Unary o ((opened e).at i)) t (h i));
    binary = λ s t o a b h k. rolled (P.Binary o a b) (eform.Binary o a b) (V.rolls-Binary o a b) s t (λ i. does_so (P.Binary o ((opened a).at i) ((opened b).at (i + (opened a).count))) t (h i, k (i + (opened a).count)));
    cond = λ s t c a b h k l. rolled (P.Cond c a b) (eform.Cond c a b) (V.rolls-Cond c a b) s t (λ i. does_so (P.Cond ((opened c).at i) ((opened a).at (i + (opened c).count)) ((opened b).at (i + ((opened c).count + (opened a).count)))) t (h i, k (i + (opened c).count), l (i + ((opened c).count + (opened a).count))));
    to_int = λ s t e h. rolled (P.ToInt e) (eform.ToInt e) (V.rolls-ToInt e) s t (λ i. does_so (P.ToInt ((opened e).at i)) t (h i));
    pad = λ s t e h. rolled (P.Pad e) (eform.Pad e) (V.rolls-Pad e) s t (λ i. does_so (P.Pad ((opened e).at i)) t (h i));
  }

  pub expr_costless : (e : PExpr) (i : ℕ) → DoesCostless ((open_expr prog bounds values call e).at i)
  expr_costless = expr_ind At AtField cases
