-- What lists of values, calls and new records do on both sides.
use Rattle.std.proofs.Common.{◌≡◌, ℕ, zero, suc, pos, List, [], ◌∷◌, map, length, slice_get, Option, Some, None, Bool, true, false, inl, refl, sym, ap, subst, ◌∙◌}
use Rattle.std.specs.Prelude.{◌&&◌, ◌==◌, nat_lt, slice_index_or, option_and_then, if◌then◌else◌}
use Rattle.std.specs.List.{list_any, list_all}
use Rattle.std.proofs.lemmas.Bool.{false≢true, eqb-true}
use Rattle.sk_base.specs.declared.span.Span.{Span}
use Rattle.sk_base.specs.declared.bounds.Bounds.{Bounds}
use Rattle.sk_tree.specs.declared.expr.Expr.{Expr}
use Rattle.sk_tree.specs.declared.expr.NewField.{NewField}
use Rattle.sk_prog.specs.declared.ids.StructId.{StructId}
use Rattle.sk_prog.specs.declared.ids.FunId.{FunId}
use Rattle.sk_prog.specs.declared.ty.Elem.{Elem}
use Rattle.sk_prog.specs.declared.ty.Elem.TheVariants as elem
use Rattle.sk_prog.specs.declared.ty.Ty.{Ty}
use Rattle.sk_prog.specs.declared.value.Value.{Value}
use Rattle.sk_prog.specs.declared.value.Value.TheVariants as value
use Rattle.sk_prog.specs.declared.expr.PExpr.{PExpr}
use Rattle.sk_prog.specs.declared.expr.PField.{PField}
use Rattle.sk_prog.specs.declared.expr.PEForm.TheOpen as P
use Rattle.sk_prog.specs.declared.expr.PEForm.TheVariants as eform
use Rattle.sk_prog.specs.declared.expr.PEForm.TheViews as V
use Rattle.sk_prog.specs.declared.expr.PEForm.TheFolds.{rec-roll-PField}
use Rattle.sk_prog.specs.declared.prog.FieldDef.{FieldDef}
use Rattle.sk_prog.specs.declared.prog.StructDef.{StructDef}
use Rattle.sk_prog.specs.declared.prog.ParamDef.{ParamDef}
use Rattle.sk_prog.specs.declared.prog.Fun.{Fun}
use Rattle.sk_prog.specs.declared.prog.Prog.{Prog}
use Rattle.sk_types_rules.specs.declared.scope.Variable.{Variable}
use Rattle.sk_types_rules.specs.Rules.{int, base_of}
use Rattle.sk_types_rules.specs.Scope.{Known, Signature, signature_of}
use Rattle.sk_types_rules.specs.Types.{EFormRule, ExprRule, FieldRule, EachMeans, ArgumentsMean, FieldsMean, IsField, Means, eform_means, expr_means, field_means}
use Rattle.sk_types_rules.proofs.Layers.{FieldMeans, rule}
use Rattle.sk_types_laws.proofs.Ats.{both_true}
use Rattle.sk_model.specs.Step as plain
use Rattle.sk_model.specs.Heap.{Location, blank}
use Rattle.sk_model.specs.Heap as heap
use Rattle.sk_model.specs.Eval.{Called, literal, padded_at, result_value}
use Rattle.sk_model.specs.Eval as eval
use Rattle.sk_model.proofs.Induction.{Each}
use Rattle.sk_model.proofs.Layers.{layer_field}
use Rattle.sk_adt.specs.Words.{each}
use Rattle.sk_adt.specs.declared.algebraic.Algebraic.{Algebraic}
use Rattle.sk_adt_tags.specs.declared.role.Role.{Role}
use Rattle.sk_adt_tags.specs.declared.role.Role.TheVariants as role
use Rattle.sk_adt_tags.specs.declared.role.Test.{Test}
use Rattle.sk_adt_tags.specs.Tags.{Part, of_parts, call_part, new_part, eform_part, passes_to, unless, new_fits, sets_only, made_variant, variant_numbered, is_of, role_in, algebraic_of, type_named}
use Rattle.sk_adt_tags.specs.Tags as tags
use Rattle.sk_adt_records.specs.Steps.{Record, Step, Goes, Comp, and_then, pure}
use Rattle.sk_adt_records.specs.Heap.{has, role_of, allocate}
use Rattle.sk_adt_records.specs.Eval.{Calls, Does, in_order, fields_in_order, ref_args, copy_back, does_form}
use Rattle.sk_adt_record_laws.specs.Laws.{TagsAreIntegers}
use Rattle.sk_adt_record_laws.proofs.Places.{holds_array, holds_int}
use Rattle.sk_adt_record_laws.proofs.Related.{Grows, IsOf, Fits, fits_by, fits_grows, with_heap, StepsAlike, steps_map, Passed, passed_grows, field_at, Alike, Inv, After, Ends, ends_then, ends_at}
use Rattle.sk_adt_record_laws.proofs.Stores.{Rooted, store_ends}
use Rattle.sk_adt_record_laws.proofs.Making.{Settable, made_plain, made_variant as made_of_variant}
use Rattle.sk_adt_record_laws.proofs.Fine.{base, Stands, Here, Runs, Fine, dull, context, parts, done, again, Meant, At, laid, parts_x, done_x, again_x}
use Rattle.sk_adt_record_laws.proofs.Forms.{none_of, each_or, pads_fit, element_base}
use Rattle.sk_adt_record_laws.proofs.Fields.{unless_keeps, same_number}

-- Calls

-- the types of the `ref` parameters
abbrev pub ref_types : List ParamDef → List Ty
ref_types [] = []
ref_types (d ∷ ds) = if d.by_ref then d.ty ∷ ref_types ds else ref_types ds

-- values fit types, as far as both go
abbrev pub AllFit : List Record → List Ty → List Value → Type 0
AllFit h [] vs = Unit {0}
AllFit h (t ∷ ts) [] = Unit {0}
AllFit h (t ∷ ts) (v ∷ vs) = Fits h (base_of t) v × AllFit h ts vs

pub all_fit_grows : (h h' : List Record) → Grows h h' → (ts : List Ty) (vs : List Value) → AllFit h ts vs → AllFit h' ts vs
all_fit_grows h h' g [] vs f = tt
all_fit_grows h h' g (t ∷ ts) [] f = tt
all_fit_grows h h' g (t ∷ ts) (v ∷ vs) f = (fits_grows h h' (base_of t) v g f.0, all_fit_grows h h' g ts vs f.1)

abbrev pub ArgsFit : List Record → List ParamDef → List Value → Type 0
ArgsFit h ds vs = (k : ℕ) (d : ParamDef) → slice_get ds k ≡ Some d → Fits h (base_of d.ty) (slice_index_or vs k blank)

abbrev ArgsAre : List Record → List ParamDef → List Value → Type 0
ArgsAre h [] [] = Unit {0}
ArgsAre h (d ∷ ds) (v ∷ vs) = Fits h (base_of d.ty) v × ArgsAre h ds vs
ArgsAre h [] (v ∷ vs) = ⊥
ArgsAre h (d ∷ ds) [] = ⊥

args_fit : (h : List Record) (ds : List ParamDef) (vs : List Value) → ArgsAre h ds vs → ArgsFit h ds vs
args_fit h [] vs f k d e = cc
args_fit h (x ∷ xs) (v ∷ vs) f zero d e = let same : x ≡ d = cc in subst (λ (y : ParamDef). Fits h (base_of y.ty) v) same f.0
args_fit h (x ∷ xs) (v ∷ vs) f (suc k) d e = args_fit h xs vs f.1 k d e
args_fit h (x ∷ xs) [] f k d e = absurd f

funs_at : (fs : List Fun) (i : ℕ) (g : Signature) → slice_get (map signature_of fs) i ≡ Some g → (f : Fun) × (slice_get fs i ≡ Some f) × (signature_of f ≡ g)
funs_at [] i g e = cc
funs_at (f ∷ fs) zero g e = (f, refl, the (signature_of f) g e)
  where
    the : (a b : Signature) → Some a ≡ Some b → a ≡ b
    the a b is = cc
funs_at (f ∷ fs) (suc i) g e = funs_at fs i g e

module _ (types : List Algebraic) (prog : Prog) where
  -- what holds after a call of a function from a state
  pub record CallEnds (fun : Fun) (s : plain.State) (h : List Record) (c : Called) (t : plain.State) (k : List Record) : Type 0 where
    pub slots : t.slots ≡ s.slots
    pub alike : Alike types prog t.heap k
    pub grows : Grows h k
    pub result : (r : Ty) (v : Value) → fun.result ≡ Some r → c.result ≡ Some v → Fits k (base_of r) v
    pub refs : AllFit k (ref_types fun.params) c.refs

  -- calls with arguments that fit end alike
  abbrev pub CallsAlike : eval.Calls → Calls → Type 0
  CallsAlike call later = (span : Span) (f : ℕ) (fun : Fun) (args : List Value) (s : plain.State) (h : List Record) → slice_get prog.funs f ≡ Some fun → Alike types prog s.heap h → ArgsFit h fun.params args → StepsAlike (CallEnds fun s h) (call span f args s) (later span f args (with_heap s h))

  call_inv : (scope : List Variable) (us : List Test) (fun : Fun) (s t : plain.State) (h k : List Record) (c : Called) → Inv types prog scope us s h → CallEnds fun s h c t k → Inv types prog scope us t k
  call_inv scope us fun s t h k c i e = record {
    alike = e.alike;
    fits = λ n x is. subst (λ vs. Fits k (base_of x.ty) (slice_index_or vs n blank)) (sym e.slots) (fits_grows h k (base_of x.ty) (slice_index_or s.slots n blank) e.grows (i.fits n x is));
    passed = subst (λ vs. Each (Passed k vs) us) (sym e.slots) (passed_grows h k s.slots e.grows us i.passed);
  }

  record CallGives (fun : Fun) (c : Called) (k : List Record) : Type 0 where
    result : (r : Ty) (v : Value) → fun.result ≡ Some r → c.result ≡ Some v → Fits k (base_of r) v
    refs : AllFit k (ref_types fun.params) c.refs

  result_fits : (fun : Fun) (c : Called) (k : List Record) (t : Option Ty) → t ≡ fun.result → CallGives fun c k → Fits k (base t) (result_value c.result)
  result_fits fun c k None e g = tt
  result_fits fun c k (Some r) e g = go c.result refl
    where
      go : (o : Option Value) → c.result ≡ o → Fits k (base_of r) (result_value o)
      go None is = fits_by k (base_of r) blank (λ d. holds_int (IsOf k d) (pos 0))
      go (Some v) is = g.result r v (sym e) is

module _ (types : List Algebraic) (prog : Prog) (bounds : Bounds) (tags_are : TagsAreIntegers types prog) (known : List Known) (call : eval.Calls) (later : Calls) (calls : CallsAlike types prog call later) where
  abbrev Now : PExpr → Type 0
  Now = At types prog bounds known call later

  abbrev width : ℕ
  width = bounds.int_bits

  -- what an expression does in a run, and with records by their variants
  abbrev does_plainly : PExpr → eval.Does
  does_plainly = done types prog bounds known call later

  abbrev does_by_variant : PExpr → Does
  does_by_variant = again types prog bounds known call later

  abbrev as_part : PExpr → Part
  as_part = parts types prog bounds known call later

  abbrev MeansHere : List Variable → PExpr → Expr → Type 0
  MeansHere scope = Means (context types prog bounds known call later) scope

  -- where a list of parts stands
  record All (ps : List Part) (scope : List Variable) (us : List Test) : Type 0 where
    stands : Each (Stands scope) us
    passes : Each (λ (u : Test). list_any (λ (p : Part). p.passes u.slot) ps ≡ false) us
    keeps : each (map (λ (p : Part). p.breaks us) ps) ≡ []

  head : (e : PExpr) (ps : List Part) (scope : List Variable) (us : List Test) (x : Expr) → MeansHere scope e x → All (as_part e ∷ ps) scope us → Here (as_part e) (Meant types prog bounds known call later e) scope us
  head e ps scope us x m w = record {
    tree = x;
    means = m;
    stands = w.stands;
    passes = (each_or (λ (u : Test). (as_part e).passes u.slot) (λ (u : Test). list_any (λ (p : Part). p.passes u.slot) ps) us w.passes).0;
    keeps = (none_of ((as_part e).breaks us) (each (map (λ (p : Part). p.breaks us) ps)) w.keeps).0;
  }

  rest : (p : Part) (ps : List Part) (scope : List Variable) (us : List Test) → All (p ∷ ps) scope us → All ps scope us
  rest p ps scope us w = record {
    stands = w.stands;
    passes = (each_or (λ (u : Test). p.passes u.slot) (λ (u : Test). list_any (λ (p : Part). p.passes u.slot) ps) us w.passes).1;
    keeps = (none_of (p.breaks us) (each (map (λ (p : Part). p.breaks us) ps)) w.keeps).1;
  }

  -- Braces

  row_ends : (scope : List Variable) (us : List Test) (span : Span) (z : Ty) (es : List PExpr) (xs : List Expr) → Each Now es → EachMeans (λ y. y) (MeansHere scope) z es xs → All (map as_part es) scope us → (s : plain.State) (h : List Record) → Inv types prog scope us s h
      → Ends types prog (λ (vs : List Value). scope) us h (λ vs k. Each (Fits k (base_of z)) vs) (eval.in_order span (map does_plainly es) s) (in_order span (map does_by_variant es) (with_heap s h))
  row_ends scope us span z [] xs q m w s h i = ends_at types prog (λ (vs : List Value). scope) us (λ vs k. Each (Fits k (base_of z)) vs) [] s h i tt
  row_ends scope us span z (e ∷ es) [] q m w s h i = absurd m
  row_ends scope us span z (e ∷ es) (x ∷ xs) q m w s h i =
      let R : List Value → List Record → Type 0 = λ vs k. Each (Fits k (base_of z)) vs in
      ends_then types prog (λ (v : Value). scope) (λ (vs : List Value). scope) us h (λ v k. Fits k (base e.ty) v) R _ _ _ _ (q.0.runs scope us (head e (map as_part es) scope us x m.0 w) span s h i)
      (λ v y j k g f. ends_then types prog (λ (vs : List Value). scope) (λ (vs : List Value). scope) us j R R _ _ _ _ (row_ends scope us span z es xs q.1 m.2 (rest (as_part e) (map as_part es) scope us w) y j k)
      (λ vs c l n g' f'. ends_at types prog (λ (vs : List Value). scope) us R (v ∷ vs) c l n (fits_grows j l (base_of z) v g' (subst (λ o. Fits j (base o) v) m.1 f), f')))

  each_map_fits : (k : List Record) (e : Elem) (t : Option Ty) (vs : List Value) → Each (Fits k e) vs → Fits k e (padded_at t (value.Array vs))
  each_map_fits k (elem.Reference d) t vs f = pads_fit types prog bounds known call later k (elem.Reference d) t (value.Array vs) (holds_array (IsOf k d) vs f)
  each_map_fits k elem.Int t vs f = tt
  each_map_fits k elem.Bit t vs f = tt

  pub case_braces : (s : Span) (t : Option Ty) (es : List PExpr) → Each Now es → Now (record { span = s; ty = t; form = eform.Braces es })
  case_braces s t es q = laid types prog bounds known call later (P.Braces es) (eform.Braces es) (V.rolls-Braces es) s t (dull types prog bounds t _ _ _ _ (refl, refl, refl, refl) (refl, refl, refl)
      (λ scope us w span z h i.
      let m = w.means in
      let same : base_of m.3 ≡ base t = element_base m.5 m.3 m.6 ∙ sym (ap base m.8) in
      ends_then types prog (λ (vs : List Value). scope) (λ (v : Value). scope) us h (λ vs k. Each (Fits k (base_of m.3)) vs) (λ v k. Fits k (base t) v) _ _ _ _ (row_ends scope us span m.3 es m.0 q m.4 (record { stands = w.stands; passes = w.passes; keeps = w.keeps }) z h i)
      (λ vs y j k g f. ends_at types prog (λ (v : Value). scope) us (λ v k. Fits k (base t) v) (padded_at t (value.Array vs)) y j k (subst (λ e. Fits j e (padded_at t (value.Array vs))) same (each_map_fits j (base_of m.3) t vs f))))
      (λ scope us w free span z h i. refl))

  -- Arguments

  args_ends : (scope : List Variable) (us : List Test) (span : Span) (ds : List ParamDef) (es : List PExpr) (xs : List Expr) → Each Now es → ArgumentsMean (λ y. y) (MeansHere scope) scope ds es xs → All (map as_part es) scope us → (s : plain.State) (h : List Record) → Inv types prog scope us s h
      → Ends types prog (λ (vs : List Value). scope) us h (λ vs k. ArgsAre k ds vs) (eval.in_order span (map does_plainly es) s) (in_order span (map does_by_variant es) (with_heap s h))
  args_ends scope us span [] [] [] q m w s h i = ends_at types prog (λ (vs : List Value). scope) us (λ vs k. ArgsAre k [] vs) [] s h i tt
  args_ends scope us span [] [] (x ∷ xs) q m w s h i = absurd m
  args_ends scope us span [] (e ∷ es) xs q m w s h i = absurd m
  args_ends scope us span (d ∷ ds) [] xs q m w s h i = absurd m
  args_ends scope us span (d ∷ ds) (e ∷ es) [] q m w s h i = absurd m
  args_ends scope us span (d ∷ ds) (e ∷ es) (x ∷ xs) q m w s h i =
      ends_then types prog (λ (v : Value). scope) (λ (vs : List Value). scope) us h (λ v k. Fits k (base e.ty) v) (λ vs k. ArgsAre k (d ∷ ds) vs) _ _ _ _ (q.0.runs scope us (head e (map as_part es) scope us x m.0 w) span s h i)
      (λ v y j k g f. ends_then types prog (λ (vs : List Value). scope) (λ (vs : List Value). scope) us j (λ vs k. ArgsAre k ds vs) (λ vs k. ArgsAre k (d ∷ ds) vs) _ _ _ _ (args_ends scope us span ds es xs q.1 m.3 (rest (as_part e) (map as_part es) scope us w) y j k)
      (λ vs c l n g' f'. ends_at types prog (λ (vs : List Value). scope) us (λ vs k. ArgsAre k (d ∷ ds) vs) (v ∷ vs) c l n (fits_grows j l (base_of d.ty) v g' (subst (λ o. Fits j (base o) v) m.1 f), f')))

  -- Values copied back

  abbrev Copies : List Variable → List Test → Span → List ParamDef → List PExpr → plain.State → List Record → List Value → Type 0
  Copies scope us span ds es s h vs = Ends types prog (λ (u : Unit {0}). scope) us h (λ u k. Unit {0}) (eval.copy_back span (eval.ref_args ds (map does_plainly es)) vs s) (copy_back span (ref_args ds (map does_by_variant es)) vs (with_heap s h))

  nothing_copied : (scope : List Variable) (us : List Test) (s : plain.State) (h : List Record) → Inv types prog scope us s h → Ends types prog (λ (u : Unit {0}). scope) us h (λ u k. Unit {0}) (plain.Goes tt s) (Goes tt (with_heap s h))
  nothing_copied scope us s h i = ends_at types prog (λ (u : Unit {0}). scope) us (λ u k. Unit {0}) tt s h i tt

  copy_ends : (scope : List Variable) (us : List Test) (span : Span) (ds : List ParamDef) (es : List PExpr) (xs : List Expr) → Each Now es → ArgumentsMean (λ y. y) (MeansHere scope) scope ds es xs → All (map as_part es) scope us → Each (λ (u : Test). passes_to ds (map as_part es) u.slot ≡ false) us → (vs : List Value) (s : plain.State) (h : List Record) → Inv types prog scope us s h → AllFit h (ref_types ds) vs → Copies scope us span ds es s h vs
  copy_ends scope us span [] [] [] q m w p vs s h i f = nothing_copied scope us s h i
  copy_ends scope us span [] [] (x ∷ xs) q m w p vs s h i f = absurd m
  copy_ends scope us span [] (e ∷ es) xs q m w p vs s h i f = absurd m
  copy_ends scope us span (d ∷ ds) [] xs q m w p vs s h i f = absurd m
  copy_ends scope us span (d ∷ ds) (e ∷ es) [] q m w p vs s h i f = absurd m
  copy_ends scope us span (d ∷ ds) (e ∷ es) (x ∷ xs) q m w p vs s h i f =
      let split = each_or (λ (u : Test). d.by_ref && (as_part e).may_be u.slot) (λ (u : Test). passes_to ds (map as_part es) u.slot) us p in
      go d.by_ref split.0 vs f (λ rs y j k g. copy_ends scope us span ds es xs q.1 m.3 (rest (as_part e) (map as_part es) scope us w) split.1 rs y j k g)
    where
      go : (b : Bool) → Each (λ (u : Test). (b && (as_part e).may_be u.slot) ≡ false) us → (vs : List Value) → AllFit h (if b then d.ty ∷ ref_types ds else ref_types ds) vs → ((rs : List Value) (y : plain.State) (j : List Record) → Inv types prog scope us y j → AllFit j (ref_types ds) rs → Copies scope us span ds es y j rs)
          → Ends types prog (λ (u : Unit {0}). scope) us h (λ u k. Unit {0}) (eval.copy_back span (if b then does_plainly e ∷ eval.ref_args ds (map does_plainly es) else eval.ref_args ds (map does_plainly es)) vs s) (copy_back span (if b then does_by_variant e ∷ ref_args ds (map does_by_variant es) else ref_args ds (map does_by_variant es)) vs (with_heap s h))
      go false free vs f more = more vs s h i f
      go true free [] f more = nothing_copied scope us s h i
      go true free (v ∷ vs) f more =
          ends_then types prog (λ (l : Location). scope) (λ (u : Unit {0}). scope) us h (λ l k. Rooted types prog scope us (base e.ty) k l.root) (λ u k. Unit {0}) _ _ _ _ (q.0.aims scope us (head e (map as_part es) scope us x m.0 w) (inl free) span s h i)
          (λ l y j k g r. ends_then types prog (λ (u : Unit {0}). scope) (λ (u : Unit {0}). scope) us j (λ u k. Unit {0}) (λ u k. Unit {0}) _ _ _ _
          (store_ends types prog scope us span y j k l v (base e.ty) r (subst (λ o. Fits j (base o) v) (sym m.1) (fits_grows h j (base_of d.ty) v g f.0)))
          (λ u c n o g' f'. more vs c n o (all_fit_grows j n g' (ref_types ds) vs (all_fit_grows h j g (ref_types ds) vs f.1))))

  module _ (s : Span) (t : Option Ty) (f : FunId) (es : List PExpr) (q : Each Now es) where
    abbrev M : List Variable → Expr → Type 0
    M scope e = rule (context types prog bounds known call later) scope (P.Call f es) t e

    call_runs : (scope : List Variable) (us : List Test) → Here (call_part types prog f (map as_part es)) M scope us → Runs types prog bounds t (eval.does_form prog width call {X = Option Ty → eval.Does} (P.Call f (map does_plainly es)) t) (does_form types prog width later {X = Option Ty → Does} (P.Call f (map does_by_variant es)) t) scope us
    call_runs scope us w span z h i =
        let m = w.means in
        let g = funs_at prog.funs f.index m.3 m.4.there in
        let fun : Fun = g.0 in
        let args = subst (λ ds. ArgumentsMean (λ y. y) (MeansHere scope) scope ds es m.1) (sym (ap (λ (c : Signature). c.params) g.2)) m.5 in
        let split = each_or (λ (u : Test). passes_to (tags.params_of (slice_get prog.funs f.index)) (map as_part es) u.slot) (λ (u : Test). list_any (λ (p : Part). p.passes u.slot) (map as_part es)) us w.passes in
        let all : All (map as_part es) scope us = record { stands = w.stands; passes = split.1; keeps = w.keeps } in
        let kept : Each (λ (u : Test). passes_to fun.params (map as_part es) u.slot ≡ false) us = subst (λ (o : Option Fun). Each (λ (u : Test). passes_to (tags.params_of o) (map as_part es) u.slot ≡ false) us) g.1 split.0 in
        let result : t ≡ fun.result = m.6 ∙ sym (ap (λ (c : Signature). c.result) g.2) in
        ends_then types prog (λ (vs : List Value). scope) (λ (v : Value). scope) us h (λ vs k. ArgsAre k fun.params vs) (λ v k. Fits k (base t) v) _ _ _ _ (args_ends scope us span fun.params es m.1 q args all z h i)
        (λ vs y j k g1 f1. ends_then types prog (λ (c : Called). scope) (λ (v : Value). scope) us j (λ c k. CallGives types prog fun c k) (λ v k. Fits k (base t) v) _ _ _ _
        (steps_map (CallEnds types prog fun y j) (λ c x o. After types prog scope us j (CallGives types prog fun c) x o) (λ c x o e. record { inv = call_inv types prog scope us fun y x j o c k e; grows = e.grows; gives = record { result = e.result; refs = e.refs } }) _ _ (calls span f.index fun vs y j g.1 k.alike (args_fit j fun.params vs f1)))
        (λ c x o n g2 f2. ends_then types prog (λ (u : Unit {0}). scope) (λ (v : Value). scope) us o (λ u k. Unit {0}) (λ v k. Fits k (base t) v) _ _ _ _
        (subst (λ (p : Option Fun). Ends types prog (λ (u : Unit {0}). scope) us o (λ u k. Unit {0}) (eval.copy_back span (eval.ref_args (eval.params_of p) (map does_plainly es)) c.refs x) (copy_back span (ref_args (eval.params_of p) (map does_by_variant es)) c.refs (with_heap x o))) (sym g.1) (copy_ends scope us span fun.params es m.1 q args all kept c.refs x o n f2.refs))
        (λ u a b l g3 f3. ends_at types prog (λ (v : Value). scope) us (λ v k. Fits k (base t) v) (result_value c.result) a b l (fits_grows o b (base t) (result_value c.result) g3 (result_fits types prog fun c o t result f2)))))

    pub case_call : Now (record { span = s; ty = t; form = eform.Call f es })
    case_call = laid types prog bounds known call later (P.Call f es) (eform.Call f es) (V.rolls-Call f es) s t (dull types prog bounds t _ _ _ _ (refl, refl, refl, refl) (refl, refl, refl)
        call_runs
        (λ scope us w free span z h i. refl))

  -- New records

  abbrev NowField : PField → Type 0
  NowField x = Now x.value

  abbrev keyed : PField → ℕ × eval.Does
  keyed x = (x.field, does_plainly x.value)

  abbrev keyed' : PField → ℕ × Does
  keyed' x = (x.field, does_by_variant x.value)

  abbrev keyed_part : PField → ℕ × Part
  keyed_part x = (x.field, as_part x.value)

  abbrev MeansField : List Variable → PField → FieldRule
  MeansField scope = FieldMeans (context types prog bounds known call later) scope

  field_means_is : (scope : List Variable) (x : PField) → MeansField scope x ≡ (λ d n. (t : Ty) × IsField d x.field n.name t × MeansHere scope x.value n.value × (x.value.ty ≡ Some t))
  field_means_is scope x =
      let c = context types prog bounds known call later in
      rec-roll-PField EFormRule ExprRule FieldRule (eform_means c scope) (expr_means c scope) (field_means c scope) (λ X Y Z u v w f k n x. refl) (record { field = x.field; value = x.value })

  module _ (scope : List Variable) (us : List Test) (span : Span) (d : StructId) (sd : StructDef) (there : slice_get prog.structs d.index ≡ Some sd) where
    abbrev Values : List PField → Type 0
    Values fs = All (map (λ (p : ℕ × Part). p.1) (map keyed_part fs)) scope us

    field_there : (k : ℕ) (f : FieldDef) → slice_get sd.fields k ≡ Some f → field_at types prog d k ≡ Some f
    field_there k f e = ap (option_and_then (λ (z : StructDef). slice_get z.fields k)) there ∙ e

    set_ends : (variant : Option ℕ) (fs : List PField) (ns : List NewField) → Each NowField fs → FieldsMean (MeansField scope) sd fs ns → Each (λ (x : PField). has variant (role_of types prog d x.field) ≡ true) fs → Values fs → (s : plain.State) (h : List Record) → Inv types prog scope us s h
        → Ends types prog (λ (set : List (ℕ × Value)). scope) us h (λ set k. Each (Settable types prog k d variant) set) (eval.fields_in_order span (map keyed fs) s) (fields_in_order span (map keyed' fs) (with_heap s h))
    set_ends variant [] ns q m has_all w s h i = ends_at types prog (λ (set : List (ℕ × Value)). scope) us (λ set k. Each (Settable types prog k d variant) set) [] s h i tt
    set_ends variant (x ∷ xs) [] q m has_all w s h i = absurd m
    set_ends variant (x ∷ xs) (n ∷ ns) q m has_all w s h i =
        let R : List (ℕ × Value) → List Record → Type 0 = λ set k. Each (Settable types prog k d variant) set in
        let g = subst (λ (M : FieldRule). M sd n) (field_means_is scope x) m.0 in
        let ps : List Part = map (λ (p : ℕ × Part). p.1) (map keyed_part xs) in
        ends_then types prog (λ (v : Value). scope) (λ (set : List (ℕ × Value)). scope) us h (λ v k. Fits k (base x.value.ty) v) R _ _ _ _ (q.0.runs scope us (head x.value ps scope us n.value g.2 w) span s h i)
        (λ v y j k g1 f1. ends_then types prog (λ (set : List (ℕ × Value)). scope) (λ (set : List (ℕ × Value)). scope) us j R R _ _ _ _ (set_ends variant xs ns q.1 m.1 has_all.1 (rest (as_part x.value) ps scope us w) y j k)
        (λ set a b l g2 f2. ends_at types prog (λ (set : List (ℕ × Value)). scope) us R ((x.field, v) ∷ set) a b l
        ((record { name = n.name; ty = g.0 }, field_there x.field (record { name = n.name; ty = g.0 }) g.1.there, has_all.0, fits_grows j b (base_of g.0) v g2 (subst (λ o. Fits j (base o) v) g.3 f1)), f2)))

  is_has : (i : ℕ) (w : Role) → is_of i w ≡ true → has (Some i) w ≡ true
  is_has i (role.Of j) e = e
  is_has i role.Free e = absurd (false≢true e)
  is_has i role.Tag e = absurd (false≢true e)

  only_has : (d : StructId) (a : Algebraic) (i : ℕ) → algebraic_of types prog.structs d ≡ Some a → (fs : List PField) → list_all (λ (p : ℕ × Part). is_of i (role_in (Some a) p.0)) (map keyed_part fs) ≡ true → Each (λ (x : PField). has (Some i) (role_of types prog d x.field) ≡ true) fs
  only_has d a i is [] e = tt
  only_has d a i is (x ∷ xs) e =
      let both = both_true (is_of i (role_in (Some a) x.field)) (list_all (λ (p : ℕ × Part). is_of i (role_in (Some a) p.0)) (map keyed_part xs)) e in
      (ap (λ o. has (Some i) (role_in o x.field)) is ∙ is_has i (role_in (Some a) x.field) both.0, only_has d a i is xs both.1)

  free_has : (d : StructId) → algebraic_of types prog.structs d ≡ None → (fs : List PField) → Each (λ (x : PField). has None (role_of types prog d x.field) ≡ true) fs
  free_has d is [] = tt
  free_has d is (x ∷ xs) = (ap (λ o. has None (role_in o x.field)) is, free_has d is xs)

  -- the variant that the first field sets, where it does
  record FirstSets (a : Algebraic) (f : ℕ × Part) (o : Option ℕ) : Type 0 where
    number : ℕ
    is : o ≡ Some number
    tag : f.0 ≡ 0
    says : f.1.number ≡ Some number
    less : nat_lt number (length a.variants) ≡ true

  first_sets : (a : Algebraic) (f : ℕ × Part) (fs : List (ℕ × Part)) → sets_only a (made_variant a f) fs ≡ true → FirstSets a f (made_variant a f)
  first_sets a f fs e = at (f.0 == 0) refl (f.1.number) refl e
    where
      number : (n : ℕ) (b : Bool) → nat_lt n (length a.variants) ≡ b → (f.0 == 0) ≡ true → f.1.number ≡ Some n → sets_only a (if b then Some n else None) fs ≡ true → FirstSets a f (if b then Some n else None)
      number n true less tag says k = record { number = n; is = refl; tag = eqb-true f.0 0 tag; says = says; less = less }
      number n false less tag says k = absurd (false≢true k)

      at : (b : Bool) → (f.0 == 0) ≡ b → (o : Option ℕ) → f.1.number ≡ o → sets_only a (if b then variant_numbered a o else None) fs ≡ true → FirstSets a f (if b then variant_numbered a o else None)
      at false tag o says k = absurd (false≢true k)
      at true tag None says k = absurd (false≢true k)
      at true tag (Some n) says k = number n (nat_lt n (length a.variants)) refl tag says k

  module _ (s : Span) (t : Option Ty) (d : StructId) (fs : List PField) (q : Each NowField fs) where
    abbrev N : List Variable → Expr → Type 0
    N scope e = rule (context types prog bounds known call later) scope (P.New d fs) t e

    abbrev first_new : eval.Does
    first_new = eval.does_form prog width call {X = Option Ty → eval.Does} (P.New d (map keyed fs)) t

    abbrev second_new : Does
    second_new = does_form types prog width later {X = Option Ty → Does} (P.New d (map keyed' fs)) t

    abbrev Kept : List Variable → List Test → Type 0
    Kept scope us = Here (new_part types prog d (map keyed_part fs) s) N scope us

    abbrev Made : List Variable → List Test → List Record → plain.Step Value → Step Value → Type 0
    Made scope us h m n = Ends types prog (λ (v : Value). scope) us h (λ v k. Fits k (elem.Reference d) v) m n

    values_here : (scope : List Variable) (us : List Test) → Kept scope us → (new_fits (algebraic_of types prog.structs d) (map keyed_part fs) ≡ true) × All (map (λ (p : ℕ × Part). p.1) (map keyed_part fs)) scope us
    values_here scope us w =
        let k = unless_keeps (new_fits (algebraic_of types prog.structs d) (map keyed_part fs)) s (each (map (λ (p : Part). p.breaks us) (map (λ (p : ℕ × Part). p.1) (map keyed_part fs)))) w.keeps in
        (k.0, record { stands = w.stands; passes = w.passes; keeps = k.1 })

  plain_new : (d : StructId) (fs : List PField) → Each NowField fs → algebraic_of types prog.structs d ≡ None → (scope : List Variable) (us : List Test) (span : Span) (sd : StructDef) (there : slice_get prog.structs d.index ≡ Some sd) (ns : List NewField) → FieldsMean (MeansField scope) sd fs ns → All (map (λ (p : ℕ × Part). p.1) (map keyed_part fs)) scope us → (z : plain.State) (h : List Record) → Inv types prog scope us z h
      → Ends types prog (λ (v : Value). scope) us h (λ v k. Fits k (elem.Reference d) v) (plain.and_then (eval.fields_in_order span (map keyed fs) z) (heap.allocate prog d)) (and_then (fields_in_order span (map keyed' fs) (with_heap z h)) (allocate types prog d))
  plain_new d fs q none scope us span sd there ns m w z h i =
      ends_then types prog (λ (set : List (ℕ × Value)). scope) (λ (v : Value). scope) us h (λ set k. Each (Settable types prog k d None) set) (λ v k. Fits k (elem.Reference d) v) _ _ _ _ (set_ends scope us span d sd there None fs ns q m (free_has d none fs) w z h i)
      (λ set y j k g f. made_plain types prog scope us y j d set k none f)

  variant_new : (d : StructId) (a : Algebraic) (fs : List PField) → Each NowField fs → algebraic_of types prog.structs d ≡ Some a → new_fits (Some a) (map keyed_part fs) ≡ true → (scope : List Variable) (us : List Test) (span : Span) (sd : StructDef) (there : slice_get prog.structs d.index ≡ Some sd) (ns : List NewField) → FieldsMean (MeansField scope) sd fs ns → All (map (λ (p : ℕ × Part). p.1) (map keyed_part fs)) scope us → (z : plain.State) (h : List Record) → Inv types prog scope us z h
      → Ends types prog (λ (v : Value). scope) us h (λ v k. Fits k (elem.Reference d) v) (plain.and_then (eval.fields_in_order span (map keyed fs) z) (heap.allocate prog d)) (and_then (fields_in_order span (map keyed' fs) (with_heap z h)) (allocate types prog d))
  variant_new d a [] q is e scope us span sd there ns m w z h i = absurd (false≢true e)
  variant_new d a (x ∷ xs) q is e scope us span sd there [] m w z h i = absurd m
  variant_new d a (x ∷ xs) q is e scope us span sd there (n ∷ ns) m w z h i =
      let g = first_sets a (keyed_part x) (map keyed_part xs) e in
      let r = q.0.says g.number g.says in
      let y = subst (λ (M : FieldRule). M sd n) (field_means_is scope x) m.0 in
      let ps : List Part = map (λ (p : ℕ × Part). p.1) (map keyed_part xs) in
      let field : FieldDef = record { name = n.name; ty = y.0 } in
      let at_first : slice_get sd.fields 0 ≡ Some field = ap (slice_get sd.fields) (sym g.tag) ∙ y.1.there in
      let named : type_named types sd.name ≡ Some a = sym (ap (option_and_then (λ (z : StructDef). type_named types z.name)) there) ∙ is in
      let tag : y.0 ≡ int = tags_are d.index sd a field there named at_first in
      let number : literal width x.value.ty g.number ≡ value.Int (pos g.number) = ap (λ o. literal width o g.number) (y.3 ∙ ap Some tag) ∙ ap value.Int (same_number bounds g.number (r.small scope n.value y.2)) in
      let others = only_has d a g.number is xs (subst (λ o. sets_only a o (map keyed_part xs) ≡ true) g.is e) in
      let behind = set_ends scope us span d sd there (Some g.number) xs ns q.1 m.1 others (rest (as_part x.value) ps scope us w) z h i in
      let make : Value → ℕ → plain.Step Value = λ v k. plain.and_then (plain.and_then (eval.fields_in_order span (map keyed xs) z) (λ vs. plain.pure ((k, v) ∷ vs))) (heap.allocate prog d) in
      let make' : Value → ℕ → Step Value = λ v k. and_then (and_then (fields_in_order span (map keyed' xs) (with_heap z h)) (λ vs. pure ((k, v) ∷ vs))) (allocate types prog d) in
      let R : List (ℕ × Value) → List Record → Type 0 = λ set k. (more : List (ℕ × Value)) × (set ≡ (0, value.Int (pos g.number)) ∷ more) × Each (Settable types prog k d (Some g.number)) more in
      let last = ends_then types prog (λ (set : List (ℕ × Value)). scope) (λ (v : Value). scope) us h R (λ v k. Fits k (elem.Reference d) v) _ _ (heap.allocate prog d) (allocate types prog d)
      (ends_then types prog (λ (set : List (ℕ × Value)). scope) (λ (set : List (ℕ × Value)). scope) us h (λ set k. Each (Settable types prog k d (Some g.number)) set) R _ _ (λ vs. plain.pure ((0, value.Int (pos g.number)) ∷ vs)) (λ vs. pure ((0, value.Int (pos g.number)) ∷ vs)) behind
      (λ set b j k g1 f1. ends_at types prog (λ (set : List (ℕ × Value)). scope) us R ((0, value.Int (pos g.number)) ∷ set) b j k (set, refl, f1)))
      (λ set b j k g1 f1. subst (λ all. Ends types prog (λ (v : Value). scope) us j (λ v k. Fits k (elem.Reference d) v) (heap.allocate prog d all b) (allocate types prog d all (with_heap b j))) (sym f1.1) (made_of_variant types prog scope us b j d a g.number field f1.0 k is g.less (field_there scope us span d sd there 0 field at_first) f1.2)) in
      let Done : plain.Step Value → Step Value → Type 0 = λ m n. Ends types prog (λ (v : Value). scope) us h (λ v k. Fits k (elem.Reference d) v) m n in
      let by_value : Done (make (literal width x.value.ty g.number) 0) (make' (literal width x.value.ty g.number) 0) = subst (λ v. Done (make v 0) (make' v 0)) (sym number) last in
      let by_key : Done (make (literal width x.value.ty g.number) x.field) (make' (literal width x.value.ty g.number) x.field) = subst (λ k. Done (make (literal width x.value.ty g.number) k) (make' (literal width x.value.ty g.number) k)) (sym g.tag) by_value in
      subst (λ (c : plain.Comp Value). Done (plain.and_then (plain.and_then (c z) (λ v y. plain.and_then (eval.fields_in_order span (map keyed xs) y) (λ vs. plain.pure ((x.field, v) ∷ vs)))) (heap.allocate prog d)) (and_then (fields_in_order span (map keyed' (x ∷ xs)) (with_heap z h)) (allocate types prog d))) (sym (r.first span))
      (subst (λ (c : Comp Value). Done (make (literal width x.value.ty g.number) x.field) (and_then (and_then (c (with_heap z h)) (λ v y. and_then (fields_in_order span (map keyed' xs) y) (λ vs. pure ((x.field, v) ∷ vs)))) (allocate types prog d))) (sym (r.second span)) by_key)

  module _ (s : Span) (t : Option Ty) (d : StructId) (fs : List PField) (q : Each NowField fs) where
    new_runs : (scope : List Variable) (us : List Test) → Kept s t d fs q scope us → Runs types prog bounds t (first_new s t d fs q) (second_new s t d fs q) scope us
    new_runs scope us w span z h i =
        let m = w.means in
        let v = values_here s t d fs q scope us w in
        subst (λ e. Ends types prog (λ (v : Value). scope) us h (λ v k. Fits k e v) ((first_new s t d fs q).value span z) ((second_new s t d fs q).value span (with_heap z h))) (sym (ap base m.7))
        (go (algebraic_of types prog.structs d) refl v.0 m v.1)
      where
        go : (o : Option Algebraic) → algebraic_of types prog.structs d ≡ o → new_fits o (map keyed_part fs) ≡ true → N s t d fs q scope w.tree → All (map (λ (p : ℕ × Part). p.1) (map keyed_part fs)) scope us → Made s t d fs q scope us h ((first_new s t d fs q).value span z) ((second_new s t d fs q).value span (with_heap z h))
        go None is e m all = plain_new d fs q is scope us span m.3 m.4.there m.1 m.5 all z h i
        go (Some a) is e m all = variant_new d a fs q is e scope us span m.3 m.4.there m.1 m.5 all z h i

    new_fine : Fine types prog bounds t (eform_part types prog (P.New d (map keyed_part fs)) s) (first_new s t d fs q) (second_new s t d fs q) (N s t d fs q)
    new_fine = dull types prog bounds t _ _ _ _ (refl, refl, refl, refl) (refl, refl, refl) new_runs (λ scope us w free span z h i. refl)

    fields_same : parts_x types prog bounds known call later ≡ keyed_part
    fields_same i x = layer_field (Span → Part) Part (ℕ × Part) (eform_part types prog) (λ x. x.form x.span) (λ x. (x.field, x.value)) x.field x.value i

    done_same : done_x types prog bounds known call later ≡ keyed
    done_same i x = layer_field (Option Ty → eval.Does) eval.Does (ℕ × eval.Does) (eval.does_form prog width call) (λ x. x.form x.ty) (λ x. (x.field, x.value)) x.field x.value i

    again_same : again_x types prog bounds known call later ≡ keyed'
    again_same i x = layer_field (Option Ty → Does) Does (ℕ × Does) (does_form types prog width later) (λ x. x.form x.ty) (λ x. (x.field, x.value)) x.field x.value i

    pub case_new : Now (record { span = s; ty = t; form = eform.New d fs })
    case_new = laid types prog bounds known call later (P.New d fs) (eform.New d fs) (V.rolls-New d fs) s t
        (subst (λ (p : PField → ℕ × Part). Fine types prog bounds t (eform_part types prog (P.New d (map p fs)) s) (eval.does_form prog width call {X = Option Ty → eval.Does} (P.New d (map (done_x types prog bounds known call later) fs)) t) (does_form types prog width later {X = Option Ty → Does} (P.New d (map (again_x types prog bounds known call later) fs)) t) (N s t d fs q)) (sym fields_same)
        (subst (λ (p : PField → ℕ × eval.Does). Fine types prog bounds t (eform_part types prog (P.New d (map keyed_part fs)) s) (eval.does_form prog width call {X = Option Ty → eval.Does} (P.New d (map p fs)) t) (does_form types prog width later {X = Option Ty → Does} (P.New d (map (again_x types prog bounds known call later) fs)) t) (N s t d fs q)) (sym done_same)
        (subst (λ (p : PField → ℕ × Does). Fine types prog bounds t (eform_part types prog (P.New d (map keyed_part fs)) s) (first_new s t d fs q) (does_form types prog width later {X = Option Ty → Does} (P.New d (map p fs)) t) (N s t d fs q)) (sym again_same) new_fine)))
