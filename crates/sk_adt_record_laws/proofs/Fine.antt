-- What an expression does on both sides, said of what its layer does.
use Rattle.std.proofs.Common.{◌≡◌, ℕ, List, [], slice_get, Option, Some, None, Bool, true, false, sym, subst, ◌∙◌}
use Rattle.std.specs.Prelude.{IsTrue, ◌⊎◌, slice_index_or}
use Rattle.std.proofs.lemmas.Option.{none-some}
use Rattle.sk_base.specs.declared.span.Span.{Span}
use Rattle.sk_base.specs.declared.bounds.Bounds.{Bounds}
use Rattle.sk_tree.specs.declared.expr.Expr.{Expr}
use Rattle.sk_prog.specs.declared.ids.StructId.{StructId}
use Rattle.sk_prog.specs.declared.ty.Elem.{Elem}
use Rattle.sk_prog.specs.declared.ty.Elem.TheVariants as elem
use Rattle.sk_prog.specs.declared.ty.Ty.{Ty}
use Rattle.sk_prog.specs.declared.value.Value.{Value}
use Rattle.sk_prog.specs.declared.value.Value.TheVariants as value
use Rattle.sk_prog.specs.declared.expr.PExpr.{PExpr}
use Rattle.sk_prog.specs.declared.expr.PField.{PField}
use Rattle.sk_prog.specs.declared.expr.PEForm.{PEForm}
use Rattle.sk_prog.specs.declared.expr.PEForm.TheOpen as P
use Rattle.sk_prog.specs.declared.expr.PEForm.TheViews.{roll-PEForm}
use Rattle.sk_prog.specs.declared.expr.PEForm.TheFolds.{map-PEForm, fold-PEForm, fold-PField}
use Rattle.sk_prog.specs.declared.prog.Prog.{Prog}
use Rattle.sk_types_rules.specs.declared.scope.Variable.{Variable}
use Rattle.sk_types_rules.specs.Rules.{int, base_of, element_of, in_range}
use Rattle.sk_types_rules.specs.Scope.{Known, Context, top_of}
use Rattle.sk_types_rules.specs.Sorts.{reference_to}
use Rattle.sk_types_rules.specs.Types.{EFormRule, Means}
use Rattle.sk_types_rules.proofs.Layers.{FormMeans, rule, form_means_are, means_parts}
use Rattle.sk_model.specs.Step as plain
use Rattle.sk_model.specs.Heap.{Location}
use Rattle.sk_model.specs.Heap as heap
use Rattle.sk_model.specs.Eval.{literal}
use Rattle.sk_model.specs.Eval as eval
use Rattle.sk_model.proofs.Induction.{Each}
use Rattle.sk_model.proofs.Layers.{expr_layer}
use Rattle.sk_adt.specs.declared.algebraic.Algebraic.{Algebraic}
use Rattle.sk_adt_tags.specs.declared.role.Test.{Test}
use Rattle.sk_adt_tags.specs.Tags.{Part, part, eform_part, algebraic_of}
use Rattle.sk_adt_records.specs.Steps.{Record, Step, Goes, Fails, pure}
use Rattle.sk_adt_records.specs.Heap.{read}
use Rattle.sk_adt_records.specs.Eval.{Calls, Does, does, does_form}
use Rattle.sk_adt_record_laws.proofs.Related.{Fits, with_heap, Passed, Inv, Ends}
use Rattle.sk_adt_record_laws.proofs.Stores.{Rooted}

-- the type of the single values of an expression; of a call without a result nothing is asked
abbrev pub base : Option Ty → Elem
base None = elem.Int
base (Some t) = base_of t

-- the test is of a variable in scope that holds no array
abbrev pub Stands : List Variable → Test → Type 0
Stands scope u = (x : Variable) × (slice_get scope u.slot ≡ Some x) × (element_of x.ty ≡ None)

-- where an expression stands: what it means, and the tests that hold there, whose variables it keeps
pub record Here (p : Part) (M : List Variable → Expr → Type 0) (scope : List Variable) (tests : List Test) : Type 0 where
  pub tree : Expr
  pub means : M scope tree
  pub stands : Each (Stands scope) tests
  pub passes : Each (λ (u : Test). p.passes u.slot ≡ false) tests
  pub keeps : p.breaks tests ≡ []

-- how a test ends on both sides
abbrev pub TestEnds : Test → Span → plain.State → List Record → plain.Step Value → Step Value → Type 0
TestEnds u span s h m n =
    ((b : Bool) × (m ≡ plain.Goes (value.Bit b) s) × (n ≡ Goes (value.Bit b) (with_heap s h)) × (b ≡ true → Passed h s.slots u))
    ⊎ ((m ≡ plain.Fails span) × (n ≡ Fails span))

module _ (types : List Algebraic) (prog : Prog) (bounds : Bounds) where
  -- as a target it is a variable that no test holds, or of an array's type
  abbrev pub Free : Option Ty → Part → List Test → Type 0
  Free t p tests = Each (λ (u : Test). p.may_be u.slot ≡ false) tests ⊎ ((y r : Ty) × (t ≡ Some y) × (element_of y ≡ Some r))

  abbrev pub Runs : Option Ty → eval.Does → Does → List Variable → List Test → Type 0
  Runs t d n scope tests = (span : Span) (s : plain.State) (h : List Record) → Inv types prog scope tests s h → Ends types prog (λ (v : Value). scope) tests h (λ v k. Fits k (base t) v) (d.value span s) (n.value span (with_heap s h))

  abbrev pub Aims : Option Ty → eval.Does → Does → List Variable → List Test → Type 0
  Aims t d n scope tests = (span : Span) (s : plain.State) (h : List Record) → Inv types prog scope tests s h → Ends types prog (λ (l : Location). scope) tests h (λ l k. Rooted types prog scope tests (base t) k l.root) (d.target span s) (n.target span (with_heap s h))

  pub record IsRead (t : Option Ty) (d : eval.Does) (n : Does) (M : List Variable → Expr → Type 0) (x : ℕ) : Type 0 where
    pub first : (span : Span) → d.value span ≡ heap.read x
    pub second : (span : Span) → n.value span ≡ read x
    pub typed : (scope : List Variable) (e : Expr) → M scope e → (v : Variable) × (slice_get scope x ≡ Some v) × (t ≡ Some v.ty)

  pub record IsNumber (t : Option Ty) (d : eval.Does) (n : Does) (M : List Variable → Expr → Type 0) (i : ℕ) : Type 0 where
    pub first : (span : Span) → d.value span ≡ plain.pure (literal bounds.int_bits t i)
    pub second : (span : Span) → n.value span ≡ pure (literal bounds.int_bits t i)
    pub small : (scope : List Variable) (e : Expr) → M scope e → IsTrue (in_range bounds i)

  -- a variable that holds references to records of an algebraic struct
  pub record Tagged (scope : List Variable) (x : ℕ) : Type 0 where
    pub it : Variable
    pub there : slice_get scope x ≡ Some it
    pub of : StructId
    pub type : it.ty ≡ reference_to of
    pub kin : Algebraic
    pub is : algebraic_of types prog.structs of ≡ Some kin

  pub record IsTag (t : Option Ty) (p : Part) (d : eval.Does) (M : List Variable → Expr → Type 0) (x : ℕ) : Type 0 where
    pub first : (span : Span) (s : plain.State) → d.value span s ≡ heap.read_field span 0 (slice_index_or s.slots x heap.blank) s
    pub alone : (tests : List Test) → p.breaks tests ≡ [] → ⊥
    pub typed : (scope : List Variable) (e : Expr) → M scope e → Tagged scope x × (t ≡ Some int)

  pub record IsTest (d : eval.Does) (n : Does) (M : List Variable → Expr → Type 0) (u : Test) : Type 0 where
    pub stands : (scope : List Variable) (e : Expr) → M scope e → Stands scope u
    pub ends : (scope : List Variable) (e : Expr) (tests : List Test) → M scope e → (span : Span) (s : plain.State) (h : List Record) → Inv types prog scope tests s h → TestEnds u span s h (d.value span s) (n.value span (with_heap s h))

  pub record Fine (t : Option Ty) (p : Part) (d : eval.Does) (n : Does) (M : List Variable → Expr → Type 0) : Type 0 where
    pub slot : n.slot ≡ p.slot
    pub number : n.number ≡ p.number
    pub tag : n.tag ≡ p.tag
    pub reads : (x : ℕ) → p.slot ≡ Some x → IsRead t d n M x
    pub says : (i : ℕ) → p.number ≡ Some i → IsNumber t d n M i
    pub asks : (x : ℕ) → p.tag ≡ Some x → IsTag t p d M x
    pub tested : (u : Test) → p.test ≡ Some u → IsTest d n M u
    pub runs : (scope : List Variable) (tests : List Test) → Here p M scope tests → Runs t d n scope tests
    pub aims : (scope : List Variable) (tests : List Test) → Here p M scope tests → Free t p tests → Aims t d n scope tests

  -- what is no variable, number, tag or test
  pub dull : (t : Option Ty) (p : Part) (d : eval.Does) (n : Does) (M : List Variable → Expr → Type 0)
      → (p.slot ≡ None) × (p.number ≡ None) × (p.tag ≡ None) × (p.test ≡ None)
      → (n.slot ≡ None) × (n.number ≡ None) × (n.tag ≡ None)
      → ((scope : List Variable) (tests : List Test) → Here p M scope tests → Runs t d n scope tests)
      → ((scope : List Variable) (tests : List Test) → Here p M scope tests → Free t p tests → Aims t d n scope tests)
      → Fine t p d n M
  dull t p d n M a b runs aims = record {
    slot = b.0 ∙ sym a.0;
    number = b.1 ∙ sym a.1;
    tag = b.2 ∙ sym a.2;
    reads = λ x e. absurd (none-some x (sym a.0 ∙ e));
    says = λ i e. absurd (none-some i (sym a.1 ∙ e));
    asks = λ x e. absurd (none-some x (sym a.2 ∙ e));
    tested = λ u e. absurd (none-some u (sym a.3 ∙ e));
    runs = runs;
    aims = aims;
  }

  here_by : (p : Part) (M N : List Variable → Expr → Type 0) → ((scope : List Variable) (e : Expr) → M scope e → N scope e) → (scope : List Variable) (tests : List Test) → Here p M scope tests → Here p N scope tests
  here_by p M N f scope tests w = record { tree = w.tree; means = f scope w.tree w.means; stands = w.stands; passes = w.passes; keeps = w.keeps }

  -- by another meaning that the first one implies
  fine_by : (t : Option Ty) (p : Part) (d : eval.Does) (n : Does) (M N : List Variable → Expr → Type 0) → ((scope : List Variable) (e : Expr) → M scope e → N scope e) → Fine t p d n N → Fine t p d n M
  fine_by t p d n M N f r = record {
    slot = r.slot;
    number = r.number;
    tag = r.tag;
    reads = λ x e. let q = r.reads x e in record { first = q.first; second = q.second; typed = λ scope z m. q.typed scope z (f scope z m) };
    says = λ i e. let q = r.says i e in record { first = q.first; second = q.second; small = λ scope z m. q.small scope z (f scope z m) };
    asks = λ x e. let q = r.asks x e in record { first = q.first; alone = q.alone; typed = λ scope z m. q.typed scope z (f scope z m) };
    tested = λ u e. let q = r.tested u e in record { stands = λ scope z m. q.stands scope z (f scope z m); ends = λ scope z tests m. q.ends scope z tests (f scope z m) };
    runs = λ scope tests w. r.runs scope tests (here_by p M N f scope tests w);
    aims = λ scope tests w. r.aims scope tests (here_by p M N f scope tests w);
  }

  module _ (known : List Known) (call : eval.Calls) (later : Calls) where
    abbrev pub context : Context
    context = record { bounds = bounds; top = top_of prog; known = known }

    abbrev pub parts : PExpr → Part
    parts = part types prog

    abbrev pub done : PExpr → eval.Does
    done = eval.does prog bounds.int_bits call

    abbrev pub again : PExpr → Does
    again = does types prog bounds.int_bits later

    abbrev pub parts_f : PEForm → Span → Part
    parts_f = fold-PEForm (Span → Part) Part (ℕ × Part) (eform_part types prog) (λ x. x.form x.span) (λ x. (x.field, x.value))

    abbrev pub parts_x : PField → ℕ × Part
    parts_x = fold-PField (Span → Part) Part (ℕ × Part) (eform_part types prog) (λ x. x.form x.span) (λ x. (x.field, x.value))

    abbrev pub done_f : PEForm → Option Ty → eval.Does
    done_f = fold-PEForm (Option Ty → eval.Does) eval.Does (ℕ × eval.Does) (eval.does_form prog bounds.int_bits call) (λ x. x.form x.ty) (λ x. (x.field, x.value))

    abbrev pub done_x : PField → ℕ × eval.Does
    done_x = fold-PField (Option Ty → eval.Does) eval.Does (ℕ × eval.Does) (eval.does_form prog bounds.int_bits call) (λ x. x.form x.ty) (λ x. (x.field, x.value))

    abbrev pub again_f : PEForm → Option Ty → Does
    again_f = fold-PEForm (Option Ty → Does) Does (ℕ × Does) (does_form types prog bounds.int_bits later) (λ x. x.form x.ty) (λ x. (x.field, x.value))

    abbrev pub again_x : PField → ℕ × Does
    again_x = fold-PField (Option Ty → Does) Does (ℕ × Does) (does_form types prog bounds.int_bits later) (λ x. x.form x.ty) (λ x. (x.field, x.value))

    abbrev pub Layer : Type 0
    Layer = P.PEForm-F PEForm PExpr PField

    abbrev pub Meant : PExpr → List Variable → Expr → Type 0
    Meant e scope tree = Means context scope e tree

    abbrev pub At : PExpr → Type 0
    At e = Fine e.ty (parts e) (done e) (again e) (Meant e)

    abbrev pub Laid : Layer → Span → Option Ty → Type 0
    Laid x s t = Fine t
        (eform_part types prog (map-PEForm PEForm PExpr PField (Span → Part) Part (ℕ × Part) parts_f parts parts_x x) s)
        (eval.does_form prog bounds.int_bits call (map-PEForm PEForm PExpr PField (Option Ty → eval.Does) eval.Does (ℕ × eval.Does) done_f done done_x x) t)
        (does_form types prog bounds.int_bits later (map-PEForm PEForm PExpr PField (Option Ty → Does) Does (ℕ × Does) again_f again again_x x) t)
        (λ scope e. rule context scope x t e)

    pub laid : (x : Layer) (form : PEForm) → roll-PEForm x ≡ form → (s : Span) (t : Option Ty) → Laid x s t → At (record { span = s; ty = t; form = form })
    laid x form is s t r =
        let e : PExpr = record { span = s; ty = t; form = form } in
        let M : List Variable → Expr → Type 0 = λ scope z. rule context scope x t z in
        let p : Part = eform_part types prog (map-PEForm PEForm PExpr PField (Span → Part) Part (ℕ × Part) parts_f parts parts_x x) s in
        let d : eval.Does = eval.does_form prog bounds.int_bits call (map-PEForm PEForm PExpr PField (Option Ty → eval.Does) eval.Does (ℕ × eval.Does) done_f done done_x x) t in
        let a = expr_layer (Span → Part) Part (ℕ × Part) (eform_part types prog) (λ x. x.form x.span) (λ x. (x.field, x.value)) x form is s t in
        let b = expr_layer (Option Ty → eval.Does) eval.Does (ℕ × eval.Does) (eval.does_form prog bounds.int_bits call) (λ x. x.form x.ty) (λ x. (x.field, x.value)) x form is s t in
        let c = expr_layer (Option Ty → Does) Does (ℕ × Does) (does_form types prog bounds.int_bits later) (λ x. x.form x.ty) (λ x. (x.field, x.value)) x form is s t in
        let means : (scope : List Variable) (z : Expr) → Meant e scope z → M scope z = (λ scope z m.
        let f = (means_parts context scope e z m).1 in
        subst (λ (R : EFormRule). R t z) (form_means_are context scope x) (subst (λ g. FormMeans context scope g t z) (sym is) f)) in
        fine_by t (parts e) (done e) (again e) (Meant e) M means
        (subst (λ q. Fine t q (done e) (again e) M) (sym a)
        (subst (λ q. Fine t p q (again e) M) (sym b)
        (subst (λ q. Fine t p d q M) (sym c) r)))
