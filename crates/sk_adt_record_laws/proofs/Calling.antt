-- Calls do the same on both sides, and so do runs.
use Rattle.std.proofs.Common.{◌≡◌, ℕ, zero, suc, List, [], ◌∷◌, ◌++◌, map, length, replicate, slice_get, Option, Some, None, Bool, true, false, refl, sym, ap, subst, ◌∙◌, arith}
use Rattle.std.specs.Prelude.{◌==◌, ◌+◌, ◌-◌, not, IsTrue, nat_lt, count_by, slice_index_or, if◌then◌else◌}
use Rattle.std.specs.List.{list_any}
use Rattle.std.proofs.lemmas.Bool.{false≢true}
use Rattle.sk_base.specs.declared.span.Span.{Span}
use Rattle.sk_base.specs.declared.bounds.Bounds.{Bounds}
use Rattle.sk_tree.specs.declared.item.FunItem.{FunItem}
use Rattle.sk_tree.specs.declared.item.Item.{Item}
use Rattle.sk_tree.specs.declared.item.Item.TheVariants as item
use Rattle.sk_prog.specs.declared.ids.FunId.{FunId}
use Rattle.sk_prog.specs.declared.ty.Elem.{Elem}
use Rattle.sk_prog.specs.declared.ty.Elem.TheVariants as elem
use Rattle.sk_prog.specs.declared.ty.Ty.{Ty}
use Rattle.sk_prog.specs.declared.ty.Ty.TheVariants as ty
use Rattle.sk_prog.specs.declared.value.Value.{Value}
use Rattle.sk_prog.specs.declared.prog.StructDef.{StructDef}
use Rattle.sk_prog.specs.declared.prog.ConstDef.{ConstDef}
use Rattle.sk_prog.specs.declared.prog.ParamDef.{ParamDef}
use Rattle.sk_prog.specs.declared.prog.Fun.{Fun}
use Rattle.sk_prog.specs.declared.prog.Prog.{Prog}
use Rattle.sk_types_rules.specs.declared.scope.Variable.{Variable}
use Rattle.sk_types_rules.specs.Rules.{base_of, is_reference, holds_references}
use Rattle.sk_types_rules.specs.Scope.{Top, Known, top_of}
use Rattle.sk_types_rules.specs.Plain.{plain as plainly}
use Rattle.sk_types_rules.specs.Types.{FunMeans, ItemsMean, parameters, variable_of, speaks_of_records, any_references}
use Rattle.sk_types_rules.specs.WellTyped.{WellTyped}
use Rattle.sk_model.specs.declared.outcome.Outcome.TheVariants as outcome
use Rattle.sk_model.specs.Step as plain
use Rattle.sk_model.specs.Values.{zero_of}
use Rattle.sk_model.specs.Heap.{blank}
use Rattle.sk_model.specs.Eval.{Called}
use Rattle.sk_model.specs.Eval as eval
use Rattle.sk_model.specs.Exec.{Flow, Onward, Returns}
use Rattle.sk_model.specs.Exec as exec
use Rattle.sk_model.specs.Run.{result_of, refs_from, first_slots, most_calls, nowhere, filled_bodies, run}
use Rattle.sk_model.specs.Run as plain_run
use Rattle.sk_adt.specs.Words.{each}
use Rattle.sk_adt.specs.declared.algebraic.Algebraic.{Algebraic}
use Rattle.sk_adt_tags.specs.Tags.{fun_breaks, breaks, Tagged}
use Rattle.sk_adt_records.specs.Steps.{Record, State, Step, Goes, Fails, Skips, Strays, fail}
use Rattle.sk_adt_records.specs.Eval.{Calls}
use Rattle.sk_adt_records.specs.Exec.{exec_all}
use Rattle.sk_adt_records.specs.Run.{Ends as EndsAs, in_frame, body_of, calls, ending_of, start, run_by_variants}
use Rattle.sk_adt_record_laws.specs.Laws.{TagsAreIntegers, TaggedRunsKeepVariants}
use Rattle.sk_adt_record_laws.proofs.Places.{holds_zero}
use Rattle.sk_adt_record_laws.proofs.Related.{IsOf, Fits, fits_by, with_heap, StepsAlike, steps_then, Alike, Inv, After}
use Rattle.sk_adt_record_laws.proofs.Forms.{none_of, or_none}
use Rattle.sk_adt_record_laws.proofs.Rows.{ref_types, AllFit, ArgsFit, CallEnds, CallsAlike}
use Rattle.sk_adt_record_laws.proofs.Stmts.{leaves, FlowFits, body_ends}

-- Slots of parameters

blank_at : (n k : ℕ) → slice_index_or (replicate n blank) k blank ≡ blank
blank_at zero k = refl
blank_at (suc n) zero = refl
blank_at (suc n) (suc k) = blank_at n k

arg_at : (vs : List Value) (n k : ℕ) → slice_index_or (vs ++ replicate n blank) k blank ≡ slice_index_or vs k blank
arg_at [] n k = blank_at n k
arg_at (v ∷ vs) n zero = refl
arg_at (v ∷ vs) n (suc k) = arg_at vs n k

param_at : (ds : List ParamDef) (k : ℕ) (x : Variable) → slice_get (parameters ds) k ≡ Some x → (d : ParamDef) × (slice_get ds k ≡ Some d) × (d.ty ≡ x.ty)
param_at [] k x e = cc
param_at (d ∷ ds) zero x e = (d, refl, ap (λ (v : Variable). v.ty) (the (variable_of d) x e))
  where
    the : (a b : Variable) → Some a ≡ Some b → a ≡ b
    the a b is = cc
param_at (d ∷ ds) (suc k) x e = param_at ds k x e

scope_at : (ds : List ParamDef) (k : ℕ) (d : ParamDef) → slice_get ds k ≡ Some d → slice_get (parameters ds) k ≡ Some (variable_of d)
scope_at [] k d e = cc
scope_at (x ∷ xs) zero d e = let same : x ≡ d = cc in ap (λ (y : ParamDef). Some (variable_of y)) same
scope_at (x ∷ xs) (suc k) d e = scope_at xs k d e

refs_fit : (h : List Record) (ds : List ParamDef) (slot : ℕ) (slots : List Value) → ((k : ℕ) (d : ParamDef) → slice_get ds k ≡ Some d → Fits h (base_of d.ty) (slice_index_or slots (slot + k) blank)) → AllFit h (ref_types ds) (refs_from slot ds slots)
refs_fit h [] slot slots f = tt
refs_fit h (d ∷ ds) slot slots f = go d.by_ref (refs_fit h ds (slot + 1) slots (λ k c e. let same : slot + suc k ≡ slot + 1 + k = omega arith in subst (λ n. Fits h (base_of c.ty) (slice_index_or slots n blank)) same (f (suc k) c e)))
  where
    go : (b : Bool) → AllFit h (ref_types ds) (refs_from (slot + 1) ds slots) → AllFit h (if b then d.ty ∷ ref_types ds else ref_types ds) (if b then slice_index_or slots slot blank ∷ refs_from (slot + 1) ds slots else refs_from (slot + 1) ds slots)
    go true rest = let same : slot + 0 ≡ slot = omega arith in (subst (λ n. Fits h (base_of d.ty) (slice_index_or slots n blank)) same (f 0 d refl), rest)
    go false rest = rest

-- Functions of a typed program

record HasItem (bounds : Bounds) (top : Top) (f : Fun) : Type 0 where
  known : List Known
  tree : FunItem
  means : FunMeans (record { bounds = bounds; top = top; known = known }) tree f

fun_item : (bounds : Bounds) (top : Top) (known : List Known) (is : List Item) (ds : List StructDef) (cs : List ConstDef) (fs : List Fun) → ItemsMean bounds top known is ds cs fs → (i : ℕ) (f : Fun) → slice_get fs i ≡ Some f → HasItem bounds top f
fun_item bounds top known [] [] [] [] m i f h = cc
fun_item bounds top known (item.Struct x ys ∷ is) (d ∷ ds) cs fs m i f h = fun_item bounds top known is ds cs fs m.1 i f h
fun_item bounds top known (item.Const x e ∷ is) ds (c ∷ cs) fs m i f h = fun_item bounds top (known ++ record { name = x; number = m.0 } ∷ []) is ds cs fs m.2 i f h
fun_item bounds top known (item.Fun g ∷ is) ds cs (e ∷ fs) m zero f h =
    let same : e ≡ f = cc in
    record { known = known; tree = g; means = subst (λ f. FunMeans (record { bounds = bounds; top = top; known = known }) g f) same m.0 }
fun_item bounds top known (item.Fun g ∷ is) ds cs (e ∷ fs) m (suc i) f h = fun_item bounds top known is ds cs fs m.1 i f h
fun_item bounds top known [] (d ∷ ds) cs fs m i f h = absurd m
fun_item bounds top known [] [] (c ∷ cs) fs m i f h = absurd m
fun_item bounds top known [] [] [] (e ∷ fs) m i f h = absurd m
fun_item bounds top known (item.Struct x ys ∷ is) [] cs fs m i f h = absurd m
fun_item bounds top known (item.Const x e ∷ is) ds [] fs m i f h = absurd m
fun_item bounds top known (item.Fun g ∷ is) ds cs [] m i f h = absurd m
fun_item bounds top known (item.Pragma word text ∷ is) ds cs fs m i f h = absurd m

module _ (types : List Algebraic) (prog : Prog) where
  funs_keep : (fs : List Fun) → each (map (fun_breaks types prog) fs) ≡ [] → (i : ℕ) (f : Fun) → slice_get fs i ≡ Some f → fun_breaks types prog f ≡ []
  funs_keep [] e i f h = cc
  funs_keep (g ∷ gs) e zero f h =
      let same : g ≡ f = cc in
      subst (λ x. fun_breaks types prog x ≡ []) same (none_of (fun_breaks types prog g) (each (map (fun_breaks types prog) gs)) e).0
  funs_keep (g ∷ gs) e (suc i) f h = funs_keep gs (none_of (fun_breaks types prog g) (each (map (fun_breaks types prog) gs)) e).1 i f h

  tagged_fun : Tagged types prog → (i : ℕ) (f : Fun) → slice_get prog.funs i ≡ Some f → fun_breaks types prog f ≡ []
  unfolding breaks
  tagged_fun e i f h = funs_keep prog.funs e i f h

module _ (types : List Algebraic) (prog : Prog) (bounds : Bounds) (well : WellTyped prog bounds) (tags_are : TagsAreIntegers types prog) (tagged : Tagged types prog) where
  result_fits : (k : List Record) (result : Option Ty) (f : Flow) → FlowFits result f k → (r : Ty) (v : Value) → result ≡ Some r → result_of result f ≡ Some v → Fits k (base_of r) v
  result_fits k None f p r v e i = cc
  result_fits k (Some t) Onward p r v e i = zero_fits k t r v e i
    where
      zero_fits : (k : List Record) (t r : Ty) (v : Value) → Some t ≡ Some r → Some (zero_of t) ≡ Some v → Fits k (base_of r) v
      zero_fits k t r v e i = let same : zero_of t ≡ v = cc in subst (Fits k (base_of r)) same (fits_by k (base_of r) (zero_of t) (λ d. holds_zero (IsOf k d) t))
  result_fits k (Some t) (Returns None) p r v e i = zero_fits k t r v e i
    where
      zero_fits : (k : List Record) (t r : Ty) (v : Value) → Some t ≡ Some r → Some (zero_of t) ≡ Some v → Fits k (base_of r) v
      zero_fits k t r v e i = let same : zero_of t ≡ v = cc in subst (Fits k (base_of r)) same (fits_by k (base_of r) (zero_of t) (λ d. holds_zero (IsOf k d) t))
  result_fits k (Some t) (Returns (Some w)) p r v e i = let same : w ≡ v = cc in subst (Fits k (base_of r)) same (p r e)

  frame_inv : (fun : Fun) (args : List Value) (s : plain.State) (h : List Record) → Alike types prog s.heap h → ArgsFit h fun.params args → Inv types prog (parameters fun.params) [] (record s { slots = first_slots fun args }) h
  frame_inv fun args s h a f = record {
    alike = a;
    fits = λ k x e.
        let d = param_at fun.params k x e in
        subst (λ t. Fits h (base_of t) (slice_index_or (first_slots fun args) k blank)) d.2
        (subst (Fits h (base_of d.0.ty)) (sym (arg_at args (fun.slots - length args) k)) (f k d.0 d.1));
    passed = tt;
  }

  -- a body in variables of its own
  frame_ends : (call : eval.Calls) (later : Calls) → CallsAlike types prog call later → (i : ℕ) (fun : Fun) (args : List Value) (s : plain.State) (h : List Record) → slice_get prog.funs i ≡ Some fun → Alike types prog s.heap h → ArgsFit h fun.params args
      → StepsAlike (CallEnds types prog fun s h) (plain_run.in_frame fun args (exec.exec_all prog bounds call fun.body) s) (in_frame fun args (exec_all types prog bounds later fun.body) (with_heap s h))
  frame_ends call later calls i fun args s h is a f =
      let g = fun_item bounds (top_of prog) [] (plainly well.tree).items prog.structs prog.consts prog.funs (well.types).items i fun is in
      let scope : List Variable = parameters fun.params in
      let body = body_ends types prog bounds tags_are g.known call later calls fun.result fun.body 0 scope g.tree.body g.means.body (tagged_fun types prog tagged i fun is) (record s { slots = first_slots fun args }) h (frame_inv fun args s h a f) in
      steps_then (λ flow z k. After types prog (leaves scope scope flow) [] h (FlowFits fun.result flow) z k) (CallEnds types prog fun s h) _ _
      (λ flow end. plain.Goes (record { result = result_of fun.result flow; refs = refs_from 0 fun.params end.slots }) (record end { slots = s.slots }))
      (λ flow end. Goes (record { result = result_of fun.result flow; refs = refs_from 0 fun.params end.slots }) (record end { slots = s.slots })) body
      (λ flow z k r. (
        refl,
        refl,
        record {
          slots = refl;
          alike = r.inv.alike;
          grows = r.grows;
          result = result_fits k fun.result flow r.gives;
          refs = refs_fit k fun.params 0 z.slots (λ n d e.
              let same : 0 + n ≡ n = omega arith in
              subst (λ m. Fits k (base_of d.ty) (slice_index_or z.slots m blank)) (sym same) ((at_first scope flow z k r).fits n (variable_of d) (scope_at fun.params n d e)));
        },
      ))
    where
      at_first : (scope : List Variable) (flow : Flow) (z : plain.State) (k : List Record) → After types prog (leaves scope scope flow) [] h (FlowFits fun.result flow) z k → Inv types prog scope [] z k
      at_first scope Onward z k r = r.inv
      at_first scope (Returns v) z k r = r.inv

  pub calls_alike : (left : ℕ) (active : List ℕ) → CallsAlike types prog (plain_run.calls prog bounds (filled_bodies prog bounds) left active) (calls types prog bounds left active)
  unfolding plain_run.calls calls
  calls_alike zero active span f fun args s h is a fit = refl
  calls_alike (suc left) active span f fun args s h is a fit =
      go (nat_lt (count_by (λ g. g == f) active) bounds.inline_amnt) (frame_ends (plain_run.calls prog bounds (filled_bodies prog bounds) left (active ++ f ∷ [])) (calls types prog bounds left (active ++ f ∷ [])) (calls_alike left (active ++ f ∷ [])) f fun args s h is a fit)
    where
      go : (b : Bool) → StepsAlike (CallEnds types prog fun s h) (plain_run.in_frame fun args (exec.exec_all prog bounds (plain_run.calls prog bounds (filled_bodies prog bounds) left (active ++ f ∷ [])) fun.body) s) (in_frame fun args (exec_all types prog bounds (calls types prog bounds left (active ++ f ∷ [])) fun.body) (with_heap s h))
          → StepsAlike (CallEnds types prog fun s h)
          ((if b then plain_run.body_of (filled_bodies prog bounds (plain_run.calls prog bounds (filled_bodies prog bounds) left (active ++ f ∷ [])) f) span (slice_get prog.funs f) args else plain.fail span) s)
          ((if b then body_of (λ fun. exec_all types prog bounds (calls types prog bounds left (active ++ f ∷ [])) fun.body) span (slice_get prog.funs f) args else fail span) (with_heap s h))
      go false r = refl
      go true r = subst (λ (o : Option Fun). StepsAlike (CallEnds types prog fun s h) (plain_run.body_of (filled_bodies prog bounds (plain_run.calls prog bounds (filled_bodies prog bounds) left (active ++ f ∷ [])) f) span o args s) (body_of (λ fun. exec_all types prog bounds (calls types prog bounds left (active ++ f ∷ [])) fun.body) span o args (with_heap s h))) (sym is) r

  -- a function that is not there

  absent_calls : (left : ℕ) (active : List ℕ) (span : Span) (f : ℕ) (args : List Value) (s : plain.State) (t : State) → slice_get prog.funs f ≡ None → (plain_run.calls prog bounds (filled_bodies prog bounds) left active span f args s ≡ plain.Fails span) × (calls types prog bounds left active span f args t ≡ Fails span)
  unfolding plain_run.calls calls
  absent_calls zero active span f args s t none = (refl, refl)
  absent_calls (suc left) active span f args s t none = (one (nat_lt (count_by (λ g. g == f) active) bounds.inline_amnt), two (nat_lt (count_by (λ g. g == f) active) bounds.inline_amnt))
    where
      one : (b : Bool) → (if b then plain_run.body_of (filled_bodies prog bounds (plain_run.calls prog bounds (filled_bodies prog bounds) left (active ++ f ∷ [])) f) span (slice_get prog.funs f) args else plain.fail span) s ≡ plain.Fails span
      one true = ap (λ (o : Option Fun). plain_run.body_of (filled_bodies prog bounds (plain_run.calls prog bounds (filled_bodies prog bounds) left (active ++ f ∷ [])) f) span o args s) none
      one false = refl

      two : (b : Bool) → (if b then body_of (λ fun. exec_all types prog bounds (calls types prog bounds left (active ++ f ∷ [])) fun.body) span (slice_get prog.funs f) args else fail span) t ≡ Fails span
      two true = ap (λ (o : Option Fun). body_of (λ fun. exec_all types prog bounds (calls types prog bounds left (active ++ f ∷ [])) fun.body) span o args t) none
      two false = refl

  -- The whole run

  same_end : (fun : Fun) (s : plain.State) (h : List Record) (m : plain.Step Called) (n : Step Called) → StepsAlike (CallEnds types prog fun s h) m n → ending_of n ≡ EndsAs (plain_run.outcome_of m)
  same_end fun s h (plain.Goes c z) (Goes d t) r = λ i. EndsAs (outcome.Done (sym r.0 i).result (sym r.0 i).refs (ap (λ (y : State). y.cost) r.1 i))
  same_end fun s h (plain.Fails x) (Fails y) r = ap (λ z. EndsAs (outcome.Failed z)) (sym r)
  same_end fun s h (plain.Skips x) (Skips y) r = ap (λ z. EndsAs (outcome.Skipped z)) (sym r)
  same_end fun s h (plain.Goes c z) (Fails y) r = absurd r
  same_end fun s h (plain.Goes c z) (Skips y) r = absurd r
  same_end fun s h (plain.Goes c z) Strays r = absurd r
  same_end fun s h (plain.Fails x) (Goes d t) r = absurd r
  same_end fun s h (plain.Fails x) (Skips y) r = absurd r
  same_end fun s h (plain.Fails x) Strays r = absurd r
  same_end fun s h (plain.Skips x) (Goes d t) r = absurd r
  same_end fun s h (plain.Skips x) (Fails y) r = absurd r
  same_end fun s h (plain.Skips x) Strays r = absurd r

  plain_fits : (h : List Record) (t : Ty) (v : Value) → holds_references t ≡ false → Fits h (base_of t) v
  plain_fits h t v e = go (base_of t) e
    where
      go : (c : Elem) → is_reference (ty.One c) ≡ false → Fits h c v
      go elem.Int i = tt
      go elem.Bit i = tt
      go (elem.Reference d) i = absurd (false≢true (sym i))

  no_references : (ds : List ParamDef) → list_any (λ (d : ParamDef). holds_references d.ty) ds ≡ false → (k : ℕ) (d : ParamDef) → slice_get ds k ≡ Some d → holds_references d.ty ≡ false
  no_references [] e k d i = cc
  no_references (x ∷ xs) e zero d i = let same : x ≡ d = cc in subst (λ (y : ParamDef). holds_references y.ty ≡ false) same (or_none (holds_references x.ty) (list_any (λ (d : ParamDef). holds_references d.ty) xs) e).0
  no_references (x ∷ xs) e (suc k) d i = no_references xs (or_none (holds_references x.ty) (list_any (λ (d : ParamDef). holds_references d.ty) xs) e).1 k d i

  not_true : (b : Bool) → not b ≡ true → b ≡ false
  not_true true e = absurd (false≢true e)
  not_true false e = refl

  unfold_plain : (f : FunId) (args : List Value) → run prog f args bounds ≡ plain_run.outcome_of (plain_run.calls prog bounds (filled_bodies prog bounds) most_calls [] nowhere f.index args plain_run.start)
  unfolding run
  unfold_plain f args = refl

  unfold_variants : (f : FunId) (args : List Value) → run_by_variants prog types f args bounds ≡ ending_of (calls types prog bounds most_calls [] nowhere f.index args start)
  unfolding run_by_variants
  unfold_variants f args = refl

  runs_alike : (f : FunId) (args : List Value) → ((fun : Fun) → slice_get prog.funs f.index ≡ Some fun → IsTrue (not (speaks_of_records fun.params fun.result))) → run_by_variants prog types f args bounds ≡ EndsAs (run prog f args bounds)
  runs_alike f args free = unfold_variants f args ∙ go (slice_get prog.funs f.index) refl ∙ sym (ap EndsAs (unfold_plain f args))
    where
      go : (o : Option Fun) → slice_get prog.funs f.index ≡ o → ending_of (calls types prog bounds most_calls [] nowhere f.index args start) ≡ EndsAs (plain_run.outcome_of (plain_run.calls prog bounds (filled_bodies prog bounds) most_calls [] nowhere f.index args plain_run.start))
      go None is =
          let r = absent_calls most_calls [] nowhere f.index args plain_run.start start is in
          ap ending_of r.1 ∙ sym (ap (λ m. EndsAs (plain_run.outcome_of m)) r.0)
      go (Some fun) is =
          let none = (or_none (list_any (λ (d : ParamDef). holds_references d.ty) fun.params) (any_references fun.result) (not_true (speaks_of_records fun.params fun.result) (free fun is))).0 in
          same_end fun plain_run.start [] _ _ (calls_alike most_calls [] nowhere f.index fun args plain_run.start [] is tt (λ k d e. plain_fits [] d.ty (slice_index_or args k blank) (no_references fun.params none k d e)))

pub tagged_runs : TaggedRunsKeepVariants
tagged_runs types prog f args bounds r = runs_alike types prog bounds r.typed r.tags r.tagged f args r.plain
