-- Each statement does the same on both sides.
use Rattle.std.proofs.Common.{◌≡◌, ℕ, zero, suc, pos, negsuc, List, [], ◌∷◌, ◌++◌, map, length, slice_get, Option, Some, None, Bool, true, false, inl, inr, refl, sym, ap, subst, ◌∙◌}
use Rattle.std.specs.Prelude.{◌||◌, ◌==◌, nat_le, if◌then◌else◌}
use Rattle.std.specs.List.{list_any}
use Rattle.std.proofs.lemmas.Bool.{false≢true, eq-eqb}
use Rattle.sk_base.specs.declared.span.Span.{Span}
use Rattle.sk_base.specs.declared.bounds.Bounds.{Bounds}
use Rattle.sk_base.specs.declared.name.Name.{Name}
use Rattle.sk_tree.specs.declared.expr.Expr.{Expr}
use Rattle.sk_tree.specs.declared.stmt.Stmt.{Stmt}
use Rattle.sk_tree.specs.declared.stmt.Form.{Form}
use Rattle.sk_prog.specs.declared.ty.Ty.{Ty}
use Rattle.sk_prog.specs.declared.value.Value.{Value}
use Rattle.sk_prog.specs.declared.value.Value.TheVariants as value
use Rattle.sk_prog.specs.declared.expr.PExpr.{PExpr}
use Rattle.sk_prog.specs.declared.expr.PEForm.TheOpen as P
use Rattle.sk_prog.specs.declared.expr.PEForm.TheVariants as eform
use Rattle.sk_prog.specs.declared.expr.PEForm.TheViews as V
use Rattle.sk_prog.specs.declared.stmt.PStmt.{PStmt}
use Rattle.sk_prog.specs.declared.stmt.PForm.{PForm}
use Rattle.sk_prog.specs.declared.stmt.PForm.TheVariants as form
use Rattle.sk_prog.specs.declared.stmt.PForm.TheOpen as S
use Rattle.sk_prog.specs.declared.stmt.PForm.TheViews as W
use Rattle.sk_prog.specs.declared.stmt.PForm.TheFolds.{map-PForm, fold-PForm}
use Rattle.sk_prog.specs.declared.prog.Prog.{Prog}
use Rattle.sk_types_rules.specs.declared.scope.Variable.{Variable}
use Rattle.sk_types_rules.specs.Rules.{base_of}
use Rattle.sk_types_rules.specs.Scope.{Known}
use Rattle.sk_types_rules.specs.Types.{FormRule, BlockMeans, AnyMeans, AnyAt, IsAt, IsTarget, ReturnMeans, Grows as Scopes, form_after, after, StmtMeans}
use Rattle.sk_types_rules.proofs.Layers.{ActMeans, act_rule, act_means_are, stmt_means_is}
use Rattle.sk_model.specs.Sites.{is_hole}
use Rattle.sk_model.specs.Step as plain
use Rattle.sk_model.specs.Values.{zero_of}
use Rattle.sk_model.specs.Heap.{Location, blank}
use Rattle.sk_model.specs.Heap as heap
use Rattle.sk_model.specs.Eval as eval
use Rattle.sk_model.specs.Exec.{Flow, Onward, Returns, pay}
use Rattle.sk_model.specs.Exec as exec
use Rattle.sk_model.proofs.Induction.{Each, StmtCases, stmt_ind}
use Rattle.sk_model.proofs.Layers.{expr_layer, stmt_layer}
use Rattle.sk_adt.specs.Words.{each}
use Rattle.sk_adt.specs.declared.algebraic.Algebraic.{Algebraic}
use Rattle.sk_adt_tags.specs.declared.role.Test.{Test}
use Rattle.sk_adt_tags.specs.Tags.{Part, Work, idle, both, all_of, condition, condition_breaks, first_branch, tests_within, tested, form_work, work}
use Rattle.sk_adt_records.specs.Steps.{Record, Step, Goes, Comp, and_then, pure, fail, lift}
use Rattle.sk_adt_records.specs.Heap.{write, store}
use Rattle.sk_adt_records.specs.Eval.{Calls, Does, choose, does_form}
use Rattle.sk_adt_records.specs.Exec.{unless_returned, one_by_one, turns, exec_form, exec_stmt}
use Rattle.sk_adt_record_laws.specs.Laws.{TagsAreIntegers}
use Rattle.sk_adt_record_laws.proofs.Places.{each_map, holds_zero}
use Rattle.sk_adt_record_laws.proofs.Related.{Grows, grows_same, IsOf, Fits, fits_by, with_heap, steps_map, Passed, Inv, After, Ends, ends_then, ends_at}
use Rattle.sk_adt_record_laws.proofs.Stores.{Rooted, rooted_grows, write_inv, store_ends}
use Rattle.sk_adt_record_laws.proofs.Fine.{base, Stands, Here, Fine, IsTest, TestEnds, context, parts, done, again, Meant}
use Rattle.sk_adt_record_laws.proofs.Forms.{none_of, each_or, choose_ends}
use Rattle.sk_adt_record_laws.proofs.Rows.{CallsAlike}
use Rattle.sk_adt_record_laws.proofs.Exprs.{fine}

-- Scopes

-- what is in scope stays where it is
abbrev pub Extends : List Variable → List Variable → Type 0
Extends a b = (k : ℕ) (x : Variable) → slice_get a k ≡ Some x → slice_get b k ≡ Some x

extends_last : (a : List Variable) (v : Variable) → Extends a (a ++ v ∷ [])
extends_last [] v k x e = cc
extends_last (y ∷ ys) v zero x e = e
extends_last (y ∷ ys) v (suc k) x e = extends_last ys v k x e

last_only : (a : List Variable) (v : Variable) (k : ℕ) (x : Variable) → slice_get (a ++ v ∷ []) k ≡ Some x → (k ≡ length a → ⊥) → slice_get a k ≡ Some x
last_only [] v zero x e f = absurd (f refl)
last_only [] v (suc k) x e f = cc
last_only (y ∷ ys) v zero x e f = e
last_only (y ∷ ys) v (suc k) x e f = last_only ys v k x e (λ i. f (ap suc i))

last_is : (a : List Variable) (v x : Variable) → slice_get (a ++ v ∷ []) (length a) ≡ Some x → v ≡ x
last_is [] v x e = cc
last_is (y ∷ ys) v x e = last_is ys v x e

stands_on : (a b : List Variable) → Extends a b → (us : List Test) → Each (Stands a) us → Each (Stands b) us
stands_on a b f us = each_map (Stands a) (Stands b) (λ u g. (g.0, f u.slot g.0 g.1, g.2)) us

-- the variables in scope after a flow
abbrev pub leaves : List Variable → List Variable → Flow → List Variable
leaves scope later Onward = later
leaves scope later (Returns v) = scope

-- what is returned fits the result
abbrev pub FlowFits : Option Ty → Flow → List Record → Type 0
FlowFits result Onward k = Unit {0}
FlowFits result (Returns None) k = Unit {0}
FlowFits result (Returns (Some v)) k = (r : Ty) → result ≡ Some r → Fits k (base_of r) v

tested_is : (c : Part) (a : Work) → tested c a ≡ both (condition c) (first_branch c.test a)
unfolding tested
tested_is c a = refl

module _ (types : List Algebraic) (prog : Prog) where
  pub inv_scope : (a b : List Variable) (us : List Test) (s : plain.State) (h : List Record) → Extends b a → Inv types prog a us s h → Inv types prog b us s h
  inv_scope a b us s h f i = record { alike = i.alike; fits = λ k x e. i.fits k x (f k x e); passed = i.passed }

  pub ends_scope : {A : Type 0} (sc sd : A → List Variable) (us : List Test) (from : List Record) (P : A → List Record → Type 0) (m : plain.Step A) (n : Step A) → ((a : A) → Extends (sd a) (sc a)) → Ends types prog sc us from P m n → Ends types prog sd us from P m n
  ends_scope sc sd us from P m n f = steps_map (λ a s h. After types prog (sc a) us from (P a) s h) (λ a s h. After types prog (sd a) us from (P a) s h) (λ a s h r. record { inv = inv_scope (sc a) (sd a) us s h (f a) r.inv; grows = r.grows; gives = r.gives }) m n

  -- without its last test
  ends_tests : {A : Type 0} (sc : A → List Variable) (u : Test) (us : List Test) (from : List Record) (P : A → List Record → Type 0) (m : plain.Step A) (n : Step A) → Ends types prog sc (u ∷ us) from P m n → Ends types prog sc us from P m n
  ends_tests sc u us from P m n = steps_map (λ a s h. After types prog (sc a) (u ∷ us) from (P a) s h) (λ a s h. After types prog (sc a) us from (P a) s h) (λ a s h r. record { inv = record { alike = r.inv.alike; fits = r.inv.fits; passed = r.inv.passed.1 }; grows = r.grows; gives = r.gives }) m n

  -- What a statement does on both sides, of what its layer does.
  pub record Doing (result : Option Ty) (w : Work) (d : plain.Comp Flow) (n : Comp Flow) (grow : List Variable → List Variable) (M : ℕ → List Variable → Form → Type 0) : Type 0 where
    pub extends : (from : ℕ) (scope : List Variable) (e : Form) → M from scope e → Extends scope (grow scope)
    pub runs : (from : ℕ) (scope : List Variable) (e : Form) (us : List Test) → M from scope e → Each (Stands scope) us → Each (λ (u : Test). w.touches u.slot ≡ false) us → w.breaks us ≡ [] → (s : plain.State) (h : List Record) → Inv types prog scope us s h → Ends types prog (leaves scope (grow scope)) us h (FlowFits result) (d s) (n (with_heap s h))

module _ (types : List Algebraic) (prog : Prog) (bounds : Bounds) (tags_are : TagsAreIntegers types prog) (known : List Known) (call : eval.Calls) (later : Calls) (calls : CallsAlike types prog call later) (result : Option Ty) where
  -- what an expression does in a run, and with records by their variants
  abbrev does_plainly : PExpr → eval.Does
  does_plainly = done types prog bounds known call later

  abbrev does_by_variant : PExpr → Does
  does_by_variant = again types prog bounds known call later

  abbrev as_part : PExpr → Part
  as_part = parts types prog bounds known call later

  abbrev good : (e : PExpr) → Fine types prog bounds e.ty (as_part e) (does_plainly e) (does_by_variant e) (Meant types prog bounds known call later e)
  good = fine types prog bounds tags_are known call later calls

  abbrev works : PStmt → Work
  works = work types prog

  abbrev acts : PStmt → plain.Comp Flow
  acts = exec.exec_stmt prog bounds call

  abbrev acts' : PStmt → Comp Flow
  acts' = exec_stmt types prog bounds later

  abbrev works_f : PForm → Work
  works_f = fold-PForm Work Work (form_work types prog) (λ s. s.form)

  abbrev acts_f : PForm → Span → plain.Comp Flow
  acts_f = fold-PForm (Span → plain.Comp Flow) (plain.Comp Flow) (exec.exec_form prog bounds call) (λ s. s.form s.span)

  abbrev acts_f' : PForm → Span → Comp Flow
  acts_f' = fold-PForm (Span → Comp Flow) (Comp Flow) (exec_form types prog bounds later) (λ s. s.form s.span)

  abbrev after_f : PForm → Scopes
  after_f = fold-PForm Scopes Scopes form_after (λ s. s.form)

  abbrev SLayer : Type 0
  SLayer = S.PForm-F PForm PStmt

  abbrev Meaning : PStmt → ℕ → List Variable → Stmt → Type 0
  Meaning = StmtMeans (context types prog bounds known call later) result

  abbrev Doing' : Work → plain.Comp Flow → Comp Flow → Scopes → (ℕ → List Variable → Form → Type 0) → Type 0
  Doing' = Doing types prog result

  abbrev pub Acts : PStmt → Type 0
  Acts s = Doing' (works s) (acts s) (acts' s) (after s) (λ from scope e. ActMeans (context types prog bounds known call later) result s.form from scope e)

  abbrev Laid : SLayer → Span → Type 0
  Laid x s = Doing'
      (form_work types prog (map-PForm PForm PStmt Work Work works_f works x))
      (exec.exec_form prog bounds call (map-PForm PForm PStmt (Span → plain.Comp Flow) (plain.Comp Flow) acts_f acts x) s)
      (exec_form types prog bounds later (map-PForm PForm PStmt (Span → Comp Flow) (Comp Flow) acts_f' acts' x) s)
      (form_after (map-PForm PForm PStmt Scopes Scopes after_f after x))
      (act_rule (context types prog bounds known call later) result x)

  built : (x : SLayer) (f : PForm) → W.roll-PForm x ≡ f → (s : Span) → Laid x s → Acts (record { span = s; form = f })
  built x f is s r =
      let p : PStmt = record { span = s; form = f } in
      let M : ℕ → List Variable → Form → Type 0 = act_rule (context types prog bounds known call later) result x in
      let w : Work = form_work types prog (map-PForm PForm PStmt Work Work works_f works x) in
      let d : plain.Comp Flow = exec.exec_form prog bounds call (map-PForm PForm PStmt (Span → plain.Comp Flow) (plain.Comp Flow) acts_f acts x) s in
      let n : Comp Flow = exec_form types prog bounds later (map-PForm PForm PStmt (Span → Comp Flow) (Comp Flow) acts_f' acts' x) s in
      let one = stmt_layer Work Work (form_work types prog) (λ s. s.form) x f is s in
      let two = stmt_layer (Span → plain.Comp Flow) (plain.Comp Flow) (exec.exec_form prog bounds call) (λ s. s.form s.span) x f is s in
      let three = stmt_layer (Span → Comp Flow) (Comp Flow) (exec_form types prog bounds later) (λ s. s.form s.span) x f is s in
      let four = stmt_layer Scopes Scopes form_after (λ s. s.form) x f is s in
      let means : ActMeans (context types prog bounds known call later) result f ≡ M = ap (ActMeans (context types prog bounds known call later) result) (sym is) ∙ act_means_are (context types prog bounds known call later) result x in
      subst (λ (m : FormRule). Doing' (works p) (acts p) (acts' p) (after p) (λ from scope e. m from scope e)) (sym means)
      (subst (λ q. Doing' q (acts p) (acts' p) (after p) M) (sym one)
      (subst (λ q. Doing' w q (acts' p) (after p) M) (sym two)
      (subst (λ q. Doing' w d q (after p) M) (sym three)
      (subst (λ q. Doing' w d n q M) (sym four) r))))

  -- a statement by its meaning
  meant : (s : PStmt) (from : ℕ) (scope : List Variable) (e : Stmt) → Meaning s from scope e → ActMeans (context types prog bounds known call later) result s.form from scope e.form
  meant s from scope e m = (subst (λ (R : ℕ → List Variable → Stmt → Type 0). R from scope e) (stmt_means_is (context types prog bounds known call later) result s) m).1

  act_extends : (s : PStmt) (from : ℕ) (scope : List Variable) (e : Stmt) → Acts s → Meaning s from scope e → Extends scope (after s scope)
  act_extends s from scope e q m = q.extends from scope e.form (meant s from scope e m)

  act_runs : (s : PStmt) (from : ℕ) (scope : List Variable) (e : Stmt) (us : List Test) → Acts s → Meaning s from scope e → Each (Stands scope) us → Each (λ (u : Test). (works s).touches u.slot ≡ false) us → (works s).breaks us ≡ [] → (z : plain.State) (h : List Record) → Inv types prog scope us z h → Ends types prog (leaves scope (after s scope)) us h (FlowFits result) (acts s z) (acts' s (with_heap z h))
  act_runs s from scope e us q m = q.runs from scope e.form us (meant s from scope e m)

  -- what holds where less is in scope
  back : (scope : List Variable) (us : List Test) (h : List Record) (m : plain.Step Flow) (n : Step Flow) (wide : List Variable) → Extends scope wide → Ends types prog (leaves scope wide) us h (FlowFits result) m n → Ends types prog (leaves scope scope) us h (FlowFits result) m n
  back scope us h m n wide x = ends_scope types prog (leaves scope wide) (leaves scope scope) us h (FlowFits result) m n at
    where
      at : (f : Flow) → Extends (leaves scope scope f) (leaves scope wide f)
      at Onward = x
      at (Returns v) = λ k y e. e

  narrower : (scope wide end : List Variable) (us : List Test) (h : List Record) (m : plain.Step Flow) (n : Step Flow) → Extends scope wide → Ends types prog (leaves wide end) us h (FlowFits result) m n → Ends types prog (leaves scope end) us h (FlowFits result) m n
  narrower scope wide end us h m n x = ends_scope types prog (leaves wide end) (leaves scope end) us h (FlowFits result) m n at
    where
      at : (f : Flow) → Extends (leaves scope end f) (leaves wide end f)
      at Onward = λ k y e. e
      at (Returns v) = x

  -- what is done unless a statement before has returned
  go_on : (scope wide end : List Variable) (us : List Test) (m : plain.Comp Flow) (n : Comp Flow) → Extends scope wide
      → ((z : plain.State) (h : List Record) → Inv types prog wide us z h → Ends types prog (leaves wide end) us h (FlowFits result) (m z) (n (with_heap z h)))
      → (f : Flow) (z : plain.State) (h : List Record) → Inv types prog (leaves scope wide f) us z h → FlowFits result f h → Ends types prog (leaves scope end) us h (FlowFits result) (exec.unless_returned m f z) (unless_returned n f (with_heap z h))
  go_on scope wide end us m n x r Onward z h i g = narrower scope wide end us h (m z) (n (with_heap z h)) x (r z h i)
  go_on scope wide end us m n x r (Returns v) z h i g = ends_at types prog (leaves scope end) us (FlowFits result) (Returns v) z h i g

  onward_ends : (scope later : List Variable) (us : List Test) (z : plain.State) (h : List Record) → Inv types prog later us z h → Ends types prog (leaves scope later) us h (FlowFits result) (plain.Goes Onward z) (Goes Onward (with_heap z h))
  onward_ends scope later us z h i = ends_at types prog (leaves scope later) us (FlowFits result) Onward z h i tt

  -- Blocks

  abbrev pub after_all : List PStmt → List Variable → List Variable
  after_all [] scope = scope
  after_all (s ∷ ss) scope = after_all ss (after s scope)

  record Standing (ws : List Work) (scope : List Variable) (us : List Test) : Type 0 where
    stands : Each (Stands scope) us
    keeps : Each (λ (u : Test). list_any (λ (w : Work). w.touches u.slot) ws ≡ false) us
    breaks : each (map (λ (w : Work). w.breaks us) ws) ≡ []

  block_extends : (ss : List PStmt) (from : ℕ) (scope : List Variable) (es : List Stmt) → Each Acts ss → BlockMeans (λ y. y) Meaning from scope ss es → Extends scope (after_all ss scope)
  block_extends [] from scope [] q m k x e = e
  block_extends [] from scope (y ∷ ys) q m k x e = absurd m
  block_extends (s ∷ ss) from scope [] q m k x e = absurd m
  block_extends (s ∷ ss) from scope (y ∷ ys) q m k x e = block_extends ss from (after s scope) ys q.1 m.1 k x (act_extends s from scope y q.0 m.0 k x e)

  block_ends : (ss : List PStmt) (from : ℕ) (scope : List Variable) (es : List Stmt) (us : List Test) → Each Acts ss → BlockMeans (λ y. y) Meaning from scope ss es → Standing (map works ss) scope us → (z : plain.State) (h : List Record) → Inv types prog scope us z h
      → Ends types prog (leaves scope (after_all ss scope)) us h (FlowFits result) (exec.one_by_one (map acts ss) z) (one_by_one (map acts' ss) (with_heap z h))
  block_ends [] from scope [] us q m w z h i = onward_ends scope scope us z h i
  block_ends [] from scope (y ∷ ys) us q m w z h i = absurd m
  block_ends (s ∷ ss) from scope [] us q m w z h i = absurd m
  block_ends (s ∷ ss) from scope (y ∷ ys) us q m w z h i =
      let wide : List Variable = after s scope in
      let x = act_extends s from scope y q.0 m.0 in
      let keeps = each_or (λ (u : Test). (works s).touches u.slot) (λ (u : Test). list_any (λ (w : Work). w.touches u.slot) (map works ss)) us w.keeps in
      let breaks = none_of ((works s).breaks us) (each (map (λ (w : Work). w.breaks us) (map works ss))) w.breaks in
      ends_then types prog (leaves scope wide) (leaves scope (after_all ss wide)) us h (FlowFits result) (FlowFits result) _ _ (exec.unless_returned (exec.one_by_one (map acts ss))) (unless_returned (one_by_one (map acts' ss)))
      (act_runs s from scope y us q.0 m.0 w.stands keeps.0 breaks.0 z h i)
      (λ f a b j g p. go_on scope wide (after_all ss wide) us (exec.one_by_one (map acts ss)) (one_by_one (map acts' ss)) x
      (λ c d k. block_ends ss from wide ys us q.1 m.1 (record { stands = stands_on scope wide x us w.stands; keeps = keeps.1; breaks = breaks.1 }) c d k) f a b j p)

  block_back : (ss : List PStmt) (from : ℕ) (scope : List Variable) (es : List Stmt) (us : List Test) → Each Acts ss → BlockMeans (λ y. y) Meaning from scope ss es → Standing (map works ss) scope us → (z : plain.State) (h : List Record) → Inv types prog scope us z h
      → Ends types prog (leaves scope scope) us h (FlowFits result) (exec.one_by_one (map acts ss) z) (one_by_one (map acts' ss) (with_heap z h))
  block_back ss from scope es us q m w z h i = back scope us h _ _ (after_all ss scope) (block_extends ss from scope es q m) (block_ends ss from scope es us q m w z h i)

  case_block : (s : Span) (ss : List PStmt) → Each Acts ss → Acts (record { span = s; form = form.Block ss })
  case_block s ss q = built (S.Block ss) (form.Block ss) (W.rolls-Block ss) s (record {
    extends = λ from scope e m k x i. i;
    runs = λ from scope e us m stands keeps breaks. block_back ss (length scope) scope m.0 us q m.2 (record { stands = stands; keeps = keeps; breaks = breaks });
  })

  case_minrepeat : (s : Span) (ss : List PStmt) → Each Acts ss → Acts (record { span = s; form = form.MinRepeat ss })
  case_minrepeat s ss q = built (S.MinRepeat ss) (form.MinRepeat ss) (W.rolls-MinRepeat ss) s (record {
    extends = λ from scope e m k x i. i;
    runs = λ from scope e us m stands keeps breaks z h i. refl;
  })

  either_ends : (b : Bool) (s : Span) (scope : List Variable) (us : List Test) (m : plain.Comp Flow) (n : Comp Flow) (z : plain.State) (h : List Record) → Ends types prog (leaves scope scope) us h (FlowFits result) (m z) (n (with_heap z h)) → Ends types prog (leaves scope scope) us h (FlowFits result) ((if b then m else plain.fail s) z) ((if b then n else fail s) (with_heap z h))
  either_ends true s scope us m n z h r = r
  either_ends false s scope us m n z h r = refl

  fail_or : (b : Bool) (s : Span) (scope : List Variable) (us : List Test) (m : plain.Comp Flow) (n : Comp Flow) (z : plain.State) (h : List Record) → Ends types prog (leaves scope scope) us h (FlowFits result) (m z) (n (with_heap z h)) → Ends types prog (leaves scope scope) us h (FlowFits result) ((if b then plain.fail s else m) z) ((if b then fail s else n) (with_heap z h))
  fail_or true s scope us m n z h r = refl
  fail_or false s scope us m n z h r = r

  mapped_length : {A B : Type 0} (f : A → B) (xs : List A) → length (map f xs) ≡ length xs
  mapped_length f [] = refl
  mapped_length f (x ∷ xs) = ap suc (mapped_length f xs)

  case_reorder : (s : Span) (ss : List PStmt) → Each Acts ss → Acts (record { span = s; form = form.Reorder ss })
  case_reorder s ss q = built (S.Reorder ss) (form.Reorder ss) (W.rolls-Reorder ss) s (record {
    extends = λ from scope e m k x i. i;
    runs = λ from scope e us m stands keeps breaks z h i.
        let same : length (map acts' ss) ≡ length (map acts ss) = mapped_length acts' ss ∙ sym (mapped_length acts ss) in
        subst (λ k. Ends types prog (leaves scope scope) us h (FlowFits result) ((if nat_le (length (map acts ss)) 1 then exec.one_by_one (map acts ss) else plain.fail s) z) ((if nat_le k 1 then one_by_one (map acts' ss) else fail s) (with_heap z h))) (sym same)
        (either_ends (nat_le (length (map acts ss)) 1) s scope us (exec.one_by_one (map acts ss)) (one_by_one (map acts' ss)) z h (block_back ss (length scope) scope m.0 us q m.3 (record { stands = stands; keeps = keeps; breaks = breaks }) z h i));
  })

  case_repeat : (s : Span) (c : PExpr) (ss : List PStmt) → Each Acts ss → Acts (record { span = s; form = form.Repeat c ss })
  case_repeat s c [] q = built (S.Repeat c []) (form.Repeat c []) (W.rolls-Repeat c []) s (record {
    extends = λ from scope e m k x i. i;
    runs = λ from scope e us m stands keeps breaks z h i. absurd m.4;
  })
  case_repeat s c (p ∷ o ∷ ss) q = built (S.Repeat c (p ∷ o ∷ ss)) (form.Repeat c (p ∷ o ∷ ss)) (W.rolls-Repeat c (p ∷ o ∷ ss)) s (record {
    extends = λ from scope e m k x i. i;
    runs = λ from scope e us m stands keeps breaks z h i. absurd m.4;
  })
  case_repeat s c (p ∷ []) q = built (S.Repeat c (p ∷ [])) (form.Repeat c (p ∷ [])) (W.rolls-Repeat c (p ∷ [])) s (record {
    extends = λ from scope e m k x i. i;
    runs = λ from scope e us m stands keeps breaks z h i.
        let k = each_or (λ (u : Test). (as_part c).passes u.slot) (λ (u : Test). list_any (λ (w : Work). w.touches u.slot) (works p ∷ [])) us keeps in
        let b = none_of ((as_part c).breaks us) (each (map (λ (w : Work). w.breaks us) (works p ∷ []))) breaks in
        fail_or (is_hole c.form) s scope us (exec.one_by_one (acts p ∷ [])) (one_by_one (acts' p ∷ [])) z h (block_back (p ∷ []) from scope (m.1 ∷ []) us q (m.4, tt) (record { stands = stands; keeps = k.1; breaks = b.1 }) z h i);
  })

  -- Statements of one expression

  abbrev Stands' : List Variable → List Test → Type 0
  Stands' scope us = Each (Stands scope) us

  abbrev MeansHere : List Variable → PExpr → Expr → Type 0
  MeansHere scope e x = Meant types prog bounds known call later e scope x

  expr_here : (p : PExpr) (scope : List Variable) (us : List Test) (x : Expr) → MeansHere scope p x → Stands' scope us → Each (λ (u : Test). (as_part p).passes u.slot ≡ false) us → (as_part p).breaks us ≡ [] → Here (as_part p) (Meant types prog bounds known call later p) scope us
  expr_here p scope us x m stands keeps breaks = record { tree = x; means = m; stands = stands; passes = keeps; keeps = breaks }

  -- a value, and then what is done with it
  value_then : (p : PExpr) (s : Span) (scope later' : List Variable) (us : List Test) (z : plain.State) (h : List Record) (k : Value → plain.Comp Flow) (l : Value → Comp Flow) → Here (as_part p) (Meant types prog bounds known call later p) scope us → Inv types prog scope us z h
      → ((v : Value) (a : plain.State) (b : List Record) → Inv types prog scope us a b → Grows h b → Fits b (base p.ty) v → Ends types prog (leaves scope later') us b (FlowFits result) (k v a) (l v (with_heap a b)))
      → Ends types prog (leaves scope later') us h (FlowFits result) (plain.and_then ((does_plainly p).value s z) k) (and_then ((does_by_variant p).value s (with_heap z h)) l)
  value_then p s scope later' us z h k l w i f = ends_then types prog (λ (v : Value). scope) (leaves scope later') us h (λ v b. Fits b (base p.ty) v) (FlowFits result) _ _ k l ((good p).runs scope us w s z h i) f

  case_call : (s : Span) (p : PExpr) → Acts (record { span = s; form = form.Call p })
  case_call s p = built (S.Call p) (form.Call p) (W.rolls-Call p) s (record {
    extends = λ from scope e m k x i. i;
    runs = λ from scope e us m stands keeps breaks z h i. value_then p s scope scope us z h _ _ (expr_here p scope us m.0 m.3 stands keeps breaks) i (λ v a b j g f. onward_ends scope scope us a b j);
  })

  case_assert : (s : Span) (p : PExpr) → Acts (record { span = s; form = form.Assert p })
  case_assert s p = built (S.Assert p) (form.Assert p) (W.rolls-Assert p) s (record {
    extends = λ from scope e m k x i. i;
    runs = λ from scope e us m stands keeps breaks z h i. value_then p s scope scope us z h _ _ (expr_here p scope us m.0 m.2.means stands keeps breaks) i (λ v a b j g f. choose_ends types prog bounds (leaves scope scope) us b (FlowFits result) s v a b _ _ _ _ (onward_ends scope scope us a b j) refl);
  })

  case_assume : (s : Span) (p : PExpr) → Acts (record { span = s; form = form.Assume p })
  case_assume s p = built (S.Assume p) (form.Assume p) (W.rolls-Assume p) s (record {
    extends = λ from scope e m k x i. i;
    runs = λ from scope e us m stands keeps breaks z h i. value_then p s scope scope us z h _ _ (expr_here p scope us m.0 m.2.means stands keeps breaks) i (λ v a b j g f. choose_ends types prog bounds (leaves scope scope) us b (FlowFits result) s v a b _ _ _ _ (onward_ends scope scope us a b j) refl);
  })

  pay_ends : (s : Span) (scope : List Variable) (us : List Test) (v : Value) (z : plain.State) (h : List Record) → Inv types prog scope us z h → Ends types prog (leaves scope scope) us h (FlowFits result) (pay s v z) (lift (pay s v) (with_heap z h))
  pay_ends s scope us (value.Int (pos n)) z h i = (refl, refl, record { inv = record { alike = i.alike; fits = i.fits; passed = i.passed }; grows = grows_same h; gives = tt })
  pay_ends s scope us (value.Int (negsuc n)) z h i = refl
  pay_ends s scope us (value.Bit b) z h i = refl
  pay_ends s scope us value.Null z h i = refl
  pay_ends s scope us (value.Place p) z h i = refl
  pay_ends s scope us (value.Array' shape vs) z h i = refl

  case_minimize : (s : Span) (p : PExpr) → Acts (record { span = s; form = form.Minimize p })
  case_minimize s p = built (S.Minimize p) (form.Minimize p) (W.rolls-Minimize p) s (record {
    extends = λ from scope e m k x i. i;
    runs = λ from scope e us m stands keeps breaks z h i. value_then p s scope scope us z h _ _ (expr_here p scope us m.0 m.2.means stands keeps breaks) i (λ v a b j g f. pay_ends s scope us v a b j);
  })

  record Returned (scope : List Variable) (r : Option Ty) (p : PExpr) : Type 0 where
    type : Ty
    tree : Expr
    is : r ≡ Some type
    means : IsAt (context types prog bounds known call later) scope type p tree

  returned : (scope : List Variable) (r : Option Ty) (p : PExpr) (x : Option Expr) → ReturnMeans (context types prog bounds known call later) result scope r (Some p) x → Returned scope r p
  returned scope None p x m = absurd m
  returned scope (Some t) p None m = absurd m
  returned scope (Some t) p (Some y) m = record { type = t; tree = y; is = refl; means = m }

  case_return : (s : Span) (o : Option PExpr) → Acts (record { span = s; form = form.Return o })
  case_return s None = built (S.Return None) (form.Return None) (W.rolls-Return None) s (record {
    extends = λ from scope e m k x i. i;
    runs = λ from scope e us m stands keeps breaks z h i. ends_at types prog (leaves scope scope) us (FlowFits result) (Returns None) z h i tt;
  })
  case_return s (Some p) = built (S.Return (Some p)) (form.Return (Some p)) (W.rolls-Return (Some p)) s (record {
    extends = λ from scope e m k x i. i;
    runs = λ from scope e us m stands keeps breaks z h i.
        let y = returned scope result p m.0 m.2 in
        value_then p s scope scope us z h _ _ (expr_here p scope us y.tree y.means.means stands keeps breaks) i (λ v a b j g f. ends_at types prog (leaves scope scope) us (FlowFits result) (Returns (Some v)) a b j (λ r e. fits y.type r v b (sym y.is ∙ e) (subst (λ o. Fits b (base o) v) y.means.type f)));
  })
    where
      fits : (t r : Ty) (v : Value) (b : List Record) → Some t ≡ Some r → Fits b (base_of t) v → Fits b (base_of r) v
      fits t r v b e f = let same : t ≡ r = cc in subst (λ o. Fits b (base_of o) v) same f

  -- Declarations

  not_slot : (x y : ℕ) → (x == y) ≡ false → x ≡ y → ⊥
  not_slot x y e i = false≢true (sym e ∙ eq-eqb x y i)

  declared : (scope : List Variable) (us : List Test) (slot : ℕ) (x : Name) (t : Ty) (v : Value) (z : plain.State) (h : List Record) → slot ≡ length scope → Each (λ (u : Test). (u.slot == slot) ≡ false) us → Fits h (base_of t) v → Inv types prog scope us z h → Inv types prog (scope ++ record { name = x; ty = t } ∷ []) us (record z { slots = heap.written z.slots slot v }) h
  declared scope us slot x t v z h next keeps fit i =
      let new : Variable = record { name = x; ty = t } in
      write_inv types prog scope (scope ++ new ∷ []) us z h slot v
      (λ k y e other. last_only scope new k y e (λ same. other (same ∙ sym next)))
      (λ y e. subst (λ (w : Variable). Fits h (base_of w.ty) v) (last_is scope new y (ap (slice_get (scope ++ new ∷ [])) (sym next) ∙ e)) fit)
      (each_map (λ (u : Test). (u.slot == slot) ≡ false) (λ (u : Test). u.slot ≡ slot → ⊥) (λ u. not_slot u.slot slot) us keeps) i

  case_declare : (s : Span) (slot : ℕ) (x : Name) (t : Ty) (o : Option PExpr) → Acts (record { span = s; form = form.Declare slot x t o })
  case_declare s slot x t None = built (S.Declare slot x t None) (form.Declare slot x t None) (W.rolls-Declare slot x t None) s (record {
    extends = λ from scope e m. extends_last scope (record { name = x; ty = t });
    runs = λ from scope e us m stands keeps breaks z h i.
        let split = each_or (λ (u : Test). u.slot == slot) (λ (u : Test). false) us keeps in
        (refl, refl, record { inv = declared scope us slot x t (zero_of t) z h m.3.next split.0 (fits_by h (base_of t) (zero_of t) (λ d. holds_zero (IsOf h d) t)) i; grows = grows_same h; gives = tt });
  })
  case_declare s slot x t (Some p) = built (S.Declare slot x t (Some p)) (form.Declare slot x t (Some p)) (W.rolls-Declare slot x t (Some p)) s (record {
    extends = λ from scope e m. extends_last scope (record { name = x; ty = t });
    runs = λ from scope e us m stands keeps breaks z h i.
        let split = each_or (λ (u : Test). u.slot == slot) (λ (u : Test). (as_part p).passes u.slot) us keeps in
        let wide : List Variable = scope ++ record { name = x; ty = t } ∷ [] in
        let y = valued scope t p m.1.value m.3.value in
        ends_then types prog (λ (u : Unit {0}). wide) (leaves scope wide) us h (λ u k. Unit {0}) (FlowFits result) _ _ _ _
        (ends_then types prog (λ (v : Value). scope) (λ (u : Unit {0}). wide) us h (λ v k. Fits k (base p.ty) v) (λ u k. Unit {0}) _ _ (heap.write slot) (write slot) ((good p).runs scope us (expr_here p scope us y.0 y.1.means stands split.1 breaks) s z h i)
        (λ v a b j g f. (refl, refl, record { inv = declared scope us slot x t v a b m.3.next split.0 (subst (λ o. Fits b (base o) v) y.1.type f) j; grows = grows_same b; gives = tt })))
        (λ u a b j g f. onward_ends scope wide us a b j);
  })
    where
      valued : (scope : List Variable) (t : Ty) (p : PExpr) (d : Option Expr) → AnyAt (context types prog bounds known call later) scope t (Some p) d → (y : Expr) × IsAt (context types prog bounds known call later) scope t p y
      valued scope t p None m = absurd m
      valued scope t p (Some y) m = (y, m)

  -- Assignments

  pattern_aims : (s : Span) (span : Span) (t : Option Ty) (es : List PExpr) → ((does_plainly (record { span = span; ty = t; form = eform.Pattern es })).target s ≡ plain.fail s) × ((does_by_variant (record { span = span; ty = t; form = eform.Pattern es })).target s ≡ fail s)
  pattern_aims s span t es = (
    ap (λ (d : eval.Does). d.target s) (expr_layer (Option Ty → eval.Does) eval.Does (ℕ × eval.Does) (eval.does_form prog bounds.int_bits call) (λ x. x.form x.ty) (λ x. (x.field, x.value)) (P.Pattern es) (eform.Pattern es) (V.rolls-Pattern es) span t),
    ap (λ (d : Does). d.target s) (expr_layer (Option Ty → Does) Does (ℕ × Does) (does_form types prog bounds.int_bits later) (λ x. x.form x.ty) (λ x. (x.field, x.value)) (P.Pattern es) (eform.Pattern es) (V.rolls-Pattern es) span t),
  )

  abbrev Stored : Span → PExpr → PExpr → List Variable → List Test → plain.State → List Record → Type 0
  Stored s p q scope us z h = Ends types prog (λ (u : Unit {0}). scope) us h (λ u k. Unit {0}) (plain.and_then ((does_plainly p).target s z) (λ l a. plain.and_then ((does_plainly q).value s a) (heap.store s l))) (and_then ((does_by_variant p).target s (with_heap z h)) (λ l a. and_then ((does_by_variant q).value s a) (store s l)))

  case_assign : (s : Span) (p q : PExpr) → Acts (record { span = s; form = form.Assign p q })
  case_assign s p q = built (S.Assign p q) (form.Assign p q) (W.rolls-Assign p q) s (record {
    extends = λ from scope e m k x i. i;
    runs = λ from scope e us m stands keeps breaks z h i.
        let k = each_or (λ (u : Test). (as_part p).may_be u.slot) (λ (u : Test). (as_part p).passes u.slot || (as_part q).passes u.slot) us keeps in
        let c = each_or (λ (u : Test). (as_part p).passes u.slot) (λ (u : Test). (as_part q).passes u.slot) us k.1 in
        let b = none_of ((as_part p).breaks us) ((as_part q).breaks us) breaks in
        ends_then types prog (λ (u : Unit {0}). scope) (leaves scope scope) us h (λ u k. Unit {0}) (FlowFits result) _ _ _ _
        (to_target scope us stands k.0 c.0 c.1 b.0 b.1 m.3 m.0 m.1 z h i m.4.value m.4.target)
        (λ u a b j g f. onward_ends scope scope us a b j);
  })
    where
      to_target : (scope : List Variable) (us : List Test) → Stands' scope us → Each (λ (u : Test). (as_part p).may_be u.slot ≡ false) us → Each (λ (u : Test). (as_part p).passes u.slot ≡ false) us → Each (λ (u : Test). (as_part q).passes u.slot ≡ false) us → (as_part p).breaks us ≡ [] → (as_part q).breaks us ≡ [] → (t : Ty) (x y : Expr) (z : plain.State) (h : List Record) → Inv types prog scope us z h → IsAt (context types prog bounds known call later) scope t q y → IsTarget (context types prog bounds known call later) scope t p x → Stored s p q scope us z h
      to_target scope us stands free keeps_p keeps_q breaks_p breaks_q t x y z h i value (inl place) =
          ends_then types prog (λ (l : Location). scope) (λ (u : Unit {0}). scope) us h (λ l k. Rooted types prog scope us (base p.ty) k l.root) (λ u k. Unit {0}) _ _ _ _ ((good p).aims scope us (expr_here p scope us x place.is_at.means stands keeps_p breaks_p) (inl free) s z h i)
          (λ l a b j g r. ends_then types prog (λ (v : Value). scope) (λ (u : Unit {0}). scope) us b (λ v k. Fits k (base q.ty) v) (λ u k. Unit {0}) _ _ (heap.store s l) (store s l) ((good q).runs scope us (expr_here q scope us y value.means stands keeps_q breaks_q) s a b j)
          (λ v c d o g' f. store_ends types prog scope us s c d o l v (base p.ty) (rooted_grows types prog scope us (base p.ty) b d l.root g' r) (subst (λ e. Fits d (base e) v) (value.type ∙ sym place.is_at.type) f)))
      to_target scope us stands free keeps_p keeps_q breaks_p breaks_q t x y z h i value (inr pattern) =
          subst (λ (o : PExpr). Stored s o q scope us z h) (sym pattern.made)
          (let two = pattern_aims s x.span (Some t) pattern.parts in
          subst (λ (c : plain.Comp Location). Ends types prog (λ (u : Unit {0}). scope) us h (λ u k. Unit {0}) (plain.and_then (c z) (λ l a. plain.and_then ((does_plainly q).value s a) (heap.store s l))) (and_then ((does_by_variant (record { span = x.span; ty = Some t; form = eform.Pattern pattern.parts })).target s (with_heap z h)) (λ l a. and_then ((does_by_variant q).value s a) (store s l)))) (sym two.0)
          (subst (λ (c : Comp Location). Ends types prog (λ (u : Unit {0}). scope) us h (λ u k. Unit {0}) (plain.Fails s) (and_then (c (with_heap z h)) (λ l a. and_then ((does_by_variant q).value s a) (store s l)))) (sym two.1) refl))

  -- Branches

  abbrev Flows : List Variable → List Test → plain.Comp Flow → Comp Flow → Type 0
  Flows scope us m n = (z : plain.State) (h : List Record) → Inv types prog scope us z h → Ends types prog (leaves scope scope) us h (FlowFits result) (m z) (n (with_heap z h))

  -- the first branch, wherever it stands
  abbrev First : List Variable → Work → plain.Comp Flow → Comp Flow → Type 0
  First scope w m n = (us : List Test) → Stands' scope us → Each (λ (u : Test). w.touches u.slot ≡ false) us → w.breaks us ≡ [] → Flows scope us m n

  record Branching (c : PExpr) (w : Work) (scope : List Variable) (us : List Test) : Type 0 where
    tree : Expr
    means : MeansHere scope c tree
    stands : Stands' scope us
    passes : Each (λ (u : Test). (as_part c).passes u.slot ≡ false) us
    keeps : Each (λ (u : Test). w.touches u.slot ≡ false) us
    breaks : condition_breaks (as_part c).test (as_part c) us ≡ []
    inner : w.breaks (tests_within (as_part c).test w us) ≡ []

  abbrev Chosen : Span → PExpr → List Variable → List Test → plain.Comp Flow → Comp Flow → plain.Comp Flow → Comp Flow → plain.State → List Record → Type 0
  Chosen s c scope us m n m' n' z h = Ends types prog (leaves scope scope) us h (FlowFits result) (plain.and_then ((does_plainly c).value s z) (eval.choose s m m')) (and_then ((does_by_variant c).value s (with_heap z h)) (choose s n n'))

  branch_ends : (s : Span) (c : PExpr) (w : Work) (scope : List Variable) (us : List Test) (m : plain.Comp Flow) (n : Comp Flow) (m' : plain.Comp Flow) (n' : Comp Flow) → Branching c w scope us → First scope w m n → Flows scope us m' n' → (z : plain.State) (h : List Record) → Inv types prog scope us z h → Chosen s c scope us m n m' n' z h
  branch_ends s c w scope us m n m' n' g first second z h i = go (as_part c).test refl g.breaks g.inner
    where
      within : (u : Test) (b : Bool) → w.touches u.slot ≡ b → w.breaks (if b then us else u ∷ us) ≡ [] → Stands scope u → Passed h z.slots u → Ends types prog (leaves scope scope) us h (FlowFits result) (m z) (n (with_heap z h))
      within u true e k st p = first us g.stands g.keeps k z h i
      within u false e k st p = ends_tests types prog (leaves scope scope) u us h (FlowFits result) (m z) (n (with_heap z h)) (first (u ∷ us) (st, g.stands) (e, g.keeps) k z h (record { alike = i.alike; fits = i.fits; passed = (p, i.passed) }))

      decided : (u : Test) (b : Bool) → (b ≡ true → Passed h z.slots u) → Stands scope u → w.breaks (if w.touches u.slot then us else u ∷ us) ≡ [] → Ends types prog (leaves scope scope) us h (FlowFits result) (eval.choose s m m' (value.Bit b) z) (choose s n n' (value.Bit b) (with_heap z h))
      decided u true p st k = within u (w.touches u.slot) refl k st (p refl)
      decided u false p st k = second z h i

      asked : (u : Test) → IsTest types prog bounds (does_plainly c) (does_by_variant c) (Meant types prog bounds known call later c) u → w.breaks (if w.touches u.slot then us else u ∷ us) ≡ [] → TestEnds u s z h ((does_plainly c).value s z) ((does_by_variant c).value s (with_heap z h)) → Chosen s c scope us m n m' n' z h
      asked u t k (inl r) =
          subst (λ o. Ends types prog (leaves scope scope) us h (FlowFits result) (plain.and_then o (eval.choose s m m')) (and_then ((does_by_variant c).value s (with_heap z h)) (choose s n n'))) (sym r.1)
          (subst (λ o. Ends types prog (leaves scope scope) us h (FlowFits result) (eval.choose s m m' (value.Bit r.0) z) (and_then o (choose s n n'))) (sym r.2) (decided u r.0 r.3 (t.stands scope g.tree g.means) k))
      asked u t k (inr r) =
          subst (λ o. Ends types prog (leaves scope scope) us h (FlowFits result) (plain.and_then o (eval.choose s m m')) (and_then ((does_by_variant c).value s (with_heap z h)) (choose s n n'))) (sym r.0)
          (subst (λ o. Ends types prog (leaves scope scope) us h (FlowFits result) (plain.Fails s) (and_then o (choose s n n'))) (sym r.1) refl)

      go : (o : Option Test) → (as_part c).test ≡ o → condition_breaks o (as_part c) us ≡ [] → w.breaks (tests_within o w us) ≡ [] → Chosen s c scope us m n m' n' z h
      go None e b k = value_then c s scope scope us z h _ _ (expr_here c scope us g.tree g.means g.stands g.passes b) i (λ v a d j x f. choose_ends types prog bounds (leaves scope scope) us d (FlowFits result) s v a d m m' n n' (first us g.stands g.keeps k a d j) (second a d j))
      go (Some u) e b k = let t = (good c).tested u e in asked u t k (t.ends scope g.tree us g.means s z h i)

  first_of : (a : PStmt) (from : ℕ) (scope : List Variable) (y : Stmt) → Acts a → Meaning a from scope y → First scope (works a) (acts a) (acts' a)
  first_of a from scope y q m us stands keeps breaks z h i = back scope us h _ _ (after a scope) (act_extends a from scope y q m) (act_runs a from scope y us q m stands keeps breaks z h i)

  branching : (c : PExpr) (a : PStmt) (w : Work) (scope : List Variable) (us : List Test) (x : Expr) → MeansHere scope c x → Stands' scope us → Each (λ (u : Test). (both (tested (as_part c) (works a)) w).touches u.slot ≡ false) us → (both (tested (as_part c) (works a)) w).breaks us ≡ [] → Branching c (works a) scope us × Each (λ (u : Test). w.touches u.slot ≡ false) us × (w.breaks us ≡ [])
  branching c a w scope us x m stands keeps breaks =
      let k0 = subst (λ (t : Work). Each (λ (u : Test). (both t w).touches u.slot ≡ false) us) (tested_is (as_part c) (works a)) keeps in
      let b0 = subst (λ (t : Work). (both t w).breaks us ≡ []) (tested_is (as_part c) (works a)) breaks in
      let k1 = each_or (λ (u : Test). (as_part c).passes u.slot || (works a).touches u.slot) (λ (u : Test). w.touches u.slot) us k0 in
      let k2 = each_or (λ (u : Test). (as_part c).passes u.slot) (λ (u : Test). (works a).touches u.slot) us k1.0 in
      let b1 = none_of (condition_breaks (as_part c).test (as_part c) us ++ (works a).breaks (tests_within (as_part c).test (works a) us)) (w.breaks us) b0 in
      let b2 = none_of (condition_breaks (as_part c).test (as_part c) us) ((works a).breaks (tests_within (as_part c).test (works a) us)) b1.0 in
      (record { tree = x; means = m; stands = stands; passes = k2.0; keeps = k2.1; breaks = b2.0; inner = b2.1 }, k1.1, b1.1)

  case_if : (s : Span) (c : PExpr) (a : PStmt) → Acts a → Acts (record { span = s; form = form.If c a None })
  case_if s c a q = built (S.If c a None) (form.If c a None) (W.rolls-If c a None) s (record {
    extends = λ from scope e m k x i. i;
    runs = λ from scope e us m stands keeps breaks z h i.
        let g = branching c a idle scope us m.0 m.4.means stands keeps breaks in
        branch_ends s c (works a) scope us (acts a) (acts' a) (plain.pure Onward) (pure Onward) g.0 (first_of a from scope m.1 q m.5) (λ b d j. onward_ends scope scope us b d j) z h i;
  })

  case_if_else : (s : Span) (c : PExpr) (a b : PStmt) → Acts a → Acts b → Acts (record { span = s; form = form.If c a (Some b) })
  case_if_else s c a b q r = built (S.If c a (Some b)) (form.If c a (Some b)) (W.rolls-If c a (Some b)) s (record {
    extends = λ from scope e m k x i. i;
    runs = λ from scope e us m stands keeps breaks z h i.
        let g = branching c a (works b) scope us m.0 m.4.means stands keeps breaks in
        branch_ends s c (works a) scope us (acts a) (acts' a) (acts b) (acts' b) g.0 (first_of a from scope m.1 q m.5) (other from scope m.2 m.6 us stands g.1 g.2) z h i;
  })
    where
      other : (from : ℕ) (scope : List Variable) (y : Option Stmt) → AnyMeans Meaning from scope (Some b) y → (us : List Test) → Stands' scope us → Each (λ (u : Test). (works b).touches u.slot ≡ false) us → (works b).breaks us ≡ [] → Flows scope us (acts b) (acts' b)
      other from scope None m = absurd m
      other from scope (Some y) m = first_of b from scope y r m

  -- Loops

  turns_end : (left : ℕ) (s : Span) (c : PExpr) (scope : List Variable) (us : List Test) (m : plain.Comp Flow) (n : Comp Flow) → Here (as_part c) (Meant types prog bounds known call later c) scope us → Flows scope us m n → Flows scope us (exec.turns left s (does_plainly c) m) (turns left s (does_by_variant c) n)
  turns_end zero s c scope us m n w f z h i = value_then c s scope scope us z h _ _ w i (λ v a b j g x. choose_ends types prog bounds (leaves scope scope) us b (FlowFits result) s v a b _ _ _ _ refl (onward_ends scope scope us a b j))
  turns_end (suc left) s c scope us m n w f z h i = value_then c s scope scope us z h _ _ w i (λ v a b j g x. choose_ends types prog bounds (leaves scope scope) us b (FlowFits result) s v a b _ _ _ _
      (ends_then types prog (leaves scope scope) (leaves scope scope) us b (FlowFits result) (FlowFits result) _ _ (exec.unless_returned (exec.turns left s (does_plainly c) m)) (unless_returned (turns left s (does_by_variant c) n)) (f a b j)
      (λ o d k l y p. go_on scope scope scope us (exec.turns left s (does_plainly c) m) (turns left s (does_by_variant c) n) (λ k x i. i) (turns_end left s c scope us m n w f) o d k l p))
      (onward_ends scope scope us a b j))

  case_while : (s : Span) (c : PExpr) (a : PStmt) → Acts a → Acts (record { span = s; form = form.While c a })
  case_while s c a q = built (S.While c a) (form.While c a) (W.rolls-While c a) s (record {
    extends = λ from scope e m k x i. i;
    runs = λ from scope e us m stands keeps breaks z h i.
        let k = each_or (λ (u : Test). (as_part c).passes u.slot) (λ (u : Test). (works a).touches u.slot) us keeps in
        let b = none_of ((as_part c).breaks us) ((works a).breaks us) breaks in
        turns_end bounds.unroll s c scope us (acts a) (acts' a) (expr_here c scope us m.0 m.3.means stands k.0 b.0) (first_of a from scope m.1 q m.4 us stands k.1 b.1) z h i;
  })

  cases : StmtCases Acts
  cases = record {
    block = case_block;
    declare = case_declare;
    assign = case_assign;
    calls = case_call;
    if_only = case_if;
    if_else = case_if_else;
    loop = case_while;
    returns = case_return;
    asserts = case_assert;
    assumes = case_assume;
    minimizes = case_minimize;
    repeats = case_repeat;
    minrepeat = case_minrepeat;
    reorder = case_reorder;
  }

  pub act : (s : PStmt) → Acts s
  act = stmt_ind Acts cases

  acts_all : (ss : List PStmt) → Each Acts ss
  acts_all [] = tt
  acts_all (s ∷ ss) = (act s, acts_all ss)

  -- a body, in which no test holds at first
  pub body_ends : (ss : List PStmt) (from : ℕ) (scope : List Variable) (es : List Stmt) → BlockMeans (λ y. y) Meaning from scope ss es → (all_of (map works ss)).breaks [] ≡ [] → (z : plain.State) (h : List Record) → Inv types prog scope [] z h
      → Ends types prog (leaves scope scope) [] h (FlowFits result) (exec.one_by_one (map acts ss) z) (one_by_one (map acts' ss) (with_heap z h))
  body_ends ss from scope es m breaks = block_back ss from scope es [] (acts_all ss) m (record { stands = tt; keeps = tt; breaks = breaks })
