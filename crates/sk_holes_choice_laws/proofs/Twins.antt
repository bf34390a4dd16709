-- Two programs that differ in the slots of their functions alone run alike.
use Rattle.std.proofs.Common.{◌≡◌, ℕ, zero, suc, ◌-◌, Bool, true, false, List, [], ◌∷◌, ◌++◌, map, length, Option, Some, None, refl, sym, ap, subst, ◌∙◌}
use Rattle.std.specs.Prelude.{slice_get, count_by, nat_lt, nat_le, ◌==◌, if◌then◌else◌}
use Rattle.sk_base.specs.declared.span.Span.{Span}
use Rattle.sk_base.specs.declared.bounds.Bounds.{Bounds}
use Rattle.sk_prog.specs.declared.ids.FunId.{FunId}
use Rattle.sk_prog.specs.declared.ids.StructId.{StructId}
use Rattle.sk_prog.specs.declared.ty.Ty.{Ty}
use Rattle.sk_prog.specs.declared.ty.Ty.TheVariants as ty
use Rattle.sk_prog.specs.declared.ty.Elem.TheVariants as elem
use Rattle.sk_prog.specs.declared.value.Value.{Value}
use Rattle.sk_prog.specs.declared.value.Value.TheVariants as value
use Rattle.sk_prog.specs.declared.expr.PExpr.{PExpr}
use Rattle.sk_prog.specs.declared.expr.PField.{PField}
use Rattle.sk_prog.specs.declared.stmt.PStmt.{PStmt}
use Rattle.sk_prog.specs.declared.prog.ParamDef.{ParamDef}
use Rattle.sk_prog.specs.declared.prog.Fun.{Fun}
use Rattle.sk_prog.specs.declared.prog.Prog.{Prog}
use Rattle.sk_model.specs.declared.outcome.Outcome.TheVariants as outcome
use Rattle.sk_model.specs.Sites.{is_hole}
use Rattle.sk_model.specs.Step.{State, Step, Goes, Fails, Skips, Comp, ◌>>=◌, pure, fail, skip}
use Rattle.sk_model.specs.Values.{zero_of}
use Rattle.sk_model.specs.Heap.{write, allocate, Location, at_root, Field, with_fields, zeros_of, read_field, store}
use Rattle.sk_model.specs.Operators.{unary_operator, to_int}
use Rattle.sk_model.specs.Eval.{Calls, Called, Does, literal, const_value, padded_at, indexed, sliced, in_order, fields_in_order, choose, params_of, ref_args, copy_back, result_value, add_index, unfilled, call_value, does}
use Rattle.sk_model.specs.Exec.{Flow, Onward, Returns, unless_returned, one_by_one, onward, declare, assign, turns, return, pay, any_meaning, exec_stmt, exec_all}
use Rattle.sk_model.specs.Run.{result_of, refs_from, first_slots, in_frame, body_of, calls, outcome_of, filled_bodies, most_calls, nowhere, start, run}
use Rattle.sk_model.proofs.Induction.{Each, ExprCases, expr_ind, StmtCases, stmt_ind}
use Rattle.sk_model.proofs.Forms.{field_does, field_does_is, does_number, does_true, does_false, does_null, does_var, does_const, does_hole, does_pattern, does_paren, does_call, does_new, does_braces, does_member, does_index, does_slice, does_unary, does_binary, does_cond, does_to_int, does_pad, exec_block, exec_declare, exec_assign, exec_call, exec_if, exec_if_else, exec_while, exec_return, exec_assert, exec_assume, exec_minimize, exec_repeat, exec_minrepeat, exec_reorder}
use Rattle.sk_holes_choice_laws.proofs.Slots.{AlikeStep, Follows, Still, pure_still, fail_still, skip_still, then_follows, bind, padded_same, refs_same, read_still, write_still, read_field_still, store_still, unary_still, to_int_still, indexed_still, sliced_still, add_index_still, choose_follows, pay_still, binary_follows}

-- functions that differ in their slots alone
pub record Twin (f g : Fun) : Type 0 where
  pub params : f.params ≡ g.params
  pub result : f.result ≡ g.result
  pub body : f.body ≡ g.body

abbrev pub TwinAt : Option Fun → Option Fun → Type 0
TwinAt None None = Unit {0}
TwinAt (Some f) (Some g) = Twin f g
TwinAt _ _ = ⊥

pub record Twins (p q : Prog) : Type 0 where
  pub structs : p.structs ≡ q.structs
  pub consts : p.consts ≡ q.consts
  pub funs : (n : ℕ) → TwinAt (slice_get p.funs n) (slice_get q.funs n)

same_params : (x y : Option Fun) → TwinAt x y → params_of x ≡ params_of y
same_params None None h = refl
same_params (Some f) (Some g) h = h.params
same_params None (Some g) h = absurd h
same_params (Some f) None h = absurd h

-- what an expression does follows what another does
pub record Likely (d e : Does) : Type 0 where
  pub value : (span : Span) → Follows (d.value span) (e.value span)
  pub target : (span : Span) → Follows (d.target span) (e.target span)

abbrev Row : List Does → List Does → Type 0
Row [] [] = Unit {0}
Row (d ∷ ds) (e ∷ es) = Likely d e × Row ds es
Row _ _ = ⊥

abbrev FieldRow : List (ℕ × Does) → List (ℕ × Does) → Type 0
FieldRow [] [] = Unit {0}
FieldRow (d ∷ ds) (e ∷ es) = (d.0 ≡ e.0) × Likely d.1 e.1 × FieldRow ds es
FieldRow _ _ = ⊥

in_order_follows : (span : Span) (ds es : List Does) → Row ds es → Follows (in_order span ds) (in_order span es)
in_order_follows span [] [] r = pure_still []
in_order_follows span (d ∷ ds) (e ∷ es) r = bind (d.value span) (e.value span) (λ v. in_order span ds >>= (λ vs. pure (v ∷ vs))) (λ v. in_order span es >>= (λ vs. pure (v ∷ vs))) ((r.0).value span) (λ v. bind (in_order span ds) (in_order span es) (λ vs. pure (v ∷ vs)) (λ vs. pure (v ∷ vs)) (in_order_follows span ds es r.1) (λ vs. pure_still (v ∷ vs)))
in_order_follows span [] (e ∷ es) r = absurd r
in_order_follows span (d ∷ ds) [] r = absurd r

fields_follow : (span : Span) (ds es : List (ℕ × Does)) → FieldRow ds es → Follows (fields_in_order span ds) (fields_in_order span es)
fields_follow span [] [] r = pure_still []
fields_follow span (d ∷ ds) (e ∷ es) r =
    bind (d.1.value span) (e.1.value span) (λ v. fields_in_order span ds >>= (λ vs. pure ((d.0, v) ∷ vs))) (λ v. fields_in_order span es >>= (λ vs. pure ((e.0, v) ∷ vs))) ((r.1).value span)
    (λ v. bind (fields_in_order span ds) (fields_in_order span es) (λ vs. pure ((d.0, v) ∷ vs)) (λ vs. pure ((e.0, v) ∷ vs)) (fields_follow span ds es r.2) (λ vs. subst (λ k. Follows (pure ((d.0, v) ∷ vs)) (pure ((k, v) ∷ vs))) r.0 (pure_still ((d.0, v) ∷ vs))))
fields_follow span [] (e ∷ es) r = absurd r
fields_follow span (d ∷ ds) [] r = absurd r

ref_rows : (ps : List ParamDef) (ds es : List Does) → Row ds es → Row (ref_args ps ds) (ref_args ps es)
ref_rows [] [] [] r = tt
ref_rows [] (d ∷ ds) (e ∷ es) r = tt
ref_rows (p ∷ ps) [] [] r = tt
ref_rows (p ∷ ps) (d ∷ ds) (e ∷ es) r = go p.by_ref (ref_rows ps ds es r.1)
  where
    go : (b : Bool) → Row (ref_args ps ds) (ref_args ps es) → Row (if b then d ∷ ref_args ps ds else ref_args ps ds) (if b then e ∷ ref_args ps es else ref_args ps es)
    go true rest = (r.0, rest)
    go false rest = rest
ref_rows [] [] (e ∷ es) r = absurd r
ref_rows [] (d ∷ ds) [] r = absurd r
ref_rows (p ∷ ps) [] (e ∷ es) r = absurd r
ref_rows (p ∷ ps) (d ∷ ds) [] r = absurd r

copies_follow : (span : Span) (ds es : List Does) (vs : List Value) → Row ds es → Follows (copy_back span ds vs) (copy_back span es vs)
copies_follow span [] [] vs r = pure_still tt
copies_follow span (d ∷ ds) (e ∷ es) [] r = pure_still tt
copies_follow span (d ∷ ds) (e ∷ es) (v ∷ vs) r =
    bind (d.target span) (e.target span) (λ l. store span l v >>= (λ u. copy_back span ds vs)) (λ l. store span l v >>= (λ u. copy_back span es vs)) ((r.0).target span)
    (λ l. bind (store span l v) (store span l v) (λ u. copy_back span ds vs) (λ u. copy_back span es vs) (store_still span l v) (λ u. copies_follow span ds es vs r.1))
copies_follow span [] (e ∷ es) vs r = absurd r
copies_follow span (d ∷ ds) [] vs r = absurd r

allocate_follows : (p q : Prog) (d : StructId) (set : List (ℕ × Value)) → p.structs ≡ q.structs → Follows (allocate p d set) (allocate q d set)
allocate_follows p q d set h s t e =
    (ap (λ l. value.Place (length l)) e.heap, record { heap = λ i. e.heap i ++ with_fields (zeros_of (slice_get (h i) d.index)) set ∷ []; cost = e.cost; slots = e.slots })

module _ (p q : Prog) (h : Twins p q) (bounds : Bounds) (call call' : Calls) (k : (span : Span) (f : ℕ) (args : List Value) → Follows (call span f args) (call' span f args)) where
  abbrev width : ℕ
  width = bounds.int_bits

  abbrev old : PExpr → Does
  old = does p width call

  abbrev new : PExpr → Does
  new = does q width call'

  abbrev Q : PExpr → Type 0
  Q e = Likely (old e) (new e)

  abbrev R : PField → Type 0
  R x = ((field_does p width call x).0 ≡ (field_does q width call' x).0) × Likely (field_does p width call x).1 (field_does q width call' x).1

  put : (d d' e e' : Does) → d ≡ d' → e ≡ e' → Likely d' e' → Likely d e
  put d d' e e' a b r = subst (λ (z : Does × Does). Likely z.0 z.1) (λ i. (sym a i, sym b i)) r

  no_target : (d e : Does) → ((span : Span) → Follows (d.value span) (e.value span)) → ((span : Span) → d.target span ≡ fail span) → ((span : Span) → e.target span ≡ fail span) → Likely d e
  no_target d e v a b = record { value = v; target = λ span. subst (λ (z : Comp Location × Comp Location). Follows z.0 z.1) (λ i. (sym (a span) i, sym (b span) i)) (fail_still Location span) }

  row : (es : List PExpr) → Each Q es → Row (map old es) (map new es)
  row [] r = tt
  row (e ∷ es) r = (r.0, row es r.1)

  field_row : (xs : List PField) → Each R xs → FieldRow (map (field_does p width call) xs) (map (field_does q width call') xs)
  field_row [] r = tt
  field_row (x ∷ xs) r = (r.0.0, r.0.1, field_row xs r.1)

  call_follows : (f : FunId) (ds es : List Does) (span : Span) → Row ds es → Follows (call_value p width call span f ds) (call_value q width call' span f es)
  call_follows f ds es span r =
      bind (in_order span ds) (in_order span es) _ _ (in_order_follows span ds es r)
      (λ vs. bind (call span f.index vs) (call' span f.index vs) _ _ (k span f.index vs)
      (λ called. bind (copy_back span (ref_args (params_of (slice_get p.funs f.index)) ds) called.refs) (copy_back span (ref_args (params_of (slice_get q.funs f.index)) es) called.refs) _ _
      (subst (λ ps. Follows (copy_back span (ref_args (params_of (slice_get p.funs f.index)) ds) called.refs) (copy_back span (ref_args ps es) called.refs)) (same_params (slice_get p.funs f.index) (slice_get q.funs f.index) (h.funs f.index)) (copies_follow span _ _ called.refs (ref_rows (params_of (slice_get p.funs f.index)) ds es r)))
      (λ u. pure_still (result_value called.result))))

  unfilled_still : (t : Option Ty) (span : Span) → Still (unfilled t span)
  unfilled_still None span = fail_still Value span
  unfilled_still (Some (ty.One e)) span = fail_still Value span
  unfilled_still (Some (ty.Array elem.Bit zero)) span = pure_still _
  unfilled_still (Some (ty.Array elem.Bit (suc n))) span = fail_still Value span
  unfilled_still (Some (ty.Array elem.Int n)) span = fail_still Value span
  unfilled_still (Some (ty.Array (elem.Reference d) n)) span = fail_still Value span
  unfilled_still (Some (ty.Grid e n m)) span = fail_still Value span

  abbrev X : Type 0
  X = Option Ty → Does

  cases : ExprCases Q R
  cases = record {
    field = λ n e r. subst (λ (z : (ℕ × Does) × (ℕ × Does)). (z.0.0 ≡ z.1.0) × Likely z.0.1 z.1.1) (λ i. (sym (field_does_is p width call n e) i, sym (field_does_is q width call' n e) i)) (refl, r);
    number = λ s t n. put _ _ _ _ (does_number p width call s t n) (does_number q width call' s t n) (no_target _ _ (λ span. pure_still (literal width t n)) (λ span. refl) (λ span. refl));
    truth = λ s t. put _ _ _ _ (does_true p width call s t) (does_true q width call' s t) (no_target _ _ (λ span. pure_still (value.Bit true)) (λ span. refl) (λ span. refl));
    falsity = λ s t. put _ _ _ _ (does_false p width call s t) (does_false q width call' s t) (no_target _ _ (λ span. pure_still (value.Bit false)) (λ span. refl) (λ span. refl));
    null = λ s t. put _ _ _ _ (does_null p width call s t) (does_null q width call' s t) (no_target _ _ (λ span. pure_still value.Null) (λ span. refl) (λ span. refl));
    var = λ s t slot x. put _ _ _ _ (does_var p width call s t slot x) (does_var q width call' s t slot x) (record { value = λ span. read_still slot; target = λ span. pure_still _ });
    const = λ s t c. put _ _ _ _ (does_const p width call s t c) (does_const q width call' s t c) (no_target _ _ (λ span. subst (λ cs. Follows (pure (const_value (slice_get p.consts c.index))) (pure (const_value (slice_get cs c.index)))) h.consts (pure_still (const_value (slice_get p.consts c.index)))) (λ span. refl) (λ span. refl));
    hole = λ s t bits. put _ _ _ _ (does_hole p width call s t bits) (does_hole q width call' s t bits) (no_target _ _ (λ span. unfilled_still t span) (λ span. refl) (λ span. refl));
    pattern = λ s t es r. put _ _ _ _ (does_pattern p width call s t es) (does_pattern q width call' s t es) (no_target _ _ (λ span. fail_still Value span) (λ span. refl) (λ span. refl));
    paren = λ s t e r. put _ _ _ _ (does_paren p width call s t e) (does_paren q width call' s t e) (no_target _ _ r.value (λ span. refl) (λ span. refl));
    call = λ s t f es r. put _ _ _ _ (does_call p width call s t f es) (does_call q width call' s t f es) (no_target _ _ (λ span. call_follows f (map old es) (map new es) span (row es r)) (λ span. refl) (λ span. refl));
    new = λ s t d xs r. put _ _ _ _ (does_new p width call s t d xs) (does_new q width call' s t d xs) (no_target _ _ (λ span. bind (fields_in_order span (map (field_does p width call) xs)) (fields_in_order span (map (field_does q width call') xs)) (allocate p d) (allocate q d) (fields_follow span _ _ (field_row xs r)) (λ set. allocate_follows p q d set h.structs)) (λ span. refl) (λ span. refl));
    braces = λ s t es r. put _ _ _ _ (does_braces p width call s t es) (does_braces q width call' s t es) (no_target _ _ (λ span. bind (in_order span (map old es)) (in_order span (map new es)) _ _ (in_order_follows span _ _ (row es r)) (λ vs. pure_still (padded_at t (value.Array vs)))) (λ span. refl) (λ span. refl));
    member = λ s t e d n r. put _ _ _ _ (does_member p width call s t e d n) (does_member q width call' s t e d n) (record { value = λ span. bind ((old e).value span) ((new e).value span) (read_field span n) (read_field span n) (r.value span) (λ v. read_field_still span n v); target = λ span. bind ((old e).value span) ((new e).value span) (λ v. at_root (Field v n)) (λ v. at_root (Field v n)) (r.value span) (λ v. pure_still _) });
    index = λ s t e i r u. put _ _ _ _ (does_index p width call s t e i) (does_index q width call' s t e i) (record { value = λ span. bind ((old e).value span) ((new e).value span) _ _ (r.value span) (λ v. bind ((old i).value span) ((new i).value span) (indexed span v) (indexed span v) (u.value span) (λ w. indexed_still span v w)); target = λ span. bind ((old e).target span) ((new e).target span) _ _ (r.target span) (λ l. bind ((old i).value span) ((new i).value span) (add_index span l) (add_index span l) (u.value span) (λ w. add_index_still span l w)) });
    slice = λ s t e i n r u. put _ _ _ _ (does_slice p width call s t e i n) (does_slice q width call' s t e i n) (no_target _ _ (λ span. bind ((old e).value span) ((new e).value span) _ _ (r.value span) (λ v. bind ((old i).value span) ((new i).value span) (sliced span n v) (sliced span n v) (u.value span) (λ w. sliced_still span n v w))) (λ span. refl) (λ span. refl));
    unary = λ s t o e r. put _ _ _ _ (does_unary p width call s t o e) (does_unary q width call' s t o e) (no_target _ _ (λ span. bind ((old e).value span) ((new e).value span) (unary_operator width span o) (unary_operator width span o) (r.value span) (λ v. unary_still width span o v)) (λ span. refl) (λ span. refl));
    binary = λ s t o a b r u. put _ _ _ _ (does_binary p width call s t o a b) (does_binary q width call' s t o a b) (no_target _ _ (λ span. binary_follows width span o ((old a).value span) ((old b).value span) ((new a).value span) ((new b).value span) (r.value span) (u.value span)) (λ span. refl) (λ span. refl));
    cond = λ s t c a b r u w. put _ _ _ _ (does_cond p width call s t c a b) (does_cond q width call' s t c a b) (no_target _ _ (λ span. bind ((old c).value span) ((new c).value span) (choose span ((old a).value span) ((old b).value span)) (choose span ((new a).value span) ((new b).value span)) (r.value span) (choose_follows Value span ((old a).value span) ((old b).value span) ((new a).value span) ((new b).value span) (u.value span) (w.value span))) (λ span. refl) (λ span. refl));
    to_int = λ s t e r. put _ _ _ _ (does_to_int p width call s t e) (does_to_int q width call' s t e) (no_target _ _ (λ span. bind ((old e).value span) ((new e).value span) (to_int span) (to_int span) (r.value span) (λ v. to_int_still span v)) (λ span. refl) (λ span. refl));
    pad = λ s t e r. put _ _ _ _ (does_pad p width call s t e) (does_pad q width call' s t e) (no_target _ _ (λ span. bind ((old e).value span) ((new e).value span) _ _ (r.value span) (λ v. pure_still (padded_at t v))) (λ span. refl) (λ span. refl));
  }

  likely : (e : PExpr) → Q e
  likely = expr_ind Q R cases

  -- Statements

  abbrev old_s : PStmt → Comp Flow
  old_s = exec_stmt p bounds call

  abbrev new_s : PStmt → Comp Flow
  new_s = exec_stmt q bounds call'

  abbrev S : PStmt → Type 0
  S x = Follows (old_s x) (new_s x)

  -- by what the form does at each state
  by_form : (x : PStmt) (m n : Comp Flow) → ((st : State) → old_s x st ≡ m st) → ((st : State) → new_s x st ≡ n st) → Follows m n → S x
  by_form x m n a b f s t e = subst (λ (z : Step Flow × Step Flow). AlikeStep z.0 z.1) (λ i. (sym (a s) i, sym (b t) i)) (f s t e)

  unless_follows : (m n : Comp Flow) → Follows m n → (f : Flow) → Follows (unless_returned m f) (unless_returned n f)
  unless_follows m n r Onward = r
  unless_follows m n r (Returns v) = pure_still (Returns v)

  abbrev Steps : List (Comp Flow) → List (Comp Flow) → Type 0
  Steps [] [] = Unit {0}
  Steps (m ∷ ms) (n ∷ ns) = Follows m n × Steps ms ns
  Steps _ _ = ⊥

  steps_follow : (ms ns : List (Comp Flow)) → Steps ms ns → Follows (one_by_one ms) (one_by_one ns)
  steps_follow [] [] r = pure_still Onward
  steps_follow (m ∷ ms) (n ∷ ns) r = bind m n (unless_returned (one_by_one ms)) (unless_returned (one_by_one ns)) r.0 (unless_follows (one_by_one ms) (one_by_one ns) (steps_follow ms ns r.1))
  steps_follow [] (n ∷ ns) r = absurd r
  steps_follow (m ∷ ms) [] r = absurd r

  steps : (ss : List PStmt) → Each S ss → Steps (map old_s ss) (map new_s ss)
  steps [] r = tt
  steps (s ∷ ss) r = (r.0, steps ss r.1)

  turns_follow : (left : ℕ) (span : Span) (c d : Does) (m n : Comp Flow) → Likely c d → Follows m n → Follows (turns left span c m) (turns left span d n)
  turns_follow zero span c d m n r u = bind (c.value span) (d.value span) (choose span (fail span) (pure Onward)) (choose span (fail span) (pure Onward)) (r.value span) (choose_follows Flow span (fail span) (pure Onward) (fail span) (pure Onward) (fail_still Flow span) (pure_still Onward))
  turns_follow (suc left) span c d m n r u =
      bind (c.value span) (d.value span) (choose span (m >>= unless_returned (turns left span c m)) (pure Onward)) (choose span (n >>= unless_returned (turns left span d n)) (pure Onward)) (r.value span)
      (choose_follows Flow span (m >>= unless_returned (turns left span c m)) (pure Onward) (n >>= unless_returned (turns left span d n)) (pure Onward)
      (bind m n (unless_returned (turns left span c m)) (unless_returned (turns left span d n)) u (unless_follows (turns left span c m) (turns left span d n) (turns_follow left span c d m n r u))) (pure_still Onward))

  onward_follows : (m n : Comp (Unit {0})) → Follows m n → Follows (onward m) (onward n)
  onward_follows m n r = bind m n (λ u. pure Onward) (λ u. pure Onward) r (λ u. pure_still Onward)

  declares : (span : Span) (slot : ℕ) (t : Ty) (e : Option PExpr) → Follows (declare span slot t (any_meaning p bounds call e)) (declare span slot t (any_meaning q bounds call' e))
  declares span slot t None = onward_follows (write slot (zero_of t)) (write slot (zero_of t)) (write_still slot (zero_of t))
  declares span slot t (Some e) = onward_follows ((old e).value span >>= write slot) ((new e).value span >>= write slot) (bind ((old e).value span) ((new e).value span) (write slot) (write slot) ((likely e).value span) (λ v. write_still slot v))

  returning : (span : Span) (e : Option PExpr) → Follows (return span (any_meaning p bounds call e)) (return span (any_meaning q bounds call' e))
  returning span None = pure_still (Returns None)
  returning span (Some e) = bind ((old e).value span) ((new e).value span) (λ v. pure (Returns (Some v))) (λ v. pure (Returns (Some v))) ((likely e).value span) (λ v. pure_still (Returns (Some v)))

  assigns : (span : Span) (x e : PExpr) → Follows (assign span (old x) (old e)) (assign span (new x) (new e))
  assigns span x e = onward_follows _ _ (bind ((old x).target span) ((new x).target span) (λ l. (old e).value span >>= store span l) (λ l. (new e).value span >>= store span l) ((likely x).target span) (λ l. bind ((old e).value span) ((new e).value span) (store span l) (store span l) ((likely e).value span) (λ v. store_still span l v)))

  repeats : (b : Bool) (span : Span) (ss : List PStmt) → Each S ss → Follows (if b then fail span else one_by_one (map old_s ss)) (if b then fail span else one_by_one (map new_s ss))
  repeats true span ss r = fail_still Flow span
  repeats false span ss r = steps_follow (map old_s ss) (map new_s ss) (steps ss r)

  same_length : (ss : List PStmt) → length (map new_s ss) ≡ length (map old_s ss)
  same_length [] = refl
  same_length (s ∷ ss) = ap suc (same_length ss)

  reordered : (span : Span) (ss : List PStmt) → Each S ss → Follows (if nat_le (length (map old_s ss)) 1 then one_by_one (map old_s ss) else fail span) (if nat_le (length (map new_s ss)) 1 then one_by_one (map new_s ss) else fail span)
  reordered span ss r = subst (λ n. Follows (if nat_le (length (map old_s ss)) 1 then one_by_one (map old_s ss) else fail span) (if nat_le n 1 then one_by_one (map new_s ss) else fail span)) (sym (same_length ss)) (go (nat_le (length (map old_s ss)) 1))
    where
      go : (b : Bool) → Follows (if b then one_by_one (map old_s ss) else fail span) (if b then one_by_one (map new_s ss) else fail span)
      go true = steps_follow (map old_s ss) (map new_s ss) (steps ss r)
      go false = fail_still Flow span

  stmt_cases : StmtCases S
  stmt_cases = record {
    block = λ s ss r. by_form _ _ _ (exec_block p bounds call s ss) (exec_block q bounds call' s ss) (steps_follow (map old_s ss) (map new_s ss) (steps ss r));
    declare = λ s slot x t e. by_form _ _ _ (exec_declare p bounds call s slot x t e) (exec_declare q bounds call' s slot x t e) (declares s slot t e);
    assign = λ s x e. by_form _ _ _ (exec_assign p bounds call s x e) (exec_assign q bounds call' s x e) (assigns s x e);
    calls = λ s e. by_form _ _ _ (exec_call p bounds call s e) (exec_call q bounds call' s e) (bind ((old e).value s) ((new e).value s) (λ v. pure Onward) (λ v. pure Onward) ((likely e).value s) (λ v. pure_still Onward));
    if_only = λ s c a r. by_form _ _ _ (exec_if p bounds call s c a) (exec_if q bounds call' s c a) (bind ((old c).value s) ((new c).value s) (choose s (old_s a) (pure Onward)) (choose s (new_s a) (pure Onward)) ((likely c).value s) (choose_follows Flow s (old_s a) (pure Onward) (new_s a) (pure Onward) r (pure_still Onward)));
    if_else = λ s c a b r u. by_form _ _ _ (exec_if_else p bounds call s c a b) (exec_if_else q bounds call' s c a b) (bind ((old c).value s) ((new c).value s) (choose s (old_s a) (old_s b)) (choose s (new_s a) (new_s b)) ((likely c).value s) (choose_follows Flow s (old_s a) (old_s b) (new_s a) (new_s b) r u));
    loop = λ s c a r. by_form _ _ _ (exec_while p bounds call s c a) (exec_while q bounds call' s c a) (turns_follow bounds.unroll s (old c) (new c) (old_s a) (new_s a) (likely c) r);
    returns = λ s e. by_form _ _ _ (exec_return p bounds call s e) (exec_return q bounds call' s e) (returning s e);
    asserts = λ s e. by_form _ _ _ (exec_assert p bounds call s e) (exec_assert q bounds call' s e) (bind ((old e).value s) ((new e).value s) (choose s (pure Onward) (fail s)) (choose s (pure Onward) (fail s)) ((likely e).value s) (choose_follows Flow s (pure Onward) (fail s) (pure Onward) (fail s) (pure_still Onward) (fail_still Flow s)));
    assumes = λ s e. by_form _ _ _ (exec_assume p bounds call s e) (exec_assume q bounds call' s e) (bind ((old e).value s) ((new e).value s) (choose s (pure Onward) (skip s)) (choose s (pure Onward) (skip s)) ((likely e).value s) (choose_follows Flow s (pure Onward) (skip s) (pure Onward) (skip s) (pure_still Onward) (skip_still Flow s)));
    minimizes = λ s e. by_form _ _ _ (exec_minimize p bounds call s e) (exec_minimize q bounds call' s e) (bind ((old e).value s) ((new e).value s) (pay s) (pay s) ((likely e).value s) (λ v. pay_still s v));
    repeats = λ s c ss r. by_form _ _ _ (exec_repeat p bounds call s c ss) (exec_repeat q bounds call' s c ss) (repeats (is_hole c.form) s ss r);
    minrepeat = λ s ss r. by_form _ _ _ (exec_minrepeat p bounds call s ss) (exec_minrepeat q bounds call' s ss) (fail_still Flow s);
    reorder = λ s ss r. by_form _ _ _ (exec_reorder p bounds call s ss) (exec_reorder q bounds call' s ss) (reordered s ss r);
  }

  stmt_follows : (x : PStmt) → S x
  stmt_follows = stmt_ind S stmt_cases

  each_follows : (ss : List PStmt) → Each S ss
  each_follows [] = tt
  each_follows (s ∷ ss) = (stmt_follows s, each_follows ss)

  pub all_follow : (ss : List PStmt) → Follows (exec_all p bounds call ss) (exec_all q bounds call' ss)
  all_follow ss = steps_follow (map old_s ss) (map new_s ss) (steps ss (each_follows ss))

-- Calls

if_follows : {A : Type 0} (b : Bool) (m n k l : Comp A) → Follows m n → Follows k l → Follows (if b then m else k) (if b then n else l)
if_follows true m n k l r u = r
if_follows false m n k l r u = u

frame_follows : (f g : Fun) → Twin f g → (args : List Value) (m n : Comp Flow) → Follows m n → Follows (in_frame f args m) (in_frame g args n)
frame_follows f g w args m n r s t e =
    then_follows (m (record s { slots = first_slots f args })) (n (record t { slots = first_slots g args }))
    (λ flow end. Goes (record { result = result_of f.result flow; refs = refs_from 0 f.params end.slots }) (record end { slots = s.slots }))
    (λ flow end. Goes (record { result = result_of g.result flow; refs = refs_from 0 g.params end.slots }) (record end { slots = t.slots }))
    (r (record s { slots = first_slots f args }) (record t { slots = first_slots g args }) (record { heap = e.heap; cost = e.cost; slots = padded_same args (f.slots - length args) (g.slots - length args) }))
    (λ flow x y u.
    let refs = refs_same 0 f.params x.slots y.slots u.slots ∙ ap (λ ps. refs_from 0 ps y.slots) w.params in
    (λ i. record { result = result_of (w.result i) flow; refs = refs i }, record { heap = u.heap; cost = u.cost; slots = e.slots }))

module _ (p q : Prog) (h : Twins p q) (bounds : Bounds) where
  body_follows : (call call' : Calls) → ((span : Span) (f : ℕ) (args : List Value) → Follows (call span f args) (call' span f args)) → (span : Span) (args : List Value) (x y : Option Fun) → TwinAt x y
      → Follows (body_of (λ fun. exec_all p bounds call fun.body) span x args) (body_of (λ fun. exec_all q bounds call' fun.body) span y args)
  body_follows call call' k span args None None w = fail_still Called span
  body_follows call call' k span args (Some f) (Some g) w = frame_follows f g w args (exec_all p bounds call f.body) (exec_all q bounds call' g.body) (subst (λ ss. Follows (exec_all p bounds call f.body) (exec_all q bounds call' ss)) w.body (all_follow p q h bounds call call' k f.body))
  body_follows call call' k span args None (Some g) w = absurd w
  body_follows call call' k span args (Some f) None w = absurd w

  pub calls_follow : (left : ℕ) (active : List ℕ) (span : Span) (f : ℕ) (args : List Value) → Follows (calls p bounds (filled_bodies p bounds) left active span f args) (calls q bounds (filled_bodies q bounds) left active span f args)
  unfolding calls
  calls_follow zero active span f args = fail_still Called span
  calls_follow (suc left) active span f args =
      if_follows (nat_lt (count_by (λ g. g == f) active) bounds.inline_amnt) _ _ (fail span) (fail span)
      (body_follows (calls p bounds (filled_bodies p bounds) left (active ++ f ∷ [])) (calls q bounds (filled_bodies q bounds) left (active ++ f ∷ [])) (calls_follow left (active ++ f ∷ [])) span args (slice_get p.funs f) (slice_get q.funs f) (h.funs f))
      (fail_still Called span)

outcome_same : (x y : Step Called) → AlikeStep x y → outcome_of x ≡ outcome_of y
outcome_same (Goes a s) (Goes b t) r = λ i. outcome.Done (r.0 i).result (r.0 i).refs ((r.1).cost i)
outcome_same (Fails x) (Fails y) r = ap outcome.Failed r
outcome_same (Skips x) (Skips y) r = ap outcome.Skipped r
outcome_same (Goes a s) (Fails y) r = absurd r
outcome_same (Goes a s) (Skips y) r = absurd r
outcome_same (Fails x) (Goes b t) r = absurd r
outcome_same (Fails x) (Skips y) r = absurd r
outcome_same (Skips x) (Goes b t) r = absurd r
outcome_same (Skips x) (Fails y) r = absurd r

pub twins_run : (p q : Prog) → Twins p q → (f : FunId) (args : List Value) (bounds : Bounds) → run p f args bounds ≡ run q f args bounds
unfolding run
twins_run p q h f args bounds = outcome_same _ _ (calls_follow p q h bounds most_calls [] nowhere f.index args start start (record { heap = refl; cost = refl; slots = λ i. refl }))
