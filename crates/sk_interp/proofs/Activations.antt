-- How the meaning goes on.
use Rattle.std.proofs.Common.{◌≡◌, ℕ, zero, ◌+◌, ◌-◌, ◌<◌, List, [], ◌∷◌, ◌++◌, ◌==◌, length, drop, get_or, refl, sym, ap, ◌∙◌, suc, add-one, sub-one, append_assoc, arith, subst, ◌≤◌, map, Option, Some, None, Bool, true, false, ◌&&◌}
use Rattle.std.specs.Prelude.{slice_get, count_by, nat_lt, if◌then◌else◌, Result}
use Rattle.std.proofs.Math.Seq.{drop-cons}
use Rattle.sk_base.specs.declared.span.Span.{Span}
use Rattle.sk_prog.specs.declared.value.Value.{Value}
use Rattle.sk_prog.specs.declared.expr.BinOp.{BinOp}
use Rattle.sk_prog.specs.declared.expr.BinOp.TheVariants as op
use Rattle.std.proofs.Common.{◌≢◌}
use Rattle.sk_interp_laws.specs.declared.log.Log.{Log}
use Rattle.sk_interp_laws.specs.Recording.{Recorded, Going, Goes, Fails, Skips, Traced, and_then, ◌>>=◌, pure, fail, lift}
use Rattle.sk_model.specs.Operators.{operator}
use Rattle.std.proofs.lemmas.List.{drop_all}
use Rattle.std.proofs.lemmas.Bool.{lt-ltb}
use Rattle.sk_prog.specs.declared.ids.FunId.{FunId}
use Rattle.sk_prog.specs.declared.ids.StructId.{StructId}
use Rattle.sk_prog.specs.declared.expr.PExpr.{PExpr}
use Rattle.sk_prog.specs.declared.expr.PField.{PField}
use Rattle.sk_prog.specs.declared.expr.PEForm.TheVariants as eform
use Rattle.sk_model.specs.Heap.{allocate}
use Rattle.sk_interp_laws.proofs.Forms.{does_index, does_slice, does_call, does_new, does_braces, field_does, field_does_is}
use Rattle.sk_model.specs.Eval.{indexed, sliced, Called}
use Rattle.sk_interp_laws.specs.Eval.{binary, Does, copy_back, ref_args, fields_in_order}
use Rattle.sk_model.specs.Exec.{Flow, Onward, Returns}
use Rattle.sk_interp_laws.specs.Exec.{holds, turns, unless_returned, exec_all}
use Rattle.sk_model.specs.Run.{first_slots, result_of, refs_from, most_calls}
use Rattle.sk_interp_laws.specs.Run.{calls, body_of, in_frame}
use Rattle.sk_interp_laws.specs.Kept.{kept}
use Rattle.sk_prog.specs.declared.prog.Prog.{Prog}
use Rattle.sk_prog.specs.declared.prog.Fun.{Fun}
use Rattle.sk_prog.specs.declared.prog.ParamDef.{ParamDef}
use Rattle.sk_base.specs.declared.bounds.Bounds.{Bounds}
use Rattle.sk_interp.specs.declared.activation.Activation.{Activation}
use Rattle.sk_interp.specs.declared.stop.Stop.{Stop}
use Rattle.sk_interp.specs.declared.stop.Stop.TheVariants.{Failed, Skipped, NoMemory}
use Rattle.sk_interp.specs.Records.{Ends, Records}
use Rattle.sk_interp.specs.Paths.{IsPath, load}
use Rattle.sk_model.specs.Heap.{Location}
use Rattle.sk_interp.specs.Calling.{followed, calls_in, does_in, each_in, field_in, value_of_call, value_of_new, value_of_braces, callee, called_by, body_in}

-- all operators but `&&` and `||` evaluate both parts
pub eager : (width : ℕ) (span : Span) (o : BinOp) (a b : Traced Log Value) (s : Recorded Log) → o ≢ op.AndThen → o ≢ op.OrElse → binary width span o a b s ≡ and_then (a s) (λ v t. and_then (b t) (λ w. lift (operator width span o v w)))
eager width span op.Mul a b s e n = refl
eager width span op.Div a b s e n = refl
eager width span op.Rem a b s e n = refl
eager width span op.Add a b s e n = refl
eager width span op.Sub a b s e n = refl
eager width span op.Shl a b s e n = refl
eager width span op.Shr a b s e n = refl
eager width span op.Lt a b s e n = refl
eager width span op.Le a b s e n = refl
eager width span op.Gt a b s e n = refl
eager width span op.Ge a b s e n = refl
eager width span op.Eq a b s e n = refl
eager width span op.Ne a b s e n = refl
eager width span op.And a b s e n = refl
eager width span op.Xor a b s e n = refl
eager width span op.Or a b s e n = refl
eager width span op.AndThen a b s e n = absurd (e refl)
eager width span op.OrElse a b s e n = absurd (n refl)

-- the item that a loop is at
pub split_at : {X : Type 0} (xs : List X) (i : ℕ) (x : X) → i < length xs → x ≡ get_or xs i x → drop i xs ≡ x ∷ drop (i + 1) xs
split_at xs i x h e = drop-cons xs i x h ∙ ap (λ y. y ∷ drop (suc i) xs) (sym e) ∙ ap (λ n. x ∷ drop n xs) (sym (add-one i))

-- one more value
pub value_on : {A : Type 0} (m : Going Log (List A)) (values : List A) (v : A) → and_then (and_then m (λ rest s. Goes (v ∷ rest) s)) (λ rest s. Goes (values ++ rest) s) ≡ and_then m (λ rest s. Goes ((values ++ v ∷ []) ++ rest) s)
value_on (Goes rest s) values v = ap (λ l. Goes l s) (sym (append_assoc values (v ∷ []) rest))
value_on (Fails span log) values v = refl
value_on (Skips span log) values v = refl

abbrev by_fun : (Fun → Traced Log Flow) → Span → List Value → Option Fun → Traced Log Called
by_fun fun_does span args None = fail span
by_fun fun_does span args (Some fun) = in_frame fun args (fun_does fun)

-- an end is passed on
pub stops_on : {A B : Type 0} (e : Stop) (log : Log) (m : Going Log A) (k : A → Traced Log B) → Ends e log m → Ends e log (and_then m k)
stops_on (Failed span) log m k h = ap (λ n. and_then n k) h
stops_on (Skipped span) log m k h = ap (λ n. and_then n k) h
stops_on NoMemory log m k h = tt

-- what a path gives, by the location that it names
pub path_goes : (d : Does Log) (span : Span) (s t : Recorded Log) (l : Location) → IsPath d → d.target span s ≡ Goes l t → d.value span s ≡ lift (load span l) t
path_goes d span s t l h e = h span s ∙ ap (λ m. and_then m (λ l. lift (load span l))) e

pub path_stops : (d : Does Log) (span : Span) (s : Recorded Log) (stop : Stop) (log : Log) → IsPath d → Ends stop log (d.target span s) → Ends stop log (d.value span s)
path_stops d span s stop log h e = subst (Ends stop log) (sym (h span s)) (stops_on stop log (d.target span s) (λ l. lift (load span l)) e)

-- one more turn of a loop
abbrev turned : ℕ → ℕ → Span → Does Log → Traced Log Flow → Bool → Traced Log Flow
turned active n span cond body t = if t then body >>= unless_returned (turns kept active n span cond body) else pure Onward

pub turn_on : (active n k : ℕ) (span : Span) (cond : Does Log) (body : Traced Log Flow) (s : Recorded Log) → k < n → turns kept active (n - k) span cond body s ≡ and_then (holds kept active span cond s) (turned active (n - (k + 1)) span cond body)
turn_on active n k span cond body s h =
    let e : n - k ≡ suc (n - (k + 1)) = omega arith in
    ap (λ m. turns kept active m span cond body s) e

-- no argument is left
pub no_args : (params : List ParamDef) → ref_args {L = Log} params [] ≡ []
no_args [] = refl
no_args (p ∷ ps) = refl

-- a call by the function that it means
module _ (span : Span) (args : List Value) (s : Recorded Log) where
  may_call : (fun_does : Fun → Traced Log Flow) (few : Bool) (found : Option Fun) → (if few then body_of fun_does span found args else fail span) s ≡ by_fun fun_does span args (if few then found else None) s
  may_call fun_does true None = refl
  may_call fun_does true (Some fun) = refl
  may_call fun_does false found = refl

  calls_by : (prog : Prog) (b : Bounds) (active : List ℕ) (f left : ℕ) → calls kept prog b left active span f args s ≡ by_fun (λ fun. exec_all kept (most_calls - (left - 1)) prog b (calls kept prog b (left - 1) (active ++ f ∷ [])) fun.body) span args (if nat_lt 0 left && nat_lt (count_by (λ g. g == f) active) b.inline_amnt then slice_get prog.funs f else None) s
  unfolding calls
  calls_by prog b active f zero = refl
  calls_by prog b active f (suc left) =
      let some : 0 < suc left = omega arith in
      let may : nat_lt 0 (suc left) ≡ true = rw lt-ltb refl in
      rw (may, sub-one) (may_call (λ fun. exec_all kept (most_calls - left) prog b (calls kept prog b left (active ++ f ∷ [])) fun.body) (nat_lt (count_by (λ g. g == f) active) b.inline_amnt) (slice_get prog.funs f))

  by_found : (a : Activation) (f : ℕ) (found : Option Fun) → by_fun (body_in a f) span args found s ≡ called_by a span f args found s
  by_found a f None = refl
  by_found a f (Some fun) = refl

  pub calls_are : (a : Activation) (f : ℕ) → calls_in a span f args s ≡ called_by a span f args (callee a f) s
  calls_are a f = calls_by a.prog.now a.bounds a.active.now f a.left ∙ by_found a f (callee a f)

-- what is done inside a call of this function, where these calls are active
abbrev pub inside : Activation → List ℕ → Fun → Traced Log Flow
inside a active fun = exec_all kept (most_calls - (a.left - 1)) a.prog.now a.bounds (calls kept a.prog.now a.bounds (a.left - 1) active) fun.body

-- a call that is not made
pub call_fails : (a : Activation) (span : Span) (f : ℕ) (args : List Value) (s : Recorded Log) → callee a f ≡ None → calls_in a span f args s ≡ Fails span s.log
call_fails a span f args s e = calls_are span args s a f ∙ ap (λ found. called_by a span f args found s) e

-- the machine with these variables
abbrev pub with_slots : Recorded Log → List Value → Recorded Log
with_slots s slots = record s { memory = record s.memory { slots = slots } }

-- a call by what is done inside
call_is : (a : Activation) (span : Span) (f : ℕ) (args : List Value) (s t : Recorded Log) (fun : Fun) (active : List ℕ) (m : Going Log Flow) → callee a f ≡ Some fun → active ≡ a.active.now ++ f ∷ [] → t ≡ with_slots s (first_slots fun args) → inside a active fun t ≡ m → calls_in a span f args s ≡ and_then m (λ flow end. Goes (record { result = result_of fun.result flow; refs = refs_from 0 fun.params end.memory.slots }) (with_slots end s.memory.slots))
call_is a span f args s t fun active m e ea et em = calls_are span args s a f ∙ ap (λ found. called_by a span f args found s) e ∙ rw (← ea, ← et, em) refl

pub call_goes : (a : Activation) (span : Span) (f : ℕ) (args : List Value) (s t : Recorded Log) (fun : Fun) (active : List ℕ) (flow : Flow) (end : Recorded Log) (called : Called) (slots : List Value) (after : Recorded Log) → callee a f ≡ Some fun → active ≡ a.active.now ++ f ∷ [] → t ≡ with_slots s (first_slots fun args) → inside a active fun t ≡ Goes flow end → called ≡ record { result = result_of fun.result flow; refs = refs_from 0 fun.params slots } → slots ≡ end.memory.slots → after ≡ with_slots end s.memory.slots → calls_in a span f args s ≡ Goes called after
call_goes a span f args s t fun active flow end called slots after e ea et em ec es eo =
    call_is a span f args s t fun active (Goes flow end) e ea et em
    ∙ sym (ap (λ v. Goes v after) (ec ∙ ap (λ l. record { result = result_of fun.result flow; refs = refs_from 0 fun.params l }) es)
    ∙ ap (λ state. Goes (record { result = result_of fun.result flow; refs = refs_from 0 fun.params end.memory.slots }) state) eo)

pub call_stops : (a : Activation) (span : Span) (f : ℕ) (args : List Value) (s t : Recorded Log) (fun : Fun) (active : List ℕ) (stop : Stop) (log : Log) → callee a f ≡ Some fun → active ≡ a.active.now ++ f ∷ [] → t ≡ with_slots s (first_slots fun args) → Ends stop log (inside a active fun t) → Ends stop log (calls_in a span f args s)
call_stops a span f args s t fun active (Failed at) log e ea et h = call_is a span f args s t fun active (Fails at log) e ea et h
call_stops a span f args s t fun active (Skipped at) log e ea et h = call_is a span f args s t fun active (Skips at log) e ea et h
call_stops a span f args s t fun active NoMemory log e ea et h = tt

-- the turn that a loop is at, from where it began
module _ (active n k : ℕ) (span : Span) (cond : Does Log) (body : Traced Log Flow) (s t : Recorded Log) (h : k < n) (inv : turns kept active n span cond body s ≡ turns kept active (n - k) span cond body t) where
  turn_is : turns kept active n span cond body s ≡ and_then (holds kept active span cond t) (turned active (n - (k + 1)) span cond body)
  turn_is = inv ∙ turn_on active n k span cond body t h

  pub turn_stops : (stop : Stop) (log : Log) → Ends stop log (holds kept active span cond t) → Ends stop log (turns kept active n span cond body s)
  turn_stops stop log e = subst (Ends stop log) (sym turn_is) (stops_on stop log (holds kept active span cond t) (turned active (n - (k + 1)) span cond body) e)

  pub turn_is_last : (u : Recorded Log) → holds kept active span cond t ≡ Goes false u → turns kept active n span cond body s ≡ Goes Onward u
  turn_is_last u e = turn_is ∙ ap (λ m. and_then m (turned active (n - (k + 1)) span cond body)) e

  body_is : (u : Recorded Log) → holds kept active span cond t ≡ Goes true u → turns kept active n span cond body s ≡ and_then (body u) (unless_returned (turns kept active (n - (k + 1)) span cond body))
  body_is u e = turn_is ∙ ap (λ m. and_then m (turned active (n - (k + 1)) span cond body)) e

  pub body_stops : (u : Recorded Log) (stop : Stop) (log : Log) → holds kept active span cond t ≡ Goes true u → Ends stop log (body u) → Ends stop log (turns kept active n span cond body s)
  body_stops u stop log e b = subst (Ends stop log) (sym (body_is u e)) (stops_on stop log (body u) (unless_returned (turns kept active (n - (k + 1)) span cond body)) b)

  pub body_returns : (u v : Recorded Log) (r : Option Value) → holds kept active span cond t ≡ Goes true u → body u ≡ Goes (Returns r) v → turns kept active n span cond body s ≡ Goes (Returns r) v
  body_returns u v r e b = body_is u e ∙ ap (λ m. and_then m (unless_returned (turns kept active (n - (k + 1)) span cond body))) b

-- where no turn is left
module _ (active n k : ℕ) (span : Span) (cond : Does Log) (body : Traced Log Flow) (s t : Recorded Log) (h : n ≤ k) (inv : turns kept active n span cond body s ≡ turns kept active (n - k) span cond body t) where
  pub end_is : turns kept active n span cond body s ≡ and_then (holds kept active span cond t) (λ more. if more then fail span else pure Onward)
  end_is =
      let e : n - k ≡ 0 = omega (arith, h) in
      inv ∙ ap (λ m. turns kept active m span cond body t) e

  pub end_stops : (stop : Stop) (log : Log) → Ends stop log (holds kept active span cond t) → Ends stop log (turns kept active n span cond body s)
  end_stops stop log e = subst (Ends stop log) (sym end_is) (stops_on stop log (holds kept active span cond t) (λ more. if more then fail span else pure Onward) e)

-- fields of `new`
same_fields : (a : Activation) (fields : List PField) → map (field_does a.prog.now a.bounds.int_bits (calls_in a)) fields ≡ map (field_in a) fields
same_fields a [] = refl
same_fields a (f ∷ fs) = ap (λ x. x ∷ map (field_does a.prog.now a.bounds.int_bits (calls_in a)) fs) (field_does_is a.prog.now a.bounds.int_bits (calls_in a) f.field f.value) ∙ ap (λ l. field_in a f ∷ l) (same_fields a fs)

-- what the forms with lists do
module _ (a : Activation) (e : PExpr) (span : Span) (s : Recorded Log) where
  pub braces_does : (parts : List PExpr) → e.form ≡ eform.Braces parts → (does_in a e).value span s ≡ value_of_braces a span e.ty parts s
  braces_does parts is =
      ap (λ form. (does_in a (record { span = e.span; ty = e.ty; form = form })).value span s) is
      ∙ ap (λ (d : Does Log). d.value span s) (does_braces a.prog.now a.bounds.int_bits (calls_in a) e.span e.ty parts)

  pub new_does : (d : StructId) (fields : List PField) → e.form ≡ eform.New d fields → (does_in a e).value span s ≡ value_of_new a span d fields s
  new_does d fields is =
      ap (λ form. (does_in a (record { span = e.span; ty = e.ty; form = form })).value span s) is
      ∙ ap (λ (d : Does Log). d.value span s) (does_new a.prog.now a.bounds.int_bits (calls_in a) e.span e.ty d fields)
      ∙ ap (λ l. and_then (fields_in_order span l s) (λ set. lift (allocate a.prog.now d set))) (same_fields a fields)

  pub call_does : (f : FunId) (args : List PExpr) → e.form ≡ eform.Call f args → (does_in a e).value span s ≡ value_of_call a span f args s
  call_does f args is =
      ap (λ form. (does_in a (record { span = e.span; ty = e.ty; form = form })).value span s) is
      ∙ ap (λ (d : Does Log). d.value span s) (does_call a.prog.now a.bounds.int_bits (calls_in a) e.span e.ty f args)

  -- what the forms with two parts do, the one after the other
  index_does : (x i : PExpr) → e.form ≡ eform.Index x i → (does_in a e).value span s ≡ followed ((does_in a x).value span) (λ v. followed ((does_in a i).value span) (λ k. lift (indexed span v k))) s
  index_does x i is =
      ap (λ form. (does_in a (record { span = e.span; ty = e.ty; form = form })).value span s) is
      ∙ ap (λ (d : Does Log). d.value span s) (does_index a.prog.now a.bounds.int_bits (calls_in a) e.span e.ty x i)

  pub index_gives : (r : Result Value Stop) (t : Recorded Log) (x i y j : PExpr) → e.form ≡ eform.Index x i → y ≡ x → j ≡ i → Records r t (followed ((does_in a y).value span) (λ v. followed ((does_in a j).value span) (λ k. lift (indexed span v k))) s) → Records r t ((does_in a e).value span s)
  index_gives r t x i y j is ey ej h =
      let first = subst (λ z. Records r t (followed ((does_in a z).value span) (λ v. followed ((does_in a j).value span) (λ k. lift (indexed span v k))) s)) ey h in
      let both = subst (λ z. Records r t (followed ((does_in a x).value span) (λ v. followed ((does_in a z).value span) (λ k. lift (indexed span v k))) s)) ej first in
      subst (λ m. Records r t m) (sym (index_does x i is)) both

  slice_does : (x i : PExpr) (n : ℕ) → e.form ≡ eform.Slice x i n → (does_in a e).value span s ≡ followed ((does_in a x).value span) (λ v. followed ((does_in a i).value span) (λ k. lift (sliced span n v k))) s
  slice_does x i n is =
      ap (λ form. (does_in a (record { span = e.span; ty = e.ty; form = form })).value span s) is
      ∙ ap (λ (d : Does Log). d.value span s) (does_slice a.prog.now a.bounds.int_bits (calls_in a) e.span e.ty x i n)

  pub slice_gives : (r : Result Value Stop) (t : Recorded Log) (x i y j : PExpr) (n : ℕ) → e.form ≡ eform.Slice x i n → y ≡ x → j ≡ i → Records r t (followed ((does_in a y).value span) (λ v. followed ((does_in a j).value span) (λ k. lift (sliced span n v k))) s) → Records r t ((does_in a e).value span s)
  slice_gives r t x i y j n is ey ej h =
      let first = subst (λ z. Records r t (followed ((does_in a z).value span) (λ v. followed ((does_in a j).value span) (λ k. lift (sliced span n v k))) s)) ey h in
      let both = subst (λ z. Records r t (followed ((does_in a x).value span) (λ v. followed ((does_in a z).value span) (λ k. lift (sliced span n v k))) s)) ej first in
      subst (λ m. Records r t m) (sym (slice_does x i n is)) both

-- where no argument is left
pub back_over : (x : Going Log (Unit {0})) (a : Activation) (span : Span) (params : List ParamDef) (args : List PExpr) (i : ℕ) (refs : List Value) (t : Recorded Log) → length args ≤ i → x ≡ copy_back span (ref_args params (each_in a (drop i args))) refs t → x ≡ Goes tt t
back_over x a span params args i refs t h e =
    let none : drop i args ≡ [] = drop_all i args h in
    e ∙ ap (λ l. copy_back span (ref_args params (each_in a l)) refs t) none ∙ ap (λ l. copy_back span l refs t) (no_args params)

pub ruleset back = (no_args, split_at)
