-- Expressions that leave the state as it is, and paths.
use Rattle.std.proofs.Common.{◌≡◌, ℕ, zero, suc, ℤ, pos, negsuc, false, true≢false, List, [], ◌∷◌, ◌++◌, refl, sym, ap, subst, ◌∙◌, Option, Some, None}
use Rattle.std.specs.Prelude.{Bool, IsTrue, option_and_then, slice_index_or}
use Rattle.sk_base.specs.declared.span.Span.{Span}
use Rattle.sk_base.specs.declared.name.Name.{Name}
use Rattle.sk_prog.specs.declared.ids.ConstId.{ConstId}
use Rattle.sk_prog.specs.declared.ids.StructId.{StructId}
use Rattle.sk_prog.specs.declared.value.Value.{Value}
use Rattle.sk_prog.specs.declared.value.Value.TheVariants as value
use Rattle.sk_prog.specs.declared.expr.BinOp.{BinOp}
use Rattle.sk_prog.specs.declared.expr.BinOp.TheVariants as op
use Rattle.sk_prog.specs.declared.expr.PExpr.{PExpr}
use Rattle.sk_prog.specs.declared.expr.PEForm.{PEForm}
use Rattle.sk_prog.specs.declared.expr.PEForm.TheVariants as eform
use Rattle.sk_model.specs.Step.{Comp}
use Rattle.sk_model.specs.Step as step
use Rattle.sk_interp_laws.specs.declared.log.Log.{Log}
use Rattle.sk_interp_laws.specs.Recording.{Recorded, Going, Goes, Fails, Skips, Traced, and_then, fail, lifted, lift}
use Rattle.sk_model.specs.Values.{element}
use Rattle.sk_model.specs.Operators.{Operand, Number, OneBit, Bits, Reference, operand, divided, number_operator, bit_operator, bits_operator, shift, on_operands, operator, to_int}
use Rattle.sk_model.specs.Heap.{blank, record_at, Root, Variable, Field, Location, at_root, read_root, read_field}
use Rattle.sk_model.specs.Eval.{or_fail, indexed, add_index}
use Rattle.sk_interp_laws.specs.Eval.{Does, binary}
use Rattle.sk_interp.specs.declared.activation.Activation.{Activation}
use Rattle.sk_interp_laws.proofs.Forms.{does_number, does_var, does_const, does_paren, does_member, does_index, does_binary, does_to_int}
use Rattle.sk_interp.specs.Calling.{does_in, calls_in}
use Rattle.sk_interp.specs.Paths.{part, load, Keeps, IsSteady, IsPath, is_arithmetic}

no : {X : Type 0} → IsTrue false → X
no e = absurd (true≢false (sym e))

-- ---- what keeps memory and log

module _ (span : Span) (s : Recorded Log) where
  failed : (span ≡ span) × (s.log ≡ s.log)
  failed = (refl, refl)

  keeps_then : {A B : Type 0} (m : Going Log A) (k : A → Traced Log B) → Keeps span s m → ((a : A) → Keeps span s (k a s)) → Keeps span s (and_then m k)
  keeps_then (Goes a t) k h g = subst (λ u. Keeps span s (k a u)) (sym h) (g a)
  keeps_then (Fails at log) k h g = h
  keeps_then (Skips at log) k h g = absurd h

  or_fail_keeps : (found : Option Value) → Keeps span s (lift (or_fail span found) s)
  or_fail_keeps None = failed
  or_fail_keeps (Some v) = refl

  divided_keeps : (y z : ℤ) → Keeps span s (lift (divided span y z) s)
  divided_keeps (pos zero) z = failed
  divided_keeps (pos (suc n)) z = refl
  divided_keeps (negsuc n) z = refl

  operands_keep : (width : ℕ) (o : BinOp)
      → ((x y : ℤ) → Keeps span s (lift (number_operator width span o x y) s))
      → ((x y : Bool) → Keeps span s (lift (bit_operator span o x y) s))
      → ((x y : List Bool) → Keeps span s (lift (bits_operator span o x y) s))
      → ((x : List Bool) (n : ℤ) → Keeps span s (lift (shift span o x n) s))
      → (x y : Operand) → Keeps span s (lift (on_operands width span o x y) s)
  operands_keep width o numbers bits arrays shifts (Number x) (Number y) = numbers x y
  operands_keep width o numbers bits arrays shifts (Number x) (OneBit y) = failed
  operands_keep width o numbers bits arrays shifts (Number x) (Bits y) = failed
  operands_keep width o numbers bits arrays shifts (Number x) Reference = failed
  operands_keep width o numbers bits arrays shifts (OneBit x) (Number y) = failed
  operands_keep width o numbers bits arrays shifts (OneBit x) (OneBit y) = bits x y
  operands_keep width o numbers bits arrays shifts (OneBit x) (Bits y) = failed
  operands_keep width o numbers bits arrays shifts (OneBit x) Reference = failed
  operands_keep width o numbers bits arrays shifts (Bits x) (Number y) = shifts x y
  operands_keep width o numbers bits arrays shifts (Bits x) (OneBit y) = failed
  operands_keep width o numbers bits arrays shifts (Bits x) (Bits y) = arrays x y
  operands_keep width o numbers bits arrays shifts (Bits x) Reference = failed
  operands_keep width o numbers bits arrays shifts Reference (Number y) = failed
  operands_keep width o numbers bits arrays shifts Reference (OneBit y) = failed
  operands_keep width o numbers bits arrays shifts Reference (Bits y) = failed
  operands_keep width o numbers bits arrays shifts Reference Reference = failed

  both_keep : (m n : Traced Log Value) (k : Value → Value → Comp Value) → Keeps span s (m s) → Keeps span s (n s) → ((v w : Value) → Keeps span s (lift (k v w) s)) → Keeps span s (and_then (m s) (λ v t. and_then (n t) (λ w. lift (k v w))))
  both_keep m n k hm hn hk = keeps_then (m s) (λ v t. and_then (n t) (λ w. lift (k v w))) hm (λ v. keeps_then (n s) (λ w. lift (k v w)) hn (hk v))

  -- the operators of arithmetic
  binary_keeps : (width : ℕ) (o : BinOp) (a b : Traced Log Value) → IsTrue (is_arithmetic o) → Keeps span s (a s) → Keeps span s (b s) → Keeps span s (binary width span o a b s)
  binary_keeps width op.Mul a b e ha hb = both_keep a b (operator width span op.Mul) ha hb (λ v w. operands_keep width op.Mul (λ x y. refl) (λ x y. failed) (λ x y. failed) (λ x n. failed) (operand v) (operand w))
  binary_keeps width op.Div a b e ha hb = both_keep a b (operator width span op.Div) ha hb (λ v w. operands_keep width op.Div (λ x y. divided_keeps y _) (λ x y. failed) (λ x y. failed) (λ x n. failed) (operand v) (operand w))
  binary_keeps width op.Rem a b e ha hb = both_keep a b (operator width span op.Rem) ha hb (λ v w. operands_keep width op.Rem (λ x y. divided_keeps y _) (λ x y. failed) (λ x y. failed) (λ x n. failed) (operand v) (operand w))
  binary_keeps width op.Add a b e ha hb = both_keep a b (operator width span op.Add) ha hb (λ v w. operands_keep width op.Add (λ x y. refl) (λ x y. failed) (λ x y. refl) (λ x n. failed) (operand v) (operand w))
  binary_keeps width op.Sub a b e ha hb = both_keep a b (operator width span op.Sub) ha hb (λ v w. operands_keep width op.Sub (λ x y. refl) (λ x y. failed) (λ x y. failed) (λ x n. failed) (operand v) (operand w))
  binary_keeps width op.Shl a b e ha hb = no e
  binary_keeps width op.Shr a b e ha hb = no e
  binary_keeps width op.Lt a b e ha hb = no e
  binary_keeps width op.Le a b e ha hb = no e
  binary_keeps width op.Gt a b e ha hb = no e
  binary_keeps width op.Ge a b e ha hb = no e
  binary_keeps width op.Eq a b e ha hb = no e
  binary_keeps width op.Ne a b e ha hb = no e
  binary_keeps width op.And a b e ha hb = no e
  binary_keeps width op.Xor a b e ha hb = no e
  binary_keeps width op.Or a b e ha hb = no e
  binary_keeps width op.AndThen a b e ha hb = no e
  binary_keeps width op.OrElse a b e ha hb = no e

  to_int_keeps : (v : Value) → Keeps span s (lift (to_int span v) s)
  to_int_keeps (value.Bit b) = refl
  to_int_keeps (value.Int n) = failed
  to_int_keeps value.Null = failed
  to_int_keeps (value.Place p) = failed
  to_int_keeps (value.Array' shape vs) = failed

  field_keeps : (field : ℕ) (v : Value) → Keeps span s (lift (read_field span field v) s)
  field_keeps field (value.Bit b) = failed
  field_keeps field (value.Int n) = failed
  field_keeps field value.Null = failed
  field_keeps field (value.Place p) = refl
  field_keeps field (value.Array' shape vs) = failed

  element_keeps : (v w : Value) → Keeps span s (lift (indexed span v w) s)
  element_keeps v (value.Bit b) = failed
  element_keeps v (value.Int n) = or_fail_keeps (element v n)
  element_keeps v value.Null = failed
  element_keeps v (value.Place p) = failed
  element_keeps v (value.Array' shape vs) = failed

  part_keeps : (is : List ℤ) (reference : Value) (field : ℕ) → Keeps span s (lift (load span (record { root = Field reference field; indexes = is })) s)
  part_keeps is (value.Bit b) field = failed
  part_keeps is (value.Int n) field = failed
  part_keeps is value.Null field = failed
  part_keeps is (value.Place p) field = or_fail_keeps (part is (slice_index_or (record_at s.memory p) field blank))
  part_keeps is (value.Array' shape vs) field = failed

  load_keeps_at : (root : Root) (is : List ℤ) → Keeps span s (lift (load span (record { root = root; indexes = is })) s)
  load_keeps_at (Variable slot) is = or_fail_keeps (part is (slice_index_or s.memory.slots slot blank))
  load_keeps_at (Field reference field) is = part_keeps is reference field

  load_keeps : (l : Location) → Keeps span s (lift (load span l) s)
  load_keeps l = load_keeps_at l.root l.indexes

-- ---- steady expressions, by their forms

module _ (a : Activation) (e : PExpr) where
  abbrev formed : PEForm → Does Log
  formed form = does_in a (record { span = e.span; ty = e.ty; form = form })

  steady_as : (form : PEForm) (d : Does Log) → e.form ≡ form → formed form ≡ d → IsSteady d → IsSteady (does_in a e)
  steady_as form d is does h = subst (λ f. IsSteady (formed f)) (sym is) (subst (λ x. IsSteady x) (sym does) h)

  pub steady_number : (n : ℕ) → e.form ≡ eform.Number n → IsSteady (does_in a e)
  steady_number n is = steady_as (eform.Number n) _ is (does_number a.prog.now a.bounds.int_bits (calls_in a) e.span e.ty n) (λ span s. refl)

  pub steady_var : (slot : ℕ) (x : Name) → e.form ≡ eform.Var slot x → IsSteady (does_in a e)
  steady_var slot x is = steady_as (eform.Var slot x) _ is (does_var a.prog.now a.bounds.int_bits (calls_in a) e.span e.ty slot x) (λ span s. refl)

  pub steady_const : (c : ConstId) → e.form ≡ eform.Const c → IsSteady (does_in a e)
  steady_const c is = steady_as (eform.Const c) _ is (does_const a.prog.now a.bounds.int_bits (calls_in a) e.span e.ty c) (λ span s. refl)

  pub steady_paren : (x : PExpr) → e.form ≡ eform.Paren x → IsSteady (does_in a x) → IsSteady (does_in a e)
  steady_paren x is h = steady_as (eform.Paren x) _ is (does_paren a.prog.now a.bounds.int_bits (calls_in a) e.span e.ty x) (λ span s. h span s)

  pub steady_member : (x : PExpr) (d : StructId) (field : ℕ) → e.form ≡ eform.Member x d field → IsSteady (does_in a x) → IsSteady (does_in a e)
  steady_member x d field is h = steady_as (eform.Member x d field) _ is (does_member a.prog.now a.bounds.int_bits (calls_in a) e.span e.ty x d field) (λ span s. keeps_then span s ((does_in a x).value span s) (λ v. lift (read_field span field v)) (h span s) (field_keeps span s field))

  pub steady_index : (x i : PExpr) → e.form ≡ eform.Index x i → IsSteady (does_in a x) → IsSteady (does_in a i) → IsSteady (does_in a e)
  steady_index x i is hx hi = steady_as (eform.Index x i) _ is (does_index a.prog.now a.bounds.int_bits (calls_in a) e.span e.ty x i) (λ span s. both_keep span s ((does_in a x).value span) ((does_in a i).value span) (indexed span) (hx span s) (hi span s) (element_keeps span s))

  pub steady_binary : (o : BinOp) (x y : PExpr) → e.form ≡ eform.Binary o x y → IsTrue (is_arithmetic o) → IsSteady (does_in a x) → IsSteady (does_in a y) → IsSteady (does_in a e)
  steady_binary o x y is may hx hy = steady_as (eform.Binary o x y) _ is (does_binary a.prog.now a.bounds.int_bits (calls_in a) e.span e.ty o x y) (λ span s. binary_keeps span s a.bounds.int_bits o ((does_in a x).value span) ((does_in a y).value span) may (hx span s) (hy span s))

  pub steady_to_int : (x : PExpr) → e.form ≡ eform.ToInt x → IsSteady (does_in a x) → IsSteady (does_in a e)
  steady_to_int x is h = steady_as (eform.ToInt x) _ is (does_to_int a.prog.now a.bounds.int_bits (calls_in a) e.span e.ty x) (λ span s. keeps_then span s ((does_in a x).value span s) (λ v. lift (to_int span v)) (h span s) (to_int_keeps span s))

pub ruleset steady = (steady_member, steady_index, steady_binary, steady_to_int)

-- ---- paths

element_of_some : (found : Option Value) → option_and_then (λ v. Some v) found ≡ found
element_of_some None = refl
element_of_some (Some v) = refl

-- one more index
part_more_by : (is : List ℤ) (z : ℤ) (found : Option Value) → ((v : Value) → part (is ++ z ∷ []) v ≡ option_and_then (λ w. element w z) (part is v)) → option_and_then (part (is ++ z ∷ [])) found ≡ option_and_then (λ w. element w z) (option_and_then (part is) found)
part_more_by is z None h = refl
part_more_by is z (Some v) h = h v

part_more : (is : List ℤ) (z : ℤ) (v : Value) → part (is ++ z ∷ []) v ≡ option_and_then (λ w. element w z) (part is v)
part_more [] z v = element_of_some (element v z)
part_more (i ∷ is) z v = part_more_by is z (element v i) (part_more is z)

unit_right : (m : step.Step Value) → m ≡ step.and_then m (λ v. step.pure v)
unit_right (step.Goes v t) = refl
unit_right (step.Fails at) = refl
unit_right (step.Skips at) = refl

-- one after the other in a memory, and with its log
lift_then : {A B : Type 0} (m : step.Step A) (k : A → Comp B) (log : Log) → and_then (lifted m log) (λ a. lift (k a)) ≡ lifted (step.and_then m k) log
lift_then (step.Goes a t) k log = refl
lift_then (step.Fails at) k log = refl
lift_then (step.Skips at) k log = refl

member_path : (span : Span) (field : ℕ) (m : Going Log Value) → and_then m (λ v. lift (read_field span field v)) ≡ and_then (and_then m (λ v. lift (at_root (Field v field)))) (λ l. lift (load span l))
member_path span field (Goes v t) = ap (λ n. lifted n t.log) (unit_right (read_field span field v t.memory))
member_path span field (Fails at log) = refl
member_path span field (Skips at log) = refl

module _ (span : Span) where
  -- an element of what a root holds
  number_whole : (is : List ℤ) (z : ℤ) (m : step.Step Value) → step.and_then (step.and_then m (λ whole. or_fail span (part is whole))) (λ v. or_fail span (element v z)) ≡ step.and_then m (λ whole. or_fail span (part (is ++ z ∷ []) whole))
  number_whole is z (step.Goes whole t) = by (part is whole) ∙ sym (ap (λ found. or_fail span found t) (part_more is z whole))
    where
      by : (found : Option Value) → step.and_then (or_fail span found t) (λ v. or_fail span (element v z)) ≡ or_fail span (option_and_then (λ w. element w z) found) t
      by None = refl
      by (Some v) = refl
  number_whole is z (step.Fails at) = refl
  number_whole is z (step.Skips at) = refl

  -- the end of a step that keeps memory and log
  abbrev ended : {A : Type 0} → Span → Log → Going Log A
  ended at log = Fails at log

  same_end : {A : Type 0} (t : Recorded Log) (at : Span) (log : Log) → (at ≡ span) × (log ≡ t.log) → ended {A = A} at log ≡ ended span t.log
  same_end t at log h = ap (λ x. Fails x log) h.0 ∙ ap (λ x. Fails span x) h.1

  all_fail : (t : Recorded Log) (m : Going Log Value) → Keeps span t m → and_then {B = Value} m (λ v. fail span) ≡ Fails span t.log
  all_fail t (Goes v u) h = ap (λ w. Fails span w.log) h
  all_fail t (Fails at log) h = same_end t at log h
  all_fail t (Skips at log) h = absurd h

  -- by the value of the index
  by_index : (l : Location) (t : Recorded Log) (i : Value) → and_then (lift (load span l) t) (λ v. lift (indexed span v i)) ≡ and_then (lift (add_index span l i) t) (λ l. lift (load span l))
  by_index l t (value.Int z) = lift_then (load span l t.memory) (λ v. or_fail span (element v z)) t.log ∙ ap (λ m. lifted m t.log) (number_whole l.indexes z (read_root span l.root t.memory))
  by_index l t (value.Bit b) = all_fail t (lift (load span l) t) (load_keeps span t l)
  by_index l t value.Null = all_fail t (lift (load span l) t) (load_keeps span t l)
  by_index l t (value.Place p) = all_fail t (lift (load span l) t) (load_keeps span t l)
  by_index l t (value.Array' shape vs) = all_fail t (lift (load span l) t) (load_keeps span t l)

  module _ (t : Recorded Log) (k : Traced Log Value) where
    with_value : (i : Value) → k t ≡ Goes i t → (m : Going Log Value) → Keeps span t m → and_then m (λ v u. and_then (k u) (λ w. lift (indexed span v w))) ≡ and_then m (λ v. lift (indexed span v i))
    with_value i e (Goes v u) h = subst (λ w. and_then (k w) (λ x. lift (indexed span v x)) ≡ lift (indexed span v i) w) (sym h) (ap (λ n. and_then n (λ x. lift (indexed span v x))) e)
    with_value i e (Fails at log) h = refl
    with_value i e (Skips at log) h = absurd h

    with_none : k t ≡ Fails span t.log → (m : Going Log Value) → Keeps span t m → and_then m (λ v u. and_then (k u) (λ w. lift (indexed span v w))) ≡ Fails span t.log
    with_none e (Goes v u) h = subst (λ w. and_then (k w) (λ x. lift (indexed span v x)) ≡ Fails span t.log) (sym h) (ap (λ n. and_then n (λ x. lift (indexed span v x))) e)
    with_none e (Fails at log) h = same_end t at log h
    with_none e (Skips at log) h = absurd h

    at_location : (l : Location) (n : Going Log Value) → k t ≡ n → Keeps span t n → and_then (lift (load span l) t) (λ v u. and_then (k u) (λ w. lift (indexed span v w))) ≡ and_then (and_then n (λ i. lift (add_index span l i))) (λ l. lift (load span l))
    at_location l (Goes i u) e h =
        let same : k t ≡ Goes i t = e ∙ ap (λ w. Goes i w) h in
        with_value i same (lift (load span l) t) (load_keeps span t l) ∙ by_index l t i ∙ ap (λ w. and_then (lift (add_index span l i) w) (λ l. lift (load span l))) (sym h)
    at_location l (Fails at log) e h =
        let same : k t ≡ Fails span t.log = e ∙ same_end t at log h in
        with_none same (lift (load span l) t) (load_keeps span t l) ∙ sym (same_end t at log h)
    at_location l (Skips at log) e h = absurd h

  element_path : (k : Traced Log Value) → ((t : Recorded Log) → Keeps span t (k t)) → (m : Going Log Location) → and_then (and_then m (λ l. lift (load span l))) (λ v u. and_then (k u) (λ w. lift (indexed span v w))) ≡ and_then (and_then m (λ l u. and_then (k u) (λ w. lift (add_index span l w)))) (λ l. lift (load span l))
  element_path k hk (Goes l t) = at_location t k l (k t) refl (hk t)
  element_path k hk (Fails at log) = refl
  element_path k hk (Skips at log) = refl

module _ (a : Activation) (e : PExpr) where
  path_as : (form : PEForm) (d : Does Log) → e.form ≡ form → formed a e form ≡ d → IsPath d → IsPath (does_in a e)
  path_as form d is does h = subst (λ f. IsPath (formed a e f)) (sym is) (subst (λ x. IsPath x) (sym does) h)

  pub path_var : (slot : ℕ) (x : Name) → e.form ≡ eform.Var slot x → IsPath (does_in a e)
  path_var slot x is = path_as (eform.Var slot x) _ is (does_var a.prog.now a.bounds.int_bits (calls_in a) e.span e.ty slot x) (λ span s. refl)

  pub path_member : (x : PExpr) (d : StructId) (field : ℕ) → e.form ≡ eform.Member x d field → IsPath (does_in a e)
  path_member x d field is = path_as (eform.Member x d field) _ is (does_member a.prog.now a.bounds.int_bits (calls_in a) e.span e.ty x d field) (λ span s. member_path span field ((does_in a x).value span s))

  pub path_index : (x i : PExpr) → e.form ≡ eform.Index x i → IsSteady (does_in a i) → IsPath (does_in a x) → IsPath (does_in a e)
  path_index x i is hi hx = path_as (eform.Index x i) _ is (does_index a.prog.now a.bounds.int_bits (calls_in a) e.span e.ty x i) (λ span s.
      ap (λ m. and_then m (λ v u. and_then ((does_in a i).value span u) (λ w. lift (indexed span v w)))) (hx span s)
      ∙ element_path span ((does_in a i).value span) (hi span) ((does_in a x).target span s))

pub ruleset paths = (path_index, path_member)
