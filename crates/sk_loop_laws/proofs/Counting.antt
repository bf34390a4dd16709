-- Honest pairs are at most as many as the program has inputs: each input has a number below their count, and no two the same.
use Rattle.std.proofs.Common.{◌≡◌, ℕ, zero, suc, ◌+◌, ◌-◌, ◌<◌, ◌≤◌, Bool, true, false, ◌||◌, eqb, List, [], ◌∷◌, ◌++◌, Option, Some, None, length, slice_get, refl, sym, ap, subst, ◌∙◌, arith, true≢false}
use Rattle.std.specs.Prelude.{nat_lt, if◌then◌else◌}
use Rattle.std.specs.List.{list_any, AllByRecursion, IsDistinct}
use Rattle.std.proofs.lemmas.Bool.{lt-ltb, le-ltb, eqb-true}
use Rattle.std.proofs.lemmas.List.{length-map}
use Rattle.std.proofs.lemmas.Map.Steps.{length-le_from_distinct_below}
use Rattle.std.proofs.lemmas.Option.{none-some, same_Some}
use Rattle.sk_base.specs.declared.bounds.Bounds.{Bounds}
use Rattle.sk_prog.specs.declared.ids.FunId.{FunId}
use Rattle.sk_prog.specs.declared.value.Value.{Value}
use Rattle.sk_prog.specs.declared.prog.FunKind.{FunKind}
use Rattle.sk_prog.specs.declared.prog.FunKind.TheVariants as kind
use Rattle.sk_prog.specs.declared.prog.ParamDef.{ParamDef}
use Rattle.sk_prog.specs.declared.prog.Fun.{Fun}
use Rattle.sk_prog.specs.declared.prog.Prog.{Prog}
use Rattle.sk_model.specs.declared.expanded.Input.{Input}
use Rattle.sk_model.specs.declared.expanded.Obligation.{Obligation}
use Rattle.sk_model.specs.declared.expanded.Obligation.TheVariants as obligation
use Rattle.sk_model.specs.declared.expanded.Pair.{Pair}
use Rattle.sk_model.specs.Inputs.{args_in_range, IsInput}
use Rattle.sk_model.specs.Obligations.{of_kind, of_reference, of_fun, obligations_from, obligations}
use Rattle.sk_oblig_queries.specs.Widths.{params_of_fun, params_of}
use Rattle.sk_loop_laws.specs.Counts.{args_count, harness_inputs, reference_inputs, inputs_count}
use Rattle.sk_loop_laws.specs.Honest.{inputs_of}
use Rattle.sk_loop_laws.specs.Laws.{RoundsAreFew}
use Rattle.sk_loop_laws.proofs.Lists.{all_at}
use Rattle.sk_loop_laws.proofs.Numbering.{args_at, args_number}
use Rattle.sk_loop_laws.proofs.Pairs.{honest_are_inputs, inputs_are_distinct}

-- Numbers of distinct elements

-- so many distinct numbers below a count, each of an element of the list
record Numbers {X : Type 0} (at : ℕ → X) (count : ℕ) (xs : List X) : Type 0 where
  list : List ℕ
  long : length list ≡ length xs
  distinct : IsDistinct eqb list
  below : (q : ℕ) → list_any (eqb q) list ≡ true → q < count
  there : (q : ℕ) → list_any (eqb q) list ≡ true → (i : ℕ) × (slice_get xs i ≡ Some (at q))

none_equal : (x : ℕ) (ys : List ℕ) → (list_any (eqb x) ys ≡ true → ⊥) → AllByRecursion (λ y. eqb x y ≡ false) ys
none_equal x [] h = tt
none_equal x (y ∷ ys) h = (first (eqb x y) (list_any (eqb x) ys) h, none_equal x ys (λ e. h (later (eqb x y) (list_any (eqb x) ys) e)))
  where
    first : (a b : Bool) → (a || b ≡ true → ⊥) → a ≡ false
    first true b h = absurd (h refl)
    first false b h = refl

    later : (a b : Bool) → b ≡ true → a || b ≡ true
    later true b e = refl
    later false b e = e

-- a number of a list with one more before it is that one, or one of the list
either_number : {P : Type 0} (q n : ℕ) (ns : List ℕ) → list_any (eqb q) (n ∷ ns) ≡ true → (q ≡ n → P) → (list_any (eqb q) ns ≡ true → P) → P
either_number {P} q n ns h one more = by (eqb q n) refl
  where
    by : (b : Bool) → eqb q n ≡ b → P
    by true e = one (eqb-true q n e)
    by false e = more (ap (λ b. b || list_any (eqb q) ns) (sym e) ∙ h)

number_all : {X : Type 0} (at : ℕ → X) (count : ℕ) (xs : List X) → ((i : ℕ) (x : X) → slice_get xs i ≡ Some x → (n : ℕ) × (n < count) × (at n ≡ x)) → ((i j : ℕ) (x : X) → slice_get xs i ≡ Some x → slice_get xs j ≡ Some x → i ≡ j) → Numbers at count xs
unfolding IsDistinct
number_all at count [] h apart = record { list = []; long = refl; distinct = tt; below = λ q e. absurd (true≢false (sym e)); there = λ q e. absurd (true≢false (sym e)) }
number_all at count (x ∷ xs) h apart =
    let r = number_all at count xs (λ i y e. h (suc i) y e) (λ i j y a b. (let e : suc i ≡ suc j = apart (suc i) (suc j) y a b in omega (arith, e))) in
    let own = h 0 x refl in
    let fresh : list_any (eqb own.0) r.list ≡ true → ⊥ = λ e. (let t = r.there own.0 e in let same : 0 ≡ suc t.0 = apart 0 (suc t.0) x refl (t.1 ∙ ap Some own.2) in omega (arith, same)) in
    record {
      list = own.0 ∷ r.list;
      long = ap suc r.long;
      distinct = (none_equal own.0 r.list fresh, r.distinct);
      below = λ q e. either_number q own.0 r.list e (λ same. subst (λ n. n < count) (sym same) own.1) (λ more. r.below q more);
      there = λ q e. either_number q own.0 r.list e (λ same. (0, ap Some (sym own.2 ∙ ap at (sym same)))) (λ more. (let t = r.there q more in (suc t.0, t.1)));
    }

-- so many distinct elements with numbers below a count are at most as many
few_numbered : {X : Type 0} (at : ℕ → X) (count : ℕ) (xs : List X) → Numbers at count xs → length xs ≤ count
few_numbered at count xs n = let few = length-le_from_distinct_below n.list count n.distinct n.below in omega (arith, few, n.long)

-- Inputs by their numbers

module _ (inbits : ℕ) (prog : Prog) where
  abbrev pub count_of : Obligation → ℕ
  count_of o = args_count inbits (params_of prog o)

  abbrev pub counts_of : List Obligation → ℕ
  counts_of [] = 0
  counts_of (o ∷ os) = count_of o + counts_of os

  -- the input with a number of obligations of which the first has this number
  abbrev pub input_at : List Obligation → ℕ → ℕ → Input
  input_at [] first n = record { obligation = first; args = [] }
  input_at (o ∷ os) first n = if nat_lt n (count_of o) then record { obligation = first; args = args_at inbits (params_of prog o) n } else input_at os (first + 1) (n - count_of o)

  abbrev with_args : List Value → ℕ → Input
  with_args vs k = record { obligation = k; args = vs }

  number_in : (os : List Obligation) (k first : ℕ) (o : Obligation) (vs : List Value) → slice_get os k ≡ Some o → args_in_range inbits (params_of prog o) vs ≡ true → (n : ℕ) × (n < counts_of os) × (input_at os first n ≡ with_args vs (first + k))
  number_in [] k first o vs at h = absurd (none-some o at)
  number_in (p ∷ os) zero first o vs at h =
      let d = args_number inbits (params_of prog p) vs (subst (λ o. args_in_range inbits (params_of prog o) vs ≡ true) (sym (same_Some p o at)) h) in
      let here : nat_lt d.0 (count_of p) ≡ true = lt-ltb d.0 (count_of p) d.1 in
      let e : first ≡ first + 0 = omega arith in
      (d.0, omega (arith, d.1), rw here (ap (λ ws. with_args ws first) d.2 ∙ ap (with_args vs) e))
  number_in (p ∷ os) (suc k) first o vs at h =
      let d = number_in os k (first + 1) o vs at h in
      let more : count_of p ≤ count_of p + d.0 = omega arith in
      let later : nat_lt (count_of p + d.0) (count_of p) ≡ false = le-ltb (count_of p + d.0) (count_of p) more in
      let back : count_of p + d.0 - count_of p ≡ d.0 = omega arith in
      let e : first + 1 + k ≡ first + suc k = omega arith in
      (count_of p + d.0, omega (arith, d.1), rw (later, back) (d.2 ∙ ap (with_args vs) e))

  -- How many there are

  counts_append : (os ps : List Obligation) → counts_of (os ++ ps) ≡ counts_of os + counts_of ps
  counts_append [] ps = omega arith
  counts_append (o ∷ os) ps = let rest = counts_append os ps in omega (arith, rest)

  of_kind_count : (f : FunId) (k : FunKind) (c : ℕ) → count_of (obligation.Harness f) ≡ c → counts_of (of_kind f k) ≡ harness_inputs k c
  of_kind_count f kind.Harness c e = omega (arith, e)
  of_kind_count f k c e = refl

  of_reference_count : (f : FunId) (r : Option FunId) (c : ℕ) → count_of (obligation.Harness f) ≡ c → counts_of (of_reference f r) ≡ reference_inputs r c
  of_reference_count f None c e = refl
  of_reference_count f (Some g) c e = omega (arith, e)

  counts_from : (n : ℕ) (fs : List Fun) → ((k : ℕ) (f : Fun) → slice_get fs k ≡ Some f → slice_get prog.funs (n + k) ≡ Some f) → counts_of (obligations_from n fs) ≡ inputs_count inbits fs
  counts_from n [] h = refl
  counts_from n (f ∷ fs) h =
      let own : FunId = record { index = n } in
      let e : n + 0 ≡ n = omega arith in
      let there : slice_get prog.funs n ≡ Some f = ap (slice_get prog.funs) (sym e) ∙ h 0 f refl in
      let c : count_of (obligation.Harness own) ≡ args_count inbits f.params = ap (λ o. args_count inbits (params_of_fun o)) there in
      let a = of_kind_count own f.kind (args_count inbits f.params) c in
      let b = of_reference_count own f.implements (args_count inbits f.params) c in
      let two = counts_append (of_kind own f.kind) (of_reference own f.implements) in
      let all = counts_append (of_fun own f) (obligations_from (n + 1) fs) in
      let rest = counts_from (n + 1) fs (λ k g at. (let e : n + 1 + k ≡ n + suc k = omega arith in ap (slice_get prog.funs) e ∙ h (suc k) g at)) in
      omega (arith, a, b, two, all, rest)

  pub counts_all : counts_of (obligations prog) ≡ inputs_count inbits prog.funs
  counts_all = counts_from 0 prog.funs (λ k f at. (let e : 0 + k ≡ k = omega arith in ap (slice_get prog.funs) e ∙ at))

-- each input has a number below the count
pub numbered : (prog : Prog) (bounds : Bounds) (x : Input) → IsInput prog bounds x → (n : ℕ) × (n < inputs_count bounds.inbits prog.funs) × (input_at bounds.inbits prog (obligations prog) 0 n ≡ x)
numbered prog bounds x is =
    let params : (is.fun).params ≡ params_of prog is.obligation = sym (ap params_of_fun is.is_fun) in
    let d = number_in bounds.inbits prog (obligations prog) x.obligation 0 is.obligation x.args is.is_obligation (subst (λ (ps : List ParamDef). args_in_range bounds.inbits ps x.args ≡ true) params is.args) in
    let e : 0 + x.obligation ≡ x.obligation = omega arith in
    (d.0, subst (λ n. d.0 < n) (counts_all bounds.inbits prog) d.1, d.2 ∙ ap (λ k. record { obligation = k; args = x.args }) e)

pub rounds_are_few : RoundsAreFew
rounds_are_few e bounds pairs h =
    let xs : List Input = inputs_of pairs in
    let at : ℕ → Input = input_at bounds.inbits e.prog (obligations e.prog) 0 in
    let count : ℕ = inputs_count bounds.inbits e.prog.funs in
    let few = few_numbered at count xs (number_all at count xs (λ i x there. numbered e.prog bounds x (all_at (IsInput e.prog bounds) xs i x (honest_are_inputs e bounds pairs h) there)) (inputs_are_distinct e bounds pairs h)) in
    let same : length xs ≡ length pairs = length-map pairs (λ (p : Pair). p.input) in
    omega (arith, few, same)
