-- The inputs of a program can be listed, each once: each number below their count is that of one, and no two are of the same.
use Rattle.std.proofs.Common.{◌≡◌, inl, inr, ℕ, zero, suc, ◌+◌, ◌*◌, ◌-◌, ◌/◌, ◌%◌, ◌^◌, ◌<◌, ◌≤◌, ◌⊎◌, pos, List, [], ◌∷◌, ◌++◌, Option, Some, None, map, length, slice_get, Bool, true, false, refl, sym, ap, subst, ◌∙◌, arith}
use Rattle.std.specs.Prelude.{Contains, get_or, ◌==◌, ◌&&◌, nat_lt, if◌then◌else◌}
use Rattle.std.specs.List.{list_all}
use Rattle.std.proofs.Math.Nat.{div-add-mod, div-lt_iff_lt-mul, mod-lt, mul_comm, pow-succ', pow-zero}
use Rattle.std.proofs.lemmas.Bool.{cases_lt, eq-eqb, le-ltb, lt-ltb}
use Rattle.std.proofs.lemmas.Option.{get_or_from_slice_get, none-some, same_Some, slice_get-get_or, slice_get_within}
use Rattle.sk_base.specs.declared.bounds.Bounds.{Bounds}
use Rattle.sk_prog.specs.declared.ids.FunId.{FunId}
use Rattle.sk_prog.specs.declared.ty.Elem.{Elem}
use Rattle.sk_prog.specs.declared.ty.Elem.TheVariants as elem
use Rattle.sk_prog.specs.declared.ty.Ty.{Ty}
use Rattle.sk_prog.specs.declared.ty.Ty.TheVariants as ty
use Rattle.sk_prog.specs.declared.value.Value.{Value}
use Rattle.sk_prog.specs.declared.value.Value.TheVariants as value
use Rattle.sk_prog.specs.declared.value.Value.TheOpen as V
use Rattle.sk_prog.specs.declared.value.Value.TheViews.{roll-Value, out-Value, out-roll-Value}
use Rattle.sk_prog.specs.declared.prog.FunKind.{FunKind}
use Rattle.sk_prog.specs.declared.prog.FunKind.TheVariants as kind
use Rattle.sk_prog.specs.declared.prog.ParamDef.{ParamDef}
use Rattle.sk_prog.specs.declared.prog.Fun.{Fun}
use Rattle.sk_prog.specs.declared.prog.Prog.{Prog}
use Rattle.sk_model.specs.declared.expanded.Input.{Input}
use Rattle.sk_model.specs.declared.expanded.Obligation.{Obligation}
use Rattle.sk_model.specs.declared.expanded.Obligation.TheVariants as obligation
use Rattle.sk_model.specs.Inputs.{args_in_range, fun_of, in_range, in_range_step, IsInput}
use Rattle.sk_model.specs.Obligations.{of_kind, of_reference, of_fun, obligations_from, obligations}
use Rattle.sk_oblig_queries.specs.Widths.{params_of_fun, params_of}
use Rattle.sk_loop_laws.specs.Counts.{args_count, elem_size, inputs_count, ty_size}
use Rattle.sk_loop_laws.specs.Laws.{AreAllInputs, InputsAreCounted}
use Rattle.sk_loop_laws.proofs.Counting.{count_of, counts_all, counts_of, input_at, numbered}
use Rattle.sk_loop_laws.proofs.Lists.{get_front}
use Rattle.sk_loop_laws.proofs.Numbering.{all_in_range, args_at, each_at, elem_at, of_rolled, row_at, value_at}

-- Digits

-- the last digit of a number, and the number before it
record Split (n size count : ℕ) : Type 0 where
  low : n % size < size
  high : n / size < count

split : (n size count : ℕ) → n < size * count → Split n size count
split n zero count h = absurd (omega (arith, h))
split n (suc s) count h =
    let p : 0 < suc s = omega arith in
    record { low = mod-lt n p; high = (div-lt_iff_lt-mul p).1 (subst (λ x. n < x) (mul_comm (suc s) count) h) }

-- a number is its last digit and the one before
same_digits : (n m size : ℕ) → n % size ≡ m % size → n / size ≡ m / size → n ≡ m
same_digits n m size low high = sym (div-add-mod n size) ∙ ap (λ q. size * q + n % size) high ∙ ap (λ r. size * (m / size) + r) low ∙ div-add-mod m size

both : (a b : Bool) → a ≡ true → b ≡ true → a && b ≡ true
both a b h k = ap (λ x. x && b) h ∙ k

-- Values

same_layer : (x y : V.Value-F Value) → roll-Value x ≡ roll-Value y → x ≡ y
same_layer x y h = sym (out-roll-Value x) ∙ ap out-Value h ∙ out-roll-Value y

same_ints : (n m : ℕ) → value.Int (pos n) ≡ value.Int (pos m) → n ≡ m
same_ints n m h = let layers = same_layer (V.Int (pos n)) (V.Int (pos m)) (value.rolls-Int (pos n) ∙ h ∙ sym (value.rolls-Int (pos m))) in cc layers

same_bits : (a b : Bool) → value.Bit a ≡ value.Bit b → a ≡ b
same_bits a b h = let layers = same_layer (V.Bit a) (V.Bit b) (value.rolls-Bit a ∙ h ∙ sym (value.rolls-Bit b)) in cc layers

same_arrays : (vs ws : List Value) → value.Array vs ≡ value.Array ws → vs ≡ ws
same_arrays vs ws h = let layers = same_layer (V.Array vs) (V.Array ws) (value.rolls-Array vs ∙ h ∙ sym (value.rolls-Array ws)) in cc layers

same_digit : (n m : ℕ) → n < 2 → m < 2 → (n == 1) ≡ (m == 1) → n ≡ m
same_digit zero zero h k e = refl
same_digit zero (suc zero) h k e = cc e
same_digit (suc zero) zero h k e = cc e
same_digit (suc zero) (suc zero) h k e = refl
same_digit zero (suc (suc m)) h k e = absurd (omega (arith, k))
same_digit (suc zero) (suc (suc m)) h k e = absurd (omega (arith, k))
same_digit (suc (suc n)) m h k e = absurd (omega (arith, h))

module _ (inbits : ℕ) where
  -- numbers below a size are of values in range of a type, each of another
  record IsListing (t : Ty) (at : ℕ → Value) (size : ℕ) : Type 0 where
    inside : (n : ℕ) → n < size → in_range inbits (at n) t ≡ true
    once : (n m : ℕ) → n < size → m < size → at n ≡ at m → n ≡ m

  elem_listing : (e : Elem) → IsListing (ty.One e) (elem_at e) (elem_size inbits e)
  elem_listing elem.Int = record {
    inside = λ n h. of_rolled inbits (V.Int (pos n)) (value.Int (pos n)) (value.rolls-Int (pos n)) (ty.One elem.Int) ∙ lt-ltb n (2 ^ inbits) h;
    once = λ n m h k e. same_ints n m e;
  }
  elem_listing elem.Bit = record {
    inside = λ n h. of_rolled inbits (V.Bit (n == 1)) (value.Bit (n == 1)) (value.rolls-Bit (n == 1)) (ty.One elem.Bit);
    once = λ n m h k e. same_digit n m h k (same_bits (n == 1) (m == 1) e);
  }
  elem_listing (elem.Reference s) = record {
    inside = λ n h. absurd (omega (arith, h));
    once = λ n m h k e. absurd (omega (arith, h));
  }

  module _ (t : Ty) (at : ℕ → Value) (size : ℕ) (listing : IsListing t at size) where
    each_inside : (k n : ℕ) → n < size ^ k → all_in_range inbits t (each_at at size k n) ≡ true
    each_inside zero n h = refl
    each_inside (suc k) n h =
        let d = split n size (size ^ k) (subst (λ x. n < x) (pow-succ' size k) h) in
        both (in_range inbits (at (n % size)) t) (all_in_range inbits t (each_at at size k (n / size))) (listing.inside (n % size) d.low) (each_inside k (n / size) d.high)

    each_once : (k n m : ℕ) → n < size ^ k → m < size ^ k → each_at at size k n ≡ each_at at size k m → n ≡ m
    each_once zero n m h i e =
        let a : n < 1 = subst (λ x. n < x) (pow-zero size) h in
        let b : m < 1 = subst (λ x. m < x) (pow-zero size) i in
        omega (arith, a, b)
    each_once (suc k) n m h i e =
        let a = split n size (size ^ k) (subst (λ x. n < x) (pow-succ' size k) h) in
        let b = split m size (size ^ k) (subst (λ x. m < x) (pow-succ' size k) i) in
        let first : at (n % size) ≡ at (m % size) = cc e in
        let rest : each_at at size k (n / size) ≡ each_at at size k (m / size) = cc e in
        same_digits n m size (listing.once (n % size) (m % size) a.low b.low first) (each_once k (n / size) (m / size) a.high b.high rest)

    many : (k n : ℕ) → length (map (in_range inbits) (each_at at size k n)) ≡ k
    many zero n = refl
    many (suc k) n = ap suc (many k (n / size))

    array_listing : (k : ℕ) (whole : Ty) → ((ps : List (Ty → Bool)) → in_range_step inbits (V.Array ps) whole ≡ ((length ps == k) && list_all (λ p. p t) ps)) → IsListing whole (λ n. value.Array (each_at at size k n)) (size ^ k)
    array_listing k whole is = record {
      inside = λ n h.
          let vs = each_at at size k n in
          of_rolled inbits (V.Array vs) (value.Array vs) (value.rolls-Array vs) whole ∙ is (map (in_range inbits) vs)
          ∙ both (length (map (in_range inbits) vs) == k) (all_in_range inbits t vs) (eq-eqb (length (map (in_range inbits) vs)) k (many k n)) (each_inside k n h);
      once = λ n m h i e. each_once k n m h i (same_arrays (each_at at size k n) (each_at at size k m) e);
    }

  value_listing : (t : Ty) → IsListing t (value_at inbits t) (ty_size inbits t)
  value_listing (ty.One e) = elem_listing e
  value_listing (ty.Array e k) = array_listing (ty.One e) (elem_at e) (elem_size inbits e) (elem_listing e) k (ty.Array e k) (λ ps. refl)
  value_listing (ty.Grid e k m) =
      array_listing (ty.Array e k) (λ n. value.Array (row_at e (elem_size inbits e) k n)) (elem_size inbits e ^ k)
      (array_listing (ty.One e) (elem_at e) (elem_size inbits e) (elem_listing e) k (ty.Array e k) (λ ps. refl)) m (ty.Grid e k m) (λ ps. refl)

  -- Arguments

  args_inside : (ps : List ParamDef) (n : ℕ) → n < args_count inbits ps → args_in_range inbits ps (args_at inbits ps n) ≡ true
  args_inside [] n h = refl
  args_inside (p ∷ ps) n h =
      let size : ℕ = ty_size inbits p.ty in
      let d = split n size (args_count inbits ps) h in
      both (in_range inbits (value_at inbits p.ty (n % size)) p.ty) (args_in_range inbits ps (args_at inbits ps (n / size))) ((value_listing p.ty).inside (n % size) d.low) (args_inside ps (n / size) d.high)

  args_once : (ps : List ParamDef) (n m : ℕ) → n < args_count inbits ps → m < args_count inbits ps → args_at inbits ps n ≡ args_at inbits ps m → n ≡ m
  args_once [] n m h i e = omega (arith, h, i)
  args_once (p ∷ ps) n m h i e =
      let size : ℕ = ty_size inbits p.ty in
      let a = split n size (args_count inbits ps) h in
      let b = split m size (args_count inbits ps) i in
      let first : value_at inbits p.ty (n % size) ≡ value_at inbits p.ty (m % size) = cc e in
      let rest : args_at inbits ps (n / size) ≡ args_at inbits ps (m / size) = cc e in
      same_digits n m size ((value_listing p.ty).once (n % size) (m % size) a.low b.low first) (args_once ps (n / size) (m / size) a.high b.high rest)

-- Inputs

module _ (inbits : ℕ) (prog : Prog) where
  -- an input of one of the obligations, of which the first has this number, with arguments in range
  record IsOf (os : List Obligation) (first : ℕ) (x : Input) : Type 0 where
    place : ℕ
    own : Obligation
    at : slice_get os place ≡ Some own
    is : x.obligation ≡ first + place
    args : args_in_range inbits (params_of prog own) x.args ≡ true

  input_inside : (os : List Obligation) (first n : ℕ) → n < counts_of inbits prog os → IsOf os first (input_at inbits prog os first n)
  input_inside [] first n h = absurd (omega (arith, h))
  input_inside (o ∷ os) first n h = elim (cases_lt n (count_of inbits prog o)) [
    | inl less ↦ (
        let here : nat_lt n (count_of inbits prog o) ≡ true = lt-ltb n (count_of inbits prog o) less in
        rw here (record { place = 0; own = o; at = refl; is = omega arith; args = args_inside inbits (params_of prog o) n less }))
    | inr more ↦ (
        let later : nat_lt n (count_of inbits prog o) ≡ false = le-ltb n (count_of inbits prog o) more in
        let r = input_inside os (first + 1) (n - count_of inbits prog o) (omega (arith, h, more)) in
        rw later (record { place = suc r.place; own = r.own; at = r.at; is = (let e = r.is in omega (arith, e)); args = r.args }))
  ]

  input_once : (os : List Obligation) (first n m : ℕ) → n < counts_of inbits prog os → m < counts_of inbits prog os → input_at inbits prog os first n ≡ input_at inbits prog os first m → n ≡ m
  input_once [] first n m h i e = absurd (omega (arith, h))
  input_once (o ∷ os) first n m h i e = by (λ k l a b same. input_once os (first + 1) k l a b same) (cases_lt n count) (cases_lt m count)
    where
      count : ℕ
      count = count_of inbits prog o

      of_args : List Value → Input
      of_args vs = record { obligation = first; args = vs }

      here : (k : ℕ) → k < count → input_at inbits prog (o ∷ os) first k ≡ of_args (args_at inbits (params_of prog o) k)
      here k less = (let t : nat_lt k count ≡ true = lt-ltb k count less in rw t refl)

      later : (k : ℕ) → count ≤ k → input_at inbits prog (o ∷ os) first k ≡ input_at inbits prog os (first + 1) (k - count)
      later k more = (let t : nat_lt k count ≡ false = le-ltb k count more in rw t refl)

      apart : (k l : ℕ) → k < count → count ≤ l → l < counts_of inbits prog (o ∷ os) → input_at inbits prog (o ∷ os) first k ≡ input_at inbits prog (o ∷ os) first l → ⊥
      apart k l less more within same =
          let r = input_inside os (first + 1) (l - count) (omega (arith, within, more)) in
          let numbers : first ≡ (input_at inbits prog os (first + 1) (l - count)).obligation = ap (λ (x : Input). x.obligation) (sym (here k less) ∙ same ∙ later l more) in
          let far = r.is in
          omega (arith, numbers, far)

      by : ((k l : ℕ) → k < counts_of inbits prog os → l < counts_of inbits prog os → input_at inbits prog os (first + 1) k ≡ input_at inbits prog os (first + 1) l → k ≡ l) → (n < count) ⊎ (count ≤ n) → (m < count) ⊎ (count ≤ m) → n ≡ m
      by again (inl a) (inl b) = args_once inbits (params_of prog o) n m a b (ap (λ (x : Input). x.args) (sym (here n a) ∙ e ∙ here m b))
      by again (inl a) (inr b) = absurd (apart n m a b i e)
      by again (inr a) (inl b) = absurd (apart m n b a h (sym e))
      by again (inr a) (inr b) =
          let back : n - count ≡ m - count = again (n - count) (m - count) (omega (arith, h, a)) (omega (arith, i, b)) (sym (later n a) ∙ e ∙ later m b) in
          omega (arith, back, a, b)

  -- The function of an obligation is there.

  abbrev IsThere : Obligation → Type 0
  IsThere o = (f : Fun) × (slice_get prog.funs (fun_of o).index ≡ Some f)

  abbrev AreThere : List Obligation → Type 0
  AreThere os = (i : ℕ) (o : Obligation) → slice_get os i ≡ Some o → IsThere o

  there_append : (os ps : List Obligation) → AreThere os → AreThere ps → AreThere (os ++ ps)
  there_append [] ps a b i o at = b i o at
  there_append (p ∷ os) ps a b zero o at = a zero o at
  there_append (p ∷ os) ps a b (suc i) o at = there_append os ps (λ j q e. a (suc j) q e) b i o at

  there_one : (p : Obligation) → IsThere p → AreThere (p ∷ [])
  there_one p there zero o at = subst IsThere (same_Some p o at) there
  there_one p there (suc i) o at = absurd (none-some o at)

  there_none : AreThere []
  there_none i o at = absurd (none-some o at)

  kind_there : (f : FunId) (k : FunKind) → IsThere (obligation.Harness f) → AreThere (of_kind f k)
  kind_there f kind.Harness there = there_one (obligation.Harness f) there
  kind_there f k there = there_none

  reference_there : (f : FunId) (r : Option FunId) → IsThere (obligation.Harness f) → AreThere (of_reference f r)
  reference_there f None there = there_none
  reference_there f (Some g) there = there_one (obligation.Implements f g) there

  all_there : (n : ℕ) (fs : List Fun) → ((k : ℕ) (f : Fun) → slice_get fs k ≡ Some f → slice_get prog.funs (n + k) ≡ Some f) → AreThere (obligations_from n fs)
  all_there n [] h = there_none
  all_there n (f ∷ fs) h =
      let own : FunId = record { index = n } in
      let e : n + 0 ≡ n = omega arith in
      let there : IsThere (obligation.Harness own) = (f, ap (slice_get prog.funs) (sym e) ∙ h 0 f refl) in
      there_append (of_fun own f) (obligations_from (n + 1) fs)
      (there_append (of_kind own f.kind) (of_reference own f.implements) (kind_there own f.kind there) (reference_there own f.implements there))
      (all_there (n + 1) fs (λ k g at. (let e : n + 1 + k ≡ n + suc k = omega arith in ap (slice_get prog.funs) e ∙ h (suc k) g at)))

  is_input : (bounds : Bounds) → bounds.inbits ≡ inbits → (x : Input) → IsOf (obligations prog) 0 x → IsInput prog bounds x
  is_input bounds same x r =
      let there = all_there 0 prog.funs (λ k f at. (let e : 0 + k ≡ k = omega arith in ap (slice_get prog.funs) e ∙ at)) r.place r.own r.at in
      let number : x.obligation ≡ r.place = (let e = r.is in omega (arith, e)) in
      let params : params_of prog r.own ≡ (there.0).params = ap params_of_fun there.1 in
      record {
        obligation = r.own;
        fun = there.0;
        is_obligation = ap (slice_get (obligations prog)) number ∙ r.at;
        is_fun = there.1;
        args = subst (λ (k : ℕ). args_in_range k (there.0).params x.args ≡ true) (sym same) (subst (λ (ps : List ParamDef). args_in_range inbits ps x.args ≡ true) params r.args);
      }

-- Lists by numbers

module _ {X : Type 0} (at : ℕ → X) where
  -- so many from a number on
  abbrev listed : ℕ → ℕ → List X
  listed first zero = []
  listed first (suc k) = at first ∷ listed (first + 1) k

  listed_long : (first k : ℕ) → length (listed first k) ≡ k
  listed_long first zero = refl
  listed_long first (suc k) = ap suc (listed_long (first + 1) k)

  listed_get : (first k i : ℕ) → i < k → slice_get (listed first k) i ≡ Some (at (first + i))
  listed_get first zero i h = absurd (omega (arith, h))
  listed_get first (suc k) zero h = (let e : first ≡ first + 0 = omega arith in ap (λ n. Some (at n)) e)
  listed_get first (suc k) (suc i) h = (let e : first + 1 + i ≡ first + suc i = omega arith in listed_get (first + 1) k i (omega (arith, h)) ∙ ap (λ n. Some (at n)) e)

pub inputs_are_counted : InputsAreCounted
inputs_are_counted prog bounds = (xs, record { long = listed_long at 0 count; each = λ x. (forth x, back x); once = once })
  where
    count : ℕ
    count = inputs_count bounds.inbits prog.funs

    at : ℕ → Input
    at = input_at bounds.inbits prog (obligations prog) 0

    xs : List Input
    xs = listed at 0 count

    below : (n : ℕ) → n < count → n < counts_of bounds.inbits prog (obligations prog)
    below n h = subst (λ c. n < c) (sym (counts_all bounds.inbits prog)) h

    read_at : (i : ℕ) → i < count → slice_get xs i ≡ Some (at i)
    read_at i h = (let e : 0 + i ≡ i = omega arith in listed_get at 0 count i h ∙ ap (λ n. Some (at n)) e)

    forth : (x : Input) → IsInput prog bounds x → Contains xs x
    forth x is =
        let d = numbered prog bounds x is in
        let long = listed_long at 0 count in
        let read : slice_get xs d.0 ≡ Some x = read_at d.0 d.1 ∙ ap Some d.2 in
        (d.0, omega (arith, d.1, long), get_or_from_slice_get xs d.0 x x read)

    within : (i : ℕ) (x : Input) → slice_get xs i ≡ Some x → (i < count) × (at i ≡ x)
    within i x e =
        let h = slice_get_within xs i x e in
        let long = listed_long at 0 count in
        let less : i < count = omega (arith, h, long) in
        (less, same_Some (at i) x (sym (read_at i less) ∙ e))

    back : (x : Input) → Contains xs x → IsInput prog bounds x
    back x c =
        let w = within c.0 x (slice_get-get_or xs c.0 x c.1 ∙ ap Some c.2) in
        subst (IsInput prog bounds) w.1 (is_input bounds.inbits prog bounds refl (at c.0) (input_inside bounds.inbits prog (obligations prog) 0 c.0 (below c.0 w.0)))

    once : (i j : ℕ) (x : Input) → slice_get xs i ≡ Some x → slice_get xs j ≡ Some x → i ≡ j
    once i j x a b =
        let v = within i x a in
        let w = within j x b in
        input_once bounds.inbits prog (obligations prog) 0 i j (below i v.0) (below j w.0) (v.1 ∙ sym w.1)
