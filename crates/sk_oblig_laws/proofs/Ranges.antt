-- What numbers say that are small enough is in range exactly where it holds no reference.
use Rattle.std.proofs.Common.{◌≡◌, ℕ, zero, suc, ◌+◌, ◌*◌, ◌^◌, ◌<◌, ◌≤◌, pos, List, [], ◌∷◌, ◌++◌, map, length, drop, take, replicate, slice_get, Some, Bool, true, false, not, ◌&&◌, refl, sym, ap, subst, ◌∙◌, arith, length-append}
use Rattle.std.specs.Prelude.{◌==◌, nat_lt, slice_index_or}
use Rattle.std.specs.List.{list_all}
use Rattle.std.proofs.lemmas.Bool.{lt-ltb, eq-eqb}
use Rattle.std.proofs.lemmas.Bool.Decides.{nat_tests}
use Rattle.std.proofs.lemmas.List.{drop-drop, get_or-drop, length-replicate, replicate-append-replicate, length-take-le}
use Rattle.std.proofs.lemmas.Option.{none-some, same_Some}
use Rattle.std.proofs.Math.Pow.{pow_pos, pow_mono}
use Rattle.sk_prog.specs.declared.ty.Elem.{Elem}
use Rattle.sk_prog.specs.declared.ty.Elem.TheVariants as elem
use Rattle.sk_prog.specs.declared.ty.Ty.{Ty}
use Rattle.sk_prog.specs.declared.ty.Ty.TheVariants as ty
use Rattle.sk_prog.specs.declared.value.Value.{Value}
use Rattle.sk_prog.specs.declared.value.Value.TheVariants as value
use Rattle.sk_prog.specs.declared.value.Value.TheOpen as V
use Rattle.sk_prog.specs.declared.value.Value.TheViews.{roll-Value}
use Rattle.sk_prog.specs.declared.value.Value.TheFolds.{map-Value, fold-roll-Value}
use Rattle.sk_prog.specs.declared.prog.ParamDef.{ParamDef}
use Rattle.sk_prog.specs.declared.prog.Prog.{Prog}
use Rattle.sk_model.specs.declared.expanded.Obligation.{Obligation}
use Rattle.sk_model.specs.Inputs.{in_range, in_range_step, args_in_range}
use Rattle.sk_dag.specs.declared.env.Env.{Env}
use Rattle.sk_dag.specs.Eval.{entry}
use Rattle.sk_gates.specs.Words.{number}
use Rattle.sk_gates.proofs.WordLaws.{number_below}
use Rattle.sk_oblig_queries.specs.Numbers.{numbers_said}
use Rattle.sk_oblig_queries.specs.Widths.{elem_width, elem_of, numbers_of, ty_widths, params_widths, params_of, obligations_widths}
use Rattle.sk_oblig_queries.specs.Said.{first_of, elem_said, row_said, rows_said, value_said, args_said}
use Rattle.sk_oblig_laws.specs.Laws.{is_reference, is_plain, are_plain, StartsBelow, HasNumbers, PlainIsInRange}
use Rattle.sk_oblig_laws.proofs.Saying.{number_at}

-- Numbers that start below widths

pub starts_split : (ws vs ns : List ℕ) → StartsBelow (ws ++ vs) ns → StartsBelow ws ns × StartsBelow vs (drop (length ws) ns)
starts_split [] vs ns h = (tt, h)
starts_split (w ∷ ws) vs [] h = absurd h
starts_split (w ∷ ws) vs (n ∷ ns) h = let r = starts_split ws vs ns h.1 in ((h.0, r.0), r.1)

pub starts_said : (ws : List ℕ) (bits : List Bool) → StartsBelow ws (numbers_said ws bits)
starts_said [] bits = tt
starts_said (w ∷ ws) bits =
    let below = number_below (take w bits) in
    let few : length (take w bits) ≤ w = omega (arith, length_take w bits) in
    let up : 2 ^ length (take w bits) ≤ 2 ^ w = pow_mono {i = length (take w bits)} {j = w} few in
    (omega (arith, below, up), starts_said ws (drop w bits))
  where
    length_take : (k : ℕ) (xs : List Bool) → length (take k xs) ≤ k
    length_take zero xs = omega arith
    length_take (suc k) [] = omega arith
    length_take (suc k) (x ∷ xs) = omega (arith, length_take k xs)

pub starts_at : (inbits : ℕ) (prog : Prog) (os : List Obligation) (i : ℕ) (o : Obligation) (ns : List ℕ) → slice_get os i ≡ Some o → StartsBelow (obligations_widths inbits prog os) ns → StartsBelow (params_widths inbits (params_of prog o)) (drop (length (obligations_widths inbits prog (take i os))) ns)
starts_at inbits prog [] i o ns h below = absurd (none-some o h)
starts_at inbits prog (p ∷ os) zero o ns h below =
    let e : p ≡ o = same_Some p o h in
    subst (λ (q : Obligation). StartsBelow (params_widths inbits (params_of prog q)) ns) e (starts_split (params_widths inbits (params_of prog p)) (obligations_widths inbits prog os) ns below).0
starts_at inbits prog (p ∷ os) (suc i) o ns h below =
    let ws : List ℕ = params_widths inbits (params_of prog p) in
    let before : List ℕ = obligations_widths inbits prog (take i os) in
    let rest = starts_at inbits prog os i o (drop (length ws) ns) h (starts_split ws (obligations_widths inbits prog os) ns below).1 in
    subst (StartsBelow (params_widths inbits (params_of prog o))) (drop-drop (length before) (length ws) ns ∙ ap (λ k. drop k ns) (sym (length-append ws before))) rest

-- Numbers of an environment

pub has_later : {e : Env} {first : ℕ} {numbers : List ℕ} (k : ℕ) → HasNumbers e first numbers → HasNumbers e (first + k) (drop k numbers)
has_later {e} {first} {numbers} k h = record {
  each = λ i.
      let at : first + k + i ≡ first + (k + i) = omega arith in
      ap (entry e.input) at ∙ h.each (k + i) ∙ ap pos (sym (get_or-drop k numbers i 0));
}

pub has_all : (numbers : List ℕ) → HasNumbers (record { choice = []; input = map pos numbers }) 0 numbers
has_all numbers = record { each = λ i. let at : 0 + i ≡ i = omega arith in ap (entry (map pos numbers)) at ∙ number_at numbers i }

-- Ranges

module _ (inbits : ℕ) where
  of_rolled : (x : V.Value-F Value) (v : Value) → roll-Value x ≡ v → (t : Ty) → in_range inbits v t ≡ in_range_step inbits (map-Value Value (Ty → Bool) (in_range inbits) x) t
  of_rolled x v e t = ap (λ w. in_range inbits w t) (sym e) ∙ ap (λ p. p t) (fold-roll-Value (Ty → Bool) (in_range_step inbits) x)

  elem_range : (e : Elem) (n : ℕ) → n < 2 ^ elem_width inbits e → in_range inbits (elem_said e n) (ty.One e) ≡ not (is_reference e)
  elem_range elem.Int n h = of_rolled (V.Int (pos n)) (value.Int (pos n)) (value.rolls-Int (pos n)) (ty.One elem.Int) ∙ lt-ltb n (2 ^ inbits) h
  elem_range elem.Bit n h = of_rolled (V.Bit (n == 1)) (value.Bit (n == 1)) (value.rolls-Bit (n == 1)) (ty.One elem.Bit)
  elem_range (elem.Reference s) n h = of_rolled V.Null value.Null value.rolls-Null (ty.One (elem.Reference s))

  abbrev all_in_range : Ty → List Value → Bool
  all_in_range t vs = list_all (λ p. p t) (map (in_range inbits) vs)

  mapped_length : (vs : List Value) → length (map (in_range inbits) vs) ≡ length vs
  mapped_length [] = refl
  mapped_length (v ∷ vs) = ap suc (mapped_length vs)

  none_yet : (b : Bool) → true ≡ not (b && nat_lt 0 0)
  none_yet true = refl
  none_yet false = refl

  one_more : (b : Bool) (n : ℕ) → (not b && not (b && nat_lt 0 n)) ≡ not (b && nat_lt 0 (suc n))
  one_more true n = let t : nat_lt 0 (suc n) ≡ true = grind (arith, nat_tests) in sym (ap not t)
  one_more false n = refl

  row_range : (e : Elem) (k : ℕ) (ns : List ℕ) → StartsBelow (replicate k (elem_width inbits e)) ns → all_in_range (ty.One e) (row_said e k ns) ≡ not (is_reference e && nat_lt 0 k)
  row_range e zero ns h = none_yet (is_reference e)
  row_range e (suc k) [] h = absurd h
  row_range e (suc k) (n ∷ ns) h =
      ap (λ b. b && all_in_range (ty.One e) (row_said e k ns)) (elem_range e n h.0)
      ∙ ap (λ b. not (is_reference e) && b) (row_range e k ns h.1)
      ∙ one_more (is_reference e) k

  row_length : (e : Elem) (k : ℕ) (ns : List ℕ) → length (row_said e k ns) ≡ k
  row_length e zero ns = refl
  row_length e (suc k) ns = ap suc (row_length e k (drop 1 ns))

  rows_length : (e : Elem) (k m : ℕ) (ns : List ℕ) → length (rows_said e k m ns) ≡ m
  rows_length e k zero ns = refl
  rows_length e k (suc m) ns = ap suc (rows_length e k m (drop k ns))

  array_range : (e : Elem) (k : ℕ) (ns : List ℕ) → StartsBelow (replicate k (elem_width inbits e)) ns → in_range inbits (value.Array (row_said e k ns)) (ty.Array e k) ≡ not (is_reference e && nat_lt 0 k)
  array_range e k ns h =
      let vs : List Value = row_said e k ns in
      of_rolled (V.Array vs) (value.Array vs) (value.rolls-Array vs) (ty.Array e k)
      ∙ ap (λ b. b && all_in_range (ty.One e) vs) (eq-eqb (length (map (in_range inbits) vs)) k (mapped_length vs ∙ row_length e k ns))
      ∙ row_range e k ns h

  both_none : (b : Bool) (k m : ℕ) → (not (b && nat_lt 0 k) && not (b && nat_lt 0 (k * m))) ≡ not (b && nat_lt 0 (k * suc m))
  both_none false k m = refl
  both_none true zero m =
      let here : 0 * m ≡ 0 = omega arith in
      let there : 0 * suc m ≡ 0 = omega arith in
      rw (here, there) refl
  both_none true (suc k) m =
      let here : nat_lt 0 (suc k) ≡ true = grind (arith, nat_tests) in
      let more : suc k * suc m ≡ suc (k + suc k * m) = omega arith in
      let there : nat_lt 0 (suc k * suc m) ≡ true = ap (nat_lt 0) more ∙ (grind (arith, nat_tests)) in
      ap (λ b. not b && not (nat_lt 0 (suc k * m))) here ∙ sym (ap not there)

  rows_range : (e : Elem) (k m : ℕ) (ns : List ℕ) → StartsBelow (replicate (k * m) (elem_width inbits e)) ns → all_in_range (ty.Array e k) (rows_said e k m ns) ≡ not (is_reference e && nat_lt 0 (k * m))
  rows_range e k zero ns h =
      let nothing : k * 0 ≡ 0 = omega arith in
      none_yet (is_reference e) ∙ ap (λ c. not (is_reference e && nat_lt 0 c)) (sym nothing)
  rows_range e k (suc m) ns h =
      let w : ℕ = elem_width inbits e in
      let more : k * suc m ≡ k + k * m = omega arith in
      let all : replicate (k * suc m) w ≡ replicate k w ++ replicate (k * m) w = ap (λ c. replicate c w) more ∙ sym (replicate-append-replicate k (k * m) w) in
      let s = starts_split (replicate k w) (replicate (k * m) w) ns (subst (λ ws. StartsBelow ws ns) all h) in
      let behind : StartsBelow (replicate (k * m) w) (drop k ns) = subst (λ c. StartsBelow (replicate (k * m) w) (drop c ns)) (length-replicate k w) s.1 in
      ap (λ b. b && all_in_range (ty.Array e k) (rows_said e k m (drop k ns))) (array_range e k ns s.0)
      ∙ ap (λ b. not (is_reference e && nat_lt 0 k) && b) (rows_range e k m (drop k ns) behind)
      ∙ both_none (is_reference e) k m

  single : (b : Bool) → not b ≡ not (b && nat_lt 0 1)
  single true = refl
  single false = refl

  value_range : (t : Ty) (ns : List ℕ) → StartsBelow (ty_widths inbits t) ns → in_range inbits (value_said t ns) t ≡ is_plain t
  value_range (ty.One e) [] h = absurd h
  value_range (ty.One e) (n ∷ ns) h = elem_range e n h.0 ∙ single (is_reference e)
  value_range (ty.Array e k) ns h = array_range e k ns h
  value_range (ty.Grid e k m) ns h =
      let vs : List Value = rows_said e k m ns in
      of_rolled (V.Array vs) (value.Array vs) (value.rolls-Array vs) (ty.Grid e k m)
      ∙ ap (λ b. b && all_in_range (ty.Array e k) vs) (eq-eqb (length (map (in_range inbits) vs)) m (mapped_length vs ∙ rows_length e k m ns))
      ∙ rows_range e k m ns h

  pub args_range : (ps : List ParamDef) (ns : List ℕ) → StartsBelow (params_widths inbits ps) ns → args_in_range inbits ps (args_said ps ns) ≡ are_plain ps
  args_range [] ns h = refl
  args_range (p ∷ ps) ns h =
      let s = starts_split (ty_widths inbits p.ty) (params_widths inbits ps) ns h in
      let behind : StartsBelow (params_widths inbits ps) (drop (numbers_of p.ty) ns) = subst (λ c. StartsBelow (params_widths inbits ps) (drop c ns)) (length-replicate (numbers_of p.ty) (elem_width inbits (elem_of p.ty))) s.1 in
      ap (λ b. b && args_in_range inbits ps (args_said ps (drop (numbers_of p.ty) ns))) (value_range p.ty ns s.0)
      ∙ ap (λ b. is_plain p.ty && b) (args_range ps (drop (numbers_of p.ty) ns) behind)

pub plain_in_range : PlainIsInRange
plain_in_range inbits params numbers h = args_range inbits params numbers h
