-- Each input has its numbers.
use Rattle.std.proofs.Common.{◌≡◌, ℕ, zero, suc, ◌+◌, ◌*◌, ◌^◌, ◌<◌, pos, negsuc, List, [], ◌∷◌, ◌++◌, map, length, drop, take, replicate, slice_get, Some, Bool, true, false, refl, sym, ap, subst, ◌∙◌, arith, append_assoc, length-append}
use Rattle.std.specs.Prelude.{◌==◌}
use Rattle.std.specs.List.{list_all}
use Rattle.std.proofs.lemmas.Bool.{and_parts, ltb-true, eqb-true}
use Rattle.std.proofs.lemmas.List.{drop_at, drop-drop, length-replicate, replicate-append-replicate}
use Rattle.std.proofs.lemmas.Option.{none-some, same_Some}
use Rattle.sk_base.specs.declared.bounds.Bounds.{Bounds}
use Rattle.sk_prog.specs.declared.ty.Elem.{Elem}
use Rattle.sk_prog.specs.declared.ty.Elem.TheVariants as elem
use Rattle.sk_prog.specs.declared.ty.Ty.{Ty}
use Rattle.sk_prog.specs.declared.ty.Ty.TheVariants as ty
use Rattle.sk_prog.specs.declared.value.Value.{Value}
use Rattle.sk_prog.specs.declared.value.Value.TheVariants as value
use Rattle.sk_prog.specs.declared.value.Value.TheOpen as V
use Rattle.sk_prog.specs.declared.value.Value.TheViews.{roll-Value}
use Rattle.sk_prog.specs.declared.value.Value.TheFolds.{map-Value, fold-roll-Value, ind-Value}
use Rattle.sk_prog.specs.declared.prog.ParamDef.{ParamDef}
use Rattle.sk_prog.specs.declared.prog.Prog.{Prog}
use Rattle.sk_model.specs.declared.expanded.Obligation.{Obligation}
use Rattle.sk_model.specs.declared.expanded.Input.{Input}
use Rattle.sk_model.specs.Inputs.{in_range, in_range_step, args_in_range, IsInput}
use Rattle.sk_oblig_queries.specs.Widths.{elem_width, elem_of, numbers_of, ty_widths, params_widths, params_of, params_of_fun, params_if, params_at, obligations_widths}
use Rattle.sk_oblig_queries.specs.Said.{elem_said, row_said, rows_said, value_said, args_said}
use Rattle.sk_oblig_queries.proofs.Spoken.{Below, zeros, zeros_below, below_length, below_append}

rolled : (v : Value) → (x : V.Value-F Value) × (roll-Value x ≡ v)
rolled = ind-Value (λ v. (x : V.Value-F Value) × (roll-Value x ≡ v)) (λ x y is. (x, refl))

module _ (inbits : ℕ) where
  -- whether a layer is in range
  abbrev layer_in_range : V.Value-F Value → Ty → Type 0
  layer_in_range x t = in_range_step inbits (map-Value Value (Ty → Bool) (in_range inbits) x) t ≡ true

  layer_of : (v : Value) (t : Ty) → in_range inbits v t ≡ true → (x : V.Value-F Value) × (roll-Value x ≡ v) × layer_in_range x t
  layer_of v t h =
      let r = rolled v in
      (r.0, r.1, sym (ap (λ p. p t) (fold-roll-Value (Ty → Bool) (in_range_step inbits) r.0)) ∙ ap (λ w. in_range inbits w t) r.1 ∙ h)

  -- a value of a type has numbers, whatever stands behind them
  abbrev HasNumbers : Ty → Value → Type 0
  HasNumbers t v = (ns : List ℕ) × Below (ty_widths inbits t) ns × ((rest : List ℕ) → value_said t (ns ++ rest) ≡ v)

  elem_layer : (e : Elem) (x : V.Value-F Value) → layer_in_range x (ty.One e) → (n : ℕ) × (n < 2 ^ elem_width inbits e) × (elem_said e n ≡ roll-Value x)
  elem_layer elem.Int (V.Int (pos n)) h = (n, ltb-true n (2 ^ inbits) h, sym (value.rolls-Int (pos n)))
  elem_layer elem.Int (V.Int (negsuc n)) h = cc
  elem_layer elem.Int (V.Bit b) h = cc
  elem_layer elem.Int V.Null h = cc
  elem_layer elem.Int (V.Place p) h = cc
  elem_layer elem.Int (V.Array vs) h = cc
  elem_layer elem.Bit (V.Bit true) h = (1, omega arith, sym (value.rolls-Bit true))
  elem_layer elem.Bit (V.Bit false) h = (0, omega arith, sym (value.rolls-Bit false))
  elem_layer elem.Bit (V.Int (pos n)) h = cc
  elem_layer elem.Bit (V.Int (negsuc n)) h = cc
  elem_layer elem.Bit V.Null h = cc
  elem_layer elem.Bit (V.Place p) h = cc
  elem_layer elem.Bit (V.Array vs) h = cc
  elem_layer (elem.Reference s) (V.Int (pos n)) h = cc
  elem_layer (elem.Reference s) (V.Int (negsuc n)) h = cc
  elem_layer (elem.Reference s) (V.Bit b) h = cc
  elem_layer (elem.Reference s) V.Null h = cc
  elem_layer (elem.Reference s) (V.Place p) h = cc
  elem_layer (elem.Reference s) (V.Array vs) h = cc

  elem_number : (e : Elem) (v : Value) → in_range inbits v (ty.One e) ≡ true → (n : ℕ) × (n < 2 ^ elem_width inbits e) × (elem_said e n ≡ v)
  elem_number e v h =
      let l = layer_of v (ty.One e) h in
      let n = elem_layer e l.0 l.2 in
      (n.0, n.1, n.2 ∙ l.1)

  -- Arrays

  abbrev all_in_range : Ty → List Value → Bool
  all_in_range t vs = list_all (λ p. p t) (map (in_range inbits) vs)

  mapped_length : (vs : List Value) → length (map (in_range inbits) vs) ≡ length vs
  mapped_length [] = refl
  mapped_length (v ∷ vs) = ap suc (mapped_length vs)

  row_numbers : (e : Elem) (vs : List Value) → all_in_range (ty.One e) vs ≡ true → (ns : List ℕ) × Below (replicate (length vs) (elem_width inbits e)) ns × ((rest : List ℕ) → row_said e (length vs) (ns ++ rest) ≡ vs)
  row_numbers e [] h = ([], tt, λ rest. refl)
  row_numbers e (v ∷ vs) h =
      let hs = and_parts (in_range inbits v (ty.One e)) (all_in_range (ty.One e) vs) h in
      let d = elem_number e v hs.0 in
      let r = row_numbers e vs hs.1 in
      (d.0 ∷ r.0, (d.1, r.1), λ rest. ap (λ x. x ∷ row_said e (length vs) (r.0 ++ rest)) d.2 ∙ ap (λ xs. v ∷ xs) (r.2 rest))

  array_layer : (e : Elem) (k : ℕ) (x : V.Value-F Value) → layer_in_range x (ty.Array e k) → HasNumbers (ty.Array e k) (roll-Value x)
  array_layer e k (V.Array vs) h =
      let hs = and_parts (length (map (in_range inbits) vs) == k) (all_in_range (ty.One e) vs) h in
      let count : length vs ≡ k = sym (mapped_length vs) ∙ eqb-true (length (map (in_range inbits) vs)) k hs.0 in
      let r = row_numbers e vs hs.1 in (
        r.0,
        subst (λ c. Below (replicate c (elem_width inbits e)) r.0) count r.1,
        λ rest. ap value.Array (ap (λ c. row_said e c (r.0 ++ rest)) (sym count) ∙ r.2 rest) ∙ sym (value.rolls-Array vs),
      )
  array_layer e k (V.Int (pos n)) h = cc
  array_layer e k (V.Int (negsuc n)) h = cc
  array_layer e k (V.Bit b) h = cc
  array_layer e k V.Null h = cc
  array_layer e k (V.Place p) h = cc

  array_numbers : (e : Elem) (k : ℕ) (v : Value) → in_range inbits v (ty.Array e k) ≡ true → HasNumbers (ty.Array e k) v
  array_numbers e k v h =
      let l = layer_of v (ty.Array e k) h in
      let n = array_layer e k l.0 l.2 in
      (n.0, n.1, λ rest. n.2 rest ∙ l.1)

  rows_numbers : (e : Elem) (k : ℕ) (vs : List Value) → all_in_range (ty.Array e k) vs ≡ true → (ns : List ℕ) × Below (replicate (k * length vs) (elem_width inbits e)) ns × ((rest : List ℕ) → rows_said e k (length vs) (ns ++ rest) ≡ vs)
  rows_numbers e k [] h =
      let none : 0 ≡ k * 0 = omega arith in
      ([], subst (λ c. Below (replicate c (elem_width inbits e)) []) none tt, λ rest. refl)
  rows_numbers e k (v ∷ vs) h =
      let hs = and_parts (in_range inbits v (ty.Array e k)) (all_in_range (ty.Array e k) vs) h in
      let w : ℕ = elem_width inbits e in
      let d = array_numbers e k v hs.0 in
      let r = rows_numbers e k vs hs.1 in
      let long : length d.0 ≡ k = below_length (replicate k w) d.0 d.1 ∙ length-replicate k w in
      let more : k + k * length vs ≡ k * suc (length vs) = omega arith in
      let all : replicate k w ++ replicate (k * length vs) w ≡ replicate (k * suc (length vs)) w = replicate-append-replicate k (k * length vs) w ∙ ap (λ c. replicate c w) more in (
        d.0 ++ r.0,
        subst (λ ws. Below ws (d.0 ++ r.0)) all (below_append (replicate k w) (replicate (k * length vs) w) d.0 r.0 d.1 r.1),
        λ rest. ap (rows_said e k (suc (length vs))) (append_assoc d.0 r.0 rest)
            ∙ ap (λ x. x ∷ rows_said e k (length vs) (drop k (d.0 ++ (r.0 ++ rest)))) (d.2 (r.0 ++ rest))
            ∙ ap (λ ns. v ∷ rows_said e k (length vs) ns) (drop_at d.0 (r.0 ++ rest) k long)
            ∙ ap (λ xs. v ∷ xs) (r.2 rest),
      )

  grid_layer : (e : Elem) (k m : ℕ) (x : V.Value-F Value) → layer_in_range x (ty.Grid e k m) → HasNumbers (ty.Grid e k m) (roll-Value x)
  grid_layer e k m (V.Array vs) h =
      let hs = and_parts (length (map (in_range inbits) vs) == m) (all_in_range (ty.Array e k) vs) h in
      let count : length vs ≡ m = sym (mapped_length vs) ∙ eqb-true (length (map (in_range inbits) vs)) m hs.0 in
      let r = rows_numbers e k vs hs.1 in (
        r.0,
        subst (λ c. Below (replicate (k * c) (elem_width inbits e)) r.0) count r.1,
        λ rest. ap value.Array (ap (λ c. rows_said e k c (r.0 ++ rest)) (sym count) ∙ r.2 rest) ∙ sym (value.rolls-Array vs),
      )
  grid_layer e k m (V.Int (pos n)) h = cc
  grid_layer e k m (V.Int (negsuc n)) h = cc
  grid_layer e k m (V.Bit b) h = cc
  grid_layer e k m V.Null h = cc
  grid_layer e k m (V.Place p) h = cc

  value_numbers : (t : Ty) (v : Value) → in_range inbits v t ≡ true → HasNumbers t v
  value_numbers (ty.One e) v h = let d = elem_number e v h in (d.0 ∷ [], (d.1, tt), λ rest. d.2)
  value_numbers (ty.Array e k) v h = array_numbers e k v h
  value_numbers (ty.Grid e k m) v h =
      let l = layer_of v (ty.Grid e k m) h in
      let n = grid_layer e k m l.0 l.2 in
      (n.0, n.1, λ rest. n.2 rest ∙ l.1)

  -- Arguments

  pub args_numbers : (ps : List ParamDef) (vs : List Value) → args_in_range inbits ps vs ≡ true → (ns : List ℕ) × Below (params_widths inbits ps) ns × ((rest : List ℕ) → args_said ps (ns ++ rest) ≡ vs)
  args_numbers [] [] h = ([], tt, λ rest. refl)
  args_numbers [] (v ∷ vs) h = cc
  args_numbers (p ∷ ps) [] h = cc
  args_numbers (p ∷ ps) (v ∷ vs) h =
      let hs = and_parts (in_range inbits v p.ty) (args_in_range inbits ps vs) h in
      let d = value_numbers p.ty v hs.0 in
      let r = args_numbers ps vs hs.1 in
      let long : length d.0 ≡ numbers_of p.ty = below_length (ty_widths inbits p.ty) d.0 d.1 ∙ length-replicate (numbers_of p.ty) (elem_width inbits (elem_of p.ty)) in (
        d.0 ++ r.0,
        below_append (ty_widths inbits p.ty) (params_widths inbits ps) d.0 r.0 d.1 r.1,
        λ rest. ap (args_said (p ∷ ps)) (append_assoc d.0 r.0 rest)
            ∙ ap (λ x. x ∷ args_said ps (drop (numbers_of p.ty) (d.0 ++ (r.0 ++ rest)))) (d.2 (r.0 ++ rest))
            ∙ ap (λ ns. v ∷ args_said ps ns) (drop_at d.0 (r.0 ++ rest) (numbers_of p.ty) long)
            ∙ ap (λ xs. v ∷ xs) (r.2 rest),
      )

  -- Obligations

  pub among_all : (prog : Prog) (os : List Obligation) (i : ℕ) (o : Obligation) → slice_get os i ≡ Some o → (ns : List ℕ) → Below (params_widths inbits (params_of prog o)) ns → (all rest : List ℕ) × Below (obligations_widths inbits prog os) all × (drop (length (obligations_widths inbits prog (take i os))) all ≡ ns ++ rest)
  among_all prog [] i o h ns below = absurd (none-some o h)
  among_all prog (p ∷ os) zero o h ns below =
      let e : p ≡ o = same_Some p o h in
      let rest : List ℕ = zeros (obligations_widths inbits prog os) in (
        ns ++ rest,
        rest,
        below_append (params_widths inbits (params_of prog p)) (obligations_widths inbits prog os) ns rest (subst (λ q. Below (params_widths inbits (params_of prog q)) ns) (sym e) below) (zeros_below (obligations_widths inbits prog os)),
        refl,
      )
  among_all prog (p ∷ os) (suc i) o h ns below =
      let r = among_all prog os i o h ns below in
      let ws : List ℕ = params_widths inbits (params_of prog p) in
      let before : List ℕ = obligations_widths inbits prog (take i os) in
      let long : length (zeros ws) ≡ length ws = below_length ws (zeros ws) (zeros_below ws) in (
        zeros ws ++ r.0,
        r.1,
        below_append ws (obligations_widths inbits prog os) (zeros ws) r.0 (zeros_below ws) r.2,
        ap (λ k. drop k (zeros ws ++ r.0)) (length-append ws before)
            ∙ sym (drop-drop (length before) (length ws) (zeros ws ++ r.0))
            ∙ ap (drop (length before)) (drop_at (zeros ws) r.0 (length ws) long)
            ∙ r.3,
      )

-- what the function takes of the obligation of an input
pub params_of_input : (prog : Prog) (bounds : Bounds) (input : Input) (is : IsInput prog bounds input) → (params_of prog is.obligation ≡ is.fun.params) × (params_at prog input.obligation ≡ params_of prog is.obligation)
params_of_input prog bounds input is = (ap params_of_fun is.is_fun, ap (params_if prog) is.is_obligation)
