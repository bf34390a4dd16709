-- Nodes that hold where the input speaks against a choice.
use Rattle.std.proofs.Common.{◌≡◌, ℕ, zero, suc, ◌+◌, ◌-◌, ◌<◌, ◌≤◌, Bool, true, false, true≢false, ◌||◌, ◌⊎◌, inl, inr, List, [], ◌∷◌, ◌++◌, length, take, drop, get_or, slice_get, Option, Some, ◌↔◌, refl, sym, ap, subst, ◌∙◌, arith, length-append, append_assoc}
use Rattle.std.proofs.lemmas.List.{take_more, take_all, drop-drop, append-nil}
use Rattle.std.proofs.lemmas.Option.{none-some, same_Some}
use Rattle.sk_base.specs.declared.bounds.Bounds.{Bounds}
use Rattle.sk_dag.specs.declared.env.Env.{Env}
use Rattle.sk_dag.specs.declared.node.BoolId.{BoolId}
use Rattle.sk_dag.specs.declared.shape.Shape.{Shape}
use Rattle.sk_dag.specs.Graph.{Graph, Grows, HasBool}
use Rattle.sk_dag.specs.Eval.{bool_value, Keeps}
use Rattle.sk_dag.proofs.EvalLemmas.{Keeps-trans, Grows-refl}
use Rattle.sk_arr.proofs.Makers.{Keeps-refl}
use Rattle.sk_model.specs.declared.expanded.Choice.{Choice}
use Rattle.sk_model.specs.declared.expanded.Expanded.{Expanded}
use Rattle.sk_model.specs.declared.expanded.Obligation.{Obligation}
use Rattle.sk_model.specs.Fill.{InRange}
use Rattle.sk_prog.specs.declared.prog.ParamDef.{ParamDef}
use Rattle.sk_oblig_queries.specs.Widths.{params_widths, params_of, obligations_widths}
use Rattle.sk_oblig_queries.specs.Said.{args_said}
use Rattle.sk_oblig_laws.specs.Laws.{HasNumbers, StartsBelow}
use Rattle.sk_oblig_laws.proofs.Ranges.{starts_split, has_later}
use Rattle.sk_oblig_checks.specs.Arguments.{AreArguments, count_of}
use Rattle.sk_oblig_checks.specs.Checks.{IsCheck}
use Rattle.sk_oblig.specs.Nodes.{SaysBad, SaysAnyBad, BadOf, AnyBad, has_inputs}
use Rattle.sk_oblig.proofs.Parameters.{widths_count}

pub keeps_width : {a b : Graph} {w : ℕ} → Keeps a b → a.bits ≡ w → b.bits ≡ w
keeps_width {a} {b} {w} k h = (k.later b (Grows-refl b)).bits ∙ h

pub either_true : (x y : Bool) → ((x || y) ≡ true) ↔ ((x ≡ true) ⊎ (y ≡ true))
either_true true y = (λ h. inl refl, λ h. refl)
either_true false y = (λ h. inr h, back)
  where
    back : (false ≡ true) ⊎ (y ≡ true) → y ≡ true
    back (inl h) = absurd (true≢false (sym h))
    back (inr h) = h

module _ {x : Expanded} {a : Choice} {bounds : Bounds} {limit : Option ℕ} where
  -- One obligation

  pub without_inputs : {d : Graph} (o : Obligation) (first : ℕ) (r : BoolId) → has_inputs x.prog o ≡ false → HasBool d.nodes r → ((g : Graph) → Grows d g → (e : Env) → bool_value g e r ≡ false) → SaysBad d x a bounds limit o first r
  without_inputs o first r none there is = record {
    there = there;
    value = λ g e ns m has below. (λ h. absurd (true≢false (sym h ∙ is g m e)), λ h. absurd (true≢false (sym h.0 ∙ none)));
  }

  pub with_inputs : {d d0 d1 : Graph} (o : Obligation) (first : ℕ) (params : List ParamDef) (args slice : List Shape) (r : BoolId) → d.bits ≡ bounds.int_bits → bounds.inbits ≤ bounds.int_bits - 1 → InRange x a → has_inputs x.prog o ≡ true
      → params ≡ params_of x.prog o → slice ≡ args → Keeps d d0 → Keeps d0 d1 → AreArguments d0 params first args → IsCheck d1 x (Some a) bounds limit o slice r → SaysBad d1 x a bounds limit o first r
  with_inputs {d} {d0} {d1} o first params args slice r width few range has_any is same k0 k1 reads checks =
      let are : AreArguments d0 (params_of x.prog o) first args = subst (λ (ps : List ParamDef). AreArguments d0 ps first args) is reads in
      let check : IsCheck d1 x (Some a) bounds limit o args r = subst (λ (ss : List Shape). IsCheck d1 x (Some a) bounds limit o ss r) same checks in
      record {
        there = check.there;
        value = λ g e ns m has below.
            let m0 = k1.later g m in
            let bits : g.bits ≡ d.bits = (k0.later g m0).bits in
            let fits : bounds.inbits ≤ g.bits - 1 = omega (arith, bits, width, few) in
            let both = check.value g e (args_said (params_of x.prog o) ns) m range (are.worth g e ns bounds.inbits m0 fits has below) in
            (λ h. (has_any, both.0 h), λ h. both.1 h.1);
      }

-- Several

module _ (x : Expanded) (bounds : Bounds) where
  widths_push : (os : List Obligation) (o : Obligation) → obligations_widths bounds.inbits x.prog (os ++ o ∷ []) ≡ obligations_widths bounds.inbits x.prog os ++ params_widths bounds.inbits (params_of x.prog o)
  widths_push [] o = append-nil (params_widths bounds.inbits (params_of x.prog o))
  widths_push (p ∷ os) o = ap (λ ws. params_widths bounds.inbits (params_of x.prog p) ++ ws) (widths_push os o) ∙ sym (append_assoc (params_widths bounds.inbits (params_of x.prog p)) (obligations_widths bounds.inbits x.prog os) (params_widths bounds.inbits (params_of x.prog o)))

  pub place_more : (os : List Obligation) (i : ℕ) (d : Obligation) (first next : ℕ) → i < length os → first ≡ length (obligations_widths bounds.inbits x.prog (take i os)) → next ≡ first + count_of (params_of x.prog (get_or os i d)) → next ≡ length (obligations_widths bounds.inbits x.prog (take (i + 1) os))
  place_more os i d first next l before is =
      let o : Obligation = get_or os i d in
      let more : take (i + 1) os ≡ take i os ++ o ∷ [] = take_more os i d l in
      let long = ap length (ap (obligations_widths bounds.inbits x.prog) more ∙ widths_push (take i os) o) ∙ length-append (obligations_widths bounds.inbits x.prog (take i os)) (params_widths bounds.inbits (params_of x.prog o)) ∙ ap (λ c. length (obligations_widths bounds.inbits x.prog (take i os)) + c) (widths_count bounds.inbits (params_of x.prog o)) in
      is ∙ ap (λ c. c + count_of (params_of x.prog o)) before ∙ sym long

module _ (x : Expanded) (a : Choice) (bounds : Bounds) (limit : Option ℕ) where
  pushed : (p : Obligation) (os : List Obligation) (o : Obligation) (ns : List ℕ)
      → (AnyBad x a bounds limit (os ++ o ∷ []) (drop (length (params_widths bounds.inbits (params_of x.prog p))) ns) ↔ (AnyBad x a bounds limit os (drop (length (params_widths bounds.inbits (params_of x.prog p))) ns) ⊎ BadOf x a bounds limit o (drop (length (obligations_widths bounds.inbits x.prog os)) (drop (length (params_widths bounds.inbits (params_of x.prog p))) ns))))
      → AnyBad x a bounds limit (p ∷ (os ++ o ∷ [])) ns ↔ (AnyBad x a bounds limit (p ∷ os) ns ⊎ BadOf x a bounds limit o (drop (length (obligations_widths bounds.inbits x.prog (p ∷ os))) ns))
  pushed p os o ns inner = (forth, back)
    where
      ws : List ℕ
      ws = params_widths bounds.inbits (params_of x.prog p)

      vs : List ℕ
      vs = obligations_widths bounds.inbits x.prog os

      rest : List ℕ
      rest = drop (length ws) ns

      same : drop (length vs) rest ≡ drop (length (ws ++ vs)) ns
      same = drop-drop (length vs) (length ws) ns ∙ ap (λ c. drop c ns) (sym (length-append ws vs))

      on : AnyBad x a bounds limit os rest ⊎ BadOf x a bounds limit o (drop (length vs) rest) → (BadOf x a bounds limit p ns ⊎ AnyBad x a bounds limit os rest) ⊎ BadOf x a bounds limit o (drop (length (ws ++ vs)) ns)
      on (inl k) = inl (inr k)
      on (inr k) = inr (subst (BadOf x a bounds limit o) same k)

      forth : BadOf x a bounds limit p ns ⊎ AnyBad x a bounds limit (os ++ o ∷ []) rest → (BadOf x a bounds limit p ns ⊎ AnyBad x a bounds limit os rest) ⊎ BadOf x a bounds limit o (drop (length (ws ++ vs)) ns)
      forth (inl h) = inl (inl h)
      forth (inr h) = on (inner.0 h)

      back : (BadOf x a bounds limit p ns ⊎ AnyBad x a bounds limit os rest) ⊎ BadOf x a bounds limit o (drop (length (ws ++ vs)) ns) → BadOf x a bounds limit p ns ⊎ AnyBad x a bounds limit (os ++ o ∷ []) rest
      back (inl (inl h)) = inl h
      back (inl (inr h)) = inr (inner.1 (inl h))
      back (inr h) = inr (inner.1 (inr (subst (BadOf x a bounds limit o) (sym same) h)))

  any_push : (os : List Obligation) (o : Obligation) (ns : List ℕ) → AnyBad x a bounds limit (os ++ o ∷ []) ns ↔ (AnyBad x a bounds limit os ns ⊎ BadOf x a bounds limit o (drop (length (obligations_widths bounds.inbits x.prog os)) ns))
  any_push [] o ns = (forth, back)
    where
      forth : BadOf x a bounds limit o ns ⊎ ⊥ → ⊥ ⊎ BadOf x a bounds limit o ns
      forth (inl h) = inr h
      forth (inr h) = absurd h

      back : ⊥ ⊎ BadOf x a bounds limit o ns → BadOf x a bounds limit o ns ⊎ ⊥
      back (inl h) = absurd h
      back (inr h) = inl h
  any_push (p ∷ os) o ns = pushed p os o ns (any_push os o (drop (length (params_widths bounds.inbits (params_of x.prog p))) ns))

  -- what is said of any is said of the one with some number
  abbrev pub OneBad : List Obligation → List ℕ → Type 0
  OneBad os ns = (i : ℕ) × (o : Obligation) × (slice_get os i ≡ Some o) × BadOf x a bounds limit o (drop (length (obligations_widths bounds.inbits x.prog (take i os))) ns)

  indexed : (p : Obligation) (os : List Obligation) (ns : List ℕ) → (AnyBad x a bounds limit os (drop (length (params_widths bounds.inbits (params_of x.prog p))) ns) ↔ OneBad os (drop (length (params_widths bounds.inbits (params_of x.prog p))) ns)) → AnyBad x a bounds limit (p ∷ os) ns ↔ OneBad (p ∷ os) ns
  indexed p os ns inner = (forth, λ h. by h.0 h.1 h.2 h.3)
    where
      ws : List ℕ
      ws = params_widths bounds.inbits (params_of x.prog p)

      behind : (i : ℕ) → drop (length (obligations_widths bounds.inbits x.prog (take i os))) (drop (length ws) ns) ≡ drop (length (ws ++ obligations_widths bounds.inbits x.prog (take i os))) ns
      behind i = drop-drop (length (obligations_widths bounds.inbits x.prog (take i os))) (length ws) ns ∙ ap (λ c. drop c ns) (sym (length-append ws (obligations_widths bounds.inbits x.prog (take i os))))

      forth : BadOf x a bounds limit p ns ⊎ AnyBad x a bounds limit os (drop (length ws) ns) → OneBad (p ∷ os) ns
      forth (inl h) = (0, p, refl, h)
      forth (inr h) = let r = inner.0 h in (suc r.0, r.1, r.2, subst (BadOf x a bounds limit r.1) (behind r.0) r.3)

      by : (i : ℕ) (o : Obligation) → slice_get (p ∷ os) i ≡ Some o → BadOf x a bounds limit o (drop (length (obligations_widths bounds.inbits x.prog (take i (p ∷ os)))) ns) → BadOf x a bounds limit p ns ⊎ AnyBad x a bounds limit os (drop (length ws) ns)
      by zero o at h = let e : p ≡ o = same_Some p o at in inl (subst (λ (q : Obligation). BadOf x a bounds limit q ns) (sym e) h)
      by (suc i) o at h = inr (inner.1 (i, o, at, subst (BadOf x a bounds limit o) (sym (behind i)) h))

  pub any_is : (os : List Obligation) (ns : List ℕ) → AnyBad x a bounds limit os ns ↔ OneBad os ns
  any_is [] ns = (λ h. absurd h, λ h. absurd (none-some h.1 h.2))
  any_is (p ∷ os) ns = indexed p os ns (any_is os (drop (length (params_widths bounds.inbits (params_of x.prog p))) ns))

module _ {x : Expanded} {a : Choice} {bounds : Bounds} {limit : Option ℕ} where
  pub any_none : {d : Graph} (r : BoolId) → HasBool d.nodes r → ((g : Graph) → Grows d g → (e : Env) → bool_value g e r ≡ false) → SaysAnyBad d x a bounds limit [] r
  any_none r there is = record { there = there; value = λ g e ns m has below. (λ h. true≢false (sym h ∙ is g m e), λ h. absurd h) }

  pub any_more : {d0 d1 d2 : Graph} (os : List Obligation) (i : ℕ) (d : Obligation) (first : ℕ) (any one next : BoolId) → i < length os
      → first ≡ length (obligations_widths bounds.inbits x.prog (take i os)) → Keeps d0 d1 → Keeps d1 d2
      → SaysAnyBad d0 x a bounds limit (take i os) any → SaysBad d1 x a bounds limit (get_or os i d) first one
      → HasBool d2.nodes next → ((g : Graph) → Grows d2 g → (e : Env) → bool_value g e next ≡ (bool_value g e any || bool_value g e one))
      → SaysAnyBad d2 x a bounds limit (take (i + 1) os) next
  any_more {d0} {d1} {d2} os i d first any one next l place k1 k2 before last there is =
      let o : Obligation = get_or os i d in
      let more : take (i + 1) os ≡ take i os ++ o ∷ [] = take_more os i d l in
      subst (λ (qs : List Obligation). SaysAnyBad d2 x a bounds limit qs next) (sym more) (record {
        there = there;
        value = λ g e ns m has below.
            let ws : List ℕ = obligations_widths bounds.inbits x.prog (take i os) in
            let m1 = k2.later g m in
            let s = starts_split ws (params_widths bounds.inbits (params_of x.prog o)) ns (subst (λ (vs : List ℕ). StartsBelow vs ns) (widths_push x bounds (take i os) o) below) in
            let here : 0 + length ws ≡ first = omega (arith, place) in
            let behind = subst (λ c. HasNumbers e c (drop (length ws) ns)) here (has_later (length ws) has) in
            let front = before.value g e ns (k1.later g m1) has s.0 in
            let back = last.value g e (drop (length ws) ns) m1 behind s.1 in
            let both = either_true (bool_value g e any) (bool_value g e one) in
            let push = any_push x a bounds limit (take i os) o ns in (
              λ h. push.1 (sides front.0 back.0 (both.0 (sym (is g m e) ∙ h))),
              λ h. is g m e ∙ both.1 (sides front.1 back.1 (push.0 h)),
            );
      })
    where
      sides : {A B C D : Type 0} → (A → C) → (B → D) → A ⊎ B → C ⊎ D
      sides f h (inl q) = inl (f q)
      sides f h (inr q) = inr (h q)

  pub any_all : {d : Graph} (os : List Obligation) (i : ℕ) (r : BoolId) → length os ≤ i → SaysAnyBad d x a bounds limit (take i os) r → SaysAnyBad d x a bounds limit os r
  any_all {d} os i r h is = subst (λ (qs : List Obligation). SaysAnyBad d x a bounds limit qs r) (take_all i os h) is

pub ruleset several = (any_none, any_all, keeps_width, Keeps-refl, Keeps-trans)

pub ruleset one = (without_inputs, keeps_width)
