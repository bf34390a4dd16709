-- From the nodes of a query to what it asks for.
use Rattle.std.proofs.Common.{◌≡◌, ℕ, zero, suc, ◌<◌, ◌≤◌, All, Bool, true, ◌&&◌, ◌⊎◌, inl, inr, List, [], ◌∷◌, length, drop, replicate, get_or, slice_get, Option, Some, None, ◌↔◌, refl, sym, ap, subst, ◌∙◌, arith}
use Rattle.std.proofs.lemmas.Bool.{and_parts, ltb-true, cases_order}
use Rattle.std.proofs.lemmas.List.{append-nil}
use Rattle.std.proofs.lemmas.Option.{none-some}
use Rattle.std.proofs.lemmas.List.Elements.{All-append, All-nil}
use Rattle.sk_base.specs.declared.bounds.Bounds.{Bounds}
use Rattle.sk_dag.specs.declared.env.Env.{Env}
use Rattle.sk_dag.specs.declared.node.BoolId.{BoolId}
use Rattle.sk_dag.specs.Graph.{Graph, Grows, HasBool}
use Rattle.sk_dag.specs.Eval.{bool_value, Keeps}
use Rattle.sk_dag.proofs.EvalLemmas.{Grows-refl}
use Rattle.sk_simplify.specs.Reduct.{KeepsRoots}
use Rattle.sk_model.specs.declared.expanded.Choice.{Choice}
use Rattle.sk_model.specs.declared.expanded.Expanded.{Expanded}
use Rattle.sk_model.specs.declared.expanded.Input.{Input}
use Rattle.sk_model.specs.declared.expanded.Obligation.{Obligation}
use Rattle.sk_model.specs.declared.expanded.Site.{Site}
use Rattle.sk_model.specs.Obligations.{obligations}
use Rattle.sk_model.specs.Inputs.{IsInput}
use Rattle.sk_model.specs.Fill.{InRange, fill}
use Rattle.sk_model.specs.Meets.{Breaks, cost_on, Passes}
use Rattle.sk_expand_sites.specs.Needs.{is_narrow, are_narrow}
use Rattle.sk_prog.specs.declared.ty.Elem.{Elem}
use Rattle.sk_prog.specs.declared.ty.Elem.TheVariants as elem
use Rattle.sk_prog.specs.declared.prog.ParamDef.{ParamDef}
use Rattle.sk_prog.specs.declared.prog.Prog.{Prog}
use Rattle.sk_holes_choice_laws.specs.Meeting.{IsBrokenUnder, cost_of_obligation_under, BreaksUnder, cost_under, IsMetUnder}
use Rattle.sk_cnf.specs.declared.leaf.Leaf.{Leaf}
use Rattle.sk_cnf.specs.declared.growing.Encoded.{Encoded}
use Rattle.sk_cnf.specs.Formula.{AreTrue, IsEncoding}
use Rattle.sk_cnf.specs.Leaves.{Says}
use Rattle.sk_oblig_queries.specs.declared.query.Query.{Query}
use Rattle.sk_oblig_queries.specs.declared.query.Query.TheVariants as query
use Rattle.sk_oblig_queries.specs.Numbers.{bits_of_size, numbers_said}
use Rattle.sk_oblig_queries.specs.Widths.{elem_width, elem_of, numbers_of, ty_widths, sites_widths, params_widths, params_of, params_if, params_at, obligations_widths, numbers_before}
use Rattle.sk_oblig_queries.specs.Said.{args_said, input_said, choice_said}
use Rattle.sk_oblig_queries.specs.Queries.{IsOver, IsBad, AsksFor, bits_of_query, leaves_of_query}
use Rattle.sk_oblig_checks.specs.Outcome.{choice_of}
use Rattle.sk_oblig_laws.specs.Laws.{StartsBelow}
use Rattle.sk_oblig_laws.proofs.Saying.{holes_say, inputs_say}
use Rattle.sk_oblig_laws.proofs.Ranges.{starts_said, starts_at, has_all}
use Rattle.sk_oblig_checks.specs.Checks.{IsBadUnder}
use Rattle.sk_oblig.specs.Nodes.{SaysInRange, BadBy, SaysAllFine, BadOf, SaysAnyBad, has_inputs}
use Rattle.sk_oblig.specs.Formulas.{IsAskable, IsRoot, Puts, SaysWanted, at_most_one, env_of}
use Rattle.sk_oblig.proofs.Ranges.{both_true, fits_within, within_fits, bits_least}
use Rattle.sk_oblig.proofs.Parameters.{input_is}
use Rattle.sk_oblig.proofs.Speaking.{any_is}

-- A wanted choice

pub says_wanted : {d0 d1 d2 : Graph} {x : Expanded} {bounds : Bounds} {inputs : List Input} {limit : Option ℕ} (sites : List Site) (fine range r : BoolId) → sites ≡ x.sites → Keeps d0 d1 → Keeps d1 d2 → SaysAllFine d0 x bounds limit inputs fine → SaysInRange d1 sites range
    → HasBool d2.nodes r → ((g : Graph) → Grows d2 g → (e : Env) → bool_value g e r ≡ (bool_value g e range && bool_value g e fine))
    → SaysWanted d2 x bounds inputs limit r
says_wanted {d0} {d1} {d2} {x} {bounds} {inputs} {limit} sites fine range r same k1 k2 fine_is among there is = record {
  there = there;
  value = λ g e m below long.
      let m1 = k2.later g m in
      let range_is : SaysInRange d1 x.sites range = subst (λ (ss : List Site). SaysInRange d1 ss range) same among in
      let inside = range_is.value g e m1 below in
      let both = both_true (bool_value g e range) (bool_value g e fine) in (
        λ h.
            let p = both.0 (sym (is g m e) ∙ h) in
            let fits : InRange x (choice_of None e) = record { fits = fits_within x.sites e.choice long (inside.0 p.0) } in
            (fits, (fine_is.value g e (k1.later g m1) fits).0 p.1),
        λ h. is g m e ∙ both.1 (inside.1 (within_fits x.sites e.choice h.0.fits), (fine_is.value g e (k1.later g m1) h.0).1 h.1),
      );
}

-- What is said of runs under a choice is said of its filling

module _ {x : Expanded} {bounds : Bounds} {a : Choice} (met : IsMetUnder x a bounds) where
  pub bad_filling : (limit : Option ℕ) (input : Input) → BadBy x a bounds limit input ↔ (Breaks (fill x a) bounds input ⊎ IsOver limit (cost_on (fill x a) bounds input))
  bad_filling limit input = (forth, back)
    where
      forth : BreaksUnder x a bounds input ⊎ IsOver limit (cost_under x a bounds input) → Breaks (fill x a) bounds input ⊎ IsOver limit (cost_on (fill x a) bounds input)
      forth (inl h) = inl ((met.breaks input).1 h)
      forth (inr h) = inr (subst (IsOver limit) (sym (met.costs input)) h)

      back : Breaks (fill x a) bounds input ⊎ IsOver limit (cost_on (fill x a) bounds input) → BreaksUnder x a bounds input ⊎ IsOver limit (cost_under x a bounds input)
      back (inl h) = inl ((met.breaks input).0 h)
      back (inr h) = inr (subst (IsOver limit) (met.costs input) h)

pub passes_of : (x : Expanded) (bounds : Bounds) (a : Choice) (limit : Option ℕ) (inputs : List Input) → IsMetUnder x a bounds → All (λ input. BadBy x a bounds limit input → ⊥) inputs → Passes (fill x a) bounds inputs limit
passes_of x bounds a None inputs met h = record {
  unbroken = λ i d l b. h i d l (inl ((met.breaks (get_or inputs i d)).0 b));
  within = tt;
}
passes_of x bounds a (Some most) inputs met h = record {
  unbroken = λ i d l b. h i d l (inl ((met.breaks (get_or inputs i d)).0 b));
  within = λ i d l. not_over (cost_on (fill x a) bounds (get_or inputs i d)) (λ o. h i d l (inr (subst (λ c. most < c) (met.costs (get_or inputs i d)) o)));
}
  where
    not_over : (c : ℕ) → (most < c → ⊥) → c ≤ most
    not_over c none = by (cases_order c most)
      where
        by : (c ≡ most) ⊎ ((c < most) ⊎ (most < c)) → c ≤ most
        by (inl h) = omega (arith, h)
        by (inr (inl h)) = omega (arith, h)
        by (inr (inr h)) = absurd (none h)

pub of_passes : (x : Expanded) (bounds : Bounds) (a : Choice) (limit : Option ℕ) (inputs : List Input) → IsMetUnder x a bounds → Passes (fill x a) bounds inputs limit → All (λ input. BadBy x a bounds limit input → ⊥) inputs
of_passes x bounds a None inputs met p i d l (inl h) = p.unbroken i d l ((met.breaks (get_or inputs i d)).1 h)
of_passes x bounds a None inputs met p i d l (inr h) = h
of_passes x bounds a (Some most) inputs met p i d l (inl h) = p.unbroken i d l ((met.breaks (get_or inputs i d)).1 h)
of_passes x bounds a (Some most) inputs met p i d l (inr h) =
    let within : cost_on (fill x a) bounds (get_or inputs i d) ≤ most = p.within i d l in
    let over : most < cost_on (fill x a) bounds (get_or inputs i d) = subst (λ c. most < c) (sym (met.costs (get_or inputs i d))) h in
    absurd (omega (arith, within, over))

pub said_length : (ws : List ℕ) (bits : List Bool) → length (numbers_said ws bits) ≡ length ws
said_length [] bits = refl
said_length (w ∷ ws) bits = ap suc (said_length ws (drop w bits))

pub widths_length : (sites : List Site) → length (sites_widths sites) ≡ length sites
widths_length [] = refl
widths_length (s ∷ ss) = ap suc (widths_length ss)

pub wanted_root : {d : Graph} {x : Expanded} {bounds : Bounds} (inputs : List Input) (limit : Option ℕ) (r : BoolId) → IsAskable x bounds → SaysWanted d x bounds inputs limit r → IsRoot d x bounds (query.Wanted inputs limit) r
wanted_root {d} {x} {bounds} inputs limit r askable is = record {
  there = is.there;
  value = λ bits.
      let e : Env = env_of x bounds (query.Wanted inputs limit) bits in
      let both = is.value d e (Grows-refl d) (starts_said (sites_widths x.sites) bits) (said_length (sites_widths x.sites) bits ∙ widths_length x.sites) in (
        λ h. let p = both.0 h in record { range = p.0; passes = passes_of x bounds (choice_said x.sites bits) limit inputs (askable.met (choice_said x.sites bits) p.0) p.1 },
        λ h. both.1 (h.range, of_passes x bounds (choice_said x.sites bits) limit inputs (askable.met (choice_said x.sites bits) h.range) h.passes),
      );
}

-- An input that is asked for

module _ {x : Expanded} {bounds : Bounds} {a : Choice} {limit : Option ℕ} (askable : IsAskable x bounds) (range : InRange x a) where
  pub bad_of : (i : ℕ) (o : Obligation) (ns : List ℕ) → slice_get (obligations x.prog) i ≡ Some o → StartsBelow (params_widths bounds.inbits (params_of x.prog o)) ns → BadOf x a bounds limit o ns ↔ IsBad x bounds a limit (input_said x.prog i ns)
  bad_of i o ns at below = (forth, back)
    where
      args : args_said (params_of x.prog o) ns ≡ args_said (params_at x.prog i) ns
      args = ap (λ (ps : List ParamDef). args_said ps ns) (sym (ap (params_if x.prog) at))

      is : (has_inputs x.prog o ≡ true) ↔ IsInput x.prog bounds (input_said x.prog i ns)
      is = input_is x.prog bounds i o ns at below

      Under : Option Obligation → Type 0
      Under q = IsBrokenUnder x a bounds (args_said (params_at x.prog i) ns) q ⊎ IsOver limit (cost_of_obligation_under x a bounds (args_said (params_at x.prog i) ns) q)

      into : IsBadUnder x a bounds limit o (args_said (params_of x.prog o) ns) → BadBy x a bounds limit (input_said x.prog i ns)
      into h = subst Under (sym at) (subst (IsBadUnder x a bounds limit o) args h)

      from : BadBy x a bounds limit (input_said x.prog i ns) → IsBadUnder x a bounds limit o (args_said (params_of x.prog o) ns)
      from h = subst (IsBadUnder x a bounds limit o) (sym args) (subst Under at h)

      filling : BadBy x a bounds limit (input_said x.prog i ns) ↔ (Breaks (fill x a) bounds (input_said x.prog i ns) ⊎ IsOver limit (cost_on (fill x a) bounds (input_said x.prog i ns)))
      filling = bad_filling (askable.met a range) limit (input_said x.prog i ns)

      forth : BadOf x a bounds limit o ns → IsBad x bounds a limit (input_said x.prog i ns)
      forth h = record { is_input = is.0 h.0; bad = filling.0 (into h.1) }

      back : IsBad x bounds a limit (input_said x.prog i ns) → BadOf x a bounds limit o ns
      back h = (is.1 h.is_input, from (filling.1 h.bad))

  pub bad_root : {d : Graph} (r : BoolId) → SaysAnyBad d x a bounds limit (obligations x.prog) r → IsRoot d x bounds (query.Bad a limit) r
  bad_root {d} r is = record {
    there = is.there;
    value = λ bits.
        let ws : List ℕ = obligations_widths bounds.inbits x.prog (obligations x.prog) in
        let ns : List ℕ = numbers_said ws bits in
        let below = starts_said ws bits in
        let both = is.value d (env_of x bounds (query.Bad a limit) bits) ns (Grows-refl d) (has_all ns) below in
        let any = any_is x a bounds limit (obligations x.prog) ns in (
          λ h.
              let p = any.0 (both.0 h) in
              (p.0, (bad_of p.0 p.1 (drop (numbers_before bounds.inbits x.prog p.0) ns) p.2 (starts_at bounds.inbits x.prog (obligations x.prog) p.0 p.1 ns p.2 below)).0 p.3),
          λ h.
              let o = h.1.is_input.obligation in
              let at = h.1.is_input.is_obligation in
              both.1 (any.1 (h.0, o, at, (bad_of h.0 o (drop (numbers_before bounds.inbits x.prog h.0) ns) at (starts_at bounds.inbits x.prog (obligations x.prog) h.0 o ns at below)).1 h.1)),
        );
  }

module _ {x : Expanded} {bounds : Bounds} {a : Choice} {most : ℕ} (askable : IsAskable x bounds) (range : InRange x a) where
  pub bad_at_root : {d : Graph} (i : ℕ) (r : BoolId) → SaysAnyBad d x a bounds (Some most) (at_most_one (slice_get (obligations x.prog) i)) r → IsRoot d x bounds (query.BadAt a i most) r
  bad_at_root {d} i r is = by (slice_get (obligations x.prog) i) refl
    where
      by : (m : Option Obligation) → slice_get (obligations x.prog) i ≡ m → IsRoot d x bounds (query.BadAt a i most) r
      by None at = record {
        there = is.there;
        value = λ bits.
            let ns : List ℕ = numbers_said (params_widths bounds.inbits (params_at x.prog i)) bits in
            let here : SaysAnyBad d x a bounds (Some most) [] r = subst (λ m. SaysAnyBad d x a bounds (Some most) (at_most_one m) r) at is in
            let both = here.value d (env_of x bounds (query.BadAt a i most) bits) ns (Grows-refl d) (has_all ns) tt in
            (λ h. absurd (both.0 h), λ h. absurd (none_some at h.is_input.is_obligation));
      }
        where
          none_some : {o : Obligation} → slice_get (obligations x.prog) i ≡ None → slice_get (obligations x.prog) i ≡ Some o → ⊥
          none_some {o} e h = absurd (none-some o (e' e h))
            where
              e' : slice_get (obligations x.prog) i ≡ None → slice_get (obligations x.prog) i ≡ Some o → None ≡ Some o
              e' p q = sym p ∙ q
      by (Some o) at = record {
        there = is.there;
        value = λ bits.
            let ns : List ℕ = numbers_said (params_widths bounds.inbits (params_at x.prog i)) bits in
            let same : params_at x.prog i ≡ params_of x.prog o = ap (params_if x.prog) at in
            let below : StartsBelow (params_widths bounds.inbits (params_of x.prog o)) ns = subst (λ (ps : List ParamDef). StartsBelow (params_widths bounds.inbits ps) ns) same (starts_said (params_widths bounds.inbits (params_at x.prog i)) bits) in
            let here : SaysAnyBad d x a bounds (Some most) (o ∷ []) r = subst (λ m. SaysAnyBad d x a bounds (Some most) (at_most_one m) r) at is in
            let alone : StartsBelow (obligations_widths bounds.inbits x.prog (o ∷ [])) ns = subst (λ (ws : List ℕ). StartsBelow ws ns) (sym (append-nil (params_widths bounds.inbits (params_of x.prog o)))) below in
            let both = here.value d (env_of x bounds (query.BadAt a i most) bits) ns (Grows-refl d) (has_all ns) alone in
            let one = bad_of {limit = Some most} askable range i o ns at below in
            (λ h. one.0 (only ns (both.0 h)), λ h. both.1 (inl (one.1 h)));
      }
        where
          only : (ns : List ℕ) → BadOf x a bounds (Some most) o ns ⊎ ⊥ → BadOf x a bounds (Some most) o ns
          only ns (inl h) = h
          only ns (inr h) = absurd h

-- Widths

abbrev Narrow : List ℕ → Type 0
Narrow ws = All (λ w. w ≤ 32) ws

narrow_more : (w : ℕ) (ws : List ℕ) → w ≤ 32 → Narrow ws → Narrow (w ∷ ws)
narrow_more w ws h k zero d l = h
narrow_more w ws h k (suc i) d l = k i d (omega (arith, l))

narrow_sites : (sites : List Site) → are_narrow sites ≡ true → Narrow (sites_widths sites)
narrow_sites [] h = All-nil (λ w. w ≤ 32)
narrow_sites (s ∷ ss) h =
    let p = and_parts (is_narrow s) (are_narrow ss) h in
    let small : s.size < 4294967297 = ltb-true s.size 4294967297 p.0 in
    narrow_more (bits_of_size s.size) (sites_widths ss) (bits_least s.size 32 (omega arith) (omega (arith, small))) (narrow_sites ss p.1)

narrow_same : (n w : ℕ) → w ≤ 32 → Narrow (replicate n w)
narrow_same zero w h = All-nil (λ w. w ≤ 32)
narrow_same (suc n) w h = narrow_more w (replicate n w) h (narrow_same n w h)

narrow_elem : (inbits : ℕ) (e : Elem) → inbits ≤ 32 → elem_width inbits e ≤ 32
narrow_elem inbits elem.Int h = h
narrow_elem inbits elem.Bit h = omega arith
narrow_elem inbits (elem.Reference s) h = omega arith

narrow_params : (inbits : ℕ) (ps : List ParamDef) → inbits ≤ 32 → Narrow (params_widths inbits ps)
narrow_params inbits [] h = All-nil (λ w. w ≤ 32)
narrow_params inbits (p ∷ ps) h = All-append (λ w. w ≤ 32) (ty_widths inbits p.ty) (params_widths inbits ps) (narrow_same (numbers_of p.ty) (elem_width inbits (elem_of p.ty)) (narrow_elem inbits (elem_of p.ty) h)) (narrow_params inbits ps h)

narrow_obligations : (inbits : ℕ) (prog : Prog) (os : List Obligation) → inbits ≤ 32 → Narrow (obligations_widths inbits prog os)
narrow_obligations inbits prog [] h = All-nil (λ w. w ≤ 32)
narrow_obligations inbits prog (o ∷ os) h = All-append (λ w. w ≤ 32) (params_widths inbits (params_of prog o)) (obligations_widths inbits prog os) (narrow_params inbits (params_of prog o) h) (narrow_obligations inbits prog os h)

-- Formulas

pub says_query : (x : Expanded) (bounds : Bounds) (q : Query) (bits : List Bool) → IsAskable x bounds → length bits ≡ length (leaves_of_query x bounds q) → Says (leaves_of_query x bounds q) bits (env_of x bounds q bits)
says_query x bounds (query.Bad a limit) bits askable long =
    inputs_say (obligations_widths bounds.inbits x.prog (obligations x.prog)) bits (narrow_obligations bounds.inbits x.prog (obligations x.prog) (let h = askable.high in let k = askable.inbits in omega (arith, h, k))) long
says_query x bounds (query.BadAt a o limit) bits askable long =
    inputs_say (params_widths bounds.inbits (params_at x.prog o)) bits (narrow_params bounds.inbits (params_at x.prog o) (let h = askable.high in let k = askable.inbits in omega (arith, h, k))) long
says_query x bounds (query.Wanted inputs limit) bits askable long =
    holes_say (sites_widths x.sites) bits (narrow_sites x.sites askable.narrow) long

pub asks : {f : Encoded} {x : Expanded} {bounds : Bounds} {d : Graph} (q : Query) (r : BoolId) (leaves : List Leaf) → IsAskable x bounds → IsRoot d x bounds q r → leaves ≡ leaves_of_query x bounds q → length leaves ≡ bits_of_query x bounds q → Puts f leaves d r → AsksFor f x bounds q
asks {f} {x} {bounds} {d} q r leaves askable root is count puts = record {
  named = puts.named ∙ count;
  within = puts.within;
  distinct = puts.distinct;
  exact = λ bits long.
      let same : length bits ≡ length leaves = long ∙ sym count in
      let says : Says leaves bits (env_of x bounds q bits) = subst (λ (ls : List Leaf). Says ls bits (env_of x bounds q bits)) (sym is) (says_query x bounds q bits askable (same ∙ ap length is)) in
      let one = puts.exact bits (env_of x bounds q bits) same says in
      let two = root.value bits in
      (λ h. two.0 (one.0 h), λ h. one.1 (two.1 h));
}

-- of a simpler graph
pub puts_root : {f : Encoded} {old new : Graph} (leaves : List Leaf) (root simple : BoolId) (made : List BoolId) → KeepsRoots old (root ∷ []) new made → slice_get made 0 ≡ Some simple → IsEncoding f leaves new (simple ∷ []) → Puts f leaves old root
puts_root {f} {old} {new} leaves root simple made keeps is enc = record {
  named = enc.means.encodes.named;
  within = enc.means.encodes.within;
  distinct = enc.means.encodes.distinct;
  exact = λ bits e long says.
      let both = enc.means.said bits e long says in
      let same : bool_value new e simple ≡ bool_value old e root = keeps.value 0 root simple refl is new (Grows-refl new) e in (
        λ h. sym same ∙ both.0 h 0 simple (omega arith),
        λ h. both.1 (only simple new e (same ∙ h)),
      );
  tight = enc.tight;
}
  where
    only : (s : BoolId) (g : Graph) (e : Env) → bool_value g e s ≡ true → AreTrue g (s ∷ []) e
    only s g e h zero d l = h
    only s g e h (suc i) d l = absurd (omega (arith, l))

pub simple_there : {old new : Graph} (root simple : BoolId) (made : List BoolId) → KeepsRoots old (root ∷ []) new made → slice_get made 0 ≡ Some simple → HasBool new.nodes simple
simple_there root simple made keeps is = keeps.there 0 simple is

pub root_there : (g : Graph) (r : BoolId) → HasBool g.nodes r → All (HasBool g.nodes) (r ∷ [])
root_there g r h zero d l = h
root_there g r h (suc i) d l = absurd (omega (arith, l))

pub ruleset put = (root_there)
