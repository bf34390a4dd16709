-- The input that bits say, where it speaks against a choice.
use Rattle.std.proofs.Common.{◌≡◌, ℕ, ◌+◌, ◌<◌, ◌≤◌, ◌↔◌, ◌⊎◌, inl, inr, true, false, true≢false, Bool, List, length, drop, slice_get, Option, Some, None, is_some, ap, subst, sym, ◌∙◌, arith}
use Rattle.std.proofs.lemmas.Bool.{cases_order}
use Rattle.std.proofs.lemmas.Option.{slice_get_within}
use Rattle.sk_base.specs.declared.bounds.Bounds.{Bounds}
use Rattle.sk_prog.specs.declared.value.Value.{Value}
use Rattle.sk_prog.specs.declared.prog.ParamDef.{ParamDef}
use Rattle.sk_model.specs.declared.expanded.Choice.{Choice}
use Rattle.sk_model.specs.declared.expanded.Expanded.{Expanded}
use Rattle.sk_model.specs.declared.expanded.Input.{Input}
use Rattle.sk_model.specs.declared.expanded.Obligation.{Obligation}
use Rattle.sk_model.specs.Obligations.{obligations}
use Rattle.sk_model.specs.Fill.{InRange}
use Rattle.sk_oblig_queries.specs.declared.query.Query.{Query}
use Rattle.sk_oblig_queries.specs.declared.query.Query.TheVariants as query
use Rattle.sk_oblig_queries.specs.Numbers.{numbers_said}
use Rattle.sk_oblig_queries.specs.Widths.{params_of, params_if, params_at, obligations_widths, numbers_before}
use Rattle.sk_oblig_queries.specs.Said.{args_said}
use Rattle.sk_oblig_queries.specs.Queries.{Holds, IsBad, input_of_query}
use Rattle.sk_oblig_laws.proofs.Ranges.{starts_said, starts_at}
use Rattle.sk_oblig_checks.specs.Checks.{IsBadUnder}
use Rattle.sk_oblig.specs.Nodes.{BadOf, has_inputs}
use Rattle.sk_oblig.specs.Formulas.{IsAskable, IsSaid, IsSaidAt, NoneBefore}
use Rattle.sk_oblig.proofs.Whole.{bad_of}

-- the numbers that bits say from those of an obligation on
abbrev numbers_at : Expanded → Bounds → ℕ → List Bool → List ℕ
numbers_at x bounds i bits = drop (numbers_before bounds.inbits x.prog i) (numbers_said (obligations_widths bounds.inbits x.prog (obligations x.prog)) bits)

-- what the arguments that bits say of an obligation are to the input that they say
said_both : {x : Expanded} {bounds : Bounds} {a : Choice} {limit : Option ℕ} (i : ℕ) (o : Obligation) (bits : List Bool)
    → IsAskable x bounds → InRange x a → slice_get (obligations x.prog) i ≡ Some o → BadOf x a bounds limit o (numbers_at x bounds i bits) ↔ IsBad x bounds a limit (input_of_query x bounds (query.Bad a limit) i bits)
said_both {x} {bounds} {a} {limit} i o bits askable range at =
    let ws : List ℕ = obligations_widths bounds.inbits x.prog (obligations x.prog) in
    bad_of {x = x} {bounds = bounds} {a = a} {limit = limit} askable range i o (numbers_at x bounds i bits) at (starts_at bounds.inbits x.prog (obligations x.prog) i o (numbers_said ws bits) at (starts_said ws bits))

said_bad : {x : Expanded} {bounds : Bounds} {a : Choice} {limit : Option ℕ} (i : ℕ) (o : Obligation) (bits : List Bool)
    → IsAskable x bounds → InRange x a → slice_get (obligations x.prog) i ≡ Some o → has_inputs x.prog o ≡ true
    → IsBadUnder x a bounds limit o (input_of_query x bounds (query.Bad a limit) i bits).args
    → IsBad x bounds a limit (input_of_query x bounds (query.Bad a limit) i bits)
said_bad {x} {bounds} {a} {limit} i o bits askable range at any bad =
    let same : params_at x.prog i ≡ params_of x.prog o = ap (params_if x.prog) at in
    (said_both {x = x} {bounds = bounds} {a = a} {limit = limit} i o bits askable range at).0 (any, subst (λ (ps : List ParamDef). IsBadUnder x a bounds limit o (args_said ps (numbers_at x bounds i bits))) same bad)

said_back : {x : Expanded} {bounds : Bounds} {a : Choice} {limit : Option ℕ} (i : ℕ) (o : Obligation) (bits : List Bool)
    → IsAskable x bounds → InRange x a → slice_get (obligations x.prog) i ≡ Some o
    → IsBad x bounds a limit (input_of_query x bounds (query.Bad a limit) i bits)
    → (has_inputs x.prog o ≡ true) × IsBadUnder x a bounds limit o (input_of_query x bounds (query.Bad a limit) i bits).args
said_back {x} {bounds} {a} {limit} i o bits askable range at bad =
    let same : params_at x.prog i ≡ params_of x.prog o = ap (params_if x.prog) at in
    let p = (said_both {x = x} {bounds = bounds} {a = a} {limit = limit} i o bits askable range at).1 bad in
    (p.0, subst (λ (ps : List ParamDef). IsBadUnder x a bounds limit o (args_said ps (numbers_at x bounds i bits))) (sym same) p.1)

-- the same of an input that is said so
pub found_bad : {x : Expanded} {bounds : Bounds} {a : Choice} {limit : Option ℕ} (q : Query) (i : ℕ) (o : Obligation) (bits : List Bool) (input : Input) (args : List Value)
    → IsAskable x bounds → InRange x a → q ≡ query.Bad a limit → slice_get (obligations x.prog) i ≡ Some o → has_inputs x.prog o ≡ true
    → input ≡ input_of_query x bounds q i bits → args ≡ input.args → IsBadUnder x a bounds limit o args → IsBad x bounds a limit input
found_bad {x} {bounds} {a} {limit} q i o bits input args askable range form at any said same bad =
    let is : input ≡ input_of_query x bounds (query.Bad a limit) i bits = subst (λ (p : Query). input ≡ input_of_query x bounds p i bits) form said in
    let under : IsBadUnder x a bounds limit o (input_of_query x bounds (query.Bad a limit) i bits).args = subst (λ (n : Input). IsBadUnder x a bounds limit o n.args) is (subst (IsBadUnder x a bounds limit o) same bad) in
    subst (λ (n : Input). IsBad x bounds a limit n) (sym is) (said_bad {x = x} {bounds = bounds} {a = a} {limit = limit} i o bits askable range at any under)

-- an obligation without inputs
pub none_of : {x : Expanded} {bounds : Bounds} {a : Choice} {limit : Option ℕ} (i : ℕ) (o : Obligation) (bits : List Bool)
    → IsAskable x bounds → InRange x a → slice_get (obligations x.prog) i ≡ Some o → has_inputs x.prog o ≡ false → IsBad x bounds a limit (input_of_query x bounds (query.Bad a limit) i bits) → ⊥
none_of {x} {bounds} {a} {limit} i o bits askable range at lacks bad = true≢false (sym (said_back {x = x} {bounds = bounds} {a = a} {limit = limit} i o bits askable range at bad).0 ∙ lacks)

-- one whose arguments do not speak against the choice
pub spared : {x : Expanded} {bounds : Bounds} {a : Choice} {limit : Option ℕ} (q : Query) (i : ℕ) (o : Obligation) (bits : List Bool) (input : Input) (args : List Value) (test : Bool)
    → IsAskable x bounds → InRange x a → q ≡ query.Bad a limit → slice_get (obligations x.prog) i ≡ Some o
    → input ≡ input_of_query x bounds q i bits → args ≡ input.args → ((test ≡ true) ↔ IsBadUnder x a bounds limit o args) → test ≡ false
    → IsBad x bounds a limit (input_of_query x bounds (query.Bad a limit) i bits) → ⊥
spared {x} {bounds} {a} {limit} q i o bits input args test askable range form at said same told fails bad =
    let is : input ≡ input_of_query x bounds (query.Bad a limit) i bits = subst (λ (p : Query). input ≡ input_of_query x bounds p i bits) form said in
    let under : IsBadUnder x a bounds limit o (input_of_query x bounds (query.Bad a limit) i bits).args = (said_back {x = x} {bounds = bounds} {a = a} {limit = limit} i o bits askable range at bad).1 in
    let back : IsBadUnder x a bounds limit o args = subst (IsBadUnder x a bounds limit o) (sym same) (subst (λ (n : Input). IsBadUnder x a bounds limit o n.args) (sym is) under) in
    true≢false (sym (told.1 back) ∙ fails)

-- One obligation after another

pub none_first : (x : Expanded) (bounds : Bounds) (a : Choice) (limit : Option ℕ) (bits : List Bool) → NoneBefore x bounds a limit bits 0
none_first x bounds a limit bits o l bad = absurd (omega (arith, l))

pub none_more : (x : Expanded) (bounds : Bounds) (a : Choice) (limit : Option ℕ) (bits : List Bool) (place number : ℕ) (found : Option Input)
    → NoneBefore x bounds a limit bits place → number ≡ place → IsSaidAt x bounds a limit number bits found → is_some found ≡ false → NoneBefore x bounds a limit bits (place + 1)
none_more x bounds a limit bits place number (Some input) before is said none o l bad = true≢false none
none_more x bounds a limit bits place number None before is said none o l bad = by (cases_order o place)
  where
    by : (o ≡ place) ⊎ ((o < place) ⊎ (place < o)) → ⊥
    by (inl e) = said (subst (λ (i : ℕ). IsBad x bounds a limit (input_of_query x bounds (query.Bad a limit) i bits)) (e ∙ sym is) bad)
    by (inr (inl h)) = before o h bad
    by (inr (inr h)) = absurd (omega (arith, l, h))

pub some_found : (x : Expanded) (bounds : Bounds) (a : Choice) (limit : Option ℕ) (bits : List Bool) (number : ℕ) (found : Option Input)
    → IsSaidAt x bounds a limit number bits found → is_some found ≡ true → IsSaid x bounds a limit bits found
some_found x bounds a limit bits number (Some input) said some = said
some_found x bounds a limit bits number None said some = absurd (true≢false (sym some))

pub none_said : (x : Expanded) (bounds : Bounds) (a : Choice) (limit : Option ℕ) (bits : List Bool) (listed : List Obligation) (place : ℕ)
    → listed ≡ obligations x.prog → length listed ≤ place → NoneBefore x bounds a limit bits place → Holds x bounds (query.Bad a limit) bits → ⊥
none_said x bounds a limit bits listed place same long before holds =
    let within : holds.0 < length (obligations x.prog) = slice_get_within (obligations x.prog) holds.0 holds.1.is_input.obligation holds.1.is_input.is_obligation in
    let enough : length (obligations x.prog) ≤ place = subst (λ (os : List Obligation). length os ≤ place) same long in
    before holds.0 (omega (arith, within, enough)) holds.1

pub ruleset first = (none_first, none_more, some_found, none_said)
