-- A certificate of which each part holds is right.
use Rattle.std.proofs.Common.{◌≡◌, inl, inr, ℕ, ◌<◌, ◌-◌, List, Option, Some, None, All, refl, sym, subst, ◌∙◌, arith}
use Rattle.std.proofs.lemmas.Bool.{cases_lt}
use Rattle.sk_base.specs.declared.bounds.Bounds.{Bounds}
use Rattle.sk_model.specs.declared.expanded.Choice.{Choice}
use Rattle.sk_model.specs.declared.expanded.Expanded.{Expanded}
use Rattle.sk_model.specs.declared.expanded.Input.{Input}
use Rattle.sk_model.specs.Fill.{InRange, fill}
use Rattle.sk_model.specs.Inputs.{IsInput}
use Rattle.sk_model.specs.Meets.{IsGreatestCost}
use Rattle.sk_holes_choice_laws.specs.Meeting.{IsMetUnder}
use Rattle.sk_oblig_queries.specs.Queries.{IsWanted}
use Rattle.sk_loop_laws.specs.Shown.{Completes, NonePasses}
use Rattle.sk_loop_laws.proofs.Completing.{none_bad_completes, completes_is_wanted}
use Rattle.sk_min_laws.specs.Best.{Meeting, IsBest, greatest_on}
use Rattle.sk_min_laws.proofs.Greatest.{each_within, greatest_within, greatest_reached}
use Rattle.sk_min_laws.proofs.Bests.{best_of}
use Rattle.sk_cert.specs.declared.certificate.Proof.{Proof}
use Rattle.sk_cert.specs.Certificates.{FitsValue}
use Rattle.sk_check_laws.specs.Parts.{lower_limit}
use Rattle.sk_check_laws.specs.Right.{is_right}
use Rattle.sk_check_laws.specs.Laws.{CertificatesAreRight}
use Rattle.sk_check_laws.proofs.Spared.{if_some, upper_spares, lower_denies}

-- no choice passes the inputs within the limit
abbrev NoneWanted : Expanded → Bounds → List Input → Option ℕ → Type 0
NoneWanted e bounds inputs limit = (b : Choice) → IsWanted e bounds inputs limit b → ⊥

module _ (e : Expanded) (bounds : Bounds) (met : (b : Choice) → InRange e b → IsMetUnder e b bounds) where
  -- what none passes, none completes
  none_passes : (inputs : List Input) (limit : Option ℕ) → All (IsInput e.prog bounds) inputs → NoneWanted e bounds inputs limit → NonePasses e bounds inputs limit
  none_passes inputs limit are none = record {
    passes = none;
    completes = λ b h. none b (completes_is_wanted e bounds limit b inputs (met b h.range) h are);
  }

  -- the greatest cost on inputs is the value, where none passes them within less
  greatest_is : (a : Choice) (value : ℕ) (inputs : List Input) → All (IsInput e.prog bounds) inputs → 0 < value → Completes e bounds (Some value) a → NoneWanted e bounds inputs (Some (value - 1)) → greatest_on e bounds a inputs ≡ value
  greatest_is a value inputs are some h none =
      let wanted : IsWanted e bounds inputs (Some value) a = completes_is_wanted e bounds (Some value) a inputs (met a h.range) h are in
      let most = greatest_within e bounds a inputs value wanted.passes.within in
      elim (cases_lt (value - 1) (greatest_on e bounds a inputs)) [
        | inl above ↦ omega (arith, above, most, some)
        | inr within ↦ absurd (none a (record { range = h.range; passes = record { unbroken = wanted.passes.unbroken; within = each_within e bounds a inputs (value - 1) within } }))
      ]

  costs : (a : Choice) (value : ℕ) (inputs : List Input) → All (IsInput e.prog bounds) inputs → 0 < value → Completes e bounds (Some value) a → NoneWanted e bounds inputs (Some (value - 1)) → IsGreatestCost (fill e a) bounds value
  costs a value inputs are some h none =
      let is = greatest_is a value inputs are some h none in
      record {
        greatest = h.within;
        reached = elim (greatest_reached e bounds a (IsInput e.prog bounds) inputs are) [
          | inl nothing ↦ absurd (omega (arith, nothing, is, some))
          | inr found ↦ inr (found.0, ((met a h.range).inputs found.0).1 found.1, found.2 ∙ is)
        ];
      }

  -- with a choice
  best : (a : Choice) (value : ℕ) (lower : Option Proof) (inputs : List Input) → All (IsInput e.prog bounds) inputs → FitsValue (Some a) value lower → Completes e bounds (Some value) a → ((p : Proof) → lower ≡ Some p → NoneWanted e bounds inputs (Some (value - 1))) → IsBest e bounds a value
  best a value None inputs are fits h denies = record {
    meeting = record { range = h.range; meets = h.meets };
    costs = record { greatest = h.within; reached = inl fits };
    least = λ b m v g. omega (arith, fits);
  }
  best a value (Some p) inputs are fits h denies =
      let none = denies p refl in
      best_of e bounds a value inputs (record { range = h.range; meets = h.meets }) (costs a value inputs are fits h none) fits (none_passes inputs (Some (value - 1)) are none)

  -- without one
  none_meets : (inputs : List Input) → All (IsInput e.prog bounds) inputs → NoneWanted e bounds inputs None → (b : Choice) → Meeting e bounds b → ⊥
  none_meets inputs are none b m = (none_passes inputs None are none).completes b (record { range = m.range; meets = m.meets; within = tt })

pub certificates_are_right : CertificatesAreRight
certificates_are_right e bounds c small met form h = by c.choice refl
  where
    are : All (IsInput e.prog bounds) h.formulas.inputs
    are = h.formulas.listed.each

    denies : (choice : Option Choice) → c.choice ≡ choice → (p : Proof) → c.lower ≡ Some p → NoneWanted e bounds h.formulas.inputs (lower_limit choice c.value)
    denies choice is p there b wanted = lower_denies e bounds c form h small p there b (subst (λ o. IsWanted e bounds h.formulas.inputs (lower_limit o c.value) b) (sym is) wanted)

    by : (choice : Option Choice) → c.choice ≡ choice → is_right e bounds choice c.value
    by None is =
        let fits : FitsValue None c.value c.lower = subst (λ o. FitsValue o c.value c.lower) is form.lower in
        none_meets e bounds met h.formulas.inputs are (denies None is (fits.1).0 (fits.1).1)
    by (Some a) is =
        let range : InRange e a = if_some (InRange e) c.choice a is h.values in
        let fits : FitsValue (Some a) c.value c.lower = subst (λ o. FitsValue o c.value c.lower) is form.lower in
        best e bounds met a c.value c.lower h.formulas.inputs are fits (none_bad_completes e bounds (Some c.value) a range (met a range) (upper_spares e bounds c form h a is)) (denies (Some a) is)
