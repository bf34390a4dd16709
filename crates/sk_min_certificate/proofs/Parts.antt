-- What the proofs of a certificate say of its parts.
use Rattle.std.proofs.Common.{◌≡◌, ℕ, zero, suc, ◌<◌, ◌-◌, List, [], ◌∷◌, length, slice_get, Option, Some, None, All, refl, sym, subst, ◌∙◌, arith}
use Rattle.std.specs.Prelude.{IfSome}
use Rattle.std.proofs.lemmas.List.Elements.{All-nil, All-cons}
use Rattle.sk_base.specs.declared.bounds.Bounds.{Bounds}
use Rattle.sk_model.specs.declared.expanded.Choice.{Choice}
use Rattle.sk_model.specs.declared.expanded.Expanded.{Expanded}
use Rattle.sk_model.specs.declared.expanded.Input.{Input}
use Rattle.sk_model.specs.Obligations.{obligations}
use Rattle.sk_oblig_queries.specs.declared.query.Query.TheVariants as query
use Rattle.sk_oblig_queries.specs.Queries.{AsksFor}
use Rattle.sk_cert.specs.declared.certificate.Proof.{Proof}
use Rattle.sk_cert.specs.Certificates.{FitsValue, FitsVersion, HasItsVariables}
use Rattle.sk_check_laws.specs.Parts.{lower_limit, lower_query, Refuting}
use Rattle.sk_min_certify.specs.Certified.{AreUpperOf, IsLower, IsLowerLimit}
use Rattle.sk_min_certify.specs.Proves.{Proves}

-- what holds of each at its place holds of all
all_at : (P : Proof → Type 0) (ps : List Proof) → ((o : ℕ) (p : Proof) → slice_get ps o ≡ Some p → P p) → All P ps
all_at P [] h = All-nil P
all_at P (p ∷ ps) h = All-cons P p ps (h 0 p refl) (all_at P ps (λ o q at. h (suc o) q at))

module _ (e : Expanded) (bounds : Bounds) (value : ℕ) where
  -- Upper proofs

  module _ (upper : List Proof) where
    each_upper : (P : Proof → Type 0) → ((a : Choice) (o : ℕ) (p : Proof) → Proves e bounds (query.BadAt a o value) p → P p) → (choice : Option Choice) → AreUpperOf e bounds choice value upper → All P upper
    each_upper P h None none = subst (λ (ps : List Proof). All P ps) (sym none) (All-nil P)
    each_upper P h (Some a) up = all_at P upper (λ o p at. h a o p (up.each o p at))

    pub upper_refuting : (choice : Option Choice) → AreUpperOf e bounds choice value upper → All Refuting upper
    upper_refuting = each_upper Refuting (λ a o p h. h.refutes)

    pub upper_variables : (choice : Option Choice) → AreUpperOf e bounds choice value upper → All HasItsVariables upper
    upper_variables = each_upper HasItsVariables (λ a o p h. h.variables)

    pub upper_fits : (version : ℕ) → version ≡ 2 → (choice : Option Choice) → AreUpperOf e bounds choice value upper → FitsVersion version choice upper
    upper_fits version two None none = none
    upper_fits version two (Some a) up = λ one. absurd (omega (arith, one, two))

    pub upper_counts : (version : ℕ) (choice : Option Choice) → AreUpperOf e bounds choice value upper → IfSome choice (λ a. version ≡ 2 → length upper ≡ length (obligations e.prog))
    upper_counts version None none = tt
    upper_counts version (Some a) up = λ two. up.count

  -- The lower proof

  module _ (inputs : List Input) where
    pub lower_fits : (choice : Option Choice) (lower : Option Proof) → (choice ≡ None → value ≡ 0) → IsLower e bounds choice value inputs lower → FitsValue choice value lower
    lower_fits None None free low = absurd (low None refl)
    lower_fits None (Some p) free low = (free refl, (p, refl))
    lower_fits (Some a) None free low = least value low
      where
        least : (n : ℕ) → ((limit : Option ℕ) → IsLowerLimit (Some a) n limit → ⊥) → n ≡ 0
        least zero none = refl
        least (suc w) none = absurd (none (Some (suc w - 1)) (omega arith, refl))
    lower_fits (Some a) (Some p) free low = (low.1).0

    pub lower_refuting : (choice : Option Choice) (lower : Option Proof) → IsLower e bounds choice value inputs lower → IfSome lower Refuting
    lower_refuting choice None low = tt
    lower_refuting choice (Some p) low = low.2.refutes

    pub lower_variables : (choice : Option Choice) (lower : Option Proof) → IsLower e bounds choice value inputs lower → IfSome lower HasItsVariables
    lower_variables choice None low = tt
    lower_variables choice (Some p) low = low.2.variables

    limit_is : (choice : Option Choice) (limit : Option ℕ) → IsLowerLimit choice value limit → limit ≡ lower_limit choice value
    limit_is None limit is = is
    limit_is (Some a) limit is = is.1

    pub lower_asks : (choice : Option Choice) (lower : Option Proof) → IsLower e bounds choice value inputs lower → (p : Proof) → lower ≡ Some p → AsksFor p.formula e bounds (lower_query choice value inputs)
    lower_asks choice lower low p there =
        let own : IsLower e bounds choice value inputs (Some p) = subst (λ (o : Option Proof). IsLower e bounds choice value inputs o) there low in
        subst (λ (l : Option ℕ). AsksFor p.formula e bounds (query.Wanted inputs l)) (limit_is choice own.0 own.1) own.2.asks
