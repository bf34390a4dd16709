-- Formulas that ask for the queries of a certificate.
use Rattle.std.proofs.Common.{◌≡◌, ◌≢◌, ℕ, ◌+◌, ◌<◌, ◌⊎◌, inl, inr, List, length, slice_get, Option, Some, None, sym, subst, ◌∙◌, arith}
use Rattle.std.specs.Prelude.{IfSome}
use Rattle.std.proofs.lemmas.Bool.{cases_order}
use Rattle.std.proofs.lemmas.Option.{none-some, same_Some, slice_get_within}
use Rattle.sk_base.specs.declared.bounds.Bounds.{Bounds}
use Rattle.sk_cnf.specs.declared.growing.Encoded.{Encoded}
use Rattle.sk_model.specs.declared.expanded.Choice.{Choice}
use Rattle.sk_model.specs.declared.expanded.Expanded.{Expanded}
use Rattle.sk_model.specs.declared.expanded.Input.{Input}
use Rattle.sk_model.specs.Fill.{InRange}
use Rattle.sk_model.specs.Obligations.{obligations}
use Rattle.sk_oblig_queries.specs.declared.query.Query.{Query}
use Rattle.sk_oblig_queries.specs.Queries.{AsksFor}
use Rattle.sk_oblig.specs.Formulas.{IsAsked}
use Rattle.sk_cert.specs.declared.certificate.Proof.{Proof}
use Rattle.sk_cert.specs.declared.certificate.Certificate.{Certificate}
use Rattle.sk_cert.specs.Certificates.{HasForm}
use Rattle.sk_cert_inputs.specs.Inputs.{AreListed}
use Rattle.sk_check_laws.specs.Parts.{HasFormulas, lower_query, upper_query}
use Rattle.sk_check_laws.specs.Rejected.{IsRejected}
use Rattle.sk_check_laws.specs.declared.reason.Reason.TheVariants as reason
use Rattle.sk_check.specs.Verdicts.{AskAbove, AsksAt, AsksBelow, FiveHold}

-- a formula that is the one that was made asks for what that asks
pub same_asks : (e : Expanded) (bounds : Bounds) (q : Query) (own listed : Encoded) → own ≡ listed → AsksFor own e bounds q → AsksFor listed e bounds q
same_asks e bounds q own listed same asks = subst (λ (f : Encoded). AsksFor f e bounds q) same asks

-- what the parts ask can be asked
pub lower_asked : (e : Expanded) (choice : Option Choice) (value : ℕ) (inputs : List Input) (q : Query) → q ≡ lower_query choice value inputs → IsAsked e q
lower_asked e choice value inputs q is = subst (IsAsked e) (sym is) tt

module _ (e : Expanded) (bounds : Bounds) (c : Certificate) where
  pub choice_in_range : (choice : Choice) → FiveHold e bounds c → c.choice ≡ Some choice → InRange e choice
  choice_in_range choice five is = subst (λ (o : Option Choice). IfSome o (InRange e)) is five.values

  pub upper_asked : (choice : Choice) (place : ℕ) (q : Query) (part : Proof) → HasForm c → FiveHold e bounds c → c.choice ≡ Some choice → slice_get c.upper place ≡ Some part → q ≡ upper_query c.version choice c.value place → IsAsked e q
  upper_asked choice place q part form five at there is = subst (IsAsked e) (sym is) (by form.version)
    where
      range : InRange e choice
      range = choice_in_range choice five at

      by : (c.version ≡ 1) ⊎ (c.version ≡ 2) → IsAsked e (upper_query c.version choice c.value place)
      by (inl one) = subst (λ (v : ℕ). IsAsked e (upper_query v choice c.value place)) (sym one) range
      by (inr two) =
          let counts : c.version ≡ 2 → length c.upper ≡ length (obligations e.prog) = subst (λ (o : Option Choice). IfSome o (λ (a : Choice). c.version ≡ 2 → length c.upper ≡ length (obligations e.prog))) at five.upper.counts in
          let long = counts two in
          let below = slice_get_within c.upper place part there in
          let found : place < length (obligations e.prog) = omega (arith, long, below) in
          subst (λ (v : ℕ). IsAsked e (upper_query v choice c.value place)) (sym two) (range, found)

  pub asks_at : (choice : Choice) (place : ℕ) (q : Query) (part : Proof) → slice_get c.upper place ≡ Some part → q ≡ upper_query c.version choice c.value place → AsksFor part.formula e bounds q → AsksAt e bounds c choice place
  asks_at choice place q part at is asks p there =
      let same : part ≡ p = same_Some part p (sym at ∙ there) in
      subst (λ (x : Proof). AsksFor x.formula e bounds (upper_query c.version choice c.value place)) same (subst (AsksFor part.formula e bounds) is asks)

  pub rejected_above : (choice : Choice) (place : ℕ) (q : Query) (part : Proof) (own : Encoded) → FiveHold e bounds c → c.choice ≡ Some choice → slice_get c.upper place ≡ Some part → q ≡ upper_query c.version choice c.value place → AsksFor own e bounds q → own ≢ part.formula → IsRejected e bounds c (reason.Formula own)
  rejected_above choice place q part own five is_choice at is asks other = (
    five.values,
    five.inputs,
    five.upper,
    five.lower,
    five.layout,
    inl (record { choice = choice; is_choice = is_choice; number = place; part = part; is_part = at; asks = subst (AsksFor own e bounds) is asks; differs = other }),
  )

  pub asks_below : (inputs : List Input) (q : Query) (part : Proof) → c.lower ≡ Some part → q ≡ lower_query c.choice c.value inputs → AsksFor part.formula e bounds q → AsksBelow e bounds c inputs
  asks_below inputs q part at is asks p there =
      let same : part ≡ p = same_Some part p (sym at ∙ there) in
      subst (λ (x : Proof). AsksFor x.formula e bounds (lower_query c.choice c.value inputs)) same (subst (AsksFor part.formula e bounds) is asks)

  pub rejected_below : (inputs : List Input) (q : Query) (part : Proof) (own : Encoded) → FiveHold e bounds c → AreListed e.prog bounds c.inputs inputs → c.lower ≡ Some part → q ≡ lower_query c.choice c.value inputs → AsksFor own e bounds q → own ≢ part.formula → IsRejected e bounds c (reason.Formula own)
  rejected_below inputs q part own five listed at is asks other = (
    five.values,
    five.inputs,
    five.upper,
    five.lower,
    five.layout,
    inr (record { inputs = inputs; listed = listed; part = part; is_part = at; asks = subst (AsksFor own e bounds) is asks; differs = other }),
  )

  -- one part more
  pub asks_next : (choice : Choice) (n : ℕ) → AskAbove e bounds c choice n → AsksAt e bounds c choice n → AskAbove e bounds c choice (n + 1)
  asks_next choice n so one place below = by (cases_order place n)
    where
      by : (place ≡ n) ⊎ ((place < n) ⊎ (n < place)) → AsksAt e bounds c choice place
      by (inl same) = subst (AsksAt e bounds c choice) (sym same) one
      by (inr (inl less)) = so place less
      by (inr (inr more)) = absurd (omega (arith, below, more))

  -- of a choice, and so of each that is the choice
  pub above_some : (choice : Choice) (n : ℕ) → c.choice ≡ Some choice → AskAbove e bounds c choice n → (a : Choice) → c.choice ≡ Some a → AskAbove e bounds c a n
  above_some choice n is asks a also = subst (λ (x : Choice). AskAbove e bounds c x n) (same_Some choice a (sym is ∙ also)) asks

  pub above_none : (n : ℕ) → c.choice ≡ None → (a : Choice) → c.choice ≡ Some a → AskAbove e bounds c a n
  above_none n is a also = absurd (none-some a (sym is ∙ also))

  pub below_none : (inputs : List Input) → c.lower ≡ None → AsksBelow e bounds c inputs
  below_none inputs is p also = absurd (none-some p (sym is ∙ also))

  pub all_ask : (inputs : List Input) → AreListed e.prog bounds c.inputs inputs → ((a : Choice) → c.choice ≡ Some a → AskAbove e bounds c a (length c.upper)) → AsksBelow e bounds c inputs → HasFormulas e bounds c
  all_ask inputs listed above below = record {
    inputs = inputs;
    listed = listed;
    upper = λ a is i p at. above a is i (slice_get_within c.upper i p at) p at;
    lower = below;
  }
