-- What the upper parts and the lower part of a certificate exclude.
use Rattle.std.proofs.Common.{◌≡◌, ◌⊎◌, inl, inr, ℕ, zero, suc, ◌<◌, List, [], ◌∷◌, length, slice_get, Option, Some, All, refl, subst, arith}
use Rattle.std.specs.Prelude.{IfSome}
use Rattle.std.proofs.lemmas.Option.{slice_get_within, get_or_from_slice_get}
use Rattle.sk_base.specs.declared.bounds.Bounds.{Bounds}
use Rattle.sk_clause.proofs.MeaningLemmas.{refuted}
use Rattle.sk_model.specs.declared.expanded.Choice.{Choice}
use Rattle.sk_model.specs.declared.expanded.Expanded.{Expanded}
use Rattle.sk_model.specs.declared.expanded.Input.{Input}
use Rattle.sk_model.specs.Obligations.{obligations}
use Rattle.sk_oblig_queries.specs.Queries.{AsksFor, IsBad, IsWanted}
use Rattle.sk_oblig_queries.specs.Laws.{AreSmall, CannotBeMet}
use Rattle.sk_oblig_queries.proofs.Nothing.{nothing_bad, nothing_bad_at, nothing_wanted}
use Rattle.sk_cert.specs.declared.certificate.Proof.{Proof}
use Rattle.sk_cert.specs.declared.certificate.Certificate.{Certificate}
use Rattle.sk_cert.specs.Certificates.{HasForm, FitsVersion}
use Rattle.sk_check_laws.specs.Parts.{Refuting, upper_query, lower_limit, Certifies}

pub if_some : {X : Type 0} (P : X → Type 0) (o : Option X) (x : X) → o ≡ Some x → IfSome o P → P x
if_some P o x e h = subst (λ q. IfSome q P) e h

all_at : {X : Type 0} (P : X → Type 0) (xs : List X) (i : ℕ) (x : X) → All P xs → slice_get xs i ≡ Some x → P x
all_at P xs i x all at = subst P (get_or_from_slice_get xs i x x at) (all i x (slice_get_within xs i x at))

-- there is an element at each place
at_place : {X : Type 0} (xs : List X) (i : ℕ) → i < length xs → (x : X) × (slice_get xs i ≡ Some x)
at_place [] i h = absurd (omega (arith, h))
at_place (x ∷ xs) zero h = (x, refl)
at_place (x ∷ xs) (suc i) h = at_place xs i (omega (arith, h))

never_met : (p : Proof) → Refuting p → CannotBeMet p.formula
never_met p refuting v met = refuted v p.formula.clauses.clauses p.log refuting met

module _ (e : Expanded) (bounds : Bounds) (c : Certificate) (form : HasForm c) (h : Certifies e bounds c) where
  -- the upper part with a number asks for its query, and cannot be met
  upper_at : (a : Choice) → c.choice ≡ Some a → (version : ℕ) → c.version ≡ version → (i : ℕ) → i < length c.upper → (p : Proof) × AsksFor p.formula e bounds (upper_query version a c.value i) × CannotBeMet p.formula
  upper_at a is version v i within =
      let p = at_place c.upper i within in (
        p.0,
        subst (λ k. AsksFor (p.0).formula e bounds (upper_query k a c.value i)) v (h.formulas.upper a is i p.0 p.1),
        never_met p.0 (all_at Refuting c.upper i p.0 h.upper.refuting p.1),
      )

  -- no input speaks against the choice
  pub upper_spares : (a : Choice) → c.choice ≡ Some a → (input : Input) → IsBad e bounds a (Some c.value) input → ⊥
  upper_spares a is input bad = by form.version
    where
      by : (c.version ≡ 1) ⊎ (c.version ≡ 2) → ⊥
      by (inl one) =
          let fits : FitsVersion c.version (Some a) c.upper = subst (λ o. FitsVersion c.version o c.upper) is form.upper in
          let long : length c.upper ≡ 1 = fits one in
          let p = upper_at a is 1 one 0 (omega (arith, long)) in
          nothing_bad (p.0).formula e bounds a _ p.1 p.2 input bad
      by (inr two) =
          let counts : c.version ≡ 2 → length c.upper ≡ length (obligations e.prog) = if_some (λ (b : Choice). c.version ≡ 2 → length c.upper ≡ length (obligations e.prog)) c.choice a is h.upper.counts in
          let long = counts two in
          let there = slice_get_within (obligations e.prog) input.obligation bad.is_input.obligation bad.is_input.is_obligation in
          let p = upper_at a is 2 two input.obligation (omega (arith, long, there)) in
          nothing_bad_at (p.0).formula e bounds a _ input.obligation p.1 p.2 input refl bad

  -- and no choice passes the inputs within the limit
  pub lower_denies : AreSmall e.sites → (p : Proof) → c.lower ≡ Some p → (b : Choice) → IsWanted e bounds h.formulas.inputs (lower_limit c.choice c.value) b → ⊥
  lower_denies small p is b wanted = nothing_wanted p.formula e bounds h.formulas.inputs (lower_limit c.choice c.value) small (h.formulas.lower p is) (never_met p (if_some Refuting c.lower p is h.lower)) b wanted
