-- How runs end, by the values of nodes.
use Rattle.std.proofs.Common.{◌≡◌, ℕ, ◌<◌, ◌≤◌, Bool, true, false, true≢false, not, ◌&&◌, ◌||◌, ◌⊎◌, inl, inr, List, [], Option, Some, None, ◌↔◌, refl, sym, ap, subst, ◌∙◌, arith}
use Rattle.std.specs.Prelude.{nat_le}
use Rattle.std.proofs.lemmas.Bool.{leb-false, lt-leb}
use Rattle.sk_dag.specs.declared.env.Env.{Env}
use Rattle.sk_dag.specs.declared.node.BoolId.{BoolId}
use Rattle.sk_dag.specs.Graph.{Graph, Grows, HasBool}
use Rattle.sk_dag.specs.Eval.{bool_value, cost_value, Keeps}
use Rattle.sk_arr.proofs.Makers.{Keeps-refl}
use Rattle.sk_prog.specs.declared.value.Value.{Value}
use Rattle.sk_model.specs.declared.outcome.Outcome.{Outcome}
use Rattle.sk_model.specs.declared.outcome.Outcome.TheVariants as outcome
use Rattle.sk_model.specs.Meets.{HasFailed, SpeaksAgainst, IsDoneWith, cost_of}
use Rattle.sk_oblig_queries.specs.Queries.{IsOver}
use Rattle.sk_sym.specs.declared.outcome.SymOutcome.{SymOutcome}
use Rattle.sk_sym.specs.Outcome.{Says}
use Rattle.sk_oblig_checks.specs.Checks.{FailsOrCosts, IsThere, ResultsAgree, AllAgree, Speaks}

exceeds : (c m : ℕ) → (not (nat_le c m) ≡ true) ↔ (m < c)
exceeds c m = (λ h. leb-false c m (flipped (nat_le c m) h), λ h. ap not (lt-leb c m h))
  where
    flipped : (b : Bool) → not b ≡ true → b ≡ false
    flipped true h = absurd (true≢false (sym h))
    flipped false h = refl

pub costs_none : {d : Graph} {made : SymOutcome} → IsThere d made → FailsOrCosts d made None made.failed
costs_none {d} {made} at = record { there = at.failed; value = by }
  where
    by : (g : Graph) (e : Env) (o : Outcome) → Grows d g → Says g e made o → (bool_value g e made.failed ≡ true) ↔ (HasFailed o ⊎ IsOver None (cost_of o))
    by g e (outcome.Done v vs c) grows says = (λ h. absurd (true≢false (sym h ∙ says.failed)), λ h. none h)
      where
        none : (⊥ ⊎ ⊥) → bool_value g e made.failed ≡ true
        none (inl x) = absurd x
        none (inr x) = absurd x
    by g e (outcome.Failed span) grows says = (λ h. inl tt, λ h. says.failed)
    by g e (outcome.Skipped span) grows says = (λ h. absurd (true≢false (sym h ∙ says.failed)), λ h. none h)
      where
        none : (⊥ ⊎ ⊥) → bool_value g e made.failed ≡ true
        none (inl x) = absurd x
        none (inr x) = absurd x

pub costs_some : {d : Graph} {made : SymOutcome} (most : ℕ) (r : BoolId) → HasBool d.nodes r
    → ((g : Graph) → Grows d g → (e : Env) → bool_value g e r ≡ (bool_value g e made.failed || not (bool_value g e made.skipped || nat_le (cost_value g e made.cost) most)))
    → FailsOrCosts d made (Some most) r
costs_some {d} {made} most r there is = record { there = there; value = λ g e o grows says. by g e o says (is g grows e) }
  where
    by : (g : Graph) (e : Env) (o : Outcome) → Says g e made o → bool_value g e r ≡ (bool_value g e made.failed || not (bool_value g e made.skipped || nat_le (cost_value g e made.cost) most)) → (bool_value g e r ≡ true) ↔ (HasFailed o ⊎ IsOver (Some most) (cost_of o))
    by g e (outcome.Done v vs c) says at =
        let here : bool_value g e r ≡ not (nat_le c most) = at ∙ ap (λ b. b || not (bool_value g e made.skipped || nat_le (cost_value g e made.cost) most)) says.failed ∙ ap (λ b. not (b || nat_le (cost_value g e made.cost) most)) says.skipped ∙ ap (λ n. not (nat_le n most)) says.cost in
        (λ h. inr ((exceeds c most).0 (sym here ∙ h)), back here)
      where
        back : bool_value g e r ≡ not (nat_le c most) → (⊥ ⊎ (most < c)) → bool_value g e r ≡ true
        back here (inl x) = absurd x
        back here (inr x) = here ∙ (exceeds c most).1 x
    by g e (outcome.Failed span) says at = (λ h. inl tt, λ h. at ∙ ap (λ b. b || not (bool_value g e made.skipped || nat_le (cost_value g e made.cost) most)) says.failed)
    by g e (outcome.Skipped span) says at =
        let here : bool_value g e r ≡ false = at ∙ ap (λ b. b || not (bool_value g e made.skipped || nat_le (cost_value g e made.cost) most)) says.failed ∙ ap (λ b. not (b || nat_le (cost_value g e made.cost) most)) says.skipped in
        (λ h. absurd (true≢false (sym h ∙ here)), back)
      where
        back : (⊥ ⊎ (most < 0)) → bool_value g e r ≡ true
        back (inl x) = absurd x
        back (inr x) = absurd (omega (arith, x))

pub ruleset costing = (costs_none, costs_some, Keeps-refl)

not_both : (x y : Bool) (P Q : Type 0) → ((x ≡ true) ↔ P) → ((y ≡ true) ↔ Q) → (not (x && y) ≡ true) ↔ (P × Q → ⊥)
not_both true true P Q p q = (λ h. absurd (true≢false (sym h)), λ h. absurd (h (p.0 refl, q.0 refl)))
not_both true false P Q p q = (λ h k. true≢false (sym (q.1 k.1)), λ h. refl)
not_both false y P Q p q = (λ h k. true≢false (sym (p.1 k.0)), λ h. refl)

and_true : (b : Bool) → (b && true) ≡ b
and_true true = refl
and_true false = refl

and_false : (b : Bool) → (b && false) ≡ false
and_false true = refl
and_false false = refl

or_true : (b : Bool) → (b || true) ≡ true
or_true true = refl
or_true false = refl

module _ (g : Graph) (e : Env) (reference own : SymOutcome) (r other result refs : BoolId) where
  abbrev OtherIs : Type 0
  OtherIs = bool_value g e other ≡ ((bool_value g e own.failed || bool_value g e own.skipped) || not (bool_value g e result && bool_value g e refs))

  abbrev AgainstIs : Type 0
  AgainstIs = bool_value g e r ≡ (bool_value g e reference.failed || (bool_value g e other && not (bool_value g e reference.skipped)))

  abbrev ResultIs : Outcome → Outcome → Type 0
  ResultIs (outcome.Done v vs c) (outcome.Done w ws d) = ((bool_value g e result ≡ true) ↔ (v ≡ w)) × ((bool_value g e refs ≡ true) ↔ (vs ≡ ws))
  ResultIs _ _ = Unit {0}

  -- the other is not done with these
  is_other : (v : Option Value) (vs : List Value) (c : ℕ) (p : Outcome) → Says g e own p → OtherIs → ResultIs (outcome.Done v vs c) p → (bool_value g e other ≡ true) ↔ (IsDoneWith v vs p → ⊥)
  is_other v vs c (outcome.Done w ws d) says at same =
      let here : bool_value g e other ≡ not (bool_value g e result && bool_value g e refs) = at ∙ ap (λ b. (b || bool_value g e own.skipped) || not (bool_value g e result && bool_value g e refs)) says.failed ∙ ap (λ b. b || not (bool_value g e result && bool_value g e refs)) says.skipped in
      let both = not_both (bool_value g e result) (bool_value g e refs) (v ≡ w) (vs ≡ ws) same.0 same.1 in
      (λ h k. both.0 (sym here ∙ h) (sym k.0, sym k.1), λ h. here ∙ both.1 (λ k. h (sym k.0, sym k.1)))
  is_other v vs c (outcome.Failed span) says at same =
      (λ h k. k, λ h. at ∙ ap (λ b. (b || bool_value g e own.skipped) || not (bool_value g e result && bool_value g e refs)) says.failed)
  is_other v vs c (outcome.Skipped span) says at same =
      (λ h k. k, λ h. at ∙ ap (λ b. (b || bool_value g e own.skipped) || not (bool_value g e result && bool_value g e refs)) says.failed ∙ ap (λ b. b || not (bool_value g e result && bool_value g e refs)) says.skipped)

  is_against : (o p : Outcome) → Says g e reference o → Says g e own p → OtherIs → AgainstIs → ResultIs o p → (bool_value g e r ≡ true) ↔ SpeaksAgainst o p
  is_against (outcome.Failed span) p says own_says at against same =
      (λ h. tt, λ h. against ∙ ap (λ b. b || (bool_value g e other && not (bool_value g e reference.skipped))) says.failed)
  is_against (outcome.Skipped span) p says own_says at against same =
      let here : bool_value g e r ≡ false = against ∙ ap (λ b. b || (bool_value g e other && not (bool_value g e reference.skipped))) says.failed ∙ ap (λ b. bool_value g e other && not b) says.skipped ∙ and_false (bool_value g e other) in
      (λ h. true≢false (sym h ∙ here), λ h. absurd h)
  is_against (outcome.Done v vs c) p says own_says at against same =
      let here : bool_value g e r ≡ bool_value g e other = against ∙ ap (λ b. b || (bool_value g e other && not (bool_value g e reference.skipped))) says.failed ∙ ap (λ b. bool_value g e other && not b) says.skipped ∙ and_true (bool_value g e other) in
      let both = is_other v vs c p own_says at same in
      (λ h. both.0 (sym here ∙ h), λ h. here ∙ both.1 h)

  same_results : (d0 d1 : Graph) → Grows d0 g → Grows d1 g → ResultsAgree d0 reference.result own.result result → AllAgree d1 reference.refs own.refs refs → (o p : Outcome) → Says g e reference o → Says g e own p → ResultIs o p
  same_results d0 d1 m n x y (outcome.Done v vs c) (outcome.Done w ws d) says own_says = (x.value g e v w m says.result own_says.result, y.value g e vs ws n says.refs own_says.refs)
  same_results d0 d1 m n x y (outcome.Done v vs c) (outcome.Failed span) says own_says = tt
  same_results d0 d1 m n x y (outcome.Done v vs c) (outcome.Skipped span) says own_says = tt
  same_results d0 d1 m n x y (outcome.Failed span) p says own_says = tt
  same_results d0 d1 m n x y (outcome.Skipped span) p says own_says = tt

pub speaks : (d0 d1 d2 d3 : Graph) (reference own : SymOutcome) (r other result refs : BoolId)
    → Keeps d0 d1 → Keeps d1 d2 → Keeps d2 d3
    → ResultsAgree d0 reference.result own.result result → AllAgree d1 reference.refs own.refs refs → HasBool d3.nodes r
    → ((g : Graph) → Grows d2 g → (e : Env) → bool_value g e other ≡ ((bool_value g e own.failed || bool_value g e own.skipped) || not (bool_value g e result && bool_value g e refs)))
    → ((g : Graph) → Grows d3 g → (e : Env) → bool_value g e r ≡ (bool_value g e reference.failed || (bool_value g e other && not (bool_value g e reference.skipped))))
    → Speaks d3 reference own r
speaks d0 d1 d2 d3 reference own r other result refs k1 k2 k3 x y there other_is against_is = record {
  there = there;
  value = λ g e o p m says own_says.
      let m2 = k3.later g m in
      let m1 = k2.later g m2 in
      let m0 = k1.later g m1 in
      is_against g e reference own r other result refs o p says own_says (other_is g m2 e) (against_is g m e) (same_results g e reference own r other result refs d0 d1 m0 m1 x y o p says own_says);
}
